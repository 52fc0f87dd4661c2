-- More depth changes no answer but that it was too little. So each list of tokens spells one
-- expression at most.
use Rattle.std.proofs.Common.{◌≡◌, ℕ, zero, suc, ◌+◌, Bool, true, false, cond, List, ◌∷◌, length, Option, Some, None, Result, Ok, Err, refl, sym, subst, ◌∙◌, ◌⊎◌, inl, inr, ◌≢◌, arith, add_comm, zero-add}
use Rattle.std.specs.Prelude.{IfErr}
use Rattle.vet_rules.specs.declared.expression.Connective.{Connective}
use Rattle.vet_rules.specs.declared.expression.Connective.TheVariants.{Or, Xor, And}
use Rattle.vet_rules.specs.declared.expression.HowMany.{HowMany}
use Rattle.vet_rules.specs.declared.expression.HowMany.TheVariants as quantifiers
use Rattle.vet_rules.specs.declared.fixed.Fixed.{Fixed}
use Rattle.vet_rules.specs.declared.fixed.Fixed.TheVariants as fixed
use Rattle.vet_rules.specs.declared.error.Expected.{Expected}
use Rattle.vet_rules.specs.declared.error.Expected.TheVariants as expected
use Rattle.vet_rules.specs.declared.error.Reason.TheVariants.{TooDeep}
use Rattle.vet_rules.specs.declared.stop.Stop.{Stop}
use Rattle.vet_rules.specs.declared.stop.ReadError.{ReadError}
use Rattle.vet_rules.specs.declared.stop.ReadError.TheVariants as errors
use Rattle.vet_rules.specs.declared.expression.Expression.{Expression}
use Rattle.vet_rules.specs.Signs as signs
use Rattle.vet_rules.specs.Signs.{Sign}
use Rattle.vet_rules.specs.Trees.{tree_of, Tree, Not, Implies, Quantified, AtLeast}
use Rattle.vet_rules.specs.Trees.{trees_of}
use Rattle.vet_rules.specs.Grammar.{Level, By, Single, Whole, Premise, path_in, IsSpelled}
use Rattle.vet_rules.specs.Answers.{◌>>=◌, Gives, IsSyntax}
use Rattle.vet_rules.specs.Reading.{Reader, Answer, next_word, after, one_at, count_at, with_next, parts_at, row_at, test_at, keys_at, join, chain, listed, counted_by, counted, threshold, begun_by, single, loosest, implication, begins, fails, whole_by, whole, at_level, below, ended, all_of}
use Rattle.vet_rules.specs.Reading as reading
use Rattle.vet_rules.proofs.Loop.{ok_is}
use Rattle.vet_rules.proofs.Complete.{spelled_again}

-- the same answer, unless the depth was too little
abbrev Persists : {A : Type 0} → Result A Stop → Result A Stop → Type 0
Persists (Ok x) s = s ≡ Ok x
Persists (Err f) s = (f.reason ≡ TooDeep) ⊎ (s ≡ Err f)

persists_same : {A : Type 0} (r : Result A Stop) → Persists r r
persists_same (Ok x) = refl
persists_same (Err f) = inr refl

persists_then : {A B : Type 0} (r s : Result A Stop) (f g : A → Result B Stop) → Persists r s → ((x : A) → Persists (f x) (g x)) → Persists (r >>= f) (s >>= g)
persists_then {A = A} {B = B} (Ok x) s f g p h = subst (λ (t : Result A Stop). Persists (f x) (t >>= g)) (sym p) (h x)
persists_then (Err e) s f g (inl p) h = inl p
persists_then (Err e) s f g (inr p) h = inr (rw p refl)

module _ (f g : List Sign → Answer) (h : (ts : List Sign) → Persists (f ts) (g ts)) where
  next_persists : (go to : Reader (List Tree)) → ((ts : List Sign) → Persists (go ts) (to ts)) → (ts : List Sign) (o : Option (List Sign)) → Persists (with_next f go ts o) (with_next g to ts o)
  next_persists go to p ts None = refl
  next_persists go to p ts (Some us) =
      persists_then (f us) (g us) (λ a. go a.1 >>= λ x. Ok (a.0 ∷ x.0, x.1)) (λ a. to a.1 >>= λ x. Ok (a.0 ∷ x.0, x.1)) (h us)
      (λ a. persists_then (go a.1) (to a.1) (λ x. Ok (a.0 ∷ x.0, x.1)) (λ x. Ok (a.0 ∷ x.0, x.1)) (p a.1) (λ x. refl))

  parts_persist : (s : Fixed) (k : ℕ) (ts : List Sign) → Persists (parts_at k s f ts) (parts_at k s g ts)
  unfolding parts_at
  parts_persist s zero ts = refl
  parts_persist s (suc k) ts = next_persists (parts_at k s f) (parts_at k s g) (parts_persist s k) ts (next_word s ts)

  -- a part, the parts that follow, and what is made of them
  row_persists : {B : Type 0} (s : Fixed) (made : Tree → List Tree × List Sign → Result B Stop) (ts : List Sign) → Persists (f ts >>= λ a. parts_at (length a.1) s f a.1 >>= made a.0) (g ts >>= λ a. parts_at (length a.1) s g a.1 >>= made a.0)
  row_persists s made ts =
      persists_then (f ts) (g ts) (λ a. parts_at (length a.1) s f a.1 >>= made a.0) (λ a. parts_at (length a.1) s g a.1 >>= made a.0) (h ts)
      (λ a. persists_then (parts_at (length a.1) s f a.1) (parts_at (length a.1) s g a.1) (made a.0) (made a.0) (parts_persist s (length a.1) a.1) (λ x. persists_same (made a.0 x)))

  chain_persists : (c : Connective) (ts : List Sign) → Persists (chain c f ts) (chain c g ts)
  unfolding chain
  chain_persists c ts = row_persists (fixed.Join c) (λ e x. Ok (join c e x.0, x.1)) ts

module _ (d e : Level → List Sign → Answer) (h : (l : Level) (ts : List Sign) → Persists (d l ts) (e l ts)) where
  group_persists : (ts : List Sign) → Persists (reading.group d ts) (reading.group e ts)
  unfolding reading.group
  group_persists ts = persists_then (d Whole ts) (e Whole ts) (λ y. after fixed.Close expected.Close y.1 >>= λ rest. Ok (y.0, rest)) (λ y. after fixed.Close expected.Close y.1 >>= λ rest. Ok (y.0, rest)) (h Whole ts)
      (λ y. persists_same (after fixed.Close expected.Close y.1 >>= λ rest. Ok (y.0, rest)))

  quantified_persists : (y : Expected) (q : HowMany) (ts : List Sign) → Persists (reading.quantified d y q ts) (reading.quantified e y q ts)
  unfolding reading.quantified
  quantified_persists y q ts =
      persists_then (one_at path_in y ts) (one_at path_in y ts) (λ p. after fixed.Open expected.Open p.1 >>= λ us. reading.group d us >>= λ z. Ok (Quantified q p.0 z.0, z.1)) (λ p. after fixed.Open expected.Open p.1 >>= λ us. reading.group e us >>= λ z. Ok (Quantified q p.0 z.0, z.1)) (persists_same (one_at path_in y ts))
      (λ p. persists_then (after fixed.Open expected.Open p.1) (after fixed.Open expected.Open p.1) (λ us. reading.group d us >>= λ z. Ok (Quantified q p.0 z.0, z.1)) (λ us. reading.group e us >>= λ z. Ok (Quantified q p.0 z.0, z.1)) (persists_same (after fixed.Open expected.Open p.1))
      (λ us. persists_then (reading.group d us) (reading.group e us) (λ z. Ok (Quantified q p.0 z.0, z.1)) (λ z. Ok (Quantified q p.0 z.0, z.1)) (group_persists us) (λ z. refl)))

  listed_persists : (k : ℕ) (ts : List Sign) → Persists (listed d k ts) (listed e k ts)
  unfolding listed row_at
  listed_persists k ts =
      persists_then (after fixed.Open expected.Open ts) (after fixed.Open expected.Open ts) (λ us. row_at fixed.Close expected.PartsGoOn (d Whole) us >>= λ x. Ok (AtLeast k (trees_of x.0), x.1)) (λ us. row_at fixed.Close expected.PartsGoOn (e Whole) us >>= λ x. Ok (AtLeast k (trees_of x.0), x.1)) (persists_same (after fixed.Open expected.Open ts))
      (λ us. persists_then (row_at fixed.Close expected.PartsGoOn (d Whole) us) (row_at fixed.Close expected.PartsGoOn (e Whole) us) (λ x. Ok (AtLeast k (trees_of x.0), x.1)) (λ x. Ok (AtLeast k (trees_of x.0), x.1))
      (row_persists (d Whole) (e Whole) (h Whole) fixed.Comma (λ f x. after fixed.Close expected.PartsGoOn x.1 >>= λ rest. Ok (f ∷ x.0, rest)) us) (λ x. refl))

  counted_persists : (k : ℕ) (ts : List Sign) (o : Option (List Sign)) → Persists (counted_by d k ts o) (counted_by e k ts o)
  counted_persists k ts (Some us) = listed_persists k us
  counted_persists k ts None = quantified_persists expected.Counted (quantifiers.AtLeast k) ts

  threshold_persists : (ts : List Sign) → Persists (threshold d ts) (threshold e ts)
  unfolding threshold counted
  threshold_persists ts =
      persists_then (after fixed.Least expected.Least ts) (after fixed.Least expected.Least ts) (λ us. count_at us >>= λ k. counted d k.0 k.1) (λ us. count_at us >>= λ k. counted e k.0 k.1) (persists_same (after fixed.Least expected.Least ts))
      (λ us. persists_then (count_at us) (count_at us) (λ k. counted d k.0 k.1) (λ k. counted e k.0 k.1) (persists_same (count_at us)) (λ k. counted_persists k.0 k.1 (next_word fixed.Of k.1)))

  begun_persists : (f : Fixed) (ts : List Sign) → Persists (begun_by d f ts) (begun_by e f ts)
  unfolding begun_by
  begun_persists fixed.Not ts = persists_then (d Single ts) (e Single ts) (λ y. Ok (Not y.0, y.1)) (λ y. Ok (Not y.0, y.1)) (h Single ts) (λ y. refl)
  begun_persists fixed.Open ts = group_persists ts
  begun_persists fixed.Each ts = quantified_persists expected.Path quantifiers.Each ts
  begun_persists fixed.Any ts = quantified_persists expected.Path quantifiers.Any ts
  begun_persists fixed.At ts = threshold_persists ts
  begun_persists fixed.Keys ts = persists_same (keys_at ts)
  begun_persists f ts = inr refl

  single_persists : (ts : List Sign) → Persists (single d ts) (single e ts)
  unfolding single
  single_persists (signs.Word f ∷ ts) = begun_persists f ts
  single_persists ts = persists_same (test_at ts)

  loosest_persists : (ts : List Sign) → Persists (loosest d ts) (loosest e ts)
  loosest_persists = chain_persists (chain Xor (chain And (single d))) (chain Xor (chain And (single e))) (chain_persists (chain And (single d)) (chain And (single e)) (chain_persists (single d) (single e) single_persists And) Xor) Or

  implication_persists : (ts : List Sign) → Persists (implication d ts) (implication e ts)
  unfolding implication
  implication_persists ts =
      persists_then (d Premise ts) (e Premise ts) (λ y. after fixed.Then expected.Then y.1 >>= λ us. d Whole us >>= λ z. Ok (Implies y.0 z.0, z.1)) (λ y. after fixed.Then expected.Then y.1 >>= λ us. e Whole us >>= λ z. Ok (Implies y.0 z.0, z.1)) (h Premise ts)
      (λ y. persists_then (after fixed.Then expected.Then y.1) (after fixed.Then expected.Then y.1) (λ us. d Whole us >>= λ z. Ok (Implies y.0 z.0, z.1)) (λ us. e Whole us >>= λ z. Ok (Implies y.0 z.0, z.1)) (persists_same (after fixed.Then expected.Then y.1))
      (λ us. persists_then (d Whole us) (e Whole us) (λ z. Ok (Implies y.0 z.0, z.1)) (λ z. Ok (Implies y.0 z.0, z.1)) (h Whole us) (λ z. refl)))

  whole_by_persists : (ts : List Sign) (o : Option (List Sign)) → Persists (whole_by d ts o) (whole_by e ts o)
  whole_by_persists ts (Some us) = implication_persists us
  whole_by_persists ts None = by_front (begins ts)
    where
      by_front : (b : Bool) → Persists (cond b (loosest d ts) (fails expected.Whole ts)) (cond b (loosest e ts) (fails expected.Whole ts))
      by_front true = loosest_persists ts
      by_front false = inr refl

  whole_persists : (ts : List Sign) → Persists (whole d ts) (whole e ts)
  unfolding whole
  whole_persists ts = whole_by_persists ts (next_word fixed.If ts)

  level_persists : (l : Level) (ts : List Sign) → Persists (at_level d l ts) (at_level e l ts)
  unfolding at_level
  level_persists Single ts = single_persists ts
  level_persists (By And) ts = chain_persists (single d) (single e) single_persists And ts
  level_persists (By Xor) ts = chain_persists (chain And (single d)) (chain And (single e)) (chain_persists (single d) (single e) single_persists And) Xor ts
  level_persists (By Or) ts = loosest_persists ts
  level_persists Whole ts = whole_persists ts
  level_persists Premise ts = h Whole ts

below_persists : (n : ℕ) (l : Level) (ts : List Sign) → Persists (below n l ts) (below (suc n) l ts)
unfolding below
below_persists zero l ts = inl refl
below_persists (suc n) l ts = level_persists (below n) (below (suc n)) (below_persists n) l ts

all_persists : (n : ℕ) (ts : List Sign) → Persists (all_of n ts) (all_of (suc n) ts)
unfolding all_of
all_persists n ts = persists_then (below (suc n) Whole ts) (below (suc (suc n)) Whole ts) ended ended (below_persists (suc n) Whole ts) (λ x. persists_same (ended x))

-- k more
ok_stays : (k n : ℕ) (ts : List Sign) (e : Tree) → all_of n ts ≡ Ok e → all_of (k + n) ts ≡ Ok e
ok_stays zero n ts e h = rw zero-add h
ok_stays (suc k) n ts e h =
    let more : all_of (suc (k + n)) ts ≡ Ok e = subst (λ (r : Result Tree Stop). Persists r (all_of (suc (k + n)) ts)) (ok_stays k n ts e h) (all_persists (k + n) ts) in
    let count : suc k + n ≡ suc (k + n) = omega arith in
    rw count more

fault_stays : (k n : ℕ) (ts : List Sign) (f : Stop) → f.reason ≢ TooDeep → all_of n ts ≡ Err f → all_of (k + n) ts ≡ Err f
fault_stays zero n ts f other h = rw zero-add h
fault_stays (suc k) n ts f other h =
    let more : (f.reason ≡ TooDeep) ⊎ (all_of (suc (k + n)) ts ≡ Err f) = subst (λ (r : Result Tree Stop). Persists r (all_of (suc (k + n)) ts)) (fault_stays k n ts f other h) (all_persists (k + n) ts) in
    let count : suc k + n ≡ suc (k + n) = omega arith in
    rw count (elim more [ inl bad ↦ absurd (other bad) | inr good ↦ good ])

pub one_tree : (n m : ℕ) (ts : List Sign) (e f : Tree) → IsSpelled n ts e → IsSpelled m ts f → e ≡ f
one_tree n m ts e f p q =
    let a = ok_stays m n ts e (spelled_again n ts e p) in
    let b = ok_stays n m ts f (spelled_again m ts f q) in
    let b' : all_of (m + n) ts ≡ Ok f = subst (λ (k : ℕ). all_of k ts ≡ Ok f) (add_comm n m) b in
    ok_is e f (sym a ∙ b')

no_tree : (n m : ℕ) (ts : List Sign) (f : Stop) (e : Tree) → f.reason ≢ TooDeep → all_of n ts ≡ Err f → IsSpelled m ts e → ⊥
no_tree n m ts f e other h q =
    let a = fault_stays m n ts f other h in
    let b : all_of (m + n) ts ≡ Ok e = subst (λ (k : ℕ). all_of k ts ≡ Ok e) (add_comm n m) (ok_stays n m ts e (spelled_again m ts e q)) in
    let c : ◌≡◌ {A = Result Tree Stop} (Err f) (Ok e) = sym a ∙ b in
    cc

pub none_spelled : (n : ℕ) (ts : List Sign) (r : Result Expression ReadError) → Gives tree_of r (all_of n ts) → IfErr r (λ e. IsSyntax e → (m : ℕ) (t : Tree) → IsSpelled m ts t → ⊥)
none_spelled n ts (Ok e) given = tt
none_spelled n ts (Err errors.Memory) given = λ bad. absurd bad
none_spelled n ts (Err (errors.Stopped f)) given = λ other m t q. no_tree n m ts f t other given q
