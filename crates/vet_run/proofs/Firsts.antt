-- The block of the first record that breaks each rule, rule after rule and line after line.
use Rattle.std.proofs.Common.{◌≡◌, ◌≢◌, ℕ, zero, suc, ◌+◌, ◌<◌, ◌≤◌, ◌||◌, Bool, true, false, not, List, [], ◌∷◌, ◌++◌, Option, None, length, map, take, get_or, set, refl, sym, ap, ◌∙◌, subst, arith, length-set, ⊎_elim}
use Rattle.std.specs.Prelude.{◌==◌, ◌&&◌, cond}
use Rattle.std.proofs.lemmas.Bool.Decides.{nat_tests}
use Rattle.std.proofs.lemmas.List.{get_or-map, get_or-set_same, get_or-set_other, length-map, map-set}
use Rattle.serde_json.specs.Data.{Data}
use Rattle.predicates_core.specs.Formula.{truth}
use Rattle.predicates_core.specs.Shows.{Explains}
use Rattle.vet_checks.specs.declared.rule_check.RuleCheck.{RuleCheck}
use Rattle.vet_run.specs.FirstBlocks.{TakesFirst, TakesFirsts, TakesOn, AreFirsts, block_at}
use Rattle.vet_run.specs.InputLines.{record_taken}
use Rattle.vet_run.specs.Judgements.{Placed, placed, broken_from, asks_all, TakesAt, TakesEach}
use Rattle.vet_run.specs.Records.{AddsShown, IsBlockOf, formula_on, shown}
use Rattle.vet_run.specs.Settings.{shows_all}
use Rattle.vet_run.specs.declared.job.Job.{Job}
use Rattle.vet_run.specs.declared.judgement.Broken.{Broken}
use Rattle.vet_run.specs.declared.record.Shown.{Shown}
use Rattle.vet_run.specs.declared.settings.Report.{Report}
use Rattle.vet_run.proofs.Counted.{or_true}
use Rattle.vet_run.proofs.Judging.{placed_more}

module _ (j : Job) (number : ℕ) (d : Data) where
  -- ---- one rule

  pub takes_later : (r : RuleCheck) (old : List ℕ) → (length old == 0) ≡ false → TakesFirst j r number d old old
  takes_later r old some = record {
    has = λ h. refl;
    keeps = λ h. refl;
    breaks = λ none h. let apart : true ≡ false = ap (λ (z : List ℕ). length z == 0) (sym none) ∙ some in absurd (cc);
  }

  kept_has : (r : RuleCheck) (old : List ℕ) → truth (formula_on d r) ≡ true → TakesFirst j r number d old old
  kept_has r old held = record {
    has = λ h. refl;
    keeps = λ h. refl;
    breaks = λ none h. let apart : true ≡ false = sym held ∙ h in absurd (cc);
  }

  pub takes_broken : (r : RuleCheck) (old new : List ℕ) (before cases : List Shown)
      → truth (formula_on d r) ≡ false → AddsShown Explains d r before cases → before ≡ [] → (length old == 0) ≡ true
      → IsBlockOf j number d cases new → TakesFirst j r number d old new
  takes_broken r old new before cases broken h none empty is = ⊎_elim
      (λ a. record {
        has = λ some. absurd (let short : length old ≡ 0 = grind (arith, nat_tests, empty) in omega (arith, short, some));
        keeps = λ held. absurd (let apart : true ≡ false = sym held ∙ broken in cc);
        breaks = λ nothing fails. record {
          case = a.0;
          explains = a.2;
          is = subst (λ cs. IsBlockOf j number d cs new) (a.1 ∙ ap (λ cs. cs ++ a.0 ∷ []) none) is;
        };
      })
      (λ b. let apart : true ≡ false = sym (b.1.at (formula_on d r) (record { is = refl })) ∙ broken in absurd (cc))
      h

  -- ---- rule after rule

  -- a rule without a place, and one with its place
  pub not_placed : (b : Placed) (blocks : List (List ℕ)) → length blocks ≤ b.0 → TakesAt j number d b blocks blocks
  not_placed b blocks past = record {
    long = refl;
    here = λ within. absurd (omega (arith, past, within));
    others = λ k apart. refl;
  }

  pub is_placed : {X : Type 0} (f : X → List ℕ) (b : Placed) (old new : List X) (x s : X) → b.0 < length old → x ≡ get_or old b.0 x → new ≡ set old b.0 s
      → TakesFirst j b.1 number d (f x) (f s) → TakesAt j number d b (map f old) (map f new)
  is_placed f b old new x s within was e taken =
      let now : map f new ≡ set (map f old) b.0 (f s) = ap (map f) e ∙ map-set f old b.0 s in
      let before : f x ≡ block_at (map f old) b.0 = ap f was ∙ sym (get_or-map f old b.0 x [] within) in
      let after : f s ≡ block_at (map f new) b.0 =
      sym (ap (λ (z : List (List ℕ)). block_at z b.0) now ∙ get_or-set_same (map f old) b.0 (f s) [] (omega (arith, within, length-map old f))) in
      record {
        long = length-map new f ∙ ap length e ∙ length-set old b.0 s ∙ sym (length-map old f);
        here = λ h. subst (TakesFirst j b.1 number d (block_at (map f old) b.0)) after (subst (λ z. TakesFirst j b.1 number d z (f s)) before taken);
        others = λ k apart. ap (λ (z : List (List ℕ)). block_at z k) now ∙ get_or-set_other (map f old) b.0 k (f s) [] apart;
      }

  each_taken : (bs : List Placed) (b : Placed) (old now new : List (List ℕ)) → TakesEach j number d bs old now → TakesAt j number d b now new
      → TakesEach j number d (bs ++ b ∷ []) old new
  each_taken [] b old now new h one = (new, subst (λ z. TakesAt j number d b z new) h one, refl)
  each_taken (x ∷ bs) b old now new h one = (h.0, h.1, each_taken bs b h.0 now new h.2 one)

  pub one_taken : (bs : List Broken) (k : ℕ) (b : Broken) (old now new : List (List ℕ)) → k < length bs → b ≡ get_or bs k b
      → TakesEach j number d (map placed (take k bs)) old now → TakesAt j number d (placed b) now new → TakesEach j number d (map placed (take (k + 1) bs)) old new
  one_taken bs k b old now new within is h one =
      subst (λ z. TakesEach j number d z old new) (sym (placed_more bs k b within is)) (each_taken (map placed (take k bs)) (placed b) old now new h one)

  -- of the rules from this place on each has taken the record, and those before it have what they had
  record AreTaken (place : ℕ) (us : List RuleCheck) (old new : List (List ℕ)) : Type 0 where
    long : length new ≡ length old
    before : (k : ℕ) → k < place → block_at new k ≡ block_at old k
    each : (k : ℕ) (r : RuleCheck) → place + k < length old → k < length us → r ≡ get_or us k r
        → TakesFirst j r number d (block_at old (place + k)) (block_at new (place + k))

  -- the first of them
  head_taken : (place : ℕ) (u : RuleCheck) (us : List RuleCheck) (old now new : List (List ℕ)) → length now ≡ length old
      → ((k : ℕ) → k ≢ place → block_at now k ≡ block_at old k)
      → (place < length old → TakesFirst j u number d (block_at old place) (block_at now place))
      → AreTaken (place + 1) us now new → AreTaken place (u ∷ us) old new
  head_taken place u us old now new long others here h = record {
    long = h.long ∙ long;
    before = λ k less. h.before k (omega (arith, less)) ∙ others k (λ same. absurd (omega (arith, less, same)));
    each = λ k r. one k r;
  }
    where
      one : (k : ℕ) (r : RuleCheck) → place + k < length old → k < length (u ∷ us) → r ≡ get_or (u ∷ us) k r
          → TakesFirst j r number d (block_at old (place + k)) (block_at new (place + k))
      one zero r within ruled is =
          let same : place ≡ place + 0 = omega arith in
          subst (λ n. TakesFirst j r number d (block_at old n) (block_at new n)) same
          (subst (λ z. TakesFirst j z number d (block_at old place) (block_at new place)) (sym is)
          (subst (TakesFirst j u number d (block_at old place)) (sym (h.before place (omega arith))) (here (omega (arith, within)))))
      one (suc k) r within ruled is =
          let same : place + 1 + k ≡ place + suc k = omega arith in
          subst (λ n. TakesFirst j r number d (block_at old n) (block_at new n)) same
          (subst (λ z. TakesFirst j r number d z (block_at new (place + 1 + k))) (others (place + 1 + k) (λ e. absurd (omega (arith, e))))
          (h.each k r (omega (arith, within, long)) (omega (arith, ruled)) is))

  from_taken : (place : ℕ) (us : List RuleCheck) (old new : List (List ℕ)) → TakesEach j number d (broken_from place us d) old new → AreTaken place us old new
  from_taken place [] old new h = record {
    long = ap length h;
    before = λ k less. ap (λ (z : List (List ℕ)). block_at z k) h;
    each = λ k r within ruled is. absurd (omega (arith, ruled));
  }
  from_taken place (u ∷ us) old new h = one (truth (formula_on d u)) refl (λ now others. from_taken (place + 1) us now new others) h
    where
      one : (b : Bool) → truth (formula_on d u) ≡ b
          → ((now : List (List ℕ)) → TakesEach j number d (broken_from (place + 1) us d) now new → AreTaken (place + 1) us now new)
          → TakesEach j number d (cond b (broken_from (place + 1) us d) ((place, u) ∷ broken_from (place + 1) us d)) old new
          → AreTaken place (u ∷ us) old new
      one true e others h = head_taken place u us old old new refl (λ k apart. refl) (λ within. kept_has u (block_at old place) e) (others old h)
      one false e others h = head_taken place u us old h.0 new h.1.long (λ k. h.1.others k) (λ within. h.1.here within) (others h.0 h.2)

  all_taken : (old new : List (List ℕ)) → TakesEach j number d (broken_from 0 j.rules.now d) old new → TakesFirsts j number d old new
  all_taken old new h =
      let t = from_taken 0 j.rules.now old new h in
      record {
        long = t.long;
        each = λ k r within ruled is.
            let same : 0 + k ≡ k = omega arith in
            subst (λ n. TakesFirst j r number d (block_at old n) (block_at new n)) same (t.each k r (omega (arith, within)) ruled is);
      }

  same_length : (bs : List Placed) (old new : List (List ℕ)) → TakesEach j number d bs old new → length new ≡ length old
  same_length [] old new h = ap length h
  same_length (b ∷ bs) old new h = same_length bs h.0 new h.2 ∙ h.1.long

  -- every rule is asked where a block of each is kept
  pub firsts_judged : (report : Report) (room : Bool) (bs : List Placed) (counts : List ℕ) (blocks new : List (List ℕ))
      → bs ≡ shown (asks_all report room counts blocks) (broken_from 0 j.rules.now d) → TakesEach j number d bs blocks new → TakesFirsts j number d blocks new
  firsts_judged report room bs counts [] new e h = record {
    long = same_length bs [] new h;
    each = λ k r within ruled is. absurd (omega (arith, within));
  }
  firsts_judged report room bs counts (x ∷ xs) new e h =
      let some : (not (length (x ∷ xs) == 0)) ≡ true = grind (arith, nat_tests) in
      let whole : asks_all report room counts (x ∷ xs) ≡ true =
      ap (λ b. (room && shows_all report) || (not (length counts == 0) || b)) some
      ∙ ap (λ b. (room && shows_all report) || b) (or_true (not (length counts == 0))) ∙ or_true (room && shows_all report) in
      all_taken (x ∷ xs) new (subst (λ z. TakesEach j number d z (x ∷ xs) new) (e ∙ ap (λ w. shown w (broken_from 0 j.rules.now d)) whole) h)

-- ---- line after line

pub firsts_more : (j : Job) (number : ℕ) (ls : List (Option (List ℕ))) (l : Option (List ℕ)) (before now after : List (List ℕ))
    → AreFirsts j number ls before now → TakesOn j (number + length ls) (record_taken l) now after → AreFirsts j number (ls ++ l ∷ []) before after
firsts_more j number [] l before now after h one =
    let same : number + 0 ≡ number = omega arith in
    (after, subst (λ z. TakesOn j number (record_taken l) z after) h (subst (λ n. TakesOn j n (record_taken l) now after) same one), refl)
firsts_more j number (x ∷ ls) l before now after h one =
    let same : number + length (x ∷ ls) ≡ number + 1 + length ls = omega arith in
    (h.0, h.1, firsts_more j (number + 1) ls l h.0 now after h.2 (subst (λ n. TakesOn j n (record_taken l) now after) same one))

-- a line without a record leaves all as it is
pub unread_taken : (j : Job) (number : ℕ) (o : Option Data) (blocks : List (List ℕ)) → None ≡ o → TakesOn j number o blocks blocks
unread_taken j number o blocks e = subst (λ z. TakesOn j number z blocks blocks) e refl
