-- Tokens that are written one after the other.
use Rattle.std.specs.Prelude.{◌||◌, IfOk}
use Rattle.std.specs.declared.fmt.Error.{Error}
use Rattle.std.proofs.Common.{◌≡◌, ℕ, zero, suc, ◌+◌, ◌<◌, ◌≤◌, Bool, true, false, cond, arith, List, [], ◌∷◌, ◌++◌, length, take, get_or, map, Box, Global, Some, Result, Ok, Err, refl, sym, ap, ◌∙◌, subst, append_assoc, append-nil}
use Rattle.std.specs.List.{flat_map}
use Rattle.std.specs.declared.fmt.Formatter.{Formatter}
use Rattle.std.specs.Fmt.{DisplaysOnOk}
use Rattle.std.proofs.Output.{writes_in_calls_nil, displays_on_IsOk_append}
use Rattle.std.proofs.lemmas.List.{take_more, take_all, length-take-le, map-append}
use Rattle.std.proofs.lemmas.List.Concat.{flat_map-append}
use Rattle.vet_rules.specs.declared.expression.Expression.{Expression}
use Rattle.vet_rules.specs.declared.expression.Expression.TheFolds.{fold-roll-Expression}
use Rattle.vet_rules.specs.declared.expression.Expression.TheOpen.{Expression-F}
use Rattle.vet_rules.specs.declared.expression.Expression.TheVariants as expressions
use Rattle.vet_rules.specs.declared.expression.Expression.TheVariants.{rolls-Implies}
use Rattle.vet_rules.specs.declared.fixed.Fixed.{Fixed}
use Rattle.vet_rules.specs.declared.fixed.Fixed.TheVariants as fixed
use Rattle.vet_rules.specs.declared.parser.Separator.{Separator}
use Rattle.vet_rules.specs.Signs as signs
use Rattle.vet_rules.specs.Signs.{Sign}
use Rattle.vet_rules.specs.Trees.{Tree, Implies, trees_of, tree_of, tree_step}
use Rattle.vet_rules.specs.Grammar.{separator_word, part_level}
use Rattle.vet_rules.specs.Printing.{following, row_signs, front_signs, in_parentheses, has_parts, signs_at, part_signs, follow_signs, word_of, opens, closes, laid_from, next_at, Lays}

laid_append : (b : Bool) (ts us : List Sign) → laid_from b (ts ++ us) ≡ laid_from b ts ++ laid_from (next_at b ts) us
laid_append b [] us = refl
laid_append b (t ∷ ts) us =
    let gap : List ℕ = cond (b || closes t) [] (32 ∷ []) in
    ap (λ (w : List ℕ). gap ++ (word_of t ++ w)) (laid_append (opens t) ts us)
    ∙ ap (λ (w : List ℕ). gap ++ w) (sym (append_assoc (word_of t) (laid_from (opens t) ts) (laid_from (next_at (opens t) ts) us)))
    ∙ sym (append_assoc gap (word_of t ++ laid_from (opens t) ts) (laid_from (next_at (opens t) ts) us))

next_append : (b : Bool) (ts us : List Sign) → next_at b (ts ++ us) ≡ next_at (next_at b ts) us
next_append b [] us = refl
next_append b (t ∷ ts) us = next_append (opens t) ts us

module _ {W : Type 0} {took : W → List ℕ → W → Type 0} where
  pub nothing_written : (f : Formatter W) → DisplaysOnOk took f (Ok tt) (Some []) f
  nothing_written f plain ok = record { wrote = writes_in_calls_nil _ f.writer; plain = plain }

  -- one more text
  pub one_more : {U : Type 0} (text : U → List ℕ) (us : List U) (u : U) (f g h : Formatter W) → DisplaysOnOk took f (Ok tt) (Some (flat_map text us)) g → DisplaysOnOk took g (Ok tt) (Some (text u)) h
      → DisplaysOnOk took f (Ok tt) (Some (flat_map text (us ++ u ∷ []))) h
  one_more text us u f g h x y =
      let e : flat_map text (us ++ u ∷ []) ≡ flat_map text us ++ text u = flat_map-append text us (u ∷ []) ∙ ap (λ (w : List ℕ). flat_map text us ++ w) (append-nil (text u)) in
      subst (λ (w : List ℕ). DisplaysOnOk took f (Ok tt) (Some w) h) (sym e) (displays_on_IsOk_append took f g h (Ok tt) (Ok tt) (Some (flat_map text us)) (Some (text u)) (λ ok. refl) x y)

  pub none_laid : (f : Formatter W) (b : Bool) → Lays took f b [] b f
  none_laid f b = record { next_is = refl; writes = nothing_written f }

  -- a token, behind a gap
  pub token_laid : (f g h : Formatter W) (b : Bool) (t : Sign) → DisplaysOnOk took f (Ok tt) (Some (cond (b || closes t) [] (32 ∷ []))) g → DisplaysOnOk took g (Ok tt) (Some (word_of t)) h → Lays took f b (t ∷ []) (opens t) h
  token_laid f g h b t x y = record {
    next_is = refl;
    writes =
        let gap : List ℕ = cond (b || closes t) [] (32 ∷ []) in
        subst (λ (w : List ℕ). DisplaysOnOk took f (Ok tt) (Some (gap ++ w)) h) (sym (append-nil (word_of t))) (displays_on_IsOk_append took f g h (Ok tt) (Ok tt) (Some gap) (Some (word_of t)) (λ ok. refl) x y);
  }

  -- some tokens, and then others
  pub then : {f g h : Formatter W} {a b c : Bool} {ts us : List Sign} → Lays took f a ts b g → Lays took g b us c h → Lays took f a (ts ++ us) c h
  then {f = f} {g = g} {h = h} {a = a} {b = b} {c = c} {ts = ts} {us = us} x y =
      let y' : Lays took g (next_at a ts) us c h = subst (λ (d : Bool). Lays took g d us c h) x.next_is y in
      record {
        next_is = y'.next_is ∙ sym (next_append a ts us);
        writes = subst (λ (w : List ℕ). DisplaysOnOk took f (Ok tt) (Some w) h) (sym (laid_append a ts us)) (displays_on_IsOk_append took f g h (Ok tt) (Ok tt) (Some (laid_from a ts)) (Some (laid_from (next_at a ts) us)) (λ ok. refl) x.writes y'.writes);
      }

  pub then_ok : {f g : Formatter W} {a b : Bool} {ts : List Sign} (us : List Sign) (h : Formatter W) (r : Result Bool Error) → Lays took f a ts b g → IfOk r (λ c. Lays took g b us c h) → IfOk r (λ c. Lays took f a (ts ++ us) c h)
  then_ok us h (Ok c) x y = then x y
  then_ok us h (Err e) x y = tt

  pub laid_as : {f g : Formatter W} {a b : Bool} {ts us : List Sign} → ts ≡ us → Lays took f a ts b g → Lays took f a us b g
  laid_as {f = f} {g = g} {a = a} {b = b} e x = subst (λ vs. Lays took f a vs b g) e x

  -- one more of many, each with its tokens
  pub taken_more : {U : Type 0} (seen : List U → List Sign) (one : ℕ → U → List Sign) → ((us : List U) (u : U) → seen (us ++ u ∷ []) ≡ seen us ++ one (length us) u) → (us : List U) (k : ℕ) (u : U) {f g h : Formatter W} {a b c : Bool} → k < length us → u ≡ get_or us k u → Lays took f a (seen (take k us)) b g → Lays took g b (one k u) c h
      → Lays took f a (seen (take (k + 1) us)) c h
  taken_more seen one last us k u within is x y =
      let more : take (k + 1) us ≡ take k us ++ u ∷ [] = take_more us k u within ∙ ap (λ z. take k us ++ z ∷ []) (sym is) in
      let number : length (take k us) ≡ k = length-take-le k us (omega (arith, within)) in
      laid_as (sym (ap seen more ∙ last (take k us) u ∙ ap (λ n. seen (take k us) ++ one n u) number)) (then x y)

  pub all_taken : {U : Type 0} (seen : List U → List Sign) (us : List U) (k : ℕ) {f g : Formatter W} {a b : Bool} → length us ≤ k → Lays took f a (seen (take k us)) b g → Lays took f a (seen us) b g
  all_taken seen us k le x = laid_as (ap seen (take_all k us le)) x

-- ---- rows

pub map_last : {U : Type 0} (sign : U → Sign) (us : List U) (u : U) → map sign (us ++ u ∷ []) ≡ map sign us ++ sign u ∷ []
map_last sign us u = map-append sign us (u ∷ [])

pub elements_last : {U V : Type 0} (sign : V → Sign) (value : U → V) (us : List U) (u : U) → row_signs (map sign (map value (us ++ u ∷ []))) ≡ row_signs (map sign (map value us)) ++ (front_signs fixed.Comma (length us) ++ sign (value u) ∷ [])
elements_last sign value [] u = refl
elements_last sign value (w ∷ us) u = ap (λ (vs : List Sign). sign (value w) ∷ vs) (behind us)
  where
    behind : (us : List _) → following (map sign (map value (us ++ u ∷ []))) ≡ following (map sign (map value us)) ++ signs.Word fixed.Comma ∷ sign (value u) ∷ []
    behind [] = refl
    behind (x ∷ xs) = ap (λ (vs : List Sign). signs.Word fixed.Comma ∷ sign (value x) ∷ vs) (behind xs)

pub front_some : (w : Fixed) (k : ℕ) → (k ≡ 0 → ⊥) → front_signs w k ≡ signs.Word w ∷ []
front_some w zero some = absurd (some refl)
front_some w (suc k) some = refl

pub has_some : (es : List Expression) → 0 < length es → has_parts (trees_of (map tree_of es)) ≡ true
has_some [] some = absurd (omega (arith, some))
has_some (e ∷ es) some = refl

abbrev pub parts_signs : Separator → List Expression → List Sign
parts_signs s es = part_signs s (trees_of (map tree_of es))

abbrev pub part_behind : Separator → ℕ → Expression → List Sign
part_behind s k e = front_signs (separator_word s) k ++ signs_at (part_level s) (tree_of e)

follow_last : (s : Separator) (es : List Expression) (e : Expression) → follow_signs s (trees_of (map tree_of (es ++ e ∷ []))) ≡ follow_signs s (trees_of (map tree_of es)) ++ signs.Word (separator_word s) ∷ signs_at (part_level s) (tree_of e)
follow_last s [] e = ap (λ (ts : List Sign). signs.Word (separator_word s) ∷ ts) (append-nil (signs_at (part_level s) (tree_of e)))
follow_last s (d ∷ es) e =
    let one = signs_at (part_level s) (tree_of d) in
    ap (λ (ts : List Sign). signs.Word (separator_word s) ∷ (one ++ ts)) (follow_last s es e)
    ∙ ap (λ (ts : List Sign). signs.Word (separator_word s) ∷ ts) (sym (append_assoc one (follow_signs s (trees_of (map tree_of es))) (signs.Word (separator_word s) ∷ signs_at (part_level s) (tree_of e))))

pub parts_last : (s : Separator) (es : List Expression) (e : Expression) → parts_signs s (es ++ e ∷ []) ≡ parts_signs s es ++ part_behind s (length es) e
parts_last s [] e = append-nil (signs_at (part_level s) (tree_of e))
parts_last s (d ∷ es) e =
    let one = signs_at (part_level s) (tree_of d) in
    ap (λ (ts : List Sign). one ++ ts) (follow_last s es e) ∙ sym (append_assoc one (follow_signs s (trees_of (map tree_of es))) (signs.Word (separator_word s) ∷ signs_at (part_level s) (tree_of e)))

pub implies_tree : (a b : Box Expression Global) → tree_of (expressions.Implies a b) ≡ Implies (tree_of a.value) (tree_of b.value)
implies_tree a b = ap tree_of (sym (rolls-Implies a b)) ∙ fold-roll-Expression Tree tree_step (Expression-F.Implies a b)

-- an implication, with its parentheses where it needs them
pub implication_laid : (b : Bool) (ts us : List Sign) → cond b (signs.Word fixed.If ∷ []) (signs.Word fixed.Open ∷ signs.Word fixed.If ∷ []) ++ (ts ++ signs.Word fixed.Then ∷ (us ++ cond b [] (signs.Word fixed.Close ∷ [])))
    ≡ cond b (signs.Word fixed.If ∷ (ts ++ signs.Word fixed.Then ∷ us)) (in_parentheses (signs.Word fixed.If ∷ (ts ++ signs.Word fixed.Then ∷ us)))
implication_laid true ts us = ap (λ (vs : List Sign). signs.Word fixed.If ∷ (ts ++ signs.Word fixed.Then ∷ vs)) (append-nil us)
implication_laid false ts us = ap (λ (vs : List Sign). signs.Word fixed.Open ∷ signs.Word fixed.If ∷ vs) (sym (append_assoc ts (signs.Word fixed.Then ∷ us) (signs.Word fixed.Close ∷ [])))
