-- What is shown of the rules that a record breaks, one after the other.
use Rattle.std.proofs.Common.{◌≡◌, ℕ, zero, suc, ◌+◌, ◌<◌, true, false, List, [], ◌∷◌, ◌++◌, length, map, take, get_or, refl, sym, ap, ◌∙◌, subst, arith, ⊎_elim}
use Rattle.std.specs.List.{AllZip}
use Rattle.std.proofs.lemmas.List.{map-append, take_more}
use Rattle.serde_json.specs.Data.{Data}
use Rattle.predicates_core.specs.Formula.{Formula, truth}
use Rattle.predicates_core.specs.Tree.{Tree}
use Rattle.predicates_core.specs.Describe.{CaseNode}
use Rattle.vet_checks.specs.declared.rule_check.RuleCheck.{RuleCheck}
use Rattle.vet_run.specs.Judgements.{rule_of}
use Rattle.vet_run.specs.Records.{formula_on, AddsShown, AreBroken, IsShown}
use Rattle.vet_run.specs.declared.judgement.Broken.{Broken}
use Rattle.vet_run.specs.declared.record.Shown.{Shown}

pub broken_at : (d : Data) (us : List Broken) (k : ℕ) (u : Broken) → k < length us → u ≡ get_or us k u → AreBroken d (map rule_of us) → truth (formula_on d (rule_of u)) ≡ false
broken_at d [] k u within is h = absurd (omega (arith, within))
broken_at d (x ∷ us) zero u within is h = subst (λ z. truth (formula_on d (rule_of z)) ≡ false) (sym is) h.0
broken_at d (x ∷ us) (suc k) u within is h = broken_at d us k u (omega (arith, within)) is h.1

module _ (E : Formula → Tree CaseNode → Type 0) (d : Data) where
  zip_last : (rs : List RuleCheck) (ss : List Shown) (r : RuleCheck) (s : Shown) → AllZip (IsShown E d) rs ss → IsShown E d r s → AllZip (IsShown E d) (rs ++ r ∷ []) (ss ++ s ∷ [])
  zip_last [] [] r s h x = (x, tt)
  zip_last [] (w ∷ ss) r s h x = absurd h
  zip_last (q ∷ rs) [] r s h x = absurd h
  zip_last (q ∷ rs) (w ∷ ss) r s h x = (h.0, zip_last rs ss r s h.1 x)

  -- one more is shown
  pub shown_more : (us : List Broken) (k : ℕ) (u : Broken) (old new : List Shown) → k < length us → u ≡ get_or us k u → AreBroken d (map rule_of us)
      → AllZip (IsShown E d) (map rule_of (take k us)) old → AddsShown E d (rule_of u) old new → AllZip (IsShown E d) (map rule_of (take (k + 1) us)) new
  shown_more us k u old new within is broken p h =
      let more : map rule_of (take (k + 1) us) ≡ map rule_of (take k us) ++ rule_of u ∷ [] =
      ap (map rule_of) (take_more us k u within ∙ ap (λ z. take k us ++ z ∷ []) (sym is)) ∙ map-append rule_of (take k us) (u ∷ []) in
      ⊎_elim
      (λ a. subst (λ z. AllZip (IsShown E d) z new) (sym more) (subst (AllZip (IsShown E d) (map rule_of (take k us) ++ rule_of u ∷ [])) (sym a.1) (zip_last (map rule_of (take k us)) old (rule_of u) a.0 p a.2)))
      (λ b. let apart : true ≡ false = sym (b.1.at (formula_on d (rule_of u)) (record { is = refl })) ∙ broken_at d us k u within is broken in absurd (cc))
      h
