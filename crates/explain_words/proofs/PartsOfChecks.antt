-- A check means what its parts mean, joined by its word.
use Rattle.std.proofs.Common.{◌≡◌, ◌↔◌, List, ℕ, string_bytes, refl, sym, subst}
use Rattle.predicates_core.specs.Formula.{Formula}
use Rattle.predicates_core.specs.Text.{Text}
use Rattle.predicates_text.specs.ViewFormulas.{trimmed_bytes, even_bytes}
use Rattle.explain_words.specs.Checks.{check_text, HasFormula, IsInfallibleCheck}
use Rattle.explain_words.specs.Meaning.{MeansByParts, IsLikeParts}
use Rattle.explain_words.specs.declared.check.TextCheck.{TextCheck, Trim', Normalize', Not', And', Or', Xor'}

on_view : (inner : TextCheck) (bytes : List ℕ) (view : Text) (f : Formula) → string_bytes view ≡ bytes → HasFormula inner bytes f ↔ HasFormula inner (string_bytes view) f
on_view inner bytes view f e = (λ h. subst (λ b. HasFormula inner b f) (sym e) h, λ h. subst (λ b. HasFormula inner b f) e h)

pub means_by_parts : (check : TextCheck) (text : Text) → MeansByParts (λ c v f. HasFormula c (string_bytes v) f) check_text check text
means_by_parts (Trim' place inner) text = λ view f e. on_view inner (trimmed_bytes (string_bytes text)) view f e
means_by_parts (Normalize' place inner) text = λ view f e. on_view inner (even_bytes (string_bytes text)) view f e
means_by_parts (Not' place inner) text = λ f. (λ h. h, λ h. h)
means_by_parts (And' place left other right) text = λ f. (λ h. h, λ h. h)
means_by_parts (Or' place left other right) text = λ f. (λ h. h, λ h. h)
means_by_parts (Xor' place left other right) text = λ f. (λ h. h, λ h. h)
means_by_parts _ text = tt

pub is_like_parts : (check : TextCheck) → IsLikeParts check_text IsInfallibleCheck check
is_like_parts (Trim' place inner) = (refl, λ h. h)
is_like_parts (Normalize' place inner) = (refl, λ h. h)
is_like_parts (Not' place inner) = (refl, (λ h. h, λ h. h))
is_like_parts (And' place left other right) = (refl, (λ h. h, λ h. h))
is_like_parts (Or' place left other right) = (refl, (λ h. h, λ h. h))
is_like_parts (Xor' place left other right) = (refl, (λ h. h, λ h. h))
is_like_parts _ = tt
