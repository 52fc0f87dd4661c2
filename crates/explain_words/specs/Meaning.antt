-- What a check means, by the predicate that its word names and by what its parts mean.
use Rattle.std.specs.Prelude.{◌≡◌, ◌↔◌, string_bytes}
use Rattle.predicates_core.specs.declared.custom.join.Operator.TheVariants.{And, Or, Xor}
use Rattle.predicates_core.specs.Combined.{infix_text, not_text, sign, IsPair, IsNot}
use Rattle.predicates_core.specs.Formula.{Formula}
use Rattle.predicates_core.specs.Label.{Entry}
use Rattle.predicates_core.specs.Text.{Text}
use Rattle.predicates_text.specs.ViewFormulas.{trimmed_bytes, even_bytes}
use Rattle.explain_words.specs.declared.check.TextCheck.{TextCheck, Trim', Normalize', Not'}
use Rattle.explain_words.specs.declared.check.TextCheck.{And', Or', Xor'}

-- the formulas of a view's check are those of its part on the view; those of `not`, `and`, `or` and
-- `xor` join those of the parts
abbrev pub MeansByParts : (TextCheck → Text → Formula → Type 0) → (TextCheck → Entry) → TextCheck
    → Text → Type 0
MeansByParts Has output (Trim' place inner) text =
    (view : Text) (f : Formula) → string_bytes view ≡ trimmed_bytes (string_bytes text)
    → Has (Trim' place inner) text f ↔ Has inner view f
MeansByParts Has output (Normalize' place inner) text =
    (view : Text) (f : Formula) → string_bytes view ≡ even_bytes (string_bytes text)
    → Has (Normalize' place inner) text f ↔ Has inner view f
MeansByParts Has output (Not' place inner) text =
    (f : Formula) → Has (Not' place inner) text f
    ↔ IsNot (not_text (output inner)) (Has inner text) f
MeansByParts Has output (And' place left other right) text =
    (f : Formula) → Has (And' place left other right) text f
    ↔ IsPair And (infix_text (sign And) (output left) (output right)) (Has left text)
    (Has right text) f
MeansByParts Has output (Or' place left other right) text =
    (f : Formula) → Has (Or' place left other right) text f
    ↔ IsPair Or (infix_text (sign Or) (output left) (output right)) (Has left text) (Has right text)
    f
MeansByParts Has output (Xor' place left other right) text =
    (f : Formula) → Has (Xor' place left other right) text f
    ↔ IsPair Xor (infix_text (sign Xor) (output left) (output right))
    (Has left text) (Has right text) f
MeansByParts Has output _ text = Unit {0}

-- the text of a view's check is that of its part, and it is infallible nowhere; the others print
-- their parts' texts, and are infallible where the parts are
abbrev pub IsLikeParts : (TextCheck → Entry) → (TextCheck → Type 0) → TextCheck → Type 0
IsLikeParts output Infallible (Trim' place inner) =
    (output (Trim' place inner) ≡ output inner) × ¬ (Infallible (Trim' place inner))
IsLikeParts output Infallible (Normalize' place inner) =
    (output (Normalize' place inner) ≡ output inner) × ¬ (Infallible (Normalize' place inner))
IsLikeParts output Infallible (Not' place inner) =
    (output (Not' place inner) ≡ not_text (output inner))
    × (Infallible (Not' place inner) ↔ Infallible inner)
IsLikeParts output Infallible (And' place left other right) =
    (output (And' place left other right)
    ≡ infix_text (sign And) (output left) (output right))
    × (Infallible (And' place left other right) ↔ (Infallible left × Infallible right))
IsLikeParts output Infallible (Or' place left other right) =
    (output (Or' place left other right)
    ≡ infix_text (sign Or) (output left) (output right))
    × (Infallible (Or' place left other right) ↔ (Infallible left × Infallible right))
IsLikeParts output Infallible (Xor' place left other right) =
    (output (Xor' place left other right)
    ≡ infix_text (sign Xor) (output left) (output right))
    × (Infallible (Xor' place left other right) ↔ (Infallible left × Infallible right))
IsLikeParts output Infallible _ = Unit {0}
