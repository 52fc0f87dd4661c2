-- The formula of a box, which prints a text that it keeps.
use Rattle.std.specs.Prelude.{◌≡◌, ℕ, Bool, true, cond, List, None, Some, string_bytes, bytes_eq}
use Rattle.predicates_core.specs.Text.{Text}
use Rattle.predicates_core.specs.Label.{Label, Entry, Fits}
use Rattle.predicates_core.specs.Formula.{Formula, Leaf, Join, Not, Named, AtLeast, text_of}

-- the label with its text left open
abbrev pub opened_label : Label → Label
opened_label label = record { text = None; products = label.products }

-- the formula with its root's text left open
abbrev pub opened : Formula → Formula
opened (Leaf label own) = Leaf (opened_label label) own
opened (Join op label fs) = Join op (opened_label label) fs
opened (Not label f) = Not (opened_label label) f
opened (Named label name f) = Named (opened_label label) name f
opened (AtLeast k label fs) = AtLeast k (opened_label label) fs

-- whether the printed bytes fit the entry
abbrev pub fits : Entry → List ℕ → Bool
fits None bytes = true
fits (Some given) bytes = bytes_eq bytes given

-- the formula itself where the printed bytes fit its root's text, and else with that text left open
abbrev pub as_printed : List ℕ → Formula → Formula
as_printed bytes f = cond (fits (text_of f) bytes) f (opened f)

-- f is the held formula, as the printed bytes allow
pub record IsPrintedAs (bytes : List ℕ) (held f : Formula) : Type 0 where
  pub is : f ≡ as_printed bytes held

-- the printed bytes fit the root's text on every text
pub record FitsRoots (formula_of : List ℕ → Formula) (printed : List ℕ) : Type 0 where
  pub each : (v : Text) → Fits (text_of (formula_of (string_bytes v))) printed

-- each text has the formula that its bytes have
pub record HasFormulas (formula_of : List ℕ → Formula) (has : Text → Formula → Type 0) : Type 0
  where
    pub each : (v : Text) → has v (formula_of (string_bytes v))
