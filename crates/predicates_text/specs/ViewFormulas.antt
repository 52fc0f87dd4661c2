-- The formulas of predicates that evaluate another on a view of a text.
use Rattle.std.specs.Prelude.{◌≡◌, ℕ, List, Option, Some, false, if◌then◌else◌, codes, string_bytes}
use Rattle.std.specs.Str.{chars, encode_utf8_all, IsUtf8, is_utf8}
use Rattle.predicates_core.specs.Text.{Text}
use Rattle.predicates_core.specs.Label.{showing}
use Rattle.predicates_core.specs.Formula.{Formula, Leaf, with_product}
use Rattle.predicates_core.specs.Leaves.{IsExactly}
use Rattle.predicates_core.specs.Added.{IsWithProduct}
use Rattle.predicates_text.specs.Views as view

-- the text t has the characters that the view shows of v
abbrev pub IsViewOf : (List ℕ → List ℕ) → Text → Text → Type 0
IsViewOf shows v t = chars (string_bytes t) ≡ shows (chars (string_bytes v))

-- the text t is v without the white space at its ends
abbrev pub IsTrimmedOf : Text → Text → Type 0
IsTrimmedOf v t = IsViewOf view.trimmed v t

-- the text t is v with even line endings
abbrev pub HasEvenLinesOf : Text → Text → Type 0
HasEvenLinesOf v t = IsViewOf view.lines_even v t

-- the text t is v with its case folded
abbrev pub IsCaseFoldedOf : Text → Text → Type 0
IsCaseFoldedOf v t = IsViewOf view.case_folded v t

-- the bytes of a view, from those of the text
abbrev pub view_bytes : (List ℕ → List ℕ) → List ℕ → List ℕ
view_bytes shows bytes = encode_utf8_all (shows (chars bytes))

abbrev pub trimmed_bytes : List ℕ → List ℕ
trimmed_bytes bytes = view_bytes view.trimmed bytes

abbrev pub even_bytes : List ℕ → List ℕ
even_bytes bytes = view_bytes view.lines_even bytes

abbrev pub case_folded_bytes : List ℕ → List ℕ
case_folded_bytes bytes = view_bytes view.case_folded bytes

-- f is a formula of the part on each text that is such a view
pub record IsOfEach (has : Text → Formula → Type 0) (viewed : Text → Type 0) (f : Formula) : Type 0
  where
    pub each : (t : Text) → viewed t → has t f

-- the formula of bytes that are not text
abbrev pub undecoded : Option (List ℕ) → Formula
undecoded text = Leaf (showing text (codes "error") (Some (codes "Invalid UTF-8 string"))) false

-- the formula of bytes that are text, from that of the text
abbrev pub decoded : List ℕ → Formula → Formula
decoded bytes f = with_product f (record { name = codes "var as str"; value = Some bytes })

-- f is the formula of each text with these bytes, with that text as one more product, or a false
-- leaf where the bytes are no text
pub record IsDecoded (text : Option (List ℕ)) (has : Text → Formula → Type 0) (bytes : List ℕ)
    (f : Formula) : Type 0 where
  pub of_text : (t : Text) → string_bytes t ≡ bytes
      → IsWithProduct (codes "var as str") (Some bytes) (has t) f
  pub of_other : ¬ (IsUtf8 bytes) → IsExactly (undecoded text) f

-- the one such formula, from those of texts by their bytes
unfoldable pub decoded_formula : (List ℕ → Formula) → Option (List ℕ) → List ℕ → Formula
decoded_formula content text bytes = if is_utf8 bytes then decoded bytes (content bytes) else
    undecoded text
