-- The laws of a check of texts: its printed text fits its formula, and it has one on each text.
use Rattle.std.specs.Prelude.{◌≡◌, refl, ℕ, List}
use Rattle.predicates_core.specs.Label.{FitsEntry}
use Rattle.predicates_core.specs.Formula.{Formula, text_of}
use Rattle.predicates_core.specs.LeafLaws.{exactly_text_fits, one_exactly}
use Rattle.predicates_core.proofs.CombinedLemmas.{pair_text_fits, one_pair, has_pair}
use Rattle.predicates_core.proofs.CombinedLemmas.{not_text_fits, one_not, has_not}
use Rattle.predicates_text.specs.Patterns.{starts_pattern, ends_pattern, contains_pattern}
use Rattle.predicates_text.specs.LeafFormulaLaws.{text_leaf_fits, one_text_leaf}
use Rattle.predicates_text.specs.LeafFormulaLaws.{has_empty, has_starts, has_ends, has_contains}
use Rattle.predicates_text.specs.ViewFormulas.{trimmed_bytes, even_bytes}
use Rattle.explain_words.specs.Checks.{check_text, check_formula, HasFormula}
use Rattle.explain_words.specs.declared.check.TextCheck as checks
use Rattle.explain_words.specs.declared.check.TextCheck.{TextCheck}

pub check_text_fits : (c : TextCheck) (bytes : List ℕ) (f : Formula) → HasFormula c bytes f
    → FitsEntry (text_of f) (check_text c)
check_text_fits (checks.Equals p) bytes f h = exactly_text_fits h
check_text_fits (checks.Matches p) bytes f h = exactly_text_fits h
check_text_fits (checks.Trim' _ inner) bytes f h = check_text_fits inner (trimmed_bytes bytes) f h
check_text_fits (checks.Normalize' _ inner) bytes f h = check_text_fits inner (even_bytes bytes) f h
check_text_fits (checks.Not' _ inner) bytes f h = not_text_fits h
check_text_fits (checks.And' _ left _ right) bytes f h = pair_text_fits h
check_text_fits (checks.Or' _ left _ right) bytes f h = pair_text_fits h
check_text_fits (checks.Xor' _ left _ right) bytes f h = pair_text_fits h
check_text_fits _ bytes f h = text_leaf_fits h

pub one_check : (c : TextCheck) (bytes : List ℕ) (f g : Formula) → HasFormula c bytes f
    → HasFormula c bytes g → f ≡ g
one_check (checks.Equals p) bytes f g h k = one_exactly h k
one_check (checks.Matches p) bytes f g h k = one_exactly h k
one_check (checks.Trim' _ inner) bytes f g h k = one_check inner (trimmed_bytes bytes) f g h k
one_check (checks.Normalize' _ inner) bytes f g h k = one_check inner (even_bytes bytes) f g h k
one_check (checks.Not' _ inner) bytes f g h k = one_not (one_check inner bytes) h k
one_check (checks.And' _ left _ right) bytes f g h k = one_pair (one_check left bytes)
    (one_check right bytes) h k
one_check (checks.Or' _ left _ right) bytes f g h k = one_pair (one_check left bytes)
    (one_check right bytes) h k
one_check (checks.Xor' _ left _ right) bytes f g h k = one_pair (one_check left bytes)
    (one_check right bytes) h k
one_check _ bytes f g h k = one_text_leaf h k

pub has_check_formula : (c : TextCheck) (bytes : List ℕ)
    → HasFormula c bytes (check_formula c bytes)
has_check_formula (checks.Empty p) bytes = has_empty bytes
has_check_formula (checks.Equals p) bytes = record { is = refl }
has_check_formula (checks.Starts p) bytes = has_starts (starts_pattern p) bytes
has_check_formula (checks.Ends p) bytes = has_ends (ends_pattern p) bytes
has_check_formula (checks.Contains p) bytes = has_contains (contains_pattern p) bytes
has_check_formula (checks.Matches p) bytes = record { is = refl }
has_check_formula (checks.Trim' _ inner) bytes = has_check_formula inner (trimmed_bytes bytes)
has_check_formula (checks.Normalize' _ inner) bytes = has_check_formula inner (even_bytes bytes)
has_check_formula (checks.Not' _ inner) bytes = has_not (has_check_formula inner bytes)
has_check_formula (checks.And' _ left _ right) bytes = has_pair (has_check_formula left bytes)
    (has_check_formula right bytes)
has_check_formula (checks.Or' _ left _ right) bytes = has_pair (has_check_formula left bytes)
    (has_check_formula right bytes)
has_check_formula (checks.Xor' _ left _ right) bytes = has_pair (has_check_formula left bytes)
    (has_check_formula right bytes)
