-- What a test asks of the value at its path, and what the value answers.
use Rattle.std.specs.Prelude.{ℕ, suc, List, ◌++◌, Bool, true, false, Option, Some, None, ◌==◌}
use Rattle.std.specs.Prelude.{option_map, option_and_then, is_some, cond, length, codes}
use Rattle.std.specs.Prelude.{string_bytes}
use Rattle.std.specs.declared.cmp.Ordering.{Ordering}
use Rattle.std.specs.declared.cmp.Ordering.TheVariants.{Equal, Greater}
use Rattle.std.specs.Ordering.{is_eq, is_ne, is_lt, is_le, is_gt, is_ge, nat_cmp, bool_cmp}
use Rattle.std.specs.BTreeSet.{contains_by, contains_text}
use Rattle.std.specs.Cmp.Lexicographic.{slice_cmp}
use Rattle.std.specs.List.{list_any}
use Rattle.std.specs.Str.{chars}
use Rattle.regex.specs.Patterns.{find_str}
use Rattle.regex.specs.Strings.{regex_pattern}
use Rattle.serde_json.specs.Data.{Data, null, boolean, number, string, array, object, Items}
use Rattle.serde_json.specs.Data.{no_items, item, Members, no_members, member}
use Rattle.serde_json.specs.Find.{as_number, as_integer, as_str, as_bool, as_null, as_array}
use Rattle.serde_json.specs.Find.{as_object}
use Rattle.predicates_text.specs.Places.{is_front, is_back, is_part}
use Rattle.vet_rules.specs.declared.condition.State.TheVariants as states
use Rattle.vet_rules.specs.declared.condition.Comparison.{Comparison}
use Rattle.vet_rules.specs.declared.condition.Comparison.TheVariants as comparisons
use Rattle.vet_rules.specs.declared.condition.ValueKind.{ValueKind}
use Rattle.vet_rules.specs.declared.condition.ValueKind.TheVariants as kinds
use Rattle.vet_rules.specs.declared.literal.Literal.TheVariants as literals
use Rattle.vet_rules.specs.Lexemes.{data_of}
use Rattle.vet_rules.specs.Printing.{path_text}
use Rattle.vet_rules.specs.Literals.{Literal, literal_of}
use Rattle.vet_checks.specs.Keys.{are_keys_among}
use Rattle.vet_checks.specs.Numbers.{number_cmp, num_of_exact}
use Rattle.vet_checks.specs.Patterns.{regex_of}
use Rattle.vet_checks.specs.Scopes.{Place, stands}
use Rattle.vet_checks.specs.declared.literal_set.LiteralSet.{LiteralSet}
use Rattle.vet_checks.specs.declared.question.Question.{Question}
use Rattle.vet_checks.specs.declared.question.Question.TheVariants.{Is, Compare, CompareWith}
use Rattle.vet_checks.specs.declared.question.Question.TheVariants.{Length, IsOf, StartsWith}
use Rattle.vet_checks.specs.declared.question.Question.TheVariants.{EndsWith, Contains, Matches}
use Rattle.vet_checks.specs.declared.question.Question.TheVariants.{In, KeysIn}

-- how a value stands to another, where both are of one kind; every value but null is above null
abbrev pub order : Data → Data → Option Ordering
order d null = Some (cond (is_some (as_null d)) Equal Greater)
order d (boolean b) = option_map (λ a. bool_cmp a b) (as_bool d)
order d (number n) = option_map (λ m. number_cmp m n) (as_number d)
order d (string t) = option_map (λ s. slice_cmp nat_cmp s t) (as_str d)
order d (array ds) = None
order d (object ms) = None

abbrev pub holds_in : Comparison → Ordering → Bool
holds_in comparisons.Equal o = is_eq o
holds_in comparisons.Unequal o = is_ne o
holds_in comparisons.Below o = is_lt o
holds_in comparisons.AtMost o = is_le o
holds_in comparisons.Above o = is_gt o
holds_in comparisons.AtLeast o = is_ge o

abbrev pub is_equal : Option Ordering → Bool
is_equal None = false
is_equal (Some o) = is_eq o

-- whether it equals one of the literals
abbrev pub is_among : List Literal → Data → Bool
is_among vs d = list_any (λ v. is_equal (order d (data_of v))) vs

-- the same, looked up
abbrev pub is_in_set : LiteralSet → Data → Bool
is_in_set set null = set.has_null
is_in_set set (boolean b) = cond b set.has_true set.has_false
is_in_set set (number n) = contains_by (λ member. number_cmp n (num_of_exact member)) set.numbers
is_in_set set (string s) = contains_text set.texts s
is_in_set set (array ds) = false
is_in_set set (object ms) = false

abbrev pub no_item_there : Items → Bool
no_item_there no_items = true
no_item_there (item d ds) = false

abbrev pub no_member_there : Members → Bool
no_member_there no_members = true
no_member_there (member k d ms) = false

-- whether nothing is in it, where it may hold something
abbrev pub empty_verdict : Data → Option Bool
empty_verdict null = None
empty_verdict (boolean b) = None
empty_verdict (number n) = None
empty_verdict (string s) = Some (length s == 0)
empty_verdict (array ds) = Some (no_item_there ds)
empty_verdict (object ms) = Some (no_member_there ms)

abbrev pub number_of_items : Items → ℕ
number_of_items no_items = 0
number_of_items (item d ds) = suc (number_of_items ds)

abbrev pub number_of_members : Members → ℕ
number_of_members no_members = 0
number_of_members (member k d ms) = suc (number_of_members ms)

-- how many characters, items or members are in it, where it may hold some
abbrev pub length_of : Data → Option ℕ
length_of null = None
length_of (boolean b) = None
length_of (number n) = None
length_of (string s) = Some (length (chars s))
length_of (array ds) = Some (number_of_items ds)
length_of (object ms) = Some (number_of_members ms)

-- a whole number is one that was read as an integer
abbrev pub is_of_kind : ValueKind → Data → Bool
is_of_kind kinds.Text d = is_some (as_str d)
is_of_kind kinds.Number d = is_some (as_number d)
is_of_kind kinds.Whole d = is_some (option_and_then as_integer (as_number d))
is_of_kind kinds.Boolean d = is_some (as_bool d)
is_of_kind kinds.Array d = is_some (as_array d)
is_of_kind kinds.Object d = is_some (as_object d)
is_of_kind kinds.Null d = is_some (as_null d)

-- whether a text is as it asks
abbrev pub text_fits : Question → List ℕ → Bool
text_fits (StartsWith pattern) s = is_front (chars (string_bytes pattern)) (chars s)
text_fits (EndsWith pattern) s = is_back (chars (string_bytes pattern)) (chars s)
text_fits (Contains pattern) s = is_part (chars (string_bytes pattern)) (chars s)
text_fits (Matches pattern) s = is_some (find_str (regex_pattern (regex_of pattern)) s 0)
text_fits q s = false

-- whether d, which stands at the test's path, answers it, or none where it can't
abbrev pub verdict : Question → Place → (d : Data) → Option Bool
verdict (Is states.Exists) p d = Some true
verdict (Is states.Missing) p d = Some false
verdict (Is states.IsEmpty) p d = empty_verdict d
verdict (Compare o v) p d = option_map (holds_in o) (order d (data_of (literal_of v)))
verdict (CompareWith o path) p d =
    option_map (holds_in o) (option_and_then (order d) (stands (string_bytes path) p))
verdict (Length o n) p d = option_map (λ k. holds_in o (nat_cmp k n)) (length_of d)
verdict (IsOf k) p d = Some (is_of_kind k d)
verdict (In set) p d = Some (is_in_set set d)
verdict (KeysIn keys) p d = option_map (are_keys_among (contains_text keys)) (as_object d)
verdict q p d = option_map (text_fits q) (as_str d)

-- whether it holds where nothing stands, or none where it is not about presence
abbrev pub verdict_of_nothing : Question → Option Bool
verdict_of_nothing (Is states.Missing) = Some true
verdict_of_nothing (Is states.Exists) = Some false
verdict_of_nothing q = None

-- the same, whatever stands at the path
abbrev pub answer_at : Question → Place → Option Data → Option Bool
answer_at q p None = verdict_of_nothing q
answer_at q p (Some d) = verdict q p d

abbrev pub nothing_text : List ℕ → List ℕ
nothing_text path = codes "nothing at " ++ path_text path

-- what is said where the value does not compare with what stands at another path
abbrev pub apart_text : List ℕ → Option Data → List ℕ
apart_text path None = nothing_text path
apart_text path (Some d) = codes "not comparable with " ++ path_text path

-- what is said of a value that can't answer
abbrev pub misfit_text : Question → Place → List ℕ
misfit_text (Compare o (literals.Natural n)) p = codes "not a number"
misfit_text (Compare o (literals.Negative n)) p = codes "not a number"
misfit_text (Compare o (literals.Decimal text x)) p = codes "not a number"
misfit_text (Compare o (literals.Boolean b)) p = codes "not true or false"
misfit_text (CompareWith o path) p = apart_text (string_bytes path) (stands (string_bytes path) p)
misfit_text (KeysIn keys) p = codes "not an object"
misfit_text (Length o n) p = codes "not a string, an array or an object"
misfit_text (Is s) p = codes "not a string, an array or an object"
misfit_text q p = codes "not a string"
