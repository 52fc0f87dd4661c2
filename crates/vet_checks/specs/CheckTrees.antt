-- What a check is, apart from where it lies in memory, and its formula on an item of a record.
use Rattle.std.specs.Prelude.{◌≡◌, ℕ, List, [], ◌∷◌, Bool, false, Option, Some, None}
use Rattle.std.specs.Prelude.{option_map, option_and_then, cond, codes, decimal}
use Rattle.std.specs.Prelude.{string_bytes}
use Rattle.std.specs.BTreeSet.{contains_text}
use Rattle.std.specs.Option.{unwrap_or}
use Rattle.serde_json.specs.Data.{Data, string}
use Rattle.serde_json.specs.Find.{as_object}
use Rattle.serde_json.specs.Written.{has_float, compact_text}
use Rattle.predicates_core.specs.Label.{Entry, Product, Label, plain, showing, value_of, with_last}
use Rattle.predicates_core.specs.declared.custom.quantifier.HowMany.TheVariants as many
use Rattle.predicates_core.specs.Formula.{Formula, Leaf}
use Rattle.predicates_core.specs.Leaves.{IsShowing}
use Rattle.predicates_core.specs.Tree as cases
use Rattle.predicates_core.specs.Describe.{CaseNode}
use Rattle.predicates_tree.specs.declared.check.Check.{Check}
use Rattle.predicates_tree.specs.Formulas.{tree_formula, tree_text}
use Rattle.predicates_tree.specs.declared.quota.Quota.{Quota}
use Rattle.predicates_tree.specs.declared.quota.Quota.TheVariants.{Threshold, Odd}
use Rattle.predicates_tree.specs.Trees.{Tree, tree_of}
use Rattle.vet_rules.specs.declared.expression.Connective.{Connective}
use Rattle.vet_rules.specs.declared.expression.Connective.TheVariants.{Or, Xor, And}
use Rattle.vet_rules.specs.declared.expression.HowMany.{HowMany}
use Rattle.vet_rules.specs.declared.expression.HowMany.TheVariants.{Each, Any, AtLeast}
use Rattle.vet_checks.specs.declared.elements.Elements.{Elements}
use Rattle.vet_checks.specs.declared.path_test.PathTest.{PathTest}
use Rattle.vet_checks.specs.declared.question.Question.{Question}
use Rattle.vet_checks.specs.declared.question.Question.TheVariants.{CompareWith, Length, KeysIn}
use Rattle.vet_checks.specs.declared.written.Written.{Written}
use Rattle.vet_checks.specs.Keys.{other_key}
use Rattle.vet_checks.specs.Lists.{places_at}
use Rattle.vet_checks.specs.Nodes.{text_of_test, path_of_test, path_of_view, words_of_node}
use Rattle.vet_checks.specs.Questions.{answer_at, length_of, nothing_text, misfit_text}
use Rattle.vet_checks.specs.Scopes.{Place, stands}

-- the tree of a check, whose leaves are tests of what stands at paths
abbrev pub CheckTree : Type 0
CheckTree = Tree PathTest Elements

abbrev pub check_tree : Check PathTest Elements Written → CheckTree
check_tree c = tree_of words_of_node c

-- how many of the parts have to hold that a connective joins
abbrev pub joined_by : Connective → Quota
joined_by Or = Threshold many.AtLeastOne
joined_by Xor = Odd
joined_by And = Threshold many.Every

-- how many items have to meet it
abbrev pub wanted_by : HowMany → Quota
wanted_by Each = Threshold many.Every
wanted_by Any = Threshold many.AtLeastOne
wanted_by (AtLeast k) = Threshold (many.AtLeast k)

-- ---- leaves

-- the value as JSON, where it has no float; the digits of a float are left open
abbrev pub found_text : Data → Entry
found_text d = cond (has_float d) None (Some (compact_text d))

-- a false leaf that says that nothing stands at the path
abbrev pub nothing_leaf : List ℕ → List ℕ → Formula
nothing_leaf text path = Leaf (showing (Some text) (codes "error") (Some (nothing_text path))) false

-- the value that a leaf asks about, and what else it may show
abbrev pub found_products : Data → Option Product → List Product
found_products d None = value_of (codes "found") (found_text d)
found_products d (Some beside) = record { name = codes "found"; value = found_text d } ∷ beside ∷ []

abbrev pub found_label : List ℕ → Data → Option Product → Label
found_label text d beside = record { text = Some text; products = found_products d beside }

abbrev pub found_leaf : List ℕ → Data → Option Product → Bool → Formula
found_leaf text d beside own = Leaf (found_label text d beside) own

-- what a leaf shows of a value that can't answer: why, behind the others
abbrev pub misfit_label : List ℕ → List ℕ → Data → Option Product → Label
misfit_label text error d beside = with_last (found_label text d beside)
    (record { name = codes "error"; value = Some error })

abbrev pub misfit_leaf : List ℕ → List ℕ → Data → Option Product → Formula
misfit_leaf text error d beside = Leaf (misfit_label text error d beside) false

-- the value that stands at another path
abbrev pub other_product : Data → Product
other_product d = record { name = codes "other"; value = found_text d }

abbrev pub length_product : ℕ → Product
length_product n = record { name = codes "len"; value = Some (decimal n) }

-- a key that is none of those that a rule allows, as JSON
abbrev pub key_product : List ℕ → Product
key_product key = record { name = codes "other key"; value = Some (compact_text (string key)) }

-- what is shown beside the value
abbrev pub shown_beside : Question → Place → (d : Data) → Option Product
shown_beside (CompareWith o path) p d =
    option_map other_product (stands (string_bytes path) p)
shown_beside (Length o n) p d = option_map length_product (length_of d)
shown_beside (KeysIn keys) p d =
    option_map key_product (option_and_then (other_key (contains_text keys)) (as_object d))
shown_beside q p d = None

-- t is c that shows it too, where there is one
abbrev pub ShowsBeside : Option Product → (c t : cases.Tree CaseNode) → Type 0
ShowsBeside None c t = t ≡ c
ShowsBeside (Some beside) c t = IsShowing beside.name beside.value c t

-- what a test shows of its answer
abbrev pub answer_label : List ℕ → List ℕ → Question → Place → Option Data → Option Bool → Label
answer_label text path q p None None =
    showing (Some text) (codes "error") (Some (nothing_text path))
answer_label text path q p None (Some own) = plain (Some text)
answer_label text path q p (Some d) None = misfit_label text (misfit_text q p) d (shown_beside q p d)
answer_label text path q p (Some d) (Some own) = found_label text d (shown_beside q p d)

-- a test that can't answer is false
abbrev pub answer_leaf : List ℕ → List ℕ → Question → Place → Option Data → Option Bool → Formula
answer_leaf text path q p o answer = Leaf (answer_label text path q p o answer)
    (unwrap_or answer false)

-- the formula of a test on an item of a record
abbrev pub test_formula : PathTest → Place → Formula
test_formula t p = answer_leaf (text_of_test t) (path_of_test t) t.question p
    (stands (path_of_test t) p) (answer_at t.question p (stands (path_of_test t) p))

-- ---- what is over members

abbrev pub no_list_text : List ℕ
no_list_text = codes "not an array or an object"

-- what is shown where nothing stands at the path, or a value that has no members
abbrev pub absence_of_data : List ℕ → Option Data → List Product
absence_of_data path None = value_of (codes "error") (Some (nothing_text path))
absence_of_data path (Some d) = record { name = codes "found"; value = found_text d }
    ∷ record { name = codes "error"; value = Some no_list_text } ∷ []

abbrev pub absence_at : List ℕ → Place → List Product
absence_at path p = absence_of_data path (stands path p)

-- ---- checks

-- the formula of a check on an item of a record
abbrev pub check_formula : CheckTree → Place → Formula
check_formula e p = tree_formula (λ t. Some (text_of_test t)) (λ v. Some (path_of_view v))
    test_formula (λ v. places_at (path_of_view v)) (λ v. absence_at (path_of_view v)) p e

abbrev pub check_text : CheckTree → Entry
check_text e = tree_text (λ t. Some (text_of_test t)) (λ v. Some (path_of_view v)) e
