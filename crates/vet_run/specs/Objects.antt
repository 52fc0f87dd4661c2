-- The text of a record's object.
use Rattle.std.specs.Prelude.{ℕ, List, [], ◌∷◌, ◌++◌, Bool, true, false, Option, Some, None, codes}
use Rattle.std.specs.Prelude.{map, is_some, if◌then◌else◌}
use Rattle.serde_json.specs.Data.{string}
use Rattle.serde_json.specs.Read.{read}
use Rattle.serde_json.specs.Written.{comma_if, compact_text}
use Rattle.predicates_core.specs.Tree.{Tree, Forest, empty, branch}
use Rattle.predicates_core.specs.Describe.{CaseNode, NamedBytes}
use Rattle.predicates_core.specs.Leaves.{word}
use Rattle.vet_run.specs.declared.record.Shown.{Shown}

-- texts with commas between them, and one before them where something stands before
abbrev pub listed : Bool → List (List ℕ) → List ℕ
listed later [] = []
listed later (t ∷ ts) = comma_if later ++ (t ++ listed true ts)

-- a text as JSON has it
abbrev pub quoted : List ℕ → List ℕ
quoted text = compact_text (string text)

-- what was found, where it is JSON; else a text
abbrev pub value_text : List ℕ → List ℕ
value_text value = if is_some (read value) then value else quoted value

abbrev pub product_text : NamedBytes → List ℕ
product_text p =
    codes "{\"name\":" ++ (quoted p.0 ++ (codes ",\"value\":" ++ (value_text p.1 ++ codes "}")))

abbrev pub predicate_text : Option (List ℕ) → List ℕ
predicate_text (Some text) = quoted text
predicate_text None = codes "null"

-- the text and the result of a node
abbrev pub verdict_text : CaseNode → List ℕ
verdict_text n =
    codes "{\"text\":" ++ (predicate_text n.text ++ (codes ",\"result\":" ++ word n.result))

-- a node up to the bracket that opens its children
abbrev pub node_text : CaseNode → List ℕ
node_text n =
    verdict_text n
    ++ (codes ",\"products\":["
    ++ (listed false (map product_text n.products) ++ codes "],\"children\":["))

-- a child's name, up to its case
abbrev pub name_text : List ℕ → List ℕ
name_text name = codes "{\"name\":" ++ (quoted name ++ codes ",\"case\":")

-- children, each under its name
abbrev pub forest_text : Bool → Forest CaseNode → List ℕ
forest_text later empty = []
forest_text later (branch name node below next) =
    comma_if later
    ++ ((name_text name
    ++ (node_text node
    ++ (forest_text false below ++ codes "]}}")))
    ++ forest_text true next)

-- a case
abbrev pub case_text : Tree CaseNode → List ℕ
case_text t = node_text t.root ++ (forest_text false t.children ++ codes "]}")

-- what is shown of a rule: `null` where memory was refused for its case
abbrev pub shown_text : Shown → List ℕ
shown_text s = if s.refused then codes "null" else case_text s.case

-- the member with all cases, or with the first where there is one
abbrev pub cases_text : Bool → List Shown → List ℕ
cases_text true cases = codes ",\"cases\":[" ++ (listed false (map shown_text cases) ++ codes "]")
cases_text false [] = []
cases_text false (s ∷ cases) = codes ",\"case\":" ++ shown_text s

-- the member with the input's name, where it has one
abbrev pub file_text : Option (List ℕ) → List ℕ
file_text None = []
file_text (Some name) = codes "\"file\":" ++ (quoted name ++ codes ",")

-- the object of a record under its name, on a line
abbrev pub object_text : Option (List ℕ) → List ℕ → Bool → Bool → List Shown → List ℕ
object_text source name held all cases =
    codes "{"
    ++ (file_text source
    ++ (codes "\"record\":"
    ++ (name
    ++ (codes ",\"holds\":"
    ++ (word held
    ++ (cases_text all cases ++ codes "}\n"))))))
