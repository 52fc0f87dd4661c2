-- The lines of a case in a style.
use Rattle.std.specs.Prelude.{ℕ, ◌+◌, ◌-◌, List, [], ◌∷◌, ◌++◌, length, Bool, true, Option, Some}
use Rattle.std.specs.Prelude.{None, unwrap_or, nat_lt, if◌then◌else◌, codes, flat_map}
use Rattle.std.specs.Str.{chars}
use Rattle.std.specs.Fmt.{decimal}
use Rattle.predicates_reflection.specs.Tree.{Forest, Tree, empty, branch}
use Rattle.predicates_reflection.specs.Describe.{CaseNode, NamedBytes, NamedCase}
use Rattle.predicates_reflection.specs.Lines.{indented}
use Rattle.predicates_style.specs.Characters.{written_text}
use Rattle.predicates_style.specs.declared.style.Style.{Style}

-- the word of a result, green or red where colours are wanted
abbrev pub result_text : Bool → Bool → List ℕ
result_text colours outcome =
    if colours
    then (if outcome then 27 ∷ codes "[32mtrue" ++ 27 ∷ codes "[0m"
    else 27 ∷ codes "[31mfalse" ++ 27 ∷ codes "[0m")
    else (if outcome then codes "true" else codes "false")

-- the end of a node's line: the text, or `predicate` where there is none, and the result
abbrev pub styled_verdict : Style → CaseNode → List ℕ
styled_verdict s n = written_text s.escapes None (unwrap_or n.text (codes "predicate")) ++
    codes " = " ++ result_text s.colours n.result ++ codes "\n"

-- what stands between a product's name and its value: how many characters of the value are shown,
-- where that is fewer than it has
abbrev pub before_value : Option ℕ → List ℕ → List ℕ
before_value None value = codes ": "
before_value (Some most) value =
    if nat_lt most (length (chars value))
    then codes " (first " ++ decimal most ++ codes " of " ++ decimal (length (chars value)) ++
    codes " characters): "
    else codes ": "

-- the line of a product below this indent
abbrev pub styled_product : Style → List ℕ → NamedBytes → List ℕ
styled_product s indent p = indent ++ codes "- " ++ written_text s.escapes None p.0 ++
    before_value s.characters p.1 ++ written_text s.escapes s.characters p.1 ++ codes "\n"

-- the name of a child that stands at a depth
abbrev pub styled_name : Style → ℕ → List ℕ → List ℕ
styled_name s depth name = indented depth ++ written_text s.escapes None name ++ codes ": "

-- whether the child with this number is shown, counted from 0
abbrev pub is_shown : Option ℕ → ℕ → Bool
is_shown None number = true
is_shown (Some most) number = nat_lt number most

-- the line below the children of a node that says how many of so many are left out
abbrev pub left_out : Option ℕ → List ℕ → ℕ → List ℕ
left_out None indent number = []
left_out (Some most) indent number =
    if nat_lt most number
    then indent ++ codes ".. " ++ decimal (number - most) ++ codes " more\n"
    else []

-- what follows the name of a node that stands at a depth: the end of its line, and the lines of its
-- products, two spaces deeper
abbrev pub styled_node : Style → ℕ → CaseNode → List ℕ
styled_node s depth n = styled_verdict s n ++ flat_map
    (styled_product s (indented (depth + 1))) n.products

-- the lines of named trees that stand at a depth, of which the first has this number: of each that
-- is shown its root, with its name, and then the trees under it; and how many are left out
abbrev pub styled_forest : Style → ℕ → ℕ → Forest CaseNode → List ℕ
styled_forest s depth number empty = left_out s.children (indented depth) number
styled_forest s depth number (branch name node below next) =
    (if is_shown s.children number
    then styled_name s depth name ++
    (styled_node s depth node ++ styled_forest s (depth + 1) 0 below)
    else []) ++ styled_forest s depth (number + 1) next

-- what follows the name of a tree that stands at a depth
abbrev pub styled_tree : Style → ℕ → Tree CaseNode → List ℕ
styled_tree s depth t = styled_node s depth t.root ++ styled_forest s (depth + 1) 0 t.children

-- the lines of a child that stands at a depth
abbrev pub styled_child : Style → ℕ → NamedCase → List ℕ
styled_child s depth c = styled_name s depth c.0 ++ styled_tree s depth c.1

-- the lines of a case
abbrev pub styled_lines : Style → Tree CaseNode → List ℕ
styled_lines s t = styled_tree s 0 t
