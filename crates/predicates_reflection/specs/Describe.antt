-- What stands at the nodes of a case, and of the description of a child.
use Rattle.std.specs.Prelude.{ℕ, List, ◌∷◌, [], ◌++◌, take, Option, Bool, refl}
use Rattle.std.specs.Coded.{Coded, code_by, coded×, coded_ℕ, coded_bool, coded_list, coded_option}
use Rattle.predicates_reflection.specs.Tree.{Tree, empty, forest, named_trees, add_last, coded_tree}

-- a name with bytes
abbrev pub NamedBytes : Type 0
NamedBytes = List ℕ × List ℕ

abbrev pub coded_bytes : Coded (List ℕ)
coded_bytes = coded_list coded_ℕ

abbrev pub coded_named : Coded (List NamedBytes)
coded_named = coded_list (coded× coded_bytes coded_bytes)

-- A node of a case: its text where it has one, its result, and its products in order.
pub record CaseNode : Type 0 where
  pub text : Option (List ℕ)
  pub result : Bool
  pub products : List NamedBytes

abbrev pub coded_case_node : Coded CaseNode
coded_case_node =
    code_by (Option (List ℕ) × (Bool × List NamedBytes))
    (coded× (coded_option coded_bytes) (coded× coded_bool coded_named))
    (λ n. (n.text, (n.result, n.products)))
    (λ p. record { text = p.0; result = p.1.0; products = p.1.1 }) (λ _. refl)

-- a node alone, without products
abbrev pub leaf : Option (List ℕ) → Bool → Tree CaseNode
leaf text result = record
    { root = record { text = text; result = result; products = [] }; children = empty }

-- the tree with one product more, the last of its root
abbrev pub with_product : Tree CaseNode → NamedBytes → Tree CaseNode
with_product t p = record t {
  root = record
      { text = t.root.text; result = t.root.result; products = t.root.products ++ p ∷ [] };
}

-- the tree with one child more, the last, under a name
abbrev pub with_child : Tree CaseNode → List ℕ → Tree CaseNode → Tree CaseNode
with_child t name c = record t { children = add_last t.children name c }

-- the tree with its first children alone, so many at most
abbrev pub with_first_children : ℕ → Tree CaseNode → Tree CaseNode
with_first_children n t = record t { children = forest (take n (named_trees t.children)) }

-- A node of a description: a text, and parameters in order.
pub record ChildNode : Type 0 where
  pub text : List ℕ
  pub parameters : List NamedBytes

abbrev pub coded_child_node : Coded ChildNode
coded_child_node =
    code_by (List ℕ × List NamedBytes) (coded× coded_bytes coded_named)
    (λ n. (n.text, n.parameters)) (λ p. record { text = p.0; parameters = p.1 }) (λ _. refl)

abbrev pub coded_case_tree : Coded (Tree CaseNode)
coded_case_tree = coded_tree coded_case_node

-- a name with the tree that stands under it
abbrev pub NamedCase : Type 0
NamedCase = List ℕ × Tree CaseNode

abbrev pub coded_named_cases : Coded (List NamedCase)
coded_named_cases = coded_list (coded× coded_bytes coded_case_tree)

-- a name with the description that stands under it
abbrev pub NamedChild : Type 0
NamedChild = List ℕ × Tree ChildNode

abbrev pub coded_child : Coded NamedChild
coded_child = coded× coded_bytes (coded_tree coded_child_node)

-- a description of a part, from its name, its text, its parameters and its own parts
abbrev pub described : List ℕ → List ℕ → List NamedBytes → List NamedChild → NamedChild
described name text parameters
    children = (
      name,
      record
          { root = record { text = text; parameters = parameters }; children = forest children },
    )
