-- Which check a rule's expression is.
use Rattle.std.specs.Prelude.{◌≡◌, ℕ, List, string_bytes}
use Rattle.std.specs.BTreeSet.{contains_text}
use Rattle.predicates_text.specs.Expressions.{IsReadFrom}
use Rattle.serde_json.specs.Data.{Data}
use Rattle.vet_rules.specs.declared.condition.Relation.TheVariants as relations
use Rattle.vet_rules.specs.Conditions.{Condition, Is, Compare, CompareWith, Length, IsOf}
use Rattle.vet_rules.specs.Conditions.{Relate, In, KeysIn}
use Rattle.vet_rules.specs.Literals.{literal_of}
use Rattle.vet_rules.specs.Trees.{Tree, Test, Not, Implies, Quantified, Joined, AtLeast}
use Rattle.vet_rules.specs.Trees.{Trees, none, more}
use Rattle.vet_rules.specs.declared.expression.Connective.TheVariants.{Or}
use Rattle.vet_rules.specs.declared.expression.HowMany.TheVariants as quantifiers
use Rattle.vet_rules.specs.Printing.{printed}
use Rattle.predicates_tree.specs.Trees as dynamic
use Rattle.vet_checks.specs.declared.elements.Elements.{Elements}
use Rattle.vet_checks.specs.declared.path_test.PathTest.{PathTest}
use Rattle.vet_checks.specs.declared.question.Question.{Question}
use Rattle.vet_checks.specs.declared.question.Question.TheVariants as questions
use Rattle.vet_checks.specs.Keys.{is_text_among}
use Rattle.vet_checks.specs.Nodes.{text_of_test, path_of_test, path_of_view, written}
use Rattle.vet_checks.specs.CheckTrees.{CheckTree, joined_by, wanted_by}
use Rattle.vet_checks.specs.Patterns.{regex_of}
use Rattle.vet_checks.specs.Questions.{is_among, is_in_set}

abbrev CheckTrees : Type 0
CheckTrees = dynamic.Trees PathTest Elements

-- the condition asks it, with its pattern as `regex` reads it
abbrev pub IsAsked : Condition → Question → Type 0
IsAsked (Is s) (questions.Is t) = t ≡ s
IsAsked (Compare o v) (questions.Compare p w) = (p ≡ o) × (literal_of w ≡ v)
IsAsked (CompareWith o path) (questions.CompareWith p q) = (p ≡ o) × (string_bytes q ≡ path)
IsAsked (Length o n) (questions.Length p m) = (p ≡ o) × (m ≡ n)
IsAsked (IsOf k) (questions.IsOf j) = j ≡ k
IsAsked (Relate relations.StartsWith s) (questions.StartsWith t) = string_bytes t ≡ s
IsAsked (Relate relations.EndsWith s) (questions.EndsWith t) = string_bytes t ≡ s
IsAsked (Relate relations.Contains s) (questions.Contains t) = string_bytes t ≡ s
IsAsked (Relate relations.Matches s) (questions.Matches p) = IsReadFrom s (regex_of p)
IsAsked (In vs) (questions.In set) = (d : Data) → is_in_set set d ≡ is_among vs d
IsAsked (KeysIn texts) (questions.KeysIn keys) =
    (key : List ℕ) → contains_text keys key ≡ is_text_among texts key
IsAsked _ _ = ⊥

abbrev mutual
  -- the check has the expression's meaning, with each pattern as `regex` reads it; each prints its
  -- own expression
  pub IsTreeOf : Tree → CheckTree → Type 0
  IsTreeOf (Test path t) (dynamic.Leaf l) =
      (text_of_test l ≡ printed (Test path t)) × (path_of_test l ≡ path)
      × IsAsked t l.question
  IsTreeOf (Not e) (dynamic.Not w p) = (w ≡ written (printed (Not e))) × IsTreeOf e p
  -- under the text of the whole, `not A or B`
  IsTreeOf (Implies a b) (dynamic.Row w q ps) = (w ≡ written (printed (Implies a b)))
      × (q ≡ joined_by Or) × AreTreesOf (more (Not a) (more b none)) ps
  IsTreeOf (Quantified many path e) (dynamic.Members w q v f) =
      (w ≡ written (printed (Quantified many path e))) × (q ≡ wanted_by many)
      × (path_of_view v ≡ path) × IsTreeOf e f
  IsTreeOf (Joined c es) (dynamic.Row w q ps) = (w ≡ written (printed (Joined c es)))
      × (q ≡ joined_by c) × AreTreesOf es ps
  IsTreeOf (AtLeast k es) (dynamic.Row w q ps) = (w ≡ written (printed (AtLeast k es)))
      × (q ≡ wanted_by (quantifiers.AtLeast k)) × AreTreesOf es ps
  IsTreeOf _ _ = ⊥

  pub AreTreesOf : Trees → CheckTrees → Type 0
  AreTreesOf none dynamic.nothing = Unit {0}
  AreTreesOf none (dynamic.also p ps) = ⊥
  AreTreesOf (more e es) dynamic.nothing = ⊥
  AreTreesOf (more e es) (dynamic.also p ps) = IsTreeOf e p × AreTreesOf es ps
