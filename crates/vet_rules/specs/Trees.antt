-- Expressions without where they lie in memory.
use Rattle.std.specs.Prelude.{ℕ, List, [], ◌∷◌, string_bytes, box_value}
use Rattle.vet_rules.specs.declared.expression.Connective.{Connective}
use Rattle.vet_rules.specs.declared.expression.Expression.{Expression, fold-Expression}
use Rattle.vet_rules.specs.declared.expression.Expression.TheOpen.{Expression-F}
use Rattle.vet_rules.specs.declared.expression.HowMany.{HowMany}
use Rattle.vet_rules.specs.Conditions.{Condition, condition_of}

mutual
  pub data Tree : Type 0 where
    Test : (path : List ℕ) → (t : Condition) → Tree
    Not : (e : Tree) → Tree
    Implies : (a : Tree) → (b : Tree) → Tree
    Quantified : (q : HowMany) → (path : List ℕ) → (e : Tree) → Tree
    Joined : (c : Connective) → (es : Trees) → Tree
    AtLeast : (k : ℕ) → (es : Trees) → Tree

  pub data Trees : Type 0 where
    none : Trees
    more : (e : Tree) → (es : Trees) → Trees

abbrev pub trees_of : List Tree → Trees
trees_of [] = none
trees_of (e ∷ es) = more e (trees_of es)

-- one level, with each part already seen as its tree
abbrev pub tree_step : Expression-F Tree → Tree
tree_step (Expression-F.Test path condition) = Test (string_bytes path) (condition_of condition)
tree_step (Expression-F.Not e) = Not (box_value e)
tree_step (Expression-F.Implies a b) = Implies (box_value a) (box_value b)
tree_step (Expression-F.Quantified q path e) = Quantified q (string_bytes path) (box_value e)
tree_step (Expression-F.Joined c es) = Joined c (trees_of es.items)
tree_step (Expression-F.AtLeast k es) = AtLeast k (trees_of es.items)

abbrev pub tree_of : Expression → Tree
tree_of = fold-Expression Tree tree_step
