-- A phrase takes tokens from the front.
use Rattle.std.proofs.Common.{ℕ, ◌<◌, ◌≤◌, List, Option, length, arith}
use Rattle.vet_rules.specs.declared.expression.HowMany.{HowMany}
use Rattle.vet_rules.specs.declared.parser.Separator.{Separator}
use Rattle.vet_rules.specs.Signs.{Sign}
use Rattle.vet_rules.specs.Conditions.{Condition}
use Rattle.vet_rules.specs.Trees.{Tree, Trees}
use Rattle.vet_rules.specs.Grammar.{Level, Items, last, another, IsList, no_items, items, IsCondition, word, compare, compare_with, has_length, of_kind, relate, among, IsQuantifier, each, any, at_least_items, Spells, test, keys, denied, group, quantified, at_least, alone, joined, no_if, implied, premise, Follow, no_more, and_more}

items_shorten : {A : Type 0} {seen : Sign → Option A} {ts : List Sign} {vs : List A} {rest : List Sign} → Items seen ts vs rest → length rest < length ts
items_shorten (last h) = omega arith
items_shorten (another h i) = omega (arith, items_shorten i)

list_shortens : {A : Type 0} {seen : Sign → Option A} {ts : List Sign} {vs : List A} {rest : List Sign} → IsList seen ts vs rest → length rest < length ts
list_shortens no_items = omega arith
list_shortens (items i) = omega (arith, items_shorten i)

condition_shortens : {ts : List Sign} {t : Condition} {rest : List Sign} → IsCondition ts t rest → length rest < length ts
condition_shortens word = omega arith
condition_shortens (compare h) = omega arith
condition_shortens compare_with = omega arith
condition_shortens has_length = omega arith
condition_shortens of_kind = omega arith
condition_shortens (relate h) = omega arith
condition_shortens (among l) = omega (arith, list_shortens l)

quantifier_shortens : {ts : List Sign} {q : HowMany} {rest : List Sign} → IsQuantifier ts q rest → length rest < length ts
quantifier_shortens each = omega arith
quantifier_shortens any = omega arith
quantifier_shortens at_least_items = omega arith

mutual
  pub spells_shortens : {n : ℕ} {l : Level} {ts : List Sign} {e : Tree} {rest : List Sign} → Spells n l ts e rest → length rest < length ts
  spells_shortens (test h t) = omega (arith, condition_shortens t)
  spells_shortens (keys h l) = omega (arith, list_shortens l)
  spells_shortens (denied d) = omega (arith, spells_shortens d)
  spells_shortens (group d) = omega (arith, spells_shortens d)
  spells_shortens (quantified h q d) = omega (arith, quantifier_shortens q, spells_shortens d)
  spells_shortens (at_least d f) = omega (arith, spells_shortens d, follow_shortens f)
  spells_shortens (alone d) = spells_shortens d
  spells_shortens (joined d f) = omega (arith, spells_shortens d, follow_shortens f)
  spells_shortens (no_if d) = spells_shortens d
  spells_shortens (implied d g) = omega (arith, spells_shortens d, spells_shortens g)
  spells_shortens (premise d) = spells_shortens d

  pub follow_shortens : {n : ℕ} {s : Separator} {ts : List Sign} {es : Trees} {rest : List Sign} → Follow n s ts es rest → length rest ≤ length ts
  follow_shortens no_more = omega arith
  follow_shortens (and_more d f) = omega (arith, spells_shortens d, follow_shortens f)
