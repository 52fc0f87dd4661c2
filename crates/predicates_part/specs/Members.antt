-- A predicate of the members of a list, made of how many have to hold and a predicate of a member.
use Rattle.std.specs.Prelude.{ℕ, List, [], ◌∷◌, Option, Some, codes}
use Rattle.std.specs.Fmt.{◌++?◌}
use Rattle.predicates_core.specs.Thresholds.{counted_text}
use Rattle.predicates_core.specs.declared.custom.quantifier.AtLeast.{AtLeast}
use Rattle.predicates_core.specs.declared.custom.quantifier.HowMany.{HowMany}
use Rattle.predicates_core.specs.declared.custom.quantifier.HowMany.TheVariants as many
use Rattle.predicates_part.specs.declared.members.MembersPredicate.{MembersPredicate}

abbrev pub inner_of : {Q P : Type 0} → MembersPredicate Q P → P
inner_of p = p.inner

abbrev pub quantifier_of : {Q P : Type 0} → MembersPredicate Q P → Q
quantifier_of p = p.quantifier

-- the number of a threshold
abbrev pub needed_of : {P : Type 0} → MembersPredicate AtLeast P → ℕ
needed_of p = p.quantifier.least

-- a word, and what it is applied to in parentheses
abbrev pub applied_text : List ℕ → Option (List ℕ) → Option (List ℕ)
applied_text word inner = Some word ++? Some (codes "(") ++? inner ++? Some (codes ")")

-- what is printed of the predicate of a member with this text
abbrev pub members_text : HowMany → Option (List ℕ) → Option (List ℕ)
members_text many.Every inner = applied_text (codes "each") inner
members_text many.AtLeastOne inner = applied_text (codes "any") inner
members_text (many.AtLeast k) inner = counted_text (codes "at_least") k (inner ∷ [])
