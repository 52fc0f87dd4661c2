-- A predicate that is made of how many have to hold and a list of predicates.
use Rattle.std.specs.Prelude.{ℕ, suc, List, length, Option, codes, cond, nat_lt}
use Rattle.predicates_core.specs.HowMany.{least_of}
use Rattle.predicates_core.specs.Several.{listed_text}
use Rattle.predicates_core.specs.Thresholds.{counted_text}
use Rattle.predicates_core.specs.declared.custom.quantifier.AtLeast.{AtLeast}
use Rattle.predicates_core.specs.declared.custom.quantifier.HowMany.{HowMany}
use Rattle.predicates_core.specs.declared.custom.quantifier.HowMany.TheVariants as many
use Rattle.predicates_boolean.specs.declared.rules.RulesPredicate.{RulesPredicate}

abbrev pub rules_of : {Q P : Type 0} → RulesPredicate Q P → List P
rules_of p = p.rules.items

abbrev pub quantifier_of : {Q P : Type 0} → RulesPredicate Q P → Q
quantifier_of p = p.quantifier

-- how many of the rules have to hold
abbrev pub least_of_rules : {Q P : Type 0} → (Q → HowMany) → RulesPredicate Q P → ℕ
least_of_rules how_many p = least_of (how_many p.quantifier) (length p.rules.items)

-- the number of a threshold
abbrev pub needed_of : {P : Type 0} → RulesPredicate AtLeast P → ℕ
needed_of p = p.quantifier.least

-- one more than the number, or the number itself where no `usize` is larger
abbrev pub one_more : ℕ → ℕ
one_more n = cond (nat_lt n 18446744073709551615) (suc n) n

-- what is printed of rules with these texts
abbrev pub rules_text : HowMany → List (Option (List ℕ)) → Option (List ℕ)
rules_text many.Every texts = listed_text (codes "all_of") texts
rules_text many.AtLeastOne texts = listed_text (codes "any_of") texts
rules_text (many.AtLeast k) texts = counted_text (codes "at_least") k texts
