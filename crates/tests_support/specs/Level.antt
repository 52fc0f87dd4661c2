-- What a predicate of a level means, by its type, from what those of the level below mean.
use Rattle.std.specs.Prelude.{◌≡◌, ℕ, List, Option, Some}
use Rattle.predicates_core.specs.Label.{FitsEntry}
use Rattle.predicates_core.specs.Formula.{Formula, text_of}
use Rattle.predicates_core.specs.declared.custom.join.Operator.{Operator}
use Rattle.predicates_core.specs.declared.custom.join.Operator.TheVariants.{And, Or, Xor}
use Rattle.predicates_core.specs.declared.name.NamePredicate.{NamePredicate}
use Rattle.predicates_core.specs.Name as Name
use Rattle.predicates_core.specs.Combined.{infix_text, not_text, sign, IsPair, IsNot, IsNamed}
use Rattle.predicates_core.proofs.CombinedLemmas.{pair_text_fits, not_text_fits, named_text_fits}
use Rattle.predicates_core.proofs.CombinedLemmas.{one_pair, one_not, one_named}
use Rattle.predicates_boolean.specs.declared.boolean.join.JoinPredicate.{JoinPredicate}
use Rattle.predicates_boolean.specs.declared.boolean.join.AndOperator.{AndOperator}
use Rattle.predicates_boolean.specs.declared.boolean.join.OrOperator.{OrOperator}
use Rattle.predicates_boolean.specs.declared.boolean.join.XorOperator.{XorOperator}
use Rattle.predicates_boolean.specs.declared.boolean.not.NotPredicate.{NotPredicate}
use Rattle.predicates_boolean.specs.Join.{left_of, right_of}
use Rattle.predicates_boolean.specs.Not as Not
use Rattle.tests_support.specs.declared.one_of.OneOf.{OneOf}
use Rattle.tests_support.specs.OneOf.{by_type, fact_by_type, text_fits_by_type}
use Rattle.tests_support.specs.OneOf.{lawful_by_type, one_by_type}

module _ (P Item : Type 0) where
  -- the combinators over predicates of the level below
  abbrev pub OneCombined : Type 0
  OneCombined = OneOf (NotPredicate P Item) (NamePredicate P Item (List ℕ))

  abbrev pub ChoiceCombined : Type 0
  ChoiceCombined = OneOf (JoinPredicate OrOperator P P Item) (JoinPredicate XorOperator P P Item)

  abbrev pub OfLevel : Type 0
  OfLevel = OneOf P (OneOf OneCombined (OneOf (JoinPredicate AndOperator P P Item) ChoiceCombined))

module _ {P Item : Type 0} where
  -- a fact of each part
  abbrev pub of_parts : (P → Type 0) → OfLevel P Item → Type 0
  of_parts fact = fact_by_type
      fact
      (fact_by_type
      (fact_by_type (λ q. fact (Not.inner_of q)) (λ q. fact (Name.inner_of q)))
      (fact_by_type
      (λ q. fact (left_of q) × fact (right_of q))
      (fact_by_type
      (λ q. fact (left_of q) × fact (right_of q))
      (λ q. fact (left_of q) × fact (right_of q)))))

  -- what holds of all predicates of the level below holds of the parts
  pub all_parts : {fact : P → Type 0} → ((p : P) → fact p) → (p : OfLevel P Item) → of_parts fact p
  all_parts all = lawful_by_type
      all
      (lawful_by_type
      (lawful_by_type (λ q. all (Not.inner_of q)) (λ q. all (Name.inner_of q)))
      (lawful_by_type
      (λ q. (all (left_of q), all (right_of q)))
      (lawful_by_type
      (λ q. (all (left_of q), all (right_of q)))
      (λ q. (all (left_of q), all (right_of q))))))

  module _ (output : P → Option (List ℕ)) where
    abbrev pair_output : {O : Type 0} → Operator → JoinPredicate O P P Item → Option (List ℕ)
    pair_output op q = infix_text (sign op) (output (left_of q)) (output (right_of q))

    -- what is printed
    abbrev pub level_output : OfLevel P Item → Option (List ℕ)
    level_output = by_type
        output
        (by_type
        (by_type (λ q. not_text (output (Not.inner_of q))) (λ q. Some (Name.name_of q)))
        (by_type
        (pair_output And)
        (by_type (pair_output Or) (pair_output Xor))))

    module _ (formula : P → Formula → Type 0) where
      abbrev is_not : NotPredicate P Item → Formula → Type 0
      is_not q = IsNot (not_text (output (Not.inner_of q))) (formula (Not.inner_of q))

      abbrev is_named : NamePredicate P Item (List ℕ) → Formula → Type 0
      is_named q = IsNamed (Name.name_of q) (formula (Name.inner_of q))

      abbrev is_pair : {O : Type 0} → Operator → JoinPredicate O P P Item → Formula → Type 0
      is_pair op q = IsPair op (pair_output op q) (formula (left_of q)) (formula (right_of q))

      -- the formula of a predicate of the level
      abbrev pub level_formula : OfLevel P Item → Formula → Type 0
      level_formula p f = fact_by_type
          (λ q. formula q f)
          (fact_by_type
          (fact_by_type (λ q. is_not q f) (λ q. is_named q f))
          (fact_by_type (λ q. is_pair And q f)
          (fact_by_type (λ q. is_pair Or q f) (λ q. is_pair Xor q f))))
          p

      -- the text of the formula fits, where it does below
      pub level_text_fits : ((p : P) (f : Formula) → formula p f → FitsEntry (text_of f) (output p))
          → (p : OfLevel P Item) (f : Formula) → level_formula p f
          → FitsEntry (text_of f) (level_output p)
      level_text_fits below = text_fits_by_type _ _ _ _
          below
          (text_fits_by_type _ _ _ _
          (text_fits_by_type is_not is_named _ _ (λ q f h. not_text_fits h)
          (λ q f h. named_text_fits h))
          (text_fits_by_type (is_pair And) _ _ _
          (λ q f h. pair_text_fits h)
          (text_fits_by_type (is_pair Or) (is_pair Xor) _ _ (λ q f h. pair_text_fits h)
          (λ q f h. pair_text_fits h))))

      -- there is one formula, where there is one below
      pub one_of_level : {lawful : P → Type 0}
          → ((p : P) (f g : Formula) → lawful p → formula p f → formula p g → f ≡ g)
          → (p : OfLevel P Item) (f g : Formula) → of_parts lawful p → level_formula p f
          → level_formula p g → f ≡ g
      one_of_level below = one_by_type
          below
          (one_by_type
          (one_by_type
          (λ q f g lawful. one_not (λ x y. below (Not.inner_of q) x y lawful))
          (λ q f g lawful. one_named (λ x y. below (Name.inner_of q) x y lawful)))
          (one_by_type
          (λ q f g lawful. one_pair (λ x y. below (left_of q) x y lawful.0)
          (λ x y. below (right_of q) x y lawful.1))
          (one_by_type
          (λ q f g lawful. one_pair (λ x y. below (left_of q) x y lawful.0)
          (λ x y. below (right_of q) x y lawful.1))
          (λ q f g lawful. one_pair (λ x y. below (left_of q) x y lawful.0)
          (λ x y. below (right_of q) x y lawful.1)))))
