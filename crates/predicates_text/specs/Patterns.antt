-- What the tests of texts were made with.
use Rattle.std.specs.Prelude.{ℕ, List, string_bytes}
use Rattle.predicates_text.specs.declared.text_test.TextTestPredicate.{TextTestPredicate}
use Rattle.predicates_text.specs.declared.basics.starts_with.StartsWithPredicate.{
  StartsWithPredicate,
}
use Rattle.predicates_text.specs.declared.basics.ends_with.EndsWithPredicate.{EndsWithPredicate}
use Rattle.predicates_text.specs.declared.basics.contains.ContainsPredicate.{ContainsPredicate}
use Rattle.predicates_text.specs.declared.basics.eq_ignore_case.EqIgnoreCasePredicate.{
  EqIgnoreCasePredicate,
}
use Rattle.predicates_text.specs.declared.text_count.TextCountPredicate.{TextCountPredicate}

-- the pattern that is looked for
abbrev pub starts_pattern : TextTestPredicate StartsWithPredicate → List ℕ
starts_pattern p = string_bytes p.test.pattern

abbrev pub ends_pattern : TextTestPredicate EndsWithPredicate → List ℕ
ends_pattern p = string_bytes p.test.pattern

abbrev pub contains_pattern : TextTestPredicate ContainsPredicate → List ℕ
contains_pattern p = string_bytes p.test.pattern

abbrev pub matches_pattern : TextCountPredicate ContainsPredicate → List ℕ
matches_pattern p = string_bytes p.counted.pattern

-- the text that is compared with
abbrev pub eq_ignore_case_other : TextTestPredicate EqIgnoreCasePredicate → List ℕ
eq_ignore_case_other p = string_bytes p.test.other

-- how often it has to be there
abbrev pub matches_count : TextCountPredicate ContainsPredicate → ℕ
matches_count p = p.count
