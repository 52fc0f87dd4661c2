-- What the tests of texts against a regular expression print and show, and when they hold.
use Rattle.std.specs.Prelude.{◌≡◌, ℕ, List, ◌++◌, Some, codes, is_some, length, string_bytes}
use Rattle.predicates_core.specs.Label.{Entry}
use Rattle.predicates_core.specs.Formula.{Formula}
use Rattle.regex.specs.Patterns.{Re, find_str, find_all_str, default_config}
use Rattle.regex.specs.Strings.{regex_pattern, regex_source, regex_config, IsReadFromSource}
use Rattle.regex.specs.declared.string.regex.Regex.{Regex}
use Rattle.predicates_text.specs.Leaves.{text_leaf, number_leaf}
use Rattle.predicates_text.specs.declared.text_test.TextTestPredicate.{TextTestPredicate}
use Rattle.predicates_text.specs.declared.expressions.is_match.RegexPredicate.{RegexPredicate}
use Rattle.predicates_text.specs.declared.text_count.TextCountPredicate.{TextCountPredicate}

-- the pattern, as it was written
abbrev pub regex_text : TextTestPredicate RegexPredicate → List ℕ
regex_text p = string_bytes p.test.pattern

abbrev pub regex_matches_text : TextCountPredicate RegexPredicate → List ℕ
regex_matches_text p = string_bytes p.counted.pattern

-- what `regex` reads in it
abbrev pub regex_meaning : TextTestPredicate RegexPredicate → Re
regex_meaning p = regex_pattern p.test.regex.value

abbrev pub regex_matches_meaning : TextCountPredicate RegexPredicate → Re
regex_matches_meaning p = regex_pattern p.counted.regex.value

-- how many matches there have to be
abbrev pub regex_matches_count : TextCountPredicate RegexPredicate → ℕ
regex_matches_count p = p.count

-- the meaning is what the grammar of `regex` reads in the pattern, under its default options
pub record IsReadFrom (pattern : List ℕ) (regex : Regex) : Type 0 where
  pub same_text : regex_source regex ≡ pattern
  pub default_options : regex_config regex ≡ default_config
  pub by_grammar : IsReadFromSource regex

abbrev pub IsReadFromText : TextTestPredicate RegexPredicate → Type 0
IsReadFromText p = IsReadFrom (string_bytes p.test.pattern) p.test.regex.value

-- how these tests are printed
abbrev pub match_text : List ℕ → Entry
match_text pattern = Some (codes "var.is_match(" ++ (pattern ++ codes ")"))

-- the pattern has a match in the text
abbrev pub match_formula : List ℕ → Re → List ℕ → Formula
match_formula pattern meaning bytes = text_leaf (match_text pattern) bytes
    (is_some (find_str meaning bytes 0))

-- the pattern has `count` matches in the text
abbrev pub match_count_formula : List ℕ → Re → ℕ → List ℕ → Formula
match_count_formula pattern meaning count bytes = number_leaf (match_text pattern) bytes
    (length (find_all_str meaning bytes)) count
