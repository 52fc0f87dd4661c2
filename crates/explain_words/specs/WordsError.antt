-- What an error of words prints.
use Rattle.std.specs.Prelude.{ℕ, List, ◌++◌, Option, Some, codes, decimal, string_bytes}
use Rattle.std.specs.Fmt.{◌++?◌, debug_str}
use Rattle.explain_words.specs.declared.word_problem.WordProblem.{WordProblem}
use Rattle.explain_words.specs.declared.word_problem.WordProblem.TheVariants as problems
use Rattle.explain_words.specs.declared.words_error.WordsError.{WordsError}
use Rattle.explain_words.specs.declared.words_error.WordsError.TheVariants as errors

abbrev pub problem_text : WordProblem → List ℕ
problem_text problems.NoSuchWord = codes "no such word"
problem_text problems.TooFewChecks = codes "takes more checks than there are"
problem_text problems.BadExpression = codes "regular expression rejected"
problem_text problems.TooDeep = codes "check nested too deep"

abbrev pub error_text : WordsError → Option (List ℕ)
error_text (errors.BadWord place word problem) =
    Some (codes "word ") ++? Some (decimal place) ++? Some (codes ", ")
    ++? debug_str (string_bytes word) ++? Some (codes ": ") ++? Some (problem_text problem)
error_text (errors.NotOne count) = Some (decimal count ++ codes " checks are left, not one")
error_text errors.NoMemory = Some (codes "no memory")
