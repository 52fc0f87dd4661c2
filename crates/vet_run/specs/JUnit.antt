-- The document that readers of JUnit's reports take: a test case for each rule.
use Rattle.std.specs.Prelude.{◌==◌, ◌+◌, ◌++◌, nat_lt, ℕ, List, [], ◌∷◌, Bool, true, false}
use Rattle.std.specs.Prelude.{if◌then◌else◌, codes, decimal, get_or, slice_index, length, filter}
use Rattle.vet_run.specs.Xml.{xml_text}

-- how many records break a rule, in words
abbrev pub breaks_text : ℕ → List ℕ
breaks_text count =
    decimal count
    ++ (if count == 1 then codes " record breaks it" else codes " records break it")

-- the failure of a rule, with the block of the first record that breaks it
unfoldable pub failure_text : ℕ → List ℕ → List ℕ
failure_text count block =
    codes "><failure message=\""
    ++ (breaks_text count
    ++ (codes "\">"
    ++ (xml_text block ++ codes "</failure></testcase>\n")))

-- what the test case of a rule has in it
abbrev pub content_text : ℕ → List ℕ → List ℕ
content_text count block = if nat_lt 0 count then failure_text count block else codes "/>\n"

-- the test case of a rule
unfoldable pub rule_text : List ℕ → ℕ → List ℕ → List ℕ
rule_text name count block =
    codes "<testcase name=\""
    ++ (xml_text name
    ++ (codes "\" classname=\"vet\"" ++ content_text count block))

-- those of the rules from this number on
abbrev pub rules_text : ℕ → List (List ℕ) → List ℕ → List (List ℕ) → List ℕ
rules_text i [] counts blocks = []
rules_text i (name ∷ names) counts blocks =
    rule_text name (slice_index counts i) (get_or blocks i [])
    ++ rules_text (i + 1) names counts blocks

-- how many counts are not 0
abbrev pub failures : List ℕ → ℕ
failures counts = length (filter (λ n. nat_lt 0 n) counts)

-- the test case of the lines where so many are unreadable
unfoldable pub unreadable_text : ℕ → List ℕ
unreadable_text count =
    codes "<testcase name=\"lines\" classname=\"input\"><error message=\""
    ++ (decimal count ++ codes " unreadable\"/></testcase>\n")

abbrev pub lines_text : ℕ → List ℕ
lines_text count = if nat_lt 0 count then unreadable_text count else []

-- the test case of the files: there is one where some could not be read
abbrev pub files_text : Bool → List ℕ
files_text true = []
files_text false =
    codes "<testcase name=\"files\" classname=\"input\"><error message=\"not all could be read\"/></testcase>\n"

-- how many of these two there are
abbrev pub errors : ℕ → Bool → ℕ
errors unreadable all_read = (if nat_lt 0 unreadable then 1 else 0) + (if all_read then 0 else 1)

-- how many test cases there are, and how many of them are failures and errors
abbrev pub totals_text : ℕ → ℕ → ℕ → List ℕ
totals_text tests failed wrong =
    codes " tests=\""
    ++ (decimal tests
    ++ (codes "\" failures=\""
    ++ (decimal failed
    ++ (codes "\" errors=\""
    ++ (decimal wrong ++ codes "\">\n")))))

-- the document up to the first test case
unfoldable pub head_text : List ℕ → ℕ → ℕ → ℕ → List ℕ
head_text name tests failed wrong =
    codes "<?xml version=\"1.0\" encoding=\"UTF-8\"?>\n<testsuites>\n<testsuite name=\""
    ++ (xml_text name
    ++ (codes "\"" ++ totals_text tests failed wrong))

-- the document of the rules in the file of this name
unfoldable pub document_text : List ℕ → List (List ℕ) → List ℕ → List (List ℕ) → ℕ → Bool → List ℕ
document_text name rules counts blocks unreadable all_read =
    head_text name (length rules + errors unreadable all_read)
    (failures counts) (errors unreadable all_read)
    ++ (rules_text 0 rules counts blocks
    ++ (lines_text unreadable
    ++ (files_text all_read ++ codes "</testsuite>\n</testsuites>\n")))
