-- What is told of lines of a file that say no rule.
use Rattle.std.specs.Prelude.{ℕ, zero, suc, List, [], ◌∷◌, map, Option, Some, codes, decimal}
use Rattle.std.specs.Prelude.{string_bytes}
use Rattle.std.specs.Fmt.{◌++?◌}
use Rattle.vet_rules.specs.Messages.{fault_text}
use Rattle.vet_rules.specs.Quoting.{quoted_text}
use Rattle.vet_checks.specs.Refusals.{fault_text as reason_text}
use Rattle.vet_run.specs.declared.rule_fault.RuleFault.{RuleFault}
use Rattle.vet_run.specs.declared.rule_fault.RuleFault.TheVariants.{Unreadable, Pattern, More}

-- no part of it is left open
abbrev pub rule_fault_text : RuleFault → Option (List ℕ)
rule_fault_text (Unreadable fault) = Some (fault_text fault)
rule_fault_text (Pattern line rule fault) =
    Some (codes "line ") ++? Some (decimal line) ++? Some (codes ", rule ")
    ++? Some (quoted_text (string_bytes rule)) ++? Some (codes ": no regular expression: ")
    ++? Some (reason_text (string_bytes fault.reason) fault.column) ++? Some (codes ": ")
    ++? Some (quoted_text (string_bytes fault.pattern))
rule_fault_text More = Some (codes "more lines have faults")

-- one behind the other
abbrev pub joined_texts : List (Option (List ℕ)) → Option (List ℕ)
joined_texts [] = Some []
joined_texts (t ∷ ts) = t ++? joined_texts ts

abbrev pub behind_line_feed : Option (List ℕ) → Option (List ℕ)
behind_line_feed t = Some (codes "\n") ++? t

-- line feeds between them
abbrev pub texts_of_lines : List (Option (List ℕ)) → Option (List ℕ)
texts_of_lines [] = Some []
texts_of_lines (t ∷ ts) = t ++? joined_texts (map behind_line_feed ts)

-- a text behind so many lines
abbrev pub text_behind : ℕ → Option (List ℕ) → Option (List ℕ)
text_behind zero t = t
text_behind (suc k) t = behind_line_feed t

-- a line of the program about the rules at the path
abbrev pub told_line : List ℕ → Option (List ℕ) → Option (List ℕ)
told_line path t =
    Some (codes "vet: ") ++? Some path ++? Some (codes ": ") ++? t ++? Some (codes "\n")
