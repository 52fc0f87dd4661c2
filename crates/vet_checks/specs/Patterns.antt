-- What clauses see of a pattern.
use Rattle.regex.specs.declared.string.regex.Regex.{Regex}
use Rattle.vet_checks.specs.declared.pattern.Pattern.{Pattern}

abbrev pub regex_of : Pattern → Regex
regex_of p = p.regex.value
