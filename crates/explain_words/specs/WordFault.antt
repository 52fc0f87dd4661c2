-- What a fault of a word prints.
use Rattle.std.specs.Prelude.{ℕ, List, codes}
use Rattle.explain_words.specs.declared.word_fault.WordFault.{WordFault}
use Rattle.explain_words.specs.declared.word_fault.WordFault.TheVariants.{Operand, Pattern}
use Rattle.explain_words.specs.declared.word_fault.WordFault.TheVariants.{NoMemory}

abbrev pub fault_text : WordFault → List ℕ
fault_text Operand = codes "missing operand"
fault_text Pattern = codes "pattern refused"
fault_text NoMemory = codes "no memory"
