use Rattle.std.proofs.Common.{arith}
use Rattle.std.proofs.lemmas.Str.Pattern.{strip_prefix_char}
use Rattle.vet_program.proofs.Untold.{untold_is}
use Rattle.vet_program.proofs.words.untold.Goals as goal

pub returns : goal.returns
returns c = untold_is c.args.word.now c.strip_prefix.result (strip_prefix_char 0 c.args.word.now c.strip_prefix.result c.strip_prefix.ensures.cases (omega arith))
