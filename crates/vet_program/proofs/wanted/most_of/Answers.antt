use Rattle.vet_program.proofs.Numbers.{reads_number}
use Rattle.vet_program.proofs.wanted.most_of.Goals as goal

pub returns : goal.returns
returns c = record { absent = c.get_one.ensures.none; given = λ text e. reads_number text _ (c.get_one.ensures.value text e) }
