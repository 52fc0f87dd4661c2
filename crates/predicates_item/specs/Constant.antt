-- What a constant answers.
use Rattle.std.specs.Prelude.{Bool}
use Rattle.predicates_item.specs.declared.constant.BooleanPredicate.{BooleanPredicate}

abbrev pub answer_of : {Item : Type 0} → BooleanPredicate Item → Bool
answer_of p = p.retval
