use Rattle.std.proofs.Common.{string_bytes}
use Rattle.predicates_core.specs.Tally.{kind_of}
use Rattle.explain_words.proofs.LeafChecks.{answer_of_leaf}
use Rattle.explain_words.proofs.check.TextCheck.answer_leaf.Goals as goal

pub returns : goal.returns
returns c = answer_of_leaf (kind_of c.args.question.turns) c.args.self.now (string_bytes c.args.question.item.now) c.args.question.wanted c.explain_leaf.result c.explain_leaf.new.found c.requires c.explain_leaf.ensures
