use Rattle.std.proofs.Common.{rules}
use Rattle.explain_words.proofs.Depths.{both_taken}
use Rattle.explain_words.proofs.from_words.take_depth.Goals as goal

pub returns-in-And : goal.returns-in-And
returns-in-And c left operands are two =
    both_taken c.args.depths.now.items c.pop_depth-right.new.depths.items c.pop_depth-left.new.depths.items c.pop_depth-left.result c.pop_depth-right.result c.one_more.result
    c.pop_depth-right.ensures c.pop_depth-left.ensures (search rules) left operands are (search rules)
