use Rattle.std.proofs.Common.{rules}
use Rattle.explain_words.proofs.Depths.{still_tracked}
use Rattle.explain_words.proofs.from_words.take_word.Goals as goal

pub returns : goal.returns
returns c =
    let tracked = still_tracked c.in-Some.word c.args.checks.now.items c.apply_word.new.stack.items c.args.depths.now.items c.take_depth-depth.new.depths.items c.in-Some-depth.depth in
    search (rules, tracked)
