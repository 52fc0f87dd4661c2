use Rattle.std.proofs.Common.{◌+◌, [], ◌∷◌, ◌++◌, take, string_bytes, rules, arith, sym, subst}
use Rattle.explain_words.specs.Postfix.{Makes, IsFirstProblem, written}
use Rattle.explain_words.proofs.Postfix.{Makes-more, mapped-more, bad_word}
use Rattle.explain_words.proofs.from_words.take_words.Goals as goal

pub returns-in-Some-clause-error : goal.returns-in-Some-clause-error
returns-in-Some-clause-error c =
    let words = c.args.words.now in
    let word = c.index-words-index.result in
    let wrong : IsFirstProblem c.in-Some.problem c.loop-index.checks.items (string_bytes word) = (c.loop-index.invariant.1.1, search rules) in
    bad_word words c.loop-index.index (c.loop-index.index + 1) word c.in_ok-word.word c.loop-index.checks.items c.in-Some.problem (omega arith) c.index-words-index.is
    c.loop-index.invariant.0 wrong (omega arith) (search rules)

pub loop-index-preserved : goal.loop-index-preserved
loop-index-preserved c =
    let words = c.args.words.now in
    let word = c.index-words-index.result in
    let made : Makes (string_bytes word ∷ []) c.loop-index.checks.items c.take_word.new.checks.items = search rules in
    let all : Makes (written (take c.loop-index.index words) ++ string_bytes word ∷ []) [] c.take_word.new.checks.items = Makes-more (written (take c.loop-index.index words)) (string_bytes word ∷ []) [] c.loop-index.checks.items c.take_word.new.checks.items c.loop-index.invariant.0 made in
    let same = mapped-more string_bytes words c.loop-index.index word (omega arith) c.index-words-index.is in
    search (rules, subst (λ tokens. Makes tokens [] c.take_word.new.checks.items) (sym same) all)
