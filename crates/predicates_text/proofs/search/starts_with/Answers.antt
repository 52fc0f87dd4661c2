use Rattle.std.proofs.Common.{◌↔◌, IsTrue, subst}
use Rattle.std.specs.Str.{chars}
use Rattle.predicates_text.specs.Places.{IsFrontOf}
use Rattle.predicates_text.proofs.Found.{starts_chars, front_chars, of_one}
use Rattle.predicates_text.specs.PlaceLaws.{front_decides, same_test}
use Rattle.predicates_text.proofs.search.starts_with.Goals as goal

pub returns-in-len1-clause-front : goal.returns-in-len1-clause-front
returns-in-len1-clause-front c =
    let p = c.args.pattern.now in
    let t = c.args.text.now in
    front_chars p t c.begins_with.result c.utf8.pattern c.utf8.text
    (subst (λ s. IsTrue c.begins_with.result ↔ IsFrontOf s t) (of_one p (rw c.as_bytes.ensures.value at c.in-len1.len_at_least) (rw c.as_bytes.ensures.value at c.in-len1.len_below))
    (rw (c.as_bytes.ensures.value, c.as_bytes-in-len1.ensures.value) at c.begins_with.ensures))

pub returns-in-len1-clause-value : goal.returns-in-len1-clause-value
returns-in-len1-clause-value c = same_test _ _ (returns-in-len1-clause-front c) (front_decides (chars c.args.pattern.now) (chars c.args.text.now))

pub returns : goal.returns
returns c =
    let is = starts_chars c.args.pattern.now c.args.text.now c.starts_with.result c.utf8.pattern c.utf8.text c.starts_with.ensures.cases in
    record { front = is; value = same_test _ _ is (front_decides _ _) }
