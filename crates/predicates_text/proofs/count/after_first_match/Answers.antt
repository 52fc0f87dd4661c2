use Rattle.std.proofs.Common.{None, Some, refl}
use Rattle.predicates_text.proofs.Counting.{past_front, past_place, nowhere, filled}
use Rattle.predicates_text.proofs.Counting.{found_at_front, cut_front, cut_found, past_found, nowhere_found}
use Rattle.predicates_text.proofs.Searching.{of_texts}
use Rattle.predicates_text.proofs.count.after_first_match.Goals as goal

pub returns-then-is_prefix : goal.returns-then-is_prefix
returns-then-is_prefix c =
    let found = found_at_front c.args.pattern.now c.args.text.now _ _ c.as_bytes-wanted.ensures.value c.as_bytes-bytes.ensures.value (c.if-is_prefix.ensures.0 refl) in
    past_front c.args.pattern.now c.args.text.now c.range_from.result.now c.utf8.pattern c.utf8.text (filled c.args.pattern.now c.requires.some) found c.range_from.ensures.value

pub range_from-requires : goal.range_from-requires
range_from-requires c =
    let found = found_at_front c.args.pattern.now c.args.text.now _ _ c.as_bytes-wanted.ensures.value c.as_bytes-bytes.ensures.value (c.if-is_prefix.ensures.0 refl) in
    λ _. cut_front c.args.pattern.now c.args.text.now c.utf8.pattern c.utf8.text found

pub returns-in_err-rest : goal.returns-in_err-rest
returns-in_err-rest c = rw c.from_residual.ensures (nowhere c.args.pattern.now c.args.text.now c.utf8.pattern c.utf8.text c.in_err-rest.ensures.cases)

pub returns-in_default : goal.returns-in_default
returns-in_default c = past_place c.args.pattern.now c.args.text.now _ c.in_ok-rest.rest.now c.utf8.pattern c.utf8.text (filled c.args.pattern.now c.requires.some) c.in_ok-rest.ensures.cases

pub returns-in_err-place : goal.returns-in_err-place
returns-in_err-place c =
    let found = of_texts c.args.pattern.now c.args.text.now _ _ None c.as_bytes-wanted.ensures.value c.as_bytes-bytes.ensures.value c.in_err-place.ensures in
    rw c.from_residual-in_err-place.ensures (nowhere_found c.args.pattern.now c.args.text.now c.utf8.pattern c.utf8.text found)

pub range_from-requires-2 : goal.range_from-requires-2
range_from-requires-2 c =
    let found = of_texts c.args.pattern.now c.args.text.now _ _ (Some c.in_ok-place.place) c.as_bytes-wanted.ensures.value c.as_bytes-bytes.ensures.value c.in_ok-place.ensures in
    λ _. cut_found c.args.pattern.now c.args.text.now c.in_ok-place.place c.utf8.pattern c.utf8.text found

pub returns : goal.returns
returns c =
    let found = of_texts c.args.pattern.now c.args.text.now _ _ (Some c.in_ok-place.place) c.as_bytes-wanted.ensures.value c.as_bytes-bytes.ensures.value c.in_ok-place.ensures in
    past_found c.args.pattern.now c.args.text.now c.range_from-2.result.now c.in_ok-place.place c.utf8.pattern c.utf8.text (filled c.args.pattern.now c.requires.some) found c.range_from-2.ensures.value
