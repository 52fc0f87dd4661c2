use Rattle.std.proofs.Common.{◌≡◌, arith}
use Rattle.std.proofs.lemmas.Bool.Decides.{nat_tests}
use Rattle.fast_float.specs.Text.{scan}
use Rattle.serde_json.specs.Find.{index_of}
use Rattle.predicates_json.proofs.at.place.Goals as goal

pub returns-in_err-place : goal.returns-in_err-place
unfolding index_of
returns-in_err-place c =
    let parts : scan c.args.part.now ≡ c.scan-numeral.result = rw (← c.as_bytes-bytes.ensures.value, c.scan-numeral.ensures.parts) in
    rw parts (grind (arith, nat_tests))

pub returns-then-len-bytes : goal.returns-then-len-bytes
unfolding index_of
returns-then-len-bytes c =
    let parts : scan c.args.part.now ≡ c.scan-numeral.result = rw (← c.as_bytes-bytes.ensures.value, c.scan-numeral.ensures.parts) in
    rw parts (grind (arith, nat_tests))

pub returns-then-has_no_leading_zero : goal.returns-then-has_no_leading_zero
unfolding index_of
returns-then-has_no_leading_zero c =
    let parts : scan c.args.part.now ≡ c.scan-numeral.result = rw (← c.as_bytes-bytes.ensures.value, c.scan-numeral.ensures.parts) in
    rw parts (grind (arith, nat_tests))

pub returns-else-has_no_leading_zero : goal.returns-else-has_no_leading_zero
unfolding index_of
returns-else-has_no_leading_zero c =
    let parts : scan c.args.part.now ≡ c.scan-numeral.result = rw (← c.as_bytes-bytes.ensures.value, c.scan-numeral.ensures.parts) in
    rw parts (grind (arith, nat_tests))
