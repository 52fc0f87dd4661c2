use Rattle.std.proofs.Common.{rules, ◌≡◌, sym, ap, ◌+◌, length, arith, subst}
use Rattle.std.specs.Str.{chars}
use Rattle.std.proofs.lemmas.List.{nil_from_length}
use Rattle.std.proofs.lemmas.Str.{chars_from_encodes}
use Rattle.predicates_text.specs.Count.{IsCountOf}
use Rattle.predicates_text.specs.CountLaws.{count_of_is}
use Rattle.predicates_text.proofs.OneByte.{byte_count}
use Rattle.predicates_text.proofs.Counting.{count_empty_text, counted_on}
use Rattle.predicates_text.proofs.count.count.Goals as goal

pub returns-then-is_empty : goal.returns-then-is_empty
returns-then-is_empty c =
    let counted : c.count.result ≡ length (chars c.args.text.now) = search (rules, chars_from_encodes) in
    let none : length c.args.pattern.now ≡ 0 = grind arith in
    let counts = count_empty_text c.args.pattern.now c.args.text.now c.count.result c.utf8.pattern none counted in
    record {
      greatest = counts;
      bytes = λ some. absurd (some (nil_from_length c.args.pattern.now none));
      empty = λ _. ap (λ n. n + 1) counted;
      value = count_of_is (chars c.args.pattern.now) (chars c.args.text.now) (c.count.result + 1) counts;
    }

pub loop-after-preserved : goal.loop-after-preserved
loop-after-preserved c =
    let next = c.in-Some.ensures in (
      search rules,
      omega (arith, next.shorter, c.loop-after.invariant.1),
      counted_on c.args.pattern.now c.args.text.now c.loop-after.rest.now c.in-Some.after.now c.loop-after.count c.loop-after.invariant.2 next,
    )

pub returns : goal.returns
returns c =
    let same : c.loop-after.count + 0 ≡ c.loop-after.count = omega arith in
    let none = c.in_default-after_first_match.ensures in
    let counts = subst (λ m. IsCountOf (chars c.args.pattern.now) (chars c.args.text.now) m) same
    (c.loop-after.invariant.2.among_characters 0 none.among_characters) in
    record {
      greatest = counts;
      bytes = λ _. subst (λ m. IsCountOf c.args.pattern.now c.args.text.now m) same (c.loop-after.invariant.2.among_bytes 0 none.among_bytes);
      empty = λ e. absurd (grind (arith, ap length e));
      value = count_of_is (chars c.args.pattern.now) (chars c.args.text.now) c.loop-after.count counts;
    }

pub returns-then-is_ascii : goal.returns-then-is_ascii
returns-then-is_ascii c =
    let known = byte_count c.args.pattern.now c.args.text.now c.as_bytes.result.now c.count_byte.result c.as_bytes.ensures.value c.in-len1.len_at_least c.in-len1.len_below (sym c.if-is_ascii.ensures) c.utf8.text c.count_byte.ensures in
    record {
      greatest = known.among_characters;
      bytes = λ _. known.among_bytes;
      empty = λ e. absurd (grind (arith, c.in-len1.len_at_least, ap length e, ap length c.as_bytes.ensures.value));
      value = known.value;
    }
