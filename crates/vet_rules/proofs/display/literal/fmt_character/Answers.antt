use Rattle.std.proofs.Common.{arith}
use Rattle.vet_rules.proofs.Escaped.{quote_escaped, backslash_escaped, backspace_escaped, form_feed_escaped, line_feed_escaped, carriage_return_escaped, tab_escaped, control_character, plain_character}
use Rattle.vet_rules.proofs.display.literal.fmt_character.Goals as goal

pub returns-in-34 : goal.returns-in-34
returns-in-34 g c = rw (c.in-34.is, quote_escaped) c.write_str.ensures.writes

pub returns-in-92 : goal.returns-in-92
returns-in-92 g c = rw (c.in-92.is, backslash_escaped) c.write_str-in-92.ensures.writes

pub returns-in-8 : goal.returns-in-8
returns-in-8 g c = rw (c.in-8.is, backspace_escaped) c.write_str-in-8.ensures.writes

pub returns-in-12 : goal.returns-in-12
returns-in-12 g c = rw (c.in-12.is, form_feed_escaped) c.write_str-in-12.ensures.writes

pub returns-in-10 : goal.returns-in-10
returns-in-10 g c = rw (c.in-10.is, line_feed_escaped) c.write_str-in-10.ensures.writes

pub returns-in-13 : goal.returns-in-13
returns-in-13 g c = rw (c.in-13.is, carriage_return_escaped) c.write_str-in-13.ensures.writes

pub returns-in-9 : goal.returns-in-9
returns-in-9 g c = rw (c.in-9.is, tab_escaped) c.write_str-in-9.ensures.writes

pub returns-in_default : goal.returns-in_default
returns-in_default g c =
    rw (control_character c.args.c c.if-c-lt32.true (λ e. first_of (omega arith, omega (arith, c.in_default))) (λ e. first_of (omega arith, omega (arith, c.in_default))) (λ e. first_of (omega arith, omega (arith, c.in_default))) (λ e. first_of (omega arith, omega (arith, c.in_default))) (λ e. first_of (omega arith, omega (arith, c.in_default)))) c.fmt_control.ensures

pub returns-in_default-2 : goal.returns-in_default-2
returns-in_default-2 g c = rw (plain_character c.args.c c.if-c-lt32.false (λ e. first_of (omega arith, omega (arith, c.in_default))) (λ e. first_of (omega arith, omega (arith, c.in_default)))) c.write.ensures.writes
