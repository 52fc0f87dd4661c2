use Rattle.std.proofs.Common.{◌≡◌, ◌-◌, ◌^◌, ◌/◌, ◌%◌, false, Some, [], ◌∷◌, ap, ◌∙◌, subst, arith}
use Rattle.std.specs.Prelude.{option_map}
use Rattle.std.specs.Fmt.{DisplaysOnOk, ◌++?◌, digit_glyph, format_spec, styled_digits_output, padded_integral}
use Rattle.std.proofs.lemmas.Fmt.{hex_byte}
use Rattle.vet_rules.proofs.quoted.fmt_byte.Goals as goal

pub returns : goal.returns
returns g c =
    let two : styled_digits_output c.in_radix.result c.laid_out.result ≡ Some (digit_glyph false (c.args.byte / 16) ∷ digit_glyph false (c.args.byte % 16) ∷ []) =
    ap (styled_digits_output c.in_radix.result) c.laid_out.ensures
    ∙ ap (option_map (padded_integral (format_spec 32 0 4 2 (2 ^ 64 - 1)) false [])) c.in_radix.ensures
    ∙ ap Some (hex_byte false c.args.byte (omega arith)) in
    subst (λ o. DisplaysOnOk g.W.Write.write_str_gives c.args.f.now c.write.result (Some (92 ∷ 120 ∷ []) ++? o) c.write.new.self) two c.write.ensures.writes
