use Rattle.std.proofs.Common.{◌≡◌, ◌++◌, rules, OnOk, codes, string_bytes}
use Rattle.std.proofs.lemmas.Result.{on_ok_weaker}
use Rattle.predicates_reflection.specs.Lines.{indented}
use Rattle.predicates_style.proofs.Children.{product_written}
use Rattle.predicates_style.proofs.text.write_product.Goals as goal

pub returns : goal.returns
returns c =
    let name : c.name.result.now ≡ c.args.product.now.0 = cc in
    let value : c.value-value.result.now ≡ c.args.product.now.1 = cc in
    let ended : OnOk c.push_str-2.result (string_bytes c.push_str-2.new.self ≡ string_bytes c.write_text-2.new.out ++ codes "\n") = search rules in
    on_ok_weaker c.push_str-2.result (λ e. product_written c.args.style.now (indented c.args.depth) _ _ c.args.product.now _ _ _ _ _ _ _ c.in_ok-write_indent.ensures c.in_ok-push_str.ensures.bytes c.in_ok-write_text.ensures c.in_ok-write_before_value.ensures c.in_ok-write_text-2.ensures name value e) ended
