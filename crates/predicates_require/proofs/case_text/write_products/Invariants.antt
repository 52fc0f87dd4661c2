use Rattle.std.proofs.Common.{◌++◌, Ok, codes, flat_map, take}
use Rattle.std.specs.Fmt.{WritesOnOk}
use Rattle.predicates_core.specs.Lines.{indented, product_line}
use Rattle.predicates_require.proofs.case_text.write_products.Given as goal

abbrev pub invariant-loop-product : goal.invariant-loop-product
invariant-loop-product g l = WritesOnOk g.W.Write.write_str_gives l.initial.f (Ok tt)
    (flat_map (product_line (indented l.depth ++ codes "  ")) (take l.product-index l.products)) l.f
