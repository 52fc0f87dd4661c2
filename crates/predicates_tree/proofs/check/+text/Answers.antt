use Rattle.std.proofs.Common.{◌≡◌, ◌∙◌, ap, refl, Some, codes, arith, map, Ok, subst}
use Rattle.std.proofs.lemmas.List.{take_all}
use Rattle.std.specs.Fmt.{DisplaysOnOk, ◌++?◌}
use Rattle.std.proofs.Output.{displays_on_IsOk_append}
use Rattle.predicates_core.specs.Several.{further_texts}
use Rattle.predicates_tree.specs.Formulas.{check_text}
use Rattle.predicates_tree.specs.Trees.{tree_of}
use Rattle.predicates_tree.proofs.Unrolled.{row_tree}
use Rattle.predicates_tree.specs.Listed.{joined_texts, text_at}
use Rattle.predicates_tree.specs.Quotas.{member_words, viewed_text}
use Rattle.predicates_core.proofs.Listing.{nothing_written, one_text_more, further_last}
use Rattle.predicates_tree.proofs.Listing.{text_behind, joined_last, listed, each_text}
use Rattle.predicates_tree.proofs.check.+text.Goals as goal

pub Check::fmt_part-returns-then-index-eq0 : goal.Check::fmt_part-returns-then-index-eq0
Check::fmt_part-returns-then-index-eq0 g t c =
    let is : c.args.index ≡ 0 = omega arith in
    rw is c.fmt.ensures.writes

pub Check::fmt_part-returns : goal.Check::fmt_part-returns
Check::fmt_part-returns g t c = text_behind g.W.Write.write_str_gives c.args.f.now c.write.new.self c.fmt-2.new.f c.fmt-2.result c.args.index (check_text g.L.Display.output g.V.Display.output g.S.Wording.words c.args.part.now)
    (omega arith) c.in_ok-write.ensures.writes c.fmt-2.ensures.writes

pub Check::fmt_parts-loop-index-init : goal.Check::fmt_parts-loop-index-init
Check::fmt_parts-loop-index-init g t c = nothing_written g.W.Write.write_str_gives c.args.f.now

pub Check::fmt_parts-loop-index-preserved : goal.Check::fmt_parts-loop-index-preserved
Check::fmt_parts-loop-index-preserved g t c = one_text_more g.W.Write.write_str_gives joined_texts text_at joined_last (check_text g.L.Display.output g.V.Display.output g.S.Wording.words) c.args.parts.now c.loop-index.index c.index-parts-index.result c.args.f.now c.loop-index.f c.fmt_part.new.f
    (omega arith) c.index-parts-index.is c.loop-index.invariant c.in_ok-fmt_part.ensures

pub Check::fmt_parts-returns : goal.Check::fmt_parts-returns
Check::fmt_parts-returns g t c = subst (λ us. DisplaysOnOk g.W.Write.write_str_gives c.args.f.now (Ok tt) (joined_texts (map (check_text g.L.Display.output g.V.Display.output g.S.Wording.words) us)) c.loop-index.f) (take_all c.loop-index.index c.args.parts.now (omega arith)) c.loop-index.invariant

pub Check::fmt_further-loop-part-init : goal.Check::fmt_further-loop-part-init
Check::fmt_further-loop-part-init g t c = nothing_written g.W.Write.write_str_gives c.args.f.now

pub Check::fmt_further-loop-part-preserved : goal.Check::fmt_further-loop-part-preserved
Check::fmt_further-loop-part-preserved g t c = one_text_more g.W.Write.write_str_gives further_texts (λ k t. text_at 1 t) further_last (check_text g.L.Display.output g.V.Display.output g.S.Wording.words) c.args.parts.now c.loop-part.part-index c.part-item.result c.args.f.now c.loop-part.f c.fmt_part.new.f
    (omega arith) c.part-item.is c.loop-part.invariant c.in_ok-fmt_part.ensures

pub Check::fmt_further-returns : goal.Check::fmt_further-returns
Check::fmt_further-returns g t c = subst (λ us. DisplaysOnOk g.W.Write.write_str_gives c.args.f.now (Ok tt) (further_texts (map (check_text g.L.Display.output g.V.Display.output g.S.Wording.words) us)) c.loop-part.f) (take_all c.loop-part.part-index c.args.parts.now (omega arith)) c.loop-part.invariant

pub Check::fmt_computed-returns-in-Row : goal.Check::fmt_computed-returns-in-Row
Check::fmt_computed-returns-in-Row g t c = rw (ap (tree_of g.S.Wording.words) c.in-Row.is ∙ row_tree g.S.Wording.words c.in-Row.field-0 c.in-Row.quota c.in-Row.parts) (rw (each_text g.L.Display.output g.V.Display.output g.S.Wording.words c.in-Row.parts.items) (rw c.deref-in-Row.ensures.value at c.fmt_row.ensures))

pub Check::fmt_listed-returns : goal.Check::fmt_listed-returns
Check::fmt_listed-returns g t c =
    let took = g.W.Write.write_str_gives in
    let texts = joined_texts (map (check_text g.L.Display.output g.V.Display.output g.S.Wording.words) c.args.parts.now) in
    rw (listed c.args.word.now (map (check_text g.L.Display.output g.V.Display.output g.S.Wording.words) c.args.parts.now)) (displays_on_IsOk_append took c.args.f.now c.write_str.new.self c.write-2.new.self (Ok tt) c.write-2.result (Some c.args.word.now) (Some (codes "(") ++? texts ++? Some (codes ")")) (λ ok. refl) c.in_ok-write_str.ensures.writes
    (displays_on_IsOk_append took c.write_str.new.self c.write.new.self c.write-2.new.self (Ok tt) c.write-2.result (Some (codes "(")) (texts ++? Some (codes ")")) (λ ok. refl) c.in_ok-write.ensures.writes
    (displays_on_IsOk_append took c.write.new.self c.fmt_parts.new.f c.write-2.new.self (Ok tt) c.write-2.result texts (Some (codes ")")) (λ ok. refl) c.in_ok-fmt_parts.ensures c.write-2.ensures.writes)))

pub Check::fmt_members-returns : goal.Check::fmt_members-returns
Check::fmt_members-returns g t c = displays_on_IsOk_append g.W.Write.write_str_gives c.args.f.now c.fmt_member_words.new.f c.fmt_viewed.new.f (Ok tt) c.fmt_viewed.result (member_words c.args.quota) (viewed_text (g.V.Display.output c.args.view.now) (check_text g.L.Display.output g.V.Display.output g.S.Wording.words c.args.inner.now)) (λ ok. refl) c.in_ok-fmt_member_words.ensures c.fmt_viewed.ensures
