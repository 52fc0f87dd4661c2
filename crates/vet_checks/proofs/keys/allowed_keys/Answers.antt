use Rattle.std.proofs.Common.{rules, ◌++◌, ◌∷◌, ◌||◌, [], true, map, refl, sym, ap, ◌∙◌, append_assoc}
use Rattle.std.specs.Prelude.{bytes_eq, string_bytes}
use Rattle.std.proofs.lemmas.Map.Text.{btree_set_updates_text}
use Rattle.vet_checks.specs.Keys.{is_text_among}
use Rattle.vet_checks.proofs.LiteralSets.{any_more, text_more}
use Rattle.vet_checks.proofs.Rows.{all_yielded}
use Rattle.vet_checks.proofs.keys.allowed_keys.Goals as goal

pub loop-text-init : goal.loop-text-init
loop-text-init c = (sym c.into_iter-text-iterator.ensures.into_iter_gives.0, λ key. rw c.new-allowed.ensures.empty refl)

pub loop-text-preserved : goal.loop-text-preserved
loop-text-preserved c = (
  c.loop-text.invariant.0 ∙ ap (λ r. c.loop-text.yielded ++ r) (search rules) ∙ sym (append_assoc c.loop-text.yielded (c.in-Some.text ∷ []) c.next.new.self.rest.items),
  λ key. text_more _ _ (string_bytes c.in-Some.text) key (btree_set_updates_text (string_bytes c.in-Some.text) _ _ true c.in_ok-insert.ensures.updates key) ∙ ap (λ b. b || bytes_eq key (string_bytes c.in-Some.text)) (c.loop-text.invariant.1 key)
      ∙ sym (any_more string_bytes (bytes_eq key) c.loop-text.yielded c.in-Some.text),
)

pub returns : goal.returns
returns c = λ key. c.loop-text.invariant.1 key ∙ ap (λ texts. is_text_among (map string_bytes texts) key) (sym (all_yielded c.args.texts.items c.loop-text.yielded c.loop-text.text-iterator.rest.items c.loop-text.invariant.0 (search rules)))
