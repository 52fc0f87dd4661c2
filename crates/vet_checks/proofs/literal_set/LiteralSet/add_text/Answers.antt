use Rattle.std.specs.Prelude.{string_bytes, true}
use Rattle.std.proofs.lemmas.Map.Text.{btree_set_updates_text}
use Rattle.vet_checks.proofs.LiteralSets.{text_added}
use Rattle.vet_checks.proofs.literal_set.LiteralSet.add_text.Goals as goal

pub returns : goal.returns
returns c = text_added c.args.self.now _ (string_bytes c.args.text) (btree_set_updates_text (string_bytes c.args.text) _ _ true c.in_ok-insert.ensures.updates)
