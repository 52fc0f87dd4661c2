use Rattle.predicates_reflection.proofs.static_text.StaticText.as_str.Goals as goal

pub read-bytes-requires : goal.read-bytes-requires
read-bytes-requires c = (c.self.invariant.0, c.self.invariant.1)
