-- What a box holds, and the text that it prints.
use Rattle.std.specs.Prelude.{ℕ, List, string_bytes}
use Rattle.std.specs.Global.{Global}
use Rattle.std.specs.declared.dyn_box.DynBox.{DynBox}
use Rattle.predicates.specs.declared.boxed.box_predicate.BoxPredicate.{BoxPredicate}

module _ {X : Type 0} {Kept : X → Type 0} where
  abbrev pub inner_of : BoxPredicate X Kept → DynBox X Global Kept
  inner_of p = p.inner

  abbrev pub kept_text : BoxPredicate X Kept → List ℕ
  kept_text p = string_bytes p.printed
