-- The style that is none.
use Rattle.std.specs.Prelude.{None, false}
use Rattle.predicates_style.specs.declared.style.Style.{Style}

-- no limits, no escapes and no colours
abbrev pub plain : Style
plain = record { children = None; characters = None; escapes = false; colours = false }
