-- One text more is written.
use Rattle.std.proofs.Common.{◌≡◌, ℕ, List, ◌++◌, Ok, refl, subst}
use Rattle.std.specs.declared.fmt.Formatter.{Formatter}
use Rattle.std.specs.Fmt.{WritesOnOk}
use Rattle.std.proofs.Output.{writes_on_IsOk-append}

pub written_more : {W : Type 0} (took : W → List ℕ → W → Type 0) (f g h : Formatter W) (a b whole : List ℕ) → WritesOnOk took f (Ok tt) a g → WritesOnOk took g (Ok tt) b h → a ++ b ≡ whole
    → WritesOnOk took f (Ok tt) whole h
written_more took f g h a b whole x y e = subst (λ w. WritesOnOk took f (Ok tt) w h) e (writes_on_IsOk-append took f g h (Ok tt) (Ok tt) a b (λ ok. refl) x y)
