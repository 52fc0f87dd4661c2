-- What a reader found, or why it stopped.
use Rattle.std.specs.Prelude.{◌≡◌, ◌≢◌, ℕ, Result, Ok, Err}
use Rattle.vet_rules.specs.declared.error.Expected.{Expected}
use Rattle.vet_rules.specs.declared.error.Reason.TheVariants as reasons
use Rattle.vet_rules.specs.declared.stop.Stop.{Stop}
use Rattle.vet_rules.specs.declared.stop.ReadError.{ReadError}
use Rattle.vet_rules.specs.declared.stop.ReadError.TheVariants as errors

infixl 10 ◌>>=◌
abbrev pub ◌>>=◌ : {A B : Type 0} → Result A Stop → (A → Result B Stop) → Result B Stop
(Ok x) >>= f = f x
(Err e) >>= f = Err e

-- What a function returned, seen by view, is what reading gives, unless memory ran out.
abbrev pub Fails : {Y : Type 0} → ReadError → Result Y Stop → Type 0
Fails errors.Memory read = Unit {0}
Fails (errors.Stopped s) read = read ≡ Err s

abbrev pub Gives : {X Y : Type 0} → (X → Y) → Result X ReadError → Result Y Stop → Type 0
Gives view (Ok x) read = read ≡ Ok (view x)
Gives view (Err e) read = Fails e read

-- something else stands where so much was left
abbrev pub stop_at : Expected → ℕ → Stop
stop_at x left = record { reason = reasons.Expected x; left = left }

abbrev pub stops : {A : Type 0} → Expected → ℕ → Result A Stop
stops x left = Err (stop_at x left)

-- neither memory nor the depth was too little
abbrev pub IsSyntax : ReadError → Type 0
IsSyntax errors.Memory = ⊥
IsSyntax (errors.Stopped s) = s.reason ≢ reasons.TooDeep

-- why and where something stopped, unless memory ran out
abbrev pub IsStop : (Stop → Type 0) → ReadError → Type 0
IsStop p errors.Memory = Unit {0}
IsStop p (errors.Stopped s) = p s
