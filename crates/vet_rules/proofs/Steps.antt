-- The levels of the reader, and what it looks at behind a phrase.
use Rattle.std.proofs.Common.{◌≡◌, ℕ, Bool, true, false, List, [], ◌∷◌, Some, None, Result, Ok, Err, refl}
use Rattle.vet_rules.specs.declared.expression.Connective.{Connective}
use Rattle.vet_rules.specs.declared.expression.Connective.TheVariants.{Or, Xor, And}
use Rattle.vet_rules.specs.declared.fixed.Fixed.{Fixed}
use Rattle.vet_rules.specs.declared.fixed.Fixed.TheVariants as fixed
use Rattle.vet_rules.specs.declared.parser.Separator.{Separator}
use Rattle.vet_rules.specs.declared.parser.Separator.TheVariants as separators
use Rattle.vet_rules.specs.declared.stop.Stop.{Stop}
use Rattle.vet_rules.specs.Signs as signs
use Rattle.vet_rules.specs.Signs.{Sign}
use Rattle.vet_rules.specs.Trees.{Tree}
use Rattle.vet_rules.specs.Grammar.{Level, By, Single, Whole, Premise, tighter, separator_word, part_level, path_in, Spells, test, keys, denied, group, quantified, at_least, alone, joined, no_if, implied, premise, each, any, at_least_items}
use Rattle.vet_rules.specs.Answers.{◌>>=◌}
use Rattle.vet_rules.specs.Reading.{Answer, next_word, is_first, begins, chain, loosest, whole, at_level}

pub level_step : (deeper : Level → List Sign → Answer) (c : Connective) (ts : List Sign) → at_level deeper (By c) ts ≡ chain c (at_level deeper (tighter c)) ts
unfolding at_level chain
level_step deeper Or ts = refl
level_step deeper Xor ts = refl
level_step deeper And ts = refl

-- where no implication begins, a whole expression is a join or a single one
first_step : (deeper : Level → List Sign → Answer) (f : Fixed) (ts : List Sign) → is_first f ≡ true → whole deeper (signs.Word f ∷ ts) ≡ loosest deeper (signs.Word f ∷ ts)
unfolding whole next_word
first_step deeper fixed.Not ts h = refl
first_step deeper fixed.Open ts h = refl
first_step deeper fixed.Each ts h = refl
first_step deeper fixed.Any ts h = refl
first_step deeper fixed.At ts h = refl
first_step deeper fixed.Keys ts h = refl
first_step deeper f ts h = absurd cc

pub whole_step : (deeper : Level → List Sign → Answer) (ts : List Sign) → begins ts ≡ true → at_level deeper Whole ts ≡ at_level deeper (By Or) ts
unfolding at_level whole next_word
whole_step deeper [] h = absurd cc
whole_step deeper (signs.Word f ∷ ts) h = first_step deeper f ts h
whole_step deeper (signs.Path path ∷ ts) h = refl
whole_step deeper (signs.Literal v ∷ ts) h = rw h refl
whole_step deeper (signs.End ∷ ts) h = absurd cc

path_begins : (p : Sign) (ts : List Sign) (path : List ℕ) → path_in p ≡ Some path → begins (p ∷ ts) ≡ true
path_begins (signs.Word f) ts path h = absurd cc
path_begins (signs.Path other) ts path h = refl
path_begins (signs.Literal v) ts path h = rw h refl
path_begins signs.End ts path h = absurd cc

-- no implication is of these levels
abbrev is_join : Level → Bool
is_join (By c) = true
is_join Single = true
is_join l = false

tighter_is_join : (c : Connective) → is_join (tighter c) ≡ true
tighter_is_join Or = refl
tighter_is_join Xor = refl
tighter_is_join And = refl

begins_as : {n : ℕ} {l : Level} {ts : List Sign} {e : Tree} {rest : List Sign} → Spells n l ts e rest → is_join l ≡ true → begins ts ≡ true
begins_as (test {p = p} {path = path} {ts = ts} e t) h = path_begins p ts path e
begins_as (keys e l) h = refl
begins_as (denied d) h = refl
begins_as (group d) h = refl
begins_as (quantified e each d) h = refl
begins_as (quantified e any d) h = refl
begins_as (quantified e at_least_items d) h = refl
begins_as (at_least d f) h = refl
begins_as (alone {c = c} d) h = begins_as d (tighter_is_join c)
begins_as (joined {c = c} d f) h = begins_as d (tighter_is_join c)
begins_as (no_if d) h = absurd cc
begins_as (implied d g) h = absurd cc
begins_as (premise d) h = absurd cc

pub join_begins : {n : ℕ} {ts : List Sign} {e : Tree} {rest : List Sign} → Spells n (By Or) ts e rest → begins ts ≡ true
join_begins d = begins_as d refl

-- what stands behind a phrase of a level doesn't belong to it
abbrev pub Stops : Level → List Sign → Type 0
Stops Single ts = Unit {0}
Stops (By And) ts = next_word (fixed.Join And) ts ≡ None
Stops (By Xor) ts = (next_word (fixed.Join Xor) ts ≡ None) × (next_word (fixed.Join And) ts ≡ None)
Stops (By Or) ts = (next_word (fixed.Join Or) ts ≡ None) × (next_word (fixed.Join Xor) ts ≡ None) × (next_word (fixed.Join And) ts ≡ None)
Stops Whole ts = (next_word (fixed.Join Or) ts ≡ None) × (next_word (fixed.Join Xor) ts ≡ None) × (next_word (fixed.Join And) ts ≡ None)
Stops Premise ts = (next_word (fixed.Join Or) ts ≡ None) × (next_word (fixed.Join Xor) ts ≡ None) × (next_word (fixed.Join And) ts ≡ None)

stops_here : (c : Connective) (ts : List Sign) → Stops (By c) ts → next_word (fixed.Join c) ts ≡ None
stops_here Or ts s = s.0
stops_here Xor ts s = s.0
stops_here And ts s = s

stops_inside : (c : Connective) (ts : List Sign) → Stops (By c) ts → Stops (tighter c) ts
stops_inside Or ts s = (s.1, s.2)
stops_inside Xor ts s = s.1
stops_inside And ts s = tt

stops_at_join : (c : Connective) (ts : List Sign) → Stops (tighter c) (signs.Word (fixed.Join c) ∷ ts)
unfolding next_word
stops_at_join Or ts = (refl, refl)
stops_at_join Xor ts = refl
stops_at_join And ts = tt

pub stops_at_close : (l : Level) (ts : List Sign) → Stops l (signs.Word fixed.Close ∷ ts)
unfolding next_word
stops_at_close Single ts = tt
stops_at_close (By Or) ts = (refl, refl, refl)
stops_at_close (By Xor) ts = (refl, refl)
stops_at_close (By And) ts = refl
stops_at_close Whole ts = (refl, refl, refl)
stops_at_close Premise ts = (refl, refl, refl)

pub stops_at_then : (ts : List Sign) → Stops Premise (signs.Word fixed.Then ∷ ts)
unfolding next_word
stops_at_then ts = (refl, refl, refl)

pub stops_at_end : (l : Level) → Stops l (signs.End ∷ [])
unfolding next_word
stops_at_end Single = tt
stops_at_end (By Or) = (refl, refl, refl)
stops_at_end (By Xor) = (refl, refl)
stops_at_end (By And) = refl
stops_at_end Whole = (refl, refl, refl)
stops_at_end Premise = (refl, refl, refl)

-- what stands behind a row doesn't belong to it, nor to its last part
abbrev pub Ends : Separator → List Sign → Type 0
Ends (separators.Connective c) ts = Stops (By c) ts
Ends separators.Comma ts = (next_word fixed.Comma ts ≡ None) × Stops Whole ts

pub ends_here : (s : Separator) (ts : List Sign) → Ends s ts → next_word (separator_word s) ts ≡ None
ends_here (separators.Connective c) ts e = stops_here c ts e
ends_here separators.Comma ts e = e.0

pub ends_inside : (s : Separator) (ts : List Sign) → Ends s ts → Stops (part_level s) ts
ends_inside (separators.Connective c) ts e = stops_inside c ts e
ends_inside separators.Comma ts e = e.1

pub stops_at_separator : (s : Separator) (ts : List Sign) → Stops (part_level s) (signs.Word (separator_word s) ∷ ts)
unfolding next_word
stops_at_separator (separators.Connective c) ts = stops_at_join c ts
stops_at_separator separators.Comma ts = (refl, refl, refl)

pub row_ends_at_close : (ts : List Sign) → Ends separators.Comma (signs.Word fixed.Close ∷ ts)
unfolding next_word
row_ends_at_close ts = (refl, stops_at_close Whole ts)

-- the value of a step that did not fail
pub bind_ok : {A B : Type 0} (r : Result A Stop) (f : A → Result B Stop) (y : B) → (r >>= f) ≡ Ok y → (x : A) × (r ≡ Ok x) × (f x ≡ Ok y)
bind_ok (Ok x) f y e = (x, refl, e)
bind_ok (Err d) f y e = absurd cc
