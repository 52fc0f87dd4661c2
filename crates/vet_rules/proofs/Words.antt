-- What is true of each word of rules.
use Rattle.std.proofs.Common.{◌≡◌, ℕ, Bool, true, false, List, [], ◌∷◌, Option, Some, None, Ok, refl, sym, ap, ◌∙◌}
use Rattle.std.specs.List.{list_all}
use Rattle.std.specs.Str.{bytes_eq}
use Rattle.std.proofs.lemmas.Slice.Eq.{bytes_eq-Decides}
use Rattle.std.proofs.lemmas.Option.{cond_some}
use Rattle.vet_rules.specs.declared.expression.Connective.TheVariants as connectives
use Rattle.vet_rules.specs.declared.condition.Comparison.TheVariants as comparisons
use Rattle.vet_rules.specs.declared.condition.Relation.TheVariants as relations
use Rattle.vet_rules.specs.declared.condition.State.TheVariants as states
use Rattle.vet_rules.specs.declared.condition.ValueKind.TheVariants as value_kinds
use Rattle.vet_rules.specs.declared.fixed.Fixed.{Fixed}
use Rattle.vet_rules.specs.declared.fixed.Fixed.TheVariants as fixed
use Rattle.vet_rules.specs.declared.lexer.Class.{Class}
use Rattle.vet_rules.specs.declared.lexer.Class.TheVariants.{Letter, Digit, Symbol, Mark, Slash}
use Rattle.vet_rules.specs.declared.error.Expected.{Expected}
use Rattle.vet_rules.specs.Signs as signs
use Rattle.vet_rules.specs.Signs.{Sign}
use Rattle.vet_rules.specs.Lexemes.{text_of, fixed_at, class_of, continues}
use Rattle.vet_rules.specs.Scanning.{front_class, sign_in}
use Rattle.vet_rules.specs.Reading.{is_word, next_word, after, or_fails}

abbrev pub is_run : Class → Bool
is_run Letter = true
is_run Digit = true
is_run Symbol = true
is_run Mark = true
is_run Slash = true
is_run c = false

-- bytes that are one word
abbrev pub IsRun : List ℕ → Type 0
IsRun [] = ⊥
IsRun (b ∷ word) = (is_run (class_of b) ≡ true) × (list_all (continues (class_of b)) word ≡ true)

-- its text is one word, and is read as this one
abbrev pub IsReadBack : Fixed → Type 0
IsReadBack f = IsRun (text_of f) × (fixed_at (text_of f) ≡ Some f) × ((left : ℕ) → sign_in (front_class (text_of f)) left (text_of f) ≡ Ok (signs.Word f))

pub read_back : (f : Fixed) → IsReadBack f
unfolding fixed_at sign_in
read_back (fixed.Join connectives.Or) = ((refl, refl), refl, λ left. refl)
read_back (fixed.Join connectives.Xor) = ((refl, refl), refl, λ left. refl)
read_back (fixed.Join connectives.And) = ((refl, refl), refl, λ left. refl)
read_back fixed.Not = ((refl, refl), refl, λ left. refl)
read_back fixed.If = ((refl, refl), refl, λ left. refl)
read_back fixed.Then = ((refl, refl), refl, λ left. refl)
read_back fixed.Each = ((refl, refl), refl, λ left. refl)
read_back fixed.Any = ((refl, refl), refl, λ left. refl)
read_back fixed.At = ((refl, refl), refl, λ left. refl)
read_back fixed.Keys = ((refl, refl), refl, λ left. refl)
read_back fixed.Least = ((refl, refl), refl, λ left. refl)
read_back fixed.Of = ((refl, refl), refl, λ left. refl)
read_back (fixed.Relation relations.StartsWith) = ((refl, refl), refl, λ left. refl)
read_back (fixed.Relation relations.EndsWith) = ((refl, refl), refl, λ left. refl)
read_back (fixed.Relation relations.Contains) = ((refl, refl), refl, λ left. refl)
read_back (fixed.Relation relations.Matches) = ((refl, refl), refl, λ left. refl)
read_back fixed.In = ((refl, refl), refl, λ left. refl)
read_back (fixed.State states.Exists) = ((refl, refl), refl, λ left. refl)
read_back (fixed.State states.Missing) = ((refl, refl), refl, λ left. refl)
read_back (fixed.State states.IsEmpty) = ((refl, refl), refl, λ left. refl)
read_back fixed.Length = ((refl, refl), refl, λ left. refl)
read_back fixed.Is = ((refl, refl), refl, λ left. refl)
read_back (fixed.ValueKind value_kinds.Text) = ((refl, refl), refl, λ left. refl)
read_back (fixed.ValueKind value_kinds.Number) = ((refl, refl), refl, λ left. refl)
read_back (fixed.ValueKind value_kinds.Whole) = ((refl, refl), refl, λ left. refl)
read_back (fixed.ValueKind value_kinds.Boolean) = ((refl, refl), refl, λ left. refl)
read_back (fixed.ValueKind value_kinds.Array) = ((refl, refl), refl, λ left. refl)
read_back (fixed.ValueKind value_kinds.Object) = ((refl, refl), refl, λ left. refl)
read_back (fixed.ValueKind value_kinds.Null) = ((refl, refl), refl, λ left. refl)
read_back (fixed.Boolean true) = ((refl, refl), refl, λ left. refl)
read_back (fixed.Boolean false) = ((refl, refl), refl, λ left. refl)
read_back (fixed.Comparison comparisons.Equal) = ((refl, refl), refl, λ left. refl)
read_back (fixed.Comparison comparisons.Unequal) = ((refl, refl), refl, λ left. refl)
read_back (fixed.Comparison comparisons.Below) = ((refl, refl), refl, λ left. refl)
read_back (fixed.Comparison comparisons.AtMost) = ((refl, refl), refl, λ left. refl)
read_back (fixed.Comparison comparisons.Above) = ((refl, refl), refl, λ left. refl)
read_back (fixed.Comparison comparisons.AtLeast) = ((refl, refl), refl, λ left. refl)
read_back fixed.Open = ((refl, refl), refl, λ left. refl)
read_back fixed.Close = ((refl, refl), refl, λ left. refl)
read_back fixed.OpenList = ((refl, refl), refl, λ left. refl)
read_back fixed.CloseList = ((refl, refl), refl, λ left. refl)
read_back fixed.Comma = ((refl, refl), refl, λ left. refl)

some_same : {A : Type 0} (x y : A) → ◌≡◌ {A = Option A} (Some x) (Some y) → x ≡ y
some_same x y e = cc

pub same_word : (f g : Fixed) → bytes_eq (text_of f) (text_of g) ≡ true → f ≡ g
same_word f g h = some_same f g (sym (read_back f).1 ∙ ap fixed_at ((bytes_eq-Decides (text_of f) (text_of g)).0 h) ∙ (read_back g).1)

pub word_is : (w : Fixed) (t : Sign) → is_word w t ≡ true → t ≡ signs.Word w
word_is w (signs.Word f) h = ap (λ (g : Fixed). signs.Word g) (same_word f w h)
word_is w t h = absurd cc

pub next_is : (w : Fixed) (ts us : List Sign) → next_word w ts ≡ Some us → ts ≡ signs.Word w ∷ us
unfolding next_word
next_is w [] us e = absurd cc
next_is w (t ∷ ts) us e =
    let p = cond_some (is_word w t) ts us e in
    ap (λ (u : Sign). u ∷ ts) (word_is w t p.0) ∙ ap (λ (vs : List Sign). signs.Word w ∷ vs) p.1

pub next_found : (w : Fixed) (ts : List Sign) → next_word w (signs.Word w ∷ ts) ≡ Some ts
unfolding next_word
next_found w ts = rw ((bytes_eq-Decides (text_of w) (text_of w)).1 refl) refl

pub after_found : (w : Fixed) (x : Expected) (ts : List Sign) → after w x (signs.Word w ∷ ts) ≡ Ok ts
unfolding after
after_found w x ts = rw (next_found w ts) refl

or_failed : (x : Expected) (ts us : List Sign) (o : Option (List Sign)) → or_fails x ts o ≡ Ok us → o ≡ Some us
or_failed x ts us (Some vs) e = let same : vs ≡ us = cc in ap (λ (ws : List Sign). Some ws) same
or_failed x ts us None e = absurd cc

pub after_is : (w : Fixed) (x : Expected) (ts us : List Sign) → after w x ts ≡ Ok us → ts ≡ signs.Word w ∷ us
unfolding after
after_is w x ts us e = next_is w ts us (or_failed x ts us (next_word w ts) e)
