-- The laws of the leaves of the tests of texts: the printed text fits, there is one, and a function
-- of the text gives it.
use Rattle.std.specs.Prelude.{◌≡◌, ◌↔◌, refl, ℕ, Bool, IsTrue, List, ◌==◌}
use Rattle.std.proofs.Common.{sym, ap, ◌∙◌}
use Rattle.std.specs.Str.{chars}
use Rattle.predicates_core.specs.Label.{Entry, FitsEntry}
use Rattle.predicates_core.specs.Formula.{Formula, text_of}
use Rattle.predicates_core.specs.LeafLaws.{exactly_text_fits}
use Rattle.predicates_core.specs.Leaves.{IsExactly}
use Rattle.predicates_text.specs.Leaves.{text_leaf, counted_leaf, contains_text, empty_formula}
use Rattle.predicates_text.specs.Leaves.{starts_formula, ends_formula, contains_formula}
use Rattle.predicates_text.specs.Leaves.{matches_formula}
use Rattle.predicates_text.specs.PlaceLaws.{empty_decides, front_decides, back_decides}
use Rattle.predicates_text.specs.PlaceLaws.{part_decides}
use Rattle.predicates_text.specs.PlaceLaws.{same_test}
use Rattle.predicates_text.specs.CountLaws.{count_unique, count_of_counts}
use Rattle.predicates_text.specs.LeafFormulas.{IsTextLeaf, IsEmptyLeaf, IsStartsLeaf, IsEndsLeaf}
use Rattle.predicates_text.specs.LeafFormulas.{IsContainsLeaf, IsCountedLeaf}

module _ {printed : Entry} {bytes : List ℕ} {fact : Type 0} where
  pub text_leaf_fits : {f : Formula} → IsTextLeaf printed bytes fact f
      → FitsEntry (text_of f) printed
  text_leaf_fits h = exactly_text_fits {own = h.own} (record { is = h.is })

  pub one_text_leaf : {f g : Formula} → IsTextLeaf printed bytes fact f
      → IsTextLeaf printed bytes fact g → f ≡ g
  one_text_leaf h k =
      h.is ∙ ap (text_leaf printed bytes) (same_test h.own k.own h.exactly k.exactly) ∙ sym k.is

module _ {printed : Entry} {bytes : List ℕ} {fact : Type 0} {test : Bool} where
  pub has_text_leaf : IsTrue test ↔ fact
      → IsTextLeaf printed bytes fact (text_leaf printed bytes test)
  has_text_leaf decides = record { own = test; exactly = decides; is = refl }

  -- so it is the one that a test of the fact gives
  pub is_text_leaf : {f : Formula} → IsTrue test ↔ fact
      → IsTextLeaf printed bytes fact f ↔ IsExactly (text_leaf printed bytes test) f
  is_text_leaf decides = (
    (λ h. record { is = one_text_leaf h (has_text_leaf decides) }),
    λ h. record { own = test; exactly = decides; is = h.is },
  )

pub has_empty : (bytes : List ℕ) → IsEmptyLeaf bytes (empty_formula bytes)
has_empty bytes = has_text_leaf (empty_decides (chars bytes))

pub has_starts : (pattern bytes : List ℕ)
    → IsStartsLeaf pattern bytes (starts_formula pattern bytes)
has_starts pattern bytes = has_text_leaf (front_decides (chars pattern) (chars bytes))

pub has_ends : (pattern bytes : List ℕ) → IsEndsLeaf pattern bytes (ends_formula pattern bytes)
has_ends pattern bytes = has_text_leaf (back_decides (chars pattern) (chars bytes))

pub has_contains : (pattern bytes : List ℕ)
    → IsContainsLeaf pattern bytes (contains_formula pattern bytes)
has_contains pattern bytes = has_text_leaf (part_decides (chars pattern) (chars bytes))

module _ {pattern : List ℕ} {count : ℕ} {bytes : List ℕ} where
  pub counted_text_fits : {f : Formula} → IsCountedLeaf pattern count bytes f
      → FitsEntry (text_of f) (contains_text pattern)
  counted_text_fits h = exactly_text_fits {own = h.number == count} (record { is = h.is })

  pub one_counted : {f g : Formula} → IsCountedLeaf pattern count bytes f
      → IsCountedLeaf pattern count bytes g → f ≡ g
  one_counted h k =
      h.is ∙ ap (λ n. counted_leaf (contains_text pattern) bytes n (n == count))
      (count_unique (chars pattern) (chars bytes) h.number k.number h.greatest k.greatest)
      ∙ sym k.is

pub has_counted : (pattern : List ℕ) (count : ℕ) (bytes : List ℕ)
    → IsCountedLeaf pattern count bytes (matches_formula pattern count bytes)
has_counted pattern count bytes = record
    { number = _; greatest = count_of_counts (chars pattern) (chars bytes); is = refl }

-- so it is the one that counting gives
pub is_counted_leaf : (pattern : List ℕ) (count : ℕ) (bytes : List ℕ) {f : Formula}
    → IsCountedLeaf pattern count bytes f ↔ IsExactly (matches_formula pattern count bytes) f
is_counted_leaf pattern count bytes = (
  (λ h. record { is = one_counted h (has_counted pattern count bytes) }),
  λ h. record { number = _; greatest = count_of_counts (chars pattern) (chars bytes); is = h.is },
)
