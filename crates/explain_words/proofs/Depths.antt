-- The depths of the checks on a stack, as words are applied.
use Rattle.std.proofs.Common.{◌≡◌, ◌<◌, ◌≤◌, ℕ, suc, max, List, [], ◌∷◌, ◌++◌, map, length, Option, Some, None, MatchOption, arith, refl, sym, ap, ◌∙◌, subst}
use Rattle.std.proofs.lemmas.List.{map-append, append_assoc}
use Rattle.explain_words.specs.Applied.{IsCheckOf, IsMade, IsApplied, operand_count}
use Rattle.explain_words.specs.Depths.{depth_over, AreTracked}
use Rattle.explain_words.specs.Postfix.{depth, AreWithin}
use Rattle.explain_words.specs.declared.from_words.TheConstants.{MAX_DEPTH}
use Rattle.explain_words.specs.declared.word.Word.{Word}
use Rattle.explain_words.specs.declared.word.Word.TheVariants.{Empty, Equals, Starts, Ends, Contains, Matches, Trim, Normalize, Not, And, Or, Xor}
use Rattle.explain_words.specs.declared.check.TextCheck.{TextCheck, Empty as EmptyCheck, Equals as EqualsCheck, Starts as StartsCheck, Ends as EndsCheck, Contains as ContainsCheck, Matches as MatchesCheck, Trim', Normalize', Not', And', Or', Xor'}

-- the depth that is kept for a check: `after` is left of the depths `before`
abbrev pub Takes : List ℕ → List ℕ → ℕ → Option ℕ → Type 0
Takes before after count found = (left operands : List ℕ) → before ≡ left ++ operands → length operands ≡ count
    → MatchOption found (MAX_DEPTH < depth_over operands) (λ d. (d ≡ depth_over operands) × (d ≤ MAX_DEPTH) × (after ≡ left))

-- what one pop of the depths does
abbrev pub Pops : List ℕ → List ℕ → ℕ → Type 0
Pops before after popped = (front : List ℕ) → (last : ℕ) → before ≡ front ++ last ∷ [] → (after ≡ front) × (popped ≡ last)

pub both_taken : (before between after : List ℕ) (l r : ℕ) (found : Option ℕ) → Pops before between r → Pops between after l
    → MatchOption found (MAX_DEPTH ≤ max l r) (λ d. (d ≡ suc (max l r)) × (max l r < MAX_DEPTH)) → Takes before after 2 found
both_taken before between after l r found first second one left (a ∷ b ∷ []) are two =
    let right_taken = first (left ++ a ∷ []) b (are ∙ sym (append_assoc left (a ∷ []) (b ∷ []))) in
    let left_taken = second left a right_taken.0 in
    deepened found l r a b one left_taken.1 right_taken.1 left_taken.0
  where
    deepened : (found : Option ℕ) (l r a b : ℕ) → MatchOption found (MAX_DEPTH ≤ max l r) (λ d. (d ≡ suc (max l r)) × (max l r < MAX_DEPTH))
        → l ≡ a → r ≡ b → after ≡ left → MatchOption found (MAX_DEPTH < suc (max a b)) (λ d. (d ≡ suc (max a b)) × (d ≤ MAX_DEPTH) × (after ≡ left))
    deepened (Some d) l r a b one left_is right_is same =
        let most : max l r ≡ max a b = rw (left_is, right_is) refl in
        (one.0 ∙ ap suc most, omega (arith, one.0, one.1), same)
    deepened None l r a b one left_is right_is same =
        let most : max l r ≡ max a b = rw (left_is, right_is) refl in
        omega (arith, one, most)
both_taken before between after l r found first second one left operands are two = absurd (omega (arith, two))

-- a check has the depth that is kept for it
pub check_depth : (word : Word) (operands : List TextCheck) (check : TextCheck) → IsCheckOf word operands check
    → (length (map depth operands) ≡ operand_count word) × (depth check ≡ depth_over (map depth operands))
check_depth Empty [] (EmptyCheck p) is = (refl, refl)
check_depth (Equals text) [] (EqualsCheck p) is = (refl, refl)
check_depth (Starts text) [] (StartsCheck p) is = (refl, refl)
check_depth (Ends text) [] (EndsCheck p) is = (refl, refl)
check_depth (Contains text) [] (ContainsCheck p) is = (refl, refl)
check_depth (Matches text) [] (MatchesCheck p) is = (refl, refl)
check_depth Trim (operand ∷ []) (Trim' _ inner) is = (refl, ap (λ c. suc (depth c)) is)
check_depth Normalize (operand ∷ []) (Normalize' _ inner) is = (refl, ap (λ c. suc (depth c)) is)
check_depth Not (operand ∷ []) (Not' _ inner) is = (refl, ap (λ c. suc (depth c)) is)
check_depth And (left ∷ right ∷ []) (And' _ l _ r) is = (refl, rw (is.0, is.1) refl)
check_depth Or (left ∷ right ∷ []) (Or' _ l _ r) is = (refl, rw (is.0, is.1) refl)
check_depth Xor (left ∷ right ∷ []) (Xor' _ l _ r) is = (refl, rw (is.0, is.1) refl)
check_depth _ _ _ is = absurd is

-- the checks below the operands are within the limit, and so is the new one
pub within_left : (left operands : List TextCheck) → AreWithin (left ++ operands) → AreWithin left
within_left [] operands within = tt
within_left (check ∷ left) operands within = (within.0, within_left left operands within.1)

pub within_more : (left : List TextCheck) (check : TextCheck) → AreWithin left → depth check ≤ MAX_DEPTH → AreWithin (left ++ check ∷ [])
within_more [] check within low = (low, tt)
within_more (first ∷ left) check within low = (within.0, within_more left check within.1 low)

-- what a word takes of the depths, for the check that it makes
taken_for : (word : Word) (old left : List TextCheck) (check : TextCheck) (before after : List ℕ) (found : Option ℕ) → IsMade word old left check
    → before ≡ map depth old → Takes before after (operand_count word) found
    → MatchOption found (MAX_DEPTH < depth check) (λ d. (d ≡ depth check) × (d ≤ MAX_DEPTH) × (after ≡ map depth left))
taken_for word old left check before after found made are takes =
    let is = check_depth word made.operands check made.is_check in
    subst (λ deep. MatchOption found (MAX_DEPTH < deep) (λ d. (d ≡ deep) × (d ≤ MAX_DEPTH) × (after ≡ map depth left))) (sym is.1)
    (takes (map depth left) (map depth made.operands) (are ∙ ap (map depth) made.taken ∙ map-append depth left made.operands) is.0)

-- the depths after a word are those of the checks after it
pub still_tracked : (word : Word) (old new : List TextCheck) (before after : List ℕ) (d : ℕ) → IsApplied word old new → AreTracked old before
    → Takes before after (operand_count word) (Some d) → AreTracked new (after ++ d ∷ [])
still_tracked word old new before after d applied tracked takes =
    let taken = taken_for word old applied.left applied.check before after (Some d) applied.made tracked.0 takes in
    let same : after ++ d ∷ [] ≡ map depth new =
    rw (taken.2, taken.0, applied.pushed) (sym (map-append depth applied.left (applied.check ∷ []))) in
    let below = within_left applied.left applied.made.operands (subst AreWithin applied.made.taken tracked.1) in
    let low : depth applied.check ≤ MAX_DEPTH = subst (λ n. n ≤ MAX_DEPTH) taken.0 taken.1 in
    (same, subst AreWithin (sym applied.pushed) (within_more applied.left applied.check below low))
