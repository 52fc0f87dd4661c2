-- One word more is applied, or is wrong.
use Rattle.std.proofs.Common.{◌≡◌, ◌<◌, ℕ, ◌+◌, suc, List, [], ◌∷◌, ◌++◌, map, length, take, drop, get_or, string_bytes, arith, sym, ap, ◌∙◌, subst}
use Rattle.std.proofs.lemmas.List.{take_more, drop_more, map-append, take-append-drop, length-map, length-take-le}
use Rattle.predicates_core.specs.Text.{Text}
use Rattle.explain_words.specs.Postfix.{Makes, IsFirstProblem, HasBadWord, written}
use Rattle.explain_words.specs.declared.check.TextCheck.{TextCheck}
use Rattle.explain_words.specs.declared.word_problem.WordProblem.{WordProblem}

-- one more token is applied
pub Makes-more : (tokens more : List (List ℕ)) (old mid new : List TextCheck) → Makes tokens old mid → Makes more mid new → Makes (tokens ++ more) old new
Makes-more [] more old mid new e makes = subst (λ stack. Makes more stack new) e makes
Makes-more (first ∷ tokens) more old mid new (word, next, e, applied, others) makes =
    (word, next, e, applied, Makes-more tokens more next mid new others makes)

-- the elements up to the next one, with it, and around it
pub mapped-more : {A : Type 0} (f : A → List ℕ) (words : List A) (i : ℕ) (word : A) → i < length words → word ≡ get_or words i word
    → map f (take (i + 1) words) ≡ map f (take i words) ++ f word ∷ []
mapped-more f words i word lt is =
    ap (map f) (take_more words i word lt) ∙ map-append f (take i words) (get_or words i word ∷ [])
    ∙ ap (λ w. map f (take i words) ++ f w ∷ []) (sym is)

pub mapped-around : {A : Type 0} (f : A → List ℕ) (words : List A) (i : ℕ) (word : A) → i < length words → word ≡ get_or words i word
    → map f words ≡ map f (take i words) ++ f word ∷ map f (drop (i + 1) words)
mapped-around f words i word lt is =
    ap (map f) (sym (take-append-drop i words)) ∙ map-append f (take i words) (drop i words)
    ∙ ap (λ others. map f (take i words) ++ map f others) (drop_more words i word lt ∙ ap (λ w. w ∷ drop (i + 1) words) (sym is))

-- the word at the place has the problem, and `copy` is a copy of it
pub bad_word : (words : List Text) (i place : ℕ) (word copy : Text) (stack : List TextCheck) (problem : WordProblem) → i < length words
    → word ≡ get_or words i word → Makes (written (take i words)) [] stack → IsFirstProblem problem stack (string_bytes word)
    → place ≡ suc i → string_bytes copy ≡ string_bytes word → HasBadWord (written words) place (string_bytes copy) problem
bad_word words i place word copy stack problem lt is makes wrong next same = (
  record {
    before = written (take i words);
    token = string_bytes word;
    after = written (drop (i + 1) words);
    stack = stack;
    is = mapped-around string_bytes words i word lt is;
    makes = makes;
    fault = wrong;
  },
  next ∙ ap suc (sym (length-map (take i words) string_bytes ∙ length-take-le i words (omega (arith, lt)))),
  same,
)
