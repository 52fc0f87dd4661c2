-- What is read from one source has matches in the same texts.
use Rattle.std.proofs.Common.{ℕ, List, Option, None, Some, true, IsSomeAnd, sym, ◌∙◌}
use Rattle.std.proofs.Math.Bool.{Bool-set}
use Rattle.std.proofs.Math.Logic.{∥∥₁_elim}
use Rattle.regex.specs.Names.{names_of}
use Rattle.regex.specs.Patterns.{Re, SameCaptures, Reads, default_config}
use Rattle.regex.specs.Strings.{regex_pattern}
use Rattle.regex.specs.declared.string.regex.Regex.{Regex}
use Rattle.regex.proofs.ForCallers.{is_match_alike}
use Rattle.predicates_text.specs.Expressions.{IsReadFrom}
use Rattle.vet_checks.specs.Alike.{MatchesAsSource}

seconds_of_both : {A C : Type 0} (D E F G H I J K : A → Type 0) (o : Option A) → IsSomeAnd o (λ x. D x × E x × F x × G x) → IsSomeAnd o (λ x. H x × I x × J x × K x) → ((x : A) → E x → I x → C) → C
seconds_of_both D E F G H I J K None p q f = absurd p
seconds_of_both D E F G H I J K (Some x) p q f = f x p.1 q.1

-- both see what a third sees
same_to_third : {a b c : Re} → SameCaptures a c → SameCaptures b c → SameCaptures a b
same_to_third p q = record { at = λ hay bytes k i. p.at hay bytes k i ∙ sym (q.at hay bytes k i) }

module _ (source : List ℕ) where
  reads : (r : Regex) → IsReadFrom source r → Reads default_config source r.pattern.program.hir (names_of r.pattern.names.items)
  reads r is = rw (is.same_text, is.default_options) at is.by_grammar

  same_captures : (a b : Regex) → IsReadFrom source a → IsReadFrom source b → SameCaptures (regex_pattern a) (regex_pattern b)
  unfolding Reads
  same_captures a b p q = seconds_of_both _ _ _ _ _ _ _ _ _ (reads a p) (reads b q) (λ x h k. same_to_third h k)

  pub matches_as_source : (a : Regex) → ∥ IsReadFrom source a ∥₁ → MatchesAsSource source (regex_pattern a)
  matches_as_source a p b q text bytes =
      ∥∥₁_elim p (Bool-set _ _) (λ x. ∥∥₁_elim q (Bool-set _ _) (λ y. is_match_alike (same_captures a b x y) text bytes true 0))
