use Rattle.std.proofs.Common.{rules, ◌++◌, ◌∷◌, ◌||◌, [], map, refl, sym, ap, ◌∙◌, append_assoc}
use Rattle.vet_rules.specs.Lexemes.{data_of}
use Rattle.vet_rules.specs.Literals.{literal_of}
use Rattle.vet_checks.specs.Questions.{is_among, is_equal, order}
use Rattle.vet_checks.proofs.LiteralSets.{nothing_in_set, any_more}
use Rattle.vet_checks.proofs.Rows.{all_yielded}
use Rattle.vet_checks.proofs.literal_set.LiteralSet.new.Goals as goal

pub loop-literal-init : goal.loop-literal-init
loop-literal-init c = (sym c.into_iter-literal-iterator.ensures.into_iter_gives.0, nothing_in_set _ c.new.ensures.empty c.new-2.ensures.empty refl refl refl)

pub loop-literal-preserved : goal.loop-literal-preserved
loop-literal-preserved c = (
  c.loop-literal.invariant.0 ∙ ap (λ r. c.loop-literal.yielded ++ r) (search rules) ∙ sym (append_assoc c.loop-literal.yielded (c.in-Some.literal ∷ []) c.next.new.self.rest.items),
  λ d. c.in_ok-add.ensures d ∙ ap (λ b. b || is_equal (order d (data_of (literal_of c.in-Some.literal)))) (c.loop-literal.invariant.1 d) ∙ sym (any_more literal_of (λ v. is_equal (order d (data_of v))) c.loop-literal.yielded c.in-Some.literal),
)

pub returns : goal.returns
returns c = λ d. c.loop-literal.invariant.1 d ∙ ap (λ vs. is_among (map literal_of vs) d) (sym (all_yielded c.args.literals.items c.loop-literal.yielded c.loop-literal.literal-iterator.rest.items c.loop-literal.invariant.0 (search rules)))
