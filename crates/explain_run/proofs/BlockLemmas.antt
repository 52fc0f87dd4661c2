-- When a text is a block of each formula.
use Rattle.std.proofs.Common.{◌≡◌, ℕ, Bool, true, false, not, List, ◌++◌, sym, ap, ◌∙◌}
use Rattle.predicates_core.specs.Formula.{Formula, HasTruth}
use Rattle.predicates_core.specs.Tree.{Tree}
use Rattle.predicates_core.specs.Describe.{CaseNode}
use Rattle.predicates_core.specs.Lines.{lines}
use Rattle.predicates_core.specs.Shows.{IsCaseOf}
use Rattle.explain_run.specs.Blocks.{heading, HasBlocks}

pub block_of_case : {F : Formula → Type 0} {b : Bool} {label bytes : List ℕ} (case : Tree CaseNode) → IsCaseOf F b case
    → bytes ≡ heading label b ++ lines case → HasBlocks F label bytes
block_of_case {F} {b} {label} {bytes} case h e = record {
  each = λ f k. record {
    case = case;
    explains = h.explains f k;
    is = e ∙ ap (λ x. heading label x ++ lines case) (sym (h.truth.at f k));
  };
}

not_both : (b : Bool) → b ≡ not b → ⊥
not_both true e = absurd (cc)
not_both false e = absurd (cc)

-- a verdict and its opposite: there is no formula
pub block_of_none : {F : Formula → Type 0} {b : Bool} {label bytes : List ℕ} → HasTruth F b → HasTruth F (not b) → HasBlocks F label bytes
block_of_none {F} {b} h k = record { each = λ f had. absurd (not_both b (sym (h.at f had) ∙ k.at f had)) }

pub ruleset blocks = (block_of_case, block_of_none)
