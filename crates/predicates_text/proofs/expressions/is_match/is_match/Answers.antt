use Rattle.std.proofs.Common.{rules, ◌≢◌, IfErr, string_bytes}
use Rattle.regex.specs.Patterns.{default_config}
use Rattle.regex.specs.Sources.{IsRefusal}
use Rattle.regex.specs.Failures.{IsRightKind}
use Rattle.regex.specs.declared.error.Error.TheVariants.{Internal}
use Rattle.predicates_text.proofs.Refusing.{refused_by_result}
use Rattle.predicates_text.proofs.expressions.is_match.is_match.Goals as goal

pub returns-in_err-new-clause-exact : goal.returns-in_err-new-clause-exact
returns-in_err-new-clause-exact c =
    let refusal : IfErr c.from_residual.result (IsRefusal default_config (string_bytes c.args.pattern)) = search rules in
    let kind : IfErr c.from_residual.result (IsRightKind default_config (string_bytes c.args.pattern)) = search rules in
    let own : IfErr c.from_residual.result (λ e. e ≢ Internal) = search rules in
    refused_by_result _ c.from_residual.result refusal kind own
