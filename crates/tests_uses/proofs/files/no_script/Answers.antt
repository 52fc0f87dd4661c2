use Rattle.std.proofs.Common.{◌≡◌, true, Some, codes, rules, ap, ◌∙◌}
use Rattle.std.proofs.lemmas.Result.{IfOk-weaker}
use Rattle.predicates_boolean.specs.Join as Join
use Rattle.predicates_core.specs.Name as Name
use Rattle.predicates_path.specs.Content as Content
use Rattle.predicates_path.specs.Kind.{tested_kind, follows, kind_predicate_text}
use Rattle.predicates_path.specs.declared.file_type.FileType.TheVariants.{File}
use Rattle.predicates_text.specs.AdapterParts.{inner_of}
use Rattle.predicates_text.specs.Patterns.{starts_pattern}
use Rattle.predicates_text.specs.Leaves.{starts_text}
use Rattle.predicates_core.specs.Combined.{infix_text, sign}
use Rattle.predicates_core.specs.declared.custom.join.Operator.TheVariants.{And}
use Rattle.tests_uses.proofs.Scripts.{script_told}
use Rattle.tests_uses.proofs.files.no_script.Goals as goal

pub returns : goal.returns
returns c =
    let both = Name.inner_of c.name-script.result in
    let kind = Join.left_of both in
    let mark = starts_pattern (inner_of (Content.inner_of (Join.right_of both))) in
    let is_kind : tested_kind kind ≡ File = search rules in
    let follow : follows kind ≡ true = search rules in
    let is_mark : mark ≡ codes "#!" = search rules in
    IfOk-weaker c.find_case.result _ _ (λ found h. script_told (Name.name_of c.name-script.result).now (infix_text (sign And) (Some (kind_predicate_text (tested_kind kind))) (starts_text mark)) kind mark c.args.file.now found is_kind follow is_mark h) c.find_case.ensures
