use Rattle.std.proofs.Common.{◌∙◌, ap, Some}
use Rattle.contest_http.specs.Plans.{method_of}
use Rattle.contest_http.proofs.FieldLemmas.{head_plan-is}
use Rattle.contest_http.proofs.plan.judge.Goals as goal

pub returns-in-Ok-clause-plan : goal.returns-in-Ok-clause-plan
returns-in-Ok-clause-plan c =
    let s = c.in-Some.ensures.some in
    let at = s.2 in
    let method = c.method_of-method.ensures ∙ ap method_of (c.of.ensures ∙ at.method) in
    (Some s.0, s.1, c.in-Ok.ensures ∙ head_plan-is s.0 _ _ _ _ method (c.of-in-Some.ensures ∙ at.path) at.version (c.new-fields.ensures ∙ at.fields))
