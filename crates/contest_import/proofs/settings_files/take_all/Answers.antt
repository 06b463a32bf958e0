use Rattle.std.proofs.Common.{◌≡◌, ◌∷◌, ◌∙◌, sym, rules, arith, map}
use Rattle.serde_json.specs.View.{view}
use Rattle.contest_files.specs.Refused.{Refuses}
use Rattle.contest_import.specs.RowAdditions.{after_records, rows_or_refusal}
use Rattle.contest_import.specs.SettingsObjects.{object_row}
use Rattle.contest_import.proofs.FaultLemmas.{refused_from}
use Rattle.contest_import.proofs.settings_files.take_all.Goals as goal

pub returns-in_err-take_numbered-clause-err : goal.returns-in_err-take_numbered-clause-err
returns-in_err-take_numbered-clause-err c =
    let rest : c.loop-object.rest.now ≡ c.in-Some.object.now ∷ c.in-Some.others.now = search rules in
    let told : Refuses c.in_err-take_numbered.field-0.0 (rows_or_refusal (after_records (object_row c.args.kind) c.args.additions.now 1 (map view c.args.objects.now))) =
    refused_from _ _ _ (rw rest at c.loop-object.invariant.same) (c.in_err-take_numbered.ensures.err (map view c.in-Some.others.now)) in
    search rules

pub loop-object-preserved : goal.loop-object-preserved
loop-object-preserved c =
    let rest : c.loop-object.rest.now ≡ c.in-Some.object.now ∷ c.in-Some.others.now = search rules in
    let few = c.loop-object.invariant.few in
    record {
      same = sym (c.in_ok-take_numbered.ensures.ok (map view c.in-Some.others.now)) ∙ (rw rest at c.loop-object.invariant.same);
      few = omega (arith, rw rest at few);
    }
