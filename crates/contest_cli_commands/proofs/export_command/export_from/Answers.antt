use Rattle.std.proofs.Common.{◌≡◌, ◌∙◌, Err, ap, arith, inl, inr, refl, subst, sym}
use Rattle.contest_types.specs.declared.refusal.Refusal.{Refusal}
use Rattle.contest_cli_words.specs.declared.command_error.CommandError.TheVariants.{Refused}
use Rattle.contest_exports.specs.SubmissionsCsv.{submissions_csv}
use Rattle.contest_cli_commands.specs.Exporting.{GivesSubmissions, StopsKept}
use Rattle.contest_cli_commands.proofs.ExportLemmas.{cut_off, leaves_by_look, stops_kept}
use Rattle.contest_cli_commands.proofs.export_command.export_from.Goals as goal

pub returns-in-Err-Store-clause-told : goal.returns-in-Err-Store-clause-told
returns-in-Err-Store-clause-told g c =
    let old = g.S.ContestStore.kept c.args.store.now in
    let new = g.S.ContestStore.kept c.submissions_csv.new.store in
    let error = c.in-Err-Store.error in
    let why : StopsKept old new (Refused c.refusal.result) =
    subst (λ (r : Refusal). StopsKept old new (Refused r)) (sym c.refusal.ensures) (stops_kept _ error old new (c.in-Err-Store.is ∙ ap Err c.in-Err-Store.field-0-is) c.submissions_csv.ensures.leaves.faults) in
    record {
      statuses = omega (arith, c.refuse-in-Err-Store.ensures.status);
      told = cut_off GivesSubmissions new.is_clean (λ x. x ≡ old.contest) (StopsKept old new) _ _ _ _ (Refused c.refusal.result) c.refuse-in-Err-Store.result (inl why) refl
          (inr (λ clean. (old.contest, refl, submissions_csv old.contest, refl, c.in-Err-Store.ensures.written clean))) c.refuse-in-Err-Store.ensures.status c.refuse-in-Err-Store.ensures.told;
      crash = leaves_by_look _ old new c.in-Err-Store.ensures.leaves;
      clean = c.in-Err-Store.ensures.leaves.clean;
    }
