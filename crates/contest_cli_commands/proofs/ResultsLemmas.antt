-- What is told of the results of a contest.
use Rattle.std.proofs.Common.{◌≡◌, ◌∙◌, ap, inl, inr, refl, ℕ, List, Option, Some, None, arith}
use Rattle.std.specs.Prelude.{◌≤◌}
use Rattle.sqlite.specs.State.{HasCleanDisk, State}
use Rattle.contest_types.specs.Setup.{Setup}
use Rattle.contest_types.specs.State.{ContestState}
use Rattle.contest_types.specs.declared.audience.Audience.{Audience}
use Rattle.contest_types.specs.declared.audience.Audience.TheVariants.{Jury}
use Rattle.contest_streams.specs.Streams.{Stream}
use Rattle.contest_score.specs.Awards.{shown_awards}
use Rattle.contest_score.specs.Contest.{board_for, seen_board}
use Rattle.contest_score.specs.Ranking.{Scoreboard}
use Rattle.contest_score.specs.declared.award.Award.{Award}
use Rattle.contest_view.specs.Awards.{audience_awards}
use Rattle.contest_exports.specs.ResultsTsv.{results_tsv}
use Rattle.contest_store_sqlite.specs.Opening.{FindsContest}
use Rattle.contest_cli_words.specs.CommandErrors.{exit_status_of}
use Rattle.contest_cli_words.specs.declared.command_error.CommandError.{CommandError}
use Rattle.contest_cli_words.specs.declared.command_error.CommandError.TheVariants.{File}
use Rattle.contest_cli_commands.specs.ExportingResults.{ExportsResults, GivesResults, LacksResults, SaysNothingElse, StopsResults, TellsResults, results_at}
use Rattle.contest_cli_commands.specs.Printing.{StopsOpening}
use Rattle.contest_cli_commands.specs.Showing.{ShowsText, TellsShown}
use Rattle.contest_cli_commands.proofs.ExportLemmas.{cut_off}

-- the results by the jury's board and its awards are those of the contest
pub results_found : (text : List ℕ) (s : Setup) (b : Scoreboard) (ws : List Award) (who : Audience) (now : ℕ) (x : ContestState) → who ≡ Jury → s ≡ x.fixed.settings
    → b ≡ seen_board who now None x → Some ws ≡ audience_awards who now x → text ≡ results_tsv s b.rows ws → text ≡ results_at x now
results_found text s b ws who now x jury own board awards is =
    let rows : b.rows ≡ board_for Jury now None x = ap (λ (q : Scoreboard). q.rows) (rw jury at board) in
    let found : ◌≡◌ {A = Option (List Award)} (Some ws) (Some (shown_awards Jury now x)) = rw jury at awards in
    let list : ws ≡ shown_awards Jury now x = cc found in
    is
    ∙ (ap (λ t. results_tsv t b.rows ws) own
    ∙ (ap (λ them. results_tsv x.fixed.settings them ws) rows ∙ ap (λ them. results_tsv x.fixed.settings (board_for Jury now None x) them) list))

module _ (out_old out_new err_old err_new : Stream) (status : ℕ) (old new : State) where
  abbrev Told : Type 0
  Told = (status ≤ 1) × TellsResults (HasCleanDisk new) (FindsContest old) (StopsOpening old new) out_old out_new err_old err_new status

  told_results : TellsShown GivesResults LacksResults SaysNothingElse (HasCleanDisk new) (FindsContest old) (StopsOpening old new) out_old out_new err_old err_new status → Told
  told_results (inl (text, gives, shows)) = (
    shows.statuses,
    record {
      done = λ e. ((λ c. let g = gives c in (g.0, g.1, text, g.2, (shows.done e).0)), (shows.done e).1);
      refused = λ e. (File, (shows.cut e).2, inr (refl, (shows.cut e).0), inr (λ c. let g = gives c in (g.0, g.1, text, g.2, (shows.cut e).1)));
    },
  )
  told_results (inr (stop, is, told, keeps, says, why)) =
      let one : exit_status_of stop ≡ 1 = elim says [ inl once ↦ once | inr never ↦ absurd never ] in
      let because : HasCleanDisk new → StopsResults (FindsContest old) (StopsOpening old new) stop =
      λ c. elim (why c) [ inl stops ↦ inl stops | inr lacks ↦ inr (lacks.2.0, (lacks.0, lacks.1, lacks.2.1)) ] in (
        omega (arith, one, is),
        cut_off GivesResults (HasCleanDisk new) (FindsContest old) (λ (s : CommandError). HasCleanDisk new → StopsResults (FindsContest old) (StopsOpening old new) s) out_old out_new err_old err_new stop status
            (inl because) one (inl keeps) is told,
      )

  -- how the command ends
  pub exports_results : ShowsText GivesResults LacksResults SaysNothingElse out_old out_new err_old err_new old new status → ExportsResults out_old out_new err_old err_new old new status
  exports_results s = let t = told_results s.told in record { statuses = t.0; told = t.1; leaves = s.leaves }
