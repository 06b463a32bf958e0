use Rattle.std.proofs.Common.{◌∙◌, ℕ, sym, ap}
use Rattle.contest_postings.specs.DoneThings.{ruled_with}
use Rattle.contest_postings.specs.declared.clock.FinalResults.{FinalResults}
use Rattle.contest_rules.specs.declared.clock_changes.ClockChange.{ClockChange}
use Rattle.contest_postings.proofs.LoadedClock.{final_over}
use Rattle.contest_postings.proofs.clock.FinalizePosting.decide.Goals as goal

abbrev results : (now : ℕ) → ClockChange → FinalResults
results now change = record { now = now; change = change }

pub returns-in-Ok : goal.returns-in-Ok
returns-in-Ok c = λ x valid are fits.
    ap (ruled_with (results c.args.now)) (sym c.in-Ok.is ∙ (c.decide_final.ensures
    ∙ final_over x c.args.lists.now c.args.now are c.fixed.ensures c.submissions-submissions.ensures c.rejudgings-rejudgings.ensures))

pub returns-in-Err : goal.returns-in-Err
returns-in-Err c = λ x valid are fits.
    ap (ruled_with (results c.args.now)) (sym c.in-Err.is ∙ (c.decide_final.ensures
    ∙ final_over x c.args.lists.now c.args.now are c.fixed.ensures c.submissions-submissions.ensures c.rejudgings-rejudgings.ensures))
