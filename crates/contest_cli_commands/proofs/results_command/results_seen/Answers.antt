use Rattle.std.proofs.Common.{◌∙◌, refl, sym}
use Rattle.contest_cli_commands.proofs.ResultsLemmas.{results_found}
use Rattle.contest_cli_commands.proofs.results_command.results_seen.Goals as goal

pub returns-clause-text : goal.returns-clause-text
returns-clause-text c x s jury =
    results_found c.into_bytes.result.items c.fixed.result.now.settings c.in_ok-board.board c.in-Some.awards c.args.seen.now.audience c.args.seen.now.now x jury (rw (c.fixed.ensures, s.lists) refl)
    (c.in_ok-board.ensures x s) (sym c.in-Some.is ∙ c.in_ok-awards.ensures x s) (rw c.into_bytes.ensures.value (rw c.as_slice.ensures at c.in_ok-text.ensures))
