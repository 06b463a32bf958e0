use Rattle.std.proofs.Common.{◌∙◌, false, sym, true}
use Rattle.std.specs.Prelude.{◌&&◌, ◌==◌}
use Rattle.contest_import_verdicts.specs.ImportedVerdicts.{value_at}
use Rattle.contest_import_verdicts.proofs.ImportedLemmas.{one_more, same}
use Rattle.contest_import_verdicts.proofs.imported.take_proposal.Goals as goal

pub returns-in_ok-insert : goal.returns-in_ok-insert
returns-in_ok-insert c = λ ps are.
    one_more ps c.args.proposal.now (value_at c.args.imported.now) _ true (sym c.is_first.ensures ∙ c.if-is_first.true) are (λ team number. c.in_ok-insert.ensures.updates.0 (team, number))

pub returns-else-is_first : goal.returns-else-is_first
returns-else-is_first c = λ ps are.
    one_more ps c.args.proposal.now (value_at c.args.imported.now) _ false (sym c.is_first.ensures ∙ c.if-is_first.false) are (λ team number. same ((c.args.proposal.now.team == team) && (c.args.proposal.now.number == number)) _)
