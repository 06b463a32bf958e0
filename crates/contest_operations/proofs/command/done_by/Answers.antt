use Rattle.std.proofs.Common.{◌∙◌, ap}
use Rattle.contest_operations.specs.Paths.{jury_piece}
use Rattle.contest_operations.proofs.CallerLemmas.{writer_fits}
use Rattle.contest_operations.proofs.command.done_by.Goals as goal

pub returns-in-Clarification : goal.returns-in-Clarification
returns-in-Clarification c = λ x valid is sound filed.
    rw c.in-Clarification.is (c.carry_out-in-Clarification.ensures x valid is
    (writer_fits x c.in-Clarification.clarifying.sender c.in-Clarification.clarifying.account valid (rw c.in-Clarification.is at sound)))

pub returns-in-Rejudging : goal.returns-in-Rejudging
returns-in-Rejudging c = λ x valid is sound filed.
    let id = c.jury_piece-id.ensures ∙ ap jury_piece c.as_slice.ensures in
    rw c.in-Rejudging.is (rw id at (c.carry_out-in-Rejudging.ensures x valid is tt))
