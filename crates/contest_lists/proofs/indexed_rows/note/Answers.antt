use Rattle.std.proofs.Common.{◌∙◌, ◌+◌, ap}
use Rattle.std.specs.Prelude.{◌&&◌, ◌==◌, Some, if◌then◌else◌}
use Rattle.contest_lists.specs.RowIndex.{standing_in}
use Rattle.contest_lists.proofs.indexed_rows.note.Goals as goal

pub returns-clause-ok : goal.returns-clause-ok
returns-clause-ok c = λ team number.
    c.in_ok-insert.ensures.updates.0 (team, number)
    ∙ ap (λ next. if (c.args.submission.0 == team) && (c.args.submission.1 == number) then Some (record { next = next + 1; last = c.args.place }) else standing_in c.args.standings.now team number) c.next_of.ensures
