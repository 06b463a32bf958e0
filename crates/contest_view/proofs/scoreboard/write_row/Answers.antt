use Rattle.std.proofs.lemmas.Result.{on_ok_weaker}
use Rattle.contest_objects.specs.JsonTokens.{data_tokens}
use Rattle.contest_objects.proofs.WrittenLemmas.{behind}
use Rattle.contest_view.proofs.scoreboard.write_row.Goals as goal

pub returns : goal.returns
unfolding data_tokens
returns c =
    on_ok_weaker c.end_object.result
    (λ e. behind c.in_ok-begin_object.ensures (behind c.in_ok-write_name.ensures (behind (rw c.as_slice.ensures at c.in_ok-write_cells.ensures) (behind c.in_ok-write_name-2.ensures
    (behind (rw c.from.ensures at c.in_ok-write_number.ensures) (behind c.in_ok-write_name-3.ensures (behind c.in_ok-write_score.ensures (behind c.in_ok-write_name-4.ensures (behind (rw c.team_id.ensures at c.in_ok-write_string.ensures) e)))))))))
    c.end_object.ensures
