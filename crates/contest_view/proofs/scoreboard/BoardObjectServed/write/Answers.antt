use Rattle.std.proofs.Common.{ap₂}
use Rattle.std.proofs.lemmas.Result.{on_ok_weaker}
use Rattle.contest_objects.specs.JsonTokens.{data_tokens}
use Rattle.contest_objects.proofs.WrittenLemmas.{behind, in_words}
use Rattle.contest_view.specs.Scoreboards.{rows_data}
use Rattle.contest_view.proofs.scoreboard.BoardObjectServed.write.Goals as goal

pub returns : goal.returns
unfolding data_tokens
returns c =
    let settings = c.args.self.now.fixed.now.settings in
    let board = c.args.self.now.board.now in
    let rows = in_words (data_tokens (rows_data settings board.columns board.rows)) (ap₂ (λ columns rows. data_tokens (rows_data settings columns rows)) c.columns.ensures c.rows.ensures) c.in_ok-write_rows.ensures in
    on_ok_weaker c.end_object.result
    (λ e. behind c.in_ok-begin_object.ensures (behind c.in_ok-write_member.ensures (behind c.in_ok-write_name.ensures (behind rows
    (behind c.in_ok-write_name-2.ensures (behind c.in_ok-write_state.ensures (behind c.in_ok-write_member-2.ensures e)))))))
    c.end_object.ensures
