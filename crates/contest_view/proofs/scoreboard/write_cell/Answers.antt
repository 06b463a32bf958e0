use Rattle.std.proofs.Common.{◌∷◌, List, ap, sym}
use Rattle.std.specs.Prelude.{codes}
use Rattle.std.specs.Fmt.{decimal}
use Rattle.std.proofs.lemmas.Result.{on_ok_weaker}
use Rattle.json.specs.Token.{Token, begin_object, boolean, key, number, string}
use Rattle.contest_types.specs.ProblemPlaces.{problem_id_at}
use Rattle.contest_score.specs.Scoring.{is_solved}
use Rattle.contest_objects.specs.JsonTokens.{data_tokens}
use Rattle.contest_objects.proofs.WrittenLemmas.{behind, in_words}
use Rattle.contest_view.specs.Scoreboards.{cell_data}
use Rattle.contest_view.proofs.BoardObjectLemmas.{minute_last}
use Rattle.contest_view.proofs.scoreboard.write_cell.Goals as goal

pub returns : goal.returns
unfolding data_tokens
returns c =
    let cell = c.args.cell.now in
    let front : List Token → List Token = λ last.
    begin_object ∷ key (codes "num_judged") ∷ number (decimal cell.judged) ∷ key (codes "num_pending") ∷ number (decimal cell.pending)
    ∷ key (codes "problem_id") ∷ string (problem_id_at c.args.settings.now.problems c.args.problem) ∷ key (codes "solved") ∷ boolean (is_solved cell) ∷ last in
    on_ok_weaker c.end_object.result
    (λ e. in_words (data_tokens (cell_data c.args.settings.now c.args.problem cell)) (ap front (sym (minute_last cell.solved)))
    (behind c.in_ok-begin_object.ensures (behind (rw c.from.ensures at c.in_ok-write_member.ensures) (behind (rw c.from-2.ensures at c.in_ok-write_member-2.ensures)
    (behind (rw c.problem_id.ensures at c.in_ok-write_member-3.ensures) (behind (rw c.is_some.ensures at c.in_ok-write_member-4.ensures) (behind (rw c.minute_where.ensures at c.in_ok-write_member-5.ensures) e)))))))
    c.end_object.ensures
