use Rattle.std.proofs.Common.{refl, ◌∙◌}
use Rattle.contest_score.proofs.BoardOrder.{rows_in_order, few_standings}
use Rattle.contest_score.proofs.ranking.board_of.Goals as goal

pub rows_of-requires : goal.rows_of-requires
rows_of-requires g c =
    few_standings c.args.settings.now c.standings.ensures.valid (g.S.Shown.is_shown c.args.shown.now) c.in_ok-teams.teams.items c.sort.new.standings.items c.sort.ensures.permutation c.in_ok-teams.ensures.places

pub returns : goal.returns
returns g c =
    let rows = c.in_ok-rows.ensures ∙ rows_in_order c.args.settings.now c.standings.ensures.valid (g.S.Shown.is_shown c.args.shown.now) (g.C.Cells.cells c.args.cells.now) c.in_ok-teams.teams.items c.sort.new.standings.items c.sort.ensures.permutation c.in_ok-teams.ensures.places c.in_ok-teams.ensures.told c.sort.ensures.sorted in
    rw (c.new.ensures, c.in_ok-columns.ensures.order, rows) refl
