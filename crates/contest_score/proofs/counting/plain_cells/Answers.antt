use Rattle.std.proofs.Common.{length, take, arith, ap, ◌∙◌}
use Rattle.std.proofs.lemmas.List.{take_all}
use Rattle.contest_score.specs.MaskedCells.{mask_for}
use Rattle.contest_score.proofs.Tables.{table_of, table_teams, table_problems, table_room, next_table, mask_at, admitted_at, many_masks, table_cells}
use Rattle.contest_score.proofs.counting.plain_cells.Goals as goal

pub index-mask-requires : goal.index-mask-requires
index-mask-requires c =
    let a = admitted_at c.args.settings.now c.args.marks.now c.args.submissions.now c.loop-submission.submission-index c.submission-item.result c.requires.admitted c.loop-submission-test.true c.submission-item.is in
    let many = many_masks (mask_for c.args.audience c.args.marks.now c.args.now) (length c.args.settings.now.teams) c.in_ok-masks.masks.items c.in_ok-masks.ensures in
    omega (arith, a.team, many, c.in_ok-masks.masks.ok)

pub count-requires-clause-team : goal.count-requires-clause-team
count-requires-clause-team c =
    let a = admitted_at c.args.settings.now c.args.marks.now c.args.submissions.now c.loop-submission.submission-index c.submission-item.result c.requires.admitted c.loop-submission-test.true c.submission-item.is in
    rw c.loop-submission.invariant (table_teams c.args.audience c.args.settings.now c.args.marks.now c.args.now (take c.loop-submission.submission-index c.args.submissions.now) c.submission-item.result.team a.team)

pub count-requires-clause-problem : goal.count-requires-clause-problem
count-requires-clause-problem c =
    let a = admitted_at c.args.settings.now c.args.marks.now c.args.submissions.now c.loop-submission.submission-index c.submission-item.result c.requires.admitted c.loop-submission-test.true c.submission-item.is in
    rw c.loop-submission.invariant (table_problems c.args.audience c.args.settings.now c.args.marks.now c.args.now (take c.loop-submission.submission-index c.args.submissions.now) c.submission-item.result.team c.submission-item.result.problem a.team a.problem)

pub count-requires-clause-room : goal.count-requires-clause-room
count-requires-clause-room c =
    let a = admitted_at c.args.settings.now c.args.marks.now c.args.submissions.now c.loop-submission.submission-index c.submission-item.result c.requires.admitted c.loop-submission-test.true c.submission-item.is in
    rw c.loop-submission.invariant (table_room c.args.audience c.args.settings.now c.args.marks.now c.args.now c.args.submissions.now c.loop-submission.submission-index c.submission-item.result.team c.submission-item.result.problem c.loop-submission-test.true c.requires.few a.team a.problem)

pub loop-submission-preserved : goal.loop-submission-preserved
loop-submission-preserved c =
    let a = admitted_at c.args.settings.now c.args.marks.now c.args.submissions.now c.loop-submission.submission-index c.submission-item.result c.requires.admitted c.loop-submission-test.true c.submission-item.is in
    let mask = mask_at (mask_for c.args.audience c.args.marks.now c.args.now) (length c.args.settings.now.teams) c.in_ok-masks.masks.items c.submission-item.result.team c.index-mask.result.now c.in_ok-masks.ensures a.team c.index-mask.ensures in
    c.count.ensures ∙ next_table c.args.audience c.args.settings.now c.args.marks.now c.args.now c.args.submissions.now c.loop-submission.submission-index c.submission-item.result c.index-mask.result.now c.loop-submission.table c.loop-submission-test.true c.submission-item.is a mask c.loop-submission.invariant

pub returns-clause-table : goal.returns-clause-table
returns-clause-table c = c.loop-submission.invariant ∙ ap (table_of c.args.audience c.args.settings.now c.args.marks.now c.args.now) (take_all c.loop-submission.submission-index c.args.submissions.now c.loop-submission-test.false)

pub returns-clause-cells : goal.returns-clause-cells
returns-clause-cells c =
    let table = c.loop-submission.invariant ∙ ap (table_of c.args.audience c.args.settings.now c.args.marks.now c.args.now) (take_all c.loop-submission.submission-index c.args.submissions.now c.loop-submission-test.false) in
    rw table (table_cells c.args.audience c.args.settings.now c.args.marks.now c.args.now c.args.submissions.now c.requires.admitted)
