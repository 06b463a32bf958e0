use Rattle.std.proofs.Common.{◌<◌, arith, rules}
use Rattle.contest_store_rows.proofs.submissions.loaded_cells.Goals as goal

pub returns : goal.returns
returns c =
    let bound = c.milliseconds.ensures.bound in
    let time : c.milliseconds.result < 9223372036854775808 = omega (arith, bound) in
    let row = c.number.ensures c.requires.row in
    let team = c.number-2.ensures c.requires.team in
    let number = c.number-3.ensures c.requires.number in
    let moment = c.number-4.ensures time in
    let size = c.number-5.ensures c.requires.size in
    search (rules, row, team, number, moment, size)
