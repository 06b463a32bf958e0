use Rattle.std.proofs.Common.{◌∙◌, ◌+◌, sym, ap, arith, slice_get}
use Rattle.std.specs.Option.{option_map}
use Rattle.sqlite_value.specs.Order.{column}
use Rattle.contest_store_rows.specs.Cells.{number}
use Rattle.contest_store_tables.specs.Connected.{shown_by}
use Rattle.contest_store_tables.specs.Steps.{Full}
use Rattle.contest_store_changes.specs.ContestTables.{bytes_of, table_rows}
use Rattle.contest_store_sqlite.proofs.FileRows.{found_file, no_such_number, no_such_team}
use Rattle.contest_store_sqlite.proofs.LaterSteps.{given_up_then}
use Rattle.contest_store_sqlite.proofs.PlaceCells.{place_cells}
use Rattle.contest_store_sqlite.proofs.files.file_within.Goals as goal
use Rattle.contest_store_sqlite.proofs.files.file_within.Goals.{then-team-via-then-team, then-team-via-else-team+then-number}

pub returns-then-team-clause-value : goal.returns-then-team-clause-value
returns-then-team-clause-value g c clean x kept sound within = elim c.then-team.branch [
  | then-team-via-then-team w ↦ sym (no_such_team x c.args.team c.args.number sound (omega (arith, w.if-team.true)))
  | then-team-via-else-team+then-number w ↦ sym (no_such_number x c.args.team c.args.number sound (omega (arith, w.if-number.true)))
]

pub returns-in-Ok-first_file-clause-value : goal.returns-in-Ok-first_file-clause-value
returns-in-Ok-first_file-clause-value g c clean x kept sound within =
    let team = c.args.team in
    let n = c.args.number in
    let cells = place_cells team n c.if-team.false (omega (arith, c.if-number.false)) in
    let found = c.in-Ok.ensures.rows clean (table_rows x) kept within (number (team + 1)) (number n) cells in
    c.in-Ok-first_file.ensures ∙ ap (λ l. option_map (λ r. bytes_of (column r 0)) (slice_get l 0)) c.deref.ensures.value ∙ found_file x team n c.in-Ok.rows.items sound found

pub returns-in-Ok-clause-step : goal.returns-in-Ok-clause-step
returns-in-Ok-clause-step g c =
    let old = shown_by g.S.Store c.args.tables.now in
    let mid = shown_by g.S.Store c.files.new.self in
    let new = shown_by g.S.Store c.out_of_memory.new.self in
    given_up_then _ _ _ old mid new _ _ _ Full Full Full (λ now kept from full. (now, full.0)) c.in-Ok.ensures.step c.out_of_memory.ensures.error c.out_of_memory.ensures.undone c.out_of_memory.ensures.counts c.out_of_memory.ensures.survives
