use Rattle.std.proofs.Common.{◌∙◌, sym, arith}
use Rattle.sqlite.specs.State.{HasCleanDisk}
use Rattle.contest_store_tables.specs.Connected.{shown_by}
use Rattle.contest_store_tables.specs.Steps.{Full}
use Rattle.contest_store_changes.specs.ContestTables.{table_rows}
use Rattle.contest_store_sqlite.specs.Contests.{contest_of}
use Rattle.contest_store_sqlite.specs.Steps.{HoldsDesk}
use Rattle.contest_store_sqlite.proofs.LaterSteps.{call_given_up}
use Rattle.contest_store_sqlite.proofs.ListsRead.{read_sound, some_read, sound_rises}
use Rattle.contest_store_sqlite.proofs.reads.load_lists.Goals as goal

pub disbelieve-requires : goal.disbelieve-requires
disbelieve-requires g c clean =
    let old = shown_by g.S.Store c.args.tables.now in
    let x = contest_of old in
    let read = c.in-Ok.ensures in
    let early : HasCleanDisk old = omega (arith, clean, read.call.step.survives.clean) in
    let kept = c.requires early in
    let h = kept.holds (read.call.up clean kept.live) in
    some_read c.in-Ok.found x h.sound (read.lists clean (table_rows x) _ h.holds (sound_rises x h.sound)) c.in-None.is

pub returns-in-Some-clause-lists : goal.returns-in-Some-clause-lists
returns-in-Some-clause-lists g c clean =
    read_sound (shown_by g.S.Store c.args.tables.now) c.in-Some.lists (λ now kept holds up. sym (c.in-Ok.ensures.lists clean now kept holds up) ∙ c.in-Some.is)

pub returns-in-None-clause-call : goal.returns-in-None-clause-call
returns-in-None-clause-call g c =
    let up = c.disbelieve in
    call_given_up _ _ _ (shown_by g.S.Store c.args.tables.now) (shown_by g.S.Store c.find_lists.new.tables) (shown_by g.S.Store up.new.self) _ _ _ HoldsDesk Full Full
    (λ now kept from full. (now, full.0)) c.in-Ok.ensures.call up.ensures.error up.ensures.undone up.ensures.counts up.ensures.survives
