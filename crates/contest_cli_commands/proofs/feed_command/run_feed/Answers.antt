use Rattle.std.proofs.Common.{refl, subst}
use Rattle.sqlite.specs.Held.{state}
use Rattle.sqlite.specs.State.{HasCleanDisk}
use Rattle.contest_streams.specs.Streams.{stream}
use Rattle.contest_store_sqlite.specs.Opening.{FindsContest}
use Rattle.contest_store_sqlite.specs.Contests.{may_leave_of}
use Rattle.contest_store_sqlite.specs.Keeping.{IsTrusted}
use Rattle.contest_store_sqlite.specs.Value.{stored}
use Rattle.contest_cli_words.specs.declared.command_error.CommandError.TheVariants.{Refused}
use Rattle.contest_cli_commands.proofs.FeedLemmas.{fed_by_store, not_fed}
use Rattle.contest_cli_commands.proofs.PrintLemmas.{leaves_no_more, stops_opening}
use Rattle.contest_cli_commands.specs.Printing.{StopsOpening}
use Rattle.contest_cli_commands.proofs.feed_command.run_feed.Goals as goal

pub returns-in-Ok : goal.returns-in-Ok
returns-in-Ok g c =
    let old = state g.S.Store c.args.conn in
    let same = c.into_connection.ensures.connection in
    let told = rw c.into_store-store.ensures.store at c.feed_from-status.ensures.told in
    let trusted : HasCleanDisk (state g.S.Store c.into_connection.result) → IsTrusted (state g.S.Store c.feed_from-status.new.store.conn) =
    λ clean. subst (λ conn. IsTrusted (state g.S.Store conn)) same (c.into_connection.ensures.clean clean) in
    fed_by_store c.args.now c.args.who _ _ _ _ c.feed_from-status.result old (state g.S.Store c.into_connection.result) (stored g.S.Store c.in-Ok.desk) (stored g.S.Store c.feed_from-status.new.store)
    told (λ clean. trusted clean) (λ clean. c.in-Ok.ensures.opened (told.clean (trusted clean)).0) (λ clean d left. subst (λ conn. may_leave_of (state g.S.Store conn) d) same left)

pub returns-in-Err : goal.returns-in-Err
returns-in-Err g c =
    let old = state g.S.Store c.args.conn in
    record {
      told = not_fed _ (FindsContest old) (StopsOpening old (state g.S.Store c.in-Err.conn)) c.args.now c.args.who (stream g.O.Write.contents c.args.out.now) _ _ (Refused c.refusal.result) c.refuse.result
          (stops_opening old (state g.S.Store c.in-Err.conn) c.in-Err.error c.refusal.result c.refusal.ensures.value (λ is clean up. c.in-Err.ensures.first clean is up)) refl
          c.refuse.ensures.status c.refuse.ensures.told;
      leaves = leaves_no_more old (state g.S.Store c.in-Err.conn) c.in-Err.ensures.refused;
    }
