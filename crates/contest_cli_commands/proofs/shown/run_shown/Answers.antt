use Rattle.std.proofs.Common.{inl, inr, refl, subst}
use Rattle.std.proofs.KnownBytes.{Keeps-refl}
use Rattle.sqlite.specs.Held.{state}
use Rattle.sqlite.specs.State.{HasCleanDisk}
use Rattle.contest_streams.specs.Streams.{stream}
use Rattle.contest_store_sqlite.specs.Contests.{may_leave_of}
use Rattle.contest_store_sqlite.specs.Keeping.{IsTrusted}
use Rattle.contest_store_sqlite.specs.Value.{stored}
use Rattle.contest_cli_words.specs.declared.command_error.CommandError.TheVariants.{Refused}
use Rattle.contest_cli_commands.proofs.PrintLemmas.{leaves_no_more, stops_opening}
use Rattle.contest_cli_commands.proofs.ShownLemmas.{shown_by_store}
use Rattle.contest_cli_commands.proofs.shown.run_shown.Goals as goal

pub returns-in-Ok : goal.returns-in-Ok
returns-in-Ok g c =
    let old = state g.S.Store c.args.conn in
    let same = c.into_connection.ensures.connection in
    let told = rw c.into_store-store.ensures.store at c.show_from-status.ensures.told in
    let trusted : HasCleanDisk (state g.S.Store c.into_connection.result) → IsTrusted (state g.S.Store c.show_from-status.new.store.conn) =
    λ clean. subst (λ conn. IsTrusted (state g.S.Store conn)) same (c.into_connection.ensures.clean clean) in
    shown_by_store (g.T.Shown.gives c.args.shown.now) (g.T.Shown.lacks c.args.shown.now) g.T.Shown.says _ _ _ _ c.show_from-status.result old (state g.S.Store c.into_connection.result)
    (stored g.S.Store c.in-Ok.desk) (stored g.S.Store c.show_from-status.new.store) told (λ clean. trusted clean) (λ clean. c.in-Ok.ensures.opened (told.clean (trusted clean)).0)
    (λ clean d left. subst (λ conn. may_leave_of (state g.S.Store conn) d) same left)

pub returns-in-Err : goal.returns-in-Err
returns-in-Err g c =
    let old = state g.S.Store c.args.conn in
    let new = state g.S.Store c.in-Err.conn in
    record {
      told =
          inr (
            Refused c.refusal.result,
            c.refuse.ensures.status,
            c.refuse.ensures.told,
            Keeps-refl (stream g.O.Write.contents c.args.out.now).bytes,
            inl refl,
            λ clean. inl (stops_opening old new c.in-Err.error c.refusal.result c.refusal.ensures.value (λ is disk up. c.in-Err.ensures.first disk is up)),
          );
      leaves = leaves_no_more old new c.in-Err.ensures.refused;
    }
