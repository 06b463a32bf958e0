use Rattle.std.proofs.Common.{◌≡◌, inl, inr, refl, subst, sym}
use Rattle.contest_types.specs.declared.refusal.Refusal.{Refusal}
use Rattle.contest_streams.specs.Streams.{stream}
use Rattle.contest_cli_words.specs.CommandErrors.{IsMemory}
use Rattle.contest_cli_words.specs.declared.command_error.CommandError.TheVariants.{Refused}
use Rattle.contest_cli_commands.specs.Exporting.{StopsKept}
use Rattle.contest_cli_commands.specs.Showing.{IsShown}
use Rattle.contest_cli_commands.proofs.ExportLemmas.{counted_stops}
use Rattle.contest_cli_commands.proofs.FeedLemmas.{fed_of, not_fed}
use Rattle.contest_cli_commands.proofs.ShownLemmas.{shown_now}
use Rattle.contest_cli_commands.proofs.feed_command.feed_from.Goals as goal

pub returns-in-Ok-clause-told : goal.returns-in-Ok-clause-told
returns-in-Ok-clause-told g c =
    let old = g.S.ContestStore.kept c.args.store.now in
    let new = g.S.ContestStore.kept c.load.new.self in
    let leaves = c.in-Ok.ensures.leaves in
    let x = old.contest in
    let shown : new.is_clean → IsShown c.lists.result.now c.cells.result.now x =
    shown_now old new c.lists.result.now c.cells.result.now c.lists.ensures c.cells.ensures (λ clean. (leaves.ok clean).now_is) (λ clean. (c.requires (leaves.clean clean) (leaves.up clean (leaves.ok clean).up)).1) in
    record {
      told = fed_of (IsShown c.lists.result.now c.cells.result.now x) new.is_clean (λ y. y ≡ x) (λ y. y ≡ x) IsMemory (StopsKept old new) c.args.now c.args.who
          (stream g.O.Write.contents c.args.out.now) (stream g.O.Write.contents c.feed_of.new.out) (stream g.E.Write.contents c.args.err.now) (stream g.E.Write.contents c.feed_of.new.err) c.feed_of.result
          shown (λ clean y is. is) (λ stop memory. inr memory) (c.feed_of.ensures x);
      crash = λ clean d left. elim (leaves.crash clean d left) [ inl before ↦ before | inr none ↦ absurd none.1 ];
      clean = leaves.clean;
    }

pub returns-in-Err-clause-told : goal.returns-in-Err-clause-told
returns-in-Err-clause-told g c =
    let old = g.S.ContestStore.kept c.args.store.now in
    let new = g.S.ContestStore.kept c.load.new.self in
    let leaves = c.in-Err.ensures.leaves in
    let why : StopsKept old new (Refused c.refusal.result) = subst (λ (r : Refusal). StopsKept old new (Refused r)) (sym c.refusal.ensures) (counted_stops c.in-Err.error old new leaves.faults) in
    record {
      told = not_fed new.is_clean (λ y. y ≡ old.contest) (StopsKept old new) c.args.now c.args.who (stream g.O.Write.contents c.args.out.now) (stream g.E.Write.contents c.args.err.now) (stream g.E.Write.contents c.refuse.new.err)
          (Refused c.refusal.result) c.refuse.result why refl c.refuse.ensures.status c.refuse.ensures.told;
      crash = λ clean d left. elim (leaves.crash clean d left) [ inl before ↦ before | inr none ↦ absurd none.1 ];
      clean = leaves.clean;
    }
