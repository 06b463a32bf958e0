-- What stands in a transaction that was begun.
use Rattle.std.proofs.Common.{Ok, arith}
use Rattle.sqlite.specs.Tree.{Trees}
use Rattle.sqlite.specs.State.{HasCleanDisk, State, Survives}
use Rattle.contest_store_tables.specs.Steps.{Call, Content, Full, Holds, Within}
use Rattle.contest_store_tables.specs.declared.counts.Counts.{Counts}
use Rattle.contest_store_sqlite.specs.Steps.{HoldsDesk}

-- where the disk is clean after what came next
pub begun_within : {U : Type 0} (x : U) (old mid new : State) (b m : Counts) (Made : Trees → Type 0) (now kept : Content) → Call (Ok x) old mid b m Holds Within (λ _. ⊥)
    → Survives mid new Made → HasCleanDisk new → Holds old now kept → Within mid now kept
begun_within x old mid new b m Made now kept one next clean holds = one.step.ok (omega (arith, clean, next.clean)) now kept holds

pub still_holds : (s : State) (now kept : Content) → HoldsDesk s now kept → Holds s now kept
still_holds s now kept h = h.0

pub is_full : (old mid : State) (now kept : Content) → HoldsDesk old now kept → Within mid now kept → Full mid now kept
is_full old mid now kept h within = (within, h.1)
