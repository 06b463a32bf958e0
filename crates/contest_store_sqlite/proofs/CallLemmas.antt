-- A transaction that is begun, and then a step in it.
use Rattle.std.proofs.Common.{Result, Ok, Err, subst, arith}
use Rattle.std.specs.Prelude.{OnErr, OnOk}
use Rattle.sqlite.specs.State.{HasCleanDisk, State}
use Rattle.sqlite.specs.Tree.{Trees}
use Rattle.sqlite.proofs.StateLemmas.{survives_then, survives_weaker}
use Rattle.contest_store.specs.declared.store_error.StoreError.{StoreError}
use Rattle.contest_store_tables.specs.Counts.{CountsCall}
use Rattle.contest_store_tables.specs.Steps.{Call, Content, Holding, Holds, MakesNone, Step, Undoes, Within}
use Rattle.contest_store_tables.specs.declared.counts.Counts.{Counts}
use Rattle.contest_store_tables.proofs.HoldLemmas.{on_err}

pub any_ok : {T E P : Type 0} (r : Result T E) → P → OnOk r P
any_ok (Ok x) p = p
any_ok (Err e) p = tt

pub any_err : {T E P : Type 0} (r : Result T E) → P → OnErr r P
any_err (Ok x) p = tt
any_err (Err e) p = p

module _ {T U : Type 0} (old mid new : State) (b m a : Counts) (From Next To : Holding) (holds : (now kept : Content) → From old now kept → Holds old now kept) where
  module _ (x : U) (r : Result T StoreError) (one : Call (Ok x) old mid b m Holds Within (λ _. ⊥)) (two : Step r mid new m a Next To (MakesNone mid Next))
      (next : (now kept : Content) → From old now kept → Within mid now kept → Next mid now kept) where
    early : HasCleanDisk new → HasCleanDisk mid
    early clean = omega (arith, two.survives.clean)

    -- what the step starts from
    starts : HasCleanDisk mid → (now kept : Content) → From old now kept → Next mid now kept
    starts clean now kept from = next now kept from (one.step.ok clean now kept (holds now kept from))

    pub begun_then : Call r old new b a From To (MakesNone old From)
    begun_then = record {
      step = record {
        ok = λ clean now kept from. two.ok clean now kept (starts (early clean) now kept from);
        err = λ clean. on_err r (λ (u : Undoes mid new Next). record { autocommit = u.autocommit; holds = λ is now kept from. u.holds is now kept (starts (early clean) now kept from) }) (two.err clean);
        counts = subst (λ n. CountsCall r n a) one.step.counts two.counts;
        survives = survives_then old mid new _ (MakesNone mid Next) _ (λ _ db none. absurd none.1)
            (λ clean db none.
            let before : HasCleanDisk mid = omega (arith, clean, two.survives.clean) in
            (one.up before, λ now kept from. none now kept (starts before now kept from)))
            one.step.survives two.survives;
      };
      up = λ clean live. any_ok r (one.up (early clean) live);
      back = λ clean live. any_err r (λ _. one.up (early clean) live);
    }

  -- where none was begun
  module _ (e : StoreError) (one : Call {T = U} (Err e) old new b a Holds Within (λ _. ⊥)) where
    pub not_begun : Call {T = T} (Err e) old new b a From To (MakesNone old From)
    not_begun = record {
      step = record {
        ok = λ _ _ _ _. tt;
        err = λ clean. (let u = one.step.err clean in record { autocommit = u.autocommit; holds = λ is now kept from. u.holds is now kept (holds now kept from) });
        counts = one.step.counts;
        survives = survives_weaker old new _ _ (λ _ db none. absurd none.1) one.step.survives;
      };
      up = λ _ _. tt;
      back = one.back;
    }

-- a refusal is one whatever would have been answered
pub call_refuses : {T U : Type 0} (e : StoreError) (old new : State) (b a : Counts) (From To : Holding) (Made : Trees → Type 0) → Call {T = T} (Err e) old new b a From To Made → Call {T = U} (Err e) old new b a From To Made
call_refuses e old new b a From To Made one = record {
  step = record { ok = λ _ _ _ _. tt; err = one.step.err; counts = one.step.counts; survives = one.step.survives };
  up = λ _ _. tt;
  back = one.back;
}
