-- What an export leaves of the store and of the stream, call by call.
use Rattle.std.proofs.Common.{rules, ◌≡◌, ◌∙◌, true, Result, Ok, Err, refl, sym, subst, arith, inl, inr}
use Rattle.contest_types.specs.State.{ContestState}
use Rattle.contest_types.specs.Valid.{is_valid}
use Rattle.contest_store.specs.Keeping.{Kept, Reads}
use Rattle.contest_store.specs.declared.store_error.StoreError.{StoreError}
use Rattle.contest_store.specs.declared.store_error.StoreError.TheVariants.{Memory}
use Rattle.contest_store.proofs.LeaveLemmas.{in_turn, restated}
use Rattle.contest_desk.specs.Serving.{IsReady, OnlyReads}

-- a look that went well, whatever it gave
pub gives_other : {S T : Type 0} (v : S) (w : T) (old new : Kept) → OnlyReads (Ok v) old new → OnlyReads (Ok w) old new
gives_other v w old new l = search (rules, l)

as_reads : {T : Type 0} (v : T) (old new : Kept) → OnlyReads (Ok v) old new → Reads (Ok v) old new
as_reads v old new l = search (rules, l)

-- a look after a look
pub then_reads : {S T : Type 0} (v : S) (r : Result T StoreError) (old mid new : Kept) → OnlyReads (Ok v) old mid → OnlyReads r mid new → OnlyReads r old new
then_reads v r old mid new l k =
    restated r old new mid.contest mid.committed old.contest old.committed (λ c. ⊥) (λ c. ⊥) (λ n. n) (λ n. n) (Unit {0}) (Unit {0})
    (λ clean. (l.ok (k.clean clean)).now_is) (λ clean. (l.ok (k.clean clean)).kept_is) (λ clean c none. none) (λ clean n. refl) (λ own. own)
    (in_turn v r old mid new old.contest mid.contest mid.committed (λ c. ⊥) (λ n. n) (Unit {0}) (as_reads v old mid l) k)

-- the store is as ready after a look as before it
pub stays_ready : {T : Type 0} (v : T) (old new : Kept) → OnlyReads (Ok v) old new → (old.is_clean → IsReady old) → new.is_clean → IsReady new
stays_ready v old new l ready clean =
    let s = l.ok clean in
    let before = ready (l.clean clean) in
    record { up = s.up; settled = s.now_is ∙ (before.settled ∙ sym s.kept_is); valid = subst (λ (x : ContestState). is_valid x ≡ true) (sym s.now_is) before.valid }

-- no look at all
pub reads_nothing : {T : Type 0} (v : T) (old : Kept) → (old.is_clean → IsReady old) → OnlyReads (Ok v) old old
reads_nothing v old ready = record {
  ok = λ clean. record { up = (ready clean).up; now_is = refl; kept_is = refl };
  err = λ clean opened. tt;
  crash = λ clean c left. inl left;
  clean = λ clean. clean;
  up = λ clean opened. opened;
  shuts = λ clean opened. inl opened;
  troubles = omega arith;
  faults = refl;
  refusals = refl;
  commits = λ clean. refl;
  loaded = λ was. was;
}

-- memory that is refused beside a store that was only looked at
pub refused_beside : {S T : Type 0} (v : S) (old new : Kept) → (old.is_clean → IsReady old) → OnlyReads (Ok v) old new → OnlyReads {T = T} (Err Memory) old new
refused_beside v old new ready l = record {
  ok = λ clean. tt;
  err = λ clean opened. (let s = l.ok clean in record { up = s.up; now_is = s.now_is ∙ (ready (l.clean clean)).settled; kept_is = s.kept_is });
  crash = l.crash;
  clean = l.clean;
  up = l.up;
  shuts = l.shuts;
  troubles = l.troubles;
  faults = l.faults;
  refusals = inr (tt, l.refusals);
  commits = l.commits;
  loaded = λ was. tt;
}
