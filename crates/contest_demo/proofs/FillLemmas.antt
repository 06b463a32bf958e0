-- Changes that are made one after the other and then committed, by a store that was just created.
use Rattle.std.proofs.Common.{◌≡◌, ◌∙◌, ℕ, Bool, true, List, Result, Ok, Err, arith, refl, subst₂, sym, ap, inl, inr}
use Rattle.std.specs.Prelude.{IsTrue, Some}
use Rattle.contest_types.specs.Addable.{are_addable}
use Rattle.contest_types.specs.State.{add_all}
use Rattle.contest_streams.specs.Streams.{one_more}
use Rattle.contest_types.specs.declared.entry.Entry.{Entry}
use Rattle.contest_store.specs.Keeping.{Adds, Commits, Kept, Leaves}
use Rattle.contest_store.specs.declared.store_error.StoreError.{StoreError}
use Rattle.contest_store.specs.declared.store_error.StoreError.TheVariants.{Memory}
use Rattle.contest_store.proofs.LeaveLemmas.{in_turn, restated}
use Rattle.contest_demo.specs.Demo.{demo_entries}
use Rattle.contest_demo.specs.Filling.{AddsAll, IsJustCreated}
use Rattle.contest_demo.proofs.Addable.{demo_addable}

-- so far the changes that are left come to the same, and may be made
pub record Appends (old now : Kept) (all rest : List Entry) : Type 0 where
  pub leaves : Leaves {T = Bool} (Ok true) old now now.contest old.committed (λ c. ⊥) (λ n. n) ⊥
  pub loaded : IsTrue now.is_loaded
  pub comes : now.is_clean → add_all now.contest rest ≡ add_all old.contest all
  pub addable : now.is_clean → are_addable now.contest rest ≡ true

pub then_committed : {S T : Type 0} (v : S) (r : Result T StoreError) (old mid new : Kept) (entries : List Entry) → Adds (Ok v) old mid (add_all old.contest entries) → Commits r mid new mid.contest
    → AddsAll r old new entries ⊥
then_committed v r old mid new entries l k =
    let all = add_all old.contest entries in
    let added : new.is_clean → mid.contest ≡ all = λ clean. (l.ok (k.clean clean)).now_is in
    restated r old new mid.contest mid.contest all all (λ c. c ≡ Some mid.contest) (λ c. c ≡ Some all) one_more one_more ⊥ ⊥
    added added (λ clean c is. is ∙ ap Some (added clean)) (λ clean n. refl) (λ none. none)
    (in_turn v r old mid new all mid.contest mid.contest (λ c. c ≡ Some mid.contest) one_more ⊥ l k)

-- where memory was refused before
pub own_want : {T : Type 0} (old : Kept) (entries : List Entry) → IsJustCreated old → AddsAll {T = T} (Err Memory) old old entries (Unit {0})
own_want old entries created = record {
  ok = λ _. tt;
  err = λ clean up. (let c = created clean in record { up = up; now_is = c.1.now_is ∙ sym c.1.kept_is; kept_is = refl });
  crash = λ _ c left. inl left;
  clean = λ clean. clean;
  up = λ _ up. up;
  shuts = λ _ up. inl up;
  troubles = omega arith;
  faults = refl;
  refusals = inr (tt, refl);
  commits = λ _. refl;
  loaded = λ _. tt;
}

-- want of memory may be the caller's own
pub may_be_own : {T : Type 0} (r : Result T StoreError) (old new : Kept) (entries : List Entry) → AddsAll r old new entries ⊥ → AddsAll r old new entries (Unit {0})
may_be_own r old new entries =
    let all = add_all old.contest entries in
    restated r old new all all all all (λ c. c ≡ Some all) (λ c. c ≡ Some all) one_more one_more ⊥ (Unit {0}) (λ _. refl) (λ _. refl) (λ _ c is. is) (λ _ n. refl) (λ none. absurd none)

-- the entries of the demo contest may be added to a contest that was just set up
pub may_add : (old : Kept) (n m : ℕ) (entries : List Entry) → IsJustCreated old → entries ≡ demo_entries n m → old.is_clean → are_addable old.contest entries ≡ true
may_add old n m entries created are clean =
    let c = created clean in
    subst₂ (λ x es. are_addable x es ≡ true) (sym c.1.now_is) (sym are) (demo_addable c.0 n m)
