-- Changes that are made one after the other, and then committed.
use Rattle.std.proofs.Common.{◌≡◌, ◌∙◌, ℕ, Bool, true, List, [], ◌∷◌, length, Some, Result, Ok, refl, ap}
use Rattle.std.specs.Prelude.{IsTrue}
use Rattle.contest_types.specs.Addable.{are_addable}
use Rattle.contest_types.specs.State.{add_all}
use Rattle.contest_streams.specs.Streams.{one_more}
use Rattle.contest_types.specs.declared.entry.Entry.{Entry}
use Rattle.contest_store.specs.Keeping.{Kept, Leaves, Adds, Commits}
use Rattle.contest_store.specs.declared.store_error.StoreError.{StoreError}
use Rattle.contest_store.proofs.LeaveLemmas.{in_turn, restated}
use Rattle.contest_desk.specs.Serving.{Keeps, commits_for}

-- so far the changes that are left come to the same, and may be made
pub record Appends (old now : Kept) (all rest : List Entry) : Type 0 where
  pub leaves : Leaves {T = Bool} (Ok true) old now now.contest old.committed (λ c. ⊥) (λ n. n) ⊥
  pub loaded : IsTrue now.is_loaded
  pub comes : now.is_clean → add_all now.contest rest ≡ add_all old.contest all
  pub addable : now.is_clean → are_addable now.contest rest ≡ true

one_commit : (entries : List Entry) → (length entries ≡ 0 → ⊥) → (n : ℕ) → one_more n ≡ commits_for entries n
one_commit [] some n = absurd (some refl)
one_commit (e ∷ es) some n = refl

pub all_kept : {S T : Type 0} (v : S) (r : Result T StoreError) (old mid new : Kept) (entries : List Entry) → (length entries ≡ 0 → ⊥) → Adds (Ok v) old mid (add_all old.contest entries) → Commits r mid new mid.contest
    → Keeps r old new entries ⊥
all_kept v r old mid new entries some l k =
    let all = add_all old.contest entries in
    let added : new.is_clean → mid.contest ≡ all = λ clean. (l.ok (k.clean clean)).now_is in
    restated r old new mid.contest mid.contest all all (λ c. c ≡ Some mid.contest) (λ c. c ≡ Some all) one_more (commits_for entries) ⊥ ⊥
    added added (λ clean c is. is ∙ ap Some (added clean)) (λ clean n. one_commit entries some n) (λ none. none)
    (in_turn v r old mid new all mid.contest mid.contest (λ c. c ≡ Some mid.contest) one_more ⊥ l k)
