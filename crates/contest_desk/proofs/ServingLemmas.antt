-- From what the store's calls leave to what serving an item leaves.
use Rattle.std.proofs.Common.{◌≡◌, ◌∙◌, true, List, Some, Result, Ok, Err, sym, ap, subst}
use Rattle.contest_types.specs.State.{add_all}
use Rattle.contest_types.specs.Valid.{is_valid}
use Rattle.contest_types.specs.declared.entry.Entry.{Entry}
use Rattle.contest_store.specs.Keeping.{Kept, Reads}
use Rattle.contest_store.specs.declared.store_error.StoreError.{StoreError}
use Rattle.contest_store.proofs.LeaveLemmas.{in_turn, restated}
use Rattle.contest_desk.specs.Serving.{IsSettled, Keeps, OnlyReads, commits_for}

-- the store is as settled after an item as before it
pub stays_settled : {T : Type 0} (old new : Kept) (entries : List Entry) (own : Type 0) (r : Result T StoreError)
    → (is_valid old.contest ≡ true → is_valid (add_all old.contest entries) ≡ true) → IsSettled old → Keeps r old new entries own → IsSettled new
stays_settled old new entries own (Ok v) keeps settled l cleaned opened =
    let s = l.ok cleaned in
    (s.now_is ∙ sym s.kept_is, subst (λ x. is_valid x ≡ true) (sym s.now_is) (keeps (settled (l.clean cleaned) (l.up cleaned opened)).1))
stays_settled old new entries own (Err e) keeps settled l cleaned opened =
    let back = l.err cleaned opened in
    let before = settled (l.clean cleaned) (l.up cleaned opened) in
    (back.now_is ∙ sym back.kept_is, subst (λ x. is_valid x ≡ true) (sym (back.now_is ∙ sym before.0)) before.1)

-- so it is after a look
pub stays_settled_by : {T : Type 0} (old new : Kept) (r : Result T StoreError) → IsSettled old → OnlyReads r old new → IsSettled new
stays_settled_by old new (Ok v) settled l cleaned opened =
    let s = l.ok cleaned in
    let before = settled (l.clean cleaned) (l.up cleaned opened) in
    (s.now_is ∙ (before.0 ∙ sym s.kept_is), subst (λ x. is_valid x ≡ true) (sym s.now_is) before.1)
stays_settled_by old new (Err e) settled l cleaned opened =
    let back = l.err cleaned opened in
    let before = settled (l.clean cleaned) (l.up cleaned opened) in
    (back.now_is ∙ sym back.kept_is, subst (λ x. is_valid x ≡ true) (sym (back.now_is ∙ sym before.0)) before.1)

-- what is kept after the store was read is kept of the contest before
pub then_kept : {S T : Type 0} (v : S) (r : Result T StoreError) (old mid new : Kept) (rows entries : List Entry) (own own' : Type 0) → (own → own') → Reads (Ok v) old mid → (mid.is_clean → rows ≡ entries)
    → Keeps r mid new rows own → Keeps r old new entries own'
then_kept v r old mid new rows entries own own' o l same k =
    let now = add_all mid.contest rows in
    let after = add_all old.contest entries in
    let are : new.is_clean → now ≡ after = λ clean.
    (let here = (l.ok (k.clean clean)).now_is in let rows_are = same (k.clean clean) in λ i. add_all (here i) (rows_are i)) in
    restated r old new now now after after (λ c. c ≡ Some now) (λ c. c ≡ Some after) (commits_for rows) (commits_for entries) own own'
    are are (λ clean c is. is ∙ ap Some (are clean)) (λ clean n. ap (λ es. commits_for es n) (same (k.clean clean))) o
    (in_turn v r old mid new old.contest now now (λ c. c ≡ Some now) (commits_for rows) own l k)

pub read_then_kept : {S T : Type 0} (v : S) (r : Result T StoreError) (old mid new : Kept) (rows entries : List Entry) → Reads (Ok v) old mid → (mid.is_clean → rows ≡ entries) → Keeps r mid new rows ⊥ → Keeps r old new entries (Unit {0})
read_then_kept v r old mid new rows entries l same k = then_kept v r old mid new rows entries ⊥ (Unit {0}) (λ none. tt) l same k
