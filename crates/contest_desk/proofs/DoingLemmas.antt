-- What the store's calls leave, of a thing that is done or that failed.
use Rattle.std.proofs.Common.{◌≡◌, ◌∙◌, ℕ, List, Result, Ok, Err, refl, sym, subst, inl, inr}
use Rattle.std.specs.Prelude.{◌↔◌, IsTrue, IsFalse}
use Rattle.std.proofs.lemmas.Bool.{false≢true}
use Rattle.contest_types.specs.State.{add_all}
use Rattle.contest_types.specs.declared.entry.Entry.{Entry}
use Rattle.contest_store.specs.Keeping.{CountsFaults, Kept, LeavesNoMore, LeavesOnly}
use Rattle.contest_store.specs.declared.store_error.StoreError.{StoreError}
use Rattle.contest_store.specs.declared.store_error.StoreError.TheVariants.{Fault, Memory}
use Rattle.contest_streams.specs.Streams.{one_more}
use Rattle.contest_desk.specs.Doing.{DoesOrFails}
use Rattle.contest_desk.specs.Serving.{IsSettled, Keeps}

-- while it is open a crash leaves the last commit, and no other
abbrev pub KeepsCommit : Kept → Type 0
KeepsCommit store = store.is_clean → IsTrue store.is_open → LeavesOnly store.may_leave store.committed

leaves_contest : (new : Kept) → IsSettled new → KeepsCommit new → new.is_clean → IsTrue new.is_open → LeavesOnly new.may_leave new.contest
leaves_contest new settled law clean opened = subst (λ x. LeavesOnly new.may_leave x) (sym (settled clean opened).0) (law clean opened)

-- a store that was shut lets a crash leave nothing else
leaves_no_more : {T : Type 0} (r : Result T StoreError) (old new : Kept) (entries : List Entry) (own : Type 0) → Keeps r old new entries own → new.is_clean → IsFalse old.is_open → LeavesNoMore old.may_leave new.may_leave
leaves_no_more r old new entries own l clean was_shut c left = elim (l.crash clean c left) [
  | inl before ↦ before
  | inr (opened, is) ↦ absurd (false≢true (sym was_shut ∙ opened))
]

pub does : {T : Type 0} (v : T) (old new : Kept) (entries : List Entry) (own failed fault : Type 0) → ¬ failed → (fault → failed) → IsSettled new → KeepsCommit new → Keeps (Ok v) old new entries own
    → DoesOrFails old new (add_all old.contest entries) entries failed fault
does v old new entries own failed fault well only settled law l = record {
  contest = λ clean other. (l.ok clean).now_is;
  kept = λ clean other. subst (λ x. LeavesOnly new.may_leave x) (l.ok clean).kept_is (law clean (l.ok clean).up);
  unchanged = λ clean opened fails. absurd (well fails);
  settled = leaves_contest new settled law;
  crash = λ clean c left. elim (l.crash clean c left) [ inl before ↦ inl before | inr (opened, is) ↦ inr is ];
  shut = leaves_no_more (Ok v) old new entries own l;
  opens = λ clean. inr ((l.ok clean).up, well);
  up = l.up;
  shuts = l.shuts;
  troubles = l.troubles;
  clean = l.clean;
  fault = λ told. absurd (well (only told));
  no_fault = λ other. l.faults;
  commits = λ clean other. l.commits clean;
  no_commit = λ clean fails. absurd (well fails);
}

counts : (T : Type 0) (e : StoreError) (old new : ℕ) (fault : Type 0) → (fault ↔ (e ≡ Fault)) → CountsFaults {T = T} (Err e) old new → (fault → new ≡ one_more old) × (¬ fault → new ≡ old)
counts T Fault old new fault same n = (λ told. n, λ other. absurd (other (same.1 refl)))
counts T Memory old new fault same n = (λ told. absurd (cc (same.0 told)), λ other. n)

pub fails : {T : Type 0} (e : StoreError) (old new : Kept) (entries : List Entry) (own failed fault : Type 0) → failed → (fault ↔ (e ≡ Fault)) → IsSettled old → IsSettled new → KeepsCommit new → Keeps {T = T} (Err e) old new entries own
    → DoesOrFails old new (add_all old.contest entries) entries failed fault
fails {T} e old new entries own failed fault failing same before settled law l =
    let faults = counts T e old.faults new.faults fault same l.faults in
    record {
      contest = λ clean other. absurd (other failing);
      kept = λ clean other. absurd (other failing);
      unchanged = λ clean opened fails. (l.err clean opened).now_is ∙ sym (before (l.clean clean) (l.up clean opened)).0;
      settled = leaves_contest new settled law;
      crash = λ clean c left. elim (l.crash clean c left) [ inl was ↦ inl was | inr (opened, is) ↦ inr is ];
      shut = leaves_no_more (Err e) old new entries own l;
      opens = λ clean. inl failing;
      up = l.up;
      shuts = l.shuts;
      troubles = l.troubles;
      clean = l.clean;
      fault = faults.0;
      no_fault = faults.1;
      commits = λ clean other. absurd (other failing);
      no_commit = λ clean told. l.commits clean;
    }
