-- What calls of a store leave, one after the other, whoever keeps the contest.
use Rattle.std.proofs.Common.{◌≡◌, ◌∙◌, ◌+◌, ◌≤◌, ℕ, Bool, true, false, Option, Result, Ok, Err, refl, subst, inl, inr, arith}
use Rattle.std.specs.Prelude.{OnErr, MatchResult, nat_lt, if◌then◌else◌}
use Rattle.std.proofs.lemmas.Bool.Decides.{nat_tests}
use Rattle.contest_types.specs.State.{ContestState}
use Rattle.contest_streams.specs.Streams.{most_faults, one_more, Failed}
use Rattle.contest_store.specs.Keeping.{Kept, Shows, Leaves, CountsFaults, CountsRefusals}
use Rattle.contest_store.specs.declared.store_error.StoreError.{StoreError}
use Rattle.contest_store.specs.declared.store_error.StoreError.TheVariants.{Fault, Memory}

-- a failure is seen over more calls
pub failed_then : (old mid new : ℕ) → Failed old mid → mid ≤ new → Failed old new
failed_then old mid new (inl more) rises = inl (omega (arith, more, rises))
failed_then old mid new (inr most) rises = inr (omega (arith, most, rises))

pub then_failed : (old mid new : ℕ) → old ≤ mid → Failed mid new → Failed old new
then_failed old mid new rises (inl more) = inl (omega (arith, more, rises))
then_failed old mid new rises (inr most) = inr most

-- one more is a failure that is seen
pub one_more_failed : (n : ℕ) → Failed n (one_more n)
one_more_failed n =
    let go : (b : Bool) → nat_lt n most_faults ≡ b → Failed n (if b then n + 1 else n) = elim [
      | true ↦ λ is. inl (omega arith)
      | false ↦ λ is. inr (grind (arith, nat_tests, is))
    ] in
    go (nat_lt n most_faults) refl

refusals_weaker : (first own : Type 0) {T : Type 0} (r : Result T StoreError) (old new : ℕ) → (first → own) → CountsRefusals first r old new → CountsRefusals own r old new
refusals_weaker first own (Ok v) old new may same = same
refusals_weaker first own (Err Fault) old new may same = same
refusals_weaker first own (Err Memory) old new may (inl more) = inl more
refusals_weaker first own (Err Memory) old new may (inr none) = inr (may none.0, none.1)

-- a call that changed what isn't committed, and then another
pub in_turn : {S T : Type 0} (v : S) (r : Result T StoreError) (old mid new : Kept) (first now kept : ContestState) (also : Option ContestState → Type 0) (counts : ℕ → ℕ) (own : Type 0)
    → Leaves (Ok v) old mid first old.committed (λ c. ⊥) (λ n. n) ⊥ → Leaves r mid new now kept also counts own → Leaves r old new now kept also counts own
in_turn v r old mid new first now kept also counts own l k =
    let same : new.is_clean → mid.committed ≡ old.committed = λ clean. (l.ok (k.clean clean)).kept_is in
    record {
      ok = k.ok;
      err = λ clean opened. subst (λ x. OnErr r (Shows new x x)) (same clean) (k.err clean opened);
      crash = λ clean c left. elim (k.crash clean c left) [
        | inl was ↦ elim (l.crash (k.clean clean) c was) [ inl before ↦ inl before | inr none ↦ absurd none.1 ]
        | inr these ↦ inr (l.up (k.clean clean) these.0, these.1)
      ];
      clean = λ clean. l.clean (k.clean clean);
      up = λ clean opened. l.up (k.clean clean) (k.up clean opened);
      shuts = λ clean opened. elim (l.shuts (k.clean clean) opened) [
        | inl still ↦ elim (k.shuts clean still) [ inl now_open ↦ inl now_open | inr failed ↦ inr (then_failed old.troubles mid.troubles new.troubles l.troubles failed) ]
        | inr failed ↦ inr (failed_then old.troubles mid.troubles new.troubles failed k.troubles)
      ];
      troubles = let a = l.troubles in let b = k.troubles in omega (arith, a, b);
      faults = subst (λ n. CountsFaults r n new.faults) l.faults k.faults;
      refusals = subst (λ n. CountsRefusals own r n new.refusals) l.refusals k.refusals;
      commits = λ clean. subst (λ n. MatchResult r (λ _. new.commits ≡ counts n) (λ _. new.commits ≡ n)) (l.commits (k.clean clean)) (k.commits clean);
      loaded = λ was. k.loaded (l.loaded was);
    }

-- the same in other words
pub restated : {T : Type 0} (r : Result T StoreError) (old new : Kept) (now kept now' kept' : ContestState) (also also' : Option ContestState → Type 0) (counts counts' : ℕ → ℕ) (own own' : Type 0)
    → (new.is_clean → now ≡ now') → (new.is_clean → kept ≡ kept') → (new.is_clean → (c : Option ContestState) → also c → also' c) → (new.is_clean → (n : ℕ) → counts n ≡ counts' n) → (own → own')
    → Leaves r old new now kept also counts own → Leaves r old new now' kept' also' counts' own'
restated (Ok v) old new now kept now' kept' also also' counts counts' own own' n k a m o l = record {
  ok = λ clean. (let s = l.ok clean in record { up = s.up; now_is = s.now_is ∙ n clean; kept_is = s.kept_is ∙ k clean });
  err = l.err;
  crash = λ clean c left. elim (l.crash clean c left) [ inl was ↦ inl was | inr these ↦ inr (these.0, a clean c these.1) ];
  clean = l.clean;
  up = l.up;
  shuts = l.shuts;
  troubles = l.troubles;
  faults = l.faults;
  refusals = l.refusals;
  commits = λ clean. l.commits clean ∙ m clean old.commits;
  loaded = l.loaded;
}
restated {T} (Err e) old new now kept now' kept' also also' counts counts' own own' n k a m o l = record {
  ok = λ clean. tt;
  err = l.err;
  crash = λ clean c left. elim (l.crash clean c left) [ inl was ↦ inl was | inr these ↦ inr (these.0, a clean c these.1) ];
  clean = l.clean;
  up = l.up;
  shuts = l.shuts;
  troubles = l.troubles;
  faults = l.faults;
  refusals = refusals_weaker own own' {T = T} (Err e) old.refusals new.refusals o l.refusals;
  commits = l.commits;
  loaded = λ was. tt;
}
