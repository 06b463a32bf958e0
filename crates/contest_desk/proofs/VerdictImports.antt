-- What a file of verdicts adds: never a failure, and what can't be noticed of it.
use Rattle.std.proofs.Common.{◌≡◌, ◌+◌, ℕ, Bool, true, false, List, [], ◌∷◌, ◌++◌, Option, Some, None, Result, Ok, Err, refl, ap, inl, inr, subst}
use Rattle.std.specs.Prelude.{if◌then◌else◌}
use Rattle.std.specs.List.{flat_map}
use Rattle.contest_files.specs.FieldTexts.{Text}
use Rattle.contest_types.specs.Order.{Has}
use Rattle.contest_types.specs.State.{ContestState, add}
use Rattle.contest_types.specs.VerdictAdditions.{verdict_addition}
use Rattle.contest_types.specs.declared.audience.Audience.{Audience}
use Rattle.contest_types.specs.declared.entry.Entry.{Entry}
use Rattle.contest_types.specs.declared.entry.Entry.TheVariants.{NewProposal, NewRelease}
use Rattle.contest_types.specs.declared.import_kind.ImportKind.TheVariants.{VerdictsCsv}
use Rattle.contest_types.specs.declared.proposal.Proposal.{Proposal}
use Rattle.contest_types.specs.declared.refusal.Cause.{Cause}
use Rattle.contest_types.specs.declared.refusal.Refusal.{Refusal}
use Rattle.contest_types.specs.declared.submission.Release.{Release}
use Rattle.contest_rules.specs.Proposing.{entries_of as verdict_entries}
use Rattle.contest_rules.specs.Verdicts.{first_release, named_verdict}
use Rattle.contest_rules.specs.declared.proposing.NewVerdict.{NewVerdict}
use Rattle.contest_rules.specs.declared.verdicts.NamedVerdict.{NamedVerdict}
use Rattle.contest_rules.specs.declared.verdicts.WantedVerdict.{WantedVerdict}
use Rattle.contest_import_verdicts.specs.VerdictFiles.{after_records, entries_if, if_added, imported_verdict, or_fault_of, verdict_on, verdict_records, verdict_wanted, verdicts_in, wanted_in, with_verdict, with_verdicts}
use Rattle.contest_desk.specs.Imports.{entries_of}
use Rattle.contest_desk.specs.Unseen.{AreUnseen, IsUnseenRelease}
use Rattle.contest_desk.specs.VerdictLaws.{ImportedVerdictsAreUnseen, PendingVerdictsAreUnseen}
use Rattle.contest_desk.proofs.ImportLemmas.{imported_holds}

-- a verdict, its release if it has one, and what follows
abbrev with_release : NewVerdict → Option Release → List Entry → List Entry
with_release v o more = NewProposal v.proposal ∷ (elim o as (λ _. List Entry) [ None ↦ [] | (Some r) ↦ NewRelease r ∷ [] ] ++ more)

-- a release stays unseen while verdicts are added
still_unseen : (a : Audience) (y : ContestState) (p : Proposal) (v : Release) → IsUnseenRelease a y v → IsUnseenRelease a (add y (NewProposal p)) v
still_unseen a y p v u = record { other = u.other; held = u.held }

unseen_on : (a : Audience) (y : ContestState) (w v : Release) → IsUnseenRelease a y v → IsUnseenRelease a (add y (NewRelease w)) v
unseen_on a y w v u = record { other = u.other; held = u.held }

-- verdicts are unseen if their releases are
verdicts_unseen : (a : Audience) (y : ContestState) (vs : List NewVerdict) → ((v : Release) → Has (flat_map verdict_entries vs) (NewRelease v) → IsUnseenRelease a y v) → AreUnseen a y (flat_map verdict_entries vs)
verdicts_unseen a y [] h = tt
verdicts_unseen a y (v ∷ vs) h =
    let more = flat_map verdict_entries vs in
    let go : (o : Option Release) → ((w : Release) → Has (with_release v o more) (NewRelease w) → IsUnseenRelease a y w) → AreUnseen a y (with_release v o more) = elim [
      | None ↦ λ k. (tt, verdicts_unseen a (add y (NewProposal v.proposal)) vs (λ w has. still_unseen a y v.proposal w (k w (inr has))))
      | (Some r) ↦ λ k. (tt, (still_unseen a y v.proposal r (k r (inr (inl refl))), verdicts_unseen a (add (add y (NewProposal v.proposal)) (NewRelease r)) vs (λ w has. unseen_on a (add y (NewProposal v.proposal)) r w (still_unseen a y v.proposal w (k w (inr (inr has)))))))
    ] in
    go v.release h

-- nothing is released of them
abbrev Pending : List NewVerdict → Type 0
Pending [] = Unit {0}
Pending (v ∷ vs) = (v.release ≡ None) × Pending vs

pending_unseen : (a : Audience) (y : ContestState) (vs : List NewVerdict) → Pending vs → AreUnseen a y (flat_map verdict_entries vs)
pending_unseen a y [] h = tt
pending_unseen a y (v ∷ vs) h =
    let rest = pending_unseen a (add y (NewProposal v.proposal)) vs h.1 in
    let go : (o : Option Release) → o ≡ None → AreUnseen a y (with_release v o (flat_map verdict_entries vs)) = elim [
      | None ↦ λ e. (tt, rest)
      | (Some r) ↦ λ e. absurd (cc e)
    ] in
    go v.release h.0

one_pending : (vs : List NewVerdict) (v : NewVerdict) → Pending vs → v.release ≡ None → Pending (vs ++ v ∷ [])
one_pending [] v h e = (e, tt)
one_pending (w ∷ vs) v h e = (h.0, one_pending vs v h.1 e)

-- where somebody has to verify them
all_pending : (x : ContestState) (now : ℕ) (so_far : List NewVerdict) (n : ℕ) (rows : List (List Text)) (all : List NewVerdict) → x.fixed.settings.head.verification ≡ true
    → Pending so_far → after_records x now so_far n rows ≡ Ok all → Pending all
all_pending x now so_far n [] all asked none h = subst Pending (let same : so_far ≡ all = cc h in same) none
all_pending x now so_far n (row ∷ rows) all asked none h =
    let rest : List NewVerdict → Result (List NewVerdict) Refusal = λ more. after_records x now more (n + 1) rows in
    let judged : (v : NamedVerdict) (r : Result Bool Cause) → or_fault_of n rest (if_added so_far (imported_verdict x.fixed now v) r) ≡ Ok all → Pending all = λ v. elim [
      | (Err c) ↦ λ k. absurd (cc k)
      | (Ok true) ↦ λ k. (let held : (imported_verdict x.fixed now v).release ≡ None = ap (λ b. if b then None else Some (first_release now v)) asked in
          all_pending x now (so_far ++ imported_verdict x.fixed now v ∷ []) (n + 1) rows all asked (one_pending so_far (imported_verdict x.fixed now v) none held) k)
      | (Ok false) ↦ λ k. all_pending x now so_far (n + 1) rows all asked none k
    ] in
    let named : (o : Option NamedVerdict) → or_fault_of n rest (with_verdict x so_far (verdict_on x.fixed now o)) ≡ Ok all → Pending all = elim [
      | None ↦ λ k. absurd (cc k)
      | (Some v) ↦ λ k. judged v (verdict_addition (with_verdicts x so_far) (imported_verdict x.fixed now v).proposal) k
    ] in
    let wanted : (o : Option WantedVerdict) → or_fault_of n rest (with_verdict x so_far (verdict_wanted x now o)) ≡ Ok all → Pending all = elim [
      | None ↦ λ k. absurd (cc k)
      | (Some w) ↦ λ k. named (named_verdict x.fixed x.submissions w) k
    ] in
    wanted (wanted_in row) h

pub imported_verdicts_are_unseen : ImportedVerdictsAreUnseen
imported_verdicts_are_unseen a x now file =
    let Goes : Result (List Entry) Refusal → Type 0 = λ r. ((v : Release) → Has (entries_of r) (NewRelease v) → IsUnseenRelease a x v) → AreUnseen a x (entries_of r) in
    let go : (r : Result (List NewVerdict) Refusal) → Goes (entries_if r) = elim [
      | (Err refusal) ↦ λ h. tt
      | (Ok vs) ↦ verdicts_unseen a x vs
    ] in
    imported_holds Goes x now VerdictsCsv file (λ h. tt) (λ h. tt) (go (verdicts_in x now (verdict_records file)))

pub pending_verdicts_are_unseen : PendingVerdictsAreUnseen
pending_verdicts_are_unseen a x now file asked =
    let Goes : Result (List Entry) Refusal → Type 0 = λ r. AreUnseen a x (entries_of r) in
    let below = verdict_records file in
    let pending : (o : Option (List (List Text))) (all : List NewVerdict) → verdicts_in x now o ≡ Ok all → Pending all = elim [
      | None ↦ λ all k. absurd (cc k)
      | (Some found) ↦ λ all k. all_pending x now [] 1 found all asked tt k
    ] in
    let go : (r : Result (List NewVerdict) Refusal) → verdicts_in x now below ≡ r → Goes (entries_if r) = elim [
      | (Err refusal) ↦ λ e. tt
      | (Ok vs) ↦ λ e. pending_unseen a x vs (pending below vs e)
    ] in
    imported_holds Goes x now VerdictsCsv file tt tt (go (verdicts_in x now below) refl)
