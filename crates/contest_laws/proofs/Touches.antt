-- Which rejudging an item changes, when it moves the thaw, and when it makes the results final.
use Rattle.std.proofs.Common.{◌≡◌, ◌∙◌, ℕ, true, List, Some, Result, Ok, Err, inl, inr, refl, sym, subst}
use Rattle.std.specs.Prelude.{◌&&◌, is_none, not}
use Rattle.std.specs.List.{list_any}
use Rattle.contest_types.specs.Order.{Has}
use Rattle.contest_types.specs.State.{ContestState}
use Rattle.contest_types.specs.ValidRejudgings.{is_open}
use Rattle.contest_types.specs.declared.entry.Entry.{Entry}
use Rattle.contest_types.specs.declared.entry.Entry.TheVariants.{NewSubmission, NewProposal, NewRelease, NewClarification, NewRejudging, SetMember, SetRejudging, SetStart, SetThaw, SetFinalized, SetDuration, SetTeamName, SetDigest, NewType, NewLanguage, NewProblem, NewGroup, NewTeam, NewAccount}
use Rattle.contest_types.specs.declared.import_kind.ImportKind.{ImportKind}
use Rattle.contest_types.specs.declared.import_kind.ImportKind.TheVariants as kind
use Rattle.contest_types.specs.declared.rejudging.Rejudging.{Rejudging}
use Rattle.contest_types.specs.declared.rejudging.RejudgingState.{RejudgingState}
use Rattle.contest_types.specs.declared.rejudging.RejudgingState.TheVariants.{Applied, Cancelled}
use Rattle.contest_types.specs.Clock.{phase_at}
use Rattle.contest_types.proofs.PlaceLemmas.{and_left, and_right}
use Rattle.contest_rules.specs.ClockChanges.{all_released, has_ended, may_close, may_finalize, may_thaw}
use Rattle.contest_rules.specs.Verdicts.{named_verdict}
use Rattle.contest_rules.specs.declared.clock_changes.WantedClock.TheVariants.{Start, Thaw}
use Rattle.contest_rules.specs.declared.proposing.NewVerdict.{NewVerdict}
use Rattle.contest_view.specs.Rejudgings.{named_rejudging}
use Rattle.contest_postings.specs.PostChanges.{made_entry}
use Rattle.contest_postings.specs.declared.changes.FixedChange.{FixedChange}
use Rattle.contest_postings.specs.declared.changes.FixedChange.TheVariants.{Account as OfAccount, Team as OfTeam, Token as OfToken, Name as OfName, Extension as OfExtension}
use Rattle.contest_postings.specs.declared.rejudging.RejudgingStep.{RejudgingStep}
use Rattle.contest_postings.specs.declared.rejudging.RejudgingStep.TheVariants.{Apply, Cancel, Judge}
use Rattle.contest_operations.specs.Paths.{jury_piece}
use Rattle.contest_operations.specs.Step.{wish_or_reply}
use Rattle.contest_operations.specs.declared.command.Posted.TheVariants.{Submission, Clarification, Proposal, Verification, Opening, Rejudging as OfRejudging, Clock, Final, Change as Changed}
use Rattle.contest_operations.specs.declared.reply.Reply.{Reply}
use Rattle.contest_operations.specs.declared.wish.Wish.{Wish}
use Rattle.contest_operations.specs.declared.wish.Wish.TheVariants.{Do, Read}
use Rattle.contest_desk.specs.Items.{item_entries}
use Rattle.contest_desk.specs.declared.item.Item.{Item}
use Rattle.contest_desk.specs.declared.item.Item.TheVariants as item
use Rattle.contest_laws.specs.Sources.{FileAdds, IsFileRow, ItemAdds, OfVerdict, WishAdds}
use Rattle.contest_laws.specs.Standing.{moment_of}
use Rattle.contest_laws.proofs.ClockSources.{of_clock, of_final}
use Rattle.contest_laws.proofs.OpenRejudgings.{applied_open, cancelled_open, judged_open}
use Rattle.contest_laws.proofs.SourceLemmas.{item_adds_so}

-- the rejudging with this number is open
pub record Touches (x : ContestState) (n : ℕ) : Type 0 where
  pub id : List ℕ
  pub rejudging : Rejudging
  pub named : named_rejudging id x.rejudgings ≡ Some (n, rejudging)
  pub opened : is_open rejudging ≡ true

-- the state that a rejudging gets which is closed
abbrev closing_by : RejudgingStep → RejudgingState
closing_by (Judge v) = Applied
closing_by Apply = Applied
closing_by Cancel = Cancelled

abbrev closing_in : Result Wish Reply → RejudgingState
closing_in (Ok (Do (OfRejudging path step))) = closing_by step
closing_in r = Applied

abbrev pub closing_of : ContestState → Item → RejudgingState
closing_of x (item.Request i) = closing_in (wish_or_reply x.fixed i.credential i.request)
closing_of x (item.Import i) = Applied

-- the results aren't final yet, and are made so at this moment
pub record Finalizes (x : ContestState) (now finalized : ℕ) : Type 0 where
  pub first : is_none x.fixed.marks.finalized ≡ true
  pub at : finalized ≡ now

-- what is known where such an entry is added
abbrev pub May : ContestState → (now : ℕ) → (closing : RejudgingState) → Entry → Type 0
May x now closing (SetMember n place state) = Touches x n
May x now closing (SetRejudging n state) = Touches x n × (state ≡ closing)
May x now closing (SetThaw thaw) = may_thaw x.fixed now thaw ≡ true
May x now closing (SetFinalized finalized) = Finalizes x now finalized
May x now closing (NewSubmission s) = Unit {0}
May x now closing (NewProposal p) = Unit {0}
May x now closing (NewRelease v) = Unit {0}
May x now closing (NewClarification c) = Unit {0}
May x now closing (NewRejudging r) = Unit {0}
May x now closing (SetStart start) = Unit {0}
May x now closing (SetDuration duration freeze) = Unit {0}
May x now closing (SetTeamName team name) = Unit {0}
May x now closing (SetDigest id digest) = Unit {0}
May x now closing (NewType t) = Unit {0}
May x now closing (NewLanguage l) = Unit {0}
May x now closing (NewProblem p) = Unit {0}
May x now closing (NewGroup g) = Unit {0}
May x now closing (NewTeam t) = Unit {0}
May x now closing (NewAccount a) = Unit {0}

so : (x : ContestState) (now : ℕ) (closing : RejudgingState) (e d : Entry) → e ≡ d → May x now closing d → May x now closing e
so x now closing e d is h = subst (May x now closing) (sym is) h

of_verdict : (x : ContestState) (now : ℕ) (closing : RejudgingState) (v : NewVerdict) (e : Entry) → OfVerdict v e → May x now closing e
of_verdict x now closing v e (inl is) = so x now closing e (NewProposal v.proposal) is tt
of_verdict x now closing v e (inr (r, released, is)) = so x now closing e (NewRelease r) is tt

of_change : (x : ContestState) (now : ℕ) (closing : RejudgingState) (c : FixedChange) → May x now closing (made_entry c)
of_change x now closing (OfAccount a) = tt
of_change x now closing (OfTeam t) = tt
of_change x now closing (OfToken a digest) = tt
of_change x now closing (OfName t name) = tt
of_change x now closing (OfExtension s e) = tt

of_row : (x : ContestState) (now : ℕ) (closing : RejudgingState) (e : Entry) → IsFileRow e → May x now closing e
of_row x now closing (NewType t) h = tt
of_row x now closing (NewLanguage l) h = tt
of_row x now closing (NewProblem p) h = tt
of_row x now closing (NewGroup g) h = tt
of_row x now closing (NewTeam t) h = tt
of_row x now closing (NewAccount a) h = tt
of_row x now closing (NewSubmission s) h = tt
of_row x now closing (NewProposal p) h = tt
of_row x now closing (NewRelease v) h = tt
of_row x now closing (NewClarification c) h = tt
of_row x now closing (NewRejudging r) h = tt
of_row x now closing (SetMember n place state) h = absurd h
of_row x now closing (SetRejudging n state) h = absurd h
of_row x now closing (SetStart start) h = tt
of_row x now closing (SetThaw thaw) h = absurd h
of_row x now closing (SetFinalized finalized) h = absurd h
of_row x now closing (SetDuration duration freeze) h = tt
of_row x now closing (SetTeamName team name) h = tt
of_row x now closing (SetDigest id digest) h = tt

pub not_yet : (x : ContestState) (now : ℕ) → may_finalize x.fixed x.submissions x.releases x.rejudgings now ≡ true → is_none x.fixed.marks.finalized ≡ true
not_yet x now may =
    let ended = has_ended (phase_at x.fixed.settings x.fixed.marks now) in
    let none = is_none x.fixed.marks.finalized in
    and_right ended none (and_left (ended && none) (not (list_any is_open x.rejudgings)) (and_left (may_close x.fixed x.rejudgings now) (all_released x.releases x.submissions) may))

of_wish : (x : ContestState) (now : ℕ) (r : Result Wish Reply) (e : Entry) → WishAdds x now r e → May x now (closing_in r) e
of_wish x now (Err reply) e h = absurd h
of_wish x now (Ok (Read reading a named)) e h = absurd h
of_wish x now (Ok (Do (Submission team w))) e (s, sent, is) = so x now Applied e (NewSubmission s) is tt
of_wish x now (Ok (Do (Clarification c))) e (d, said, is) = so x now Applied e (NewClarification d) is tt
of_wish x now (Ok (Do (Proposal v))) e (n, made, of) = of_verdict x now Applied n e of
of_wish x now (Ok (Do (Verification v))) e (r, verified, is) = so x now Applied e (NewRelease r) is tt
of_wish x now (Ok (Do (Opening w))) e (r, opened, is) = so x now Applied e (NewRejudging r) is tt
of_wish x now (Ok (Do (OfRejudging path (Judge v)))) e (n, r, named, c, judged, is) =
    so x now Applied e (SetMember n c.place c.state) is (record { id = jury_piece path; rejudging = r; named = named; opened = judged_open x.fixed.settings.head.verification r (named_verdict x.fixed x.submissions v.wanted) v.account c judged })
of_wish x now (Ok (Do (OfRejudging path Apply))) e (n, r, named, vs, applied, inl (v, there, is)) = so x now Applied e (NewRelease v) is tt
of_wish x now (Ok (Do (OfRejudging path Apply))) e (n, r, named, vs, applied, inr is) =
    subst (May x now Applied) (sym is) (record { id = jury_piece path; rejudging = r; named = named; opened = applied_open x.releases now r vs applied }, refl)
of_wish x now (Ok (Do (OfRejudging path Cancel))) e (n, r, named, cancelled, is) =
    subst (May x now Cancelled) (sym is) (record { id = jury_piece path; rejudging = r; named = named; opened = cancelled_open r cancelled }, refl)
of_wish x now (Ok (Do (Clock (Start start)))) e (c, set, is) = so x now Applied e (SetStart start) (is ∙ (of_clock x now (Start start) c set).1) tt
of_wish x now (Ok (Do (Clock (Thaw thaw)))) e (c, set, is) = (let m = of_clock x now (Thaw thaw) c set in so x now Applied e (SetThaw thaw) (is ∙ m.1) m.0)
of_wish x now (Ok (Do Final)) e (c, set, is) = (let m = of_final x now c set in so x now Applied e (SetFinalized now) (is ∙ m.1) (record { first = not_yet x now m.0; at = refl }))
of_wish x now (Ok (Do (Changed w))) e (m, made, new, is) = so x now Applied e (made_entry m.change) is (of_change x now Applied m.change)

of_file : (x : ContestState) (now : ℕ) (k : ImportKind) (file : List ℕ) (e : Entry) → FileAdds x now k file e → May x now Applied e
of_file x now (kind.Fixed k) file e h = of_row x now Applied e h
of_file x now kind.VerdictsCsv file e (vs, taken, v, there, of) = of_verdict x now Applied v e of

pub item_may : (x : ContestState) (i : Item) (e : Entry) → Has (item_entries x i) e → May x (moment_of i) (closing_of x i) e
item_may x i e h = go i (item_adds_so x i e h)
  where
    go : (j : Item) → ItemAdds x j e → May x (moment_of j) (closing_of x j) e
    go (item.Request j) k = of_wish x j.now (wish_or_reply x.fixed j.credential j.request) e k
    go (item.Import j) k = of_file x j.now j.kind j.file e k
