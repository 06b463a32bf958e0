-- Which request or import adds an entry, and by which rule (own).
use Rattle.std.specs.Prelude.{◌≡◌, ◌⊎◌, ℕ, true, List, Some, Result, Ok, Err}
use Rattle.contest_types.specs.Order.{Has}
use Rattle.contest_types.specs.State.{ContestState, submissions_of}
use Rattle.contest_types.specs.declared.entry.Entry.{Entry}
use Rattle.contest_types.specs.declared.entry.Entry.TheVariants.{NewSubmission, NewProposal, NewRelease, NewClarification, NewRejudging, SetMember, SetRejudging, NewType, NewLanguage, NewProblem, NewGroup, NewTeam, NewAccount}
use Rattle.contest_types.specs.declared.import_kind.ImportKind.{ImportKind}
use Rattle.contest_types.specs.declared.import_kind.ImportKind.TheVariants as kind
use Rattle.contest_types.specs.declared.rejudging.Rejudging.{Rejudging}
use Rattle.contest_types.specs.declared.rejudging.RejudgingState.TheVariants.{Applied, Cancelled}
use Rattle.contest_types.specs.declared.clarification.Clarification.{Clarification}
use Rattle.contest_types.specs.declared.submission.Release.{Release}
use Rattle.contest_types.specs.declared.submission.Submission.{Submission}
use Rattle.contest_rules.specs.Clarifying.{clarify}
use Rattle.contest_rules.specs.ClockChanges.{finalize, set_clock}
use Rattle.contest_rules.specs.Opening.{open_rejudging}
use Rattle.contest_rules.specs.Proposing.{propose}
use Rattle.contest_rules.specs.Rejudging.{apply_on, cancel_on, rejudge_on}
use Rattle.contest_rules.specs.Submitting.{so_far, submit}
use Rattle.contest_rules.specs.Verdicts.{named_verdict}
use Rattle.contest_rules.specs.Verifying.{verify}
use Rattle.contest_rules.specs.declared.clock_changes.ClockChange.{ClockChange}
use Rattle.contest_rules.specs.declared.decision.Decision.TheVariants.{Add}
use Rattle.contest_rules.specs.declared.proposing.NewVerdict.{NewVerdict}
use Rattle.contest_rules.specs.declared.rejudging.MemberChange.{MemberChange}
use Rattle.contest_view.specs.Rejudgings.{named_rejudging}
use Rattle.contest_postings.specs.PostChanges.{change_made, made_entry}
use Rattle.contest_postings.specs.declared.changes.MadeChange.{MadeChange}
use Rattle.contest_postings.specs.declared.rejudging.RejudgingStep.{RejudgingStep}
use Rattle.contest_postings.specs.declared.rejudging.RejudgingStep.TheVariants.{Judge, Apply, Cancel}
use Rattle.contest_import_verdicts.specs.VerdictFiles.{verdicts_in, verdict_records}
use Rattle.contest_operations.specs.Paths.{jury_piece}
use Rattle.contest_operations.specs.Step.{wish_or_reply}
use Rattle.contest_operations.specs.declared.command.Posted.{Posted}
use Rattle.contest_operations.specs.declared.command.Posted.TheVariants.{Submission as ToSubmit, Clarification as Clarify, Proposal, Verification, Opening, Rejudging as OfRejudging, Clock, Final, Change as Changed}
use Rattle.contest_operations.specs.declared.reply.Reply.{Reply}
use Rattle.contest_operations.specs.declared.wish.Wish.{Wish}
use Rattle.contest_operations.specs.declared.wish.Wish.TheVariants.{Do, Read}
use Rattle.contest_desk.specs.declared.item.Item.{Item}
use Rattle.contest_desk.specs.declared.item.Item.TheVariants as item

-- a verdict comes with its proposal, or as a release at once
abbrev pub OfVerdict : NewVerdict → Entry → Type 0
OfVerdict v e = (e ≡ NewProposal v.proposal) ⊎ ((r : Release) × (v.release ≡ Some r) × (e ≡ NewRelease r))

-- a rejudging and its number, as a path names it
abbrev pub IsNamed : ContestState → (path : List ℕ) → ℕ → Rejudging → Type 0
IsNamed x path n r = named_rejudging (jury_piece path) x.rejudgings ≡ Some (n, r)

-- what a step of a rejudging adds: the state of a member, its releases and that it is applied, or that it is cancelled
abbrev pub StepAdds : ContestState → (now : ℕ) → (path : List ℕ) → RejudgingStep → Entry → Type 0
StepAdds x now path (Judge v) e =
    (n : ℕ) × (r : Rejudging) × IsNamed x path n r × (c : MemberChange)
    × (rejudge_on x.fixed.settings.head.verification r (named_verdict x.fixed x.submissions v.wanted) v.account ≡ Ok c) × (e ≡ SetMember n c.place c.state)
StepAdds x now path Apply e =
    (n : ℕ) × (r : Rejudging) × IsNamed x path n r × (vs : List Release) × (apply_on x.releases now r ≡ Ok vs)
    × (((v : Release) × Has vs v × (e ≡ NewRelease v)) ⊎ (e ≡ SetRejudging n Applied))
StepAdds x now path Cancel e = (n : ℕ) × (r : Rejudging) × IsNamed x path n r × (cancel_on r ≡ Ok tt) × (e ≡ SetRejudging n Cancelled)

-- what is posted adds this, by its rule
abbrev pub PostAdds : ContestState → (now : ℕ) → Posted → Entry → Type 0
PostAdds x now (ToSubmit team w) e = (s : Submission) × (submit x.fixed now team (so_far w.key (submissions_of team x.submissions)) w ≡ Ok (Add s)) × (e ≡ NewSubmission s)
PostAdds x now (Clarify c) e = (d : Clarification) × (clarify x.fixed now c.sender c.account x.clarifications c.wanted ≡ Ok (Add d)) × (e ≡ NewClarification d)
PostAdds x now (Proposal v) e = (n : NewVerdict) × (propose x.fixed x.submissions x.proposals x.releases now v.account v.wanted ≡ Ok n) × OfVerdict n e
PostAdds x now (Verification v) e = (r : Release) × (verify x.fixed x.submissions x.proposals x.releases now v.account v.wanted ≡ Ok r) × (e ≡ NewRelease r)
PostAdds x now (Opening w) e = (r : Rejudging) × (open_rejudging x.fixed x.submissions x.releases x.rejudgings w ≡ Ok r) × (e ≡ NewRejudging r)
PostAdds x now (OfRejudging path step) e = StepAdds x now path step e
PostAdds x now (Clock w) e = (c : ClockChange) × (set_clock x.fixed x.submissions x.clarifications now w ≡ Ok c) × (e ≡ c.entry)
PostAdds x now Final e = (c : ClockChange) × (finalize x.fixed x.submissions x.releases x.rejudgings now ≡ Ok c) × (e ≡ c.entry)
PostAdds x now (Changed w) e = (m : MadeChange) × (change_made now w x ≡ Ok m) × (m.is_new ≡ true) × (e ≡ made_entry m.change)

abbrev pub WishAdds : ContestState → (now : ℕ) → Result Wish Reply → Entry → Type 0
WishAdds x now (Ok (Do posted)) e = PostAdds x now posted e
WishAdds x now (Ok (Read reading a named)) e = ⊥
WishAdds x now (Err reply) e = ⊥

-- a row of a file of settings, of teams or of accounts
abbrev pub IsFileRow : Entry → Type 0
IsFileRow (NewType t) = Unit {0}
IsFileRow (NewLanguage l) = Unit {0}
IsFileRow (NewProblem p) = Unit {0}
IsFileRow (NewGroup g) = Unit {0}
IsFileRow (NewTeam t) = Unit {0}
IsFileRow (NewAccount a) = Unit {0}
IsFileRow _ = ⊥

-- what a file adds: accounts at any time, other rows while the settings are open, or verdicts
abbrev pub FileAdds : ContestState → (now : ℕ) → ImportKind → (file : List ℕ) → Entry → Type 0
FileAdds x now (kind.Fixed k) file e = IsFileRow e
FileAdds x now kind.VerdictsCsv file e =
    (vs : List NewVerdict) × (verdicts_in x now (verdict_records file) ≡ Ok vs) × (v : NewVerdict) × Has vs v × OfVerdict v e

-- what is asked for adds this
abbrev pub ItemAdds : ContestState → Item → Entry → Type 0
ItemAdds x (item.Request i) e = WishAdds x i.now (wish_or_reply x.fixed i.credential i.request) e
ItemAdds x (item.Import i) e = FileAdds x i.now i.kind i.file e
