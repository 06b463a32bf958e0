-- What holds of the decisions, whatever the contest. Each is the contract of a function of src/laws.rt.
use Rattle.std.specs.Prelude.{◌≡◌, ◌<◌, ◌≤◌, ℕ, Bool, true, List, Result, Ok, Err, Some, length, is_some}
use Rattle.contest_types.specs.Accounts.{account_named}
use Rattle.contest_types.specs.Setup.{Setup}
use Rattle.contest_types.specs.Sight.{SeenClarification, seen_clarification}
use Rattle.contest_types.specs.State.{ContestState, FixedPart, submissions_of}
use Rattle.contest_types.specs.declared.entry.Entry.TheVariants.{NewClarification, NewRejudging, NewRelease, NewSubmission, SetMember}
use Rattle.contest_types.specs.Valid.{is_valid}
use Rattle.contest_types.specs.Addable.{are_addable, is_addable}
use Rattle.contest_types.specs.Alike.{Alike}
use Rattle.contest_types.specs.declared.account.Account.{Account}
use Rattle.contest_types.specs.declared.account.Role.TheVariants as role
use Rattle.contest_types.specs.declared.audience.Audience.TheVariants as audience
use Rattle.contest_types.specs.declared.clarification.Clarification.{Clarification}
use Rattle.contest_types.specs.declared.limits.TheConstants.{POSTED_FILE, REJUDGING_MEMBERS}
use Rattle.contest_types.specs.Masks.{audience_at}
use Rattle.contest_types.specs.Order.{Has}
use Rattle.contest_types.specs.Places.{are_different}
use Rattle.contest_types.specs.declared.rejudging.Rejudging.{Rejudging}
use Rattle.contest_types.specs.declared.submission.Release.{Release}
use Rattle.contest_types.specs.declared.submission.Submission.{Submission}
use Rattle.contest_rules.specs.declared.clarifying.Sender.{Sender}
use Rattle.contest_rules.specs.declared.clarifying.Sender.TheVariants as sender
use Rattle.contest_rules.specs.declared.clarifying.WantedClarification.{WantedClarification}
use Rattle.contest_rules.specs.declared.decision.Decision.{Decision}
use Rattle.contest_rules.specs.declared.decision.Decision.TheVariants.{Add, Stands}
use Rattle.contest_rules.specs.declared.rule_refusal.RuleRefusal.{RuleRefusal}
use Rattle.contest_rules.specs.declared.submitting.WantedSubmission.{WantedSubmission}
use Rattle.contest_rules.specs.declared.proposing.NewVerdict.{NewVerdict}
use Rattle.contest_rules.specs.declared.verdicts.WantedVerdict.{WantedVerdict}
use Rattle.contest_rules.specs.Clarifying.{clarify}
use Rattle.contest_types.specs.Clock.{reached}
use Rattle.contest_types.specs.State.{add, with_marks}
use Rattle.contest_rules.specs.declared.clock_changes.ClockChange.{ClockChange}
use Rattle.contest_rules.specs.declared.clock_changes.WantedClock.{WantedClock}
use Rattle.contest_rules.specs.ClockChanges.{finalize, set_clock}
use Rattle.contest_rules.specs.declared.opening.WantedRejudging.{WantedRejudging}
use Rattle.contest_rules.specs.Opening.{open_rejudging}
use Rattle.contest_rules.specs.Rejudging.{applied_entries, apply_on, rejudge_on}
use Rattle.contest_rules.specs.Proposing.{entries_of, propose}
use Rattle.contest_rules.specs.Submitting.{so_far, submit}
use Rattle.contest_rules.specs.Verdicts.{named_verdict}
use Rattle.contest_rules.specs.declared.rejudging.MemberChange.{MemberChange}
use Rattle.contest_rules.specs.Verifying.{verify}

-- what becomes of a submission of the team at a place
abbrev pub submitted : ContestState → (now team : ℕ) → WantedSubmission → Result (Decision Submission Submission) RuleRefusal
submitted x now team w = submit x.fixed now team (so_far w.key (submissions_of team x.submissions)) w

-- a submission that is taken from a team that is there, with a file within its limit, may be added to
-- a valid contest
abbrev pub SubmittedIsAddable : Type 0
SubmittedIsAddable =
    (x : ContestState) (now team : ℕ) (w : WantedSubmission) (s : Submission) → is_valid x ≡ true
    → team < length x.fixed.settings.teams → length w.file ≤ POSTED_FILE
    → submitted x now team w ≡ Ok (Add s) → is_addable x (NewSubmission s) ≡ true

-- contests that are alike for a team decide its submissions alike
abbrev pub AlikeSubmitAlike : Type 0
AlikeSubmitAlike =
    (x y : ContestState) (now team : ℕ) (w : WantedSubmission) → Alike (audience_at team) x y
    → submitted x now team w ≡ submitted y now team w

-- a verdict that an account which is there proposes may be added, and its release after it, if it has one
abbrev pub ProposedIsAddable : Type 0
ProposedIsAddable =
    (x : ContestState) (now : ℕ) (account : List ℕ) (w : WantedVerdict) (v : NewVerdict) → is_some (account_named x.fixed.accounts account) ≡ true
    → propose x.fixed x.submissions x.proposals x.releases now account w ≡ Ok v → are_addable x (entries_of v) ≡ true

-- and so may the release of one that is verified
abbrev pub VerifiedIsAddable : Type 0
VerifiedIsAddable =
    (x : ContestState) (now : ℕ) (account : List ℕ) (w : WantedVerdict) (v : Release)
    → verify x.fixed x.submissions x.proposals x.releases now account w ≡ Ok v → is_addable x (NewRelease v) ≡ true

-- who writes is there: an account of the team that it writes for, or any account for the jury
abbrev pub IsWriter : FixedPart → Sender → (account : List ℕ) → Type 0
IsWriter f (sender.Team team) account = (team < length f.settings.teams) × ((a : Account) × (account_named f.accounts account ≡ Some a) × (a.role ≡ role.Team team))
IsWriter f sender.Jury account = is_some (account_named f.accounts account) ≡ true

-- a clarification that is taken from one who is there may be added
abbrev pub ClarifiedIsAddable : Type 0
ClarifiedIsAddable =
    (x : ContestState) (now : ℕ) (s : Sender) (account : List ℕ) (w : WantedClarification) (c : Clarification) → IsWriter x.fixed s account
    → clarify x.fixed now s account x.clarifications w ≡ Ok (Add c) → is_addable x (NewClarification c) ≡ true

-- what is told of what becomes of a clarification: of one that stands all but its key and the account that wrote it
abbrev pub told_decision : Setup → Result (Decision Clarification Clarification) RuleRefusal → Result (Decision Clarification SeenClarification) RuleRefusal
told_decision s (Err refusal) = Err refusal
told_decision s (Ok (Add c)) = Ok (Add c)
told_decision s (Ok (Stands c)) = Ok (Stands (seen_clarification audience.Jury s c))

-- valid contests that are alike for a team decide its clarifications alike
abbrev pub AlikeClarifyAlike : Type 0
AlikeClarifyAlike =
    (x y : ContestState) (now team : ℕ) (account : List ℕ) (w : WantedClarification) → is_valid x ≡ true → is_valid y ≡ true → Alike (audience_at team) x y
    → told_decision x.fixed.settings (clarify x.fixed now (sender.Team team) account x.clarifications w) ≡ told_decision y.fixed.settings (clarify y.fixed now (sender.Team team) account y.clarifications w)

-- a rejudging that is opened over different submissions, at most as many as there may be, may be added to a valid contest
abbrev pub OpenedIsAddable : Type 0
OpenedIsAddable =
    (x : ContestState) (w : WantedRejudging) (r : Rejudging) → is_valid x ≡ true → are_different w.submissions ≡ true → length w.submissions ≤ REJUDGING_MEMBERS
    → open_rejudging x.fixed x.submissions x.releases x.rejudgings w ≡ Ok r → is_addable x (NewRejudging r) ≡ true

-- the state that a member takes by a verdict of an account that is there may be set
abbrev pub RejudgedIsAddable : Type 0
RejudgedIsAddable =
    (x : ContestState) (verification : Bool) (number : ℕ) (r : Rejudging) (w : WantedVerdict) (account : List ℕ) (change : MemberChange) → is_some (account_named x.fixed.accounts account) ≡ true
    → rejudge_on verification r (named_verdict x.fixed x.submissions w) account ≡ Ok change → is_addable x (SetMember number change.place change.state) ≡ true

-- what one adds that is applied may be added, one after the other
abbrev pub AppliedIsAddable : Type 0
AppliedIsAddable =
    (x : ContestState) (now number : ℕ) (r : Rejudging) (releases : List Release) → is_valid x ≡ true → Has x.rejudgings r
    → apply_on x.releases now r ≡ Ok releases → are_addable x (applied_entries number releases) ≡ true

-- a change of the clock may be made, and its marks are those of the contest then
abbrev pub IsMade : ContestState → ClockChange → Type 0
IsMade x c = (is_addable x c.entry ≡ true) × (add x c.entry ≡ with_marks x c.marks)

-- a start or a thaw that is taken is made
abbrev pub ClockIsAddable : Type 0
ClockIsAddable =
    (x : ContestState) (now : ℕ) (w : WantedClock) (c : ClockChange) → set_clock x.fixed x.submissions x.clarifications now w ≡ Ok c → IsMade x c

-- and so are results that are final from now on
abbrev pub FinalIsAddable : Type 0
FinalIsAddable =
    (x : ContestState) (now : ℕ) (c : ClockChange) → finalize x.fixed x.submissions x.releases x.rejudgings now ≡ Ok c → IsMade x c

-- a start that has come stays, whatever is taken, and so does a thaw
abbrev pub ComeStays : Type 0
ComeStays =
    (x : ContestState) (now : ℕ) (w : WantedClock) (c : ClockChange) → set_clock x.fixed x.submissions x.clarifications now w ≡ Ok c
    → (reached x.fixed.marks.start now ≡ true → c.marks.start ≡ x.fixed.marks.start) × (reached x.fixed.marks.thaw now ≡ true → c.marks.thaw ≡ x.fixed.marks.thaw)
