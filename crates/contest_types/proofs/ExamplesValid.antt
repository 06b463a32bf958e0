-- Worked examples: what makes a contest invalid, and what doesn't.
use Rattle.std.proofs.Common.{◌≡◌, ℕ, ◌+◌, ◌-◌, List, [], ◌∷◌, refl, Some, None, true, false}
use Rattle.std.specs.Prelude.{codes}
use Rattle.std.specs.List.{list_all, list_any}
use Rattle.contest_types.specs.State.{ContestState, Entry, NewSubmission, NewRelease, NewProposal, NewClarification, SetStart, SetThaw}
use Rattle.contest_types.specs.Valid.{is_valid}
use Rattle.contest_types.specs.Addable.{is_addable, are_addable}
use Rattle.contest_types.specs.declared.marks.Marks.{Marks}
use Rattle.contest_types.specs.declared.account.Account.{Account}
use Rattle.contest_types.specs.declared.account.Role.TheVariants as role
use Rattle.contest_types.specs.declared.submission.Submission.{Submission}
use Rattle.contest_types.specs.declared.submission.Release.{Release}
use Rattle.contest_types.specs.declared.proposal.Proposal.{Proposal}
use Rattle.contest_types.specs.declared.proposal.Proposer.TheVariants as proposer
use Rattle.contest_types.specs.declared.clarification.Clarification.{Clarification}
use Rattle.contest_types.specs.declared.clarification.Addressee.{Addressee}
use Rattle.contest_types.specs.declared.clarification.Addressee.TheVariants as addressee
use Rattle.contest_types.specs.declared.rejudging.Rejudging.{Rejudging}
use Rattle.contest_types.specs.declared.rejudging.RejudgingState.TheVariants as state
use Rattle.contest_types.specs.declared.rejudging.MemberState.TheVariants as member
use Rattle.contest_types.proofs.ExampleContest.{hours, settings, accounts, started, empty, account_for, wrong, submitted, released, proposed, asked, answered, announced, rejudged}
use Rattle.contest_types.proofs.ExampleTalk.{base, own_submission, own_release}

empty_valid : is_valid empty ≡ true
empty_valid = refl

base_valid : is_valid base ≡ true
base_valid = refl

abbrev with_marks : Marks → ContestState → ContestState
with_marks marks x = record x { fixed = record x.fixed { marks = marks } }

abbrev with_accounts : List Account → ContestState → ContestState
with_accounts accounts x = record x { fixed = record x.fixed { accounts = accounts } }

-- finalized before the end, a thaw with no freeze, an applied rejudging of a member with no verdict, and a
-- rejudging without members
abbrev odd_but_valid : List ContestState
odd_but_valid =
    with_marks (record started { finalized = Some 1 }) base
    ∷ record base { fixed = record base.fixed { settings = record settings { head = record settings.head { freeze = None } }; marks = record started { thaw = Some 9 } } }
    ∷ record base { rejudgings = record { reason = codes "limits"; state = state.Applied; members = record { team = 0; number = 1; state = member.Empty } ∷ [] } ∷ [] }
    ∷ record base { rejudgings = record { reason = codes "limits"; state = state.Open; members = [] } ∷ [] }
    ∷ []

odd_valid : list_all is_valid odd_but_valid ≡ true
odd_valid = refl

-- the start: unset with a submission or a clarification, or so late that the end is no moment
abbrev bad_clocks : List ContestState
bad_clocks =
    with_marks (record started { start = None }) (record empty { submissions = own_submission ∷ [] })
    ∷ with_marks (record started { start = None }) (record empty { clarifications = announced 1 5 None ∷ [] })
    ∷ with_marks (record started { start = Some (253_370_764_799_999 - hours 5 + 1) }) empty
    ∷ []

no_clock : list_any is_valid bad_clocks ≡ false
no_clock = refl

latest_start : is_valid (with_marks (record started { start = Some (253_370_764_799_999 - hours 5) }) empty) ≡ true
latest_start = refl

-- accounts: one called `import`, an id or a digest twice, a team that isn't there
abbrev bad_accounts : List ContestState
bad_accounts =
    with_accounts (account_for (codes "import") role.Judge ∷ []) empty
    ∷ with_accounts (account_for (codes "j1") role.Judge ∷ record { id = codes "j1"; role = role.Admin; digest = 1 ∷ [] } ∷ []) empty
    ∷ with_accounts (account_for (codes "j1") role.Judge ∷ record { id = codes "j2"; role = role.Judge; digest = codes "j1" } ∷ []) empty
    ∷ with_accounts (account_for (codes "a5") (role.Team 4) ∷ []) empty
    ∷ []

no_accounts : list_any is_valid bad_accounts ≡ false
no_accounts = refl

abbrev with_submissions : List Submission → ContestState
with_submissions submissions = record empty { submissions = submissions }

-- submissions: a gap, a number twice, a time that falls, a key twice, a time at the end, a place that isn't there
abbrev bad_submissions : List ContestState
bad_submissions =
    with_submissions (submitted 0 2 0 0 ∷ [])
    ∷ with_submissions (submitted 0 1 0 0 ∷ submitted 0 1 0 0 ∷ [])
    ∷ with_submissions (submitted 0 1 9 0 ∷ submitted 0 2 8 0 ∷ [])
    ∷ with_submissions (record (submitted 0 1 9 0) { key = Some (codes "k") } ∷ record (submitted 0 2 9 0) { key = Some (codes "k") } ∷ [])
    ∷ with_submissions (submitted 0 1 (hours 5) 0 ∷ [])
    ∷ with_submissions (submitted 4 1 0 0 ∷ []) ∷ with_submissions (submitted 0 1 0 2 ∷ []) ∷ with_submissions (record (submitted 0 1 0 0) { language = 2 } ∷ [])
    ∷ with_marks (record started { start = Some 10 }) (with_submissions (submitted 0 1 9 0 ∷ []))
    ∷ []

no_submissions : list_any is_valid bad_submissions ≡ false
no_submissions = refl

-- another team's key, and times across teams, don't matter
other_team_key : is_valid (with_submissions (record (submitted 0 1 9 0) { key = Some (codes "k") } ∷ record (submitted 1 1 8 0) { key = Some (codes "k") } ∷ [])) ≡ true
other_team_key = refl

abbrev with_releases : List Release → ContestState
with_releases releases = record (with_submissions (submitted 0 1 0 0 ∷ [])) { releases = releases }

-- releases: on what isn't there, of a type that isn't, a round left out
abbrev bad_releases : List ContestState
bad_releases = with_releases (released 0 2 1 wrong 5 ∷ []) ∷ with_releases (released 0 1 1 3 5 ∷ []) ∷ with_releases (released 0 1 2 wrong 5 ∷ []) ∷ []

no_releases : list_any is_valid bad_releases ≡ false
no_releases = refl

abbrev with_proposals : List Proposal → ContestState
with_proposals proposals = record (with_submissions (submitted 0 1 0 0 ∷ [])) { proposals = proposals }

abbrev imported : (number verdict : ℕ) → Proposal
imported number verdict = record (proposed 0 number verdict 5) { proposer = proposer.Import }

-- proposals: two imported ones for a submission, one for what isn't there, an account or a type that isn't
abbrev bad_proposals : List ContestState
bad_proposals =
    with_proposals (imported 1 wrong ∷ imported 1 wrong ∷ []) ∷ with_proposals (imported 2 wrong ∷ [])
    ∷ with_proposals (imported 1 3 ∷ []) ∷ with_proposals (record (proposed 0 1 wrong 5) { proposer = proposer.Account (codes "j3") } ∷ []) ∷ []

no_proposals : list_any is_valid bad_proposals ≡ false
no_proposals = refl

abbrev with_talk : List Clarification → ContestState
with_talk clarifications = record empty { clarifications = clarifications }

abbrev replying : Clarification → Addressee → ℕ → Clarification
replying c to number = record c { reply = Some (record { addressee = to; number = number }) }

-- clarifications: a gap over both directions, a request to all, one by another team's account, an answer
-- to nothing, a team's reply to what it doesn't hear, a team's key twice, a judge's key twice, a team or
-- a problem that isn't there
abbrev bad_talk : List ContestState
bad_talk =
    with_talk (asked 0 1 5 ∷ answered 0 3 6 ∷ [])
    ∷ with_talk (record (announced 1 5 None) { from_jury = false } ∷ [])
    ∷ with_talk (record (asked 0 1 5) { account = codes "a2" } ∷ [])
    ∷ with_talk (answered 0 1 5 ∷ replying (answered 0 2 5) addressee.All 1 ∷ [])
    ∷ with_talk (asked 1 1 5 ∷ replying (asked 0 1 6) (addressee.Team 1) 1 ∷ [])
    ∷ with_talk (record (asked 0 1 5) { key = Some (codes "k") } ∷ record (asked 0 2 5) { key = Some (codes "k") } ∷ [])
    ∷ with_talk (record (announced 1 5 None) { key = Some (codes "k") } ∷ asked 0 1 5 ∷ record (answered 0 2 5) { key = Some (codes "k") } ∷ [])
    ∷ with_talk (announced 1 5 None ∷ record (announced 2 5 None) { addressee = addressee.Team 4; number = 1 } ∷ [])
    ∷ with_talk (record (announced 1 5 None) { problem = Some 2 } ∷ [])
    ∷ []

no_talk : list_any is_valid bad_talk ≡ false
no_talk = refl

-- a team may answer what is told to all; two judges may use one key
good_talk : is_valid (with_talk (record (announced 1 5 None) { key = Some (codes "k") } ∷ replying (asked 0 1 6) addressee.All 1 ∷ record (answered 0 2 5) { account = codes "j2"; key = Some (codes "k") } ∷ [])) ≡ true
good_talk = refl

abbrev with_rejudgings : List Rejudging → ContestState
with_rejudgings rejudgings = record base { rejudgings = rejudgings }

-- rejudgings: a member with no release, one twice, one in two open rejudgings
abbrev bad_rejudgings : List ContestState
bad_rejudgings =
    with_rejudgings (rejudged 1 2 wrong state.Open ∷ [])
    ∷ with_rejudgings (record (rejudged 0 1 wrong state.Applied) { members = record { team = 0; number = 1; state = member.Empty } ∷ record { team = 0; number = 1; state = member.Ready wrong } ∷ [] } ∷ [])
    ∷ with_rejudgings (rejudged 0 1 wrong state.Open ∷ rejudged 0 1 wrong state.Open ∷ [])
    ∷ []

no_rejudgings : list_any is_valid bad_rejudgings ≡ false
no_rejudgings = refl

again_rejudged : is_valid (with_rejudgings (rejudged 0 1 wrong state.Cancelled ∷ rejudged 0 1 wrong state.Open ∷ [])) ≡ true
again_rejudged = refl

-- a run of changes that may be made, from the empty contest on
run_addable : are_addable (with_marks (record started { start = None }) empty) (SetStart (Some 0) ∷ NewSubmission own_submission ∷ NewProposal (proposed 0 1 wrong 5) ∷ NewRelease own_release ∷ NewClarification (asked 0 1 5) ∷ NewClarification (answered 0 2 6) ∷ SetThaw 9 ∷ []) ≡ true
run_addable = refl

-- and changes that may not
abbrev not_addable : List Entry
not_addable = SetStart (Some 5) ∷ NewSubmission own_submission ∷ NewRelease own_release ∷ NewClarification (asked 0 1 5) ∷ NewClarification (announced 3 5 None) ∷ []

none_addable : list_any (is_addable base) not_addable ≡ false
none_addable = refl
