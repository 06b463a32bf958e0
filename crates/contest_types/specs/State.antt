-- A contest as whole lists, and what each change makes of it (own; settings, submissions and
-- clarifications are those of the Contest API 2023-06). Places count from 0, numbers and rounds from 1.
use Rattle.std.specs.Prelude.{ℕ, Bool, true, false, ◌&&◌, ◌==◌, List, [], ◌∷◌, ◌++◌, filter, map, Option, Some, None, if◌then◌else◌}
use Rattle.std.specs.List.{enumerate_from}
use Rattle.std.specs.Str.{bytes_eq}
use Rattle.contest_types.specs.Setup.{Setup}
use Rattle.contest_types.specs.Accounts.{with_account}
use Rattle.contest_types.specs.declared.contest.Contest.{Contest}
use Rattle.contest_types.specs.declared.contest.ContestHead.{ContestHead}
use Rattle.contest_types.specs.declared.fixed.Fixed.{Fixed}
pub use Rattle.contest_types.specs.declared.entry.Entry.{Entry}
pub use Rattle.contest_types.specs.declared.entry.Entry.TheVariants.{NewSubmission, NewProposal, NewRelease, NewClarification, NewRejudging, SetMember, SetRejudging, SetStart, SetThaw, SetFinalized, SetDuration, SetTeamName, SetDigest, NewType, NewLanguage, NewProblem, NewGroup, NewTeam, NewAccount}
use Rattle.contest_types.specs.declared.account.Account.{Account}
use Rattle.contest_types.specs.declared.marks.Marks.{Marks}
use Rattle.contest_types.specs.declared.objects.Team.{Team}
use Rattle.contest_types.specs.declared.submission.Submission.{Submission}
use Rattle.contest_types.specs.declared.submission.Release.{Release}
use Rattle.contest_types.specs.declared.proposal.Proposal.{Proposal}
use Rattle.contest_types.specs.declared.clarification.Clarification.{Clarification}
use Rattle.contest_types.specs.declared.clarification.Addressee.{Addressee}
use Rattle.contest_types.specs.declared.clarification.Addressee.TheVariants.{All as ToAll, Group as ToGroup, Team as ToTeam}
use Rattle.contest_types.specs.declared.rejudging.Rejudging.{Rejudging}
use Rattle.contest_types.specs.declared.rejudging.Member.{Member}
use Rattle.contest_types.specs.declared.rejudging.MemberState.{MemberState}

-- what the promise of isolation takes as equal: the settings, the accounts and the marks of the clock
abbrev pub FixedPart : Type 0
FixedPart = Fixed

-- a contest: its fixed part, and each list in the order in which its rows were accepted
pub record ContestState : Type 0 where
  pub fixed : FixedPart
  pub submissions : List Submission
  pub proposals : List Proposal
  pub releases : List Release
  pub clarifications : List Clarification
  pub rejudgings : List Rejudging

-- the contest that is set up, with nothing in it yet
abbrev pub new_contest : Contest → ContestState
new_contest c = record {
  fixed = record {
    settings = record { head = c.head; types = []; languages = []; problems = []; groups = []; teams = [] };
    accounts = [];
    marks = record { start = c.start; thaw = None; finalized = None };
  };
  submissions = [];
  proposals = [];
  releases = [];
  clarifications = [];
  rejudgings = [];
}

-- the submissions of the team at a place
abbrev pub submissions_of : ℕ → List Submission → List Submission
submissions_of team = filter (λ s. s.team == team)

-- what names a submission: the place of its team, and its number among that team's
pub record SubmissionRef : Type 0 where
  pub team : ℕ
  pub number : ℕ

abbrev pub of_submission : Submission → SubmissionRef
of_submission s = record { team = s.team; number = s.number }

abbrev pub of_release : Release → SubmissionRef
of_release v = record { team = v.team; number = v.number }

abbrev pub of_proposal : Proposal → SubmissionRef
of_proposal p = record { team = p.team; number = p.number }

abbrev pub of_member : Member → SubmissionRef
of_member m = record { team = m.team; number = m.number }

-- it is this team's submission with this number
abbrev pub names : (team number : ℕ) → SubmissionRef → Bool
names team number r = (r.team == team) && (r.number == number)

-- the releases on a team's submission with this number
abbrev pub releases_on : (team number : ℕ) → List Release → List Release
releases_on team number = filter (λ v. names team number (of_release v))

-- the proposals for a team's submission with this number
abbrev pub proposals_for : (team number : ℕ) → List Proposal → List Proposal
proposals_for team number = filter (λ p. names team number (of_proposal p))

abbrev pub same_addressee : Addressee → Addressee → Bool
same_addressee ToAll ToAll = true
same_addressee (ToGroup g) (ToGroup h) = g == h
same_addressee (ToTeam t) (ToTeam u) = t == u
same_addressee _ _ = false

-- the clarifications of one addressee
abbrev pub clarifications_to : Addressee → List Clarification → List Clarification
clarifications_to addressee = filter (λ c. same_addressee c.addressee addressee)

-- the rows, counted from a first number, with the one that has this number changed
abbrev pub changed_at : {X : Type 0} → (first at : ℕ) → (X → X) → List X → List X
changed_at first at change xs = map (λ p. if p.0 == at then change p.1 else p.1) (enumerate_from first xs)

abbrev pub with_member_state : ℕ → MemberState → Rejudging → Rejudging
with_member_state place state r = record r { members = changed_at 0 place (λ (m : Member). record m { state = state }) r.members }

-- the head with another duration and freeze duration
abbrev pub lasting : ContestHead → (duration : ℕ) → (freeze : Option ℕ) → ContestHead
lasting h duration freeze = record h { duration = duration; freeze = freeze }

-- the settings with them
abbrev pub with_duration : Setup → (duration : ℕ) → (freeze : Option ℕ) → Setup
with_duration s duration freeze = record s { head = lasting s.head duration freeze }

-- the settings with another name of the team at a place
abbrev pub with_team_name : Setup → (team : ℕ) → (name : List ℕ) → Setup
with_team_name s team name = record s { teams = changed_at 0 team (λ (t : Team). record t { name = name }) s.teams }

-- the accounts with another token of the one with this id
abbrev pub with_digest : List Account → (id digest : List ℕ) → List Account
with_digest accounts id digest = map (λ (a : Account). if bytes_eq a.id id then record a { digest = digest } else a) accounts

abbrev pub with_settings : ContestState → Setup → ContestState
with_settings x settings = record x { fixed = record x.fixed { settings = settings } }

abbrev pub with_marks : ContestState → Marks → ContestState
with_marks x marks = record x { fixed = record x.fixed { marks = marks } }

-- the contest after one change
abbrev pub add : ContestState → Entry → ContestState
add x (NewSubmission s) = record x { submissions = x.submissions ++ s ∷ [] }
add x (NewProposal p) = record x { proposals = x.proposals ++ p ∷ [] }
add x (NewRelease v) = record x { releases = x.releases ++ v ∷ [] }
add x (NewClarification c) = record x { clarifications = x.clarifications ++ c ∷ [] }
add x (NewRejudging r) = record x { rejudgings = x.rejudgings ++ r ∷ [] }
add x (SetMember n place state) = record x { rejudgings = changed_at 1 n (with_member_state place state) x.rejudgings }
add x (SetRejudging n state) = record x { rejudgings = changed_at 1 n (λ r. record r { state = state }) x.rejudgings }
add x (SetStart start) = with_marks x (record x.fixed.marks { start = start })
add x (SetThaw thaw) = with_marks x (record x.fixed.marks { thaw = Some thaw })
add x (SetFinalized finalized) = with_marks x (record x.fixed.marks { finalized = Some finalized })
add x (SetDuration duration freeze) = with_settings x (with_duration x.fixed.settings duration freeze)
add x (SetTeamName team name) = with_settings x (with_team_name x.fixed.settings team name)
add x (SetDigest id digest) = record x { fixed = record x.fixed { accounts = with_digest x.fixed.accounts id digest } }
add x (NewType t) = with_settings x (record x.fixed.settings { types = x.fixed.settings.types ++ t ∷ [] })
add x (NewLanguage l) = with_settings x (record x.fixed.settings { languages = x.fixed.settings.languages ++ l ∷ [] })
add x (NewProblem p) = with_settings x (record x.fixed.settings { problems = x.fixed.settings.problems ++ p ∷ [] })
add x (NewGroup g) = with_settings x (record x.fixed.settings { groups = x.fixed.settings.groups ++ g ∷ [] })
add x (NewTeam t) = with_settings x (record x.fixed.settings { teams = x.fixed.settings.teams ++ t ∷ [] })
add x (NewAccount a) = record x { fixed = record x.fixed { accounts = with_account x.fixed.accounts a } }

-- the contest after one change after another
abbrev pub add_all : ContestState → List Entry → ContestState
add_all x [] = x
add_all x (e ∷ es) = add_all (add x e) es
