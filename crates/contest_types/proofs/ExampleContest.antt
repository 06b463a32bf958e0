-- The contest of the examples: five hours from moment 0, the last of them frozen; two problems, and
-- four teams of which the last is hidden.
use Rattle.std.proofs.Common.{zero, suc}
use Rattle.std.specs.Prelude.{ℕ, ◌*◌, Bool, true, false, List, [], ◌∷◌, Option, Some, None, codes}
use Rattle.contest_types.specs.PlainRows.{plain_language, plain_problem, plain_submission, plain_team, plain_type}
use Rattle.contest_types.specs.Setup.{Setup}
use Rattle.contest_types.specs.State.{ContestState}
use Rattle.contest_types.specs.declared.contest.ContestHead.{ContestHead}
use Rattle.contest_types.specs.declared.marks.Marks.{Marks}
use Rattle.contest_types.specs.declared.account.Account.{Account}
use Rattle.contest_types.specs.declared.account.Role.{Role}
use Rattle.contest_types.specs.declared.account.Role.TheVariants as role
use Rattle.contest_types.specs.declared.objects.Team.{Team}
use Rattle.contest_types.specs.declared.submission.Submission.{Submission}
use Rattle.contest_types.specs.declared.submission.Release.{Release}
use Rattle.contest_types.specs.declared.proposal.Proposal.{Proposal}
use Rattle.contest_types.specs.declared.proposal.Proposer.TheVariants as proposer
use Rattle.contest_types.specs.declared.clarification.Clarification.{Clarification}
use Rattle.contest_types.specs.declared.clarification.Addressee.TheVariants as addressee
use Rattle.contest_types.specs.declared.clarification.Reference.{Reference}
use Rattle.contest_types.specs.declared.rejudging.Rejudging.{Rejudging}
use Rattle.contest_types.specs.declared.rejudging.RejudgingState.{RejudgingState}
use Rattle.contest_types.specs.declared.rejudging.MemberState.TheVariants as member

-- contest time in milliseconds
abbrev pub minutes : ℕ → ℕ
minutes n = n * 60000

abbrev pub hours : ℕ → ℕ
hours n = n * 3600000

abbrev pub head : ContestHead
head = record {
  id = codes "demo";
  name = codes "Demo Cup";
  duration = hours 5;
  freeze = Some (hours 1);
  penalty_time = 20;
  verification = false;
  medals = record { gold = 4; silver = 4; bronze = 4 };
}

-- judgement types by place
abbrev pub accepted : ℕ
accepted = 0

abbrev pub wrong : ℕ
wrong = 1

abbrev pub compile_error : ℕ
compile_error = 2

abbrev pub team_named : (id name : List ℕ) → (hidden : Bool) → Team
team_named id name hidden = record (plain_team id name) { hidden = hidden }

abbrev pub settings : Setup
settings = record {
  head = head;
  types =
      plain_type (codes "AC") (codes "correct") true false
      ∷ plain_type (codes "WA") (codes "wrong answer") false true
      ∷ plain_type (codes "CE") (codes "compile error") false false ∷ [];
  languages = plain_language (codes "cpp") (codes "C++") ∷ record (plain_language (codes "java") (codes "Java")) { entry_point_required = true } ∷ [];
  problems =
      plain_problem (codes "a") (codes "A") (codes "Apples") 0
      ∷ plain_problem (codes "b") (codes "B") (codes "Bridges") 1 ∷ [];
  groups = [];
  teams =
      team_named (codes "t1") (codes "Alpha") false ∷ team_named (codes "t2") (codes "Beta") false
      ∷ team_named (codes "t3") (codes "Gamma") false ∷ team_named (codes "t9") (codes "Staff") true ∷ [];
}

abbrev pub account_for : (id : List ℕ) → Role → Account
account_for id role = record { id = id; role = role; digest = id }

-- an account for each team, and two judges
abbrev pub accounts : List Account
accounts =
    account_for (codes "a1") (role.Team 0) ∷ account_for (codes "a2") (role.Team 1) ∷ account_for (codes "a3") (role.Team 2)
    ∷ account_for (codes "a9") (role.Team 3) ∷ account_for (codes "j1") role.Judge ∷ account_for (codes "j2") role.Judge ∷ []

abbrev pub started : Marks
started = record { start = Some 0; thaw = None; finalized = None }

-- the contest with nothing in it yet
abbrev pub empty : ContestState
empty = record {
  fixed = record { settings = settings; accounts = accounts; marks = started };
  submissions = [];
  proposals = [];
  releases = [];
  clarifications = [];
  rejudgings = [];
}

abbrev pub thawed_at : ContestState → ℕ → ContestState
thawed_at x thaw = record x { fixed = record x.fixed { marks = record x.fixed.marks { thaw = Some thaw } } }

-- a team's submission at a problem
abbrev pub submitted : (team number time problem : ℕ) → Submission
submitted team number time problem = plain_submission team number time problem 0

-- a verdict on it
abbrev pub released : (team number round verdict time : ℕ) → Release
released team number round verdict time = record { team = team; number = number; round = round; verdict = verdict; time = time }

abbrev pub proposed : (team number verdict time : ℕ) → Proposal
proposed team number verdict time = record { team = team; number = number; verdict = verdict; proposer = proposer.Account (codes "j1"); time = time }

-- the id of the account of the team at a place
abbrev account_of : (team : ℕ) → List ℕ
account_of zero = codes "a1"
account_of (suc zero) = codes "a2"
account_of (suc (suc zero)) = codes "a3"
account_of _ = codes "a9"

-- a team asks, the jury answers it, and the jury tells all
abbrev pub asked : (team number time : ℕ) → Clarification
asked team number time = record { addressee = addressee.Team team; number = number; from_jury = false; account = account_of team; problem = None; reply = None; text = codes "Why?"; time = time; key = None }

abbrev pub answered : (team number time : ℕ) → Clarification
answered team number time = record { addressee = addressee.Team team; number = number; from_jury = true; account = codes "j1"; problem = None; reply = Some (record { addressee = addressee.Team team; number = 1 }); text = codes "So."; time = time; key = None }

abbrev pub announced : (number time : ℕ) → Option Reference → Clarification
announced number time reply = record { addressee = addressee.All; number = number; from_jury = true; account = codes "j1"; problem = None; reply = reply; text = codes "Lunch."; time = time; key = None }

-- a rejudging of one submission
abbrev pub rejudged : (team number verdict : ℕ) → RejudgingState → Rejudging
rejudged team number verdict state = record { reason = codes "limits"; state = state; members = record { team = team; number = number; state = member.Ready verdict } ∷ [] }
