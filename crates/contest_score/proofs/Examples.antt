-- Worked examples, which the checker computes.
use Rattle.std.proofs.Common.{◌≡◌, ℕ, Bool, true, false, List, [], ◌∷◌, Option, Some, None, refl, map}
use Rattle.std.specs.Prelude.{codes, zero, suc}
use Rattle.contest_types.specs.Setup.{Setup}
use Rattle.contest_types.specs.declared.contest.ContestHead.{ContestHead}
use Rattle.contest_types.specs.declared.objects.JudgementType.{JudgementType}
use Rattle.contest_types.specs.declared.objects.Problem.{Problem}
use Rattle.contest_types.specs.declared.objects.Team.{Team}
use Rattle.contest_types.specs.declared.marks.Marks.{Marks}
use Rattle.contest_types.specs.declared.audience.Audience.TheVariants as audience
use Rattle.contest_score.specs.declared.attempt.Verdict.{Verdict}
use Rattle.contest_score.specs.declared.attempt.Attempt.{Attempt}
use Rattle.contest_score.specs.declared.cell.Cell.{Cell}
use Rattle.contest_score.specs.declared.row.Row.{Row}
use Rattle.contest_score.specs.declared.submission.JudgedSubmission.{JudgedSubmission}
use Rattle.contest_score.specs.Scoring.{counted, cell_of_attempts, points}
use Rattle.contest_score.specs.Ranking.{problem_order, board_rows, is_public}
use Rattle.contest_score.specs.MaskedCells.{cell_for}

abbrev accepted : Option Verdict
accepted = Some (record { solving = true; penalised = false })

abbrev wrong : Option Verdict
wrong = Some (record { solving = false; penalised = true })

abbrev compile_error : Option Verdict
compile_error = Some (record { solving = false; penalised = false })

abbrev at : ℕ → Option Verdict → Attempt
at time verdict = record { time = time; verdict = verdict }

abbrev cell : ℕ → ℕ → Option ℕ → ℕ → Cell
cell judged pending None penalties = record { judged = judged; pending = pending; solved = None; penalties = penalties }
cell judged pending (Some minute) penalties = record { judged = judged; pending = pending; solved = Some (record { 0 = minute }); penalties = penalties }

-- wrong at 5:00, a compile error at 7:00 and accepted at 10:59.999: three judged, one penalty, minute 10
first_team : cell_of_attempts 0 (at 300_000 wrong ∷ at 420_000 compile_error ∷ at 659_999 accepted ∷ []) ≡ cell 3 0 (Some 10) 1
first_team = refl

-- which adds 10 + 20 minutes
first_points : points 20 (cell 3 0 (Some 10) 1) ≡ 30
first_points = refl

-- attempts after the first accepted one don't count
counted_attempts : counted (at 300_000 wrong ∷ at 600_000 accepted ∷ at 660_000 wrong ∷ at 720_000 None ∷ []) ≡ at 300_000 wrong ∷ at 600_000 accepted ∷ []
counted_attempts = refl

after_accepted : cell_of_attempts 0 (at 300_000 wrong ∷ at 600_000 accepted ∷ at 660_000 wrong ∷ at 720_000 None ∷ []) ≡ cell 2 0 (Some 10) 1
after_accepted = refl

-- a pending attempt before an accepted one counts
pending_first : cell_of_attempts 0 (at 13_800_000 None ∷ at 15_000_000 accepted ∷ []) ≡ cell 1 1 (Some 250) 0
pending_first = refl

-- penalties of an unsolved problem add nothing
unsolved : points 20 (cell_of_attempts 0 (at 300_000 wrong ∷ at 360_000 wrong ∷ [])) ≡ 0
unsolved = refl

-- five hours, of which the last one is frozen, and twenty minutes a penalty
abbrev head : ContestHead
head = record { id = codes "c"; name = codes "Contest"; duration = 18_000_000; freeze = Some 3_600_000; penalty_time = 20; verification = false; medals = record { gold = 1; silver = 1; bronze = 1 } }

abbrev type_of : List ℕ → Bool → Bool → JudgementType
type_of id solved penalty = record { id = id; name = id; solved = solved; penalty = penalty }

abbrev problem : List ℕ → ℕ → Problem
problem id ordinal = record { id = id; label = id; name = id; ordinal = ordinal }

abbrev team : List ℕ → List ℕ → Bool → Team
team id name hidden = record { id = id; name = name; groups = []; hidden = hidden }

abbrev types : List JudgementType
types = type_of (codes "AC") true false ∷ type_of (codes "WA") false true ∷ type_of (codes "CE") false false ∷ []

abbrev setup : List Problem → List Team → Setup
setup problems teams = record { head = head; types = types; languages = []; problems = problems; groups = []; teams = teams }

-- problems stand by ordinal, and then by id
three_problems : problem_order (setup (problem (codes "b") 1 ∷ problem (codes "z") 0 ∷ problem (codes "a") 1 ∷ []) []) ≡ 1 ∷ 2 ∷ 0 ∷ []
three_problems = refl

abbrev solved_in : ℕ → Cell
solved_in minute = cell 1 0 (Some minute) 0

-- the first two tie, the third comes after both, and the fourth is hidden
abbrev tied_cells : ℕ → ℕ → Cell
tied_cells zero p = solved_in 30
tied_cells (suc zero) p = solved_in 30
tied_cells (suc (suc zero)) p = solved_in 31
tied_cells (suc (suc (suc t))) p = solved_in 1

abbrev four_teams : Setup
four_teams = setup (problem (codes "a") 1 ∷ []) (team (codes "t1") (codes "Zebras") false ∷ team (codes "t2") (codes "Apes") false ∷ team (codes "t3") (codes "Bats") false ∷ team (codes "t4") (codes "Ants") true ∷ [])

shared_ranks : map (λ (r : Row). r.rank) (board_rows four_teams (is_public four_teams) tied_cells) ≡ 1 ∷ 1 ∷ 3 ∷ []
shared_ranks = refl

-- teams that tie stand by name
tied_by_name : map (λ (r : Row). r.team) (board_rows four_teams (is_public four_teams) tied_cells) ≡ 1 ∷ 0 ∷ 2 ∷ []
tied_by_name = refl

-- teams that tie and have one name stand by id
abbrev one_name : Setup
one_name = setup (problem (codes "a") 1 ∷ []) (team (codes "zoo") (codes "Bats") false ∷ team (codes "ark") (codes "Bats") false ∷ [])

tied_by_id : map (λ (r : Row). r.team) (board_rows one_name (is_public one_name) tied_cells) ≡ 1 ∷ 0 ∷ []
tied_by_id = refl

-- two teams with a total of 30 each: the first one's last accepted minute is smaller
abbrev two_teams : Setup
two_teams = setup (problem (codes "a") 1 ∷ []) (team (codes "t1") (codes "Zebras") false ∷ team (codes "t2") (codes "Apes") false ∷ [])

abbrev sent : ℕ → ℕ → Option ℕ → JudgedSubmission
sent by time verdict = record { team = by; problem = 0; time = time; verdict = verdict }

abbrev marks : Marks
marks = record { start = Some 0; thaw = Some 20_000_000; finalized = None }

abbrev two_teams_sent : List JudgedSubmission
two_teams_sent = sent 0 300_000 (Some 1) ∷ sent 0 420_000 (Some 2) ∷ sent 0 659_999 (Some 0) ∷ sent 1 1_800_000 (Some 0) ∷ []

abbrev row_by : ℕ → ℕ → ℕ → ℕ → Cell → Row
row_by by rank total last c = record { team = by; rank = rank; score = record { solved = 1; total = total; last = Some (record { 0 = last }) }; cells = c ∷ [] }

two_rows : board_rows two_teams (is_public two_teams) (cell_for audience.Public two_teams marks 2_000_000 two_teams_sent) ≡ row_by 0 1 30 10 (cell 3 0 (Some 10) 1) ∷ row_by 1 2 30 30 (cell 1 0 (Some 30) 0) ∷ []
two_rows = refl

-- a submission at the freeze moment, 4:00:00, is frozen: to the public it is pending until the thaw
abbrev frozen_sent : List JudgedSubmission
frozen_sent = sent 0 14_400_000 (Some 0) ∷ []

at_freeze : cell_for audience.Public two_teams marks 15_000_000 frozen_sent 0 0 ≡ cell 0 1 None 0
at_freeze = refl

at_freeze_other_team : cell_for (audience.Team 2) two_teams marks 15_000_000 frozen_sent 0 0 ≡ cell 0 1 None 0
at_freeze_other_team = refl

at_freeze_own : cell_for (audience.Team 1) two_teams marks 15_000_000 frozen_sent 0 0 ≡ cell 1 0 (Some 240) 0
at_freeze_own = refl

at_freeze_jury : cell_for audience.Jury two_teams marks 15_000_000 frozen_sent 0 0 ≡ cell 1 0 (Some 240) 0
at_freeze_jury = refl

at_freeze_thawed : cell_for audience.Public two_teams marks 20_000_000 frozen_sent 0 0 ≡ cell 1 0 (Some 240) 0
at_freeze_thawed = refl

-- one millisecond before it is open
before_freeze : cell_for audience.Public two_teams marks 15_000_000 (sent 0 14_399_999 (Some 0) ∷ []) 0 0 ≡ cell 1 0 (Some 239) 0
before_freeze = refl
