-- Rows with what each has to have (own): a member that may be left out is as if it were.
use Rattle.std.specs.Prelude.{ℕ, Bool, false, List, [], None}
use Rattle.contest_types.specs.declared.objects.JudgementType.{JudgementType}
use Rattle.contest_types.specs.declared.objects.Language.{Language}
use Rattle.contest_types.specs.declared.objects.Problem.{Problem}
use Rattle.contest_types.specs.declared.objects.Group.{Group}
use Rattle.contest_types.specs.declared.objects.Team.{Team}
use Rattle.contest_types.specs.declared.submission.Submission.{Submission}

abbrev pub plain_type : (id name : List ℕ) → (solved penalty : Bool) → JudgementType
plain_type id name solved penalty = record { id = id; name = name; solved = solved; penalty = penalty }

-- without an entry point
abbrev pub plain_language : (id name : List ℕ) → Language
plain_language id name = record { id = id; name = name; entry_point_required = false }

abbrev pub plain_problem : (id label name : List ℕ) → (ordinal : ℕ) → Problem
plain_problem id label name ordinal = record { id = id; label = label; name = name; ordinal = ordinal }

abbrev pub plain_group : (id name : List ℕ) → Group
plain_group id name = record { id = id; name = name }

-- of no group, and on the board
abbrev pub plain_team : (id name : List ℕ) → Team
plain_team id name = record { id = id; name = name; groups = []; hidden = false }

-- with an empty file, no entry point and no key
abbrev pub plain_submission : (team number time problem language : ℕ) → Submission
plain_submission team number time problem language = record { team = team; number = number; time = time; problem = problem; language = language; entry_point = None; file = []; key = None }
