-- What of a feed is at fault once it has ended: an object that refers to nothing, a label that stands twice,
-- a table that is full (own).
use Rattle.std.specs.Prelude.{ℕ, ◌&&◌, ◌||◌, ◌++◌, Bool, List, [], ◌∷◌, Option, Some, None, drop, filter, fold, is_some, length, map, nat_le, nat_lt, if◌then◌else◌}
use Rattle.std.specs.List.{list_any}
use Rattle.std.specs.Str.{bytes_eq}
use Rattle.contest_types.specs.Places.{is_among}
use Rattle.contest_types.specs.declared.limits.TheConstants.{JUDGEMENT_TYPES, PROBLEMS, GROUPS, TEAMS, TEAM_SUBMISSIONS}
use Rattle.contest_types.specs.declared.refusal.Cause.{Cause}
use Rattle.contest_types.specs.declared.refusal.Cause.TheVariants.{UnknownReference, KeyReused, TableFull}
use Rattle.contest_files.specs.FieldTexts.{Text}
use Rattle.contest_replay.specs.ReplayLists.{within}
use Rattle.contest_feed_reader.specs.declared.objects.FeedProblem.{FeedProblem}
use Rattle.contest_feed_reader.specs.declared.row.Row.{Row}
use Rattle.contest_feed_reader.specs.declared.submissions.FeedJudgement.{FeedJudgement}
use Rattle.contest_feed_reader.specs.declared.submissions.FeedSubmission.{FeedSubmission}
use Rattle.contest_feed_reader.specs.declared.tables.Tables.{Tables}

-- an object that is at fault: the line that named it last, and why
abbrev pub Fault : Type 0
Fault = ℕ × Cause

-- of two faults the one of the earlier line; in one line the first
abbrev pub earlier : Option Fault → Fault → Option Fault
earlier None fault = Some fault
earlier (Some first) fault = Some (if nat_lt fault.0 first.0 then fault else first)

abbrev pub first_of : List Fault → Option Fault
first_of faults = fold earlier None faults

-- the fault of an object that a line named last, if it has one
abbrev pub faults_at : (line : ℕ) → Option Cause → List Fault
faults_at line None = []
faults_at line (Some cause) = (line, cause) ∷ []

-- the ids of a collection
abbrev pub ids_of : {A : Type 0} → List (Row A) → List Text
ids_of rows = map (λ row. row.id) rows

-- the rows for which a table has no place
abbrev pub full_faults : {A : Type 0} → (most : ℕ) → List (Row A) → List Fault
full_faults most rows = map (λ row. (row.line, TableFull)) (drop most rows)

-- a row before one has its label, or one after it does that was named on an earlier line
abbrev pub is_reused : (before : List (Row FeedProblem)) → Row FeedProblem → (after : List (Row FeedProblem)) → Bool
is_reused before row after =
    list_any (λ other. bytes_eq other.object.label row.object.label && nat_le other.line row.line) before
    || list_any (λ other. bytes_eq other.object.label row.object.label && nat_lt other.line row.line) after

abbrev pub problem_fault : (before : List (Row FeedProblem)) → Row FeedProblem → (after : List (Row FeedProblem)) → Option Cause
problem_fault before row after =
    if is_reused before row after then Some KeyReused else (if nat_le PROBLEMS (length before) then Some TableFull else None)

abbrev pub problem_faults : (before : List (Row FeedProblem)) → List (Row FeedProblem) → List Fault
problem_faults before [] = []
problem_faults before (row ∷ after) = faults_at row.line (problem_fault before row after) ++ problem_faults (before ++ row ∷ []) after

-- a submission counts from the start to before the end
abbrev pub counts : (duration : ℕ) → Row FeedSubmission → Bool
counts duration row = is_some (within duration row.object.time)

-- how many of a team's submissions count
abbrev pub counted : (duration : ℕ) → (team : Text) → List (Row FeedSubmission) → ℕ
counted duration team rows = length (filter (λ row. counts duration row && bytes_eq row.object.team team) rows)

-- a submission's team and problem have to stand; if it counts its team must have a place for it
abbrev pub fault_by : (stand counts : Bool) → (count : ℕ) → Option Cause
fault_by stand counts count =
    if stand then (if counts && nat_le TEAM_SUBMISSIONS count then Some TableFull else None) else Some UnknownReference

abbrev pub submission_fault : (duration : ℕ) → (teams problems : List Text) → (before : List (Row FeedSubmission)) → Row FeedSubmission → Option Cause
submission_fault duration teams problems before row =
    fault_by (is_among teams row.object.team && is_among problems row.object.problem) (counts duration row) (counted duration row.object.team before)

abbrev pub submission_faults : (duration : ℕ) → (teams problems : List Text) → (before : List (Row FeedSubmission)) → List (Row FeedSubmission) → List Fault
submission_faults duration teams problems before [] = []
submission_faults duration teams problems before (row ∷ rows) =
    faults_at row.line (submission_fault duration teams problems before row) ++ submission_faults duration teams problems (before ++ row ∷ []) rows

-- a judgement's type stands, if it has one
abbrev pub verdict_fault : (types : List Text) → Option Text → Option Cause
verdict_fault types None = None
verdict_fault types (Some id) = if is_among types id then None else Some UnknownReference

abbrev pub judgement_faults : (types : List Text) → List (Row FeedJudgement) → List Fault
judgement_faults types [] = []
judgement_faults types (row ∷ rows) = faults_at row.line (verdict_fault types row.object.verdict) ++ judgement_faults types rows

-- all that is at fault, collection by collection, each in its order
abbrev pub faults_in : (duration : ℕ) → Tables → List Fault
faults_in duration t =
    full_faults JUDGEMENT_TYPES t.types ++ problem_faults [] t.problems ++ full_faults GROUPS t.groups ++ full_faults TEAMS t.teams
    ++ submission_faults duration (ids_of t.teams) (ids_of t.problems) [] t.submissions
    ++ judgement_faults (ids_of t.types) t.judgements

-- the first of them by the line that named the object last; in one line by place
abbrev pub first_fault : (duration : ℕ) → Tables → Option Fault
first_fault duration t = first_of (faults_in duration t)
