-- The verdict of a submission, by its judgements (Contest API 2023-06, judgements; which one counts is own).
use Rattle.std.specs.Prelude.{ℕ, ℤ, ◌&&◌, Bool, true, false, List, Option, Some, None, filter, fold, is_some, map, if◌then◌else◌}
use Rattle.std.specs.Int.Signed.{lt_z}
use Rattle.std.specs.Option.{option_and_then}
use Rattle.std.specs.Str.{bytes_eq}
use Rattle.contest_types.specs.Places.{place_of}
use Rattle.contest_files.specs.FieldTexts.{Text}
use Rattle.contest_feed_reader.specs.declared.row.Row.{Row}
use Rattle.contest_feed_reader.specs.declared.submissions.FeedJudgement.{FeedJudgement}

-- one ended before another: one that doesn't say when did before all that do
abbrev pub ended_before : Option ℤ → Option ℤ → Bool
ended_before None None = false
ended_before None (Some b) = true
ended_before (Some a) None = false
ended_before (Some a) (Some b) = lt_z a b

-- of two judgements the one that ended last; of equals the one that stands behind
abbrev pub later : Option FeedJudgement → FeedJudgement → Option FeedJudgement
later None next = Some next
later (Some last) next = Some (if ended_before next.ended last.ended then last else next)

-- the judgement counts for the submission with this id: it has a type, and isn't withdrawn
abbrev pub judges : (submission : Text) → FeedJudgement → Bool
judges submission j = bytes_eq j.submission submission && (j.counts && is_some j.verdict)

-- the one that ended last
abbrev pub last_judgement : (submission : Text) → List FeedJudgement → Option FeedJudgement
last_judgement submission js = fold later None (filter (judges submission) js)

-- the place of its type
abbrev pub place_by : (types : List Text) → FeedJudgement → Option ℕ
place_by types j = option_and_then (λ id. place_of id types) j.verdict

-- the place of the type of the judgement that ended last; none where the submission is pending
abbrev pub verdict_in : (types : List Text) → List FeedJudgement → (submission : Text) → Option ℕ
verdict_in types js submission = option_and_then (place_by types) (last_judgement submission js)

abbrev pub verdict_of : (types : List Text) → List (Row FeedJudgement) → (submission : Text) → Option ℕ
verdict_of types judgements submission = verdict_in types (map (λ row. row.object) judgements) submission
