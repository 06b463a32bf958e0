-- The submissions and judgements that the jury sees, as a reader of a feed has them.
use Rattle.std.proofs.Common.{◌≡◌, ◌≤◌, ◌<◌, ◌-◌, ◌-ℤ◌, ◌^◌, ℕ, ℤ, true, List, Option, Some, None, pos, length, refl, sym, ap, subst, codes}
use Rattle.std.specs.Prelude.{IfSome, is_some}
use Rattle.std.specs.Option.{option_and_then, option_map, option_map_or}
use Rattle.serde_json.specs.Data.{Data, string, object}
use Rattle.serde_json.specs.Find.{as_object, as_str, get}
use Rattle.contest_types.specs.IdText.{IsId}
use Rattle.contest_types.specs.MomentText.{moment_text}
use Rattle.contest_types.specs.ProblemPlaces.{problem_id_at}
use Rattle.contest_types.specs.RelTimeRead.{reltime_of}
use Rattle.contest_types.specs.RelTimeText.{rel_time_text}
use Rattle.contest_types.specs.SettingsNames.{language_id_at, type_id_at}
use Rattle.contest_types.specs.Setup.{Setup}
use Rattle.contest_types.specs.Sight.{Judgement, Program, SeenSubmission, program_for, seen_submission}
use Rattle.contest_types.specs.State.{ContestState}
use Rattle.contest_types.specs.TeamPlaces.{team_id_at}
use Rattle.contest_types.specs.VisibleIds.{submission_id}
use Rattle.contest_types.specs.declared.audience.Audience.TheVariants.{Jury}
use Rattle.contest_types.specs.declared.objects.JudgementType.{JudgementType}
use Rattle.contest_types.specs.declared.objects.Problem.{Problem}
use Rattle.contest_files.specs.JsonMembers.{optional, unless_null}
use Rattle.contest_objects.specs.JudgementObjects.{judgement_item}
use Rattle.contest_objects.specs.Objects.{files_data, submission_data, submission_object}
use Rattle.contest_objects.specs.Objects as served
use Rattle.contest_objects.specs.Times.{contest_time_data}
use Rattle.contest_view.specs.Reads.{submission_item}
use Rattle.contest_feed_reader.specs.FeedTypes.{JudgementRead, SubmissionRead}
use Rattle.contest_feed_reader.specs.Objects.{judgement_members, submission_members}
use Rattle.contest_score.specs.MaskedCells.{start_of}
use Rattle.contest_round_trip.specs.Forms.{HasNames, IsMoment}
use Rattle.contest_round_trip.proofs.ContestTimes.{near, since_back, span_back}
use Rattle.contest_round_trip.proofs.HeardEvents.{IsMade, Made}
use Rattle.contest_round_trip.proofs.MadeIds.{judgement_is_id, submission_is_id}
use Rattle.contest_round_trip.proofs.PlainObjects.{id_at}
use Rattle.contest_round_trip.proofs.PlainRows.{problem_is, team_called, type_called}
use Rattle.contest_round_trip.proofs.SeenFacts.{SeenFacts}

-- ---- ids of what stands

team_id : (s : Setup) → HasNames s → (place : ℕ) → place < length s.teams → IsId (team_id_at s place)
team_id s names place l = id_at (λ t. t.id) s.teams place (λ t h. (team_called s names t h).has_id) l

problem_id : (s : Setup) → HasNames s → (place : ℕ) → place < length s.problems → IsId (problem_id_at s.problems place)
problem_id s names place l = id_at (λ (p : Problem). p.id) s.problems place (λ p h. (problem_is s names p h).called.has_id) l

pub type_id : (s : Setup) → HasNames s → (place : ℕ) → place < length s.types → IsId (type_id_at s place)
type_id s names place l = id_at (λ (t : JudgementType). t.id) s.types place (λ t h. (type_called s names t h).has_id) l

-- ---- submissions

abbrev pub submission_made : ContestState → SeenSubmission → Made SubmissionRead
submission_made x v = record {
  item = submission_item x.fixed v;
  object = record { team = team_id_at x.fixed.settings v.team; problem = problem_id_at x.fixed.settings.problems v.problem; time = pos (v.time - start_of x.fixed.marks) };
}

-- whether an entry point and a file are served or not
module _ (at : ℕ) (text id language problem team : List ℕ) (time : Data) (read : reltime_of text ≡ Some (pos at)) (is_problem : IsId problem) (is_team : IsId team) where
  abbrev data_with : (entry_point files : Option Data) → Data
  data_with entry_point files = object (served.submission_members (string text) entry_point files id language problem team time)

  record IsBack (d : Data) : Type 0 where
    pub own : get (codes "id") d ≡ Some (string id)
    pub body : is_some (as_object d) ≡ true
    pub read_so : submission_members d ≡ Some (record { team = team; problem = problem; time = pos at })

  submission_back : (entry_point files : Option Data) → IsBack (data_with entry_point files)
  submission_back None None = record { own = refl; body = refl; read_so = rw (is_team, is_problem, read) refl }
  submission_back None (Some f) = record { own = refl; body = refl; read_so = rw (is_team, is_problem, read) refl }
  submission_back (Some e) None = record { own = refl; body = refl; read_so = rw (is_team, is_problem, read) refl }
  submission_back (Some e) (Some f) = record { own = refl; body = refl; read_so = rw (is_team, is_problem, read) refl }

pub submission_is_made : (now : ℕ) (x : ContestState) → HasNames x.fixed.settings → (v : SeenSubmission) → SeenFacts now x v → IsMade submission_members (submission_made x v)
submission_is_made now x names v f =
    let s = x.fixed.settings in
    let r = f.submission in
    let id = submission_id r.team r.number in
    let start : start_of x.fixed.marks ≡ f.start = ap (λ o. option_map_or (λ m. m) o 0) f.started in
    let time : contest_time_data x.fixed.marks.start r.time ≡ string (rel_time_text (pos r.time -ℤ pos f.start)) = ap (λ o. contest_time_data o r.time) f.started in
    let program = program_for Jury r in
    let b = submission_back (r.time - f.start) (rel_time_text (pos r.time -ℤ pos f.start)) id (language_id_at s r.language) (problem_id_at s.problems r.problem) (team_id_at s r.team) (string (moment_text r.time))
    (since_back r.time f.start f.moment f.since) (problem_id s names r.problem f.names.problem) (team_id s names r.team f.names.team)
    (option_map string (option_and_then (λ (p : Program). p.entry_point) program)) (option_map (λ (p : Program). files_data s.head.id id) program) in
    let made : IsMade submission_members (submission_made x (seen_submission Jury now x r)) = record {
      id = submission_is_id r.team r.number f.team f.number;
      own = rw time b.own;
      body = refl;
      read = rw (time, start) b.read_so;
    } in
    subst (λ w. IsMade submission_members (submission_made x w)) (sym f.shown) made

-- ---- judgements

-- when a judgement ended, of a contest that began at a start
abbrev pub ended_at : (start : Option ℕ) → (time : ℕ) → Option ℤ
ended_at start time = option_map (λ s. pos time -ℤ pos s) start

abbrev pub judgement_made : ContestState → SeenSubmission → Judgement → Made JudgementRead
judgement_made x v j = record {
  item = judgement_item x.fixed v.team v.number j;
  object = record { submission = submission_id v.team v.number; verdict = Some (type_id_at x.fixed.settings j.verdict); ended = ended_at x.fixed.marks.start j.time; counts = true };
}

ended_back : (start : Option ℕ) (time : ℕ) → IfSome start IsMoment → IsMoment time
    → optional (λ v. option_map Some (option_and_then reltime_of (as_str v))) (option_and_then unless_null (Some (contest_time_data start time))) ≡ Some (ended_at start time)
ended_back None time h k = refl
ended_back (Some s) time h k = ap (option_map Some) (span_back (pos time -ℤ pos s) (near time s k h))

pub judgement_is_made : (x : ContestState) → HasNames x.fixed.settings → IfSome x.fixed.marks.start IsMoment → (v : SeenSubmission) → v.team ≤ 1_000 → v.number ≤ 1_000 → (j : Judgement) → j.round < 2 ^ 64 → IsMoment j.time
    → j.verdict < length x.fixed.settings.types → IsMade judgement_members (judgement_made x v j)
judgement_is_made x names start v h k j r m l = record {
  id = judgement_is_id v.team v.number j.round h k r;
  own = refl;
  body = refl;
  read = rw (submission_is_id v.team v.number h k, type_id x.fixed.settings names j.verdict l, ended_back x.fixed.marks.start j.time start m) refl;
}
