-- What a valid submission keeps to.
use Rattle.std.proofs.Common.{◌≡◌, ◌<◌, true, length}
use Rattle.std.specs.Prelude.{◌&&◌, nat_le, nat_lt, not}
use Rattle.std.specs.List.{list_all}
use Rattle.std.proofs.lemmas.Bool.{ltb-true}
use Rattle.contest_types.specs.Clock.{end_of, reached}
use Rattle.contest_types.specs.Order.{Has}
use Rattle.contest_types.specs.State.{ContestState, FixedPart}
use Rattle.contest_types.specs.Valid.{is_valid}
use Rattle.contest_types.specs.ValidSubmissions.{is_valid_submission}
use Rattle.contest_types.specs.declared.limits.TheConstants.{POSTED_FILE}
use Rattle.contest_types.specs.declared.submission.Submission.{Submission}
use Rattle.contest_types.proofs.PlaceLemmas.{and_left, and_right}
use Rattle.contest_types.proofs.SeenWhole.{all_has}
use Rattle.contest_types.proofs.ValidParts.{parts}

pub record SubmissionParts (f : FixedPart) (s : Submission) : Type 0 where
  pub team : s.team < length f.settings.teams
  pub problem : s.problem < length f.settings.problems
  pub language : s.language < length f.settings.languages
  pub started : reached f.marks.start s.time ≡ true
  pub open_then : not (reached (end_of f.settings f.marks) s.time) ≡ true

pub submission_parts : (f : FixedPart) (s : Submission) → is_valid_submission f s ≡ true → SubmissionParts f s
submission_parts f s h =
    let team = nat_lt s.team (length f.settings.teams) in
    let problem = nat_lt s.problem (length f.settings.problems) in
    let language = nat_lt s.language (length f.settings.languages) in
    let started = reached f.marks.start s.time in
    let before = not (reached (end_of f.settings f.marks) s.time) in
    let five = and_left (team && problem && language && started && before) (nat_le (length s.file) POSTED_FILE) h in
    let four = and_left (team && problem && language && started) before five in
    let three = and_left (team && problem && language) started four in
    let two = and_left (team && problem) language three in
    record {
      team = ltb-true s.team _ (and_left team problem two);
      problem = ltb-true s.problem _ (and_right team problem two);
      language = ltb-true s.language _ (and_right (team && problem) language three);
      started = and_right (team && problem && language) started four;
      open_then = and_right (team && problem && language && started) before five;
    }

-- those of a submission of a valid contest
pub parts_of : (x : ContestState) → is_valid x ≡ true → (s : Submission) → Has x.submissions s → SubmissionParts x.fixed s
parts_of x valid s there =
    submission_parts x.fixed s (all_has (is_valid_submission x.fixed) x.submissions s (and_left (list_all (is_valid_submission x.fixed) x.submissions) _ (parts x valid).submissions) there)
