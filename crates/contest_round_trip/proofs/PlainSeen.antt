-- What a feed says of submissions, judgements, clarifications, awards and the state of the clock is plain.
use Rattle.std.proofs.Common.{◌≡◌, ◌≤◌, ◌<◌, ◌+◌, ◌^◌, ◌-ℤ◌, ℕ, Bool, true, false, List, Option, Some, None, pos, decimal, refl, arith, codes}
use Rattle.std.specs.Prelude.{nat_le, IfSome, if◌then◌else◌}
use Rattle.std.specs.Option.{option_and_then, option_map}
use Rattle.std.specs.Str.{IsUtf8}
use Rattle.std.proofs.lemmas.Fmt.{IsAscii-decimal}
use Rattle.std.proofs.lemmas.Str.{IsUtf8-append, IsUtf8-from_ascii}
use Rattle.json.proofs.Printed.Utf8.{IsUtf8-are_ascii}
use Rattle.serde_json.specs.Data.{string, object, Members, no_members, member}
use Rattle.contest_types.specs.Clock.{end_of, freeze_of, moment_before, reached}
use Rattle.contest_types.specs.MomentText.{moment_text}
use Rattle.contest_types.specs.RelTimeText.{rel_time_text}
use Rattle.contest_types.specs.Setup.{Setup}
use Rattle.contest_types.specs.Sight.{Judgement, Program}
use Rattle.contest_types.specs.State.{FixedPart}
use Rattle.contest_types.specs.VisibleIds.{judgement_id, submission_id}
use Rattle.contest_types.specs.ProblemPlaces.{problem_id_at}
use Rattle.contest_types.specs.SettingsNames.{language_id_at, type_id_at}
use Rattle.contest_types.specs.TeamPlaces.{team_id_at}
use Rattle.contest_types.specs.declared.marks.Marks.{Marks}
use Rattle.contest_objects.specs.ContestObjects.{state_data}
use Rattle.contest_objects.specs.JudgementObjects.{judgement_data}
use Rattle.contest_objects.specs.Objects.{files_data, files_path, submission_data, submission_members}
use Rattle.contest_objects.specs.StateObject.{both_come, come, final_from, last_update, later_moment, once, state_times, thawed_from}
use Rattle.contest_objects.specs.Times.{contest_time_data}
use Rattle.contest_round_trip.specs.Forms.{HasMoments, HasNames, IsMoment}
use Rattle.contest_round_trip.specs.PlainValues.{is_above, joined}
use Rattle.contest_round_trip.proofs.ContestTimes.{since_utf8}
use Rattle.contest_round_trip.proofs.PlainObjects.{AreMembers, IsPlain, id_utf8, last_member, next_member, null_plain, object_plain, text_plain}
use Rattle.contest_round_trip.proofs.PlainRows.{language_id_utf8, moment_or_null_plain, problem_id_utf8, team_id_utf8, type_id_utf8}
use Rattle.contest_round_trip.proofs.TimeTexts.{moment_utf8}

-- ---- the state of the clock

come_moment : (o : Option ℕ) (now : ℕ) → IfSome o IsMoment → IfSome (come o now) IsMoment
come_moment o now h =
    let go : (b : Bool) → IfSome (if b then o else None) IsMoment = elim [ true ↦ h | false ↦ tt ] in
    go (reached o now)

once_moment : (first o : Option ℕ) → IfSome o IsMoment → IfSome (once first o) IsMoment
once_moment None o h = tt
once_moment (Some m) o h = h

later_is : (a b : ℕ) → IsMoment a → IsMoment b → IsMoment (later_moment a b)
later_is a b h k =
    let go : (t : Bool) → IsMoment (if t then b else a) = elim [ true ↦ k | false ↦ h ] in
    go (nat_le a b)

both_moment : (a b : Option ℕ) → IfSome a IsMoment → IfSome b IsMoment → IfSome (both_come a b) IsMoment
both_moment None b h k = tt
both_moment (Some a) None h k = tt
both_moment (Some a) (Some b) h k = later_is a b h k

last_moment : (freeze thawed finalized : Option ℕ) → IfSome thawed IsMoment → IfSome finalized IsMoment → IfSome (last_update freeze thawed finalized) IsMoment
last_moment None thawed finalized h k = k
last_moment (Some f) thawed finalized h k = both_moment thawed finalized h k

freeze_moment : (end span : Option ℕ) → IfSome end IsMoment → IfSome (moment_before end span) IsMoment
freeze_moment None span h = tt
freeze_moment (Some end) None h = tt
freeze_moment (Some end) (Some span) h = omega (arith, h)

pub state_plain : (s : Setup) (m : Marks) (now : ℕ) → HasMoments m → IfSome (end_of s m) IsMoment → IsPlain 1 (state_data (state_times s m now))
state_plain s m now h end =
    let freeze = freeze_moment (end_of s m) s.head.freeze end in
    let thawed = once_moment (come (freeze_of s m) now) (come m.thaw now) (come_moment m.thaw now h.thaw) in
    let final = once_moment (come (end_of s m) now) (come m.finalized now) (come_moment m.finalized now h.finalized) in
    object_plain (next_member refl refl (moment_or_null_plain 0 (last_update (freeze_of s m) (thawed_from s m now) (final_from s m now)) (last_moment (freeze_of s m) (thawed_from s m now) (final_from s m now) thawed final))
    (next_member refl refl (moment_or_null_plain 0 (come (end_of s m) now) (come_moment (end_of s m) now end))
    (next_member refl refl (moment_or_null_plain 0 (final_from s m now) final)
    (next_member refl refl (moment_or_null_plain 0 (come (freeze_of s m) now) (come_moment (freeze_of s m) now freeze))
    (next_member refl refl (moment_or_null_plain 0 (come m.start now) (come_moment m.start now h.start))
    (next_member refl refl (moment_or_null_plain 0 (thawed_from s m now) thawed) (last_member 0 _)))))))

-- ---- ids of what teams make

pub decimal_utf8 : (n : ℕ) → n < 2 ^ 64 → IsUtf8 (decimal n)
decimal_utf8 n h = IsUtf8-from_ascii (decimal n) (IsAscii-decimal n h)

pub submission_id_utf8 : (team number : ℕ) → team ≤ 1_000 → number ≤ 1_000 → IsUtf8 (submission_id team number)
submission_id_utf8 team number h k =
    IsUtf8-append (codes "s") _ (IsUtf8-are_ascii (codes "s") refl) (IsUtf8-append (decimal (team + 1)) _ (decimal_utf8 (team + 1) (omega (arith, h)))
    (IsUtf8-append (codes "-") (decimal number) (IsUtf8-are_ascii (codes "-") refl) (decimal_utf8 number (omega (arith, k)))))

pub judgement_id_utf8 : (team number round : ℕ) → team ≤ 1_000 → number ≤ 1_000 → round < 2 ^ 64 → IsUtf8 (judgement_id team number round)
judgement_id_utf8 team number round h k l =
    IsUtf8-append (submission_id team number) _ (submission_id_utf8 team number h k) (IsUtf8-append (codes ".") (decimal round) (IsUtf8-are_ascii (codes ".") refl) (decimal_utf8 round l))

-- ---- submissions

pub time_plain : (n : ℕ) (start : Option ℕ) (time : ℕ) → IfSome start IsMoment → IsMoment time → IsPlain n (contest_time_data start time)
time_plain n None time h k = null_plain n
time_plain n (Some start) time h k = text_plain n (rel_time_text (pos time -ℤ pos start)) (since_utf8 time start k h)

path_utf8 : (contest id : List ℕ) → IsUtf8 contest → IsUtf8 id → IsUtf8 (files_path contest id)
path_utf8 contest id h k =
    IsUtf8-append (codes "contests/") _ (IsUtf8-are_ascii (codes "contests/") refl) (IsUtf8-append contest _ h
    (IsUtf8-append (codes "/submissions/") _ (IsUtf8-are_ascii (codes "/submissions/") refl) (IsUtf8-append id (codes "/files") k (IsUtf8-are_ascii (codes "/files") refl))))

files_plain : (contest id : List ℕ) → IsUtf8 contest → IsUtf8 id → IsPlain 2 (files_data contest id)
files_plain contest id h k =
    let one : IsPlain 1 (object (member (codes "href") (string (files_path contest id)) (member (codes "mime") (string (codes "application/zip")) no_members))) = object_plain (next_member refl refl (text_plain 0 (files_path contest id) (path_utf8 contest id h k)) (next_member refl refl (text_plain 0 (codes "application/zip") (IsUtf8-are_ascii (codes "application/zip") refl)) (last_member 0 _))) in
    record { fits = (one.fits, tt); ordered = rw one.ordered refl; shallow = omega (arith, one.shallow) }

-- what stands in a submission behind its file
module _ (id language problem team time : List ℕ) (i : IsUtf8 id) (l : IsUtf8 language) (p : IsUtf8 problem) (t : IsUtf8 team) (u : IsUtf8 time) where
  abbrev rest : Members
  rest = member (codes "id") (string id) (member (codes "language_id") (string language) (member (codes "problem_id") (string problem) (member (codes "team_id") (string team) (member (codes "time") (string time) no_members))))

  plain_rest : (n : ℕ) (before : Members) → is_above (codes "id") before ≡ true → is_above (codes "language_id") (joined before (member (codes "id") (string id) no_members)) ≡ true
      → is_above (codes "problem_id") (joined (joined before (member (codes "id") (string id) no_members)) (member (codes "language_id") (string language) no_members)) ≡ true
      → is_above (codes "team_id") (joined (joined (joined before (member (codes "id") (string id) no_members)) (member (codes "language_id") (string language) no_members)) (member (codes "problem_id") (string problem) no_members)) ≡ true
      → is_above (codes "time") (joined (joined (joined (joined before (member (codes "id") (string id) no_members)) (member (codes "language_id") (string language) no_members)) (member (codes "problem_id") (string problem) no_members)) (member (codes "team_id") (string team) no_members)) ≡ true
      → AreMembers n before rest
  plain_rest n before a b c d e =
      next_member refl a (text_plain n id i) (next_member refl b (text_plain n language l) (next_member refl c (text_plain n problem p) (next_member refl d (text_plain n team t) (next_member refl e (text_plain n time u) (last_member n _)))))

pub submission_plain : (f : FixedPart) → HasNames f.settings → (team number time problem language : ℕ) → team ≤ 1_000 → number ≤ 1_000 → IfSome f.marks.start IsMoment → IsMoment time
    → (program : Option Program) → IfSome program (λ p. IfSome p.entry_point IsUtf8) → IsPlain 3 (submission_data f team number time problem language program)
submission_plain f names team number time problem language h k start m program entry =
    let s = f.settings in
    let id = submission_id team number in
    let i = submission_id_utf8 team number h k in
    let behind = plain_rest id (language_id_at s language) (problem_id_at s.problems problem) (team_id_at s team) (moment_text time) i (language_id_utf8 s names language) (problem_id_utf8 s names problem) (team_id_utf8 s names team) (moment_utf8 time m) 2 in
    let at : IsPlain 2 (contest_time_data f.marks.start time) = time_plain 2 f.marks.start time start m in
    let files : IsPlain 2 (files_data s.head.id id) = files_plain s.head.id id (id_utf8 s.head.id names.contest.has_id) i in
    let with_entry : (o : Option (List ℕ)) → IfSome o IsUtf8 → AreMembers 2 no_members (submission_members (contest_time_data f.marks.start time) (option_map string o) (Some (files_data s.head.id id)) id (language_id_at s language) (problem_id_at s.problems problem) (team_id_at s team) (string (moment_text time))) = elim [
      | None ↦ λ e. next_member refl refl at (next_member refl refl files (behind _ refl refl refl refl refl))
      | (Some text) ↦ λ e. next_member refl refl at (next_member refl refl (text_plain 2 text e) (next_member refl refl files (behind _ refl refl refl refl refl)))
    ] in
    let with_program : (o : Option Program) → IfSome o (λ p. IfSome p.entry_point IsUtf8) → AreMembers 2 no_members (submission_members (contest_time_data f.marks.start time) (option_map string (option_and_then (λ (p : Program). p.entry_point) o)) (option_map (λ (p : Program). files_data s.head.id id) o) id (language_id_at s language) (problem_id_at s.problems problem) (team_id_at s team) (string (moment_text time))) = elim [
      | None ↦ λ e. next_member refl refl at (behind _ refl refl refl refl refl)
      | (Some p) ↦ λ e. with_entry p.entry_point e
    ] in
    object_plain (with_program program entry)

-- ---- judgements

pub judgement_plain : (f : FixedPart) → HasNames f.settings → (team number : ℕ) → team ≤ 1_000 → number ≤ 1_000 → IfSome f.marks.start IsMoment → (j : Judgement) → j.round < 2 ^ 64 → IsMoment j.time
    → IsPlain 1 (judgement_data f team number j)
judgement_plain f names team number h k start j r m =
    let at : IsPlain 0 (contest_time_data f.marks.start j.time) = time_plain 0 f.marks.start j.time start m in
    let when : IsPlain 0 (string (moment_text j.time)) = text_plain 0 (moment_text j.time) (moment_utf8 j.time m) in
    object_plain (next_member refl refl at (next_member refl refl when
    (next_member refl refl (text_plain 0 (judgement_id team number j.round) (judgement_id_utf8 team number j.round h k r))
    (next_member refl refl (text_plain 0 (type_id_at f.settings j.verdict) (type_id_utf8 f.settings names j.verdict))
    (next_member refl refl at (next_member refl refl when
    (next_member refl refl (text_plain 0 (submission_id team number) (submission_id_utf8 team number h k)) (last_member 0 _))))))))
