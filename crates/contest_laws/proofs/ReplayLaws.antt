-- The rows of a replay are those of a desk's contest: a contest that is later by some time has the same cells.
use Rattle.std.proofs.Common.{◌≡◌, ◌∙◌, ◌+◌, ◌-◌, ℕ, Bool, List, [], ◌∷◌, map, Option, Some, None, refl, sym, ap, arith}
use Rattle.std.specs.Prelude.{◌||◌, ◌/◌, count_by, filter, find, not, take, if◌then◌else◌}
use Rattle.std.specs.List.{enumerate_from, last_or, list_any}
use Rattle.std.specs.Option.{option_map, option_map_or}
use Rattle.std.proofs.Math.Path.{fun_ext}
use Rattle.std.proofs.lemmas.List.{take-map}
use Rattle.std.proofs.lemmas.Bool.Decides.{nat_tests}
use Rattle.std.proofs.lemmas.Simd.{map-map}
use Rattle.contest_types.specs.Clock.{is_frozen, moment_after, moment_before, reached}
use Rattle.contest_types.specs.Masks.{knows_all_of, mask_for, verdict_under}
use Rattle.contest_types.specs.Setup.{Setup}
use Rattle.contest_types.specs.Sight.{Judgement, judgement_of, last_on, type_of}
use Rattle.contest_types.specs.State.{ContestState, names, of_release}
use Rattle.contest_types.specs.declared.audience.Audience.{Audience}
use Rattle.contest_types.specs.declared.marks.Marks.{Marks}
use Rattle.contest_types.specs.declared.minute.Minute.{Minute}
use Rattle.contest_types.specs.declared.objects.Group.{Group}
use Rattle.contest_types.specs.declared.objects.Language.{Language}
use Rattle.contest_types.specs.declared.sight.Mask.{Mask}
use Rattle.contest_types.specs.declared.sight.Mask.TheVariants.{Full, Held}
use Rattle.contest_types.specs.declared.submission.Release.{Release}
use Rattle.contest_types.specs.declared.submission.Submission.{Submission}
use Rattle.contest_objects.proofs.CollectionLemmas.{find_mapped}
use Rattle.contest_score.specs.Contest.{board_for, judged_submissions}
use Rattle.contest_score.specs.MaskedCells.{attempt_under, attempts_under, cell_for, cell_under, is_by, start_of, verdict_of}
use Rattle.contest_score.specs.Ranking.{board_rows, is_on_board}
use Rattle.contest_score.specs.Scoring.{cell_of_attempts, counted, counts_at, is_judged, is_penalised, is_pending, is_solving, minute_of}
use Rattle.contest_score.specs.declared.attempt.Attempt.{Attempt}
use Rattle.contest_score.specs.declared.cell.Cell.{Cell}
use Rattle.contest_score.specs.declared.row.Row.{Row}
use Rattle.contest_score.specs.declared.submission.JudgedSubmission.{JudgedSubmission}
use Rattle.contest_score.proofs.BoardAlike.{board_same}
use Rattle.contest_score.proofs.BoardOrder.{count_by_map}
use Rattle.contest_score.proofs.MaskLemmas.{filter_mapped}
use Rattle.contest_replay.specs.ReplayContest.{replay_contest, replay_marks, up_to}
use Rattle.contest_laws.specs.Replays.{ReplaysAreDays, begun_at, with_untold, without_program, without_time}

-- ---- attempts that are later by some time

later : ℕ → Attempt → Attempt
later start t = record { time = start + t.time; verdict = t.verdict }

any_later : (start : ℕ) (ts : List Attempt) → list_any is_solving (map (later start) ts) ≡ list_any is_solving ts
unfolding later
any_later start [] = refl
any_later start (t ∷ ts) = ap (λ b. is_solving t || b) (any_later start ts)

later_at : ℕ → ℕ × Attempt → ℕ × Attempt
later_at start p = (p.0, later start p.1)

enumerate_later : (start n : ℕ) (ts : List Attempt) → enumerate_from n (map (later start) ts) ≡ map (later_at start) (enumerate_from n ts)
unfolding later_at
enumerate_later start n [] = refl
enumerate_later start n (t ∷ ts) = ap (λ ps. (n, later start t) ∷ ps) (enumerate_later start (n + 1) ts)

counts_later : (start : ℕ) (ts : List Attempt) (p : ℕ × Attempt) → counts_at (map (later start) ts) (later_at start p) ≡ counts_at ts p
unfolding later_at
counts_later start ts p = ap (λ us. not (list_any is_solving us)) (take-map (later start) p.0 ts) ∙ ap not (any_later start (take p.0 ts))

counted_later : (start : ℕ) (ts : List Attempt) → counted (map (later start) ts) ≡ map (later start) (counted ts)
unfolding later_at
counted_later start ts =
    let ps = enumerate_from 0 ts in
    let kept : filter (counts_at (map (later start) ts)) (map (later_at start) ps) ≡ map (later_at start) (filter (counts_at ts) ps) =
    filter_mapped (counts_at (map (later start) ts)) (counts_at ts) (later_at start) (counts_later start ts) ps in
    ap (λ qs. map (λ p. p.1) (filter (counts_at (map (later start) ts)) qs)) (enumerate_later start 0 ts)
    ∙ ap (map (λ p. p.1)) kept
    ∙ map-map (λ p. p.1) (later_at start) (filter (counts_at ts) ps)
    ∙ sym (map-map (later start) (λ p. p.1) (filter (counts_at ts) ps))

minute_later : (start time : ℕ) → minute_of start (start + time) ≡ minute_of 0 time
minute_later start time =
    let same : (start + time) - start ≡ time - 0 = omega arith in
    ap (λ (span : ℕ). record { 0 = span / 60000 }) same

solved_later : (start : ℕ) (o : Option Attempt) → option_map (λ (t : Attempt). minute_of start t.time) (option_map (later start) o) ≡ option_map (λ (t : Attempt). minute_of 0 t.time) o
unfolding later
solved_later start None = refl
solved_later start (Some t) = ap Some (minute_later start t.time)

cell_by : (start : ℕ) → List Attempt → Cell
cell_by start ts = record {
  judged = count_by is_judged ts;
  pending = count_by is_pending ts;
  solved = option_map (λ (t : Attempt). minute_of start t.time) (find is_solving ts);
  penalties = count_by is_penalised ts;
}

cell_parts : (judged pending penalties : ℕ) → Option Minute → Cell
cell_parts judged pending penalties solved = record { judged = judged; pending = pending; solved = solved; penalties = penalties }

cell_later : (start : ℕ) (ts : List Attempt) → cell_of_attempts start (map (later start) ts) ≡ cell_of_attempts 0 ts
unfolding later cell_by cell_parts
cell_later start ts =
    let cs = counted ts in
    ap (cell_by start) (counted_later start ts)
    ∙ ap (λ n. cell_parts n (count_by is_pending (map (later start) cs)) (count_by is_penalised (map (later start) cs)) (option_map (λ (t : Attempt). minute_of start t.time) (find is_solving (map (later start) cs)))) (count_by_map is_judged (later start) cs)
    ∙ ap (λ n. cell_parts (count_by is_judged cs) n (count_by is_penalised (map (later start) cs)) (option_map (λ (t : Attempt). minute_of start t.time) (find is_solving (map (later start) cs)))) (count_by_map is_pending (later start) cs)
    ∙ ap (λ n. cell_parts (count_by is_judged cs) (count_by is_pending cs) n (option_map (λ (t : Attempt). minute_of start t.time) (find is_solving (map (later start) cs)))) (count_by_map is_penalised (later start) cs)
    ∙ ap (cell_parts (count_by is_judged cs) (count_by is_pending cs) (count_by is_penalised cs)) (ap (option_map (λ (t : Attempt). minute_of start t.time)) (find_mapped is_solving (later start) cs) ∙ solved_later start (find is_solving cs))

-- ---- what is seen of them

-- a submission that is later by some time
moved : ℕ → JudgedSubmission → JudgedSubmission
moved start u = record { team = u.team; problem = u.problem; time = start + u.time; verdict = u.verdict }

frozen_later : (start duration time : ℕ) (freeze : Option ℕ) → reached (moment_before (Some (start + duration)) freeze) (start + time) ≡ reached (moment_before (Some (0 + duration)) freeze) time
frozen_later start duration time None = refl
frozen_later start duration time (Some freeze) = grind (arith, nat_tests)

frozen_same : (s : Setup) (start time : ℕ) (m w : Marks) → m.start ≡ Some start → w.start ≡ Some 0 → is_frozen s m (start + time) ≡ is_frozen s w time
frozen_same s start time m w here first =
    ap (λ o. reached (moment_before (moment_after o s.head.duration) s.head.freeze) (start + time)) here
    ∙ frozen_later start s.head.duration time s.head.freeze
    ∙ sym (ap (λ o. reached (moment_before (moment_after o s.head.duration) s.head.freeze) time) first)

verdict_same : (mask : Mask) (s : Setup) (start time : ℕ) (m w : Marks) (v : Option ℕ) → m.start ≡ Some start → w.start ≡ Some 0 → verdict_under mask s m (start + time) v ≡ verdict_under mask s w time v
verdict_same Full s start time m w v here first = refl
verdict_same Held s start time m w v here first = ap (λ b. if b then None else v) (frozen_same s start time m w here first)

attempts_later : (mask : Mask) (s : Setup) (start : ℕ) (m w : Marks) (us : List JudgedSubmission) (team problem : ℕ) → m.start ≡ Some start → w.start ≡ Some 0
    → attempts_under mask s m (map (moved start) us) team problem ≡ map (later start) (attempts_under mask s w us team problem)
unfolding moved later
attempts_later mask s start m w us team problem here first =
    let own = filter (is_by team problem) us in
    let one : (u : JudgedSubmission) → attempt_under mask s m (moved start u) ≡ later start (attempt_under mask s w u) = λ u.
    ap (λ (v : Option ℕ). record { time = start + u.time; verdict = verdict_of s.types v }) (verdict_same mask s start u.time m w u.verdict here first) in
    ap (map (attempt_under mask s m)) (filter_mapped (is_by team problem) (is_by team problem) (moved start) (λ u. refl) us)
    ∙ map-map (attempt_under mask s m) (moved start) own
    ∙ ap (λ (f : JudgedSubmission → Attempt). map f own) (fun_ext one)
    ∙ sym (map-map (later start) (attempt_under mask s w) own)

thawed_later : (start now : ℕ) (thaw : Option ℕ) → reached (option_map (λ thaw. start + thaw) thaw) (start + now) ≡ reached thaw now
thawed_later start now None = refl
thawed_later start now (Some thaw) = grind (arith, nat_tests)

mask_same : (a : Audience) (start now team : ℕ) (m w : Marks) → m.thaw ≡ option_map (λ thaw. start + thaw) w.thaw → mask_for a m (start + now) team ≡ mask_for a w now team
mask_same a start now team m w thaw = ap (λ b. if knows_all_of a team || b then Full else Held) (ap (λ o. reached o (start + now)) thaw ∙ thawed_later start now w.thaw)

cells_later : (a : Audience) (s : Setup) (start now : ℕ) (m w : Marks) (us : List JudgedSubmission) (team problem : ℕ) → m.start ≡ Some start → w.start ≡ Some 0 → m.thaw ≡ option_map (λ thaw. start + thaw) w.thaw
    → cell_for a s m (start + now) (map (moved start) us) team problem ≡ cell_for a s w now us team problem
cells_later a s start now m w us team problem here first thaw =
    let mask = mask_for a w now team in
    ap (λ seen. cell_under seen s m (map (moved start) us) team problem) (mask_same a start now team m w thaw)
    ∙ ap (cell_of_attempts (start_of m)) (attempts_later mask s start m w us team problem here first)
    ∙ ap (λ o. cell_of_attempts (option_map_or (λ start. start) o 0) (map (later start) (attempts_under mask s w us team problem))) here
    ∙ cell_later start (attempts_under mask s w us team problem)
    ∙ sym (ap (λ o. cell_of_attempts (option_map_or (λ start. start) o 0) (attempts_under mask s w us team problem)) first)

-- ---- the submissions of a day, with their verdicts

last_type : (o q : Option Judgement) (vs : List Release) → type_of o ≡ type_of q → type_of (last_or o (map (λ v. judgement_of (without_time v)) vs)) ≡ type_of (last_or q (map judgement_of vs))
last_type o q [] same = same
last_type o q (v ∷ vs) same = last_type (Some (judgement_of (without_time v))) (Some (judgement_of v)) vs refl

verdict_on : List Release → (team number : ℕ) → Option ℕ
verdict_on vs team number = type_of (last_on vs team number)

untimed_verdict : (vs : List Release) (team number : ℕ) → verdict_on (map without_time vs) team number ≡ verdict_on vs team number
unfolding verdict_on
untimed_verdict vs team number =
    let test : Release → Bool = λ v. names team number (of_release v) in
    ap (λ rs. type_of (last_or None (map judgement_of rs))) (filter_mapped test test without_time (λ v. refl) vs)
    ∙ ap (λ js. type_of (last_or None js)) (map-map judgement_of without_time (filter test vs))
    ∙ last_type None None (filter test vs) refl

judged_by : List Release → Submission → JudgedSubmission
judged_by vs s = record { team = s.team; problem = s.problem; time = s.time; verdict = verdict_on vs s.team s.number }

judged_are : (x : ContestState) → judged_submissions x ≡ map (judged_by x.releases) x.submissions
unfolding judged_by verdict_on
judged_are x = refl

same_verdicts : (vs rs : List Release) → map without_time vs ≡ map without_time rs → judged_by vs ≡ judged_by rs
unfolding judged_by
same_verdicts vs rs same = fun_ext (λ s. ap (λ (v : Option ℕ). record { team = s.team; problem = s.problem; time = s.time; verdict = v })
    (sym (untimed_verdict vs s.team s.number) ∙ ap (λ l. verdict_on l s.team s.number) same ∙ untimed_verdict rs s.team s.number))

judged_moved : (start : ℕ) (r y : ContestState) → map without_program y.submissions ≡ map (begun_at start) r.submissions → map without_time y.releases ≡ map without_time r.releases
    → judged_submissions y ≡ map (moved start) (judged_submissions r)
unfolding judged_by moved
judged_moved start r y submissions releases =
    judged_are y
    ∙ sym (map-map (judged_by y.releases) without_program y.submissions)
    ∙ ap (map (judged_by y.releases)) submissions
    ∙ ap (λ (f : Submission → JudgedSubmission). map f (map (begun_at start) r.submissions)) (same_verdicts y.releases r.releases releases)
    ∙ map-map (judged_by r.releases) (begun_at start) r.submissions
    ∙ sym (map-map (moved start) (judged_by r.releases) r.submissions)
    ∙ sym (ap (map (moved start)) (judged_are r))

-- ---- the boards

rows_by : Audience → (now : ℕ) → Setup → Marks → List JudgedSubmission → List Row
rows_by a now s m us = board_rows s (is_on_board s None) (cell_for a s m now us)

rows_are : (a : Audience) (now : ℕ) (x : ContestState) → board_for a now None x ≡ rows_by a now x.fixed.settings x.fixed.marks (judged_submissions x)
unfolding rows_by
rows_are a now x = refl

untold_cell : (mask : Mask) (s : Setup) (languages : List Language) (groups : List Group) (m : Marks) (us : List JudgedSubmission) (team problem : ℕ)
    → cell_under mask (with_untold s languages groups) m us team problem ≡ cell_under mask s m us team problem
untold_cell Full s languages groups m us team problem = refl
untold_cell Held s languages groups m us team problem = refl

untold_cells : (a : Audience) (now : ℕ) (s : Setup) (languages : List Language) (groups : List Group) (m : Marks) (us : List JudgedSubmission) → cell_for a (with_untold s languages groups) m now us ≡ cell_for a s m now us
untold_cells a now s languages groups m us = fun_ext (λ team. fun_ext (λ problem. untold_cell (mask_for a m now team) s languages groups m us team problem))

untold_board : (s : Setup) (languages : List Language) (groups : List Group) (cells : ℕ → ℕ → Cell) → board_rows (with_untold s languages groups) (is_on_board (with_untold s languages groups) None) cells ≡ board_rows s (is_on_board s None) cells
untold_board s languages groups cells = refl

untold_rows : (a : Audience) (now : ℕ) (s : Setup) (languages : List Language) (groups : List Group) (m : Marks) (us : List JudgedSubmission) → rows_by a now (with_untold s languages groups) m us ≡ rows_by a now s m us
unfolding rows_by
untold_rows a now s languages groups m us =
    ap (board_rows (with_untold s languages groups) (is_on_board (with_untold s languages groups) None)) (untold_cells a now s languages groups m us)
    ∙ untold_board s languages groups (cell_for a s m now us)

rows_later : (a : Audience) (start now : ℕ) (s : Setup) (m w : Marks) (us : List JudgedSubmission) → m.start ≡ Some start → w.start ≡ Some 0 → m.thaw ≡ option_map (λ thaw. start + thaw) w.thaw
    → rows_by a (start + now) s m (map (moved start) us) ≡ rows_by a now s w us
unfolding rows_by
rows_later a start now s m w us here first thaw =
    board_same s (is_on_board s None) (cell_for a s m (start + now) (map (moved start) us)) (cell_for a s w now us) (λ team problem shown. cells_later a s start now m w us team problem here first thaw)

pub replays_are_days : ReplaysAreDays
replays_are_days start now s thaw us y day a =
    let r = replay_contest s (replay_marks thaw) (up_to now us) in
    rows_are a (start + now) y
    ∙ ap (λ t. rows_by a (start + now) t y.fixed.marks (judged_submissions y)) day.settings
    ∙ untold_rows a (start + now) s y.fixed.settings.languages y.fixed.settings.groups y.fixed.marks (judged_submissions y)
    ∙ ap (rows_by a (start + now) s y.fixed.marks) (judged_moved start r y day.submissions day.releases)
    ∙ rows_later a start now s y.fixed.marks (replay_marks thaw) (judged_submissions r) day.starts refl day.thaws
    ∙ sym (rows_are a now r)
