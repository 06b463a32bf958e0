-- What an id names stays.
use Rattle.std.proofs.Common.{arith, ◌≡◌, ◌∙◌, ◌<◌, ℕ, Bool, true, false, List, [], ◌∷◌, Option, Some, None, length, inl, refl, sym, ap, subst}
use Rattle.std.specs.Prelude.{◌&&◌, ◌||◌, not, nat_le, nat_lt, if◌then◌else◌}
use Rattle.std.specs.Option.{option_and_then, option_map, option_map_or}
use Rattle.std.proofs.lemmas.Bool.{ltb-true}
use Rattle.serde_json.specs.Data.{Data, object, string}
use Rattle.contest_types.specs.Clock.{end_of, reached}
use Rattle.contest_types.specs.VisibleIds.{submission_id}
use Rattle.contest_types.specs.Masks.{knows_all_of}
use Rattle.contest_types.specs.MomentText.{moment_text}
use Rattle.std.specs.List.{list_all}
use Rattle.contest_types.specs.Order.{Has}
use Rattle.contest_types.specs.ProblemPlaces.{problem_id_at}
use Rattle.contest_types.specs.SettingsNames.{language_id_at}
use Rattle.contest_types.specs.Series.{in_each}
use Rattle.contest_types.specs.Sight.{Program, program_for, seen_submission, sees_submission}
use Rattle.contest_types.specs.State.{ContestState, FixedPart}
use Rattle.contest_types.specs.TeamPlaces.{team_id_at}
use Rattle.contest_types.specs.Valid.{is_valid}
use Rattle.contest_types.specs.ValidSubmissions.{are_valid_submissions, is_valid_submission, of_one_team}
use Rattle.contest_types.specs.declared.audience.Audience.{Audience}
use Rattle.contest_types.specs.declared.limits.TheConstants.{POSTED_FILE}
use Rattle.contest_types.specs.declared.objects.Language.{Language}
use Rattle.contest_types.specs.declared.objects.Problem.{Problem}
use Rattle.contest_types.specs.declared.objects.Team.{Team}
use Rattle.contest_types.specs.declared.submission.Submission.{Submission}
use Rattle.contest_types.proofs.GrownSettings.{at_front}
use Rattle.contest_types.proofs.InOrderLemmas.{has_front}
use Rattle.contest_types.proofs.PlaceLemmas.{and_left, and_right}
use Rattle.contest_types.proofs.SeenWhole.{all_has}
use Rattle.contest_types.proofs.ValidParts.{parts}
use Rattle.contest_objects.specs.Times.{contest_time_data}
use Rattle.contest_objects.specs.Objects.{files_data, submission_members, submission_object}
use Rattle.contest_view.proofs.ReadLaws.{seen_is_found}
use Rattle.contest_operations.specs.Growing.{Grows, IsFront}
use Rattle.contest_operations.proofs.Fronts.{Extends, extends, team_stays}
use Rattle.contest_desk.specs.Runs.{IsRun}
use Rattle.contest_desk.specs.declared.item.Answer.{Answer}
use Rattle.contest_desk.specs.declared.item.Item.{Item}
use Rattle.contest_desk.proofs.ItemLemmas.{items_keep_valid}
use Rattle.contest_desk.proofs.RepeatLemmas.{runs_grow}
use Rattle.contest_laws.specs.Ids.{SubmissionIdsStay}
use Rattle.contest_laws.proofs.RunKeeps.{run_keeps}

pub still_valid : (x y : ContestState) (items : List Item) (answers : List Answer) → is_valid x ≡ true → IsRun x items answers y → is_valid y ≡ true
still_valid x y items answers valid run = run_keeps (λ z. is_valid z ≡ true) (λ i. Unit) (λ z i v u h. items_keep_valid z i v) x items answers y valid (λ i k. tt) valid run

-- the places of a submission that stands
pub record Within (f : FixedPart) (s : Submission) : Type 0 where
  pub team : s.team < length f.settings.teams
  pub problem : s.problem < length f.settings.problems
  pub language : s.language < length f.settings.languages

pub within : (x : ContestState) (s : Submission) → is_valid x ≡ true → Has x.submissions s → Within x.fixed s
within x s valid there =
    let f = x.fixed in
    let t = nat_lt s.team (length f.settings.teams) in
    let p = nat_lt s.problem (length f.settings.problems) in
    let l = nat_lt s.language (length f.settings.languages) in
    let begun = reached f.marks.start s.time in
    let before = not (reached (end_of f.settings f.marks) s.time) in
    let all = and_left (has_valid_rows x) (in_each of_one_team are_valid_submissions x.submissions) (parts x valid).submissions in
    let one : is_valid_submission f s ≡ true = all_has (is_valid_submission f) x.submissions s all there in
    let places = and_left (t && p && l) begun (and_left (t && p && l && begun) before (and_left (t && p && l && begun && before) (nat_le (length s.file) POSTED_FILE) one)) in
    record {
      team = ltb-true s.team (length f.settings.teams) (and_left t p (and_left (t && p) l places));
      problem = ltb-true s.problem (length f.settings.problems) (and_right t p (and_left (t && p) l places));
      language = ltb-true s.language (length f.settings.languages) (and_right (t && p) l places);
    }
  where
    has_valid_rows : ContestState → Bool
    has_valid_rows z = list_all (is_valid_submission z.fixed) z.submissions

abbrev object_by : (s : Submission) → Option Program → (start : Option ℕ) → (contest language problem team : List ℕ) → Data
object_by s program start contest language problem team =
    object (submission_members (contest_time_data start s.time) (option_map string (option_and_then (λ (p : Program). p.entry_point) program)) (option_map (λ (p : Program). files_data contest (submission_id s.team s.number)) program)
    (submission_id s.team s.number) language problem team (string (moment_text s.time)))

-- its object for an audience stays, and whether the audience sees it
object_stays : (a : Audience) (x y : ContestState) (now later : ℕ) (s : Submission) → Extends x.fixed y.fixed → Within x.fixed s → submission_object y.fixed (seen_submission a later y s) ≡ submission_object x.fixed (seen_submission a now x s)
object_stays a x y now later s h w =
    let f = x.fixed in
    let g = y.fixed in
    let language : language_id_at g.settings s.language ≡ language_id_at f.settings s.language = ap (λ o. option_map_or (λ (k : Language). k.id) o []) (at_front f.settings.languages g.settings.languages s.language h.languages w.language) in
    let problem : problem_id_at g.settings.problems s.problem ≡ problem_id_at f.settings.problems s.problem = ap (λ o. option_map_or (λ (q : Problem). q.id) o []) (at_front f.settings.problems g.settings.problems s.problem h.problems w.problem) in
    let whose : team_id_at g.settings s.team ≡ team_id_at f.settings s.team = team_stays (λ (u : Team). u.id) [] (λ u. refl) f g s.team h w.team in
    λ i. object_by s (program_for a s) (h.start i) (h.id i) (language i) (problem i) (whose i)

pub sight_stays : (a : Audience) (x y : ContestState) (s : Submission) → Extends x.fixed y.fixed → Within x.fixed s → sees_submission a y s ≡ sees_submission a x s
sight_stays a x y s h w = ap (λ b. knows_all_of a s.team || b) (team_stays (λ (t : Team). not t.hidden) false (λ t. refl) x.fixed y.fixed s.team h w.team)

pub some_stand : {X : Type 0} (xs : List X) (x : X) → Has xs x → 0 < length xs
some_stand [] x h = absurd h
some_stand (y ∷ xs) x h = omega arith

pub submission_ids_stay : SubmissionIdsStay
submission_ids_stay a x y items answers now later valid run s there =
    let grows : Grows x y = runs_grow x items answers y valid run in
    let front : IsFront x.submissions y.submissions = grows.submissions in
    let still : Has y.submissions s = subst (λ ss. Has ss s) (sym front.1) (has_front x.submissions front.0 s there) in
    let h = extends x y grows (inl (some_stand x.submissions s there)) in
    let w = within x s valid there in
    seen_is_found a later y (still_valid x y items answers valid run) s still
    ∙ ap (λ b. if b then Some (submission_object y.fixed (seen_submission a later y s)) else None) (sight_stays a x y s h w)
    ∙ ap (λ d. if sees_submission a x s then Some d else None) (object_stays a x y now later s h w)
    ∙ sym (seen_is_found a now x valid s there)
