-- Cells under the two masks.
use Rattle.std.proofs.Common.{◌≡◌, ℕ, Bool, true, false, List, [], ◌∷◌, ◌++◌, map, filter, Option, None, refl, sym, ap, ◌∙◌}
use Rattle.std.specs.Prelude.{◌==◌, ◌&&◌, if◌then◌else◌}
use Rattle.std.proofs.lemmas.Simd.{map-map}
use Rattle.contest_types.specs.Setup.{Setup}
use Rattle.contest_types.specs.Clock.{freeze_of, is_frozen, reached}
use Rattle.contest_types.specs.Masks.{owns, mask_for, verdict_under}
use Rattle.contest_types.specs.State.{ContestState, submissions_of}
use Rattle.contest_types.specs.Sight.{Judgement, type_of, last_judgement, sees_team, seen_judgement, seen_submission, seen_of_team}
use Rattle.contest_types.specs.Alike.{Alike, MayBeHeld}
use Rattle.contest_types.proofs.SightLemmas.{map-filter_same, team_alike}
use Rattle.contest_types.specs.declared.audience.Audience.{Audience}
use Rattle.contest_types.specs.declared.audience.Audience.TheVariants as audience
use Rattle.contest_types.specs.declared.marks.Marks.{Marks}
use Rattle.contest_types.specs.declared.sight.Mask.{Mask}
use Rattle.contest_types.specs.declared.sight.Mask.TheVariants.{Full, Held}
use Rattle.contest_types.specs.declared.objects.JudgementType.{JudgementType}
use Rattle.contest_types.specs.declared.submission.Submission.{Submission}
use Rattle.std.proofs.lemmas.Bool.{eqb-true, false≢true}
use Rattle.contest_score.specs.declared.attempt.Attempt.{Attempt}
use Rattle.contest_score.specs.declared.cell.Cell.{Cell}
use Rattle.contest_score.specs.declared.submission.JudgedSubmission.{JudgedSubmission}
use Rattle.contest_score.specs.Scoring.{is_solving, counted, cell_of_attempts}
use Rattle.contest_score.specs.MaskedCells.{verdict_of, attempt_under, is_by, attempts_under, start_of, cell_under}
use Rattle.contest_score.specs.Contest.{judged_submission, judged_submissions, contest_cell, seen_cell}
use Rattle.contest_score.specs.Laws.{WhatCounts, with_freeze, without_frozen}
use Rattle.contest_score.specs.ScoringLaws.{seen_attempt}
use Rattle.contest_score.proofs.Counted.{until_solved, counted-until, until_solved-append, counted_past}
use Rattle.contest_types.proofs.PlaceLemmas.{and_left}
use Rattle.contest_types.proofs.Filters.{filter_both}

after_it : (a : Attempt) (later : List Attempt) (b : Bool) → (if b then [] else until_solved later) ≡ (if b then [] else counted later)
after_it a later true = refl
after_it a later false = sym (counted-until later)

pub what_counts : (earlier : List Attempt) (a : Attempt) (later : List Attempt) → WhatCounts earlier a later
what_counts earlier a later = record {
  yet = λ h. counted-until (earlier ++ a ∷ later) ∙ (until_solved-append earlier (a ∷ later) h ∙ ap (λ r. earlier ++ a ∷ r) (after_it a later (is_solving a)));
  past = λ h. counted_past earlier (a ∷ later) h;
}

full_for_own : (a : Audience) (marks : Marks) (now team : ℕ) → owns a team ≡ true → mask_for a marks now team ≡ Full
full_for_own audience.Public marks now team o = absurd (false≢true o)
full_for_own (audience.Team number) marks now team o = rw o refl
full_for_own audience.Jury marks now team o = absurd (false≢true o)

pub own_cell : (a : Audience) (now : ℕ) (x : ContestState) (freeze : Option ℕ) (team problem : ℕ) → owns a team ≡ true → seen_cell a now (with_freeze x freeze) team problem ≡ contest_cell Full x team problem
own_cell a now x freeze team problem o = rw (full_for_own a x.fixed.marks now team o) refl

pub never_frozen : (s : Setup) (marks : Marks) (time : ℕ) → freeze_of s marks ≡ None → is_frozen s marks time ≡ false
never_frozen s marks time h = ap (λ f. reached f time) h

pub map_same : {X Y : Type 0} (f g : X → Y) → ((x : X) → f x ≡ g x) → (xs : List X) → map f xs ≡ map g xs
map_same f g h [] = refl
map_same f g h (x ∷ xs) = rw (h x, map_same f g h xs) refl

pub no_mask : (x : ContestState) (team problem : ℕ) → freeze_of x.fixed.settings x.fixed.marks ≡ None → contest_cell Held x team problem ≡ contest_cell Full x team problem
no_mask x team problem h =
    let s = x.fixed.settings in
    let marks = x.fixed.marks in
    let same : (u : JudgedSubmission) → attempt_under Held s marks u ≡ attempt_under Full s marks u = λ u. rw (never_frozen s marks u.time h) refl in
    ap (cell_of_attempts (start_of marks)) (map_same (attempt_under Held s marks) (attempt_under Full s marks) same (filter (is_by team problem) (judged_submissions x)))

-- what a map keeps the test of
pub filter_mapped : {X Y : Type 0} (p : Y → Bool) (q : X → Bool) (f : X → Y) → ((x : X) → p (f x) ≡ q x) → (xs : List X) → filter p (map f xs) ≡ map f (filter q xs)
filter_mapped p q f h [] = refl
filter_mapped p q f h (x ∷ xs) =
    let rest = filter_mapped p q f h xs in
    let go : (b : Bool) → (if b then f x ∷ filter p (map f xs) else filter p (map f xs)) ≡ map f (if b then x ∷ filter q xs else filter q xs) =
    elim [ true ↦ rw rest refl | false ↦ rest ] in
    rw (h x) (go (q x))

pub held_cell : (s : Setup) (marks : Marks) (us : List JudgedSubmission) (team problem : ℕ) → cell_under Held s marks us team problem ≡ cell_under Full s marks (map (without_frozen s marks) us) team problem
held_cell s marks us team problem =
    let taken : filter (is_by team problem) (map (without_frozen s marks) us) ≡ map (without_frozen s marks) (filter (is_by team problem) us) =
    filter_mapped (is_by team problem) (is_by team problem) (without_frozen s marks) (λ u. refl) us in
    ap (cell_of_attempts (start_of marks))
    (sym (map-map (attempt_under Full s marks) (without_frozen s marks) (filter (is_by team problem) us)) ∙ ap (map (attempt_under Full s marks)) (sym taken))

type_under : (mask : Mask) (s : Setup) (marks : Marks) (time : ℕ) (j : Option Judgement) → verdict_under mask s marks time (type_of j) ≡ type_of (verdict_under mask s marks time j)
type_under Full s marks time j = refl
type_under Held s marks time j =
    let go : (b : Bool) → (if b then None else type_of j) ≡ type_of (if b then None else j) = elim [ true ↦ refl | false ↦ refl ] in
    go (is_frozen s marks time)

attempt_seen : (a : Audience) (now : ℕ) (x : ContestState) (team : ℕ) (s : Submission) → sees_team a x.fixed.settings team ≡ true → s.team ≡ team
    → attempt_under (mask_for a x.fixed.marks now team) x.fixed.settings x.fixed.marks (judged_submission x s) ≡ seen_attempt x.fixed.settings.types (seen_submission a now x s)
attempt_seen a now x team s h e =
    let seen : sees_team a x.fixed.settings s.team ≡ true = rw e h in
    let under : ℕ → Option Judgement = λ t. verdict_under (mask_for a x.fixed.marks now t) x.fixed.settings x.fixed.marks s.time (last_judgement x s) in
    let first : seen_judgement a now x s ≡ under s.team = rw seen refl in
    let same : seen_judgement a now x s ≡ under team = first ∙ ap under e in
    let attempt : Option ℕ → Attempt = λ v. record { time = s.time; verdict = verdict_of x.fixed.settings.types v } in
    ap attempt (type_under (mask_for a x.fixed.marks now team) x.fixed.settings x.fixed.marks s.time (last_judgement x s) ∙ ap type_of (sym same))

-- the attempts of a team follow from what is seen of it
pub attempts_seen : (a : Audience) (now : ℕ) (x : ContestState) (team problem : ℕ) → sees_team a x.fixed.settings team ≡ true
    → attempts_under (mask_for a x.fixed.marks now team) x.fixed.settings x.fixed.marks (judged_submissions x) team problem ≡ map (seen_attempt x.fixed.settings.types) (filter (λ v. v.problem == problem) (seen_of_team a now x team))
attempts_seen a now x team problem h =
    let mask = mask_for a x.fixed.marks now team in
    let under = attempt_under mask x.fixed.settings x.fixed.marks in
    let own = submissions_of team x.submissions in
    let at_problem : Submission → Bool = λ s. s.problem == problem in
    let first : filter (is_by team problem) (judged_submissions x) ≡ map (judged_submission x) (filter at_problem own) =
    filter_mapped (is_by team problem) (λ s. (s.team == team) && (s.problem == problem)) (judged_submission x) (λ s. refl) x.submissions
    ∙ ap (map (judged_submission x)) (filter_both (λ (s : Submission). s.team == team) at_problem x.submissions) in
    let turned : filter at_problem own ≡ filter (λ (s : Submission). (s.team == team) && (s.problem == problem)) x.submissions = sym (filter_both (λ (s : Submission). s.team == team) at_problem x.submissions) in
    let shown : map (λ s. under (judged_submission x s)) (filter at_problem own) ≡ map (λ s. seen_attempt x.fixed.settings.types (seen_submission a now x s)) (filter at_problem own) =
    rw turned (map-filter_same (λ s. under (judged_submission x s)) (λ s. seen_attempt x.fixed.settings.types (seen_submission a now x s)) (λ (s : Submission). (s.team == team) && (s.problem == problem))
    (λ s e. attempt_seen a now x team s h (eqb-true s.team team (and_left _ _ e))) x.submissions) in
    let seen : filter (λ v. v.problem == problem) (map (seen_submission a now x) own) ≡ map (seen_submission a now x) (filter at_problem own) =
    filter_mapped (λ v. v.problem == problem) at_problem (seen_submission a now x) (λ s. refl) own in
    ap (map under) first ∙ map-map under (judged_submission x) (filter at_problem own) ∙ shown
    ∙ sym (map-map (seen_attempt x.fixed.settings.types) (seen_submission a now x) (filter at_problem own))
    ∙ ap (map (seen_attempt x.fixed.settings.types)) (sym (rw h seen))

pub cells_alike : (a : Audience) (now : ℕ) (x y : ContestState) (team problem : ℕ) → MayBeHeld a now x → Alike a x y → sees_team a x.fixed.settings team ≡ true → seen_cell a now x team problem ≡ seen_cell a now y team problem
cells_alike a now x y team problem m h see =
    let see_too : sees_team a y.fixed.settings team ≡ true = rw (← h.fixed) see in
    let from : ContestState → List JudgementType → ℕ → Cell = λ z types start. cell_of_attempts start (map (seen_attempt types) (filter (λ v. v.problem == problem) (seen_of_team a now z team))) in
    let same : from x x.fixed.settings.types (start_of x.fixed.marks) ≡ from y y.fixed.settings.types (start_of y.fixed.marks) =
    ap (λ vs. cell_of_attempts (start_of x.fixed.marks) (map (seen_attempt x.fixed.settings.types) (filter (λ v. v.problem == problem) vs))) (team_alike a now x y team m h)
    ∙ ap (λ f. from y f.settings.types (start_of f.marks)) h.fixed in
    ap (cell_of_attempts (start_of x.fixed.marks)) (attempts_seen a now x team problem see)
    ∙ same ∙ sym (ap (cell_of_attempts (start_of y.fixed.marks)) (attempts_seen a now y team problem see_too))
