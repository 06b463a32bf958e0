-- Until the thaw, alike contests show an audience the same awards.
use Rattle.std.proofs.Common.{◌≡◌, ℕ, Bool, true, false, List, [], ◌∷◌, map, filter, Option, Some, None, refl, sym, ap, ◌∙◌}
use Rattle.std.specs.Prelude.{◌==◌, ◌&&◌, ◌||◌, find, if◌then◌else◌}
use Rattle.std.specs.List.{flat_map, filter_map}
use Rattle.std.specs.Option.{option_map}
use Rattle.std.proofs.Math.Path.{fun_ext}
use Rattle.contest_types.specs.Setup.{Setup}
use Rattle.contest_types.specs.Clock.{freeze_of, is_finalized}
use Rattle.contest_types.specs.TeamPlaces.{team_places, is_public}
use Rattle.contest_types.specs.Masks.{is_jury, mask_for}
use Rattle.contest_types.specs.State.{FixedPart, ContestState}
use Rattle.contest_types.specs.Sight.{sees_team, seen_of_team}
use Rattle.contest_types.specs.Alike.{Alike, MayBeHeld}
use Rattle.contest_types.proofs.SightLemmas.{not_jury, team_alike}
use Rattle.contest_types.specs.declared.audience.Audience.{Audience}
use Rattle.contest_types.specs.declared.audience.Audience.TheVariants.{Jury}
use Rattle.contest_types.specs.declared.sight.Mask.{Mask}
use Rattle.contest_types.specs.declared.sight.Mask.TheVariants.{Full, Held}
use Rattle.contest_types.specs.declared.objects.JudgementType.{JudgementType}
use Rattle.contest_score.specs.declared.attempt.Attempt.{Attempt}
use Rattle.contest_score.specs.declared.solve.Solve.{Solve}
use Rattle.contest_score.specs.declared.submission.JudgedSubmission.{JudgedSubmission}
use Rattle.contest_score.specs.Scoring.{is_solving, cell_of_attempts}
use Rattle.contest_score.specs.Ranking.{board_rows, problem_order}
use Rattle.contest_score.specs.MaskedCells.{attempt_under, attempts_under, is_by, start_of}
use Rattle.contest_score.specs.Contest.{judged_submissions, contest_cell, board_for, solve_of, solves_of}
use Rattle.contest_score.specs.Awards.{Award, awards_of, shows_awards, shown_awards}
use Rattle.contest_score.specs.Results.{holds_nothing}
use Rattle.contest_score.specs.ScoringLaws.{seen_attempt}
use Rattle.contest_score.proofs.MaskLemmas.{map_same, never_frozen, attempts_seen}
use Rattle.contest_score.proofs.BoardAlike.{board_same, seen_of_public}

abbrev pub attempts_of : Mask → ContestState → ℕ → ℕ → List Attempt
attempts_of mask x = attempts_under mask x.fixed.settings x.fixed.marks (judged_submissions x)

-- with no freeze, both masks show the same attempts
pub same_attempts : (mask : Mask) (x : ContestState) (team problem : ℕ) → freeze_of x.fixed.settings x.fixed.marks ≡ None → attempts_of mask x team problem ≡ attempts_of Full x team problem
same_attempts Full x team problem h = refl
same_attempts Held x team problem h =
    let s = x.fixed.settings in
    let marks = x.fixed.marks in
    let same : (u : JudgedSubmission) → attempt_under Held s marks u ≡ attempt_under Full s marks u = λ u. rw (never_frozen s marks u.time h) refl in
    map_same (attempt_under Held s marks) (attempt_under Full s marks) same (filter (is_by team problem) (judged_submissions x))

attempts_alike : (a : Audience) (now : ℕ) (x y : ContestState) (team problem : ℕ) → MayBeHeld a now x → Alike a x y → freeze_of x.fixed.settings x.fixed.marks ≡ None → sees_team a x.fixed.settings team ≡ true → attempts_of Full x team problem ≡ attempts_of Full y team problem
attempts_alike a now x y team problem m h none see =
    let see_too : sees_team a y.fixed.settings team ≡ true = rw (← h.fixed) see in
    let none_too : freeze_of y.fixed.settings y.fixed.marks ≡ None = rw (← h.fixed) none in
    let from : ContestState → List JudgementType → List Attempt = λ z types. map (seen_attempt types) (filter (λ v. v.problem == problem) (seen_of_team a now z team)) in
    let same : from x x.fixed.settings.types ≡ from y y.fixed.settings.types =
    ap (λ vs. map (seen_attempt x.fixed.settings.types) (filter (λ v. v.problem == problem) vs)) (team_alike a now x y team m h)
    ∙ ap (λ (f : FixedPart). from y f.settings.types) h.fixed in
    sym (same_attempts (mask_for a x.fixed.marks now team) x team problem none) ∙ (attempts_seen a now x team problem see ∙ (same ∙ (sym (attempts_seen a now y team problem see_too) ∙ same_attempts (mask_for a y.fixed.marks now team) y team problem none_too)))

pub flat_map_kept : {X Y : Type 0} (kept : X → Bool) (f g : X → List Y) → ((x : X) → kept x ≡ true → f x ≡ g x) → (xs : List X) → flat_map f (filter kept xs) ≡ flat_map g (filter kept xs)
flat_map_kept kept f g h [] = refl
flat_map_kept {X} {Y} kept f g h (x ∷ xs) =
    let rest = flat_map_kept kept f g h xs in
    let go : (b : Bool) → kept x ≡ b → flat_map f (if b then x ∷ filter kept xs else filter kept xs) ≡ flat_map g (if b then x ∷ filter kept xs else filter kept xs) =
    elim [ true ↦ λ e. rw (h x e, rest) refl | false ↦ λ e. rest ] in
    go (kept x) refl

abbrev pub solve_from : ℕ → ℕ → List Attempt → Option Solve
solve_from team problem attempts = option_map (λ (t : Attempt). record { team = team; problem = problem; time = t.time }) (find is_solving attempts)

solves_alike : (a : Audience) (now : ℕ) (x y : ContestState) → MayBeHeld a now x → Alike a x y → freeze_of x.fixed.settings x.fixed.marks ≡ None → solves_of x ≡ solves_of y
solves_alike a now x y m h none =
    let s = x.fixed.settings in
    let one : (u : ℕ) → is_public s u ≡ true → solve_of x u ≡ solve_of y u =
    λ u e. fun_ext (λ p. ap (solve_from u p) (attempts_alike a now x y u p m h none (seen_of_public a s u e))) in
    let list : Setup → List Solve = λ t. flat_map (λ u. filter_map (solve_of y u) (problem_order t)) (filter (is_public t) (team_places t)) in
    flat_map_kept (is_public s) (λ u. filter_map (solve_of x u) (problem_order s)) (λ u. filter_map (solve_of y u) (problem_order s)) (λ u e. ap (λ f. filter_map f (problem_order s)) (one u e)) (team_places s)
    ∙ ap (λ (f : FixedPart). list f.settings) h.fixed

jury_alike : (a : Audience) (now : ℕ) (x y : ContestState) → MayBeHeld a now x → Alike a x y → freeze_of x.fixed.settings x.fixed.marks ≡ None → board_for Jury now None x ≡ board_for Jury now None y
jury_alike a now x y m h none =
    let s = x.fixed.settings in
    let cell : (u p : ℕ) → is_public s u ≡ true → contest_cell Full x u p ≡ contest_cell Full y u p =
    λ u p e. ap (cell_of_attempts (start_of x.fixed.marks)) (attempts_alike a now x y u p m h none (seen_of_public a s u e)) ∙ ap (λ (f : FixedPart). cell_of_attempts (start_of f.marks) (attempts_of Full y u p)) h.fixed in
    board_same s (is_public s) (contest_cell Full x) (contest_cell Full y) cell
    ∙ ap (λ (f : FixedPart). board_rows f.settings (is_public f.settings) (contest_cell Full y)) h.fixed

shows_same : (a : Audience) (now : ℕ) (x y : ContestState) → Alike a x y → shows_awards a now x ≡ shows_awards a now y
shows_same a now x y h = ap (λ (f : FixedPart). is_finalized f.marks now && (is_jury a || holds_nothing f.settings f.marks now)) h.fixed

-- where there is a freeze moment, none are shown before the thaw
shows_none : (a : Audience) (now : ℕ) (x : ContestState) (freeze : ℕ) → MayBeHeld a now x → freeze_of x.fixed.settings x.fixed.marks ≡ Some freeze → shows_awards a now x ≡ false
shows_none a now x freeze m e =
    let go : (b : Bool) → (b && false) ≡ false = elim [ true ↦ refl | false ↦ refl ] in
    rw (not_jury a m.no_jury, e, m.held) (go (is_finalized x.fixed.marks now))

pub awards_alike : (a : Audience) (now : ℕ) (x y : ContestState) → MayBeHeld a now x → Alike a x y → shown_awards a now x ≡ shown_awards a now y
awards_alike a now x y m h =
    let held : (o : Option ℕ) → freeze_of x.fixed.settings x.fixed.marks ≡ o → shown_awards a now x ≡ shown_awards a now y = elim [
      | None ↦ λ none.
          (let board : board_for Jury now None x ≡ board_for Jury now None y = jury_alike a now x y m h none in
          let solves : solves_of x ≡ solves_of y = solves_alike a now x y m h none in
          let same : awards_of x.fixed.settings (board_for Jury now None x) (solves_of x) ≡ awards_of y.fixed.settings (board_for Jury now None y) (solves_of y) =
          ap (λ rows. awards_of x.fixed.settings rows (solves_of x)) board ∙ (ap (awards_of x.fixed.settings (board_for Jury now None y)) solves ∙ ap (λ (f : FixedPart). awards_of f.settings (board_for Jury now None y) (solves_of y)) h.fixed) in
          let pick : Bool → List Award → List Award = λ b w. if b then w else [] in
          let both : pick (shows_awards a now x) (awards_of x.fixed.settings (board_for Jury now None x) (solves_of x)) ≡ pick (shows_awards a now y) (awards_of y.fixed.settings (board_for Jury now None y) (solves_of y)) =
          ap (pick (shows_awards a now x)) same ∙ ap (λ b. pick b (awards_of y.fixed.settings (board_for Jury now None y) (solves_of y))) (shows_same a now x y h) in
          both)
      | (Some freeze) ↦ λ e.
          (let no : shows_awards a now x ≡ false = shows_none a now x freeze m e in
          let no_too : shows_awards a now y ≡ false = sym (shows_same a now x y h) ∙ no in
          let none : (b : Bool) (w : List Award) → b ≡ false → (if b then w else []) ≡ [] = λ b w i. rw i refl in
          none (shows_awards a now x) _ no ∙ sym (none (shows_awards a now y) _ no_too))
    ] in
    held (freeze_of x.fixed.settings x.fixed.marks) refl

-- and none where there is a freeze moment
pub none_held : (a : Audience) (now : ℕ) (x : ContestState) (freeze : ℕ) → MayBeHeld a now x → freeze_of x.fixed.settings x.fixed.marks ≡ Some freeze → shown_awards a now x ≡ []
none_held a now x freeze m e =
    let none : (b : Bool) (w : List Award) → b ≡ false → (if b then w else []) ≡ [] = λ b w i. rw i refl in
    none (shows_awards a now x) (awards_of x.fixed.settings (board_for Jury now None x) (solves_of x)) (shows_none a now x freeze m e)
