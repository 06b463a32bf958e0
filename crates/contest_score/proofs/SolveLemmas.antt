-- When each team first solved each problem, found in one pass; and the solves that are made of it.
use Rattle.std.proofs.Common.{◌≡◌, ◌<◌, ◌+◌, ◌∙◌, ℕ, Bool, true, false, cond, List, [], ◌∷◌, ◌++◌, append-nil, append_assoc, length, map, take, get_or, filter, Option, Some, None, refl, sym, ap}
use Rattle.std.specs.Prelude.{◌==◌, find, is_some, if◌then◌else◌}
use Rattle.std.specs.List.{cons_option, filter_map, flat_map, range_with_len}
use Rattle.std.specs.Option.{option_map, option_or}
use Rattle.std.proofs.Math.Path.{fun_ext}
use Rattle.std.proofs.lemmas.Bool.{false≢true, eqb-true, and_parts}
use Rattle.std.proofs.lemmas.Grind.{flat_map-append}
use Rattle.std.proofs.lemmas.List.{map-append, take_more}
use Rattle.std.proofs.lemmas.List.Elements.{filter-append, filter_map-append}
use Rattle.std.proofs.lemmas.List.Folds.{find-append}
use Rattle.contest_types.specs.Loads.{without_file}
use Rattle.contest_types.specs.Setup.{Setup}
use Rattle.contest_types.specs.State.{ContestState, FixedPart}
use Rattle.contest_types.specs.declared.marks.Marks.{Marks}
use Rattle.contest_types.specs.declared.sight.Mask.TheVariants.{Full}
use Rattle.contest_types.specs.declared.submission.Submission.{Submission}
use Rattle.contest_types.specs.declared.submission.Release.{Release}
use Rattle.contest_types.proofs.Placed.{range_next}
use Rattle.contest_types.proofs.SightLemmas.{flat_map_same}
use Rattle.contest_score.specs.declared.attempt.Attempt.{Attempt}
use Rattle.contest_score.specs.declared.solve.Solve.{Solve}
use Rattle.contest_score.specs.declared.submission.JudgedSubmission.{JudgedSubmission}
use Rattle.contest_score.specs.Contest.{judged_submissions, solve_of, solves_of}
use Rattle.contest_score.specs.LastVerdicts.{judged_by, last_type}
use Rattle.contest_score.specs.MaskedCells.{attempt_under, attempts_under, is_by}
use Rattle.contest_score.specs.Ranking.{is_public, problem_order, shown_teams}
use Rattle.contest_score.specs.Scoring.{is_solving}
use Rattle.contest_score.specs.SolveSteps.{first_time, solve_at, team_solves, timed_with}
use Rattle.contest_score.proofs.ListsLemmas.{files_unread}

or_mapped : {X Y : Type 0} (f : X → Y) (a b : Option X) → option_map f (option_or a b) ≡ option_or (option_map f a) (option_map f b)
or_mapped f None b = refl
or_mapped f (Some x) b = refl

or_none : {X : Type 0} (o : Option X) → option_or o None ≡ o
or_none None = refl
or_none (Some x) = refl

-- the first time of more submissions is that of the earlier ones, if there is one
time_more : (s : Setup) (marks : Marks) (us : List JudgedSubmission) (u : JudgedSubmission) (team problem : ℕ)
    → first_time s marks (us ++ u ∷ []) team problem ≡ option_or (first_time s marks us team problem) (first_time s marks (u ∷ []) team problem)
time_more s marks us u team problem =
    let attempt = attempt_under Full s marks in
    let by : List JudgedSubmission → List JudgedSubmission = filter (is_by team problem) in
    let split : attempts_under Full s marks (us ++ u ∷ []) team problem ≡ attempts_under Full s marks us team problem ++ attempts_under Full s marks (u ∷ []) team problem =
    ap (map attempt) (filter-append (is_by team problem) us (u ∷ [])) ∙ map-append attempt (by us) (by (u ∷ [])) in
    let time : Attempt → ℕ = λ t. t.time in
    ap (λ ts. option_map time (find is_solving ts)) split
    ∙ ap (option_map time) (find-append is_solving (map attempt (by us)) (map attempt (by (u ∷ []))))
    ∙ or_mapped time (find is_solving (map attempt (by us))) (find is_solving (map attempt (by (u ∷ []))))

one_solves : (s : Setup) (marks : Marks) (u : JudgedSubmission) (team problem : ℕ) → is_solving (attempt_under Full s marks u) ≡ true → first_time s marks (u ∷ []) team problem ≡ (if is_by team problem u then Some u.time else None)
one_solves s marks u team problem h =
    let go : (b : Bool) → option_map (λ (t : Attempt). t.time) (find is_solving (map (attempt_under Full s marks) (cond b (u ∷ []) []))) ≡ (if b then Some u.time else None) = elim [
      | true ↦ rw h refl
      | false ↦ refl
    ] in
    go (is_by team problem u)

one_fails : (s : Setup) (marks : Marks) (u : JudgedSubmission) (team problem : ℕ) → is_solving (attempt_under Full s marks u) ≡ false → first_time s marks (u ∷ []) team problem ≡ None
one_fails s marks u team problem h =
    let go : (b : Bool) → option_map (λ (t : Attempt). t.time) (find is_solving (map (attempt_under Full s marks) (cond b (u ∷ []) []))) ≡ None = elim [
      | true ↦ rw h refl
      | false ↦ refl
    ] in
    go (is_by team problem u)

-- the next submission of a list, where it solves its problem
pub next_time : (s : Setup) (marks : Marks) (us : List JudgedSubmission) (i : ℕ) (u : JudgedSubmission) (f g : ℕ → ℕ → Option ℕ) → i < length us → u ≡ get_or us i u → is_solving (attempt_under Full s marks u) ≡ true
    → ((team problem : ℕ) → f team problem ≡ first_time s marks (take i us) team problem) → ((team problem : ℕ) → g team problem ≡ timed_with f u team problem)
    → (team problem : ℕ) → g team problem ≡ first_time s marks (take (i + 1) us) team problem
next_time s marks us i u f g l e solving before after team problem =
    let grown : take (i + 1) us ≡ take i us ++ u ∷ [] = rw (← e) at (take_more us i u l) in
    let more = time_more s marks (take i us) u team problem ∙ ap (option_or (first_time s marks (take i us) team problem)) (one_solves s marks u team problem solving) in
    after team problem ∙ (ap (λ o. option_or o (if is_by team problem u then Some u.time else None)) (before team problem)
    ∙ (rw grown (sym more)))

-- and where it doesn't
pub same_time : (s : Setup) (marks : Marks) (us : List JudgedSubmission) (i : ℕ) (u : JudgedSubmission) (f : ℕ → ℕ → Option ℕ) → i < length us → u ≡ get_or us i u → is_solving (attempt_under Full s marks u) ≡ false
    → ((team problem : ℕ) → f team problem ≡ first_time s marks (take i us) team problem)
    → (team problem : ℕ) → f team problem ≡ first_time s marks (take (i + 1) us) team problem
same_time s marks us i u f l e fails before team problem =
    let grown : take (i + 1) us ≡ take i us ++ u ∷ [] = rw (← e) at (take_more us i u l) in
    let more = time_more s marks (take i us) u team problem ∙ (ap (option_or (first_time s marks (take i us) team problem)) (one_fails s marks u team problem fails) ∙ or_none _) in
    before team problem ∙ (rw grown (sym more))

-- what a submission's own team and problem have
own_time : (f : ℕ → ℕ → Option ℕ) (u : JudgedSubmission) (team problem : ℕ) → is_by team problem u ≡ true → f u.team u.problem ≡ f team problem
own_time f u team problem h =
    let parts = and_parts (u.team == team) (u.problem == problem) h in
    ap (λ t. f t u.problem) (eqb-true u.team team parts.0) ∙ ap (f team) (eqb-true u.problem problem parts.1)

-- where there is none the next one is put
pub time_put : (f g : ℕ → ℕ → Option ℕ) (u : JudgedSubmission) → is_some (f u.team u.problem) ≡ false → ((team problem : ℕ) → g team problem ≡ (if is_by team problem u then Some u.time else f team problem))
    → (team problem : ℕ) → g team problem ≡ timed_with f u team problem
time_put f g u h put team problem =
    let go : (o : Option ℕ) (b : Bool) → (b ≡ true → is_some o ≡ false) → (if b then Some u.time else o) ≡ option_or o (if b then Some u.time else None) = elim [
      | (Some t) ↦ elim [ true ↦ λ k. absurd (false≢true (sym (k refl))) | false ↦ λ k. refl ]
      | None ↦ elim [ true ↦ λ k. refl | false ↦ λ k. refl ]
    ] in
    put team problem ∙ go (f team problem) (is_by team problem u) (λ k. ap is_some (sym (own_time f u team problem k)) ∙ h)

-- the next place of a list
pub next_pushed : {X Y : Type 0} (f : X → Option Y) (xs : List X) (i : ℕ) (d : X) (first before after : List Y) (o : Option Y) → i < length xs → before ≡ first ++ filter_map f (take i xs)
    → o ≡ f (get_or xs i d) → after ≡ before ++ cons_option o [] → after ≡ first ++ filter_map f (take (i + 1) xs)
next_pushed f xs i d first before after o l was one more =
    let x = get_or xs i d in
    let grown = ap (filter_map f) (take_more xs i d l) ∙ filter_map-append f (take i xs) (x ∷ []) in
    more ∙ (rw (was, one) (append_assoc first (filter_map f (take i xs)) (cons_option (f x) []) ∙ ap (λ ys. first ++ ys) (sym grown)))

-- the next place of a range that passes, and one that doesn't
places_more : {X : Type 0} (F : ℕ → List X) (p : ℕ → Bool) (n : ℕ) (b : Bool) → p n ≡ b → flat_map F (filter p (range_with_len 0 (n + 1))) ≡ flat_map F (filter p (range_with_len 0 n)) ++ flat_map F (cond b (n ∷ []) [])
places_more F p n b h =
    ap (λ xs. flat_map F (filter p xs)) (range_next n)
    ∙ (ap (flat_map F) (filter-append p (range_with_len 0 n) (n ∷ []) ∙ (rw h refl)) ∙ flat_map-append F (filter p (range_with_len 0 n)) (cond b (n ∷ []) []))

pub place_more : {X : Type 0} (F : ℕ → List X) (p : ℕ → Bool) (n : ℕ) → p n ≡ true → flat_map F (filter p (range_with_len 0 (n + 1))) ≡ flat_map F (filter p (range_with_len 0 n)) ++ F n
place_more F p n h = places_more F p n true h ∙ ap (λ xs. flat_map F (filter p (range_with_len 0 n)) ++ xs) (append-nil (F n))

pub place_past : {X : Type 0} (F : ℕ → List X) (p : ℕ → Bool) (n : ℕ) → p n ≡ false → flat_map F (filter p (range_with_len 0 (n + 1))) ≡ flat_map F (filter p (range_with_len 0 n))
place_past F p n h = places_more F p n false h ∙ append-nil _

-- the solve of a first time
abbrev made : (team problem time : ℕ) → Solve
made team problem time = record { team = team; problem = problem; time = time }

made_same : (team problem : ℕ) (o : Option Attempt) → option_map (made team problem) (option_map (λ (t : Attempt). t.time) o) ≡ option_map (λ (t : Attempt). made team problem t.time) o
made_same team problem None = refl
made_same team problem (Some t) = refl

-- the first times of a contest make its solves
solves_made : (x : ContestState) (f : ℕ → ℕ → Option ℕ) → ((team problem : ℕ) → f team problem ≡ first_time x.fixed.settings x.fixed.marks (judged_submissions x) team problem)
    → flat_map (team_solves f (problem_order x.fixed.settings)) (shown_teams x.fixed.settings (is_public x.fixed.settings)) ≡ solves_of x
solves_made x f h =
    let s = x.fixed.settings in
    let one : (team problem : ℕ) → solve_at f team problem ≡ solve_of x team problem =
    λ team problem. ap (option_map (made team problem)) (h team problem) ∙ made_same team problem (find is_solving (attempts_under Full s x.fixed.marks (judged_submissions x) team problem)) in
    flat_map_same (team_solves f (problem_order s)) (λ team. filter_map (solve_of x team) (problem_order s)) (λ team. ap (λ g. filter_map g (problem_order s)) (fun_ext (one team))) (shown_teams s (is_public s))

-- and so do those of its lists, from which files are left out
pub solves_of_loads : (x : ContestState) (fixed : FixedPart) (submissions : List Submission) (releases : List Release) (us : List JudgedSubmission) (f : ℕ → ℕ → Option ℕ) (order : List ℕ)
    → us ≡ map (judged_by (last_type releases)) submissions → ((team problem : ℕ) → f team problem ≡ first_time fixed.settings fixed.marks us team problem) → order ≡ problem_order fixed.settings
    → x.fixed ≡ fixed → map without_file x.submissions ≡ submissions → x.releases ≡ releases
    → flat_map (team_solves f order) (shown_teams fixed.settings (is_public fixed.settings)) ≡ solves_of x
solves_of_loads x fixed submissions releases us f order h times ordered fix sent released =
    let judged : us ≡ judged_submissions x = h ∙ (rw (← sent, ← released) (files_unread (last_type x.releases) x.submissions)) in
    rw (ordered, ← fix) (solves_made x f (λ team problem. times team problem ∙ (rw (judged, ← fix) refl)))
