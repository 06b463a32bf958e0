-- Who is first to solve a problem.
use Rattle.std.proofs.Common.{◌≡◌, ◌⊎◌, ℕ, ◌<◌, ◌≤◌, Bool, true, false, List, [], ◌∷◌, ◌++◌, length, map, filter, Option, Some, None, refl, sym, ap, ◌∙◌, inl, inr, arith}
use Rattle.std.specs.Prelude.{◌↔◌, ◌==◌, nat_le, nat_lt, find, codes, count_by}
use Rattle.std.specs.List.{filter_map, list_all, list_any}
use Rattle.std.specs.Option.{option_map}
use Rattle.std.proofs.lemmas.Bool.{false≢true, eqb-true, eq-eqb, cases_lt, le-leb, leb-true}
use Rattle.std.proofs.lemmas.Option.{slice_get_past}
use Rattle.contest_types.specs.Setup.{Setup, IsValid}
use Rattle.contest_types.specs.TeamPlaces.{team_places, is_public}
use Rattle.contest_types.specs.Order.{Has}
use Rattle.contest_types.specs.State.{ContestState}
use Rattle.contest_types.specs.declared.audience.Audience.TheVariants.{Jury}
use Rattle.contest_types.specs.declared.sight.Mask.TheVariants.{Full}
use Rattle.contest_types.proofs.SeenWhole.{all_has}
use Rattle.contest_types.proofs.Rising.{find_passes}
use Rattle.contest_types.proofs.InOrderLemmas.{count_more, find_has, option_has, has_front, has_back, flat_has, has_flat, has_map, has_filter, filter_has}
use Rattle.contest_score.specs.declared.attempt.Attempt.{Attempt}
use Rattle.contest_score.specs.declared.cell.Cell.{Cell}
use Rattle.contest_score.specs.declared.row.Row.{Row}
use Rattle.contest_score.specs.declared.solve.Solve.{Solve}
use Rattle.contest_score.specs.Scoring.{is_solving, is_solved}
use Rattle.contest_score.specs.MaskedCells.{start_of}
use Rattle.contest_score.specs.Ranking.{row_of, problem_order, problem_id_at, shown_teams}
use Rattle.contest_score.specs.Contest.{seen_cell, board_for, solve_of, solves_of}
use Rattle.contest_types.specs.ProblemPlaces.{label_at}
use Rattle.contest_score.specs.Awards.{Award, winner, medals, first_solves, first_to_solve, group_winner, group_order, awards_of}
use Rattle.contest_score.specs.AwardLaws.{IsFirst}
use Rattle.contest_score.proofs.LeastOf.{least_of, some_length, is_lt_zero, has_all}
use Rattle.contest_score.proofs.CellSteps.{solved_cell}
use Rattle.contest_score.proofs.AwardsAlike.{attempts_of}
use Rattle.contest_score.proofs.BoardRows.{ranked_teams, ranked, shown_team_has, problem_stands}
use Rattle.contest_score.proofs.MedalTeams.{some_passes, passing, has_solved, award_has, has_the_award}
use Rattle.contest_types.proofs.JudgementLemmas.{some_from}

record GatheredFrom {X Y : Type 0} (F : X → Option Y) (xs : List X) (y : Y) : Type 0 where
  item : X
  there : Has xs item
  gives : F item ≡ Some y

gathered_from : {X Y : Type 0} (F : X → Option Y) (xs : List X) (y : Y) → Has (filter_map F xs) y → GatheredFrom F xs y
gathered_from F [] y h = absurd h
gathered_from {X} {Y} F (x ∷ xs) y h =
    let later : GatheredFrom F xs y → GatheredFrom F (x ∷ xs) y = λ r. record { item = r.item; there = inr r.there; gives = r.gives } in
    elim (option_has (F x) (filter_map F xs) y h) [ inl e ↦ record { item = x; there = inl refl; gives = e } | inr t ↦ later (gathered_from F xs y t) ]

some_counted : {X : Type 0} (p : X → Bool) (xs : List X) (x : X) → Has xs x → p x ≡ true → 0 < count_by p xs
some_counted p [] x h e = absurd h
some_counted {X} p (y ∷ xs) x h e = elim h [
  | inl i ↦ (let t : p y ≡ true = ap p (sym i) ∙ e in rw (count_more p y xs, t) (omega arith))
  | inr k ↦ (let rest = some_counted p xs x k e in omega (arith, count_more p y xs, rest))
]

-- a solve is of its team, at its problem
of_its_own : (team problem : ℕ) (o : Option Attempt) (v : Solve) → option_map (λ (t : Attempt). record { team = team; problem = problem; time = t.time }) o ≡ Some v → (v.team ≡ team) × (v.problem ≡ problem)
of_its_own team problem None v h = absurd (cc h)
of_its_own team problem (Some t) v h =
    let given : Solve = record { team = team; problem = problem; time = t.time } in
    let same : given ≡ v = cc h in
    (sym (ap (λ (w : Solve). w.team) same), sym (ap (λ (w : Solve). w.problem) same))

solve_is : (x : ContestState) (team problem : ℕ) (v : Solve) → solve_of x team problem ≡ Some v → (v.team ≡ team) × (v.problem ≡ problem)
solve_is x team problem v h = of_its_own team problem (find is_solving (attempts_of Full x team problem)) v h

-- the team at a place past all isn't shown
public_within : (s : Setup) (team : ℕ) → is_public s team ≡ true → (team < length s.teams) ⊎ (length s.teams ≤ team) → team < length s.teams
public_within s team h (inl l) = l
public_within s team h (inr l) = (let none : is_public s team ≡ false = rw (slice_get_past s.teams team l) refl in absurd (false≢true (sym none ∙ h)))

shown_has : (s : Setup) (team : ℕ) → is_public s team ≡ true → Has (shown_teams s (is_public s)) team
shown_has s team h = shown_team_has s (is_public s) team (public_within s team h (cases_lt team (length s.teams))) h

solves_have : (x : ContestState) (team problem : ℕ) (v : Solve) → IsValid x.fixed.settings → problem < length x.fixed.settings.problems → is_public x.fixed.settings team ≡ true → solve_of x team problem ≡ Some v → Has (solves_of x) v
solves_have x team problem v valid l shown e =
    let s = x.fixed.settings in
    flat_has (λ u. filter_map (solve_of x u) (problem_order s)) (shown_teams s (is_public s)) team v (shown_has s team shown) (some_from (solve_of x team) (problem_order s) problem v (problem_stands s valid problem l) e)

-- a solve that is listed is of a shown team
record SolvedBy (x : ContestState) (v : Solve) : Type 0 where
  shown : is_public x.fixed.settings v.team ≡ true
  is : solve_of x v.team v.problem ≡ Some v

solved_by : (x : ContestState) (v : Solve) → Has (solves_of x) v → SolvedBy x v
solved_by x v h =
    let s = x.fixed.settings in
    let f = has_flat (λ u. filter_map (solve_of x u) (problem_order s)) (shown_teams s (is_public s)) v h in
    let g = gathered_from (solve_of x f.item) (problem_order s) v f.gives in
    let own = solve_is x f.item g.item v g.gives in
    let shown : is_public s f.item ≡ true = (filter_has (is_public s) (team_places s) f.item f.there).1 in
    record {
      shown = rw own.0 shown;
      is = ap (λ u. solve_of x u v.problem) own.0 ∙ (ap (solve_of x f.item) own.1 ∙ g.gives);
    }

abbrev of_problem : ℕ → List Solve → List Solve
of_problem problem solves = filter (λ (v : Solve). v.problem == problem) solves

-- a first solve, and what is one
record IsFirstSolve (problem : ℕ) (solves : List Solve) (v : Solve) : Type 0 where
  there : Has solves v
  at : v.problem ≡ problem
  first : (w : Solve) → Has solves w → w.problem ≡ problem → v.time ≤ w.time

is_first_solve : (problem : ℕ) (solves : List Solve) (v : Solve) → Has (first_solves problem solves) v → IsFirstSolve problem solves v
is_first_solve problem solves v h =
    let own : Solve → Bool = λ w. w.problem == problem in
    let f = filter_has (λ (u : Solve). list_all (λ (w : Solve). nat_le u.time w.time) (of_problem problem solves)) (of_problem problem solves) v h in
    let g = filter_has own solves v f.0 in
    record {
      there = g.0;
      at = eqb-true v.problem problem g.1;
      first = λ w k e. leb-true v.time w.time (all_has (λ (u : Solve). nat_le v.time u.time) (of_problem problem solves) w f.1 (has_filter own solves w k (eq-eqb w.problem problem e)));
    }

first_solve_has : (problem : ℕ) (solves : List Solve) (v : Solve) → IsFirstSolve problem solves v → Has (first_solves problem solves) v
first_solve_has problem solves v i =
    let own : Solve → Bool = λ w. w.problem == problem in
    has_filter (λ (u : Solve). list_all (λ (w : Solve). nat_le u.time w.time) (of_problem problem solves)) (of_problem problem solves) v
    (has_filter own solves v i.there (eq-eqb v.problem problem i.at))
    (has_all (λ (w : Solve). nat_le v.time w.time) (of_problem problem solves)
    (λ w k. (let g = filter_has own solves w k in le-leb v.time w.time (i.first w g.0 (eqb-true w.problem problem g.1)))))

-- the rows that the award for a problem looks for
abbrev leads : ContestState → ℕ → Row → Bool
leads x problem r = list_any (λ (v : Solve). v.team == r.team) (first_solves problem (solves_of x))

abbrev the_award : ℕ → ContestState → ℕ → Award
the_award now x problem = first_to_solve x.fixed.settings (board_for Jury now None x) (solves_of x) problem

-- the attempt that a solve is
some_solving : (team problem : ℕ) (attempts : List Attempt) (o : Option Attempt) (v : Solve) → find is_solving attempts ≡ o → option_map (λ (t : Attempt). record { team = team; problem = problem; time = t.time }) o ≡ Some v → list_any is_solving attempts ≡ true
some_solving team problem attempts None v f h = absurd (cc h)
some_solving team problem attempts (Some t) v f h = some_passes is_solving attempts t (find_has is_solving attempts t f) (find_passes is_solving attempts t f)

-- a team that solved a problem has a solved cell
cell_solved : (now : ℕ) (x : ContestState) (team problem : ℕ) (v : Solve) → solve_of x team problem ≡ Some v → is_solved (seen_cell Jury now x team problem) ≡ true
cell_solved now x team problem v h =
    let attempts = attempts_of Full x team problem in
    solved_cell (start_of x.fixed.marks) attempts (some_solving team problem attempts (find is_solving attempts) v refl h)

row_solved : (now : ℕ) (x : ContestState) (team problem : ℕ) (v : Solve) → IsValid x.fixed.settings → problem < length x.fixed.settings.problems → solve_of x team problem ≡ Some v
    → has_solved (row_of x.fixed.settings (is_public x.fixed.settings) (seen_cell Jury now x) team) ≡ true
row_solved now x team problem v valid l h =
    let s = x.fixed.settings in
    let cells : ℕ → Cell = seen_cell Jury now x team in
    let some : 0 < count_by is_solved (map cells (problem_order s)) =
    some_counted is_solved (map cells (problem_order s)) (cells problem) (has_map cells (problem_order s) problem (problem_stands s valid problem l)) (cell_solved now x team problem v h) in
    is_lt_zero (count_by is_solved (map cells (problem_order s))) some

given : (now : ℕ) (x : ContestState) (problem team : ℕ) → IsValid x.fixed.settings → problem < length x.fixed.settings.problems → IsFirst x problem team → Has (the_award now x problem).teams team
given now x problem team valid l i =
    let s = x.fixed.settings in
    let cells = seen_cell Jury now x in
    let r : Row = row_of s (is_public s) cells team in
    let there : Has (board_for Jury now None x) r = has_map (row_of s (is_public s) cells) (ranked_teams s (is_public s) cells) team (ranked s valid (is_public s) cells team (shown_has s team i.shown)) in
    let own = solve_is x team problem i.solve i.solved in
    let one : IsFirstSolve problem (solves_of x) i.solve = record {
      there = solves_have x team problem i.solve valid l i.shown i.solved;
      at = own.1;
      first = λ w h e. (let b = solved_by x w h in i.first w.team w b.shown (ap (solve_of x w.team) (sym e) ∙ b.is));
    } in
    let passes : leads x problem r ≡ true = some_passes (λ (v : Solve). v.team == team) (first_solves problem (solves_of x)) i.solve (first_solve_has problem (solves_of x) i.solve one) (eq-eqb i.solve.team team own.0) in
    award_has (codes "first-to-solve-" ++ problem_id_at s.problems problem) (codes "First to solve problem " ++ label_at s problem) (leads x problem) (board_for Jury now None x) r there (row_solved now x team problem i.solve valid l i.solved) passes

is_first : (now : ℕ) (x : ContestState) (problem team : ℕ) → IsValid x.fixed.settings → problem < length x.fixed.settings.problems → Has (the_award now x problem).teams team → IsFirst x problem team
is_first now x problem team valid l h =
    let s = x.fixed.settings in
    let w = has_the_award (codes "first-to-solve-" ++ problem_id_at s.problems problem) (codes "First to solve problem " ++ label_at s problem) (leads x problem) (board_for Jury now None x) team h in
    let p = passing (λ (v : Solve). v.team == w.row.team) (first_solves problem (solves_of x)) w.passes in
    let v = p.item in
    let i = is_first_solve problem (solves_of x) v p.there in
    let b = solved_by x v i.there in
    let same : v.team ≡ team = eqb-true v.team w.row.team p.passes ∙ sym w.is in
    record {
      shown = ap (is_public s) (sym same) ∙ b.shown;
      solve = v;
      solved = ap (λ u. solve_of x u problem) (sym same) ∙ (ap (solve_of x v.team) (sym i.at) ∙ b.is);
      first = λ other u shown e. i.first u (solves_have x other problem u valid l shown e) (solve_is x other problem u e).1;
    }

pub first_award_is_of_the_first : (now : ℕ) (x : ContestState) (problem team : ℕ) → IsValid x.fixed.settings → problem < length x.fixed.settings.problems
    → Has (first_to_solve x.fixed.settings (board_for Jury now None x) (solves_of x) problem).teams team ↔ IsFirst x problem team
first_award_is_of_the_first now x problem team valid l = (is_first now x problem team valid l, given now x problem team valid l)

pub solved_has_a_first : (now : ℕ) (x : ContestState) (problem team : ℕ) (v : Solve) → IsValid x.fixed.settings → problem < length x.fixed.settings.problems
    → is_public x.fixed.settings team ≡ true → solve_of x team problem ≡ Some v
    → Has (awards_of x.fixed.settings (board_for Jury now None x) (solves_of x)) (first_to_solve x.fixed.settings (board_for Jury now None x) (solves_of x) problem)
solved_has_a_first now x problem team v valid l shown e =
    let s = x.fixed.settings in
    let rows = board_for Jury now None x in
    let own : Solve → Bool = λ w. w.problem == problem in
    let at_problem : Has (of_problem problem (solves_of x)) v = has_filter own (solves_of x) v (solves_have x team problem v valid l shown e) (eq-eqb v.problem problem (solve_is x team problem v e).1) in
    let r = least_of (λ (w : Solve). w.time) (of_problem problem (solves_of x)) v at_problem in
    let f = filter_has own (solves_of x) r.item r.there in
    let b = solved_by x r.item f.0 in
    let one : IsFirst x problem r.item.team = record {
      shown = b.shown;
      solve = r.item;
      solved = ap (solve_of x r.item.team) (sym (eqb-true r.item.problem problem f.1)) ∙ b.is;
      first = λ other w k i. r.least w (has_filter own (solves_of x) w (solves_have x other problem w valid l k i) (eq-eqb w.problem problem (solve_is x other problem w i).1));
    } in
    let many : 0 < length (the_award now x problem).teams = some_length (the_award now x problem).teams r.item.team (given now x problem r.item.team valid l one) in
    let mapped : Has (map (first_to_solve s rows (solves_of x)) (problem_order s)) (the_award now x problem) = has_map (first_to_solve s rows (solves_of x)) (problem_order s) problem (problem_stands s valid problem l) in
    let groups = map (group_winner s rows) (group_order s) in
    has_filter (λ (w : Award). nat_lt 0 (length w.teams)) (winner rows ∷ medals s rows ++ map (first_to_solve s rows (solves_of x)) (problem_order s) ++ groups) (the_award now x problem)
    (inr (has_back (medals s rows) (map (first_to_solve s rows (solves_of x)) (problem_order s) ++ groups) (the_award now x problem)
    (has_front (map (first_to_solve s rows (solves_of x)) (problem_order s)) groups (the_award now x problem) mapped)))
    (is_lt_zero (length (the_award now x problem).teams) many)
