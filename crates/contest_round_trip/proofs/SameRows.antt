-- The rows of the jury's board are those of the board of the audited contest.
use Rattle.std.proofs.Common.{◌≡◌, ◌∙◌, ◌<◌, ◌+◌, ◌-◌, ℕ, zero, suc, Bool, true, false, List, [], ◌∷◌, Some, None, length, map, filter, get_or, slice_get, refl, sym, ap, subst, inl, inr, arith}
use Rattle.std.specs.Prelude.{◌==◌, ◌&&◌, if◌then◌else◌}
use Rattle.std.specs.List.{filter_map, range_with_len}
use Rattle.std.specs.Option.{option_map_or}
use Rattle.std.specs.Ordering.{is_lt}
use Rattle.std.proofs.lemmas.Cmp.{tied_itself}
use Rattle.std.proofs.lemmas.Simd.{map-map}
use Rattle.std.proofs.lemmas.List.Sorted.{IsPermutation-refl}
use Rattle.std.proofs.lemmas.List.FromFn.{get_or-range_with_len, length-range_with_len}
use Rattle.std.proofs.lemmas.Option.{slice_get-get_or}
use Rattle.contest_types.specs.Order.{Has}
use Rattle.contest_types.specs.ProblemPlaces.{problem_cmp, problem_order}
use Rattle.contest_types.specs.Setup.{IsValid, Setup}
use Rattle.contest_types.specs.Sight.{SeenSubmission, seen_of_team, seen_submission, seen_submissions, type_of}
use Rattle.contest_types.specs.State.{ContestState, submissions_of}
use Rattle.contest_types.specs.TeamPlaces.{is_public}
use Rattle.contest_types.specs.Valid.{is_valid}
use Rattle.contest_types.specs.declared.audience.Audience.TheVariants.{Jury}
use Rattle.contest_types.specs.declared.marks.Marks.{Marks}
use Rattle.contest_types.specs.declared.objects.Problem.{Problem}
use Rattle.contest_types.specs.declared.sight.Mask.TheVariants.{Full}
use Rattle.contest_types.proofs.Filters.{filter_both}
use Rattle.contest_types.proofs.InOrder.{Ascends, in_order_is}
use Rattle.contest_types.proofs.InOrderLemmas.{filter_has, is_less, map_has}
use Rattle.contest_types.proofs.ProblemOrder.{problem_cmp_total}
use Rattle.contest_score.specs.MaskedCells.{attempt_under, attempts_under, cell_for, is_by, start_of, verdict_of}
use Rattle.contest_score.specs.Ranking.{board_rows, cells_of_team}
use Rattle.contest_score.specs.Contest.{board_for}
use Rattle.contest_score.specs.Scoring.{cell_of_attempts}
use Rattle.contest_score.specs.ScoringLaws.{scored_by_sight, seen_attempt, seen_attempts}
use Rattle.contest_score.specs.declared.submission.JudgedSubmission.{JudgedSubmission}
use Rattle.contest_score.proofs.BoardRows.{problems_stand_once}
use Rattle.contest_score.proofs.MaskLemmas.{filter_mapped, map_same}
use Rattle.contest_score.proofs.SeenScores.{boards_score_the_seen}
use Rattle.contest_round_trip.specs.Audited.{audited_attempt, audited_attempts, listed_problems, spot_of}
use Rattle.contest_round_trip.proofs.ListPlaces.{before_at, map_by_place, spot_is}
use Rattle.contest_round_trip.proofs.SameBoards.{SameTeams, same_board}
use Rattle.contest_round_trip.proofs.SubmissionParts.{parts_of}
use Rattle.contest_round_trip.proofs.ShiftedCells.{cell_shifted, earlier_by}
use Rattle.contest_round_trip.proofs.TeamOrder.{one_team_of_all}

-- ---- lists

some_at : {X : Type 0} (xs : List X) (i : ℕ) → i < length xs → (x : X) × (slice_get xs i ≡ Some x)
some_at [] i l = absurd (omega (arith, l))
some_at (x ∷ xs) i l = (get_or (x ∷ xs) i x, slice_get-get_or (x ∷ xs) i x l)

pub filter_same : {X : Type 0} (p q : X → Bool) (xs : List X) → ((x : X) → Has xs x → p x ≡ q x) → filter p xs ≡ filter q xs
filter_same p q [] h = refl
filter_same {X} p q (x ∷ xs) h =
    let rest = filter_same p q xs (λ y k. h y (inr k)) in
    let go : (b : Bool) → (if b then x ∷ filter p xs else filter p xs) ≡ (if b then x ∷ filter q xs else filter q xs) = elim [ true ↦ ap (λ ys. x ∷ ys) rest | false ↦ rest ] in
    ap (λ b. if b then x ∷ filter p xs else filter p xs) (h x (inl refl)) ∙ go (q x)

-- ---- problems in their order stay in it

-- what is listed of these places, all of which are there
pub listed_at : (ps : List Problem) (places : List ℕ) → ((p : ℕ) → Has places p → p < length ps) → (k : ℕ) → k < length places → slice_get (filter_map (slice_get ps) places) k ≡ slice_get ps (get_or places k 0)
listed_at ps [] there k l = absurd (omega (arith, l))
listed_at ps (p ∷ places) there zero l = let q = some_at ps p (there p (inl refl)) in rw (q.1) refl
listed_at ps (p ∷ places) there (suc k) l = let q = some_at ps p (there p (inl refl)) in rw (q.1) (listed_at ps places (λ r h. there r (inr h)) k (omega (arith, l)))

pub listed_length : (ps : List Problem) (places : List ℕ) → ((p : ℕ) → Has places p → p < length ps) → length (filter_map (slice_get ps) places) ≡ length places
listed_length ps [] there = refl
listed_length ps (p ∷ places) there = let q = some_at ps p (there p (inl refl)) in rw (q.1) (ap suc (listed_length ps places (λ r h. there r (inr h))))

-- each problem's place is one of the order's, which is strict
pub order_there : (s : Setup) → IsValid s → (p : ℕ) → Has (problem_order s) p → p < length s.problems
order_there s v p h = ((problems_stand_once s v).0 p).0 h

abbrev pub before : Setup → ℕ → ℕ → Bool
before s p q = is_lt (problem_cmp s.problems p q)

pub never : (s : Setup) (p : ℕ) → before s p p ≡ false
never s p = rw (tied_itself (problem_cmp_total s.problems) p) refl

module _ (s t : Setup) (v : IsValid s) (listed : t.problems ≡ listed_problems s) where
  many : length t.problems ≡ length (problem_order s)
  many = ap length listed ∙ listed_length s.problems (problem_order s) (order_there s v)

  same_problem : (k : ℕ) → k < length (problem_order s) → slice_get t.problems k ≡ slice_get s.problems (get_or (problem_order s) k 0)
  same_problem k l = ap (λ ps. slice_get ps k) listed ∙ listed_at s.problems (problem_order s) (order_there s v) k l

  same_cmp : (i j : ℕ) → i < length (problem_order s) → j < length (problem_order s) → problem_cmp t.problems i j ≡ problem_cmp s.problems (get_or (problem_order s) i 0) (get_or (problem_order s) j 0)
  same_cmp i j l m = rw (same_problem i l, same_problem j m) refl

  ascend : Ascends (problem_cmp t.problems) (range_with_len 0 (length t.problems))
  ascend i j d l m =
      let all : length (range_with_len 0 (length t.problems)) ≡ length t.problems = length-range_with_len 0 (length t.problems) in
      let n : j < length t.problems = omega (arith, m, all) in
      let o : j < length (problem_order s) = omega (arith, n, many) in
      let first : get_or (range_with_len 0 (length t.problems)) i d ≡ i = get_or-range_with_len 0 (length t.problems) i d (omega (arith, l, n)) ∙ zero_first i in
      let second : get_or (range_with_len 0 (length t.problems)) j d ≡ j = get_or-range_with_len 0 (length t.problems) j d n ∙ zero_first j in
      rw (first, second) (same_cmp i j (omega (arith, l, o)) o
      ∙ is_less (problem_cmp s.problems (get_or (problem_order s) i 0) (get_or (problem_order s) j 0)) (before_at (before s) (problem_order s) (problems_stand_once s v).1 i j 0 l o))
    where
      zero_first : (k : ℕ) → 0 + k ≡ k
      zero_first k = omega arith

  -- so they are listed as they stand
  listed_in_place : problem_order t ≡ range_with_len 0 (length (problem_order s))
  listed_in_place =
      let places = range_with_len 0 (length t.problems) in
      sym (in_order_is (problem_cmp_total t.problems) places places (IsPermutation-refl places) ascend) ∙ ap (range_with_len 0) many

-- ---- cells

module _ (now : ℕ) (x : ContestState) (valid : is_valid x ≡ true) (t : Setup) (marks : Marks)
    (types : t.types ≡ x.fixed.settings.types) (started : marks.start ≡ Some 0) where
  abbrev s : Setup
  s = x.fixed.settings

  abbrev order : List ℕ
  order = problem_order s

  -- the problem of a submission that is seen is there
  seen_problem : (settings : IsValid s) (team : ℕ) (w : SeenSubmission) → Has (seen_of_team Jury now x team) w → Has order w.problem
  seen_problem settings team w h =
      let m = map_has (seen_submission Jury now x) (submissions_of team x.submissions) w h in
      let there = (filter_has (λ r. r.team == team) x.submissions m.item m.there).0 in
      let low = (parts_of x valid m.item there).problem in
      ((problems_stand_once s settings).0 w.problem).1 (subst (λ (u : SeenSubmission). u.problem < length s.problems) (sym m.is) low)

  same_filter : (settings : IsValid s) (team k : ℕ) → k < length order → filter (λ (w : SeenSubmission). spot_of s w.problem == k) (seen_of_team Jury now x team) ≡ filter (λ w. w.problem == get_or order k 0) (seen_of_team Jury now x team)
  same_filter settings team k l =
      filter_same (λ w. spot_of s w.problem == k) (λ w. w.problem == get_or order k 0) (seen_of_team Jury now x team)
      (λ w h. spot_is (before s) (never s) order (problems_stand_once s settings).1 w.problem k (seen_problem settings team w h) l)

  same_attempts : (settings : IsValid s) (team k : ℕ) → k < length order
      → attempts_under Full t marks (audited_attempts now x) team k ≡ map (earlier_by (start_of x.fixed.marks)) (seen_attempts Jury now x team (get_or order k 0))
  same_attempts settings team k l =
      let all = seen_submissions Jury now x in
      let made : SeenSubmission → JudgedSubmission = audited_attempt x in
      let of_team : SeenSubmission → Bool = λ w. w.team == team in
      let at : SeenSubmission → Bool = λ w. spot_of s w.problem == k in
      let own = filter (λ (w : SeenSubmission). w.problem == get_or order k 0) (seen_of_team Jury now x team) in
      let kept : filter (is_by team k) (map made all) ≡ map made own =
      filter_mapped (is_by team k) (λ w. of_team w && at w) made (λ w. refl) all
      ∙ ap (map made) (filter_both of_team at all ∙ ap (filter at) (one_team_of_all now x team valid) ∙ same_filter settings team k l) in
      ap (map (attempt_under Full t marks)) kept
      ∙ map-map (attempt_under Full t marks) made own
      ∙ map_same (λ w. attempt_under Full t marks (made w)) (λ w. earlier_by (start_of x.fixed.marks) (seen_attempt s.types w)) (λ w. ap (λ ts. record { time = w.time - start_of x.fixed.marks; verdict = verdict_of ts (type_of w.judgement) }) types) own
      ∙ sym (map-map (earlier_by (start_of x.fixed.marks)) (seen_attempt s.types) own)

  same_cell : (settings : IsValid s) (team k : ℕ) → k < length order → cell_for Jury t marks now (audited_attempts now x) team k ≡ scored_by_sight Jury now x team (get_or order k 0)
  same_cell settings team k l =
      let zeroth : start_of marks ≡ 0 = ap (λ o. option_map_or (λ start. start) o 0) started in
      ap (λ n. cell_of_attempts n (attempts_under Full t marks (audited_attempts now x) team k)) zeroth
      ∙ ap (cell_of_attempts 0) (same_attempts settings team k l)
      ∙ cell_shifted (start_of x.fixed.marks) (seen_attempts Jury now x team (get_or order k 0))

  same_cells : (settings : IsValid s) → t.problems ≡ listed_problems s → (team : ℕ) → cells_of_team t (cell_for Jury t marks now (audited_attempts now x)) team ≡ cells_of_team s (scored_by_sight Jury now x) team
  same_cells settings listed team =
      ap (map (cell_for Jury t marks now (audited_attempts now x) team)) (listed_in_place s t settings listed)
      ∙ map_by_place (cell_for Jury t marks now (audited_attempts now x) team) (scored_by_sight Jury now x team) order 0
      (λ k l. let zero_first : 0 + k ≡ k = omega arith in ap (cell_for Jury t marks now (audited_attempts now x) team) zero_first ∙ same_cell settings team k l)

-- the board of the audited contest
pub same_rows : (now later : ℕ) (x : ContestState) → is_valid x ≡ true → IsValid x.fixed.settings → (t : Setup) (marks : Marks) → t.types ≡ x.fixed.settings.types → t.problems ≡ listed_problems x.fixed.settings
    → SameTeams t x.fixed.settings → marks.start ≡ Some 0 → board_rows t (is_public t) (cell_for Jury t marks later (audited_attempts now x)) ≡ board_for Jury now None x
same_rows now later x valid settings t marks types problems teams started =
    same_board t x.fixed.settings (cell_for Jury t marks now (audited_attempts now x)) (scored_by_sight Jury now x) teams (same_cells now x valid t marks types started settings problems)
    ∙ sym (boards_score_the_seen Jury now None x)
