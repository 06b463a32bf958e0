-- The first solves of a problem, one solve after another.
use Rattle.std.proofs.Common.{◌≡◌, ◌≢◌, ◌⊎◌, ℕ, ◌+◌, ◌<◌, ◌≤◌, min, Bool, true, false, cond, ◌&&◌, ◌||◌, eqb, ltb, leb, List, [], ◌∷◌, ◌++◌, length, take, get_or, set, map, filter, refl, sym, ap, subst, ◌∙◌, append-nil, arith, inl, inr}
use Rattle.std.specs.Prelude.{codes, slice_get, Some, if◌then◌else◌}
use Rattle.std.specs.List.{list_all, list_any, range_with_len}
use Rattle.std.proofs.lemmas.Bool.{false≢true, eq-eqb, le-leb, lt-leb, lt-ltb, le-ltb, leb-true}
use Rattle.std.proofs.lemmas.Bool.Decides.{nat_tests}
use Rattle.std.proofs.lemmas.List.Elements.{filter-append, filter_agree}
use Rattle.std.proofs.lemmas.List.Folds.{list_all-append}
use Rattle.std.proofs.lemmas.List.{take_more}
use Rattle.std.proofs.lemmas.List.FromFn.{fill_by_all, get_or-map-range_with_len, length-map-range_with_len}
use Rattle.std.proofs.lemmas.Option.{slice_get-get_or}
use Rattle.std.proofs.Math.Bool.{and-true}
use Rattle.contest_types.proofs.PlaceLemmas.{and_left, and_right}
use Rattle.contest_types.specs.Setup.{Setup}
use Rattle.contest_types.specs.declared.objects.Problem.{Problem}
use Rattle.contest_score.specs.declared.row.Row.{Row}
use Rattle.contest_score.specs.declared.solve.Solve.{Solve}
use Rattle.contest_score.specs.Awards.{Award, award_to, first_solves, first_to_solve}
use Rattle.contest_score.specs.AwardSteps.{has_solve, with_solve}
use Rattle.contest_score.proofs.Tables.{not_equal, set_by_places}
use Rattle.contest_types.proofs.Different.{compared}

-- the earliest of some solves
abbrev firsts : List Solve → List Solve
firsts vs = filter (λ (v : Solve). list_all (λ (w : Solve). leb v.time w.time) vs) vs

-- the earliest of a moment and those of solves
abbrev earliest : ℕ → List Solve → ℕ
earliest t [] = t
earliest t (w ∷ ws) = min w.time (earliest t ws)

not_after_both : (x a m : ℕ) (b c : Bool) → (b && c) ≡ leb x m → (b && (leb x a && c)) ≡ leb x (min a m)
not_after_both x a m true true h = grind (arith, nat_tests)
not_after_both x a m true false h = grind (arith, nat_tests)
not_after_both x a m false c h = grind (arith, nat_tests)

-- not after any is not after the earliest
not_after : (t : ℕ) (vs : List Solve) (x : ℕ) → (leb x t && list_all (λ (w : Solve). leb x w.time) vs) ≡ leb x (earliest t vs)
not_after t [] x = and-true (leb x t)
not_after t (w ∷ ws) x = not_after_both x w.time (earliest t ws) (leb x t) (list_all (λ (v : Solve). leb x v.time) ws) (not_after t ws x)

firsts_are : (u : Solve) (us : List Solve) → firsts (u ∷ us) ≡ filter (λ (v : Solve). leb v.time (earliest u.time us)) (u ∷ us)
firsts_are u us = filter_agree (λ (v : Solve). list_all (λ (w : Solve). leb v.time w.time) (u ∷ us)) (λ (v : Solve). leb v.time (earliest u.time us)) (λ v. not_after u.time us v.time) (u ∷ us)

none_before : (u : Solve) (us : List Solve) → list_all (λ (w : Solve). leb (earliest u.time us) w.time) (u ∷ us) ≡ true
none_before u us = not_after u.time us (earliest u.time us) ∙ le-leb _ _ (omega arith)

later_too : (a b c : Bool) → (a || c) ≡ true → (a || (b || c)) ≡ true
later_too true b c h = refl
later_too false true c h = refl
later_too false false c h = h

in_middle : (a b c : Bool) → b ≡ true → (a || (b || c)) ≡ true
in_middle true b c h = refl
in_middle false b c h = rw h refl

least_of_two : (a b : ℕ) → (min a b ≡ a) ⊎ (min a b ≡ b)
least_of_two a b = grind arith

-- one is at the earliest moment
attained : (t : ℕ) (us : List Solve) → (leb t (earliest t us) || list_any (λ (w : Solve). leb w.time (earliest t us)) us) ≡ true
attained t [] = rw (le-leb t t (omega arith)) refl
attained t (w ∷ ws) =
    let P : ℕ → Type 0 = λ m. (leb t m || (leb w.time m || list_any (λ (v : Solve). leb v.time m) ws)) ≡ true in
    elim (least_of_two w.time (earliest t ws)) [
      | inl own ↦ subst P (sym own) (in_middle (leb t w.time) (leb w.time w.time) _ (le-leb _ _ (omega arith)))
      | inr past ↦ subst P (sym past) (later_too (leb t (earliest t ws)) (leb w.time (earliest t ws)) _ (attained t ws))
    ]

-- a list whose first solve is at a moment
record Leads (m : ℕ) (fs : List Solve) : Type 0 where
  first : Solve
  rest : List Solve
  is_list : fs ≡ first ∷ rest
  at_moment : first.time ≡ m

same_moment : (a m : ℕ) → leb a m ≡ true → leb m a ≡ true → a ≡ m
same_moment a m h k = omega (arith, leb-true a m h, leb-true m a k)

leads : (m : ℕ) (vs : List Solve) → list_all (λ (w : Solve). leb m w.time) vs ≡ true → list_any (λ (w : Solve). leb w.time m) vs ≡ true → Leads m (filter (λ (v : Solve). leb v.time m) vs)
leads m [] all some = absurd (false≢true some)
leads m (v ∷ vs) all some =
    let rest : List Solve = filter (λ (w : Solve). leb w.time m) vs in
    let go : (b : Bool) → leb v.time m ≡ b → Leads m (if b then v ∷ rest else rest) = elim [
      | true ↦ λ e. record { first = v; rest = rest; is_list = refl; at_moment = same_moment v.time m e (and_left (leb m v.time) _ all) }
      | false ↦ λ e. leads m vs (and_right (leb m v.time) _ all) (rw e at some)
    ] in
    go (leb v.time m) refl

-- the first solves with one more, by their moment
abbrev added : ℕ → List Solve → Solve → List Solve
added m fs v = if ltb m v.time then fs else if ltb v.time m then v ∷ [] else fs ++ v ∷ []

with_leads : (m : ℕ) (fs : List Solve) (v : Solve) → Leads m fs → with_solve fs v ≡ added m fs v
with_leads m fs v l = rw (l.is_list, l.at_moment) refl

abbrev by_both : ℕ → ℕ → Solve → Bool
by_both m t v = leb v.time m && leb v.time t

none_kept : (m t : ℕ) → t < m → (vs : List Solve) → list_all (λ (w : Solve). leb m w.time) vs ≡ true → filter (by_both m t) vs ≡ []
none_kept m t h [] all = refl
none_kept m t h (v ∷ vs) all =
    let late : m ≤ v.time = leb-true m v.time (and_left (leb m v.time) _ all) in
    let out : leb v.time t ≡ false = lt-leb v.time t (omega (arith, late)) in
    let off : (b : Bool) → (b && false) ≡ false = elim [ true ↦ refl | false ↦ refl ] in
    let fails : by_both m t v ≡ false = rw out (off (leb v.time m)) in
    rw fails (none_kept m t h vs (and_right (leb m v.time) _ all))

by_first : (x m t : ℕ) → m ≤ t → (leb x m && leb x t) ≡ leb x m
by_first x m t h = grind (arith, nat_tests)

all_kept : (m t : ℕ) → m ≤ t → (vs : List Solve) → filter (by_both m t) vs ≡ filter (λ (v : Solve). leb v.time m) vs
all_kept m t h vs = filter_agree (by_both m t) (λ (v : Solve). leb v.time m) (λ v. by_first v.time m t h) vs

kept : (m : ℕ) (vs : List Solve) (v : Solve) → list_all (λ (w : Solve). leb m w.time) vs ≡ true → filter (by_both m v.time) vs ++ cond (by_both m v.time v) (v ∷ []) [] ≡ added m (filter (λ (w : Solve). leb w.time m) vs) v
kept m vs v all = elim (compared v.time m) [
  | inl before ↦ (let own : leb v.time v.time ≡ true = le-leb _ _ (omega arith) in
      rw (none_kept m v.time before vs all, le-leb v.time m (omega arith), own, le-ltb m v.time (omega arith), lt-ltb v.time m before) refl)
  | inr (inl same) ↦ (let own : leb v.time v.time ≡ true = le-leb _ _ (omega arith) in
      rw (all_kept m v.time (omega arith) vs, le-leb v.time m (omega arith), own, le-ltb m v.time (omega arith), le-ltb v.time m (omega arith)) refl)
  | inr (inr after) ↦ rw (all_kept m v.time (omega arith) vs, lt-leb v.time m after, lt-ltb m v.time after) (append-nil _)
]

-- one more solve at the end
firsts_push : (vs : List Solve) (v : Solve) → firsts (vs ++ v ∷ []) ≡ with_solve (firsts vs) v
firsts_push [] v = rw (le-leb v.time v.time (omega arith)) refl
firsts_push (u ∷ us) v =
    let m : ℕ = earliest u.time us in
    let test : (x : Solve) → list_all (λ (w : Solve). leb x.time w.time) ((u ∷ us) ++ v ∷ []) ≡ by_both m v.time x =
    λ x. list_all-append (λ (w : Solve). leb x.time w.time) (u ∷ us) (v ∷ []) ∙ (rw (not_after u.time us x.time, and-true (leb x.time v.time)) refl) in
    let both : firsts ((u ∷ us) ++ v ∷ []) ≡ filter (by_both m v.time) (u ∷ us) ++ cond (by_both m v.time v) (v ∷ []) [] =
    filter_agree (λ (x : Solve). list_all (λ (w : Solve). leb x.time w.time) ((u ∷ us) ++ v ∷ [])) (by_both m v.time) test ((u ∷ us) ++ v ∷ [])
    ∙ filter-append (by_both m v.time) (u ∷ us) (v ∷ []) in
    let lead : Leads m (filter (λ (w : Solve). leb w.time m) (u ∷ us)) = leads m (u ∷ us) (none_before u us) (attained u.time us) in
    both ∙ (kept m (u ∷ us) v (none_before u us) ∙ sym (ap (λ fs. with_solve fs v) (firsts_are u us) ∙ with_leads m _ v lead))

-- the solves up to one more, at its problem and at another
at_own : (vs : List Solve) (v : Solve) → first_solves v.problem (vs ++ v ∷ []) ≡ with_solve (first_solves v.problem vs) v
at_own vs v =
    let own : Solve → Bool = λ w. eqb w.problem v.problem in
    let grown : filter own (vs ++ v ∷ []) ≡ filter own vs ++ v ∷ [] = filter-append own vs (v ∷ []) ∙ (rw (eq-eqb v.problem v.problem refl) refl) in
    ap firsts grown ∙ firsts_push (filter own vs) v

at_other : (vs : List Solve) (v : Solve) (problem : ℕ) → problem ≢ v.problem → first_solves problem (vs ++ v ∷ []) ≡ first_solves problem vs
at_other vs v problem off =
    let of_problem : Solve → Bool = λ w. eqb w.problem problem in
    let same : filter of_problem (vs ++ v ∷ []) ≡ filter of_problem vs = filter-append of_problem vs (v ∷ []) ∙ (rw (not_equal v.problem problem _ refl off) (append-nil _)) in
    ap firsts same

-- the first solves of each problem, among the first i solves
abbrev pub firsts_by_problem : List Solve → ℕ → List (List Solve)
firsts_by_problem vs n = map (λ problem. first_solves problem vs) (range_with_len 0 n)

pub firsts_more : (vs : List Solve) (i n : ℕ) (v : Solve) → i < length vs → v ≡ get_or vs i v → v.problem < n → set (firsts_by_problem (take i vs) n) v.problem (with_solve (first_solves v.problem (take i vs)) v) ≡ firsts_by_problem (take (i + 1) vs) n
firsts_more vs i n v l e m =
    let grown : take (i + 1) vs ≡ take i vs ++ v ∷ [] = rw (← e) at (take_more vs i v l) in
    rw grown (set_by_places (λ problem. first_solves problem (take i vs)) (λ problem. first_solves problem (take i vs ++ v ∷ [])) n v.problem _ m (at_own (take i vs) v) (λ problem off. at_other (take i vs) v problem off))

-- a solve of a problem that isn't there changes nothing
pub firsts_same : (vs : List Solve) (i n : ℕ) (v : Solve) → i < length vs → v ≡ get_or vs i v → n ≤ v.problem → firsts_by_problem (take i vs) n ≡ firsts_by_problem (take (i + 1) vs) n
firsts_same vs i n v l e m =
    let grown : take (i + 1) vs ≡ take i vs ++ v ∷ [] = rw (← e) at (take_more vs i v l) in
    let before : ℕ → List Solve = λ problem. first_solves problem (take i vs) in
    let after : ℕ → List Solve = λ problem. first_solves problem (take i vs ++ v ∷ []) in
    let same = λ (k : ℕ) (h : k < n). get_or-map-range_with_len before 0 n k k [] h (omega arith) ∙ sym (at_other (take i vs) v k (λ is. omega (arith, is, h, m))) in
    rw grown (fill_by_all after (map before (range_with_len 0 n)) n [] (length-map-range_with_len before 0 n) same)

-- what the table holds of a problem
pub firsts_at : (vs : List Solve) (n problem : ℕ) (d : List Solve) → problem < n → get_or (firsts_by_problem vs n) problem d ≡ first_solves problem vs
firsts_at vs n problem d h = get_or-map-range_with_len (λ p. first_solves p vs) 0 n problem problem d h (omega arith)

pub many_firsts : (vs : List Solve) (n : ℕ) → length (firsts_by_problem vs n) ≡ n
many_firsts vs n = length-map-range_with_len (λ p. first_solves p vs) 0 n

-- the award for the problem at a place
pub problem_award : (s : Setup) (rows : List Row) (solves : List Solve) (place : ℕ) (p : Problem) (fs : List Solve) (w : Award) → place < length s.problems → p ≡ get_or s.problems place p → fs ≡ first_solves place solves
    → w ≡ award_to (codes "first-to-solve-" ++ p.id) (codes "First to solve problem " ++ p.label) (has_solve fs) rows → w ≡ first_to_solve s rows solves place
problem_award s rows solves place p fs w l e first is =
    let there : slice_get s.problems place ≡ Some p = slice_get-get_or s.problems place p l ∙ ap Some (sym e) in
    is ∙ (rw (first, there) refl)
