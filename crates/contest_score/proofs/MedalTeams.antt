-- Who has a medal.
use Rattle.std.proofs.Common.{◌≡◌, ℕ, ◌+◌, ◌<◌, Bool, true, false, cond, ltb, leb, List, [], ◌∷◌, filter, refl, sym, ap, subst, ◌∙◌, inl, inr, arith}
use Rattle.std.specs.Prelude.{◌==◌, ◌&&◌, ◌||◌, nat_lt, count_by, codes, if◌then◌else◌}
use Rattle.std.specs.List.{list_any}
use Rattle.std.proofs.lemmas.Bool.{cases_Bool, false≢true, eqb-true, eq-eqb}
use Rattle.std.proofs.lemmas.Bool.Decides.{nat_tests}
use Rattle.contest_types.specs.Setup.{Setup}
use Rattle.contest_types.specs.Order.{Has}
use Rattle.contest_types.proofs.PlaceLemmas.{and_left, and_right}
use Rattle.contest_types.proofs.InOrderLemmas.{count_more, has_map, map_has, has_filter, filter_has}
use Rattle.contest_score.specs.declared.cell.Cell.{Cell}
use Rattle.contest_score.specs.declared.row.Row.{Row}
use Rattle.contest_score.specs.Ranking.{board_rows, row_of}
use Rattle.contest_score.specs.Awards.{winners, award_to, ranks_after}
use Rattle.contest_score.specs.BoardLaws.{teams_of}
use Rattle.contest_score.specs.AwardLaws.{has_award, medals_of, wins_medal}
use Rattle.contest_score.proofs.OneChange.{none_passes}
use Rattle.contest_score.proofs.BoardRows.{row_is}

-- where one of the list passes, some does
pub some_passes : {X : Type 0} (p : X → Bool) (xs : List X) (x : X) → Has xs x → p x ≡ true → list_any p xs ≡ true
some_passes p [] x h e = absurd h
some_passes {X} p (y ∷ xs) x h e =
    let go : (b : Bool) → list_any p xs ≡ true → (b || list_any p xs) ≡ true = elim [ true ↦ λ r. refl | false ↦ λ r. r ] in
    elim h [ inl i ↦ (let t : p y ≡ true = ap p (sym i) ∙ e in rw t refl) | inr k ↦ go (p y) (some_passes p xs x k e) ]

pub record OneOf {X : Type 0} (p : X → Bool) (xs : List X) : Type 0 where
  pub item : X
  pub there : Has xs item
  pub passes : p item ≡ true

pub passing : {X : Type 0} (p : X → Bool) (xs : List X) → list_any p xs ≡ true → OneOf p xs
passing p [] h = absurd (false≢true h)
passing {X} p (x ∷ xs) h =
    let later : OneOf p xs → OneOf p (x ∷ xs) = λ r. record { item = r.item; there = inr r.there; passes = r.passes } in
    elim (cases_Bool (p x)) [ inl e ↦ record { item = x; there = inl refl; passes = e } | inr e ↦ later (passing p xs (rw e at h)) ]

-- a row solved something
abbrev pub has_solved : Row → Bool
has_solved r = nat_lt 0 r.score.solved

-- the team of a winner that passes the test has the award
pub award_has : (id citation : List ℕ) (test : Row → Bool) (rows : List Row) (r : Row) → Has rows r → has_solved r ≡ true → test r ≡ true → Has (award_to id citation test rows).teams r.team
award_has id citation test rows r h solved passes =
    has_map (λ (q : Row). q.team) (filter test (winners rows)) r (has_filter test (winners rows) r (has_filter has_solved rows r h solved) passes)

-- and no other team has
pub record Winner (test : Row → Bool) (rows : List Row) (team : ℕ) : Type 0 where
  pub row : Row
  pub there : Has rows row
  pub solved : has_solved row ≡ true
  pub passes : test row ≡ true
  pub is : team ≡ row.team

pub has_the_award : (id citation : List ℕ) (test : Row → Bool) (rows : List Row) (team : ℕ) → Has (award_to id citation test rows).teams team → Winner test rows team
has_the_award id citation test rows team h =
    let m = map_has (λ (q : Row). q.team) (filter test (winners rows)) team h in
    let f = filter_has test (winners rows) m.item m.there in
    let g = filter_has has_solved rows m.item f.0 in
    record { row = m.item; there = g.0; solved = g.1; passes = f.1; is = m.is }

-- where a team has one row, whether it has the award goes by that row
award_by_row : (id citation : List ℕ) (test : Row → Bool) (rows : List Row) (r : Row) → Has rows r → ((q : Row) → Has rows q → q.team ≡ r.team → q ≡ r)
    → has_award r.team (award_to id citation test rows) ≡ (has_solved r && test r)
award_by_row id citation test rows r h one =
    let own : ℕ → Bool = λ u. u == r.team in
    let teams = (award_to id citation test rows).teams in
    let yes_case : (has_solved r && test r) ≡ true → list_any own teams ≡ (has_solved r && test r) = λ e.
    (some_passes own teams r.team (award_has id citation test rows r h (and_left _ _ e) (and_right (has_solved r) _ e)) (eq-eqb r.team r.team refl) ∙ sym e) in
    let both : (b c : Bool) → b ≡ true → c ≡ true → (b && c) ≡ true = λ b c i j. rw (i, j) refl in
    let no_case : (has_solved r && test r) ≡ false → list_any own teams ≡ (has_solved r && test r) = λ e.
    (none_passes own teams
    (λ u k t.
    (let w = has_the_award id citation test rows u k in
    let same : w.row ≡ r = one w.row w.there (sym w.is ∙ eqb-true u r.team t) in
    let passes : (has_solved r && test r) ≡ true = both (has_solved r) (test r) (ap has_solved (sym same) ∙ w.solved) (ap test (sym same) ∙ w.passes) in
    false≢true (sym e ∙ passes)))
    ∙ sym e) in
    elim (cases_Bool (has_solved r && test r)) [ inl e ↦ yes_case e | inr e ↦ no_case e ]

one_row : (s : Setup) (shown : ℕ → Bool) (cells : ℕ → ℕ → Cell) (r : Row) → Has (board_rows s shown cells) r → (q : Row) → Has (board_rows s shown cells) q → q.team ≡ r.team → q ≡ r
one_row s shown cells r h q k e = (row_is s shown cells q k).is ∙ (ap (row_of s shown cells) e ∙ sym (row_is s shown cells r h).is)

-- a rank is within one of three kinds of places, or past all
places : (k g m b : ℕ) → 0 < k → cond (ltb 0 k && leb k (0 + g)) 1 0 + (cond (ltb g k && leb k (g + m)) 1 0 + (cond (ltb (g + m) k && leb k (g + m + b)) 1 0 + 0)) ≡ cond (leb k (g + m + b)) 1 0
places k g m b l = grind (arith, nat_tests)

one_kind : (w : Bool) (k g m b : ℕ) → 0 < k → cond (w && (ltb 0 k && leb k (0 + g))) 1 0 + (cond (w && (ltb g k && leb k (g + m))) 1 0 + (cond (w && (ltb (g + m) k && leb k (g + m + b))) 1 0 + 0)) ≡ cond (w && leb k (g + m + b)) 1 0
one_kind true k g m b l = places k g m b l
one_kind false k g m b l = refl

count_three : {X : Type 0} (p : X → Bool) (u v w : X) → count_by p (u ∷ v ∷ w ∷ []) ≡ cond (p u) 1 0 + (cond (p v) 1 0 + (cond (p w) 1 0 + 0))
count_three p u v w =
    count_more p u (v ∷ w ∷ []) ∙ ap (λ n. cond (p u) 1 0 + n) (count_more p v (w ∷ []) ∙ ap (λ n. cond (p v) 1 0 + n) (count_more p w []))

pub one_medal_a_team : (s : Setup) (shown : ℕ → Bool) (cells : ℕ → ℕ → Cell) (r : Row) → Has (board_rows s shown cells) r → medals_of s (board_rows s shown cells) r.team ≡ (if wins_medal s r then 1 else 0)
one_medal_a_team s shown cells r h =
    let rows = board_rows s shown cells in
    let m = s.head.medals in
    let one = one_row s shown cells r h in
    let rank : 0 < r.rank = (let e : r.rank ≡ (row_of s shown cells r.team).rank = ap (λ (q : Row). q.rank) (row_is s shown cells r h).is in omega (arith, e)) in
    let gold = award_by_row (codes "gold-medal") (codes "Gold medal") (ranks_after 0 m.gold) rows r h one in
    let silver = award_by_row (codes "silver-medal") (codes "Silver medal") (ranks_after m.gold m.silver) rows r h one in
    let bronze = award_by_row (codes "bronze-medal") (codes "Bronze medal") (ranks_after (m.gold + m.silver) m.bronze) rows r h one in
    count_three (has_award r.team) (award_to (codes "gold-medal") (codes "Gold medal") (ranks_after 0 m.gold) rows) (award_to (codes "silver-medal") (codes "Silver medal") (ranks_after m.gold m.silver) rows) (award_to (codes "bronze-medal") (codes "Bronze medal") (ranks_after (m.gold + m.silver) m.bronze) rows)
    ∙ (rw (gold, silver, bronze) (one_kind (has_solved r) r.rank m.gold m.silver m.bronze rank))

award_to_none : (id citation : List ℕ) (test : Row → Bool) (rows : List Row) (team : ℕ) → (Has (teams_of rows) team → ⊥) → has_award team (award_to id citation test rows) ≡ false
award_to_none id citation test rows team off =
    none_passes (λ u. u == team) (award_to id citation test rows).teams
    (λ u k t.
    (let w = has_the_award id citation test rows u k in
    let same : w.row.team ≡ team = sym w.is ∙ eqb-true u team t in
    off (subst (λ v. Has (teams_of rows) v) same (has_map (λ (q : Row). q.team) rows w.row w.there))))

pub no_medal_off_the_board : (s : Setup) (rows : List Row) (team : ℕ) → (Has (teams_of rows) team → ⊥) → medals_of s rows team ≡ 0
no_medal_off_the_board s rows team off =
    let m = s.head.medals in
    let gold = award_to_none (codes "gold-medal") (codes "Gold medal") (ranks_after 0 m.gold) rows team off in
    let silver = award_to_none (codes "silver-medal") (codes "Silver medal") (ranks_after m.gold m.silver) rows team off in
    let bronze = award_to_none (codes "bronze-medal") (codes "Bronze medal") (ranks_after (m.gold + m.silver) m.bronze) rows team off in
    count_three (has_award team) (award_to (codes "gold-medal") (codes "Gold medal") (ranks_after 0 m.gold) rows) (award_to (codes "silver-medal") (codes "Silver medal") (ranks_after m.gold m.silver) rows) (award_to (codes "bronze-medal") (codes "Bronze medal") (ranks_after (m.gold + m.silver) m.bronze) rows)
    ∙ (rw (gold, silver, bronze) refl)
