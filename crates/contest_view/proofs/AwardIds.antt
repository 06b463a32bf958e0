-- An award's id tells the award.
use Rattle.std.proofs.Common.{◌≡◌, ◌⊎◌, ℕ, zero, suc, ◌<◌, Bool, true, false, List, [], ◌∷◌, ◌++◌, length, map, drop, get_or, Some, refl, sym, ap, subst, inl, inr, ◌∙◌, None}
use Rattle.std.specs.Prelude.{◌==◌, find, nat_lt, if◌then◌else◌}
use Rattle.std.specs.Option.{option_map}
use Rattle.std.specs.Str.{bytes_eq}
use Rattle.std.proofs.lemmas.Slice.Eq.{bytes_eq-Decides}
use Rattle.contest_types.specs.Order.{Has}
use Rattle.contest_types.specs.Setup.{Setup, IsValid}
use Rattle.contest_types.specs.declared.audience.Audience.TheVariants.{Jury}
use Rattle.contest_types.specs.declared.objects.Group.{Group}
use Rattle.contest_types.specs.declared.objects.Problem.{Problem}
use Rattle.contest_types.proofs.Different.{one_place}
use Rattle.contest_types.proofs.InOrderLemmas.{filter_has, map_has, has_either}
use Rattle.contest_types.proofs.SettingsTest.{is_settings}
use Rattle.contest_types.proofs.ValidParts.{parts}
use Rattle.contest_score.specs.Awards.{awards_of, first_to_solve, group_order, group_winner, medals, shows_awards, winner}
use Rattle.contest_score.specs.Contest.{board_for, solves_of}
use Rattle.contest_score.specs.Ranking.{problem_order}
use Rattle.contest_score.specs.declared.award.Award.{Award}
use Rattle.contest_score.specs.declared.row.Row.{Row}
use Rattle.contest_score.specs.declared.solve.Solve.{Solve}
use Rattle.contest_score.proofs.BoardRows.{problems_stand_once}
use Rattle.contest_score.proofs.GroupWinners.{groups_stand_once}
use Rattle.contest_objects.specs.AwardObjects.{award_data}
use Rattle.contest_objects.specs.Items.{Item, found_in}
use Rattle.contest_view.specs.Awards.{item_of}
use Rattle.contest_view.specs.Laws.{ShownAwardIsFound}

-- what kind of award an id begins with: `winner`, `gold`, `silver`, `bronze`, `first` or `group`
abbrev kind_of : List ℕ → ℕ
kind_of [] = 5
kind_of (a ∷ []) = 5
kind_of (a ∷ b ∷ rest) = if a == 119 then 0 else (if a == 115 then 2 else (if a == 98 then 3 else (if a == 102 then 4 else (if b == 111 then 1 else 5))))

-- the award of a kind; for the problem or the group at a place
abbrev award_at : Setup → List Row → List Solve → (kind place : ℕ) → Award
award_at s rows solves zero place = winner rows
award_at s rows solves (suc zero) place = get_or (medals s rows) 0 (winner rows)
award_at s rows solves (suc (suc zero)) place = get_or (medals s rows) 1 (winner rows)
award_at s rows solves (suc (suc (suc zero))) place = get_or (medals s rows) 2 (winner rows)
award_at s rows solves (suc (suc (suc (suc zero)))) place = first_to_solve s rows solves place
award_at s rows solves (suc (suc (suc (suc (suc kind))))) place = group_winner s rows place

-- whose place is there
abbrev is_there : Setup → (kind place : ℕ) → Type 0
is_there s zero place = true ≡ true
is_there s (suc zero) place = true ≡ true
is_there s (suc (suc zero)) place = true ≡ true
is_there s (suc (suc (suc zero))) place = true ≡ true
is_there s (suc (suc (suc (suc zero)))) place = place < length s.problems
is_there s (suc (suc (suc (suc (suc kind))))) place = place < length s.groups

record Given (s : Setup) (rows : List Row) (solves : List Solve) (w : Award) : Type 0 where
  kind : ℕ
  place : ℕ
  there : is_there s kind place
  is : w ≡ award_at s rows solves kind place
  told : kind_of w.id ≡ kind

-- each award is one of a kind
given : (s : Setup) (rows : List Row) (solves : List Solve) (w : Award) → IsValid s → Has (awards_of s rows solves) w → Given s rows solves w
given s rows solves w v h =
    let firsts = map (first_to_solve s rows solves) (problem_order s) in
    let groups = map (group_winner s rows) (group_order s) in
    let plain : (kind : ℕ) → is_there s kind 0 → kind_of (award_at s rows solves kind 0).id ≡ kind → w ≡ award_at s rows solves kind 0 → Given s rows solves w =
    λ kind there told e. record { kind = kind; place = 0; there = there; is = e; told = ap (λ (u : Award). kind_of u.id) e ∙ told } in
    let late : Has firsts w ⊎ Has groups w → Given s rows solves w = elim [
      | inl k ↦
          (let m = map_has (first_to_solve s rows solves) (problem_order s) w k in
          record { kind = 4; place = m.item; there = ((problems_stand_once s v).0 m.item).0 m.there; is = m.is; told = ap (λ (u : Award). kind_of u.id) m.is })
      | inr k ↦
          (let m = map_has (group_winner s rows) (group_order s) w k in
          record { kind = 5; place = m.item; there = ((groups_stand_once s v).0 m.item).0 m.there; is = m.is; told = ap (λ (u : Award). kind_of u.id) m.is })
    ] in
    let medal : Has (medals s rows) w → Given s rows solves w = elim [
      | inl e ↦ plain 1 refl refl e
      | inr k ↦ elim k [ inl e ↦ plain 2 refl refl e | inr l ↦ elim l [ inl e ↦ plain 3 refl refl e | inr n ↦ absurd n ] ]
    ] in
    let all : Has (winner rows ∷ (medals s rows ++ (firsts ++ groups))) w = (filter_has (λ (u : Award). nat_lt 0 (length u.teams)) (winner rows ∷ (medals s rows ++ (firsts ++ groups))) w h).0 in
    elim all [
      | inl e ↦ plain 0 refl refl e
      | inr k ↦ elim (has_either (medals s rows) (firsts ++ groups) w k) [ inl m ↦ medal m | inr l ↦ late (has_either firsts groups w l) ]
    ]

-- of one kind there are no two with one id
same_kind : (s : Setup) (rows : List Row) (solves : List Solve) → IsValid s → (kind p q : ℕ) → is_there s kind p → is_there s kind q
    → (award_at s rows solves kind p).id ≡ (award_at s rows solves kind q).id → award_at s rows solves kind p ≡ award_at s rows solves kind q
same_kind s rows solves v zero p q h k e = refl
same_kind s rows solves v (suc zero) p q h k e = refl
same_kind s rows solves v (suc (suc zero)) p q h k e = refl
same_kind s rows solves v (suc (suc (suc zero))) p q h k e = refl
same_kind s rows solves v (suc (suc (suc (suc zero)))) p q h k e =
    ap (first_to_solve s rows solves) (one_place (λ (t : Problem). t.id) s.problems v.problems p q h k (ap (drop 15) e))
same_kind s rows solves v (suc (suc (suc (suc (suc kind))))) p q h k e =
    ap (group_winner s rows) (one_place (λ (t : Group). t.id) s.groups v.groups p q h k (ap (drop 13) e))

same_award : (s : Setup) (rows : List Row) (solves : List Solve) (u w : Award) → IsValid s → Given s rows solves u → Given s rows solves w → u.id ≡ w.id → u ≡ w
same_award s rows solves u w v g h e =
    let at = award_at s rows solves in
    let kind : g.kind ≡ h.kind = sym g.told ∙ (ap kind_of e ∙ h.told) in
    let ids : (at g.kind g.place).id ≡ (at h.kind h.place).id = sym (ap (λ (z : Award). z.id) g.is) ∙ (e ∙ ap (λ (z : Award). z.id) h.is) in
    let one = subst (λ k. is_there s k h.place → (at g.kind g.place).id ≡ (at k h.place).id → at g.kind g.place ≡ at k h.place) kind (same_kind s rows solves v g.kind g.place h.place g.there) in
    g.is ∙ (one h.there ids ∙ sym h.is)

-- of awards with ids of their own each is found by its id
found : (s : Setup) (ws : List Award) (w : Award) → ((u : Award) → Has ws u → u.id ≡ w.id → u ≡ w) → Has ws w → found_in (map (item_of s) ws) w.id ≡ Some (award_data s w.id w.citation w.teams)
found s [] w one h = absurd h
found s (u ∷ ws) w one h =
    let object : Award → Item = item_of s in
    let rest : Has ws w → found_in (map (item_of s) ws) w.id ≡ Some (object w).object = found s ws w (λ z k. one z (inr k)) in
    let go : (b : Bool) → bytes_eq u.id w.id ≡ b → option_map (λ (i : Item). i.object) (if b then Some (object u) else find (λ (i : Item). bytes_eq i.id w.id) (map (item_of s) ws)) ≡ Some (object w).object = elim [
      | true ↦ λ e. ap (λ z. Some (object z).object) (one u (inl refl) ((bytes_eq-Decides u.id w.id).0 e))
      | false ↦ λ e. elim h [
        | inl is ↦ (let t : bytes_eq u.id w.id ≡ true = (bytes_eq-Decides u.id w.id).1 (ap (λ (z : Award). z.id) (sym is)) in absurd (cc (sym e ∙ t)))
        | inr k ↦ rest k
      ]
    ] in
    go (bytes_eq u.id w.id) refl

pub shown_is_found : ShownAwardIsFound
shown_is_found a now x valid w h =
    let s = x.fixed.settings in
    let rows = board_for Jury now None x in
    let solves = solves_of x in
    let v : IsValid s = is_settings x (parts x valid).settings in
    let of_shown : (b : Bool) → Has (if b then awards_of s rows solves else []) w → found_in (map (item_of s) (if b then awards_of s rows solves else [])) w.id ≡ Some (award_data s w.id w.citation w.teams) = elim [
      | true ↦ λ k. found s (awards_of s rows solves) w (λ u l e. same_award s rows solves u w v (given s rows solves u v l) (given s rows solves w v k) e) k
      | false ↦ λ k. absurd k
    ] in
    of_shown (shows_awards a now x) h
