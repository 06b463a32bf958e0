-- In a valid contest all that an audience may hear is listed, and nothing else.
use Rattle.std.proofs.Common.{◌≡◌, ℕ, suc, ◌+◌, ◌<◌, ◌≤◌, Bool, true, false, List, [], ◌∷◌, ◌++◌, length, map, refl, sym, ap, subst, ◌∙◌, inl, inr, arith}
use Rattle.std.specs.Prelude.{◌↔◌, ◌&&◌, ◌^◌, nat_lt, nat_le, count_by, is_some, if◌then◌else◌}
use Rattle.std.specs.Fmt.{decimal}
use Rattle.std.specs.List.{list_all, flat_map, range_with_len}
use Rattle.std.specs.Option.{option_map_or}
use Rattle.std.specs.Ordering.{is_lt}
use Rattle.std.specs.declared.cmp.Ordering.TheVariants.{Equal}
use Rattle.std.proofs.lemmas.Bool.{false≢true, leb-true, ltb-true}
use Rattle.std.proofs.lemmas.Fmt.{decimal_injective}
use Rattle.std.proofs.lemmas.List.{append_assoc, length-map}
use Rattle.std.proofs.lemmas.Map.Lookups.{exact_bytes}
use Rattle.std.proofs.lemmas.Slice.Eq.{bytes_eq-Decides}
use Rattle.contest_types.specs.Accounts.{account_named}
use Rattle.contest_types.specs.Series.{in_each, count_up}
use Rattle.contest_types.specs.TeamPlaces.{team_places, group_places}
use Rattle.contest_types.specs.Order.{Has, IsInOrder}
use Rattle.contest_types.specs.State.{FixedPart, ContestState, same_addressee, clarifications_to}
use Rattle.contest_types.specs.VisibleIds.{clarification_id}
use Rattle.contest_types.specs.Sight.{SeenClarification, hears, seen_clarification, heard_of, clarification_cmp, addressees, seen_clarifications}
use Rattle.contest_types.specs.ValidClarifications.{is_an_addressee, has_clarification, is_well_sent, is_valid_clarification, to_one_addressee, is_request, are_valid_clarifications, in_one_scope, keys_are_own}
use Rattle.contest_types.specs.Valid.{is_valid}
use Rattle.contest_types.specs.Laws.{IsHeard}
use Rattle.contest_types.specs.declared.audience.Audience.{Audience}
use Rattle.contest_types.specs.declared.limits.TheConstants.{GROUPS, TEAMS, TEAM_REQUESTS, JURY_CLARIFICATIONS}
use Rattle.contest_types.specs.declared.clarification.Clarification.{Clarification}
use Rattle.contest_types.specs.declared.clarification.Addressee.{Addressee}
use Rattle.contest_types.specs.declared.clarification.Addressee.TheVariants.{All as ToAll, Group as ToGroup, Team as ToTeam}
use Rattle.contest_types.proofs.AddClarification.{addressed_itself, one_addressee}
use Rattle.contest_types.proofs.SettingsTest.{is_settings}
use Rattle.contest_types.proofs.DashedNumbers.{dashed, undashed}
use Rattle.contest_types.proofs.InOrderLemmas.{count_more, nothing_added, nothing_lost, flat_has, has_flat, has_front, has_back, has_map, map_has, has_filter, filter_has}
use Rattle.contest_types.proofs.OrderLemmas.{same_order}
use Rattle.contest_types.proofs.PlaceLemmas.{and_left, and_right}
use Rattle.contest_types.proofs.Rising.{strict}
use Rattle.contest_types.proofs.SeenWhole.{all_has, both_equal, clarification_order, has_below, has_team, heard_rises, not_greater, one_row}
use Rattle.contest_types.proofs.SeriesLemmas.{in_any}
use Rattle.contest_types.proofs.SightLemmas.{same_is_one}
use Rattle.contest_types.proofs.ValidParts.{parts}

abbrev from_jury : Clarification → Bool
from_jury c = c.from_jury

-- each is in one of the two directions
in_both : (cs : List Clarification) → length cs ≡ count_by is_request cs + count_by from_jury cs
in_both [] = refl
in_both (c ∷ cs) =
    let rest = in_both cs in
    let go : (b : Bool) → c.from_jury ≡ b → suc (length cs) ≡ count_by is_request (c ∷ cs) + count_by from_jury (c ∷ cs) = elim [
      | true ↦ λ e. rw (count_more is_request c cs, count_more from_jury c cs, e) (omega (arith, rest))
      | false ↦ λ e. rw (count_more is_request c cs, count_more from_jury c cs, e) (omega (arith, rest))
    ] in
    go c.from_jury refl

-- what is asked of the clarifications of an addressee
pub record Few (cs : List Clarification) : Type 0 where
  pub numbers : map (λ (c : Clarification). c.number) cs ≡ range_with_len 1 (length cs)
  pub few : length cs ≤ TEAM_REQUESTS + JURY_CLARIFICATIONS

few_of : (cs : List Clarification) → are_valid_clarifications cs ≡ true → Few cs
few_of cs h =
    let numbers : List ℕ = map (λ (c : Clarification). c.number) cs in
    let requests = nat_le (count_by is_request cs) TEAM_REQUESTS in
    let jury = nat_le (count_by from_jury cs) JURY_CLARIFICATIONS in
    let two : (count_up numbers && requests) ≡ true = and_left (count_up numbers && requests) jury h in
    let all : numbers ≡ range_with_len 1 (length numbers) = (bytes_eq-Decides numbers (range_with_len 1 (length numbers))).0 (and_left (count_up numbers) requests two) in
    record {
      numbers = all ∙ ap (range_with_len 1) (length-map cs (λ (c : Clarification). c.number));
      few = omega (arith, in_both cs, leb-true (count_by is_request cs) TEAM_REQUESTS (and_right (count_up numbers) requests two), leb-true (count_by from_jury cs) JURY_CLARIFICATIONS (and_right (count_up numbers && requests) jury h));
    }

-- the tests of the clarifications, of each alone and of those of one addressee
pub record Tests (x : ContestState) : Type 0 where
  pub alone : list_all (is_valid_clarification x) x.clarifications ≡ true
  pub series : (c : Clarification) → Few (clarifications_to c.addressee x.clarifications)

pub tests : (x : ContestState) → is_valid x ≡ true → Tests x
tests x valid =
    let alone = list_all (is_valid_clarification x) x.clarifications in
    let numbered = in_each to_one_addressee are_valid_clarifications x.clarifications in
    let two : (alone && numbered) ≡ true = and_left (alone && numbered) (in_each in_one_scope keys_are_own x.clarifications) (parts x valid).clarifications in
    record {
      alone = and_left alone numbered two;
      series = λ c. few_of (clarifications_to c.addressee x.clarifications) (in_any to_one_addressee are_valid_clarifications one_addressee refl x.clarifications c (and_right alone numbered two));
    }

pub first_of_five : (a b c d e : Bool) → (a && b && c && d && e) ≡ true → a ≡ true
first_of_five a b c d e v = and_left a b (and_left (a && b) c (and_left (a && b && c) d (and_left (a && b && c && d) e v)))

-- it goes to all, or to a group or a team that is there
pub goes_to : (x : ContestState) (c : Clarification) → is_valid x ≡ true → Has x.clarifications c → is_an_addressee x.fixed c.addressee ≡ true
goes_to x c valid h =
    first_of_five (is_an_addressee x.fixed c.addressee) (is_some (account_named x.fixed.accounts c.account)) (option_map_or (λ problem. nat_lt problem (length x.fixed.settings.problems)) c.problem true)
    (option_map_or (has_clarification x) c.reply true) (is_well_sent x.fixed c) (all_has (is_valid_clarification x) x.clarifications c (tests x valid).alone h)

has_addressee : (f : FixedPart) (p : Addressee) → is_an_addressee f p ≡ true → Has (addressees f.settings) p
has_addressee f ToAll h = inl refl
has_addressee f (ToGroup group) h =
    inr (has_front (map ToGroup (group_places f.settings)) (map ToTeam (team_places f.settings)) (ToGroup group) (has_map ToGroup (group_places f.settings) group (has_below (length f.settings.groups) group (ltb-true group (length f.settings.groups) h))))
has_addressee f (ToTeam team) h =
    inr (has_back (map ToGroup (group_places f.settings)) (map ToTeam (team_places f.settings)) (ToTeam team) (has_map ToTeam (team_places f.settings) team (has_team f.settings team (ltb-true team (length f.settings.teams) h))))

pub own_number : (x : ContestState) (c : Clarification) → is_valid x ≡ true → Has x.clarifications c → c.number ≤ TEAM_REQUESTS + JURY_CLARIFICATIONS
own_number x c valid h =
    let cs = clarifications_to c.addressee x.clarifications in
    let here : Has cs c = has_filter (λ (d : Clarification). same_addressee d.addressee c.addressee) x.clarifications c h (addressed_itself c.addressee) in
    let low = not_greater (λ (d : Clarification). d.number) 1 cs c ((tests x valid).series c).numbers here in
    omega (arith, low, ((tests x valid).series c).few)

-- what an id begins with: `g` for one to all or to a group, `c` for one of a team
abbrev jury_letter : ℕ
jury_letter = 103

abbrev team_letter : ℕ
team_letter = 99

-- there are no more teams and groups than there may be
pub record HasFew (f : FixedPart) : Type 0 where
  pub teams : length f.settings.teams ≤ TEAMS
  pub groups : length f.settings.groups ≤ GROUPS

pub has_few : (x : ContestState) → is_valid x ≡ true → HasFew x.fixed
has_few x valid =
    let s = is_settings x (parts x valid).settings in
    record { teams = s.few_teams; groups = s.few_groups }

-- a number, a `-` and another number tell both, where the first is one more than a place
both_numbers : (i j m n most : ℕ) → i ≤ most → j ≤ most → most < 2 ^ 63 → m < 2 ^ 64 → n < 2 ^ 64
    → (decimal (i + 1) ++ 45 ∷ []) ++ decimal m ≡ (decimal (j + 1) ++ 45 ∷ []) ++ decimal n → (i ≡ j) × (m ≡ n)
both_numbers i j m n most li lj small lm ln e =
    let both = dashed (i + 1) m (j + 1) n (omega (arith, li, small)) lm (omega (arith, lj, small)) ln (sym (append_assoc (decimal (i + 1)) (45 ∷ []) (decimal m)) ∙ (e ∙ append_assoc (decimal (j + 1)) (45 ∷ []) (decimal n))) in
    (omega (arith, both.0), both.1)

-- an id of one to all is none of one to a group
all_or_group : (group m n : ℕ) → group ≤ GROUPS → 45 ∷ decimal m ≡ (decimal (group + 1) ++ 45 ∷ []) ++ decimal n → ⊥
all_or_group group m n l e = undashed (group + 1) (decimal m) (decimal n) (omega (arith, l)) (e ∙ append_assoc (decimal (group + 1)) (45 ∷ []) (decimal n))

-- an id tells the addressee and the number
pub one_id : (f : FixedPart) (p q : Addressee) (m n : ℕ) → HasFew f → is_an_addressee f p ≡ true → is_an_addressee f q ≡ true
    → m < 2 ^ 64 → n < 2 ^ 64 → clarification_id p m ≡ clarification_id q n → (same_addressee p q ≡ true) × (m ≡ n)
one_id f ToAll ToAll m n few hp hq lm ln e = (refl, decimal_injective m n lm ln (cc e))
one_id f ToAll (ToGroup h) m n few hp hq lm ln e = (let there = ltb-true h (length f.settings.groups) hq in absurd (all_or_group h m n (omega (arith, few.groups, there)) (cc e)))
one_id f (ToGroup g) ToAll m n few hp hq lm ln e = (let there = ltb-true g (length f.settings.groups) hp in absurd (all_or_group g n m (omega (arith, few.groups, there)) (cc e)))
one_id f (ToGroup g) (ToGroup h) m n few hp hq lm ln e =
    let there_g = ltb-true g (length f.settings.groups) hp in
    let there_h = ltb-true h (length f.settings.groups) hq in
    let both = both_numbers g h m n GROUPS (omega (arith, few.groups, there_g)) (omega (arith, few.groups, there_h)) (omega arith) lm ln (cc e) in
    (subst (λ z. same_addressee (ToGroup g) (ToGroup z) ≡ true) both.0 (addressed_itself (ToGroup g)), both.1)
one_id f (ToGroup g) (ToTeam u) m n few hp hq lm ln e = (let heads : jury_letter ≡ team_letter = cc e in absurd (omega (arith, heads)))
one_id f (ToTeam t) (ToGroup h) m n few hp hq lm ln e = (let heads : team_letter ≡ jury_letter = cc e in absurd (omega (arith, heads)))
one_id f ToAll (ToTeam u) m n few hp hq lm ln e = (let heads : jury_letter ≡ team_letter = cc e in absurd (omega (arith, heads)))
one_id f (ToTeam t) ToAll m n few hp hq lm ln e = (let heads : team_letter ≡ jury_letter = cc e in absurd (omega (arith, heads)))
one_id f (ToTeam t) (ToTeam u) m n few hp hq lm ln e =
    let there_t = ltb-true t (length f.settings.teams) hp in
    let there_u = ltb-true u (length f.settings.teams) hq in
    let both = both_numbers t u m n TEAMS (omega (arith, few.teams, there_t)) (omega (arith, few.teams, there_u)) (omega arith) lm ln (cc e) in
    (subst (λ z. same_addressee (ToTeam t) (ToTeam z) ≡ true) both.0 (addressed_itself (ToTeam t)), both.1)

-- one addressee has one clarification with a number
pub one_clarification : (x : ContestState) (c d : Clarification) → is_valid x ≡ true → Has x.clarifications c → Has x.clarifications d → same_addressee c.addressee d.addressee ≡ true → c.number ≡ d.number → c ≡ d
one_clarification x c d valid hc hd same number =
    let to_one : Clarification → Bool = λ e. same_addressee e.addressee d.addressee in
    one_row (λ (e : Clarification). e.number) 1 (clarifications_to d.addressee x.clarifications) c d ((tests x valid).series d).numbers
    (has_filter to_one x.clarifications c hc same) (has_filter to_one x.clarifications d hd (addressed_itself d.addressee)) number

-- what is gathered of an addressee is what is heard of its clarifications
of_addressee : (a : Audience) (x : ContestState) (p : Addressee) (v : SeenClarification) → Has (heard_of a x p) v → IsHeard a x v
of_addressee a x p v h =
    let go : (b : Bool) → hears a x.fixed.settings p ≡ b → Has (if b then map (seen_clarification a x.fixed.settings) (clarifications_to p x.clarifications) else []) v → IsHeard a x v = elim [
      | true ↦ λ e k. (let m = map_has (seen_clarification a x.fixed.settings) (clarifications_to p x.clarifications) v k in
          let f = filter_has (λ (c : Clarification). same_addressee c.addressee p) x.clarifications m.item m.there in
          record { clarification = m.item; there = f.0; hears = subst (λ q. hears a x.fixed.settings q ≡ true) (sym (same_is_one m.item.addressee p f.1)) e; told = m.is })
      | false ↦ λ e k. absurd k
    ] in
    go (hears a x.fixed.settings p) refl h

abbrev gathered : Audience → ContestState → List SeenClarification
gathered a x = flat_map (heard_of a x) (addressees x.fixed.settings)

from_gathered : (a : Audience) (x : ContestState) (v : SeenClarification) → Has (gathered a x) v → IsHeard a x v
from_gathered a x v h = let r = has_flat (heard_of a x) (addressees x.fixed.settings) v h in of_addressee a x r.item v r.gives

pub listed_heard : (a : Audience) (x : ContestState) (v : SeenClarification) → Has (seen_clarifications a x) v → IsHeard a x v
listed_heard a x v h = from_gathered a x v (nothing_added clarification_cmp (gathered a x) v h)

-- what ties with a clarification that is heard is that clarification
no_ties : (a : Audience) (x : ContestState) → is_valid x ≡ true → (v w : SeenClarification) → IsHeard a x v → IsHeard a x w → clarification_cmp w v ≡ Equal → w ≡ v
no_ties a x valid v w iv iw e =
    let c = iw.clarification in
    let d = iv.clarification in
    let small_c : c.number < 2 ^ 64 = omega (arith, own_number x c valid iw.there) in
    let small_d : d.number < 2 ^ 64 = omega (arith, own_number x d valid iv.there) in
    let e' : clarification_cmp (seen_clarification a x.fixed.settings c) (seen_clarification a x.fixed.settings d) ≡ Equal = ap (λ z. clarification_cmp z (seen_clarification a x.fixed.settings d)) (sym iw.told) ∙ (ap (clarification_cmp w) (sym iv.told) ∙ e) in
    let ids : clarification_id c.addressee c.number ≡ clarification_id d.addressee d.number = exact_bytes _ _ (both_equal _ _ e').1 in
    let both = one_id x.fixed c.addressee d.addressee c.number d.number (has_few x valid) (goes_to x c valid iw.there) (goes_to x d valid iv.there) small_c small_d ids in
    iw.told ∙ (ap (seen_clarification a x.fixed.settings) (one_clarification x c d valid iw.there iv.there both.0 both.1) ∙ sym iv.told)

pub heard_listed : (a : Audience) (x : ContestState) → is_valid x ≡ true → (v : SeenClarification) → IsHeard a x v → Has (seen_clarifications a x) v
heard_listed a x valid v i =
    let c = i.clarification in
    let rows = map (seen_clarification a x.fixed.settings) (clarifications_to c.addressee x.clarifications) in
    let row : Has rows (seen_clarification a x.fixed.settings c) = has_map (seen_clarification a x.fixed.settings) (clarifications_to c.addressee x.clarifications) c
    (has_filter (λ (d : Clarification). same_addressee d.addressee c.addressee) x.clarifications c i.there (addressed_itself c.addressee)) in
    let go : (b : Bool) → b ≡ true → Has (if b then rows else []) (seen_clarification a x.fixed.settings c) = elim [ true ↦ λ e. row | false ↦ λ e. absurd (false≢true e) ] in
    let told : Has (heard_of a x c.addressee) (seen_clarification a x.fixed.settings c) = go (hears a x.fixed.settings c.addressee) i.hears in
    let here : Has (gathered a x) v = subst (λ w. Has (gathered a x) w) (sym i.told)
    (flat_has (heard_of a x) (addressees x.fixed.settings) c.addressee (seen_clarification a x.fixed.settings c) (has_addressee x.fixed c.addressee (goes_to x c valid i.there)) told) in
    nothing_lost clarification_order (gathered a x) v here (λ w h e. no_ties a x valid v w i (from_gathered a x w h) e)

-- whoever lists in order just what is heard has the same list
pub one_list : (a : Audience) (x : ContestState) → is_valid x ≡ true → (vs : List SeenClarification) → IsInOrder (λ v w. is_lt (clarification_cmp v w)) vs
    → ((v : SeenClarification) → Has vs v ↔ IsHeard a x v) → vs ≡ seen_clarifications a x
one_list a x valid vs up same =
    same_order (λ v w. is_lt (clarification_cmp v w)) (strict clarification_order) vs (seen_clarifications a x) up (heard_rises a x)
    (λ v h. heard_listed a x valid v ((same v).0 h)) (λ v h. (same v).1 (listed_heard a x v h))
