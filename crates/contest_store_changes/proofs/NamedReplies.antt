-- A clarification that one answers stands, so its team and its number are small.
use Rattle.std.proofs.Common.{◌≡◌, ◌∙◌, ◌+◌, ◌<◌, ◌≤◌, ℕ, zero, suc, Bool, true, false, List, [], ◌∷◌, length, map, filter, Option, Some, None, refl, ap, subst, arith}
use Rattle.std.specs.Prelude.{◌&&◌, ◌||◌, ◌==◌, not, nat_le, count_by, cond, if◌then◌else◌, IfSome}
use Rattle.std.specs.List.{list_all, list_any, range_with_len}
use Rattle.std.specs.Option.{option_map_or}
use Rattle.std.proofs.lemmas.Bool.{false≢true, eqb-true, leb-true}
use Rattle.std.proofs.lemmas.Bool.Decides.{nat_tests}
use Rattle.std.proofs.lemmas.List.{length-map}
use Rattle.std.proofs.lemmas.List.Sums.{sum_by-cons}
use Rattle.std.proofs.lemmas.Slice.Eq.{bytes_eq-Decides}
use Rattle.contest_types.specs.Series.{count_up, in_each}
use Rattle.contest_types.specs.Setup.{Setup}
use Rattle.contest_types.specs.State.{ContestState, FixedPart, same_addressee}
use Rattle.contest_types.specs.ValidClarifications.{are_valid_clarifications, has_clarification, has_valid_clarifications, in_one_scope, is_an_addressee, is_request, is_valid_clarification, keys_are_own, to_one_addressee}
use Rattle.contest_types.specs.declared.clarification.Addressee.{Addressee}
use Rattle.contest_types.specs.declared.clarification.Addressee.TheVariants.{All as ToAll, Group as ToGroup, Team as ToTeam}
use Rattle.contest_types.specs.declared.clarification.Clarification.{Clarification}
use Rattle.contest_types.specs.declared.clarification.Reference.{Reference}
use Rattle.contest_types.specs.declared.limits.TheConstants.{GROUPS, TEAMS, TEAM_REQUESTS}
use Rattle.contest_types.proofs.AddClarification.{addressed_itself}
use Rattle.contest_types.proofs.PlaceLemmas.{and_left, and_right, both_true}
use Rattle.contest_types.proofs.SightLemmas.{same_is_one}
use Rattle.contest_store_rows.specs.Laws.{IsWritableReference}
use Rattle.contest_store_rows.specs.ListRows.{audience_number}
use Rattle.contest_store_rows.specs.References.{largest}
use Rattle.contest_types.proofs.HeardWhole.{first_of_five}

-- one that passes, and what all pass it passes too
pub record Reached {X : Type 0} (p : X → Bool) (xs : List X) : Type 0 where
  pub x : X
  pub passes : p x ≡ true
  pub with_all : (q : X → Bool) → list_all q xs ≡ true → q x ≡ true

pub reach : {X : Type 0} (p : X → Bool) (xs : List X) → list_any p xs ≡ true → Reached p xs
reach p [] h = absurd (false≢true h)
reach {X} p (x ∷ xs) h =
    let go : (b : Bool) → p x ≡ b → (b || list_any p xs) ≡ true → Reached p (x ∷ xs) = elim [
      | true ↦ λ e k. record { x = x; passes = e; with_all = λ q all. and_left _ _ all }
      | false ↦ λ e k. (let r = reach p xs k in record { x = r.x; passes = r.passes; with_all = λ q all. r.with_all q (and_right (q x) _ all) })
    ] in
    go (p x) refl h

-- what all have that a filter leaves
pub all_left : {X : Type 0} (p q : X → Bool) (xs : List X) → list_all q (filter p xs) ≡ true → list_all (λ x. not (p x) || q x) xs ≡ true
all_left p q [] h = refl
all_left {X} p q (x ∷ xs) h =
    let go : (b : Bool) → list_all q (if b then x ∷ filter p xs else filter p xs) ≡ true → ((not b || q x) && list_all (λ y. not (p y) || q y) xs) ≡ true = elim [
      | true ↦ λ k. both_true _ _ (and_left _ _ k) (all_left p q xs (and_right (q x) _ k))
      | false ↦ λ k. all_left p q xs k
    ] in
    go (p x) h

-- numbers that count up are no more than there are
small_range : (a n most : ℕ) → a + n ≤ most + 1 → list_all (λ k. nat_le k most) (range_with_len a n) ≡ true
small_range a zero most l = refl
small_range a (suc n) most l =
    let here : nat_le a most ≡ true = grind (arith, nat_tests, l) in
    both_true _ _ here (small_range (a + 1) n most (omega (arith, l)))

all_unmapped : {X Y : Type 0} (f : X → Y) (p : Y → Bool) (xs : List X) → list_all p (map f xs) ≡ true → list_all (λ x. p (f x)) xs ≡ true
all_unmapped f p [] h = refl
all_unmapped f p (x ∷ xs) h = both_true _ _ (and_left _ _ h) (all_unmapped f p xs (and_right (p (f x)) _ h))

pub small_numbers : {X : Type 0} (number : X → ℕ) (xs : List X) → count_up (map number xs) ≡ true → list_all (λ x. nat_le (number x) (length xs)) xs ≡ true
small_numbers number xs h =
    let ns = map number xs in
    let same : ns ≡ range_with_len 1 (length ns) = (bytes_eq-Decides ns (range_with_len 1 (length ns))).0 h in
    let count : length ns ≡ length xs = length-map xs number in
    let all : list_all (λ k. nat_le k (length xs)) (range_with_len 1 (length ns)) ≡ true = small_range 1 (length ns) (length xs) (omega (arith, count)) in
    all_unmapped number (λ k. nat_le k (length xs)) xs (ap (list_all (λ k. nat_le k (length xs))) same ∙ all)

-- each clarification is a request or the jury's
both_directions : (cs : List Clarification) → length cs ≡ count_by is_request cs + count_by (λ (c : Clarification). c.from_jury) cs
both_directions [] = refl
both_directions (c ∷ cs) =
    let rest = both_directions cs in
    let jury : Clarification → Bool = λ d. d.from_jury in
    let one : (b : Bool) → 1 ≡ cond (not b) 1 0 + cond b 1 0 = elim [ true ↦ refl | false ↦ refl ] in
    omega (arith, rest, one c.from_jury, sum_by-cons (λ d. cond (is_request d) 1 0) c cs, sum_by-cons (λ d. cond (jury d) 1 0) c cs)

few_clarifications : (cs : List Clarification) → are_valid_clarifications cs ≡ true → length cs ≤ largest
few_clarifications cs h =
    let numbers = count_up (map (λ (c : Clarification). c.number) cs) in
    let requests = nat_le (count_by is_request cs) TEAM_REQUESTS in
    let two : (numbers && requests) ≡ true = and_left (numbers && requests) _ h in
    let few = leb-true _ _ (and_right numbers requests two) in
    let of_jury = leb-true _ _ (and_right (numbers && requests) _ h) in
    omega (arith, few, of_jury, both_directions cs)

-- there are few teams and groups
pub record IsSmall (s : Setup) : Type 0 where
  pub teams : length s.teams ≤ TEAMS
  pub groups : length s.groups ≤ GROUPS

pub small_addressee : (f : FixedPart) (to : Addressee) → IsSmall f.settings → is_an_addressee f to ≡ true → audience_number to ≤ largest
small_addressee f ToAll few h = omega arith
small_addressee f (ToTeam team) few h =
    let there : team < length f.settings.teams = grind (arith, nat_tests, h) in
    omega (arith, few.teams, there)
small_addressee f (ToGroup group) few h =
    let there : group < length f.settings.groups = grind (arith, nat_tests, h) in
    omega (arith, few.groups, there)

-- so it is with each that stands
module _ (x : ContestState) (few : IsSmall x.fixed.settings) (valid : has_valid_clarifications x ≡ true) where
  abbrev alone : Bool
  alone = list_all (is_valid_clarification x) x.clarifications

  abbrev counted : Bool
  counted = in_each to_one_addressee are_valid_clarifications x.clarifications

  two : (alone && counted) ≡ true
  two = and_left (alone && counted) (in_each in_one_scope keys_are_own x.clarifications) valid

  -- a row of those that belong together with it
  pub small_number : (c : Clarification) → ((q : Clarification → Bool) → list_all q x.clarifications ≡ true → q c ≡ true) → c.number ≤ largest
  small_number c with_all =
      let own = filter (to_one_addressee c) x.clarifications in
      let own_valid : are_valid_clarifications own ≡ true = with_all (λ d. are_valid_clarifications (filter (to_one_addressee d) x.clarifications)) (and_right alone counted two) in
      let numbers = count_up (map (λ (d : Clarification). d.number) own) in
      let requests = nat_le (count_by is_request own) TEAM_REQUESTS in
      let counts : numbers ≡ true = and_left numbers requests (and_left (numbers && requests) _ own_valid) in
      let each = all_left (to_one_addressee c) (λ d. nat_le d.number (length own)) x.clarifications (small_numbers (λ (d : Clarification). d.number) own counts) in
      let itself : to_one_addressee c c ≡ true = addressed_itself c.addressee in
      let here : (not (to_one_addressee c c) || nat_le c.number (length own)) ≡ true = with_all (λ d. not (to_one_addressee c d) || nat_le d.number (length own)) each in
      let low = leb-true c.number (length own) (rw itself at here) in
      omega (arith, low, few_clarifications own own_valid)

  named_is_small : (r : Reference) → has_clarification x r ≡ true → IsWritableReference r
  named_is_small r h =
      let d = reach (λ c. same_addressee c.addressee r.addressee && (c.number == r.number)) x.clarifications h in
      let to : d.x.addressee ≡ r.addressee = same_is_one d.x.addressee r.addressee (and_left _ _ d.passes) in
      let number : d.x.number ≡ r.number = eqb-true d.x.number r.number (and_right (same_addressee d.x.addressee r.addressee) _ d.passes) in
      let is = d.with_all (is_valid_clarification x) (and_left alone counted two) in
      let addressed = first_of_five (is_an_addressee x.fixed d.x.addressee) _ _ _ _ is in
      record {
        addressee = subst (λ to. audience_number to ≤ largest) to (small_addressee x.fixed d.x.addressee few addressed);
        number = subst (λ n. n ≤ largest) number (small_number d.x d.with_all);
      }

  pub replies_are_small : (reply : Option Reference) → option_map_or (has_clarification x) reply true ≡ true → IfSome reply IsWritableReference
  replies_are_small None h = tt
  replies_are_small (Some r) h = named_is_small r h
