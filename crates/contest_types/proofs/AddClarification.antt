-- Adding what may be added keeps a contest valid: clarifications and marks.
use Rattle.std.proofs.Common.{◌≡◌, ℕ, ◌+◌, Bool, true, false, List, [], ◌∷◌, ◌++◌, length, map, filter, Option, Some, None, refl, sym, ap, arith, rules}
use Rattle.std.specs.Prelude.{◌&&◌, ◌||◌, ◌==◌, not, nat_le, nat_lt, count_by, is_some, if◌then◌else◌}
use Rattle.std.specs.List.{list_all}
use Rattle.std.specs.Option.{option_map_or}
use Rattle.std.specs.Str.{bytes_eq}
use Rattle.std.proofs.lemmas.Bool.{false≢true, eqb-true, eq-eqb}
use Rattle.std.proofs.lemmas.Slice.Eq.{bytes_eq-Decides}
use Rattle.contest_types.specs.MomentText.{latest}
use Rattle.contest_types.specs.Clock.{moment_after}
use Rattle.contest_types.specs.Series.{in_each, count_up, is_new_key}
use Rattle.contest_types.specs.State.{ContestState, same_addressee, clarifications_to, add, NewClarification, SetStart, SetThaw, SetFinalized}
use Rattle.contest_types.specs.ValidSubmissions.{has_valid_submissions}
use Rattle.contest_types.specs.ValidClarifications.{has_clarification, is_valid_clarification, to_one_addressee, is_request, are_valid_clarifications, Scope, OfTeam, OfAccount, same_scope, scope_of, in_one_scope, keys_are_own, has_valid_clarifications}
use Rattle.contest_types.specs.Valid.{is_valid}
use Rattle.contest_types.specs.Addable.{is_addable, is_next_clarification}
use Rattle.contest_types.specs.declared.limits.TheConstants.{TEAM_REQUESTS, JURY_CLARIFICATIONS}
use Rattle.contest_types.specs.declared.clarification.Clarification.{Clarification}
use Rattle.contest_types.specs.declared.clarification.Addressee.{Addressee}
use Rattle.contest_types.specs.declared.clarification.Addressee.TheVariants as addressee
use Rattle.contest_types.specs.declared.clarification.Reference.{Reference}
use Rattle.contest_types.specs.ValidFixed.{has_valid_clock}
use Rattle.contest_types.proofs.PlaceLemmas.{and_left, and_right, both_true, all_push, same_bytes}
use Rattle.contest_types.proofs.SetupLemmas.{all_wider}
use Rattle.contest_types.proofs.SightLemmas.{same_is_one}
use Rattle.contest_types.proofs.SeriesLemmas.{IsTogether, in_each_push, in_any, some_more, room, count_push}
use Rattle.contest_types.proofs.ValidParts.{parts, whole, four}
use Rattle.contest_types.proofs.Tests.{weaker, kept}
use Rattle.contest_types.proofs.AddLemmas.{next_number, next_key, clock_kept}

pub addressed_itself : (to : Addressee) → same_addressee to to ≡ true
addressed_itself addressee.All = refl
addressed_itself (addressee.Group group) = eq-eqb group group refl
addressed_itself (addressee.Team team) = eq-eqb team team refl

pub one_addressee : IsTogether to_one_addressee
one_addressee = record {
  itself = λ c. addressed_itself c.addressee;
  same = λ c d e h. ap (same_addressee e.addressee) (sym (same_is_one d.addressee c.addressee h));
}

scoped_itself : (scope : Scope) → same_scope scope scope ≡ true
scoped_itself (OfTeam to) = addressed_itself to
scoped_itself (OfAccount id) = (bytes_eq-Decides id id).1 refl

-- who writes in one scope writes in it with the same others
scoped_same : (p q r : Scope) → same_scope p q ≡ true → same_scope p r ≡ same_scope q r
scoped_same (OfTeam to) (OfTeam other) (OfTeam third) h = ap (same_addressee third) (sym (same_is_one other to h))
scoped_same (OfTeam to) (OfTeam other) (OfAccount third) h = refl
scoped_same (OfTeam to) (OfAccount other) r h = absurd (false≢true h)
scoped_same (OfAccount id) (OfTeam other) r h = absurd (false≢true h)
scoped_same (OfAccount id) (OfAccount other) (OfTeam third) h = refl
scoped_same (OfAccount id) (OfAccount other) (OfAccount third) h = ap (bytes_eq third) (sym (same_bytes other id h))

one_scope : IsTogether in_one_scope
one_scope = record {
  itself = λ c. scoped_itself (scope_of c);
  same = λ c d e h. scoped_same (scope_of c) (scope_of d) (scope_of e) h;
}

-- one more in its direction
one_direction : (cs : List Clarification) (c : Clarification) (jury : Bool) → c.from_jury ≡ jury
    → nat_le (count_by is_request cs) TEAM_REQUESTS ≡ true → nat_le (count_by (λ (d : Clarification). d.from_jury) cs) JURY_CLARIFICATIONS ≡ true
    → (if jury then nat_lt (count_by (λ (d : Clarification). d.from_jury) cs) JURY_CLARIFICATIONS else nat_lt (count_by is_request cs) TEAM_REQUESTS) ≡ true
    → (nat_le (count_by is_request (cs ++ c ∷ [])) TEAM_REQUESTS && nat_le (count_by (λ (d : Clarification). d.from_jury) (cs ++ c ∷ [])) JURY_CLARIFICATIONS) ≡ true
one_direction cs c true e requests jury n =
    let same : count_by is_request cs + 0 ≡ count_by is_request cs = omega arith in
    rw (count_push is_request cs c false (ap not e), count_push (λ (d : Clarification). d.from_jury) cs c true e, same) (both_true _ _ requests (room _ JURY_CLARIFICATIONS n))
one_direction cs c false e requests jury n =
    let same : count_by (λ (d : Clarification). d.from_jury) cs + 0 ≡ count_by (λ (d : Clarification). d.from_jury) cs = omega arith in
    rw (count_push is_request cs c true (ap not e), count_push (λ (d : Clarification). d.from_jury) cs c false e, same) (both_true _ _ (room _ TEAM_REQUESTS n) jury)

three : (a b c : Bool) → (b && c) ≡ true → a ≡ true → (a && b && c) ≡ true
three a b c h t = rw (t, and_left b c h) (and_right b c h)

clarification_follows : (cs : List Clarification) (c : Clarification) → are_valid_clarifications cs ≡ true → is_next_clarification cs c ≡ true → are_valid_clarifications (cs ++ c ∷ []) ≡ true
clarification_follows cs c h n =
    let numbers = count_up (map (λ (d : Clarification). d.number) cs) in
    let requests = nat_le (count_by is_request cs) TEAM_REQUESTS in
    let jury = nat_le (count_by (λ (d : Clarification). d.from_jury) cs) JURY_CLARIFICATIONS in
    let two : (numbers && requests) ≡ true = and_left (numbers && requests) jury h in
    three _ _ _ (one_direction cs c c.from_jury refl (and_right numbers requests two) (and_right (numbers && requests) jury h) (and_right (c.number == length cs + 1) _ n))
    (next_number (λ (d : Clarification). d.number) cs c (and_left numbers requests two) (and_left _ _ n))

replies_kept : (x y : ContestState) → ((r : Reference) → has_clarification x r ≡ true → has_clarification y r ≡ true) → (reply : Option Reference) → option_map_or (has_clarification x) reply true ≡ true → option_map_or (has_clarification y) reply true ≡ true
replies_kept x y there None h = refl
replies_kept x y there (Some r) h = there r h

pub adding_clarification : (x : ContestState) (c : Clarification) → is_valid x ≡ true → is_addable x (NewClarification c) ≡ true → is_valid (add x (NewClarification c)) ≡ true
adding_clarification x c h a =
    let v = parts x h in
    let y = add x (NewClarification c) in
    let cs = clarifications_to c.addressee x.clarifications in
    let own = filter (in_one_scope c) x.clarifications in
    let asked = four (is_some x.fixed.marks.start) (is_valid_clarification x c) (is_next_clarification cs c) (is_new_key (map (λ (d : Clarification). d.key) own) c.key) a in
    let there : (r : Reference) → has_clarification x r ≡ true → has_clarification y r ≡ true =
    λ r. some_more (λ (d : Clarification). same_addressee d.addressee r.addressee && (d.number == r.number)) x.clarifications (c ∷ []) in
    let still : (d : Clarification) → is_valid_clarification x d ≡ true → is_valid_clarification y d ≡ true =
    λ d. weaker (weaker kept (replies_kept x y there d.reply)) kept in
    let alone = list_all (is_valid_clarification x) x.clarifications in
    let numbered = in_each to_one_addressee are_valid_clarifications x.clarifications in
    let keyed = in_each in_one_scope keys_are_own x.clarifications in
    let two : (alone && numbered) ≡ true = and_left (alone && numbered) keyed v.clarifications in
    let numbers = and_right alone numbered two in
    let keys = and_right (alone && numbered) keyed v.clarifications in
    let each : in_each to_one_addressee are_valid_clarifications y.clarifications ≡ true =
    in_each_push to_one_addressee are_valid_clarifications one_addressee x.clarifications c numbers (clarification_follows cs c (in_any to_one_addressee are_valid_clarifications one_addressee refl x.clarifications c numbers) asked.third) in
    let scope : in_each in_one_scope keys_are_own y.clarifications ≡ true =
    in_each_push in_one_scope keys_are_own one_scope x.clarifications c keys (next_key (λ (d : Clarification). d.key) own c (in_any in_one_scope keys_are_own one_scope refl x.clarifications c keys) asked.fourth) in
    let clock : has_valid_clock y ≡ true = clock_kept _ (is_some x.fixed.marks.start) _ _ v.clock asked.first in
    let clarifications : has_valid_clarifications y ≡ true = both_true _ _ (both_true _ _ (all_push (is_valid_clarification y) x.clarifications c (all_wider (is_valid_clarification x) (is_valid_clarification y) still x.clarifications (and_left alone numbered two)) (still c asked.second)) each) scope in
    whole y (search (rules, v, clock, clarifications))

pub empty_of : {X : Type 0} (xs : List X) → (length xs == 0) ≡ true → xs ≡ []
empty_of [] h = refl
empty_of (x ∷ xs) h = absurd (omega (arith, eqb-true (length (x ∷ xs)) 0 h))

pub adding_start : (x : ContestState) (start : Option ℕ) → is_valid x ≡ true → is_addable x (SetStart start) ≡ true → is_valid (add x (SetStart start)) ≡ true
adding_start x start h a =
    let v = parts x h in
    let y = add x (SetStart start) in
    let none = length x.submissions == 0 in
    let silent = length x.clarifications == 0 in
    let two : (none && silent) ≡ true = and_left (none && silent) _ a in
    let ends : option_map_or (λ end. nat_le end latest) (moment_after start x.fixed.settings.head.duration) true ≡ true = and_right (none && silent) _ a in
    let either : (b : Bool) → (b || (none && silent)) ≡ true = elim [ true ↦ refl | false ↦ two ] in
    let subs : has_valid_submissions y ≡ true = rw (empty_of x.submissions (and_left none silent two)) refl in
    let clock : has_valid_clock y ≡ true = both_true _ _ ends (either (is_some start)) in
    let submissions : has_valid_submissions y ≡ true = subs in
    whole y (search (rules, v, clock, submissions))

pub adding_thaw : (x : ContestState) (thaw : ℕ) → is_valid x ≡ true → is_valid (add x (SetThaw thaw)) ≡ true
adding_thaw x thaw h = h

pub adding_finalized : (x : ContestState) (finalized : ℕ) → is_valid x ≡ true → is_valid (add x (SetFinalized finalized)) ≡ true
adding_finalized x finalized h = h
