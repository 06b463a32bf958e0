-- What was heard of clarifications is heard for good.
use Rattle.std.proofs.Common.{◌≡◌, ◌∙◌, ◌-◌, ℕ, true, false, List, [], Option, Some, None, arith, length, inr, refl, sym, ap, subst}
use Rattle.std.specs.Prelude.{◌&&◌, ◌==◌, is_some, nat_le, nat_lt, if◌then◌else◌}
use Rattle.std.specs.List.{list_all, list_any}
use Rattle.std.specs.Option.{option_and_then, option_map, option_map_or}
use Rattle.std.proofs.lemmas.Bool.{leb-true, ltb-true}
use Rattle.serde_json.specs.Data.{object}
use Rattle.contest_types.specs.Accounts.{account_named}
use Rattle.contest_types.specs.Masks.{is_audience}
use Rattle.contest_types.specs.Order.{Has}
use Rattle.contest_types.specs.ProblemPlaces.{problem_id_at}
use Rattle.contest_types.specs.Series.{in_each}
use Rattle.contest_types.specs.Sight.{heard_reference, hears, seen_clarification, seen_clarifications, sees_clarification}
use Rattle.contest_types.specs.State.{ContestState, FixedPart}
use Rattle.contest_types.specs.Valid.{is_valid}
use Rattle.contest_types.specs.ValidClarifications.{are_valid_clarifications, in_one_scope, keys_are_own, to_one_addressee, has_clarification, is_an_addressee, is_valid_clarification, is_well_sent}
use Rattle.contest_types.specs.VisibleIds.{clarification_id}
use Rattle.contest_types.specs.declared.audience.Audience.{Audience}
use Rattle.contest_types.specs.declared.audience.Audience.TheVariants as audience
use Rattle.contest_types.specs.declared.clarification.Addressee.{Addressee}
use Rattle.contest_types.specs.declared.clarification.Addressee.TheVariants as addressee
use Rattle.contest_types.specs.declared.clarification.Clarification.{Clarification}
use Rattle.contest_types.specs.declared.clarification.Reference.{Reference}
use Rattle.contest_types.specs.declared.objects.Group.{Group}
use Rattle.contest_types.specs.declared.objects.Problem.{Problem}
use Rattle.contest_types.specs.declared.objects.Team.{Team}
use Rattle.contest_types.proofs.GrownSettings.{at_front}
use Rattle.contest_types.proofs.HeardWhole.{heard_listed, listed_heard}
use Rattle.contest_types.proofs.InOrderLemmas.{has_front, has_map, map_has}
use Rattle.contest_types.proofs.PlaceLemmas.{and_left, and_right}
use Rattle.contest_types.proofs.SeenWhole.{all_has}
use Rattle.contest_types.proofs.ValidParts.{parts}
use Rattle.contest_objects.specs.ClarificationObjects.{clarification_item, clarification_members, group_of, reference_id, team_of}
use Rattle.contest_view.specs.Clarifications.{clarification_items}
use Rattle.contest_operations.specs.Growing.{Grows, IsFront}
use Rattle.contest_operations.proofs.Fronts.{Extends, extends, team_stays}
use Rattle.contest_desk.proofs.RepeatLemmas.{runs_grow}
use Rattle.contest_laws.specs.Ids.{ClarificationsStay}
use Rattle.contest_laws.proofs.IdLaws.{some_stand, still_valid}

-- who is there hears of what is there as before
hears_stays : (f g : FixedPart) (a : Audience) → Extends f g → is_audience f.settings a ≡ true → (to : Addressee) → hears a g.settings to ≡ hears a f.settings to
hears_stays f g a h there addressee.All = refl
hears_stays f g audience.Public h there (addressee.Group group) = refl
hears_stays f g (audience.Team number) h there (addressee.Group group) =
    let some = ltb-true 0 number (and_left (nat_lt 0 number) (nat_le number (length f.settings.teams)) there) in
    let most = leb-true number (length f.settings.teams) (and_right (nat_lt 0 number) (nat_le number (length f.settings.teams)) there) in
    ap (λ b. nat_lt 0 number && b) (team_stays (λ (t : Team). list_any (λ k. k == group) t.groups) false (λ t. refl) f g (number - 1) h (omega (arith, some, most)))
hears_stays f g audience.Jury h there (addressee.Group group) = refl
hears_stays f g a h there (addressee.Team team) = refl

reply_stays : (f g : FixedPart) (a : Audience) → Extends f g → is_audience f.settings a ≡ true → (reply : Option Reference) → option_and_then (heard_reference a g.settings) reply ≡ option_and_then (heard_reference a f.settings) reply
reply_stays f g a h there None = refl
reply_stays f g a h there (Some r) = (let none : Option Reference = None in ap (λ b. if b then Some r else none) (hears_stays f g a h there r.addressee))

told_stays : (f g : FixedPart) (a : Audience) (c : Clarification) → Extends f g → is_audience f.settings a ≡ true → seen_clarification a g.settings c ≡ seen_clarification a f.settings c
told_stays f g a c h there = ap (λ reply. record { addressee = c.addressee; number = c.number; from_jury = c.from_jury; problem = c.problem; reply = reply; text = c.text; time = c.time }) (reply_stays f g a h there c.reply)

-- what it names is there
record Names (f : FixedPart) (c : Clarification) : Type 0 where
  pub addressee : is_an_addressee f c.addressee ≡ true
  pub problem : option_map_or (λ p. nat_lt p (length f.settings.problems)) c.problem true ≡ true

names_there : (x : ContestState) (c : Clarification) → is_valid x ≡ true → Has x.clarifications c → Names x.fixed c
names_there x c valid there =
    let rows = list_all (is_valid_clarification x) x.clarifications in
    let streams = in_each to_one_addressee are_valid_clarifications x.clarifications in
    let all = and_left rows streams (and_left (rows && streams) (in_each in_one_scope keys_are_own x.clarifications) (parts x valid).clarifications) in
    let to = is_an_addressee x.fixed c.addressee in
    let by = is_some (account_named x.fixed.accounts c.account) in
    let on = option_map_or (λ problem. nat_lt problem (length x.fixed.settings.problems)) c.problem true in
    let answers = option_map_or (has_clarification x) c.reply true in
    let one : is_valid_clarification x c ≡ true = all_has (is_valid_clarification x) x.clarifications c all there in
    let named = and_left (to && by && on) answers (and_left (to && by && on && answers) (is_well_sent x.fixed c) one) in
    record { addressee = and_left to by (and_left (to && by) on named); problem = and_right (to && by) on named }

-- its item stays
team_still : (f g : FixedPart) → Extends f g → (to : Addressee) → is_an_addressee f to ≡ true → team_of g.settings to ≡ team_of f.settings to
team_still f g h addressee.All there = refl
team_still f g h (addressee.Group group) there = refl
team_still f g h (addressee.Team team) there = ap Some (team_stays (λ (t : Team). t.id) [] (λ t. refl) f g team h (ltb-true team (length f.settings.teams) there))

group_still : (f g : FixedPart) → Extends f g → (to : Addressee) → is_an_addressee f to ≡ true → group_of g.settings to ≡ group_of f.settings to
group_still f g h addressee.All there = refl
group_still f g h (addressee.Group group) there = ap (λ o. Some (option_map_or (λ (k : Group). k.id) o [])) (at_front f.settings.groups g.settings.groups group h.groups (ltb-true group (length f.settings.groups) there))
group_still f g h (addressee.Team team) there = refl

problem_still : (f g : FixedPart) → Extends f g → (problem : Option ℕ) → option_map_or (λ p. nat_lt p (length f.settings.problems)) problem true ≡ true → option_map (problem_id_at g.settings.problems) problem ≡ option_map (problem_id_at f.settings.problems) problem
problem_still f g h None there = refl
problem_still f g h (Some p) there = ap (λ o. Some (option_map_or (λ (q : Problem). q.id) o [])) (at_front f.settings.problems g.settings.problems p h.problems (ltb-true p (length f.settings.problems) there))

item_still : (f g : FixedPart) (a : Audience) (c : Clarification) → Extends f g → Names f c → clarification_item g (seen_clarification a f.settings c) ≡ clarification_item f (seen_clarification a f.settings c)
item_still f g a c h n =
    let whose = team_still f g h c.addressee n.addressee in
    let group = group_still f g h c.addressee n.addressee in
    let problem = problem_still f g h c.problem n.problem in
    let id = clarification_id c.addressee c.number in
    let none : Option (List ℕ) = None in
    λ i. record {
      id = id;
      object = object (clarification_members (h.start i) (if c.from_jury then none else whose i) id (problem i) (option_map reference_id (option_and_then (heard_reference a f.settings) c.reply)) c.text c.time (group i) (if c.from_jury then whose i else none));
    }

pub clarifications_stay : ClarificationsStay
clarifications_stay a x y items answers valid here run served there =
    let grows : Grows x y = runs_grow x items answers y valid run in
    let made = map_has (clarification_item x.fixed) (seen_clarifications a x) served there in
    let heard = listed_heard a x made.item made.there in
    let c = heard.clarification in
    let front : IsFront x.clarifications y.clarifications = grows.clarifications in
    let still : Has y.clarifications c = subst (λ cs. Has cs c) (sym front.1) (has_front x.clarifications front.0 c heard.there) in
    let h = extends x y grows (inr (some_stand x.clarifications c heard.there)) in
    let hears_it : sees_clarification a y.fixed.settings c ≡ true = hears_stays x.fixed y.fixed a h here c.addressee ∙ heard.hears in
    let told : made.item ≡ seen_clarification a y.fixed.settings c = heard.told ∙ sym (told_stays x.fixed y.fixed a c h here) in
    let listed = heard_listed a y (still_valid x y items answers valid run) made.item (record { clarification = c; there = still; hears = hears_it; told = told }) in
    let same : clarification_item y.fixed made.item ≡ served =
    ap (clarification_item y.fixed) heard.told ∙ item_still x.fixed y.fixed a c h (names_there x c valid heard.there) ∙ ap (clarification_item x.fixed) (sym heard.told) ∙ sym made.is in
    subst (λ k. Has (clarification_items a y) k) same (has_map (clarification_item y.fixed) (seen_clarifications a y) made.item listed)
