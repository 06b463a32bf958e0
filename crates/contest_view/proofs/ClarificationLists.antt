-- What is served of clarifications.
use Rattle.std.proofs.Common.{◌≡◌, ◌∙◌, ◌<◌, ℕ, Bool, true, false, List, Option, Some, None, refl, sym, ap, subst, arith}
use Rattle.std.specs.Prelude.{◌^◌, if◌then◌else◌}
use Rattle.std.specs.List.{filter_map}
use Rattle.std.specs.Option.{option_map, option_and_then}
use Rattle.std.specs.Ordering.{eq_by_cmp}
use Rattle.std.proofs.lemmas.List.{map-id}
use Rattle.std.proofs.lemmas.Map.Lookups.{exact_bytes}
use Rattle.contest_types.specs.Laws.{IsHeard}
use Rattle.contest_types.specs.Order.{Has}
use Rattle.contest_types.specs.Sight.{SeenClarification, clarification_cmp, seen_clarification, seen_clarifications, sees_clarification}
use Rattle.contest_types.specs.State.{ContestState, FixedPart, same_addressee}
use Rattle.contest_types.specs.Valid.{is_valid}
use Rattle.contest_types.specs.VisibleIds.{clarification_id}
use Rattle.contest_types.specs.declared.audience.Audience.{Audience}
use Rattle.contest_types.specs.declared.clarification.Clarification.{Clarification}
use Rattle.contest_types.proofs.AddClarification.{addressed_itself}
use Rattle.contest_types.proofs.HeardWhole.{goes_to, has_few, heard_listed, listed_heard, one_clarification, one_id, one_list, own_number, tests}
use Rattle.contest_types.proofs.SeenWhole.{both_equal}
use Rattle.contest_view.specs.Clarifications.{clarification_found, clarification_items, heard_cmp, heard_row, heard_total, heard_where}
use Rattle.contest_objects.specs.ClarificationObjects.{clarification_data, clarification_item}
use Rattle.contest_objects.specs.Items.{Item, IsOrderOf, found_in, object_in}
use Rattle.contest_objects.specs.JsonTokens.{data_tokens, value_tokens}
use Rattle.contest_view.proofs.Listed.{HaveOwnIds, IsSeenOf, Serves, found_is, items_are}
use Rattle.contest_objects.proofs.ListingLemmas.{ShownOf, all_served, shown_where, where_shown}
use Rattle.contest_view.proofs.SeriesApart.{apart}
use Rattle.contest_types.proofs.InOrderLemmas.{is_equal}

-- an id tells the clarification
told_apart : (x : ContestState) → is_valid x ≡ true → (c d : Clarification) → Has x.clarifications c → Has x.clarifications d → clarification_id c.addressee c.number ≡ clarification_id d.addressee d.number
    → (same_addressee c.addressee d.addressee ≡ true) × (c.number ≡ d.number)
told_apart x valid c d hc hd same =
    let small_c : c.number < 2 ^ 64 = omega (arith, own_number x c valid hc) in
    let small_d : d.number < 2 ^ 64 = omega (arith, own_number x d valid hd) in
    one_id x.fixed c.addressee d.addressee c.number d.number (has_few x valid) (goes_to x c valid hc) (goes_to x d valid hd) small_c small_d same

heard_of : (a : Audience) (x : ContestState) → is_valid x ≡ true → IsSeenOf x.clarifications (heard_where a x.fixed.settings) heard_cmp clarification_cmp (seen_clarifications a x)
heard_of a x valid =
    let st = x.fixed.settings in
    let shown : (v : SeenClarification) → IsHeard a x v → ShownOf (heard_where a st) x.clarifications v = λ v i.
    record { row = i.clarification; there = i.there; is = shown_where (sees_clarification a st i.clarification) i.hears (seen_clarification a st i.clarification) ∙ ap Some (sym i.told) } in
    let heard : (v : SeenClarification) → ShownOf (heard_where a st) x.clarifications v → IsHeard a x v = λ v f.
    (let i = where_shown (sees_clarification a st f.row) (seen_clarification a st f.row) v f.is in record { clarification = f.row; there = f.there; hears = i.0; told = i.1 }) in
    let is : (c : Clarification) (v : SeenClarification) → heard_where a st c ≡ Some v → v ≡ seen_clarification a st c = λ c v e. (where_shown (sees_clarification a st c) (seen_clarification a st c) v e).1 in
    record {
      total = heard_total;
      apart = apart (λ (c d : Clarification). same_addressee c.addressee d.addressee) (λ c. addressed_itself c.addressee) (λ (c : Clarification). c.number) (eq_by_cmp heard_cmp) x.clarifications
          (λ c. record { first = 1; numbers = ((tests x valid).series c).numbers })
          (λ c d hc hd e. (let both = told_apart x valid d c hd hc (sym (exact_bytes _ _ (both_equal _ _ (is_equal (heard_cmp c d) e)).1)) in (both.0, sym both.1)));
      keeps = λ c d v w f g. sym (ap (λ u. clarification_cmp u w) (is c v f) ∙ ap (clarification_cmp (seen_clarification a st c)) (is d w g));
      has = λ v. ((λ h. shown v (listed_heard a x v h)), (λ f. heard_listed a x valid v (heard v f)));
      alone = λ vs up same. one_list a x valid vs up (λ v. ((λ h. heard v ((same v).0 h)), (λ i. (same v).1 (shown v i))));
    }

serves : (a : Audience) (x : ContestState) → Serves (heard_where a x.fixed.settings) (λ c. c) (heard_row x.fixed a) (λ v. Some (clarification_item x.fixed v))
serves a x c =
    let go : (o : Option SeenClarification) → option_map (clarification_item x.fixed) o ≡ option_and_then (λ v. Some (clarification_item x.fixed v)) o = elim [ None ↦ refl | (Some v) ↦ refl ] in
    go (heard_where a x.fixed.settings c)

own_ids : (a : Audience) (x : ContestState) → is_valid x ≡ true → HaveOwnIds x.clarifications (λ c. c) (heard_row x.fixed a)
own_ids a x valid c d i j hc hd ic jd same =
    let id : (e : Clarification) (k : Item) → heard_row x.fixed a e ≡ Some k → k.id ≡ clarification_id e.addressee e.number = λ e k h.
    (let go : (b : Bool) → option_map (clarification_item x.fixed) (if b then Some (seen_clarification a x.fixed.settings e) else None) ≡ Some k → k.id ≡ clarification_id e.addressee e.number = elim [
      | true ↦ λ g. (let is : clarification_item x.fixed (seen_clarification a x.fixed.settings e) ≡ k = cc g in ap (λ (m : Item). m.id) (sym is))
      | false ↦ λ g. absurd (cc g)
    ] in
    go (sees_clarification a x.fixed.settings e) h) in
    let both = told_apart x valid c d hc hd (sym (id c i ic) ∙ (same ∙ id d j jd)) in
    one_clarification x c d valid hc hd both.0 both.1

-- the tokens of one that is heard are those of its row
pub heard_tokens : (f : FixedPart) (a : Audience) (c : Clarification) → sees_clarification a f.settings c ≡ true → data_tokens (clarification_data f (seen_clarification a f.settings c)) ≡ value_tokens (object_in (heard_row f a c))
heard_tokens f a c h =
    let seen = seen_clarification a f.settings c in
    let go : (b : Bool) → b ≡ true → data_tokens (clarification_data f seen) ≡ value_tokens (object_in (option_map (clarification_item f) (if b then Some seen else None))) = elim [ true ↦ λ e. refl | false ↦ λ e. absurd (cc e) ] in
    go (sees_clarification a f.settings c) h

pub clarifications_are : (a : Audience) (x : ContestState) → is_valid x ≡ true → (order : List Clarification) → IsOrderOf heard_cmp x.clarifications order → filter_map (heard_row x.fixed a) order ≡ clarification_items a x
clarifications_are a x valid order l =
    items_are x.clarifications (heard_where a x.fixed.settings) (λ c. c) heard_cmp clarification_cmp (seen_clarifications a x) (heard_of a x valid) (heard_row x.fixed a) (λ v. Some (clarification_item x.fixed v)) (serves a x) order
    (subst (λ rows. IsOrderOf heard_cmp rows order) (sym (map-id x.clarifications)) l)
    ∙ all_served (clarification_item x.fixed) (seen_clarifications a x)

pub clarification_is : (a : Audience) (x : ContestState) → is_valid x ≡ true → (id : List ℕ) → found_in (filter_map (heard_row x.fixed a) x.clarifications) id ≡ clarification_found a x id
clarification_is a x valid id =
    ap (λ rows. found_in (filter_map (heard_row x.fixed a) rows) id) (sym (map-id x.clarifications))
    ∙ (found_is x.clarifications (heard_where a x.fixed.settings) (λ c. c) heard_cmp clarification_cmp (seen_clarifications a x) (heard_of a x valid) (heard_row x.fixed a) (λ v. Some (clarification_item x.fixed v)) (serves a x) (own_ids a x valid) id
    ∙ ap (λ is. found_in is id) (all_served (clarification_item x.fixed) (seen_clarifications a x)))
