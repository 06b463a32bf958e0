-- Clarifications as they are served (Contest API 2023-06, clarifications).
use Rattle.std.specs.Prelude.{ℕ, List, [], ◌∷◌, map, Option, Some, None, if◌then◌else◌}
use Rattle.std.specs.Cmp.{IsTotalOrder}
use Rattle.std.specs.Option.{option_map}
use Rattle.std.specs.declared.cmp.Ordering.{Ordering}
use Rattle.std.proofs.lemmas.Cmp.{nat_cmp_total, nat_list_cmp_total, on_total, then_total}
use Rattle.serde_json.specs.Data.{Data}
use Rattle.contest_types.specs.Order.{by_each, by_number, by_text}
use Rattle.contest_types.specs.Setup.{Setup}
use Rattle.contest_types.specs.Sight.{SeenClarification, seen_clarification, seen_clarifications, sees_clarification}
use Rattle.contest_types.specs.State.{ContestState, FixedPart}
use Rattle.contest_types.specs.VisibleIds.{clarification_id}
use Rattle.contest_types.specs.declared.audience.Audience.{Audience}
use Rattle.contest_types.specs.declared.clarification.Clarification.{Clarification}
use Rattle.contest_objects.specs.Items.{Item, array_of, found_in}
use Rattle.contest_objects.specs.ClarificationObjects.{clarification_item}

-- those that an audience hears, by time and id
abbrev pub clarification_items : Audience → ContestState → List Item
clarification_items a x = map (clarification_item x.fixed) (seen_clarifications a x)

abbrev pub clarifications_data : Audience → ContestState → Data
clarifications_data a x = array_of (clarification_items a x)

abbrev pub clarification_found : Audience → ContestState → (id : List ℕ) → Option Data
clarification_found a x = found_in (clarification_items a x)

-- Words of private functions, from here on: nothing public is said with them.

-- what is heard of a clarification, if anything is
abbrev pub heard_where : Audience → Setup → Clarification → Option SeenClarification
heard_where a s c = if sees_clarification a s c then Some (seen_clarification a s c) else None

-- as it is served
abbrev pub heard_row : FixedPart → Audience → Clarification → Option Item
heard_row f a c = option_map (clarification_item f) (heard_where a f.settings c)

-- by time, then by the bytes of the id
abbrev pub heard_cmp : Clarification → Clarification → Ordering
heard_cmp = by_each (by_number (λ c. c.time) ∷ by_text (λ c. clarification_id c.addressee c.number) ∷ [])

pub heard_total : IsTotalOrder heard_cmp
heard_total = then_total (on_total (λ (c : Clarification). c.time) nat_cmp_total) (on_total (λ (c : Clarification). clarification_id c.addressee c.number) nat_list_cmp_total)
