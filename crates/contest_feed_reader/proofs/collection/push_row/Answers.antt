use Rattle.std.proofs.Common.{ℕ, ◌≡◌, ◌∙◌, Some, ap, length, subst, arith}
use Rattle.std.specs.Prelude.{nat_eq}
use Rattle.std.specs.Cmp.Lexicographic.{pointwise}
use Rattle.std.specs.HashMap.{UpdatesBy}
use Rattle.contest_types.proofs.PlaceLemmas.{key_eq}
use Rattle.contest_feed_reader.proofs.SlotLemmas.{IsSlotted-push, puts_new}
use Rattle.contest_feed_reader.proofs.collection.push_row.Goals as goal

pub returns-clause-rows : goal.returns-clause-rows
returns-clause-rows g c = rw (c.in-Ok.ensures.items, c.reserve.ensures.items) (puts_new c.args.slots.now.items c.args.places.now c.args.row c.requires.slotted c.requires.new)

pub returns-clause-slotted : goal.returns-clause-slotted
returns-clause-slotted g c =
    let key = c.in_ok-key.ensures.items ∙ c.as_bytes.ensures.bytes in
    let count : c.len.result ≡ length c.args.slots.now.items = omega (arith, ap length c.reserve.ensures.items) in
    let counted = subst (λ (n : ℕ). UpdatesBy key_eq (key_eq c.in_ok-key.key) c.args.places.now c.insert.new.self (Some n)) count c.in_ok-insert.ensures.updates in
    let updates = subst (λ id. UpdatesBy key_eq (λ k. pointwise nat_eq id k.items) c.args.places.now c.insert.new.self (Some (length c.args.slots.now.items))) key counted in
    rw (c.in-Ok.ensures.items, c.reserve.ensures.items) (IsSlotted-push c.args.slots.now.items c.args.row c.args.places.now c.insert.new.self c.requires.slotted c.requires.new updates)
