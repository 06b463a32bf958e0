use Rattle.std.proofs.Common.{sym}
use Rattle.contest_feed_reader.proofs.SlotLemmas.{IsSlotted-take, slot_within, takes_none, takes_there}
use Rattle.contest_feed_reader.proofs.collection.Collection.take.Goals as goal

pub set_slot-requires : goal.set_slot-requires
set_slot-requires g c = slot_within c.self.inside.slots.items c.self.inside.places c.args.id.now c.in-Some.place c.self.invariant (sym c.in-Some.ensures.value)

pub invariant_of-self : goal.invariant_of-self
invariant_of-self g c =
    rw c.set_slot.ensures (IsSlotted-take c.self.inside.slots.items c.args.id.now c.in-Some.place c.self.inside.places c.remove.new.self c.self.invariant (sym c.in-Some.ensures.value) c.in-Some.ensures.updates)

pub returns-in-Some : goal.returns-in-Some
returns-in-Some g c =
    rw (c.set_slot.ensures, ← c.self.view_is) (takes_there c.self.inside.slots.items c.self.inside.places c.args.id.now c.in-Some.place c.self.invariant (sym c.in-Some.ensures.value))

pub returns-in-None : goal.returns-in-None
returns-in-None g c =
    rw (← c.self.view_is) (takes_none c.self.inside.slots.items c.self.inside.places c.args.id.now c.self.invariant (sym c.in-None.ensures.value))
