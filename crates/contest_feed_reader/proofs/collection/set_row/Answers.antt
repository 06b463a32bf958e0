use Rattle.contest_feed_reader.proofs.SlotLemmas.{IsSlotted-set, puts_there, slot_within}
use Rattle.contest_feed_reader.proofs.collection.set_row.Goals as goal

pub set_slot-requires : goal.set_slot-requires
set_slot-requires g c = slot_within c.args.slots.now.items c.args.places.now c.args.row.id c.args.place c.requires.slotted c.requires.there

pub returns-clause-rows : goal.returns-clause-rows
returns-clause-rows g c = rw c.set_slot.ensures (puts_there c.args.slots.now.items c.args.places.now c.args.row c.args.place c.requires.slotted c.requires.there)

pub returns-clause-slotted : goal.returns-clause-slotted
returns-clause-slotted g c = rw c.set_slot.ensures (IsSlotted-set c.args.slots.now.items c.args.places.now c.args.row c.args.place c.requires.slotted c.requires.there)
