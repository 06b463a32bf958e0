use Rattle.std.proofs.lemmas.Result.{IfOk-weaker}
use Rattle.contest_feed_reader.proofs.SlotLemmas.{slots_different}
use Rattle.contest_feed_reader.proofs.collection.Collection.into_rows.Goals as goal

pub returns-clause-different : goal.returns-clause-different
returns-clause-different g c = IfOk-weaker c.standing.result _ _ (λ rows h. rw h (slots_different c.self.inside.slots.items c.self.inside.places c.self.invariant)) c.standing.ensures
