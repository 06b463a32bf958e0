use Rattle.std.proofs.Common.{◌≡◌, map, take}
use Rattle.contest_types.specs.declared.clarification.Clarification.{Clarification}
use Rattle.contest_store_valid.specs.Keys.{keyed}
use Rattle.contest_store_valid.specs.Talk.{whose, read_sent}
use Rattle.contest_store_valid.proofs.senders.keys_of.Given as goal

abbrev pub invariant-loop-clarification : goal.invariant-loop-clarification
invariant-loop-clarification l = map read_sent l.keys.items ≡ keyed whose (λ (c : Clarification). c.key) (take l.clarification-index l.clarifications)
