use Rattle.std.proofs.Common.{◌≡◌, take}
use Rattle.std.specs.HashSet.{contains}
use Rattle.std.specs.List.{list_any}
use Rattle.contest_store_valid.proofs.standing.set_of.Given as goal

abbrev pub invariant-loop-key : goal.invariant-loop-key
invariant-loop-key g l = (k : g.row.K.Denot) → contains g.K.PartialEq.eq l.set k ≡ list_any (λ j. g.K.PartialEq.eq j k) (take l.key-index l.keys)
