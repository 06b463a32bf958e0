use Rattle.std.specs.HashMap.{get}
use Rattle.std.specs.Map.{count_at}
use Rattle.contest_store_valid.proofs.TableLemmas.{AreCounted}
use Rattle.contest_store_valid.proofs.numbering.numbered.Given as goal

abbrev pub invariant-loop-key : goal.invariant-loop-key
invariant-loop-key g l = AreCounted g.K.PartialEq.eq l.keys l.key-index l.numbers.items (count_at (get g.K.PartialEq.eq l.counts))
