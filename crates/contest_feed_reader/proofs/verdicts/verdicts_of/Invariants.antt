use Rattle.std.proofs.Common.{map, take}
use Rattle.contest_feed_reader.specs.LastVerdicts.{AreLast}
use Rattle.contest_feed_reader.proofs.verdicts.verdicts_of.Given as goal

-- the verdicts of the judgements so far
abbrev pub invariant-loop-row : goal.invariant-loop-row
invariant-loop-row l = AreLast (map (λ t. t.id) l.settings.types) l.verdicts (map (λ row. row.object) (take l.row-index l.judgements))
