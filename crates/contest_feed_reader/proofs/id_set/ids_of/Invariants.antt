use Rattle.std.proofs.Common.{◌≡◌, List, ℕ, take}
use Rattle.contest_types.specs.Places.{is_among}
use Rattle.contest_feed_reader.specs.IdSets.{is_in_set}
use Rattle.contest_feed_reader.specs.References.{ids_of}
use Rattle.contest_feed_reader.proofs.id_set.ids_of.Given as goal

-- the ids of the rows so far
abbrev pub invariant-loop-row : goal.invariant-loop-row
invariant-loop-row g l = (text : List ℕ) → is_in_set l.ids text ≡ is_among (take l.row-index (ids_of l.rows)) text
