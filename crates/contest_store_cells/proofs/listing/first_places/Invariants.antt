use Rattle.std.proofs.Common.{take}
use Rattle.contest_store_cells.specs.Listing.{is_seen}
use Rattle.contest_store_cells.proofs.ListedWalk.{Walked}
use Rattle.contest_store_cells.proofs.listing.first_places.Given as goal

-- the first of the submissions so far
abbrev pub invariant-loop-submission : goal.invariant-loop-submission
invariant-loop-submission l = Walked l.teams (take l.submission-index l.submissions) (is_seen l.seen) l.places.items
