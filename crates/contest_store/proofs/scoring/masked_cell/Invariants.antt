use Rattle.std.proofs.Common.{◌≡◌, take}
use Rattle.contest_types.specs.State.{submissions_of}
use Rattle.contest_types.specs.declared.sight.Mask.TheVariants.{Full, Held}
use Rattle.contest_score.proofs.OwnCells.{own_cell}
use Rattle.contest_store.proofs.scoring.masked_cell.Given as goal

-- the cell of the team's submissions so far, under either mask
abbrev pub invariant-loop-place : goal.invariant-loop-place
invariant-loop-place l =
    let own = take l.place-index (submissions_of l.team l.lists.submissions) in
    (l.cell.held ≡ own_cell Held l.lists l.problem own) × (l.cell.full ≡ own_cell Full l.lists l.problem own)
