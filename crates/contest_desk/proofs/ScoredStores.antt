-- The cells of a store's contest, where that is known under another name.
use Rattle.std.proofs.Common.{◌≡◌, true}
use Rattle.contest_score.specs.CachedCells.{cell_cached}
use Rattle.contest_score.specs.Contest.{contest_cell}
use Rattle.contest_score.specs.declared.cached_cells.CachedCells.{CachedCells}
use Rattle.contest_types.specs.State.{ContestState}
use Rattle.contest_types.specs.Valid.{is_valid}

pub scored_as : (c : CachedCells) (x y : ContestState) → y ≡ x → is_valid x ≡ true → (is_valid y ≡ true → cell_cached c ≡ (λ mask. contest_cell mask y)) → cell_cached c ≡ (λ mask. contest_cell mask x)
scored_as c x y same valid scored = rw same at (scored (rw same valid))
