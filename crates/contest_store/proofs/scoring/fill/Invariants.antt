use Rattle.std.proofs.Common.{◌≡◌, ℕ, take}
use Rattle.contest_score.specs.CachedCells.{cached_at}
use Rattle.contest_score.proofs.CachedLemmas.{kept_so_far}
use Rattle.contest_store.proofs.scoring.fill.Given as goal

-- those of the submissions so far
abbrev pub invariant-loop-submission : goal.invariant-loop-submission
invariant-loop-submission l = (t p : ℕ) → cached_at l.cells t p ≡ kept_so_far l.lists (take l.submission-index l.lists.submissions) t p
