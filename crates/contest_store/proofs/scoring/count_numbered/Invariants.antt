use Rattle.std.proofs.Common.{◌≡◌, ℕ, take}
use Rattle.contest_types.specs.State.{submissions_of}
use Rattle.contest_score.specs.CachedCells.{cached_at}
use Rattle.contest_score.proofs.CachedLemmas.{numbered_so_far}
use Rattle.contest_store.proofs.scoring.count_numbered.Given as goal

-- those of the team's submissions so far
abbrev pub invariant-loop-place : goal.invariant-loop-place
invariant-loop-place l = (t p : ℕ) → cached_at l.cells t p ≡ numbered_so_far l.lists l.number (take l.place-index (submissions_of l.team l.lists.submissions)) (cached_at l.fn.cells) t p
