use Rattle.std.proofs.Common.{◌≡◌, ℕ, take}
use Rattle.contest_score.specs.LastVerdicts.{last_type, type_in}
use Rattle.contest_score.proofs.last_verdicts.last_verdicts.Given as goal

-- the last of the releases so far
abbrev pub invariant-loop-release : goal.invariant-loop-release
invariant-loop-release l = (team number : ℕ) → type_in l.last team number ≡ last_type (take l.release-index l.releases) team number
