use Rattle.std.proofs.Common.{◌≡◌, ◌++◌, map, drop}
use Rattle.contest_types.specs.declared.entry.Entry.TheVariants.{NewRelease}
use Rattle.contest_postings.proofs.rejudging.release_entries.Given as goal

-- the entries so far, and those of the releases that are left
abbrev pub invariant-loop-release : goal.invariant-loop-release
invariant-loop-release l = l.entries ++ map NewRelease (drop l.release-index l.releases) ≡ map NewRelease l.releases
