use Rattle.std.proofs.Common.{◌≡◌, ◌++◌, map, drop}
use Rattle.contest_rules.specs.Opening.{member_of}
use Rattle.contest_rules.proofs.opening.members_of.Given as goal

-- the members so far, and those of the candidates that are left
abbrev pub invariant-loop-candidate : goal.invariant-loop-candidate
invariant-loop-candidate l = l.members ++ map member_of (drop l.candidate-index l.candidates) ≡ map member_of l.candidates
