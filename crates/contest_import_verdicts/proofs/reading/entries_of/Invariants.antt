use Rattle.std.proofs.Common.{◌≡◌, ◌++◌}
use Rattle.std.specs.List.{flat_map}
use Rattle.contest_rules.specs.Proposing.{entries_of}
use Rattle.contest_import_verdicts.proofs.reading.entries_of.Given as goal

-- the entries so far, and those of the verdicts that are left
abbrev pub invariant-loop-verdict : goal.invariant-loop-verdict
invariant-loop-verdict l = l.entries ++ flat_map entries_of l.verdict-iterator.rest.items ≡ flat_map entries_of l.fn.verdicts
