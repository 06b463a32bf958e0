use Rattle.std.proofs.Common.{take}
use Rattle.contest_import_verdicts.specs.ImportedVerdicts.{AreImported}
use Rattle.contest_import_verdicts.proofs.imported.imported_verdicts.Given as goal

-- those of the proposals so far
abbrev pub invariant-loop-proposal : goal.invariant-loop-proposal
invariant-loop-proposal l = AreImported l.imported (take l.proposal-index l.proposals)
