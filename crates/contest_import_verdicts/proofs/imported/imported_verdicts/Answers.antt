use Rattle.std.proofs.Common.{◌≡◌, ◌+◌, ◌++◌, ◌∷◌, [], subst, sym, take}
use Rattle.std.proofs.lemmas.List.{take_more}
use Rattle.contest_import_verdicts.specs.ImportedVerdicts.{AreImported}
use Rattle.contest_import_verdicts.proofs.imported.imported_verdicts.Goals as goal

pub loop-proposal-preserved : goal.loop-proposal-preserved
loop-proposal-preserved c =
    let ps = c.args.proposals.now in
    let i = c.loop-proposal.proposal-index in
    let grown : take (i + 1) ps ≡ take i ps ++ c.proposal-item.result ∷ [] = rw (← c.proposal-item.is) at (take_more ps i c.proposal-item.result c.loop-proposal-test.true) in
    subst (AreImported c.take_proposal.new.imported) (sym grown) (c.in_ok-take_proposal.ensures (take i ps) c.loop-proposal.invariant)
