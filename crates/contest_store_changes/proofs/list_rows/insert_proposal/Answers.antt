use Rattle.std.proofs.Common.{refl}
use Rattle.contest_types.specs.declared.entry.Entry.TheVariants.{NewProposal}
use Rattle.contest_store_changes.proofs.AppendLemmas.{unfit}
use Rattle.contest_store_changes.proofs.FittingNumbers.{proposal_fits}
use Rattle.contest_store_changes.proofs.list_rows.insert_proposal.Goals as goal

pub returns : goal.returns
returns g c = c.insert_row-2.ensures c.args.lists.now (NewProposal c.args.proposal.now) (λ x sound held may. (refl, cc))

pub returns-then-not-both_fit : goal.returns-then-not-both_fit
returns-then-not-both_fit g c = c.insert_row.ensures c.args.lists.now (NewProposal c.args.proposal.now) (λ x sound held may. absurd (unfit c.if-not-both_fit.ensures (proposal_fits x c.args.proposal.now sound may)))
