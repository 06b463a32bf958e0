use Rattle.std.proofs.Common.{◌≡◌, drop}
use Rattle.std.specs.List.{list_all}
use Rattle.contest_types.specs.declared.proposal.Proposal.{Proposal}
use Rattle.contest_store_valid.specs.Accounts.{has_proposer}
use Rattle.contest_store_valid.proofs.proposals.are_proposed.Given as goal

abbrev pub invariant-loop-proposal : goal.invariant-loop-proposal
invariant-loop-proposal l = list_all (λ (p : Proposal). has_proposer l.accounts p.proposer) l.proposals ≡ list_all (λ (p : Proposal). has_proposer l.accounts p.proposer) (drop l.proposal-index l.proposals)
