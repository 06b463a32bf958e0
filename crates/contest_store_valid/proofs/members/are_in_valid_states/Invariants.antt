use Rattle.std.proofs.Common.{◌≡◌, drop}
use Rattle.std.specs.List.{list_all}
use Rattle.contest_types.specs.ValidRejudgings.{is_valid_state}
use Rattle.contest_types.specs.declared.rejudging.Member.{Member}
use Rattle.contest_types.specs.declared.rejudging.Rejudging.{Rejudging}
use Rattle.contest_store_valid.proofs.members.are_in_valid_states.Given as goal

abbrev pub invariant-loop-rejudging : goal.invariant-loop-rejudging
invariant-loop-rejudging l = list_all (λ (r : Rejudging). list_all (λ (m : Member). is_valid_state l.fixed m.state) r.members) l.rejudgings ≡ list_all (λ (r : Rejudging). list_all (λ (m : Member). is_valid_state l.fixed m.state) r.members) (drop l.rejudging-index l.rejudgings)
