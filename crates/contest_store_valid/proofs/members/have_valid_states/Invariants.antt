use Rattle.std.proofs.Common.{◌≡◌, drop}
use Rattle.std.specs.List.{list_all}
use Rattle.contest_types.specs.ValidRejudgings.{is_valid_state}
use Rattle.contest_types.specs.declared.rejudging.Member.{Member}
use Rattle.contest_store_valid.proofs.members.have_valid_states.Given as goal

abbrev pub invariant-loop-member : goal.invariant-loop-member
invariant-loop-member l = list_all (λ (m : Member). is_valid_state l.fixed m.state) l.members ≡ list_all (λ (m : Member). is_valid_state l.fixed m.state) (drop l.member-index l.members)
