use Rattle.std.proofs.Common.{◌∙◌, ap, rules, arith, inr}
use Rattle.contest_types.specs.State.{changed_at}
use Rattle.contest_types.specs.declared.rejudging.Member.{Member}
use Rattle.contest_types.proofs.ChangeLemmas.{changed_by, unchanged}
use Rattle.contest_lists.proofs.lists.with_state.Goals as goal

pub returns-then-place-len : goal.returns-then-place-len
returns-then-place-len c =
    c.from_vec.ensures ∙ (changed_by 0 c.args.place c.args.place (λ (m : Member). record m { state = c.args.state }) c.into_vec-members.result.items c.with_state_at.result.items (omega arith) (search rules) c.with_state_at.ensures
    ∙ ap (changed_at 0 c.args.place (λ (m : Member). record m { state = c.args.state })) c.into_vec-members.ensures)

pub returns-else-place-len : goal.returns-else-place-len
returns-else-place-len c =
    c.from_vec-else-place-len.ensures ∙ (unchanged 0 c.args.place (λ (m : Member). record m { state = c.args.state }) c.into_vec-members.result.items (inr (search rules))
    ∙ ap (changed_at 0 c.args.place (λ (m : Member). record m { state = c.args.state })) c.into_vec-members.ensures)
