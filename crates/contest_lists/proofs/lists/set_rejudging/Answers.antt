use Rattle.std.proofs.Common.{rules}
use Rattle.contest_types.specs.declared.rejudging.Rejudging.{Rejudging}
use Rattle.contest_types.proofs.ChangeLemmas.{changed_by, unchanged}
use Rattle.contest_lists.proofs.lists.set_rejudging.Goals as goal

pub returns-in-Some : goal.returns-in-Some
returns-in-Some c = changed_by 1 c.args.n c.in-Some.place (λ (r : Rejudging). record r { state = c.args.state }) c.args.rejudgings.now.items c.put_state.new.rejudgings.items c.in-Some.ensures.there.0 (search rules) c.put_state.ensures

pub returns-in-None : goal.returns-in-None
returns-in-None c = unchanged 1 c.args.n (λ (r : Rejudging). record r { state = c.args.state }) c.args.rejudgings.now.items (search rules)
