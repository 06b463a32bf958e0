use Rattle.std.proofs.Common.{rules}
use Rattle.contest_types.specs.State.{with_member_state}
use Rattle.contest_types.proofs.ChangeLemmas.{changed_by, unchanged}
use Rattle.contest_lists.proofs.lists.set_member.Goals as goal

pub returns-in-Some : goal.returns-in-Some
returns-in-Some c = changed_by 1 c.args.n c.in-Some.at (with_member_state c.args.place c.args.state) c.args.rejudgings.now.items c.put_member_state.new.rejudgings.items c.in-Some.ensures.there.0 (search rules) c.put_member_state.ensures

pub returns-in-None : goal.returns-in-None
returns-in-None c = unchanged 1 c.args.n (with_member_state c.args.place c.args.state) c.args.rejudgings.now.items (search rules)
