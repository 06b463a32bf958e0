use Rattle.contest_store_valid.proofs.StepLemmas.{and_then, and_else}
use Rattle.contest_store_valid.proofs.MemberLemmas.{valid_members}
use Rattle.contest_store_valid.proofs.members.are_valid_members.Goals as goal

pub returns-then-released : goal.returns-then-released
returns-then-released c = and_then _ _ _ (valid_members c.args.lists.now c.in_ok-released.released c.in_ok-stated.stated c.in_ok-released.ensures c.in_ok-stated.ensures) c.if-released.true

pub returns-else-released : goal.returns-else-released
returns-else-released c = and_else _ _ _ (valid_members c.args.lists.now c.in_ok-released.released c.in_ok-stated.stated c.in_ok-released.ensures c.in_ok-stated.ensures) c.if-released.false
