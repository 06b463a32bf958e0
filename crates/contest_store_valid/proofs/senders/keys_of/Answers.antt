use Rattle.std.proofs.Common.{map}
use Rattle.std.specs.Option.{option_map}
use Rattle.contest_types.specs.declared.clarification.Clarification.{Clarification}
use Rattle.contest_store_valid.specs.Talk.{whose, read_sent}
use Rattle.contest_store_valid.proofs.TalkLemmas.{given_more}
use Rattle.contest_store_valid.proofs.senders.keys_of.Goals as goal

pub loop-clarification-preserved : goal.loop-clarification-preserved
loop-clarification-preserved c =
    given_more (λ (r : Clarification). option_map (λ k. (whose r, k)) r.key) c.args.clarifications.now c.loop-clarification.clarification-index c.clarification-item.result (map read_sent c.loop-clarification.keys.items) (map read_sent c.push_key.new.keys.items)
    c.loop-clarification-test.true c.clarification-item.is c.loop-clarification.invariant c.in_ok-push_key.ensures
