use Rattle.std.specs.HashMap.{get}
use Rattle.std.specs.Map.{count_at}
use Rattle.contest_store_valid.proofs.TableLemmas.{count_more}
use Rattle.contest_store_valid.proofs.numbering.numbered.Goals as goal

pub loop-key-preserved : goal.loop-key-preserved
loop-key-preserved g c =
    count_more g.K.PartialEq.eq c.args.keys.now c.loop-key.key-index c.key-item.result c.loop-key.numbers.items c.push.new.self.items
    (count_at (get g.K.PartialEq.eq c.loop-key.counts)) (count_at (get g.K.PartialEq.eq c.next_number.new.counts)) c.in_ok-number.number
    c.loop-key-test.true c.key-item.is c.loop-key.invariant c.in_ok-number.ensures.number c.in_ok-push.ensures.items c.in_ok-number.ensures.counts
