use Rattle.std.specs.HashSet.{contains}
use Rattle.contest_store_valid.proofs.TableLemmas.{set_more}
use Rattle.contest_store_valid.proofs.standing.set_of.Goals as goal

pub loop-key-preserved : goal.loop-key-preserved
loop-key-preserved g c = λ k.
    set_more g.K.PartialEq.eq c.args.keys.now c.loop-key.key-index c.key-item.result k (contains g.K.PartialEq.eq c.loop-key.set k) (contains g.K.PartialEq.eq c.insert.new.self k)
    c.loop-key-test.true c.key-item.is (c.loop-key.invariant k) (c.in_ok-insert.ensures.updates.0 k)
