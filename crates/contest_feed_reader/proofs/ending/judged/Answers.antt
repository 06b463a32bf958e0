use Rattle.std.proofs.Common.{map}
use Rattle.std.proofs.lemmas.Result.{IfOk-weaker}
use Rattle.contest_feed_reader.specs.EndedFeeds.{tables_of}
use Rattle.contest_feed_reader.proofs.AttemptLemmas.{attempts_are}
use Rattle.contest_feed_reader.proofs.ending.judged.Goals as goal

pub returns : goal.returns
returns c = λ contest is.
    let r = c.args.rows.now in
    let last = rw c.deref.ensures.value at c.in_ok-verdicts.ensures in
    IfOk-weaker c.attempts_of.result _ _ (λ us h. attempts_are c.args.settings.now contest (tables_of r) us.items is h)
    (rw c.deref-2.ensures.value at (c.attempts_of.ensures (map (λ row. row.object) r.judgements.items) last))
