use Rattle.contest_feed_reader.specs.References.{ids_of}
use Rattle.contest_feed_reader.proofs.left_out.left_out_of.Goals as goal

pub returns : goal.returns
returns c =
    let ids = rw c.deref.ensures.value at c.in_ok-ids.ensures in
    let submissions = rw c.deref-2.ensures.value at c.uncounted.ensures in
    let judgements = rw c.deref-3.ensures.value at (c.unplaced.ensures (ids_of c.args.rows.now.submissions.items) ids) in
    λ i. record { submissions = submissions i; judgements = judgements i }
