use Rattle.std.proofs.Common.{◌<◌, arith, length}
use Rattle.contest_http.proofs.FieldLemmas.{none, twice, values-hit}
use Rattle.contest_http.proofs.fields.find_in.Goals as goal

pub returns : goal.returns
returns c =
    let head = c.args.head.now in
    let spans = c.args.spans.now in
    let name = c.args.name.now in
    let here : c.first-at.result < length spans = omega (arith, c.first-at.ensures.bound, c.if-at-spans.false) in
    let there : c.first-next.result < length spans = omega (arith, c.first-next.ensures.bound, c.if-next-spans.false) in
    let first = values-hit head name spans c.first-at.result none here (c.first-at.ensures.named none here) in
    let second = values-hit head name spans c.first-next.result none there (c.first-next.ensures.named none there) in
    twice _ _ _ _ _ _ _ c.first-at.ensures.before first c.first-next.ensures.before second
