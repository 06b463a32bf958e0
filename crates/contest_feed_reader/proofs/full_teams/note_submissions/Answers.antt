use Rattle.std.proofs.Common.{arith, take}
use Rattle.std.proofs.lemmas.List.{length-take}
use Rattle.contest_feed_reader.proofs.FaultLemmas.{counted_few}
use Rattle.contest_feed_reader.proofs.full_teams.note_submissions.Goals as goal

pub count_submission-requires : goal.count_submission-requires
count_submission-requires c =
    let before = take c.loop-place.place c.args.submissions.now in
    let team = c.index-submissions-place.result.object.team in
    let few = counted_few c.args.duration team before in
    let long = length-take c.loop-place.place c.args.submissions.now in
    let is = c.loop-place.invariant.counted team in
    omega (arith, few, long, is)
