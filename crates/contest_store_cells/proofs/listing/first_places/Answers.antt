use Rattle.contest_store_cells.specs.Listing.{is_seen}
use Rattle.contest_store_cells.proofs.ListedWalk.{walk_more, walk_past}
use Rattle.contest_store_cells.proofs.listing.first_places.Goals as goal
use Rattle.contest_store_cells.proofs.listing.first_places.Goals.{then-submission-teams+in_ok-take_first, else-submission-teams}

pub loop-submission-preserved : goal.loop-submission-preserved
loop-submission-preserved c =
    let teams = c.args.teams in
    let ss = c.args.submissions.now in
    let i = c.loop-submission.submission-index in
    let s = c.submission-item.result in
    let seen = is_seen c.loop-submission.seen in
    let places = c.loop-submission.places.items in
    elim c.if-submission-teams.branch [
      | then-submission-teams+in_ok-take_first w ↦
          rw (w.seen-is, w.places-is) (walk_more teams ss i s seen (is_seen w.take_first.new.seen) places w.take_first.new.places.items c.loop-submission-test.true c.submission-item.is w.if-submission-teams.true c.loop-submission.invariant w.in_ok-take_first.ensures.seen w.in_ok-take_first.ensures.places)
      | else-submission-teams w ↦ rw (w.seen-is, w.places-is) (walk_past teams ss i s seen places c.loop-submission-test.true c.submission-item.is w.if-submission-teams.false c.loop-submission.invariant)
    ]
