use Rattle.contest_replay.proofs.ReplayUntil.{replay_valid, replay_admitted}
use Rattle.contest_replay.proofs.replay.contest.ReplayContest.submissions.Goals as goal

pub returns-clause-admitted : goal.returns-clause-admitted
returns-clause-admitted c =
    let s = c.self.inside.settings in
    let us = c.self.inside.submissions.items in
    rw (← c.self.view_is, c.as_slice.ensures.value) (λ thawed. replay_admitted s us thawed c.self.invariant.reads)

pub returns-clause-valid : goal.returns-clause-valid
returns-clause-valid c =
    let s = c.self.inside.settings in
    let us = c.self.inside.submissions.items in
    rw (← c.self.view_is, c.as_slice.ensures.value) (λ thawed. replay_valid s us thawed c.self.invariant.settings c.self.invariant.reads)
