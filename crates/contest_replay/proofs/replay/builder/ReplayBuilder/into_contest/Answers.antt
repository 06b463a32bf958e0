use Rattle.contest_replay.proofs.ReplayStateLemmas.{few_submissions}
use Rattle.contest_replay.proofs.ReplayUntil.{reads_valid}
use Rattle.contest_replay.proofs.replay.builder.ReplayBuilder.into_contest.Goals as goal

pub new-requires : goal.new-requires
new-requires c =
    let s = c.self.inside.settings in
    let us = c.self.inside.submissions.items in
    let valid = c.teams-teams.ensures.valid in
    record {
      settings = valid;
      reads = reads_valid s us c.self.inside.teams.items c.self.invariant;
      few = few_submissions s us c.self.inside.teams.items c.self.invariant valid.few_teams;
    }
