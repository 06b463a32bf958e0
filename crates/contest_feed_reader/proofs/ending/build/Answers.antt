use Rattle.std.proofs.Common.{subst}
use Rattle.contest_types.specs.Setup.{IsValid}
use Rattle.contest_feed_reader.specs.EndedFeeds.{tables_of}
use Rattle.contest_feed_reader.proofs.AttemptLemmas.{is_replay}
use Rattle.contest_feed_reader.proofs.FaultlessLemmas.{rows_fit}
use Rattle.contest_feed_reader.proofs.ending.build.Goals as goal

pub settings_of-requires : goal.settings_of-requires
settings_of-requires c = rows_fit c.args.contest.now.object.duration c.args.rows.now c.requires.different c.requires.faultless

pub new-requires : goal.new-requires
new-requires c =
    let contest = c.args.contest.now in
    let same = c.in_ok-settings.ensures in
    let attempts = c.in_ok-attempts.ensures contest same in
    rw (attempts, same) (is_replay contest (tables_of c.args.rows.now) c.requires.faultless (subst IsValid same c.teams-teams.ensures.valid))
