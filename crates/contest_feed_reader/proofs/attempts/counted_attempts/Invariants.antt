use Rattle.std.proofs.Common.{◌≡◌, ◌++◌, List, drop, map}
use Rattle.std.specs.List.{filter_map}
use Rattle.contest_feed_reader.specs.FeedContests.{attempt_by}
use Rattle.contest_feed_reader.specs.LastVerdicts.{AreLast}
use Rattle.contest_feed_reader.specs.Verdicts.{verdict_in}
use Rattle.contest_feed_reader.specs.declared.submissions.FeedJudgement.{FeedJudgement}
use Rattle.contest_feed_reader.proofs.attempts.counted_attempts.Given as goal

-- the attempts so far, and those of the submissions that are left
abbrev pub invariant-loop-row : goal.invariant-loop-row
invariant-loop-row l = (js : List FeedJudgement) → AreLast (map (λ t. t.id) l.settings.types) l.verdicts js
    → l.attempts.items ++ filter_map (attempt_by l.settings.head.duration (map (λ t. t.id) l.settings.teams) (map (λ p. p.id) l.settings.problems) (verdict_in (map (λ t. t.id) l.settings.types) js)) (drop l.row-index l.submissions)
    ≡ filter_map (attempt_by l.settings.head.duration (map (λ t. t.id) l.settings.teams) (map (λ p. p.id) l.settings.problems) (verdict_in (map (λ t. t.id) l.settings.types) js)) l.submissions
