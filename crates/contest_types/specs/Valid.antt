-- When a contest is valid: one test for each list (own).
use Rattle.std.specs.Prelude.{Bool, ◌&&◌}
use Rattle.contest_types.specs.State.{ContestState}
use Rattle.contest_types.specs.ValidFixed.{has_valid_settings, has_valid_clock, has_valid_accounts}
use Rattle.contest_types.specs.ValidSubmissions.{has_valid_submissions, has_valid_proposals, has_valid_releases}
use Rattle.contest_types.specs.ValidClarifications.{has_valid_clarifications}
use Rattle.contest_types.specs.ValidRejudgings.{has_valid_rejudgings}

-- a valid contest
abbrev pub is_valid : ContestState → Bool
is_valid x =
    has_valid_settings x && has_valid_clock x && has_valid_accounts x && has_valid_submissions x && has_valid_proposals x
    && has_valid_releases x && has_valid_clarifications x && has_valid_rejudgings x
