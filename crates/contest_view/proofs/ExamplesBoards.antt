-- Worked examples: the rows of a scoreboard as they are written.
use Rattle.std.proofs.Common.{◌≡◌, ℕ, List, None, refl}
use Rattle.std.specs.Prelude.{codes, take}
use Rattle.std.specs.Fmt.{digits}
use Rattle.serde_json.proofs.OnLiterals.{serde_json_on_literals}
use Rattle.serde_json.specs.Written.{compact_text}
use Rattle.contest_types.specs.State.{ContestState}
use Rattle.contest_types.specs.declared.audience.Audience.TheVariants.{Public}
use Rattle.contest_types.proofs.ExampleContest.{empty, hours}
use Rattle.contest_score.specs.Contest.{seen_board}
use Rattle.contest_view.specs.Scoreboards.{rows_data}

-- a contest of two problems with the first teams alone, and no submission
abbrev with_teams : ℕ → ContestState
with_teams teams = record empty { fixed = record empty.fixed { settings = record empty.fixed.settings { teams = take teams empty.fixed.settings.teams } } }

abbrev rows_text : ContestState → List ℕ
rows_text x = let b = seen_board Public (hours 1) None x in compact_text (rows_data x.fixed.settings b.columns b.rows)

no_teams : rows_text (with_teams 0) ≡ codes "[]"
unfolding serde_json_on_literals digits
no_teams = refl

one_team : rows_text (with_teams 1)
    ≡ codes "[{\"problems\":[{\"num_judged\":0,\"num_pending\":0,\"problem_id\":\"a\",\"solved\":false},{\"num_judged\":0,\"num_pending\":0,\"problem_id\":\"b\",\"solved\":false}],\"rank\":1,\"score\":{\"num_solved\":0,\"time\":null,\"total_time\":0},\"team_id\":\"t1\"}]"
unfolding serde_json_on_literals digits
one_team = refl
