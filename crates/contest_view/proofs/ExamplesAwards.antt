-- Worked examples: the awards of a contest as they are written, before it is thawed and after.
use Rattle.std.proofs.Common.{◌≡◌, ◌+◌, ℕ, List, [], ◌∷◌, Some, None, refl}
use Rattle.std.specs.Prelude.{codes}
use Rattle.std.specs.Option.{option_map}
use Rattle.serde_json.proofs.OnLiterals.{serde_json_on_literals}
use Rattle.serde_json.specs.Written.{compact_text}
use Rattle.contest_types.specs.State.{ContestState}
use Rattle.contest_types.specs.declared.audience.Audience.{Audience}
use Rattle.contest_types.specs.declared.audience.Audience.TheVariants as audience
use Rattle.contest_types.proofs.ExampleContest.{empty, hours, minutes, accepted, wrong, compile_error, submitted, released, thawed_at}
use Rattle.contest_view.specs.Awards.{awards_data, award_found}

-- Alpha solves the problem at its third attempt, Beta 20 minutes later at its first; both have 30 minutes
abbrev judged : ContestState
judged = record empty {
  submissions = submitted 0 1 (minutes 5) 0 ∷ submitted 0 2 (minutes 7) 0 ∷ submitted 0 3 (minutes 10 + 59999) 0 ∷ submitted 1 1 (minutes 30) 0 ∷ [];
  releases = released 0 1 1 wrong (minutes 6) ∷ released 0 2 1 compile_error (minutes 8) ∷ released 0 3 1 accepted (minutes 12) ∷ released 1 1 1 accepted (minutes 31) ∷ [];
}

-- results are made final ten minutes after the end
abbrev finalized : ContestState
finalized = record judged { fixed = record judged.fixed { marks = record judged.fixed.marks { finalized = Some (hours 5 + minutes 10) } } }

abbrev read_by : Audience → (now : ℕ) → ContestState → List ℕ
read_by a now x = compact_text (awards_data a now x)

abbrev all_awards : List ℕ
all_awards = codes "[{\"citation\":\"Contest winner\",\"id\":\"winner\",\"team_ids\":[\"t1\"]},{\"citation\":\"Gold medal\",\"id\":\"gold-medal\",\"team_ids\":[\"t1\",\"t2\"]},{\"citation\":\"First to solve problem A\",\"id\":\"first-to-solve-a\",\"team_ids\":[\"t1\"]}]"

team_reads_none : read_by (audience.Team 1) (hours 5 + minutes 11) finalized ≡ codes "[]"
unfolding serde_json_on_literals
team_reads_none = refl

jury_reads_all : read_by audience.Jury (hours 5 + minutes 11) finalized ≡ all_awards
unfolding serde_json_on_literals
jury_reads_all = refl

-- not a moment before the results are final
jury_reads_none : read_by audience.Jury (hours 5 + minutes 9) finalized ≡ codes "[]"
unfolding serde_json_on_literals
jury_reads_none = refl

-- once it is thawed a team reads the same
team_reads_all : read_by (audience.Team 1) (hours 5 + minutes 20) (thawed_at finalized (hours 5 + minutes 20)) ≡ all_awards
unfolding serde_json_on_literals
team_reads_all = refl

-- one by its id, and none by another text
winner_found : option_map compact_text (award_found audience.Jury (hours 5 + minutes 11) finalized (codes "winner")) ≡ Some (codes "{\"citation\":\"Contest winner\",\"id\":\"winner\",\"team_ids\":[\"t1\"]}")
unfolding serde_json_on_literals
winner_found = refl

not_shown : award_found (audience.Team 1) (hours 5 + minutes 11) finalized (codes "winner") ≡ None
not_shown = refl

no_silver : award_found audience.Jury (hours 5 + minutes 11) finalized (codes "silver-medal") ≡ None
no_silver = refl
