-- Worked examples of feeds: how lines are taken apart, what an event does to a collection, and what a whole
-- feed comes to.
use Rattle.std.proofs.Common.{◌≡◌, true, false, List, ℕ, [], ◌∷◌, ◌++◌, Option, Some, None, Ok, Err, refl}
use Rattle.std.specs.Option.{option_and_then}
use Rattle.std.specs.Prelude.{codes}
use Rattle.std.specs.Str.{chars, is_utf8}
use Rattle.serde_json.proofs.OnLiterals.{serde_json_on_literals}
use Rattle.contest_types.specs.PlainRows.{plain_problem, plain_team, plain_type}
use Rattle.contest_types.specs.declared.refusal.Cause.TheVariants as cause
use Rattle.contest_types.specs.declared.refusal.Refusal.TheVariants.{Malformed, ImportRow}
use Rattle.contest_replay.specs.ReplayLists.{any_language}
use Rattle.contest_files.specs.JsonMembers.{data_of}
use Rattle.contest_feed_reader.specs.Collections.{Change, TakeAll, Take, Put, change_in}
use Rattle.contest_feed_reader.specs.Events.{event_of}
use Rattle.contest_feed_reader.specs.FeedContests.{contest_in_feed}
use Rattle.contest_feed_reader.specs.Lines.{is_blank, lines_of}
use Rattle.contest_feed_reader.specs.Objects.{ContestMembers, contest_members, head_of}

-- the last line may lack its newline, and behind the last newline there is none
two_lines : lines_of (97 ∷ 10 ∷ 10 ∷ 98 ∷ []) ≡ record { text = 97 ∷ []; bytes = 2 } ∷ record { text = []; bytes = 1 } ∷ record { text = 98 ∷ []; bytes = 1 } ∷ []
two_lines = refl

ended : lines_of (97 ∷ 10 ∷ []) ≡ record { text = 97 ∷ []; bytes = 2 } ∷ []
ended = refl

no_line : lines_of [] ≡ []
no_line = refl

keep_alive : is_blank (codes " \t\r") ≡ true
keep_alive = refl

not_blank : is_blank (codes " {") ≡ false
not_blank = refl

-- the contest as each version has it
abbrev cup : ContestMembers
cup = record { name = codes "X"; duration = 18_000_000; freeze = Some 3_600_000; penalty_time = 20 }

abbrev change_of : List ℕ → Option (Change ContestMembers)
change_of line = option_and_then (change_in contest_members) (event_of line)

in_2020 : change_of (codes "{\"id\":\"17\",\"type\":\"contests\",\"op\":\"create\",\"data\":{\"id\":\"x\",\"name\":\"X\",\"duration\":\"5:00:00\",\"scoreboard_freeze_duration\":\"1:00:00\",\"penalty_time\":20}}") ≡ Some (Put (record { id = codes "x"; object = cup }))
unfolding chars data_of is_utf8 serde_json_on_literals
in_2020 = refl

in_2023 : change_of (codes "{\"type\":\"contest\",\"id\":null,\"data\":{\"id\":\"x\",\"name\":\"Y\",\"formal_name\":\"X\",\"duration\":\"5:00:00\",\"scoreboard_freeze_duration\":\"1:00:00\",\"penalty_time\":\"0:20:00\"},\"token\":\"17\"}") ≡ Some (Put (record { id = codes "x"; object = cup }))
unfolding chars data_of is_utf8 serde_json_on_literals
in_2023 = refl

-- an object that its event names, and one that nothing names
by_event : change_of (codes "{\"type\":\"contest\",\"id\":\"x\",\"data\":{\"name\":\"X\",\"duration\":\"5:00:00\",\"scoreboard_freeze_duration\":null}}") ≡ Some (Put (record { id = codes "x"; object = record cup { freeze = None } }))
unfolding chars data_of is_utf8 serde_json_on_literals
by_event = refl

unnamed : change_of (codes "{\"type\":\"contest\",\"id\":null,\"data\":{\"name\":\"X\",\"duration\":\"5:00:00\"}}") ≡ None
unfolding chars data_of is_utf8 serde_json_on_literals
unnamed = refl

-- what takes away: an object, or all
one_gone : change_of (codes "{\"id\":\"18\",\"type\":\"contests\",\"op\":\"delete\",\"data\":{\"id\":\"x\"}}") ≡ Some (Take (codes "x"))
unfolding chars data_of is_utf8 serde_json_on_literals
one_gone = refl

all_gone : change_of (codes "{\"type\":\"contest\",\"id\":null,\"data\":null}") ≡ Some TakeAll
unfolding chars data_of is_utf8 serde_json_on_literals
all_gone = refl

-- lines off their form
no_type : event_of (codes "{\"id\":\"x\",\"data\":null}") ≡ None
unfolding chars data_of is_utf8 serde_json_on_literals
no_type = refl

other_op : event_of (codes "{\"type\":\"runs\",\"op\":\"remove\",\"data\":null}") ≡ None
unfolding chars data_of is_utf8 serde_json_on_literals
other_op = refl

no_data : event_of (codes "{\"type\":\"runs\",\"id\":\"1\"}") ≡ None
unfolding chars data_of is_utf8 serde_json_on_literals
no_data = refl

-- lines with their newlines
abbrev feed : List (List ℕ) → List ℕ
feed [] = []
feed (line ∷ lines) = line ++ 10 ∷ feed lines

-- a whole feed: a group that hides a team, a judgement that isn't valid, a submission before the start and a
-- judgement of a submission that doesn't stand
abbrev told : List (List ℕ)
told =
    codes "{\"type\":\"contest\",\"id\":null,\"data\":{\"id\":\"x\",\"name\":\"X\",\"duration\":\"5:00:00\"}}"
    ∷ codes "{\"type\":\"judgement-types\",\"id\":null,\"data\":[{\"id\":\"AC\",\"name\":\"ok\",\"solved\":true},{\"id\":\"WA\",\"name\":\"no\",\"penalty\":true}]}"
    ∷ codes ""
    ∷ codes "{\"type\":\"problems\",\"id\":\"p\",\"data\":{\"id\":\"p\",\"label\":\"A\",\"name\":\"P\",\"ordinal\":0}}"
    ∷ codes "{\"type\":\"groups\",\"id\":\"g\",\"data\":{\"id\":\"g\",\"hidden\":true}}"
    ∷ codes "{\"type\":\"teams\",\"id\":\"t\",\"data\":{\"id\":\"t\",\"name\":\"T\"}}"
    ∷ codes "{\"type\":\"teams\",\"id\":\"u\",\"data\":{\"id\":\"u\",\"name\":\"U\",\"group_ids\":[\"g\",\"h\"]}}"
    ∷ codes "{\"type\":\"submissions\",\"id\":\"s1\",\"data\":{\"id\":\"s1\",\"team_id\":\"t\",\"problem_id\":\"p\",\"contest_time\":\"0:10:00.000\"}}"
    ∷ codes "{\"type\":\"submissions\",\"id\":\"s2\",\"data\":{\"id\":\"s2\",\"team_id\":\"u\",\"problem_id\":\"p\",\"contest_time\":\"0:05:00\"}}"
    ∷ codes "{\"type\":\"judgements\",\"id\":\"j1\",\"data\":{\"id\":\"j1\",\"submission_id\":\"s1\",\"judgement_type_id\":\"WA\",\"end_contest_time\":\"0:11:00\"}}"
    ∷ codes "{\"type\":\"judgements\",\"id\":\"j2\",\"data\":{\"id\":\"j2\",\"submission_id\":\"s1\",\"judgement_type_id\":\"AC\",\"end_contest_time\":\"0:12:00\",\"valid\":false}}"
    ∷ codes "{\"type\":\"judgements\",\"id\":\"j3\",\"data\":{\"id\":\"j3\",\"submission_id\":\"s2\",\"judgement_type_id\":\"AC\"}}"
    ∷ codes "{\"type\":\"judgements\",\"id\":\"j4\",\"data\":{\"id\":\"j4\",\"submission_id\":\"s9\",\"judgement_type_id\":\"AC\"}}"
    ∷ codes "{\"type\":\"submissions\",\"id\":\"s3\",\"data\":{\"id\":\"s3\",\"team_id\":\"t\",\"problem_id\":\"p\",\"contest_time\":\"-0:01:00\"}}"
    ∷ codes "{\"type\":\"runs\",\"id\":\"r1\",\"data\":{\"id\":\"r1\"}}"
    ∷ []

whole : contest_in_feed (feed told) ≡ Ok (record {
  contest = record {
    settings = record {
      head = head_of (codes "x") (record cup { freeze = None });
      types = plain_type (codes "AC") (codes "ok") true false ∷ plain_type (codes "WA") (codes "no") false true ∷ [];
      languages = any_language ∷ [];
      problems = plain_problem (codes "p") (codes "A") (codes "P") 0 ∷ [];
      groups = [];
      teams = plain_team (codes "t") (codes "T") ∷ record (plain_team (codes "u") (codes "U")) { hidden = true } ∷ [];
    };
    submissions =
        record { team = 1; problem = 0; time = 300_000; verdict = Some 0 }
        ∷ record { team = 0; problem = 0; time = 600_000; verdict = Some 1 }
        ∷ [];
  };
  left_out = record { submissions = 1; judgements = 1 };
})
unfolding chars data_of is_utf8 serde_json_on_literals
whole = refl

-- without a contest, with a line off its form, and with an object that refers to nothing
no_contest : contest_in_feed (feed (codes "{\"type\":\"teams\",\"id\":\"t\",\"data\":{\"id\":\"t\",\"name\":\"T\"}}" ∷ [])) ≡ Err Malformed
unfolding chars data_of is_utf8 serde_json_on_literals
no_contest = refl

off_form : contest_in_feed (feed (codes "{\"type\":\"contest\",\"id\":null,\"data\":{\"id\":\"x\",\"name\":\"X\",\"duration\":\"5:00:00\"}}" ∷ codes "{\"type\":\"teams\",\"id\":\"t\",\"data\":{\"id\":\"t\"}}" ∷ [])) ≡ Err (ImportRow 2 cause.Malformed)
unfolding chars data_of is_utf8 serde_json_on_literals
off_form = refl

no_team : contest_in_feed (feed (codes "{\"type\":\"contest\",\"id\":null,\"data\":{\"id\":\"x\",\"name\":\"X\",\"duration\":\"5:00:00\"}}" ∷ codes "{\"type\":\"problems\",\"id\":\"p\",\"data\":{\"id\":\"p\",\"label\":\"A\",\"name\":\"P\",\"ordinal\":0}}" ∷ codes "{\"type\":\"submissions\",\"id\":\"s1\",\"data\":{\"id\":\"s1\",\"team_id\":\"t\",\"problem_id\":\"p\",\"contest_time\":\"0:10:00.000\"}}" ∷ [])) ≡ Err (ImportRow 3 cause.UnknownReference)
unfolding chars data_of is_utf8 serde_json_on_literals
no_team = refl

-- of two problems with one label the one that was named later is at fault, though it stands first
one_label : contest_in_feed (feed (codes "{\"type\":\"contest\",\"id\":null,\"data\":{\"id\":\"x\",\"name\":\"X\",\"duration\":\"5:00:00\"}}" ∷ codes "{\"type\":\"problems\",\"id\":\"p\",\"data\":{\"id\":\"p\",\"label\":\"A\",\"name\":\"P\",\"ordinal\":0}}" ∷ codes "{\"type\":\"problems\",\"id\":\"q\",\"data\":{\"id\":\"q\",\"label\":\"B\",\"name\":\"Q\",\"ordinal\":1}}" ∷ codes "{\"type\":\"problems\",\"id\":\"p\",\"data\":{\"id\":\"p\",\"label\":\"B\",\"name\":\"P\",\"ordinal\":0}}" ∷ [])) ≡ Err (ImportRow 4 cause.KeyReused)
unfolding chars data_of is_utf8 serde_json_on_literals
one_label = refl
