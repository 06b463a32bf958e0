-- The contest that a file sets up (Contest API 2023-06, contest object; verification and medals are own).
use Rattle.std.specs.Prelude.{◌≡◌, ◌==◌, ◌/◌, ◌%◌, ℕ, Bool, true, List, Option, Some, None, codes, is_some, if◌then◌else◌}
use Rattle.std.specs.Option.{option_and_then, option_map}
use Rattle.std.specs.Str.{bytes_eq}
use Rattle.serde_json.specs.Data.{Data}
use Rattle.serde_json.specs.Find.{as_number, as_object, as_str}
use Rattle.contest_types.specs.MomentText.{IsMomentText}
use Rattle.contest_types.specs.State.{new_contest}
use Rattle.contest_types.specs.Valid.{is_valid}
use Rattle.contest_types.specs.declared.contest.Contest.{Contest}
use Rattle.contest_types.specs.declared.contest.ContestHead.{ContestHead}
use Rattle.contest_types.specs.declared.contest.Medals.{Medals}
use Rattle.contest_types.specs.declared.limits.TheConstants.{MEDAL_PLACES, PENALTY_MINUTES}
use Rattle.contest_files.specs.FieldTexts.{span_of}
use Rattle.contest_files.specs.JsonMembers.{data_of, flag_or_false, id_in, name_in, number_or, number_to, optional, or_usual, present_in, text_in}

-- a text that need not be there
abbrev pub optional_text : Data → Option (Option (List ℕ))
optional_text d = option_map Some (as_str d)

abbrev pub freeze_of : Data → Option (Option ℕ)
freeze_of d = option_map Some (option_and_then span_of (as_str d))

-- a time of whole minutes, as their number
abbrev pub whole_minutes : ℕ → Option ℕ
whole_minutes span = if span % 60_000 == 0 then Some (span / 60_000) else None

-- minutes, as a number or as a relative time
abbrev pub penalty_of : Data → Option ℕ
penalty_of d = if is_some (as_number d) then number_to PENALTY_MINUTES d else option_and_then whole_minutes (option_and_then span_of (as_str d))

-- an object of gold, silver and bronze, each 4 where it isn't there
abbrev pub medals_of : Data → Option Medals
medals_of d =
    if is_some (as_object d) then
    option_and_then (λ gold. option_and_then (λ silver. option_map (λ bronze. record { gold = gold; silver = silver; bronze = bronze })
    (number_or 4 MEDAL_PLACES (codes "bronze") d)) (number_or 4 MEDAL_PLACES (codes "silver") d)) (number_or 4 MEDAL_PLACES (codes "gold") d)
    else None

abbrev pub usual_medals : Medals
usual_medals = record { gold = 4; silver = 4; bronze = 4 }

-- the one kind of scoreboard that there is
abbrev pub is_pass_fail : Data → Option Bool
is_pass_fail d = option_and_then (λ text. if bytes_eq text (codes "pass-fail") then Some true else None) (as_str d)

-- the members of the head; each number is held to its range as for every contest
unfoldable pub head_in : Data → Option ContestHead
head_in d =
    option_and_then (λ id. option_and_then (λ name. option_and_then (λ duration. option_and_then (λ freeze. option_and_then (λ scored. option_and_then (λ penalty. option_and_then (λ verification. option_map
    (λ medals. record { id = id; name = name; duration = duration; freeze = freeze; penalty_time = penalty; verification = verification; medals = medals })
    (or_usual usual_medals medals_of (present_in (codes "medals") d)))
    (flag_or_false (codes "verification") d))
    (or_usual 20 penalty_of (present_in (codes "penalty_time") d)))
    (or_usual true is_pass_fail (present_in (codes "scoreboard_type") d)))
    (optional freeze_of (present_in (codes "scoreboard_freeze_duration") d)))
    (option_and_then span_of (text_in (codes "duration") d)))
    (name_in (codes "name") d))
    (id_in (codes "id") d)

-- the text of the start; a start that isn't there is unset
abbrev pub start_in : Data → Option (Option (List ℕ))
start_in d = optional optional_text (present_in (codes "start_time") d)

-- the moment that the text shows, or none
abbrev pub SaysStart : Option (Option (List ℕ)) → Option ℕ → Type 0
SaysStart None start = ⊥
SaysStart (Some None) start = start ≡ None
SaysStart (Some (Some text)) start = (m : ℕ) × (start ≡ Some m) × IsMomentText text m

-- an object says this contest, and it can be set up
pub record SaysContest (d : Data) (c : Contest) : Type 0 where
  pub head : head_in d ≡ Some c.head
  pub start : SaysStart (start_in d) c.start
  pub valid : is_valid (new_contest c) ≡ true

-- so do the bytes of a file
abbrev pub IsContestFile : List ℕ → Contest → Type 0
IsContestFile bytes c = (d : Data) × (data_of bytes ≡ Some d) × SaysContest d c
