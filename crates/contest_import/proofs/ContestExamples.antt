-- Worked examples of contest files: what isn't said is as usual, and what can't be set up is no contest.
use Rattle.std.proofs.Common.{◌≡◌, true, false, Some, None, refl}
use Rattle.std.specs.Prelude.{codes}
use Rattle.std.specs.Str.{chars}
use Rattle.serde_json.specs.Data.{Data, Members, null, boolean, number, string, object, no_members, member, unsigned}
use Rattle.contest_types.specs.State.{new_contest}
use Rattle.contest_types.specs.Valid.{is_valid}
use Rattle.contest_types.specs.declared.contest.ContestHead.{ContestHead}
use Rattle.contest_import.specs.ContestFile.{head_in, penalty_of, start_in, usual_medals}

-- five hours, and the rest as usual
abbrev cup : ContestHead
cup = record { id = codes "cup"; name = codes "Cup"; duration = 18_000_000; freeze = None; penalty_time = 20; verification = false; medals = usual_medals }

-- an object that says the cup, and these members
abbrev with_members : Members → Data
with_members more = object (member (codes "id") (string (codes "cup")) (member (codes "name") (string (codes "Cup")) (member (codes "duration") (string (codes "5:00:00")) more)))

-- what isn't there, and what is null, is as usual
usual : head_in (with_members no_members) ≡ Some cup
unfolding head_in chars
usual = refl

of_null : head_in (with_members (member (codes "medals") null (member (codes "penalty_time") null (member (codes "verification") null no_members)))) ≡ Some cup
unfolding head_in chars
of_null = refl

-- a freeze, a verification and one kind of medal
asked : head_in (with_members (member (codes "scoreboard_freeze_duration") (string (codes "1:00:00")) (member (codes "verification") (boolean true) (member (codes "medals") (object (member (codes "gold") (number (unsigned 0)) no_members)) no_members))))
    ≡ Some (record cup { freeze = Some 3_600_000; verification = true; medals = record { gold = 0; silver = 4; bronze = 4 } })
unfolding head_in chars
asked = refl

-- no other scoreboard
of_scores : head_in (with_members (member (codes "scoreboard_type") (string (codes "score")) no_members)) ≡ None
unfolding head_in chars
of_scores = refl

-- minutes as a number or as a relative time, and none of half a minute
as_number : penalty_of (number (unsigned 0)) ≡ Some 0
as_number = refl

too_many : penalty_of (number (unsigned 1_001)) ≡ None
too_many = refl

as_time : penalty_of (string (codes "0:20:00")) ≡ Some 20
as_time = refl

half_minute : penalty_of (string (codes "0:01:30")) ≡ None
half_minute = refl

-- a start that is null is unset, and one that is no text is none
unset : start_in (with_members (member (codes "start_time") null no_members)) ≡ Some None
unset = refl

no_text : start_in (with_members (member (codes "start_time") (number (unsigned 5)) no_members)) ≡ None
no_text = refl

-- the end may be the last moment, and not one after it
last_end : is_valid (new_contest (record { head = cup; start = Some 253_370_746_799_999 })) ≡ true
last_end = refl

past_end : is_valid (new_contest (record { head = cup; start = Some 253_370_746_800_000 })) ≡ false
past_end = refl
