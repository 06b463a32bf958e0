-- What everybody is served of the contest as a whole, by the settings and the marks alone (Contest API 2023-06, contests
-- and contest state; which members each object has is this desk's choice).
use Rattle.std.specs.Prelude.{ℕ, codes}
use Rattle.serde_json.specs.Data.{Data, array, item, no_items, number, unsigned, string, object, member, no_members}
use Rattle.contest_types.specs.State.{FixedPart}
use Rattle.contest_types.specs.declared.contest.ContestHead.{ContestHead}
use Rattle.contest_types.specs.declared.marks.Marks.{Marks}
use Rattle.contest_objects.specs.StateObject.{StateTimes, state_times}
use Rattle.contest_objects.specs.Times.{moment_or_null, span_data, span_or_null}
use Rattle.contest_objects.specs.declared.contest_objects.ContestEndpoint.{ContestEndpoint}
use Rattle.contest_objects.specs.declared.contest_objects.ContestEndpoint.TheVariants.{Contests, Contest, State}

-- a contest; the penalty time is in minutes
abbrev pub contest_data : ContestHead → Marks → Data
contest_data h marks =
    object (member (codes "duration") (span_data h.duration)
    (member (codes "id") (string h.id)
    (member (codes "name") (string h.name)
    (member (codes "penalty_time") (number (unsigned h.penalty_time))
    (member (codes "scoreboard_freeze_duration") (span_or_null h.freeze)
    (member (codes "scoreboard_thaw_time") (moment_or_null marks.thaw)
    (member (codes "scoreboard_type") (string (codes "pass-fail"))
    (member (codes "start_time") (moment_or_null marks.start) no_members))))))))

-- the state of its clock
abbrev pub state_data : StateTimes → Data
state_data t =
    object (member (codes "end_of_updates") (moment_or_null t.end_of_updates)
    (member (codes "ended") (moment_or_null t.ended)
    (member (codes "finalized") (moment_or_null t.finalized)
    (member (codes "frozen") (moment_or_null t.frozen)
    (member (codes "started") (moment_or_null t.started)
    (member (codes "thawed") (moment_or_null t.thawed) no_members))))))

-- what is served of it at a moment
abbrev pub whole_data : ContestEndpoint → FixedPart → (now : ℕ) → Data
whole_data Contests f now = array (item (contest_data f.settings.head f.marks) no_items)
whole_data Contest f now = contest_data f.settings.head f.marks
whole_data State f now = state_data (state_times f.settings f.marks now)
