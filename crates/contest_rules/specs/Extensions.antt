-- What becomes of an extension: an administrator gives a contest more time (own). The freeze never moves back over what was
-- frozen: once it has come its moment stays, and before that it moves with the end.
use Rattle.std.specs.Prelude.{ℕ, ◌+◌, ◌-◌, Bool, true, false, not, ◌&&◌, ◌||◌, ◌==◌, nat_le, List, Option, None, Some, is_none, Result, Ok, Err, if◌then◌else◌}
use Rattle.std.specs.List.{list_any}
use Rattle.contest_types.specs.Clock.{end_of, freeze_of, reached}
use Rattle.contest_types.specs.Setup.{Setup}
use Rattle.contest_types.specs.State.{FixedPart, with_duration}
use Rattle.contest_types.specs.declared.contest.ContestHead.{ContestHead}
use Rattle.contest_types.specs.declared.submission.Submission.{Submission}
use Rattle.contest_rules.specs.ClockChanges.{has_end}
use Rattle.contest_rules.specs.declared.extensions.Extension.{Extension}
use Rattle.contest_rules.specs.declared.extensions.WantedExtension.{WantedExtension}
use Rattle.contest_rules.specs.declared.rule_refusal.RuleRefusal.{RuleRefusal}
use Rattle.contest_rules.specs.declared.rule_refusal.RuleRefusal.TheVariants.{ClockRefused, Malformed}

-- no freeze duration is given, or the one that stands
abbrev pub stands : (given freeze : Option ℕ) → Bool
stands None freeze = true
stands (Some given) None = false
stands (Some given) (Some freeze) = given == freeze

-- what is asked for stands already
abbrev pub stands_so : ContestHead → WantedExtension → Bool
stands_so h w = (w.duration == h.duration) && stands w.freeze h.freeze

-- a freeze at this moment has come: it is now or before, or a submission is frozen by it
abbrev pub has_frozen : (moment : Option ℕ) → List Submission → (now : ℕ) → Bool
has_frozen moment ss now = reached moment now || list_any (λ (s : Submission). reached moment s.time) ss

-- the freeze that stands has come
abbrev pub is_come : FixedPart → List Submission → (now : ℕ) → Bool
is_come f ss now = has_frozen (freeze_of f.settings f.marks) ss now

-- the freeze duration, which grows by as much as the duration once the freeze has come
abbrev pub moved_freeze : (come : Bool) → (longer : ℕ) → Option ℕ → Option ℕ
moved_freeze come longer None = None
moved_freeze come longer (Some freeze) = Some (if come then freeze + longer else freeze)

-- the freeze duration that is given, or else that
abbrev pub freeze_then : (given moved : Option ℕ) → Option ℕ
freeze_then None moved = moved
freeze_then (Some given) moved = Some given

abbrev pub freeze_after : FixedPart → List Submission → (now : ℕ) → WantedExtension → Option ℕ
freeze_after f ss now w = freeze_then w.freeze (moved_freeze (is_come f ss now) (w.duration - f.settings.head.duration) f.settings.head.freeze)

-- the settings with what is asked for
abbrev pub extended : FixedPart → List Submission → (now : ℕ) → WantedExtension → Setup
extended f ss now w = with_duration f.settings w.duration (freeze_after f ss now w)

-- a freeze duration may be given while the freeze hasn't come, and where it hasn't come by the given one
abbrev pub may_freeze : FixedPart → List Submission → (now : ℕ) → WantedExtension → Bool
may_freeze f ss now w = is_none w.freeze || (not (is_come f ss now) && not (has_frozen (freeze_of (extended f ss now w) f.marks) ss now))

-- the results aren't final, no thaw is set, the duration isn't shorter, and the new end is still to come
abbrev pub may_extend : FixedPart → List Submission → (now : ℕ) → WantedExtension → Bool
may_extend f ss now w =
    is_none f.marks.finalized && is_none f.marks.thaw && nat_le f.settings.head.duration w.duration
    && not (reached (end_of (extended f ss now w) f.marks) now) && may_freeze f ss now w

-- what becomes of an extension that is asked for. What stands already is no change, at any time
abbrev pub extension : FixedPart → List Submission → (now : ℕ) → WantedExtension → Result Extension RuleRefusal
extension f ss now w =
    let h = f.settings.head in
    if stands_so h w then Ok (record { duration = h.duration; freeze = h.freeze; is_new = false })
    else (if not (has_end w.duration f.marks.start) then Err Malformed
    else (if may_extend f ss now w then Ok (record { duration = w.duration; freeze = freeze_after f ss now w; is_new = true }) else Err ClockRefused))
