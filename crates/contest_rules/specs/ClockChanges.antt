-- What becomes of a change of the contest's clock (Contest API 2023-06, contests: PATCH of the start and of the thaw; when one
-- is refused, and that results are made final by hand, are own).
use Rattle.std.specs.Prelude.{ℕ, Bool, true, false, not, ◌&&◌, ◌==◌, nat_le, List, length, Option, Some, is_none, is_some, Result, Ok, Err, if◌then◌else◌}
use Rattle.std.specs.List.{list_all, list_any}
use Rattle.std.specs.Option.{option_map_or}
use Rattle.contest_types.specs.Clock.{end_of, freeze_of, moment_after, phase_at, reached}
use Rattle.contest_types.specs.MomentText.{latest}
use Rattle.contest_types.specs.State.{FixedPart}
use Rattle.contest_types.specs.ValidRejudgings.{is_open, is_released}
use Rattle.contest_types.specs.declared.audience.Phase.{Phase}
use Rattle.contest_types.specs.declared.audience.Phase.TheVariants as phase
use Rattle.contest_types.specs.declared.clarification.Clarification.{Clarification}
use Rattle.contest_types.specs.declared.entry.Entry.TheVariants.{SetFinalized, SetStart, SetThaw}
use Rattle.contest_types.specs.declared.marks.Marks.{Marks}
use Rattle.contest_types.specs.declared.rejudging.Rejudging.{Rejudging}
use Rattle.contest_types.specs.declared.submission.Release.{Release}
use Rattle.contest_types.specs.declared.submission.Submission.{Submission}
use Rattle.contest_rules.specs.declared.clock_changes.ClockChange.{ClockChange}
use Rattle.contest_rules.specs.declared.clock_changes.WantedClock.{WantedClock}
use Rattle.contest_rules.specs.declared.clock_changes.WantedClock.TheVariants.{Start, Thaw}
use Rattle.contest_rules.specs.declared.rule_refusal.RuleRefusal.{RuleRefusal}
use Rattle.contest_rules.specs.declared.rule_refusal.RuleRefusal.TheVariants.{ClockRefused}

-- the clock with another start
abbrev pub start_change : Marks → (start : Option ℕ) → ClockChange
start_change marks start = record { marks = record marks { start = start }; entry = SetStart start }

-- the clock with a thaw
abbrev pub thaw_change : Marks → (thaw : ℕ) → ClockChange
thaw_change marks thaw = record { marks = record marks { thaw = Some thaw }; entry = SetThaw thaw }

-- the clock with results that are final from a moment on
abbrev pub final_change : Marks → (finalized : ℕ) → ClockChange
final_change marks finalized = record { marks = record marks { finalized = Some finalized }; entry = SetFinalized finalized }

-- nothing stands that goes by the start: no submission, no clarification, no thaw and no final results
abbrev pub is_untouched : Marks → List Submission → List Clarification → Bool
is_untouched marks ss cs = (length ss == 0) && (length cs == 0) && is_none marks.thaw && is_none marks.finalized

-- so long after the start, if it is set, there still is a moment
abbrev pub has_end : (duration : ℕ) → (start : Option ℕ) → Bool
has_end duration start = option_map_or (λ end. nat_le end latest) (moment_after start duration) true

-- the start may be moved or unset: nothing goes by it, and neither the old nor the new one has come
abbrev pub may_start : FixedPart → List Submission → List Clarification → (now : ℕ) → (start : Option ℕ) → Bool
may_start f ss cs now start = is_untouched f.marks ss cs && not (reached f.marks.start now) && not (reached start now) && has_end f.settings.head.duration start

-- the thaw may be set or moved: there is a freeze moment, the old thaw hasn't come, and the new one isn't before the end
abbrev pub may_thaw : FixedPart → (now : ℕ) → (thaw : ℕ) → Bool
may_thaw f now thaw = is_some (freeze_of f.settings f.marks) && not (reached f.marks.thaw now) && reached (end_of f.settings f.marks) thaw

abbrev pub has_ended : Phase → Bool
has_ended phase.Before = false
has_ended phase.Running = false
has_ended phase.Ended = true

-- each submission has a release
abbrev pub all_released : List Release → List Submission → Bool
all_released vs ss = list_all (λ (s : Submission). is_released s.team s.number vs) ss

-- the contest has ended, its results aren't final yet, and no rejudging is open
abbrev pub may_close : FixedPart → List Rejudging → (now : ℕ) → Bool
may_close f rs now = has_ended (phase_at f.settings f.marks now) && is_none f.marks.finalized && not (list_any is_open rs)

-- results may be made final then, once each submission has a release
abbrev pub may_finalize : FixedPart → List Submission → List Release → List Rejudging → (now : ℕ) → Bool
may_finalize f ss vs rs now = may_close f rs now && all_released vs ss

abbrev pub if_may : Bool → ClockChange → Result ClockChange RuleRefusal
if_may may c = if may then Ok c else Err ClockRefused

-- what becomes of a start or a thaw that is asked for
abbrev pub set_clock : FixedPart → List Submission → List Clarification → (now : ℕ) → WantedClock → Result ClockChange RuleRefusal
set_clock f ss cs now (Start start) = if_may (may_start f ss cs now start) (start_change f.marks start)
set_clock f ss cs now (Thaw thaw) = if_may (may_thaw f now thaw) (thaw_change f.marks thaw)

-- what becomes of results that are to be final from now on
abbrev pub finalize : FixedPart → List Submission → List Release → List Rejudging → (now : ℕ) → Result ClockChange RuleRefusal
finalize f ss vs rs now = if_may (may_finalize f ss vs rs now) (final_change f.marks now)
