-- Worked examples: what becomes of the clock of a contest of five hours, the last of them frozen.
use Rattle.std.proofs.Common.{◌≡◌, ◌+◌, ◌-◌, ℕ, List, [], ◌∷◌, refl, Option, Some, None, Result, Ok, Err}
use Rattle.std.specs.Prelude.{codes}
use Rattle.contest_types.specs.MomentText.{latest}
use Rattle.contest_types.specs.State.{FixedPart}
use Rattle.contest_types.specs.declared.marks.Marks.{Marks}
use Rattle.contest_types.specs.declared.rejudging.Rejudging.{Rejudging}
use Rattle.contest_types.specs.declared.rejudging.RejudgingState.{RejudgingState}
use Rattle.contest_types.specs.declared.rejudging.RejudgingState.TheVariants.{Applied, Cancelled, Open}
use Rattle.contest_types.proofs.ExampleContest.{accepted, asked, empty, head, hours, minutes, released, settings, started, submitted, wrong}
use Rattle.contest_rules.specs.ClockChanges.{final_change, finalize, set_clock, start_change, thaw_change}
use Rattle.contest_rules.specs.declared.clock_changes.ClockChange.{ClockChange}
use Rattle.contest_rules.specs.declared.clock_changes.WantedClock.{WantedClock}
use Rattle.contest_rules.specs.declared.clock_changes.WantedClock.TheVariants.{Start, Thaw}
use Rattle.contest_rules.specs.declared.rule_refusal.RuleRefusal.{RuleRefusal}
use Rattle.contest_rules.specs.declared.rule_refusal.RuleRefusal.TheVariants.{ClockRefused}

-- with these marks of the clock
abbrev marked : Marks → FixedPart
marked marks = record empty.fixed { marks = marks }

abbrev starting : Option ℕ → Marks
starting start = record started { start = start }

abbrev thawing : (thaw : ℕ) → Marks
thawing thaw = record started { thaw = Some thaw }

-- what becomes of it while nothing stands
abbrev set : Marks → (now : ℕ) → WantedClock → Result ClockChange RuleRefusal
set marks now w = set_clock (marked marks) [] [] now w

-- a start that is unset or still to come is set, moved or unset
is_set : set (starting None) (hours 1) (Start (Some (hours 2))) ≡ Ok (start_change (starting None) (Some (hours 2)))
is_set = refl

is_moved : set (starting (Some (hours 2))) (hours 1) (Start (Some (hours 1 + 1))) ≡ Ok (start_change (starting (Some (hours 2))) (Some (hours 1 + 1)))
is_moved = refl

is_unset : set (starting (Some (hours 2))) (hours 1) (Start None) ≡ Ok (start_change (starting (Some (hours 2))) None)
is_unset = refl

-- at its moment it has come
has_come : set (starting (Some (hours 2))) (hours 2) (Start None) ≡ Err ClockRefused
has_come = refl

comes_now : set (starting None) (hours 2) (Start (Some (hours 2))) ≡ Err ClockRefused
comes_now = refl

-- its end is the last moment, or would be past it
ends_last : set (starting None) 0 (Start (Some (latest - hours 5))) ≡ Ok (start_change (starting None) (Some (latest - hours 5)))
ends_last = refl

ends_too_late : set (starting None) 0 (Start (Some (latest - hours 5 + 1))) ≡ Err ClockRefused
ends_too_late = refl

-- something stands that goes by it
after_a_submission : set_clock (marked (starting (Some (hours 2)))) (submitted 0 1 (hours 2) 0 ∷ []) [] (hours 1) (Start None) ≡ Err ClockRefused
after_a_submission = refl

after_a_clarification : set_clock (marked (starting (Some (hours 2)))) [] (asked 0 1 (hours 2) ∷ []) (hours 1) (Start None) ≡ Err ClockRefused
after_a_clarification = refl

after_a_thaw : set (record (starting (Some (hours 2))) { thaw = Some (hours 8) }) (hours 1) (Start None) ≡ Err ClockRefused
after_a_thaw = refl

after_final_results : set (record (starting (Some (hours 2))) { finalized = Some (hours 8) }) (hours 1) (Start None) ≡ Err ClockRefused
after_final_results = refl

-- a thaw is set from the end on, whatever now is, and moved until it has come
thaws_at_the_end : set started (minutes 1) (Thaw (hours 5)) ≡ Ok (thaw_change started (hours 5))
thaws_at_the_end = refl

thaws_too_early : set started (hours 6) (Thaw (hours 5 - 1)) ≡ Err ClockRefused
thaws_too_early = refl

thaws_later : set (thawing (hours 6)) (hours 6 - 1) (Thaw (hours 7)) ≡ Ok (thaw_change (thawing (hours 6)) (hours 7))
thaws_later = refl

is_thawed : set (thawing (hours 6)) (hours 6) (Thaw (hours 7)) ≡ Err ClockRefused
is_thawed = refl

-- without a start or a freeze there is nothing to thaw
no_start : set (starting None) (hours 6) (Thaw (hours 7)) ≡ Err ClockRefused
no_start = refl

no_freeze : set_clock (record empty.fixed { settings = record settings { head = record head { freeze = None } } }) [] [] (hours 6) (Thaw (hours 7)) ≡ Err ClockRefused
no_freeze = refl

-- results are made final from the end on, and once
abbrev final : Marks → List Rejudging → (now : ℕ) → Result ClockChange RuleRefusal
final marks rs now = finalize (marked marks) (submitted 0 1 (minutes 10) 0 ∷ submitted 0 2 (minutes 20) 0 ∷ []) (released 0 1 1 wrong (minutes 15) ∷ released 0 1 2 accepted (minutes 16) ∷ released 0 2 1 wrong (minutes 25) ∷ []) rs now

are_final : final started [] (hours 5) ≡ Ok (final_change started (hours 5))
are_final = refl

not_ended : final started [] (hours 5 - 1) ≡ Err ClockRefused
not_ended = refl

not_started : finalize (marked (starting None)) [] [] [] (hours 5) ≡ Err ClockRefused
not_started = refl

final_already : final (record started { finalized = Some (hours 6) }) [] (hours 5) ≡ Err ClockRefused
final_already = refl

not_released : finalize (marked started) (submitted 0 1 (minutes 10) 0 ∷ submitted 0 2 (minutes 20) 0 ∷ []) (released 0 1 1 wrong (minutes 15) ∷ []) [] (hours 5) ≡ Err ClockRefused
not_released = refl

-- no rejudging is open; what became of others doesn't matter
abbrev over : RejudgingState → Rejudging
over state = record { reason = codes "data"; state = state; members = [] }

others_are_closed : final started (over Applied ∷ over Cancelled ∷ []) (hours 5) ≡ Ok (final_change started (hours 5))
others_are_closed = refl

one_is_open : final started (over Applied ∷ over Open ∷ []) (hours 5) ≡ Err ClockRefused
one_is_open = refl
