-- Worked examples: what becomes of an extension of a contest of five hours, the last of them frozen.
use Rattle.std.proofs.Common.{◌≡◌, ◌+◌, ◌-◌, ℕ, Bool, true, false, List, [], ◌∷◌, refl, Option, Some, None, Result, Ok, Err}
use Rattle.contest_types.specs.MomentText.{latest}
use Rattle.contest_types.specs.State.{FixedPart}
use Rattle.contest_types.specs.declared.marks.Marks.{Marks}
use Rattle.contest_types.specs.declared.submission.Submission.{Submission}
use Rattle.contest_types.proofs.ExampleContest.{empty, hours, minutes, started, submitted}
use Rattle.contest_rules.specs.Extensions.{extension}
use Rattle.contest_rules.specs.declared.extensions.Extension.{Extension}
use Rattle.contest_rules.specs.declared.rule_refusal.RuleRefusal.{RuleRefusal}
use Rattle.contest_rules.specs.declared.rule_refusal.RuleRefusal.TheVariants.{ClockRefused, Malformed}

abbrev marked : Marks → FixedPart
marked marks = record empty.fixed { marks = marks }

abbrev asked : Marks → List Submission → (now : ℕ) → (duration : ℕ) → (freeze : Option ℕ) → Result Extension RuleRefusal
asked marks ss now duration freeze = extension (marked marks) ss now (record { duration = duration; freeze = freeze })

abbrev lasts : (duration freeze : ℕ) → Result Extension RuleRefusal
lasts duration freeze = Ok (record { duration = duration; freeze = Some freeze; is_new = true })

abbrev as_before : Result Extension RuleRefusal
as_before = Ok (record { duration = hours 5; freeze = Some (hours 1); is_new = false })

-- twenty minutes more, before the freeze: it moves with the end
before_the_freeze : asked started [] (hours 3 + minutes 30) (hours 5 + minutes 20) None ≡ lasts (hours 5 + minutes 20) (hours 1)
before_the_freeze = refl

-- in the freeze its moment stays, as it does after the end
in_the_freeze : asked started [] (hours 4 + minutes 30) (hours 5 + minutes 20) None ≡ lasts (hours 5 + minutes 20) (hours 1 + minutes 20)
in_the_freeze = refl

after_the_end : asked started [] (hours 5 + minutes 10) (hours 5 + minutes 20) None ≡ lasts (hours 5 + minutes 20) (hours 1 + minutes 20)
after_the_end = refl

-- by a clock that went back it stays too, where a submission is frozen
by_a_submission : asked started (submitted 0 1 (hours 4) 0 ∷ []) (hours 3) (hours 5 + minutes 20) None ≡ lasts (hours 5 + minutes 20) (hours 1 + minutes 20)
by_a_submission = refl

-- a freeze duration that is given, while the freeze hasn't come
given : asked started (submitted 0 1 (hours 3) 0 ∷ []) (hours 3 + minutes 30) (hours 5 + minutes 20) (Some (minutes 30)) ≡ lasts (hours 5 + minutes 20) (minutes 30)
given = refl

given_in_the_freeze : asked started [] (hours 4) (hours 5 + minutes 20) (Some (minutes 30)) ≡ Err ClockRefused
given_in_the_freeze = refl

given_for_now : asked started [] (hours 3) (hours 6) (Some (hours 3)) ≡ Err ClockRefused
given_for_now = refl

given_over_a_submission : asked started (submitted 0 1 (hours 3) 0 ∷ []) (hours 2) (hours 6) (Some (hours 3)) ≡ Err ClockRefused
given_over_a_submission = refl

-- what stands is no change at any time, with final results too
stands : asked started [] (hours 9) (hours 5) None ≡ as_before
stands = refl

stands_with_its_freeze : asked (record started { thaw = Some (hours 6); finalized = Some (hours 6) }) [] (hours 9) (hours 5) (Some (hours 1)) ≡ as_before
stands_with_its_freeze = refl

-- a shorter one, an end that has come, a thaw and final results
shorter : asked started [] (hours 1) (hours 5 - minutes 1) None ≡ Err ClockRefused
shorter = refl

ended_again : asked started [] (hours 6) (hours 6) None ≡ Err ClockRefused
ended_again = refl

goes_on : asked started [] (hours 6 - 1) (hours 6) None ≡ lasts (hours 6) (hours 2)
goes_on = refl

with_a_thaw : asked (record started { thaw = Some (hours 9) }) [] (hours 1) (hours 6) None ≡ Err ClockRefused
with_a_thaw = refl

is_final : asked (record started { finalized = Some (hours 9) }) [] (hours 1) (hours 6) None ≡ Err ClockRefused
is_final = refl

-- without a start any duration may be set that isn't shorter, and with one the end is a moment
unset : asked (record started { start = None }) [] (hours 9) (hours 6) (Some (hours 6)) ≡ lasts (hours 6) (hours 6)
unset = refl

ends_too_late : asked (record started { start = Some (latest - hours 5) }) [] 0 (hours 6) None ≡ Err Malformed
ends_too_late = refl
