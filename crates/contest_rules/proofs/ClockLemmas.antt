-- A change of the clock that is taken may be made.
use Rattle.std.proofs.Common.{◌≡◌, ℕ, Bool, true, false, length, Option, Ok, refl, subst}
use Rattle.std.specs.Prelude.{◌&&◌, ◌==◌, not, is_none, is_some}
use Rattle.std.proofs.lemmas.Bool.{false≢true}
use Rattle.contest_types.specs.Clock.{end_of, freeze_of, reached}
use Rattle.contest_types.specs.State.{ContestState}
use Rattle.contest_types.proofs.PlaceLemmas.{and_left, and_right, both_true}
use Rattle.contest_rules.specs.ClockChanges.{final_change, has_end, if_may, is_untouched, may_finalize, may_start, may_thaw, start_change, thaw_change}
use Rattle.contest_rules.specs.Laws.{ClockIsAddable, ComeStays, FinalIsAddable, IsMade}
use Rattle.contest_rules.specs.declared.clock_changes.ClockChange.{ClockChange}
use Rattle.contest_rules.specs.declared.clock_changes.WantedClock.TheVariants.{Start, Thaw}

-- what is taken may be, and is what is asked for
taken : (may : Bool) (c d : ClockChange) → if_may may c ≡ Ok d → (may ≡ true) × (c ≡ d)
taken true c d h = (refl, cc h)
taken false c d h = absurd (cc h)

start_fits : (x : ContestState) (now : ℕ) (start : Option ℕ) → may_start x.fixed x.submissions x.clarifications now start ≡ true → IsMade x (start_change x.fixed.marks start)
start_fits x now start may =
    let early = and_left (is_untouched x.fixed.marks x.submissions x.clarifications && not (reached x.fixed.marks.start now) && not (reached start now)) (has_end x.fixed.settings.head.duration start) may in
    let end = and_right (is_untouched x.fixed.marks x.submissions x.clarifications && not (reached x.fixed.marks.start now) && not (reached start now)) (has_end x.fixed.settings.head.duration start) may in
    let none = (length x.submissions == 0) && (length x.clarifications == 0) in
    let untouched : (none && is_none x.fixed.marks.thaw && is_none x.fixed.marks.finalized) ≡ true =
    and_left (is_untouched x.fixed.marks x.submissions x.clarifications) (not (reached x.fixed.marks.start now)) (and_left (is_untouched x.fixed.marks x.submissions x.clarifications && not (reached x.fixed.marks.start now)) (not (reached start now)) early) in
    let empty = and_left none (is_none x.fixed.marks.thaw) (and_left (none && is_none x.fixed.marks.thaw) (is_none x.fixed.marks.finalized) untouched) in
    (both_true none (has_end x.fixed.settings.head.duration start) empty end, refl)

pub clock_is_addable : ClockIsAddable
clock_is_addable x now (Start start) c h =
    let t = taken (may_start x.fixed x.submissions x.clarifications now start) (start_change x.fixed.marks start) c h in
    subst (IsMade x) t.1 (start_fits x now start t.0)
clock_is_addable x now (Thaw thaw) c h =
    let t = taken (may_thaw x.fixed now thaw) (thaw_change x.fixed.marks thaw) c h in
    subst (IsMade x) t.1 (refl, refl)

pub final_is_addable : FinalIsAddable
final_is_addable x now c h =
    let t = taken (may_finalize x.fixed x.submissions x.releases x.rejudgings now) (final_change x.fixed.marks now) c h in
    subst (IsMade x) t.1 (refl, refl)

come : (b : Bool) → b ≡ true → not b ≡ true → ⊥
come true h g = false≢true g
come false h g = false≢true h

pub come_stays : ComeStays
come_stays x now (Start start) c h =
    let may = taken (may_start x.fixed x.submissions x.clarifications now start) (start_change x.fixed.marks start) c h in
    let early = and_left (is_untouched x.fixed.marks x.submissions x.clarifications && not (reached x.fixed.marks.start now) && not (reached start now)) (has_end x.fixed.settings.head.duration start) may.0 in
    let ahead = and_right (is_untouched x.fixed.marks x.submissions x.clarifications) (not (reached x.fixed.marks.start now)) (and_left (is_untouched x.fixed.marks x.submissions x.clarifications && not (reached x.fixed.marks.start now)) (not (reached start now)) early) in
    (λ was. absurd (come (reached x.fixed.marks.start now) was ahead), λ was. subst (λ (d : ClockChange). d.marks.thaw ≡ x.fixed.marks.thaw) may.1 refl)
come_stays x now (Thaw thaw) c h =
    let may = taken (may_thaw x.fixed now thaw) (thaw_change x.fixed.marks thaw) c h in
    let ahead = and_right (is_some (freeze_of x.fixed.settings x.fixed.marks)) (not (reached x.fixed.marks.thaw now)) (and_left (is_some (freeze_of x.fixed.settings x.fixed.marks) && not (reached x.fixed.marks.thaw now)) (reached (end_of x.fixed.settings x.fixed.marks) thaw) may.0) in
    (λ was. subst (λ (d : ClockChange). d.marks.start ≡ x.fixed.marks.start) may.1 refl, λ was. absurd (come (reached x.fixed.marks.thaw now) was ahead))
