-- What the clock adds, and what else is changed.
use Rattle.std.proofs.Common.{◌≡◌, ℕ, Bool, true, false, Ok, refl, sym, ap}
use Rattle.contest_types.specs.State.{ContestState}
use Rattle.contest_types.specs.declared.entry.Entry.{Entry}
use Rattle.contest_types.specs.declared.entry.Entry.TheVariants.{SetFinalized, SetStart, SetThaw}
use Rattle.contest_rules.specs.ClockChanges.{final_change, finalize, if_may, may_finalize, may_start, may_thaw, set_clock, start_change, thaw_change}
use Rattle.contest_rules.specs.declared.clock_changes.ClockChange.{ClockChange}
use Rattle.contest_rules.specs.declared.clock_changes.WantedClock.{WantedClock}
use Rattle.contest_rules.specs.declared.clock_changes.WantedClock.TheVariants.{Start, Thaw}

pub may_is : (b : Bool) (c d : ClockChange) → if_may b c ≡ Ok d → (b ≡ true) × (d ≡ c)
may_is true c d is = let same : c ≡ d = cc is in (refl, sym same)
may_is false c d is = absurd (cc is)

-- a start or a thaw that may be set
abbrev pub OfClock : ContestState → (now : ℕ) → WantedClock → Entry → Type 0
OfClock x now (Start start) e = (may_start x.fixed x.submissions x.clarifications now start ≡ true) × (e ≡ SetStart start)
OfClock x now (Thaw thaw) e = (may_thaw x.fixed now thaw ≡ true) × (e ≡ SetThaw thaw)

pub of_clock : (x : ContestState) (now : ℕ) (w : WantedClock) (c : ClockChange) → set_clock x.fixed x.submissions x.clarifications now w ≡ Ok c → OfClock x now w c.entry
of_clock x now (Start start) c is = let m = may_is (may_start x.fixed x.submissions x.clarifications now start) (start_change x.fixed.marks start) c is in (m.0, ap (λ (d : ClockChange). d.entry) m.1)
of_clock x now (Thaw thaw) c is = let m = may_is (may_thaw x.fixed now thaw) (thaw_change x.fixed.marks thaw) c is in (m.0, ap (λ (d : ClockChange). d.entry) m.1)

pub of_final : (x : ContestState) (now : ℕ) (c : ClockChange) → finalize x.fixed x.submissions x.releases x.rejudgings now ≡ Ok c → (may_finalize x.fixed x.submissions x.releases x.rejudgings now ≡ true) × (c.entry ≡ SetFinalized now)
of_final x now c is = let m = may_is (may_finalize x.fixed x.submissions x.releases x.rejudgings now) (final_change x.fixed.marks now) c is in (m.0, ap (λ (d : ClockChange). d.entry) m.1)
