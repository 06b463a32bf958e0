-- An administrator sets the start or the thaw (Contest API 2023-06, contests: PATCH), and makes the results final (own).
use Rattle.std.specs.Prelude.{ℕ, List, [], ◌∷◌, Result}
use Rattle.serde_json.specs.Data.{Data}
use Rattle.contest_types.specs.State.{FixedPart, ContestState}
use Rattle.contest_types.specs.declared.entry.Entry.{Entry}
use Rattle.contest_objects.specs.ContestObjects.{contest_data, state_data}
use Rattle.contest_objects.specs.StateObject.{state_times}
use Rattle.contest_rules.specs.ClockChanges.{finalize, set_clock}
use Rattle.contest_rules.specs.declared.clock_changes.ClockChange.{ClockChange}
use Rattle.contest_rules.specs.declared.clock_changes.WantedClock.{WantedClock}
use Rattle.contest_rules.specs.declared.rule_refusal.RuleRefusal.{RuleRefusal}
use Rattle.contest_postings.specs.DoneThings.{Done, done_as, ruled_with}
use Rattle.contest_postings.specs.declared.clock.FinalResults.{FinalResults}

-- a start or a thaw that is set is answered by the contest as it is then
abbrev pub contest_after : FixedPart → ClockChange → Data
contest_after f c = contest_data f.settings.head c.marks

abbrev pub clock_entries : ClockChange → List Entry
clock_entries c = c.entry ∷ []

-- what becomes of a start or a thaw that is asked for
abbrev pub clock_done : (now : ℕ) → WantedClock → ContestState → Result Done RuleRefusal
clock_done now w x = done_as (contest_after x.fixed) clock_entries (set_clock x.fixed x.submissions x.clarifications now w)

-- what becomes of the results that are to be final from now on
abbrev pub final_results : (now : ℕ) → ContestState → Result FinalResults RuleRefusal
final_results now x = ruled_with (λ c. record { now = now; change = c }) (finalize x.fixed x.submissions x.releases x.rejudgings now)

-- they are answered by the state of the clock as it is then
abbrev pub state_after : FixedPart → FinalResults → Data
state_after f r = state_data (state_times f.settings r.change.marks r.now)

abbrev pub final_entries : FinalResults → List Entry
final_entries r = clock_entries r.change

abbrev pub final_done : (now : ℕ) → ContestState → Result Done RuleRefusal
final_done now x = done_as (state_after x.fixed) final_entries (final_results now x)
