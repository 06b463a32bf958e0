-- What serving clients does to a kept contest: some requests are handled, one after another (own).
use Rattle.std.specs.Prelude.{◌≡◌, ◌≤◌, ◌⊎◌, ℕ, List, Option, length}
use Rattle.contest_types.specs.State.{ContestState}
use Rattle.contest_store.specs.Keeping.{Kept}
use Rattle.contest_desk.specs.Runs.{LeavesAfter, RunsTo}
use Rattle.contest_desk.specs.declared.item.Answer.{Answer}
use Rattle.contest_desk.specs.declared.item.Item.{Item}
use Rattle.contest_http.specs.Serving.{HandlesOne}
use Rattle.contest_cli_words.specs.declared.command_error.CommandError.{CommandError}
use Rattle.contest_cli_words.specs.declared.command_error.CommandError.TheVariants.{Clock, Net}

-- the contest is that of a run of the machine, by one request at most of each of so many clients, and a crash leaves what
-- it may leave after that run
pub record ServesSome (clients : ℕ) (old new : Kept) : Type 0 where
  pub items : List Item
  pub answers : List Answer
  pub each : length items ≤ clients
  pub runs : RunsTo old new items answers
  pub leaves : (c : Option ContestState) → new.may_leave c → LeavesAfter old.may_leave old.contest items answers c

-- why clients are served no longer: none can connect any more, or there is no moment
abbrev pub StopsServing : CommandError → Type 0
StopsServing stop = (stop ≡ Net) ⊎ (stop ≡ Clock)

-- one request is handled at most, at some moment
abbrev pub HandlesAny : {S : Type 0} (kept : S → Kept) (before after : S) → Type 0
HandlesAny kept before after = (now : ℕ) × HandlesOne kept now before after
