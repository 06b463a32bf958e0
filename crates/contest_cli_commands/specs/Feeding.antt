-- How `feed` ends (own; the feed is the Contest API 2023-06's).
use Rattle.std.specs.Prelude.{◌≡◌, ◌≤◌, ◌⊎◌, ℕ, List, Option, Some, None}
use Rattle.std.specs.Io.KnownBytes.{Keeps}
use Rattle.std.specs.Option.{option_map}
use Rattle.sqlite.specs.State.{HasCleanDisk, State}
use Rattle.contest_types.specs.State.{ContestState}
use Rattle.contest_streams.specs.Streams.{Fails, Stream, Tells}
use Rattle.contest_objects.specs.EventFeed.{feed_text}
use Rattle.contest_view.specs.Feeds.{feed_events}
use Rattle.contest_store.specs.Keeping.{Kept, LeavesNoMore}
use Rattle.contest_store_sqlite.specs.Contests.{may_leave_of}
use Rattle.contest_store_sqlite.specs.Opening.{FindsContest, may_leave_filled}
use Rattle.contest_cli_words.specs.declared.asked_board.Who.{Who}
use Rattle.contest_cli_words.specs.declared.command_error.CommandError.{CommandError}
use Rattle.contest_cli_words.specs.declared.command_error.CommandError.TheVariants.{File}
use Rattle.contest_cli_commands.specs.Exporting.{StopsKept, TellsWritten}
use Rattle.contest_cli_commands.specs.Looking.{audience_of}
use Rattle.contest_cli_commands.specs.Printing.{StopsOpening}

-- the feed that somebody is served at a moment; nothing where no team has the id
abbrev pub feed_of : (now : ℕ) → Who → ContestState → Option (List ℕ)
feed_of now who x = option_map (λ a. feed_text (feed_events a now x)) (audience_of x.fixed.settings who)

abbrev pub GivesFeed : (now : ℕ) → Who → ContestState → List ℕ → Type 0
GivesFeed now who x text = feed_of now who x ≡ Some text

-- of some contest which is this one no team has the id that is asked for
abbrev pub HasNone : (Is : ContestState → Type 0) → Who → Type 0
HasNone Is who = (x : ContestState) × Is x × (audience_of x.fixed.settings who ≡ None)

-- why it stops early: for such a cause, or `out` failed
abbrev pub StopsFeed : (Stops : CommandError → Type 0) → (out_old out_new : Stream) → CommandError → Type 0
StopsFeed Stops out_old out_new stop = Stops stop ⊎ ((stop ≡ File) × Fails out_old out_new)

-- what is told: as of any text that is written, or, with status 2 and some words, that no team has the id
pub record TellsFeed (clean : Type 0) (Is : ContestState → Type 0) (Stops : CommandError → Type 0) (now : ℕ) (who : Who) (out_old out_new err_old err_new : Stream) (status : ℕ) : Type 0 where
  pub statuses : status ≤ 2
  pub known : TellsWritten (GivesFeed now who) clean Is (StopsFeed Stops out_old out_new) out_old out_new err_old err_new status
  pub unknown : status ≡ 2 → (clean → HasNone Is who) × Keeps out_old.bytes out_new.bytes × (text : List ℕ) × Tells err_old err_new text

-- how it ends: what is told is of the valid contest whose lists the tables showed, and a crash leaves no more than it
-- could before, or that contest with its cells
pub record Feeds (now : ℕ) (who : Who) (out_old out_new err_old err_new : Stream) (old new : State) (status : ℕ) : Type 0 where
  pub told : TellsFeed (HasCleanDisk new) (FindsContest old) (StopsOpening old new) now who out_old out_new err_old err_new status
  pub leaves : HasCleanDisk new → LeavesNoMore (may_leave_filled old) (may_leave_of new)

-- the same of a contest that a store keeps
pub record FeedsKept (now : ℕ) (who : Who) (out_old out_new err_old err_new : Stream) (old new : Kept) (status : ℕ) : Type 0 where
  pub told : TellsFeed new.is_clean (λ x. x ≡ old.contest) (StopsKept old new) now who out_old out_new err_old err_new status
  pub crash : new.is_clean → LeavesNoMore old.may_leave new.may_leave
  pub clean : new.is_clean → old.is_clean
