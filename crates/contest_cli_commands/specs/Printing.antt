-- How the commands end that print a text of a contest, `board` and `awards` (own).
use Rattle.std.specs.Prelude.{◌≡◌, ◌≤◌, ◌⊎◌, ℕ, List, Option, Some, None}
use Rattle.std.specs.Io.KnownBytes.{Appends, Keeps}
use Rattle.std.specs.Option.{option_and_then, option_map}
use Rattle.sqlite.specs.State.{HasCleanDisk, State}
use Rattle.contest_types.specs.Setup.{Setup}
use Rattle.contest_types.specs.State.{ContestState}
use Rattle.contest_streams.specs.Streams.{AppendsFront, Fails, Stream, Tells}
use Rattle.contest_types.specs.declared.marks.Marks.{Marks}
use Rattle.contest_types.specs.declared.refusal.Refusal.TheVariants.{Memory, OldSchema, StoreFault}
use Rattle.contest_score.specs.Ranking.{Scoreboard}
use Rattle.contest_view.specs.Awards.{audience_awards}
use Rattle.contest_view.specs.Scoreboards.{board_found}
use Rattle.contest_store.specs.Keeping.{LeavesNoMore}
use Rattle.contest_store_sqlite.specs.Contests.{may_leave_of}
use Rattle.contest_store_sqlite.specs.Opening.{FindsContest, FindsFirst, may_leave_filled}
use Rattle.contest_text.specs.AwardsText.{awards_text}
use Rattle.contest_text.specs.BoardCsv.{board_csv}
use Rattle.contest_text.specs.BoardText.{board_text}
use Rattle.contest_cli_words.specs.CommandErrors.{IsWords, line_of}
use Rattle.contest_cli_words.specs.declared.command_error.CommandError.{CommandError}
use Rattle.contest_cli_words.specs.declared.command_error.CommandError.TheVariants.{File, Refused}
use Rattle.contest_cli_words.specs.declared.asked_board.BoardFormat.{BoardFormat}
use Rattle.contest_cli_words.specs.declared.asked_board.BoardFormat.TheVariants.{Text, Csv}
use Rattle.contest_cli_words.specs.declared.asked_text.AskedText.{AskedText}
use Rattle.contest_cli_words.specs.declared.asked_text.AskedText.TheVariants.{Board, Awards}
use Rattle.contest_cli_commands.specs.Looking.{look_of}
use Rattle.contest_cli_commands.specs.declared.look.Look.{Look}

-- the whole of what is written of a board
abbrev pub written : BoardFormat → Setup → Marks → (now : ℕ) → Look → Scoreboard → List ℕ
written Text s marks now l b = board_text s marks now l.audience l.group b
written Csv s marks now l b = board_csv s b

-- what is written for who looks at a contest at a moment: a board, if they and its group are there, or the awards that they
-- are shown
abbrev pub text_seen : (now : ℕ) → AskedText → ContestState → Look → Option (List ℕ)
text_seen now (Board asked) x l = option_map (written asked.format x.fixed.settings x.fixed.marks now l) (board_found l.audience now l.group x)
text_seen now (Awards who) x l = option_map (awards_text x.fixed.settings) (audience_awards l.audience now x)

-- what is written of what is asked for; nothing where no team or no group has the id
abbrev pub asked_text : (now : ℕ) → AskedText → ContestState → Option (List ℕ)
asked_text now asked x = option_and_then (text_seen now asked x) (look_of x.fixed.settings asked)

-- a contest has this text, or none, since no team or no group has the id that is asked for
abbrev pub GivesText : (now : ℕ) → AskedText → ContestState → List ℕ → Type 0
GivesText now asked x text = asked_text now asked x ≡ Some text

abbrev pub LacksText : AskedText → ContestState → CommandError → Type 0
LacksText asked x stop = IsWords stop × (look_of x.fixed.settings asked ≡ None)

-- that may be told in any way
abbrev pub SaysAny : CommandError → Type 0
SaysAny stop = Unit {0}

-- the store failed, or memory was refused
abbrev pub IsStoreStop : CommandError → Type 0
IsStoreStop stop = (stop ≡ Refused StoreFault) ⊎ (stop ≡ Refused Memory)

-- or the tables are those of the first schema, so that none is opened
abbrev pub StopsOpening : (old new : State) → CommandError → Type 0
StopsOpening old new stop = IsStoreStop stop ⊎ ((stop ≡ Refused OldSchema) × FindsFirst old new)

-- of some contest which is this one
module _ (Is : ContestState → Type 0) where
  -- this is written
  abbrev pub Gives : (now : ℕ) → AskedText → List ℕ → Type 0
  Gives now asked text = (x : ContestState) × Is x × (asked_text now asked x ≡ Some text)

  -- no team or no group has the id that is asked for
  abbrev pub HasNone : AskedText → Type 0
  HasNone asked = (x : ContestState) × Is x × (look_of x.fixed.settings asked ≡ None)

-- what is told, by the status, while the disk is as `clean` says: 0 with the whole text on `out`; 1 with a line on `err`
-- of what stops it without words, as the store's fault, or of `out`, which failed and took a front of the text; 2 where no team or
-- no group has the id that is asked for
pub record TellsText (clean : Type 0) (Is : ContestState → Type 0) (Stops : CommandError → Type 0) (now : ℕ) (asked : AskedText) (out_old out_new err_old err_new : Stream) (status : ℕ) : Type 0 where
  pub statuses : status ≤ 2
  pub done : status ≡ 0 → (text : List ℕ) × (clean → Gives Is now asked text) × Appends out_old.bytes out_new.bytes text × Keeps err_old.bytes err_new.bytes
  pub refused : status ≡ 1 → (stop : CommandError) × Tells err_old err_new (line_of stop)
      × (((clean → Stops stop) × Keeps out_old.bytes out_new.bytes)
      ⊎ ((stop ≡ File) × Fails out_old out_new × (text : List ℕ) × (clean → Gives Is now asked text) × AppendsFront out_old.bytes out_new.bytes text))
  pub unknown : status ≡ 2 → (clean → HasNone Is asked) × Keeps out_old.bytes out_new.bytes × (text : List ℕ) × Tells err_old err_new text

-- how it ends: what is told is of the valid contest whose lists the tables showed, and a crash leaves no more than it
-- could before, or that contest with its cells
pub record Prints (now : ℕ) (asked : AskedText) (out_old out_new err_old err_new : Stream) (old new : State) (status : ℕ) : Type 0 where
  pub told : TellsText (HasCleanDisk new) (FindsContest old) (StopsOpening old new) now asked out_old out_new err_old err_new status
  pub leaves : HasCleanDisk new → LeavesNoMore (may_leave_filled old) (may_leave_of new)
