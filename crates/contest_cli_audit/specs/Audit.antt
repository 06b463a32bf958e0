-- What `audit` answers.
use Rattle.std.specs.Prelude.{◌≡◌, ◌≤◌, ◌⊎◌, ℕ, Bool, true, false, List, Option, Some, None, IfSome, Result, Ok, Err}
use Rattle.std.specs.Io.KnownBytes.{Appends, Keeps}
use Rattle.clap.specs.Walk.{Text}
use Rattle.contest_types.specs.declared.refusal.Refusal.{Refusal}
use Rattle.contest_types.specs.declared.refusal.Refusal.TheVariants.{Memory}
use Rattle.contest_streams.specs.Streams.{Counting, Stream, Fails, Tells, AppendsFront}
use Rattle.contest_replay.specs.ReplayContest.{marks_for}
use Rattle.contest_score.specs.Ranking.{Scoreboard}
use Rattle.contest_feed_reader.specs.FeedContests.{contest_in_feed}
use Rattle.contest_feed_reader.specs.declared.feed_contest.FeedContest.{FeedContest}
use Rattle.contest_feed_reader.specs.declared.feed_contest.LeftOut.{LeftOut}
use Rattle.contest_comparison.specs.Comparisons.{comparison_text, has_difference}
use Rattle.contest_comparison.specs.declared.other_row.OtherRow.{OtherRow}
use Rattle.contest_cli_words.specs.CommandErrors.{exit_status_of, line_of}
use Rattle.contest_cli_words.specs.declared.command_error.CommandError.{CommandError}
use Rattle.contest_cli_words.specs.declared.command_error.CommandError.TheVariants.{Usage, Refused, File, Clock, Net}
use Rattle.contest_cli_replay.specs.ReplayText.{asked_board, audience_for, moment_for, shown_text}
use Rattle.contest_cli_replay.specs.declared.replay_words.ReplayWords.{ReplayWords}
use Rattle.contest_cli_audit.specs.Asked.{Asks, AsksNothing, path_of}
use Rattle.contest_cli_audit.specs.LeftOutLine.{is_nothing, left_out_line}
use Rattle.contest_cli_audit.specs.OtherBoards.{Holds, Lacks}
use Rattle.contest_cli_audit.specs.declared.audit_words.AuditWords.{AuditWords}

-- a text, whether it tells of differences, and what was left out
pub record Told : Type 0 where
  pub text : List ℕ
  pub differs : Bool
  pub left_out : LeftOut

-- the board that is asked for of a feed's contest
abbrev pub board_of : ReplayWords → FeedContest → Scoreboard
board_of asked feed = asked_board asked.jury asked.thawed asked.at feed.contest

-- what is told of a feed: its board, as `replay` shows it; or, beside another system's scoreboard, how it differs
abbrev pub told_of_feed : ReplayWords → (there : Option (List OtherRow)) → FeedContest → Told
told_of_feed asked None feed = record {
  text = shown_text (audience_for asked.jury) (marks_for feed.contest.settings asked.thawed) (moment_for feed.contest.settings asked.at) feed.contest;
  differs = false;
  left_out = feed.left_out;
}
told_of_feed asked (Some rows) feed = record {
  text = comparison_text feed.contest.settings (board_of asked feed) rows;
  differs = has_difference feed.contest.settings (board_of asked feed) rows;
  left_out = feed.left_out;
}

-- the same, or why the feed is refused
abbrev pub told_by : ReplayWords → (there : Option (List OtherRow)) → Result FeedContest Refusal → Result Told Refusal
told_by asked there (Err refusal) = Err refusal
told_by asked there (Ok feed) = Ok (told_of_feed asked there feed)

-- what is told of the bytes of a feed
abbrev pub audit_of : AuditWords → (there : Option (List OtherRow)) → List ℕ → Result Told Refusal
audit_of asked there input = told_by asked.board there (contest_in_feed input)

-- a line tells what was left out; where nothing was there is none
abbrev pub NotesIf : (nothing : Bool) → LeftOut → Stream → Stream → Type 0
NotesIf true left_out old new = Keeps old.bytes new.bytes
NotesIf false left_out old new = Tells old new (left_out_line left_out)

abbrev pub Notes : LeftOut → Stream → Stream → Type 0
Notes left_out old new = NotesIf (is_nothing left_out) left_out old new

-- the whole text is on `out`, and what was left out on `err`
abbrev pub IsShown : Told → (out_old out_new err_old err_new : Stream) → Type 0
IsShown told out_old out_new err_old err_new = Appends out_old.bytes out_new.bytes told.text × Notes told.left_out err_old err_new

-- on a machine whose files have this left to read, where this comes of opening one
module _ {F : Type 0} (remaining : F → Option (List ℕ)) (Reads : List ℕ → Result (Counting F) CommandError → Type 0) where
  -- the words ask for something, and the scoreboard that they name is had
  abbrev pub Asked : List Text → AuditWords → (there : Option (List OtherRow)) → Type 0
  Asked words asked there = Asks words asked × Holds remaining Reads (path_of asked) there

  -- the words ask for something of which the input, where it is known, gives this
  abbrev pub Gives : List Text → Option (List ℕ) → Result Told Refusal → Type 0
  Gives words input given =
      (asked : AuditWords) × (there : Option (List OtherRow)) × Asked words asked there × IfSome input (λ bytes. audit_of asked there bytes ≡ given)

  -- the scoreboard that the words name can't be had, and the input is as it was
  abbrev pub LacksBoard : List Text → Stream → Stream → CommandError → Type 0
  LacksBoard words old new stop = (asked : AuditWords) × Asks words asked × Lacks remaining Reads (path_of asked) stop × (new ≡ old)

  -- the words ask for something, and the reader failed
  abbrev pub FailsInput : List Text → Stream → Stream → Type 0
  FailsInput words old new = ((asked : AuditWords) × (there : Option (List OtherRow)) × Asked words asked there) × Fails old new

  -- why nothing is told: the words, memory or what the input holds is refused, the reader failed, or there is
  -- no such scoreboard, which is looked for before the input is read
  abbrev pub StopsBy : List Text → Stream → Stream → CommandError → Type 0
  StopsBy words old new (Usage text) = AsksNothing words
  StopsBy words old new (Refused r) = (r ≡ Memory) ⊎ (LacksBoard words old new (Refused r) ⊎ Gives words old.bytes (Err r))
  StopsBy words old new File = LacksBoard words old new File ⊎ FailsInput words old new
  StopsBy words old new Clock = ⊥
  StopsBy words old new Net = ⊥

  -- something is told, and a front of it is out, for `out` failed
  abbrev pub CutsOff : List Text → Option (List ℕ) → Stream → Stream → Type 0
  CutsOff words input out_old out_new =
      Fails out_old out_new × (told : Told) × Gives words input (Ok told) × AppendsFront out_old.bytes out_new.bytes told.text

  -- how `audit` ends, by its status: 0 with the whole board on `out`, or told to be the same as another; 3 with all
  -- differences from another on `out`; both with a line on `err` if anything was left out; 1 with a line on `err` of
  -- the first fault, of want of memory, or of a file or a stream that failed; 2 where the words have a fault
  pub record Audits (words : List Text) (in_old in_new out_old out_new err_old err_new : Stream) (status : ℕ) : Type 0 where
    pub statuses : status ≤ 3
    pub done : status ≡ 0 → (told : Told) × Gives words in_old.bytes (Ok told)
        × (told.differs ≡ false) × IsShown told out_old out_new err_old err_new
    pub differs : status ≡ 3 → (told : Told) × Gives words in_old.bytes (Ok told)
        × (told.differs ≡ true) × IsShown told out_old out_new err_old err_new
    pub refused : status ≡ 1 → (stop : CommandError) × (exit_status_of stop ≡ 1) × Tells err_old err_new (line_of stop)
        × ((StopsBy words in_old in_new stop × Keeps out_old.bytes out_new.bytes)
        ⊎ ((stop ≡ File) × CutsOff words in_old.bytes out_old out_new))
    pub faulty : status ≡ 2 → AsksNothing words × Keeps out_old.bytes out_new.bytes
        × (text : List ℕ) × Tells err_old err_new text
