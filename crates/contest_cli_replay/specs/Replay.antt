-- What `replay` answers.
use Rattle.std.specs.Prelude.{◌≡◌, ◌≤◌, ◌⊎◌, ℕ, List, Option, IfSome, Result, Ok, Err, length, nat_lt, if◌then◌else◌}
use Rattle.std.specs.Io.KnownBytes.{Appends, Keeps}
use Rattle.clap.specs.Walk.{Text}
use Rattle.contest_types.specs.declared.refusal.Refusal.{Refusal}
use Rattle.contest_types.specs.declared.refusal.Refusal.TheVariants.{BodyTooLarge, Memory}
use Rattle.contest_types.specs.declared.limits.TheConstants.{IMPORTED_FILE}
use Rattle.contest_streams.specs.Streams.{Stream, Fails, Tells, AppendsFront}
use Rattle.contest_cli_words.specs.CommandErrors.{exit_status_of, line_of}
use Rattle.contest_cli_words.specs.declared.command_error.CommandError.{CommandError}
use Rattle.contest_cli_words.specs.declared.command_error.CommandError.TheVariants.{Usage, Refused, File, Clock, Net}
use Rattle.contest_cli_replay.specs.Asked.{Asks, AsksNothing}
use Rattle.contest_cli_replay.specs.ReplayText.{board_of}
use Rattle.contest_cli_replay.specs.declared.replay_words.ReplayWords.{ReplayWords}

-- the board's text of a whole input, or the first fault
abbrev pub replay_of : ReplayWords → List ℕ → Result (List ℕ) Refusal
replay_of asked input =
    if nat_lt IMPORTED_FILE (length input) then Err BodyTooLarge else board_of asked.jury asked.thawed asked.at input

-- the words ask for something of which the input, where it is known, gives this
abbrev pub Gives : List Text → Option (List ℕ) → Result (List ℕ) Refusal → Type 0
Gives words input given =
    (asked : ReplayWords) × Asks words asked × IfSome input (λ bytes. replay_of asked bytes ≡ given)

-- the words ask for something
abbrev pub Faultless : List Text → Type 0
Faultless words = (asked : ReplayWords) × Asks words asked

-- why there is no text: the words, memory or what the input holds is refused, or the reader failed
abbrev pub StopsBy : List Text → Stream → Stream → CommandError → Type 0
StopsBy words old new (Usage text) = AsksNothing words
StopsBy words old new (Refused r) = (r ≡ Memory) ⊎ Gives words old.bytes (Err r)
StopsBy words old new File = Faultless words × Fails old new
StopsBy words old new Clock = ⊥
StopsBy words old new Net = ⊥

-- there is a text, and a front of it is out, for `out` failed
abbrev pub CutsOff : List Text → Option (List ℕ) → Stream → Stream → Type 0
CutsOff words input out_old out_new =
    Fails out_old out_new × (text : List ℕ) × Gives words input (Ok text) × AppendsFront out_old.bytes out_new.bytes text

-- how `replay` ends, by its status: 0 with the whole text on `out`; 1 with a line on `err` of the first
-- fault, of want of memory or of a stream that failed; 2 where the words have a fault
pub record Replays (words : List Text) (in_old in_new out_old out_new err_old err_new : Stream) (status : ℕ) : Type 0 where
  pub statuses : status ≤ 2
  pub done : status ≡ 0 → (text : List ℕ) × Gives words in_old.bytes (Ok text)
      × Appends out_old.bytes out_new.bytes text × Keeps err_old.bytes err_new.bytes
  pub refused : status ≡ 1 → (stop : CommandError) × (exit_status_of stop ≡ 1) × Tells err_old err_new (line_of stop)
      × ((StopsBy words in_old in_new stop × Keeps out_old.bytes out_new.bytes)
      ⊎ ((stop ≡ File) × CutsOff words in_old.bytes out_old out_new))
  pub faulty : status ≡ 2 → AsksNothing words × Keeps out_old.bytes out_new.bytes
      × (text : List ℕ) × Tells err_old err_new text
