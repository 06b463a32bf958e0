-- How a command ends that keeps a contest in a file: by its words, by what can't be had of the machine, or as it says
-- of what was opened.
use Rattle.std.specs.Prelude.{◌≡◌, ◌⊎◌, ℕ, Bool, true, List, Result, Ok, Err}
use Rattle.std.specs.Io.KnownBytes.{Keeps}
use Rattle.clap.specs.Simple.{App}
use Rattle.clap.specs.Walk.{Row, Text}
use Rattle.sqlite_trees.specs.declared.store.Store.{Ghosts}
use Rattle.sqlite.specs.Held.{Held, state}
use Rattle.contest_streams.specs.Streams.{Stream, Tells}
use Rattle.contest_store_tables.specs.Numbered.{IsNumbered}
use Rattle.contest_cli_words.specs.CommandErrors.{IsMemory, IsWords, exit_status_of, line_of}
use Rattle.contest_cli_words.specs.CommandTable.{HasFault, Names}
use Rattle.contest_cli_machine.specs.Unopened.{IsNoStore}
use Rattle.contest_cli_machine.specs.declared.opening.Opening.{Opening}
use Rattle.contest_cli_machine.specs.declared.opening.Opening.TheVariants.{Existing}
use Rattle.contest_cli_words.specs.declared.command_error.CommandError.{CommandError}
use Rattle.contest_cli_words.specs.declared.command_error.CommandError.TheVariants.{Clock}

-- a command isn't begun: `err` is told why, and the status is that of what is told
abbrev pub EndsEarly : (CommandError → Type 0) → (err_old err_new : Stream) → (status : ℕ) → Type 0
EndsEarly Why err_old err_new status =
    (stop : CommandError) × Why stop × (status ≡ exit_status_of stop) × Tells err_old err_new (line_of stop)

-- the file that keeps the contest isn't made by its opening: the command makes none, or something is at the path
abbrev pub StandsThere : Opening → (There : List ℕ → Result Bool CommandError → Type 0) → (path : List ℕ) → Type 0
StandsThere way There path = (way ≡ Existing) ⊎ There path (Ok true)

-- that file can't be looked for, or not be opened
abbrev pub Unopened : {A S : Type 0} → (file : A → List ℕ) → (There : List ℕ → Result Bool CommandError → Type 0) → (Found : List ℕ → Result (Held S) CommandError → Type 0)
    → A → CommandError → Type 0
Unopened file There Found asked stop = IsNoStore stop × (There (file asked) (Err stop) ⊎ Found (file asked) (Err stop))

-- a command is known to clap; values of its words are some A, which name the file that keeps the contest, and which leave
-- the moment to the clock if it Looks; this can't be had of the machine for them. On the machine this comes of looking at
-- the clock, of looking whether something is at a path, and of opening the SQLite file there
module _ {A S : Type 0} (app : App) (Is : List Row → A → Type 0) (file : A → List ℕ) (Looks : A → Type 0) (Lacks : A → CommandError → Type 0)
    (Shows : Result ℕ CommandError → Type 0) (There : List ℕ → Result Bool CommandError → Type 0) (Found : List ℕ → Result (Held S) CommandError → Type 0) where
  -- a clock that shows no moment, that file, or something else that can't be had
  abbrev pub Unmet : A → CommandError → Type 0
  Unmet asked stop = (Looks asked × (stop ≡ Clock) × Shows (Err stop)) ⊎ (Unopened file There Found asked stop ⊎ Lacks asked stop)

  -- why it isn't begun: its words have a fault, or memory was refused, or something can't be had of the machine
  abbrev pub StopsEarly : List Text → CommandError → Type 0
  StopsEarly words stop =
      (IsWords stop × HasFault Is app words) ⊎ (IsMemory stop ⊎ ((asked : A) × Names Is app words asked × Unmet asked stop))

  -- it runs at some N, which Fits what is asked for, on some I that it Has of the machine; of a store of type S it has
  -- Left; and it ends so on one
  module _ {N I : Type 0} (Fits : A → N → Type 0) (Has : A → I → Type 0) (g : Ghosts S) (Left : S → Type 0)
      (Ends : A → N → I → (out_old out_new err_old err_new : Stream) → (old new : Held S) → (status : ℕ) → Type 0) where
    -- it is begun, and ends as it says of the file that was opened, from which it parts
    abbrev pub RunsOpened : List Text → (out_old out_new err_old err_new : Stream) → (status : ℕ) → Type 0
    RunsOpened words out_old out_new err_old err_new status =
        (asked : A) × Names Is app words asked × (now : N) × Fits asked now × (input : I) × Has asked input
        × (old new : Held S) × Found (file asked) (Ok old) × IsNumbered (state g old)
        × Ends asked now input out_old out_new err_old err_new old new status × (last : S) × Left last

    -- how it ends by its words; where it isn't begun, `out` keeps what it had
    abbrev pub RunsByWords : List Text → (out_old out_new err_old err_new : Stream) → (status : ℕ) → Type 0
    RunsByWords words out_old out_new err_old err_new status =
        (EndsEarly (StopsEarly words) err_old err_new status × Keeps out_old.bytes out_new.bytes)
        ⊎ RunsOpened words out_old out_new err_old err_new status
