-- How `serve` ends (own).
use Rattle.std.specs.Prelude.{◌≡◌, ◌≤◌, ◌⊎◌, ◌++◌, ℕ, List, Option, Result, codes, length}
use Rattle.std.specs.Fmt.{decimal}
use Rattle.std.specs.Io.KnownBytes.{Appends, Keeps}
use Rattle.sqlite_trees.specs.declared.store.Store.{Ghosts}
use Rattle.sqlite.specs.Held.{Held, state}
use Rattle.sqlite.specs.State.{HasCleanDisk, State}
use Rattle.contest_types.specs.State.{ContestState}
use Rattle.contest_streams.specs.Streams.{AppendsFront, Counting, Fails, Stream, Tells}
use Rattle.contest_desk.specs.Runs.{IsRun, LeavesAfter}
use Rattle.contest_desk.specs.declared.item.Answer.{Answer}
use Rattle.contest_desk.specs.declared.item.Item.{Item}
use Rattle.contest_store_sqlite.specs.Contests.{may_leave_of}
use Rattle.contest_store_sqlite.specs.Creation.{KeepsLists}
use Rattle.contest_store_sqlite.specs.Opening.{FindsContest, Opened, may_leave_filled}
use Rattle.contest_store_sqlite.specs.Value.{StoreValue, shown_in, stored}
use Rattle.contest_cli_words.specs.CommandErrors.{line_of}
use Rattle.contest_cli_words.specs.declared.command_error.CommandError.{CommandError}
use Rattle.contest_cli_words.specs.declared.command_error.CommandError.TheVariants.{Clock, File, Net}
use Rattle.contest_cli_commands.specs.Clients.{ServesClients}
use Rattle.contest_cli_commands.specs.Printing.{StopsOpening}
use Rattle.contest_cli_machine.specs.Ports.{IsPort}

-- what is told of a port that clients can connect to
abbrev pub listening_line : (port : ℕ) → List ℕ
listening_line port = codes "listening on 127.0.0.1:" ++ decimal port ++ codes "\n"

-- for this reason no desk can be made of the file, or nobody can connect: nothing is told of a port
abbrev pub StopsBefore : (Opening : CommandError → Type 0) → CommandError → Type 0
StopsBefore Opening stop = Opening stop ⊎ (stop ≡ Net)

-- a desk is made already
abbrev pub StopsNone : CommandError → Type 0
StopsNone stop = ⊥

-- clients were served, until none can connect any more or there is no moment
abbrev pub StopsAfter : CommandError → Type 0
StopsAfter stop = (stop ≡ Net) ⊎ (stop ≡ Clock)

-- the port was told, or a front of it is out since `out` failed
abbrev pub TellsPort : (asked : ℕ) → (out_old out_new : Stream) → CommandError → Type 0
TellsPort asked out_old out_new stop =
    (port : ℕ) × IsPort asked port × ((StopsAfter stop × Appends out_old.bytes out_new.bytes (listening_line port))
    ⊎ ((stop ≡ File) × Fails out_old out_new × AppendsFront out_old.bytes out_new.bytes (listening_line port)))

-- what is told, by the status: with 0 the port on `out`; with 1 a line on `err` of the first fault
pub record TellsServing (Opening : CommandError → Type 0) (asked : ℕ) (out_old out_new err_old err_new : Stream) (status : ℕ) : Type 0 where
  pub statuses : status ≤ 1
  pub done : status ≡ 0 → (port : ℕ) × IsPort asked port × Appends out_old.bytes out_new.bytes (listening_line port) × Keeps err_old.bytes err_new.bytes
  pub refused : status ≡ 1 → (stop : CommandError) × Tells err_old err_new (line_of stop)
      × ((StopsBefore Opening stop × Keeps out_old.bytes out_new.bytes) ⊎ TellsPort asked out_old out_new stop)

-- the tables showed the lists of a valid contest, and from it there is a run of the machine by one request at most of each of so many
-- clients; a crash leaves what it may leave after that run
pub record ServesTables (clients : ℕ) (old new : State) : Type 0 where
  pub contest : ContestState
  pub found : FindsContest old contest
  pub items : List Item
  pub answers : List Answer
  pub each : length items ≤ clients
  pub last : ContestState
  pub runs : IsRun contest items answers last
  pub leaves : (c : Option ContestState) → may_leave_of new c → LeavesAfter (may_leave_filled old) contest items answers c

-- how it ends: what is told of it, and what becomes of the tables, which stay as they were where no desk can be made of
-- them. With status 0 one was
pub record Serves (asked requests : ℕ) (out_old out_new err_old err_new : Stream) (old new : State) (status : ℕ) : Type 0 where
  pub told : TellsServing (StopsOpening old new) asked out_old out_new err_old err_new status
  pub done : status ≡ 0 → HasCleanDisk new → ServesTables requests old new
  pub leaves : HasCleanDisk new → KeepsLists old new ⊎ ServesTables requests old new

-- something listens on the port that was asked for, its port is told, and so many of its clients are served (Clients)
pub record ServesHere {D L : Type 0} (port_of : L → ℕ) (Clients : ℕ → (old new : L) → (before after : D) → Type 0)
    (asked requests : ℕ) (out_old out_new : Stream) (before after : D) : Type 0 where
  pub first : L
  pub last : L
  pub listens : IsPort asked (port_of first)
  pub told : Appends out_old.bytes out_new.bytes (listening_line (port_of first))
  pub served : Clients requests first last before after

-- that is done by a desk of the contest that a connection shows, and the connection is the desk's after it
pub record ServesAll {S L : Type 0} (g : Ghosts S) (port_of : L → ℕ) (Clients : ℕ → (old new : L) → (before after : StoreValue S) → Type 0)
    (asked requests : ℕ) (out_old out_new : Stream) (old new : Held S) : Type 0 where
  pub before : StoreValue S
  pub after : StoreValue S
  pub opened : HasCleanDisk (shown_in g before) → Opened (state g old) (stored g before)
  pub here : ServesHere port_of Clients asked requests out_old out_new before after
  pub kept : new ≡ after.conn

-- the same on a network, at the moments that its clock shows
abbrev pub ServesOn : {S L N R W : Type 0} → Ghosts S → (L → ℕ) → (L → Option (R × W) → L → Type 0) → (L → Counting R → Counting W → Type 0) → (N → L → Result ℕ CommandError → Type 0)
    → (R → Option (List ℕ)) → (W → Option (List ℕ)) → (network : N) → (asked requests : ℕ) → (out_old out_new : Stream) → (old new : Held S) → Type 0
ServesOn g port_of gives parts shows remaining contents network asked requests out_old out_new old new =
    ServesAll g port_of (ServesClients gives parts (shows network) remaining contents (stored g)) asked requests out_old out_new old new
