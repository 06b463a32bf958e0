-- What each command that keeps a contest in a file asks of the machine, and how it ends on what was opened.
use Rattle.std.specs.Prelude.{◌≡◌, ◌≤◌, ◌⊎◌, ℕ, Bool, if◌then◌else◌, List, Option, Some, None, Result, Ok, Err}
use Rattle.std.specs.Io.KnownBytes.{Keeps}
use Rattle.sqlite_trees.specs.declared.store.Store.{Ghosts}
use Rattle.sqlite.specs.Held.{Held, state}
use Rattle.sqlite.specs.State.{State}
use Rattle.contest_streams.specs.Streams.{Counting, Fails, ReadsAll, Stream, stream}
use Rattle.contest_types.specs.declared.limits.TheConstants.{IMPORTED_FILE}
use Rattle.contest_types.specs.declared.refusal.Refusal.TheVariants.{BodyTooLarge, Memory}
use Rattle.contest_cli_commands.specs.Exporting.{Exports}
use Rattle.contest_cli_commands.specs.ExportingResults.{ExportsResults}
use Rattle.contest_cli_commands.specs.Feeding.{Feeds}
use Rattle.contest_cli_commands.specs.Import.{Imports}
use Rattle.contest_cli_commands.specs.Init.{Inits}
use Rattle.contest_cli_commands.specs.Inputs.{IsTooLarge}
use Rattle.contest_cli_commands.specs.Printing.{Prints}
use Rattle.contest_cli_commands.specs.Serve.{Serves}
use Rattle.contest_cli_commands.specs.Upgrade.{Upgrades}
use Rattle.contest_cli_machine.specs.Unopened.{IsNoFile}
use Rattle.contest_cli_words.specs.declared.asked_board.Who.{Who}
use Rattle.contest_cli_words.specs.declared.asked_board.Who.TheVariants.{Jury, Public}
use Rattle.contest_cli_words.specs.declared.asked_text.AskedText.TheVariants.{Awards, Board}
use Rattle.contest_cli_words.specs.declared.awards_words.AwardsWords.{AwardsWords}
use Rattle.contest_cli_words.specs.declared.board_words.BoardWords.{BoardWords}
use Rattle.contest_cli_words.specs.declared.command_error.CommandError.{CommandError}
use Rattle.contest_cli_words.specs.declared.command_error.CommandError.TheVariants.{File, Refused}
use Rattle.contest_cli_words.specs.declared.export_words.ExportFormat.{ExportFormat}
use Rattle.contest_cli_words.specs.declared.export_words.ExportFormat.TheVariants.{Csv, Icpc}
use Rattle.contest_cli_words.specs.declared.export_words.ExportWords.{ExportWords}
use Rattle.contest_cli_words.specs.declared.feed_words.FeedWords.{FeedWords}
use Rattle.contest_cli_words.specs.declared.import_words.ImportWords.{ImportWords}
use Rattle.contest_cli_words.specs.declared.init_words.InitWords.{InitWords}
use Rattle.contest_cli_words.specs.declared.serve_words.ServeWords.{ServeWords}
use Rattle.contest_cli_words.specs.declared.upgrade_words.UpgradeWords.{UpgradeWords}

-- whether a command leaves its moment to the clock: never, always, or, as `board`, `awards` and `feed`, if its words name none
abbrev pub LooksNever : {A : Type 0} → A → Type 0
LooksNever asked = ⊥

abbrev pub LooksAlways : {A : Type 0} → A → Type 0
LooksAlways asked = Unit {0}

abbrev pub BoardLooks : BoardWords → Type 0
BoardLooks asked = asked.at ≡ None

abbrev pub AwardsLooks : AwardsWords → Type 0
AwardsLooks asked = asked.at ≡ None

abbrev pub FeedLooks : FeedWords → Type 0
FeedLooks asked = asked.at ≡ None

-- a command that runs at no moment
abbrev pub FitsAny : {A : Type 0} → A → Unit {0} → Type 0
FitsAny asked now = Unit {0}

-- where this is what the clock shows
module _ (Shows : Result ℕ CommandError → Type 0) where
  -- the moment that is asked for, or the clock's where none is
  abbrev pub IsAskedMoment : Option ℕ → ℕ → Type 0
  IsAskedMoment None now = Shows (Ok now)
  IsAskedMoment (Some moment) now = now ≡ moment

  abbrev pub FitsBoard : BoardWords → ℕ → Type 0
  FitsBoard asked now = IsAskedMoment asked.at now

  abbrev pub FitsAwards : AwardsWords → ℕ → Type 0
  FitsAwards asked now = IsAskedMoment asked.at now

  abbrev pub FitsFeed : FeedWords → ℕ → Type 0
  FitsFeed asked now = IsAskedMoment asked.at now

  -- a command whose words name no moment
  abbrev pub FitsClock : {A : Type 0} → A → ℕ → Type 0
  FitsClock asked now = Shows (Ok now)

-- a command that reads no file lacks none, and whatever it asks of the machine it has
abbrev pub LacksNothing : {A : Type 0} → A → CommandError → Type 0
LacksNothing asked stop = ⊥

abbrev pub HasAny : {A I : Type 0} → A → I → Type 0
HasAny asked input = Unit {0}

-- why a file isn't read to its end
abbrev pub IsUnread : (in_old in_new : Stream) → CommandError → Type 0
IsUnread in_old in_new stop =
    ((stop ≡ File) × Fails in_old in_new) ⊎ (((stop ≡ Refused BodyTooLarge) × IsTooLarge in_old) ⊎ (stop ≡ Refused Memory))

-- files that are read are of some type F, of which this is what one has left, and this comes of opening the one at a path
module _ {F : Type 0} (remaining : F → Option (List ℕ)) (Reads : List ℕ → Result (Counting F) CommandError → Type 0) where
  -- what `init` reads can't be opened, or isn't read to its end
  abbrev pub LacksContest : InitWords → CommandError → Type 0
  LacksContest asked stop =
      (IsNoFile stop × Reads asked.contest.now (Err stop))
      ⊎ ((file : Counting F) × Reads asked.contest.now (Ok file) × (left : Stream) × IsUnread (stream remaining file) left stop)

  -- it has all bytes of that file
  abbrev pub HasContest : InitWords → List ℕ → Type 0
  HasContest asked bytes =
      (file : Counting F) × Reads asked.contest.now (Ok file) × (left : Option (List ℕ)) × ReadsAll (remaining file.inner) left IMPORTED_FILE bytes

  -- what `import` reads can't be opened
  abbrev pub LacksPath : ImportWords → CommandError → Type 0
  LacksPath asked stop = IsNoFile stop × Reads asked.path.now (Err stop)

  -- it has that file
  abbrev pub HasPath : ImportWords → Counting F → Type 0
  HasPath asked file = Reads asked.path.now (Ok file)

-- who looks at awards
abbrev pub viewer : (jury : Bool) → Who
viewer jury = if jury then Jury else Public

-- all submissions are exported, or the final results
abbrev pub ExportsAs : ExportFormat → (out_old out_new err_old err_new : Stream) → (old new : State) → (status : ℕ) → Type 0
ExportsAs Csv = Exports
ExportsAs Icpc = ExportsResults

-- stores of some type S
module _ {S : Type 0} (g : Ghosts S) where
  -- `init`, of a contest whose bytes these are; `out` keeps what it had
  abbrev pub InitsOn : InitWords → Unit {0} → List ℕ → (out_old out_new err_old err_new : Stream) → (old new : Held S) → (status : ℕ) → Type 0
  InitsOn asked now bytes out_old out_new err_old err_new old new status =
      ((left : Stream) × Inits (record { bytes = Some bytes; faults = 0 }) left err_old err_new (state g old) (state g new) status) × Keeps out_old.bytes out_new.bytes

  -- `import`, of a file that is read, at a moment
  abbrev pub ImportsOn : {F : Type 0} → (F → Option (List ℕ)) → ImportWords → ℕ → Counting F → (out_old out_new err_old err_new : Stream) → (old new : Held S) → (status : ℕ) → Type 0
  ImportsOn remaining asked now file out_old out_new err_old err_new old new status =
      (left : Stream) × Imports now asked.kind (stream remaining file) left out_old out_new err_old err_new (state g old) (state g new) status

  -- `board`, at a moment
  abbrev pub BoardsOn : BoardWords → ℕ → Unit {0} → (out_old out_new err_old err_new : Stream) → (old new : Held S) → (status : ℕ) → Type 0
  BoardsOn asked now input out_old out_new err_old err_new old new status =
      Prints now (Board asked.asked) out_old out_new err_old err_new (state g old) (state g new) status

  -- `awards`, likewise
  abbrev pub AwardsOn : AwardsWords → ℕ → Unit {0} → (out_old out_new err_old err_new : Stream) → (old new : Held S) → (status : ℕ) → Type 0
  AwardsOn asked now input out_old out_new err_old err_new old new status =
      Prints now (Awards (viewer asked.jury)) out_old out_new err_old err_new (state g old) (state g new) status

  -- `export`
  abbrev pub ExportsOn : ExportWords → Unit {0} → Unit {0} → (out_old out_new err_old err_new : Stream) → (old new : Held S) → (status : ℕ) → Type 0
  ExportsOn asked now input out_old out_new err_old err_new old new status =
      (status ≤ 1) × ExportsAs asked.format out_old out_new err_old err_new (state g old) (state g new) status

  -- `feed`, at a moment
  abbrev pub FeedsOn : FeedWords → ℕ → Unit {0} → (out_old out_new err_old err_new : Stream) → (old new : Held S) → (status : ℕ) → Type 0
  FeedsOn asked now input out_old out_new err_old err_new old new status = Feeds now asked.who out_old out_new err_old err_new (state g old) (state g new) status

  -- `upgrade`
  abbrev pub UpgradesOn : UpgradeWords → Unit {0} → Unit {0} → (out_old out_new err_old err_new : Stream) → (old new : Held S) → (status : ℕ) → Type 0
  UpgradesOn asked now input out_old out_new err_old err_new old new status = Upgrades out_old out_new err_old err_new (state g old) (state g new) status

  -- `serve`, on some network, where this is to serve so many of its clients
  abbrev pub ServesOnce : {N : Type 0} → (All : N → (asked requests : ℕ) → (out_old out_new : Stream) → (old new : Held S) → Type 0)
      → ServeWords → ℕ → N → (out_old out_new err_old err_new : Stream) → (old new : Held S) → (status : ℕ) → Type 0
  ServesOnce All asked now network out_old out_new err_old err_new old new status =
      Serves asked.port asked.requests out_old out_new err_old err_new (state g old) (state g new) status
      × (status ≡ 0 → All network asked.port asked.requests out_old out_new old new)
