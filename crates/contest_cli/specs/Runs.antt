-- How each command ends, by its words.
use Rattle.std.specs.Prelude.{ℕ, Bool, List, Option, Result}
use Rattle.clap.specs.Walk.{Text}
use Rattle.sqlite_trees.specs.declared.store.Store.{Ghosts}
use Rattle.sqlite.specs.Held.{Held}
use Rattle.contest_streams.specs.Streams.{Counting, Stream}
use Rattle.contest_cli_audit.specs.Audit.{Audits}
use Rattle.contest_cli_replay.specs.Replay.{Replays}
use Rattle.contest_cli_machine.specs.declared.opening.Opening.{Opening}
use Rattle.contest_cli_machine.specs.declared.opening.Opening.TheVariants.{Existing, New}
use Rattle.contest_cli_words.specs.AwardsWords.{NamesAwards, awards_app}
use Rattle.contest_cli_words.specs.declared.awards_words.AwardsWords.{AwardsWords}
use Rattle.contest_cli_words.specs.BoardWords.{NamesBoard, board_app}
use Rattle.contest_cli_words.specs.declared.board_words.BoardWords.{BoardWords}
use Rattle.contest_cli_words.specs.ExportWords.{NamesExport, export_app}
use Rattle.contest_cli_words.specs.declared.export_words.ExportWords.{ExportWords}
use Rattle.contest_cli_words.specs.FeedWords.{NamesFeed, feed_app}
use Rattle.contest_cli_words.specs.declared.feed_words.FeedWords.{FeedWords}
use Rattle.contest_cli_words.specs.ImportWords.{NamesImport, import_app}
use Rattle.contest_cli_words.specs.declared.import_words.ImportWords.{ImportWords}
use Rattle.contest_cli_words.specs.InitWords.{NamesInit, init_app}
use Rattle.contest_cli_words.specs.declared.init_words.InitWords.{InitWords}
use Rattle.contest_cli_words.specs.ServeWords.{NamesServe, serve_app}
use Rattle.contest_cli_words.specs.declared.serve_words.ServeWords.{ServeWords}
use Rattle.contest_cli_words.specs.UpgradeWords.{NamesUpgrade, upgrade_app}
use Rattle.contest_cli_words.specs.declared.upgrade_words.UpgradeWords.{UpgradeWords}
use Rattle.contest_cli.specs.FileCommand.{RunsByWords}
use Rattle.contest_cli.specs.FileCommands.{AwardsLooks, AwardsOn, BoardLooks, BoardsOn, ExportsOn, FeedLooks, FeedsOn, FitsAny, FitsAwards, FitsBoard, FitsClock, FitsFeed, HasAny, HasContest, HasPath, ImportsOn, InitsOn, LacksContest, LacksNothing, LacksPath, LooksAlways, LooksNever, ServesOnce, UpgradesOn}
use Rattle.contest_cli_words.specs.declared.command_error.CommandError.{CommandError}
use Rattle.contest_cli.specs.declared.invocation.CommandName.{CommandName}
use Rattle.contest_cli.specs.declared.invocation.CommandName.TheVariants.{Replay, Audit, Init, Import, Board, Awards, Export, Feed, Serve, Upgrade}

-- on a machine whose stores are of some type S, whose files that are read are of some type F and have this left, and whose
-- network is of some type N: this comes of looking at the clock, of looking whether something is at a path, of opening the SQLite
-- file there in some way and of opening a file there to be read; of a store it has Left; and this is to serve so many clients.
-- Only `init` opens a file in the way that makes it
module _ {S F N : Type 0} (g : Ghosts S) (remaining : F → Option (List ℕ)) (Shows : Result ℕ CommandError → Type 0) (There : List ℕ → Result Bool CommandError → Type 0)
    (Found : Opening → List ℕ → Result (Held S) CommandError → Type 0) (Reads : List ℕ → Result (Counting F) CommandError → Type 0) (Left : S → Type 0)
    (All : N → (asked requests : ℕ) → (out_old out_new : Stream) → (old new : Held S) → Type 0) where
  abbrev pub Runs : CommandName → List Text → (in_old in_new out_old out_new err_old err_new : Stream) → (status : ℕ) → Type 0
  Runs Replay words in_old in_new out_old out_new err_old err_new status =
      Replays words in_old in_new out_old out_new err_old err_new status
  Runs Audit words in_old in_new out_old out_new err_old err_new status =
      Audits remaining Reads words in_old in_new out_old out_new err_old err_new status
  Runs Init words in_old in_new out_old out_new err_old err_new status =
      RunsByWords init_app NamesInit (λ (asked : InitWords). asked.file.now) LooksNever (LacksContest remaining Reads) Shows There (Found New) FitsAny (HasContest remaining Reads) g Left (InitsOn g) words out_old out_new err_old err_new status
  Runs Import words in_old in_new out_old out_new err_old err_new status =
      RunsByWords import_app NamesImport (λ (asked : ImportWords). asked.file.now) LooksAlways (LacksPath remaining Reads) Shows There (Found Existing) (FitsClock Shows) (HasPath remaining Reads) g Left (ImportsOn g remaining) words out_old out_new err_old err_new status
  Runs Board words in_old in_new out_old out_new err_old err_new status =
      RunsByWords board_app NamesBoard (λ (asked : BoardWords). asked.file.now) BoardLooks LacksNothing Shows There (Found Existing) (FitsBoard Shows) HasAny g Left (BoardsOn g) words out_old out_new err_old err_new status
  Runs Awards words in_old in_new out_old out_new err_old err_new status =
      RunsByWords awards_app NamesAwards (λ (asked : AwardsWords). asked.file.now) AwardsLooks LacksNothing Shows There (Found Existing) (FitsAwards Shows) HasAny g Left (AwardsOn g) words out_old out_new err_old err_new status
  Runs Export words in_old in_new out_old out_new err_old err_new status =
      RunsByWords export_app NamesExport (λ (asked : ExportWords). asked.file.now) LooksNever LacksNothing Shows There (Found Existing) FitsAny HasAny g Left (ExportsOn g) words out_old out_new err_old err_new status
  Runs Feed words in_old in_new out_old out_new err_old err_new status =
      RunsByWords feed_app NamesFeed (λ (asked : FeedWords). asked.file.now) FeedLooks LacksNothing Shows There (Found Existing) (FitsFeed Shows) HasAny g Left (FeedsOn g) words out_old out_new err_old err_new status
  Runs Serve words in_old in_new out_old out_new err_old err_new status =
      RunsByWords serve_app NamesServe (λ (asked : ServeWords). asked.file.now) LooksAlways LacksNothing Shows There (Found Existing) (FitsClock Shows) HasAny g Left (ServesOnce g All) words out_old out_new err_old err_new status
  Runs Upgrade words in_old in_new out_old out_new err_old err_new status =
      RunsByWords upgrade_app NamesUpgrade (λ (asked : UpgradeWords). asked.file.now) LooksNever LacksNothing Shows There (Found Existing) FitsAny HasAny g Left (UpgradesOn g) words out_old out_new err_old err_new status
