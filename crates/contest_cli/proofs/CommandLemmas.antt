-- How a command ends that isn't begun.
use Rattle.std.proofs.Common.{◌≡◌, ◌+◌, arith, inl, inr, refl, ℕ, Bool, List, Option}
use Rattle.std.specs.Prelude.{Result}
use Rattle.std.proofs.KnownBytes.{Keeps-refl}
use Rattle.clap.specs.Walk.{Text}
use Rattle.sqlite_trees.specs.declared.store.Store.{Ghosts}
use Rattle.sqlite.specs.Held.{Held}
use Rattle.contest_streams.specs.Streams.{Counting, Fails, Stream, TakesFront, Tells}
use Rattle.contest_streams.specs.declared.input.InputFault.{InputFault}
use Rattle.contest_streams.specs.declared.input.InputFault.TheVariants as fault
use Rattle.contest_types.specs.declared.limits.TheConstants.{IMPORTED_FILE}
use Rattle.contest_types.specs.declared.refusal.Refusal.TheVariants.{Memory}
use Rattle.contest_cli_words.specs.CommandErrors.{exit_status_of, line_of, stop_of}
use Rattle.contest_cli.specs.FileCommands.{IsUnread}
use Rattle.contest_cli.specs.Runs.{Runs}
use Rattle.contest_cli_machine.specs.declared.opening.Opening.{Opening}
use Rattle.contest_cli_words.specs.declared.command_error.CommandError.{CommandError}
use Rattle.contest_cli_words.specs.declared.command_error.CommandError.TheVariants.{Refused}
use Rattle.contest_cli.specs.declared.invocation.CommandName.{CommandName}
use Rattle.contest_cli.specs.declared.invocation.CommandName.TheVariants.{Replay, Audit, Init, Import, Board, Awards, Export, Feed, Serve, Upgrade}
use Rattle.contest_cli_commands.proofs.InputLemmas.{too_large}
use Rattle.contest_cli_replay.proofs.ReplayLemmas.{stopped}

-- a file isn't read to its end
pub is_unread : (old new : Stream) (f : InputFault) → (f ≡ fault.TooLarge → TakesFront old.bytes new.bytes (IMPORTED_FILE + 1)) → (f ≡ fault.File → Fails old new)
    → IsUnread old new (stop_of f)
is_unread old new fault.File large failed = inl (refl, failed refl)
is_unread old new fault.TooLarge large failed = inr (inl (refl, too_large old.bytes new.bytes (large refl)))
is_unread old new fault.Memory large failed = inr (inr refl)

module _ {S F N : Type 0} (g : Ghosts S) (remaining : F → Option (List ℕ)) (Shows : Result ℕ CommandError → Type 0) (There : List ℕ → Result Bool CommandError → Type 0)
    (Found : Opening → List ℕ → Result (Held S) CommandError → Type 0) (Reads : List ℕ → Result (Counting F) CommandError → Type 0) (Left : S → Type 0)
    (All : N → (asked requests : ℕ) → (out_old out_new : Stream) → (old new : Held S) → Type 0) where
  -- memory for its words was refused
  pub out_of_memory : (command : CommandName) (words : List Text) (in_old in_new out err_old err_new : Stream) (status : ℕ)
      → status ≡ exit_status_of (Refused Memory) → Tells err_old err_new (line_of (Refused Memory))
      → Runs g remaining Shows There Found Reads Left All command words in_old in_new out out err_old err_new status
  out_of_memory Replay words in_old in_new out err_old err_new status is told =
      stopped words in_old in_new out err_old err_new (Refused Memory) status (inl refl) is told
  out_of_memory Audit words in_old in_new out err_old err_new status is told =
      record {
        statuses = omega (arith, is);
        done = λ e. absurd (omega (arith, is, e));
        differs = λ e. absurd (omega (arith, is, e));
        refused = λ e. (Refused Memory, refl, told, inl (inl refl, Keeps-refl out.bytes));
        faulty = λ e. absurd (omega (arith, is, e));
      }
  out_of_memory Init words in_old in_new out err_old err_new status is told =
      inl ((Refused Memory, inr (inl refl), is, told), Keeps-refl out.bytes)
  out_of_memory Import words in_old in_new out err_old err_new status is told =
      inl ((Refused Memory, inr (inl refl), is, told), Keeps-refl out.bytes)
  out_of_memory Board words in_old in_new out err_old err_new status is told =
      inl ((Refused Memory, inr (inl refl), is, told), Keeps-refl out.bytes)
  out_of_memory Awards words in_old in_new out err_old err_new status is told =
      inl ((Refused Memory, inr (inl refl), is, told), Keeps-refl out.bytes)
  out_of_memory Export words in_old in_new out err_old err_new status is told =
      inl ((Refused Memory, inr (inl refl), is, told), Keeps-refl out.bytes)
  out_of_memory Feed words in_old in_new out err_old err_new status is told =
      inl ((Refused Memory, inr (inl refl), is, told), Keeps-refl out.bytes)
  out_of_memory Serve words in_old in_new out err_old err_new status is told =
      inl ((Refused Memory, inr (inl refl), is, told), Keeps-refl out.bytes)
  out_of_memory Upgrade words in_old in_new out err_old err_new status is told =
      inl ((Refused Memory, inr (inl refl), is, told), Keeps-refl out.bytes)
