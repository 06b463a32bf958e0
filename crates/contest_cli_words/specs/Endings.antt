-- How a command ends that shows a text, or tells of its words.
use Rattle.std.specs.Prelude.{◌≡◌, ◌≤◌, ◌⊎◌, ℕ, List, codes}
use Rattle.std.specs.Io.KnownBytes.{Appends, Keeps}
use Rattle.contest_streams.specs.Streams.{Stream, Fails, Tells, AppendsFront}
use Rattle.contest_types.specs.declared.refusal.Refusal.TheVariants.{Memory}
use Rattle.contest_cli_words.specs.RefusalLine.{refusal_line}

-- words that are refused: this is told (2), or memory for it was refused (1)
abbrev pub TellsWords : List ℕ → Stream → Stream → (status : ℕ) → Type 0
TellsWords text old new status = ((status ≡ 2) × Tells old new text) ⊎ ((status ≡ 1) × Tells old new (refusal_line Memory))

-- a text that was asked for: it is on `out` (0), or a front of it is, for `out` failed, which is told (1)
pub record Shows (text : List ℕ) (out_old out_new err_old err_new : Stream) (status : ℕ) : Type 0 where
  pub statuses : status ≤ 1
  pub done : status ≡ 0 → Appends out_old.bytes out_new.bytes text × Keeps err_old.bytes err_new.bytes
  pub cut : status ≡ 1 → Fails out_old out_new × AppendsFront out_old.bytes out_new.bytes text × Tells err_old err_new (codes "refused: File\n")

-- a text that was asked for, or memory for it was refused
abbrev pub ShowsSome : (out_old out_new err_old err_new : Stream) → (status : ℕ) → Type 0
ShowsSome out_old out_new err_old err_new status =
    ((text : List ℕ) × Shows text out_old out_new err_old err_new status)
    ⊎ ((status ≡ 1) × Keeps out_old.bytes out_new.bytes × Tells err_old err_new (refusal_line Memory))
