-- How what is told is shown. Words of private functions: nothing public is said with them.
use Rattle.std.specs.Prelude.{◌≡◌, ◌≢◌, ◌≤◌, ◌⊎◌, ℕ, Bool, true, false, List, Option, IfSome, Err, codes, if◌then◌else◌, string_bytes}
use Rattle.contest_types.specs.declared.refusal.Refusal.TheVariants.{Memory}
use Rattle.contest_streams.specs.Streams.{Stream, Fails, Tells, AppendsFront}
use Rattle.contest_feed_reader.specs.FeedContests.{contest_in_feed}
use Rattle.contest_comparison.specs.declared.other_row.OtherRow.{OtherRow}
use Rattle.contest_cli_words.specs.declared.command_error.CommandError.{CommandError}
use Rattle.contest_cli_words.specs.declared.command_error.CommandError.TheVariants.{Usage, Refused, File, Clock, Net}
use Rattle.contest_cli_replay.specs.declared.replay_words.ReplayWords.{ReplayWords}
use Rattle.contest_cli_audit.specs.Audit.{IsShown, Told, told_by}
use Rattle.contest_cli_audit.specs.declared.audit_command.Audited.{Audited}

-- the exit status of what was told
abbrev pub status_of : (differs : Bool) → ℕ
status_of differs = if differs then 3 else 0

-- why nothing is told of a feed: memory or what it holds is refused, or the reader failed
abbrev pub StopsAudit : ReplayWords → (there : Option (List OtherRow)) → Stream → Stream → CommandError → Type 0
StopsAudit asked there old new (Usage text) = ⊥
StopsAudit asked there old new (Refused r) = (r ≡ Memory) ⊎ IfSome old.bytes (λ bytes. told_by asked there (contest_in_feed bytes) ≡ Err r)
StopsAudit asked there old new File = Fails old new
StopsAudit asked there old new Clock = ⊥
StopsAudit asked there old new Net = ⊥

-- what is told
abbrev pub told_of : Audited → Told
told_of a = record { text = string_bytes a.text; differs = a.differs; left_out = a.left_out }

-- the text is on `out` and what was left out on `err` (0, or 3 where it tells of differences), or a front of it is, for
-- `out` failed, which is told (1)
pub record ShowsAudited (told : Told) (out_old out_new err_old err_new : Stream) (status : ℕ) : Type 0 where
  pub statuses : status ≤ 3
  pub other : status ≢ 2
  pub done : status ≡ 0 → (told.differs ≡ false) × IsShown told out_old out_new err_old err_new
  pub differs : status ≡ 3 → (told.differs ≡ true) × IsShown told out_old out_new err_old err_new
  pub cut : status ≡ 1 → Fails out_old out_new × AppendsFront out_old.bytes out_new.bytes told.text × Tells err_old err_new (codes "refused: File\n")
