-- What a command stops by that lacks the scoreboard which its words name.
use Rattle.std.proofs.Common.{inl, inr, refl, ℕ, List, Option, Some, None}
use Rattle.std.specs.Prelude.{Result}
use Rattle.clap.specs.Walk.{Text}
use Rattle.contest_streams.specs.Streams.{Counting, Stream}
use Rattle.contest_cli_machine.specs.Unopened.{IsNoFile}
use Rattle.contest_cli_words.specs.declared.command_error.CommandError.{CommandError}
use Rattle.contest_cli_words.specs.declared.command_error.CommandError.TheVariants.{Usage, Refused, File, Clock, Net}
use Rattle.contest_cli_audit.specs.Asked.{Asks, path_of}
use Rattle.contest_cli_audit.specs.Audit.{StopsBy}
use Rattle.contest_cli_audit.specs.OtherBoards.{Lacks, StopsScoreboard}
use Rattle.contest_cli_audit.specs.declared.audit_words.AuditWords.{AuditWords}

module _ {F : Type 0} (remaining : F → Option (List ℕ)) (Reads : List ℕ → Result (Counting F) CommandError → Type 0) where
  -- neither a file that can't be opened nor one that holds no scoreboard is told so
  never : (path : Option Text) (stop : CommandError) → (IsNoFile stop → ⊥) → ((old new : Stream) → StopsScoreboard old new stop → ⊥)
      → Lacks remaining Reads path stop → ⊥
  never None stop no_file no_board lacks = lacks
  never (Some path) stop no_file no_board (inl unopened) = no_file unopened.0
  never (Some path) stop no_file no_board (inr read) = no_board _ read.2 read.3

  pub lacks_stops : (words : List Text) (asked : AuditWords) (input : Stream) (stop : CommandError)
      → Asks words asked → Lacks remaining Reads (path_of asked) stop → StopsBy remaining Reads words input input stop
  lacks_stops words asked input (Usage text) asks lacks =
      absurd (never (path_of asked) (Usage text) (λ e. elim e [ inl f ↦ cc | inr m ↦ cc ]) (λ old new h. h) lacks)
  lacks_stops words asked input (Refused r) asks lacks = inr (inl (asked, asks, lacks, refl))
  lacks_stops words asked input File asks lacks = inl (asked, asks, lacks, refl)
  lacks_stops words asked input Clock asks lacks =
      absurd (never (path_of asked) Clock (λ e. elim e [ inl f ↦ cc | inr m ↦ cc ]) (λ old new h. h) lacks)
  lacks_stops words asked input Net asks lacks =
      absurd (never (path_of asked) Net (λ e. elim e [ inl f ↦ cc | inr m ↦ cc ]) (λ old new h. h) lacks)
