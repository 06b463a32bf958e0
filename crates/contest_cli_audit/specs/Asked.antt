-- What the words of `audit` ask for.
use Rattle.std.specs.Prelude.{◌≡◌, ◌∷◌, List, [], Option, codes}
use Rattle.std.specs.Option.{option_map}
use Rattle.clap.specs.Simple.{App}
use Rattle.clap.specs.Walk.{Row, Text, first_of}
use Rattle.contest_cli_replay.specs.Asked.{NamesReplay}
use Rattle.contest_cli_words.specs.Arguments.{flag, option}
use Rattle.contest_cli_words.specs.CommandTable.{HasFault, Names, command_with}
use Rattle.contest_cli_audit.specs.declared.audit_words.AuditWords.{AuditWords}

-- the command
unfoldable pub audit_app : App
audit_app =
    command_with (codes "audit") (flag (codes "jury") ∷ flag (codes "thawed") ∷ option (codes "at") ∷ option (codes "against") ∷ [])

-- the path that is asked for, if one is
abbrev pub path_of : AuditWords → Option Text
path_of asked = option_map (λ s. s.now) asked.against

-- the jury's board, the board after the thaw, and its contest time, as `replay` names them; and a path
pub record NamesAudit (values : List Row) (asked : AuditWords) : Type 0 where
  pub board : NamesReplay values asked.board
  pub path : first_of (codes "against") values ≡ path_of asked

-- the words have no fault, and ask for this
abbrev pub Asks : List Text → AuditWords → Type 0
Asks words asked = Names NamesAudit audit_app words asked

-- the words ask for nothing that there is
abbrev pub AsksNothing : List Text → Type 0
AsksNothing words = HasFault NamesAudit audit_app words
