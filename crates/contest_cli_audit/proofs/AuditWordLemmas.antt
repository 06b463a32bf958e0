-- `audit` wants no word.
use Rattle.std.proofs.Common.{◌≡◌, [], true, refl}
use Rattle.clap.proofs.OnLiterals.{clap_on_literals}
use Rattle.contest_cli_audit.specs.Asked.{audit_app}
use Rattle.contest_cli_words.specs.CommandTable.{wants_words}

pub audit_wants : wants_words [] audit_app ≡ true
unfolding clap_on_literals audit_app
audit_wants = refl
