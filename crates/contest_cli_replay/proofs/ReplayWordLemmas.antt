-- `replay` wants no word.
use Rattle.std.proofs.Common.{◌≡◌, [], true, refl}
use Rattle.clap.proofs.OnLiterals.{clap_on_literals}
use Rattle.contest_cli_replay.specs.Asked.{replay_app}
use Rattle.contest_cli_words.specs.CommandTable.{wants_words}

pub replay_wants : wants_words [] replay_app ≡ true
unfolding clap_on_literals replay_app
replay_wants = refl
