-- Each command wants its words.
use Rattle.std.proofs.Common.{◌≡◌, true, refl}
use Rattle.clap.proofs.OnLiterals.{clap_on_literals}
use Rattle.contest_cli_words.specs.AwardsWords.{awards_app}
use Rattle.contest_cli_words.specs.BoardWords.{board_app}
use Rattle.contest_cli_words.specs.CommandTable.{only_file, wants_words}
use Rattle.contest_cli_words.specs.ExportWords.{export_app}
use Rattle.contest_cli_words.specs.FeedWords.{feed_app}
use Rattle.contest_cli_words.specs.ImportWords.{import_app, import_wanted}
use Rattle.contest_cli_words.specs.InitWords.{init_app, init_wanted}
use Rattle.contest_cli_words.specs.ServeWords.{serve_app}
use Rattle.contest_cli_words.specs.UpgradeWords.{upgrade_app}

pub init_wants : wants_words init_wanted init_app ≡ true
unfolding clap_on_literals init_app
init_wants = refl

pub import_wants : wants_words import_wanted import_app ≡ true
unfolding clap_on_literals import_app
import_wants = refl

pub board_wants : wants_words only_file board_app ≡ true
unfolding clap_on_literals board_app
board_wants = refl

pub serve_wants : wants_words only_file serve_app ≡ true
unfolding clap_on_literals serve_app
serve_wants = refl

pub awards_wants : wants_words only_file awards_app ≡ true
unfolding clap_on_literals awards_app
awards_wants = refl

pub export_wants : wants_words only_file export_app ≡ true
unfolding clap_on_literals export_app
export_wants = refl

pub upgrade_wants : wants_words only_file upgrade_app ≡ true
unfolding clap_on_literals upgrade_app
upgrade_wants = refl

pub feed_wants : wants_words only_file feed_app ≡ true
unfolding clap_on_literals feed_app
feed_wants = refl
