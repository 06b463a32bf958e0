-- What the words of `replay` ask for.
use Rattle.std.specs.Prelude.{◌≡◌, ℤ, pos, ◌≤ℤ◌, ◌∷◌, List, [], Option, Some, None, IsTrue, ◌↔◌, codes}
use Rattle.contest_types.specs.RelTimeText.{IsRelTimeText}
use Rattle.clap.specs.Simple.{App}
use Rattle.clap.specs.Walk.{Row, Text, first_of}
use Rattle.contest_cli_words.specs.Arguments.{flag, option}
use Rattle.contest_cli_words.specs.CommandTable.{HasFault, Names, command_with}
use Rattle.contest_cli_replay.specs.declared.replay_words.ReplayWords.{ReplayWords}

-- the command
unfoldable pub replay_app : App
replay_app = command_with (codes "replay") (flag (codes "jury") ∷ flag (codes "thawed") ∷ option (codes "at") ∷ [])

-- the text shows a contest time, which isn't below zero
abbrev pub IsContestTime : Text → ℤ → Type 0
IsContestTime text time = IsRelTimeText text time × (pos 0 ≤ℤ time)

-- the text of `--at`, where it is there, shows this contest time
abbrev pub ShowsTime : Option Text → Option ℤ → Type 0
ShowsTime None None = Unit {0}
ShowsTime None (Some time) = ⊥
ShowsTime (Some text) None = ⊥
ShowsTime (Some text) (Some time) = IsContestTime text time

-- no contest time is shown
abbrev pub ShowsNone : Option Text → Type 0
ShowsNone text = (at : Option ℤ) → ShowsTime text at → ⊥

-- the jury's board, the board after the thaw, and its contest time
pub record NamesReplay (values : List Row) (asked : ReplayWords) : Type 0 where
  pub for_jury : IsTrue asked.jury ↔ (first_of (codes "jury") values ≡ Some (codes "true"))
  pub after_thaw : IsTrue asked.thawed ↔ (first_of (codes "thawed") values ≡ Some (codes "true"))
  pub time : ShowsTime (first_of (codes "at") values) asked.at

-- the words have no fault, and ask for this
abbrev pub Asks : List Text → ReplayWords → Type 0
Asks words asked = Names NamesReplay replay_app words asked

-- the words ask for nothing that there is
abbrev pub AsksNothing : List Text → Type 0
AsksNothing words = HasFault NamesReplay replay_app words
