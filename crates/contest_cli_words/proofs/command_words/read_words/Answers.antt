use Rattle.std.proofs.Common.{◌≡◌, ◌∙◌, true, sym, subst, refl}
use Rattle.clap.specs.Simple.{app_of}
use Rattle.contest_cli_words.specs.Arguments.{wants_word}
use Rattle.contest_cli_words.proofs.NamingLemmas.{wanted_found}
use Rattle.contest_cli_words.proofs.command_words.read_words.Goals as goal

pub named-requires : goal.named-requires
named-requires g c κs =
    let is : app_of c.in_ok-command.command ≡ g.W.CommandWords.app = c.in_ok-command.ensures ∙ c.command.ensures.table in (
      (refl, tt),
      wanted_found g.W.CommandWords.wanted g.W.CommandWords.app _ c.command.ensures.wants
          (λ name wants. c.in_ok-values.ensures.wanted name (subst (λ app. wants_word name app ≡ true) (sym is) wants)),
    )
