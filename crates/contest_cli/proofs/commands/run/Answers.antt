use Rattle.std.proofs.Common.{◌≡◌, List, ℕ, rules, subst}
use Rattle.contest_streams.specs.Streams.{Stream}
use Rattle.contest_cli_words.specs.Endings.{Shows}
use Rattle.contest_cli.proofs.commands.run.Goals as goal

pub returns-in-Unknown-clause-unknown : goal.returns-in-Unknown-clause-unknown
returns-in-Unknown-clause-unknown g c = λ is. (rw (← c.first_of.ensures) c.refuse_command.ensures, search rules)

shown_as : (text other : List ℕ) (out_old out_new err_old err_new : Stream) (status : ℕ) → text ≡ other → Shows text out_old out_new err_old err_new status → Shows other out_old out_new err_old err_new status
shown_as text other out_old out_new err_old err_new status same shown = subst (λ t. Shows t out_old out_new err_old err_new status) same shown

pub returns-in-Version-clause-version : goal.returns-in-Version-clause-version
returns-in-Version-clause-version g c = λ is. shown_as _ _ _ _ _ _ _ c.as_bytes-in-Version.ensures.value c.show-in-Version.ensures
