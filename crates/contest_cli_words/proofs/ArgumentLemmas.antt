-- A command that is put together in a straight line.
use Rattle.std.proofs.Common.{◌≡◌, ◌∙◌, ap₂, Result, Ok, Err, IfOk}
use Rattle.std.specs.Prelude.{IsOkAnd}
use Rattle.clap.specs.Simple.{App, app_of, with_rule}
use Rattle.clap.specs.Walk.{Rule}
use Rattle.clap.specs.declared.builder.command.Command.{Command}

-- one more word, flag or option, by its rule
pub adds : {E : Type 0} (given made : Result Command E) (app : App) (rule asked : Rule)
    → IfOk given (λ c. app_of c ≡ app) → rule ≡ asked
    → IfOk made (λ c. IsOkAnd given (λ old. app_of c ≡ with_rule (app_of old) rule))
    → IfOk made (λ c. app_of c ≡ with_rule app asked)
adds (Ok old) (Ok c) app rule asked stands same more = more ∙ ap₂ with_rule stands same
adds (Err e) (Ok c) app rule asked stands same more = absurd more
adds given (Err e) app rule asked stands same more = tt
