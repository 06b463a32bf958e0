use Rattle.std.proofs.Common.{◌≡◌, ◌∙◌, List, ℕ, refl, subst, inl}
use Rattle.contest_streams.specs.Streams.{Stream, Tells}
use Rattle.contest_cli_words.specs.Endings.{TellsWords}
use Rattle.contest_cli.proofs.commands.refuse_command.Goals as goal

told_as : (text other : List ℕ) (old new : Stream) → text ≡ other → Tells old new text → TellsWords other old new 2
told_as text other old new same told = inl (refl, subst (λ t. Tells old new t) same told)

pub returns-in-Ok : goal.returns-in-Ok
returns-in-Ok g c = told_as _ _ _ _ (c.as_bytes.ensures.value ∙ c.in-Ok.ensures) c.tell.ensures
