use Rattle.std.proofs.Common.{inr}
use Rattle.std.proofs.KnownBytes.{Keeps-refl}
use Rattle.contest_cli_words.proofs.help.show_help.Goals as goal

pub returns-in-Err : goal.returns-in-Err
returns-in-Err g c = inr (c.refuse.ensures.status, Keeps-refl _, c.refuse.ensures.told)
