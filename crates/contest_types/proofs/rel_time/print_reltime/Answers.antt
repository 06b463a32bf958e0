use Rattle.std.proofs.Common.{sym, subst}
use Rattle.std.specs.Str.{IsUtf8}
use Rattle.std.proofs.lemmas.Str.{IsUtf8-from_ascii}
use Rattle.contest_types.specs.RelTimeText.{rel_time_text}
use Rattle.contest_types.proofs.Printed.{printed_ascii}
use Rattle.contest_types.proofs.rel_time.print_reltime.Goals as goal

pub returns-clause-utf8 : goal.returns-clause-utf8
returns-clause-utf8 c =
    subst IsUtf8 (sym c.write_reltime.ensures.text) (IsUtf8-from_ascii (rel_time_text c.args.time) (printed_ascii c.args.time c.write_reltime.ensures.near))
