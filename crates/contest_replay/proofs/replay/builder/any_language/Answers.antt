use Rattle.std.proofs.Common.{◌∙◌, sym}
use Rattle.contest_replay.proofs.ReplayStateLemmas.{any_name}
use Rattle.contest_replay.proofs.replay.builder.any_language.Goals as goal

pub unreachable-requires-in-Ok-None-parse : goal.unreachable-requires-in-Ok-None-parse
unreachable-requires-in-Ok-None-parse c = absurd (cc (sym c.in-Ok-None-parse.field-0-is ∙ c.in-Ok-None-parse.ensures.value ∙ any_name))
