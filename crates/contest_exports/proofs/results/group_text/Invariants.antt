use Rattle.std.specs.Prelude.{◌≡◌, drop}
use Rattle.contest_exports.specs.ResultsTsv.{group_text}
use Rattle.contest_exports.proofs.results.group_text.Given as goal

abbrev pub invariant-loop-award : goal.invariant-loop-award
invariant-loop-award l = group_text l.settings l.awards l.team ≡ group_text l.settings (drop l.award-index l.awards) l.team
