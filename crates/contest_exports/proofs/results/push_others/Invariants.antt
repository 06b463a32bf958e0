use Rattle.std.specs.Prelude.{◌≡◌, ◌++◌, map, take, string_bytes}
use Rattle.std.specs.List.{flat_map}
use Rattle.contest_exports.specs.ResultsTsv.{next_field}
use Rattle.contest_exports.proofs.results.push_others.Given as goal

abbrev pub invariant-loop-text : goal.invariant-loop-text
invariant-loop-text l = string_bytes l.out ≡ string_bytes l.fn.out ++ flat_map next_field (map (λ t. t.now) (take l.text-index l.others))
