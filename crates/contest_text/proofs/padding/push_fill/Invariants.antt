use Rattle.std.specs.Prelude.{◌≡◌, ◌++◌, replicate, string_bytes}
use Rattle.contest_text.proofs.padding.push_fill.Given as goal

abbrev pub invariant-loop : goal.invariant-loop
invariant-loop l = string_bytes l.out ≡ string_bytes l.fn.out ++ replicate l.counter 32
