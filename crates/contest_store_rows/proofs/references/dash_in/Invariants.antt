use Rattle.std.proofs.Common.{◌≡◌, ◌+◌, drop}
use Rattle.contest_store_rows.specs.References.{dash_in}
use Rattle.contest_store_rows.proofs.references.dash_in.Given as goal

abbrev pub invariant-loop-at : goal.invariant-loop-at
invariant-loop-at l = dash_in l.text ≡ l.at + dash_in (drop l.at l.text)
