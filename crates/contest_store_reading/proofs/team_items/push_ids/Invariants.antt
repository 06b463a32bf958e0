use Rattle.std.proofs.Common.{◌≡◌, ◌++◌, drop, string_bytes}
use Rattle.contest_store_reading.specs.Items.{spaced_ids}
use Rattle.contest_store_reading.proofs.team_items.push_ids.Given as goal

abbrev pub invariant-loop-group : goal.invariant-loop-group
invariant-loop-group l = string_bytes l.initial.text ++ spaced_ids l.settings l.groups ≡ string_bytes l.text ++ spaced_ids l.settings (drop l.group-index l.groups)
