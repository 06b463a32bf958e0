use Rattle.std.specs.Prelude.{◌≡◌, ◌++◌, take, string_bytes}
use Rattle.std.specs.List.{flat_map}
use Rattle.contest_text.specs.AwardsText.{next_name}
use Rattle.contest_text.proofs.awards.push_next_names.Given as goal

abbrev pub invariant-loop-team : goal.invariant-loop-team
invariant-loop-team l = string_bytes l.out ≡ string_bytes l.fn.out ++ flat_map (next_name l.settings) (take l.team-index l.teams)
