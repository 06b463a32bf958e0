use Rattle.std.specs.Prelude.{◌≡◌, take, string_bytes}
use Rattle.contest_text.specs.AwardsText.{awards_text}
use Rattle.contest_text.proofs.awards.awards_text.Given as goal

abbrev pub invariant-loop-award : goal.invariant-loop-award
invariant-loop-award l = string_bytes l.out ≡ awards_text l.settings (take l.award-index l.awards)
