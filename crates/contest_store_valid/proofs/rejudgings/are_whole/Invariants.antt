use Rattle.std.proofs.Common.{◌≡◌, drop}
use Rattle.std.specs.List.{list_all}
use Rattle.contest_store_valid.specs.Members.{is_whole}
use Rattle.contest_store_valid.proofs.rejudgings.are_whole.Given as goal

abbrev pub invariant-loop-rejudging : goal.invariant-loop-rejudging
invariant-loop-rejudging l = list_all is_whole l.rejudgings ≡ list_all is_whole (drop l.rejudging-index l.rejudgings)
