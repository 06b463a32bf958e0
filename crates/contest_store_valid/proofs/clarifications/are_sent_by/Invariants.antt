use Rattle.std.proofs.Common.{◌≡◌, drop}
use Rattle.std.specs.List.{list_all}
use Rattle.contest_store_valid.specs.Talk.{is_sent}
use Rattle.contest_store_valid.proofs.clarifications.are_sent_by.Given as goal

abbrev pub invariant-loop-clarification : goal.invariant-loop-clarification
invariant-loop-clarification l = list_all (is_sent l.fixed) l.clarifications ≡ list_all (is_sent l.fixed) (drop l.clarification-index l.clarifications)
