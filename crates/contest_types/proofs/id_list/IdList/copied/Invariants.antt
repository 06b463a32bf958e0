use Rattle.std.proofs.Common.{◌≡◌, take}
use Rattle.contest_types.proofs.id_list.IdList.copied.Given as goal

abbrev pub invariant-loop-row : goal.invariant-loop-row
invariant-loop-row g l = l.copy ≡ take l.row-index l.self
