use Rattle.std.proofs.Common.{◌≡◌, ◌++◌, take}
use Rattle.std.specs.List.{flat_map}
use Rattle.contest_objects.specs.Items.{object_in}
use Rattle.contest_objects.specs.JsonTokens.{value_tokens}
use Rattle.contest_objects.proofs.collection.write_each.Given as goal

abbrev pub invariant-loop-row : goal.invariant-loop-row
invariant-loop-row g l =
    (l.out.tokens ≡ l.fn.out.tokens ++ flat_map (λ r. value_tokens (object_in (g.C.Collection.item l.collection r.now))) (take l.row-index l.rows)) × (l.out.before ≡ l.fn.out.before)
