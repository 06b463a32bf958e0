use Rattle.std.proofs.Common.{refl}
use Rattle.contest_store_valid.proofs.StepLemmas.{and_then, and_else}
use Rattle.contest_store_valid.proofs.WholeLemmas.{may_have_rows, fixed_beside_rows}
use Rattle.contest_store_valid.proofs.valid.has_valid_fixed.Goals as goal

pub returns-then-is_valid_fixed : goal.returns-then-is_valid_fixed
returns-then-is_valid_fixed c =
    and_then _ _ _ (fixed_beside_rows c.args.lists.now c.fixed.result.now c.is_valid_fixed.result c.may_have_rows.result c.fixed.ensures c.is_valid_fixed.ensures c.may_have_rows.ensures) c.if-is_valid_fixed.true

pub returns-else-is_valid_fixed : goal.returns-else-is_valid_fixed
returns-else-is_valid_fixed c =
    and_else _ _ _ (fixed_beside_rows c.args.lists.now c.fixed.result.now c.is_valid_fixed.result (may_have_rows c.args.lists.now) c.fixed.ensures c.is_valid_fixed.ensures refl) c.if-is_valid_fixed.false
