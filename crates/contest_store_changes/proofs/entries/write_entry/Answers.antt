use Rattle.std.proofs.Common.{refl}
use Rattle.contest_types.specs.declared.entry.Entry.TheVariants.{NewType, NewLanguage, NewProblem, NewGroup, NewAccount}
use Rattle.contest_store_changes.proofs.entries.write_entry.Goals as goal

pub returns-in-NewType : goal.returns-in-NewType
returns-in-NewType g c = rw c.in-NewType.is (c.insert_row.ensures c.args.lists.now (NewType c.in-NewType.row) (λ x sound held may. (refl, cc)))

pub returns-in-NewLanguage : goal.returns-in-NewLanguage
returns-in-NewLanguage g c = rw c.in-NewLanguage.is (c.insert_row-in-NewLanguage.ensures c.args.lists.now (NewLanguage c.in-NewLanguage.row) (λ x sound held may. (refl, cc)))

pub returns-in-NewProblem : goal.returns-in-NewProblem
returns-in-NewProblem g c = rw c.in-NewProblem.is (c.insert_row-in-NewProblem.ensures c.args.lists.now (NewProblem c.in-NewProblem.row) (λ x sound held may. (refl, cc)))

pub returns-in-NewGroup : goal.returns-in-NewGroup
returns-in-NewGroup g c = rw c.in-NewGroup.is (c.insert_row-in-NewGroup.ensures c.args.lists.now (NewGroup c.in-NewGroup.row) (λ x sound held may. (refl, cc)))

pub returns-in-NewAccount : goal.returns-in-NewAccount
returns-in-NewAccount g c =
    rw c.in-NewAccount.is (c.insert_row-in-NewAccount.ensures c.args.lists.now (NewAccount c.in-NewAccount.row) (λ x sound held may. (refl, rw c.fixed.ensures at c.account_cells.ensures)))
