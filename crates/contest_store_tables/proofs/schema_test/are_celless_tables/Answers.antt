use Rattle.std.proofs.Common.{◌≡◌, ◌∙◌, IsTrue, ℕ, ap, map, refl, rules, subst, sym, take}
use Rattle.sqlite.specs.Table.{Table}
use Rattle.contest_store_tables.specs.Schema.{first_tables, form_of, moved_notices}
use Rattle.contest_store_tables.specs.declared.table_name.TableName.TheVariants.{Notices}
use Rattle.contest_store_tables.proofs.EndLemmas.{end_is, ends_in}
use Rattle.contest_store_tables.proofs.schema_test.are_celless_tables.Goals as goal

pub returns : goal.returns
returns c =
    let last : Table = moved_notices c.args.place in
    let at : record (form_of Notices) { tree = c.tree_of.result } ≡ last = ap (λ (tree : ℕ). record (form_of Notices) { tree = tree }) c.tree_of.ensures in
    let tables = c.args.tables.now in
    let firsts : take 10 tables ≡ map form_of first_tables = c.are_tables.ensures.0 (subst IsTrue (sym c.if-not-are_tables.false) (search rules)) in (
      λ yes. ends_in tables (map form_of first_tables) last c.index-tables-10.result 10 c.if-tables-ne11.false refl c.index-tables-10.is firsts (c.is_table_at.ensures.0 yes ∙ at),
      λ same. c.is_table_at.ensures.1 (end_is tables (map form_of first_tables) last c.index-tables-10.result 10 c.if-tables-ne11.false refl c.index-tables-10.is same ∙ sym at),
    )
