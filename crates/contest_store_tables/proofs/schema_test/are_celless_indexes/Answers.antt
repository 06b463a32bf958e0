use Rattle.std.proofs.Common.{◌≡◌, ◌∙◌, IsTrue, ℕ, ap₂, refl, rules, subst, sym, take}
use Rattle.sqlite_schema.specs.declared.schema.Index.{Index}
use Rattle.contest_store_tables.specs.Schema.{first_indexes, moved_index}
use Rattle.contest_store_tables.specs.declared.later_table.LaterTable.TheVariants as later
use Rattle.contest_store_tables.proofs.EndLemmas.{end_is, ends_in}
use Rattle.contest_store_tables.proofs.schema_test.are_celless_indexes.Goals as goal

pub returns : goal.returns
returns c =
    let last : Index = moved_index c.args.place in
    let at : record (moved_index later.Notices) { tree = c.index_tree_of.result; table = c.tree_of.result } ≡ last =
    ap₂ (λ (tree table : ℕ). record (moved_index later.Notices) { tree = tree; table = table }) c.index_tree_of.ensures c.tree_of.ensures in
    let indexes = c.args.indexes.now in
    let firsts : take 9 indexes ≡ first_indexes = c.are_indexes.ensures.0 (subst IsTrue (sym c.if-not-are_indexes.false) (search rules)) in (
      λ yes. ends_in indexes first_indexes last c.index-indexes-9.result 9 c.if-indexes-ne10.false refl c.index-indexes-9.is firsts (c.is_index_at.ensures.0 yes ∙ at),
      λ same. c.is_index_at.ensures.1 (end_is indexes first_indexes last c.index-indexes-9.result 9 c.if-indexes-ne10.false refl c.index-indexes-9.is same ∙ sym at),
    )
