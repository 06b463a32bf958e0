use Rattle.std.proofs.Common.{rules, tests, map, arith}
use Rattle.std.proofs.lemmas.Iterator.{YieldsList-from_slice, YieldsList-from_zip, same_from_all}
use Rattle.std.proofs.lemmas.List.{length-map}
use Rattle.contest_store_tables.specs.Forms.{column_in}
use Rattle.contest_store_tables.proofs.ZipLemmas.{read_by}
use Rattle.contest_store_tables.proofs.schema_test.are_columns.Goals as goal

pub returns-then-columns-forms : goal.returns-then-columns-forms
returns-then-columns-forms c =
    same_from_all c.all.new.self _ _ _ (map column_in c.args.forms.now) c.all.ensures.ran
    (YieldsList-from_zip (YieldsList-from_slice c.args.columns.now cc) (read_by column_in (YieldsList-from_slice c.args.forms.now cc)))
    (omega (arith, length-map c.args.forms.now column_in)) (λ x q k. search (rules, tests)) (λ x q k. search (rules, tests))
