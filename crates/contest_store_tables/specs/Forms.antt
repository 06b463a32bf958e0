-- The forms of the tables, as tables of a database.
use Rattle.std.specs.Prelude.{false, [], map}
use Rattle.sqlite.specs.Table.{Table}
use Rattle.sqlite_schema.specs.declared.schema.Column.{Column}
use Rattle.sqlite_schema.specs.declared.schema.Index.{Index}
use Rattle.sqlite_value.specs.Keys.{plain}
use Rattle.contest_store_tables.specs.Schema.{number, number_or_none, text, text_or_none, bytes, no_stamps, index_on}
use Rattle.contest_store_tables.specs.declared.forms.ColumnForm.{ColumnForm}
use Rattle.contest_store_tables.specs.declared.forms.ColumnForm.TheVariants.{Number, NumberOrNone, Text, TextOrNone, Bytes}
use Rattle.contest_store_tables.specs.declared.forms.TableForm.{TableForm}
use Rattle.contest_store_tables.specs.declared.forms.IndexForm.{IndexForm}

abbrev pub column_in : ColumnForm → Column
column_in (Number name) = number name.now
column_in (NumberOrNone name) = number_or_none name.now
column_in (Text name) = text name.now
column_in (TextOrNone name) = text_or_none name.now
column_in (Bytes name) = bytes name.now

abbrev pub table_in : TableForm → Table
table_in form = record {
  name = form.name.now;
  tree = form.tree;
  columns = map column_in form.columns.now;
  key = form.key;
  primary = form.primary.now;
  uniques = map (λ places. places.now) form.uniques.now;
  orders = map (λ _. plain) form.uniques.now;
  checks = [];
  references = [];
  computed = [];
  stamps = no_stamps;
  is_counted = false;
}

abbrev pub index_in : IndexForm → Index
index_in form = index_on form.name.now form.tree form.table form.columns.now
