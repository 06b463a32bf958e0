use Rattle.std.proofs.Common.{◌≡◌, ◌∙◌, ◌<◌, true, cond, sym, ap, arith, get_or, length}
use Rattle.std.specs.Str.{bytes_eq}
use Rattle.std.proofs.lemmas.List.{get_or-map, length-map}
use Rattle.contest_files.proofs.IdLemmas.{seen_more}
use Rattle.contest_feed_reader.specs.IdSets.{is_in_set}
use Rattle.contest_feed_reader.specs.References.{ids_of}
use Rattle.contest_feed_reader.specs.declared.row.Row.{Row}
use Rattle.contest_feed_reader.proofs.id_set.ids_of.Goals as goal

pub loop-row-preserved : goal.loop-row-preserved
loop-row-preserved g c = λ text.
    let rows = c.args.rows.now in
    let i = c.loop-row.row-index in
    let id = c.row-item.result.id in
    let there : i < length rows = c.loop-row-test.true in
    let at : id ≡ get_or (ids_of rows) i id = ap (λ (row : Row g.row.T.Denot). row.id) c.row-item.is ∙ sym (get_or-map (λ (row : Row g.row.T.Denot). row.id) rows i c.row-item.result id there) in
    let put : is_in_set c.insert.new.self text ≡ cond (bytes_eq c.as_str.result.now text) true (is_in_set c.loop-row.ids text) = c.in_ok-insert.ensures.updates.0 (record { ref_ptr = (0, 0); now = text }) in
    seen_more (ids_of rows) i id text (is_in_set c.loop-row.ids text) (is_in_set c.insert.new.self text) (omega (arith, there, length-map rows (λ (row : Row g.row.T.Denot). row.id))) at (c.loop-row.invariant text) (rw c.as_str.ensures.text at put)
