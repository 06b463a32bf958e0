use Rattle.contest_objects.proofs.WrittenLemmas.{text_written}
use Rattle.contest_objects.proofs.collection.row_text.Goals as goal

pub returns : goal.returns
returns g c = λ i is. text_written i.object c.new-out.result c.write_row.new.out _ c.into_inner.result.items c.new.ensures.items c.new-out.ensures.before c.new-out.ensures.tokens (rw is at c.in_ok-write_row.ensures) c.into_inner.ensures.items
