use Rattle.contest_objects.proofs.WrittenLemmas.{text_written}
use Rattle.contest_objects.proofs.json_text.text_of.Goals as goal

pub returns : goal.returns
returns g c = text_written (g.S.Served.value c.args.served.now) c.new-out.result c.write.new.out _ c.into_inner.result.items c.new.ensures.items c.new-out.ensures.before c.new-out.ensures.tokens c.in_ok-write.ensures c.into_inner.ensures.items
