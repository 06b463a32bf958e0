use Rattle.std.proofs.Common.{◌-◌, arith, sym, ap, ◌∙◌}
use Rattle.std.proofs.lemmas.List.{take_rest}
use Rattle.contest_http.specs.Head.{begins_end}
use Rattle.contest_http.proofs.HeadLemmas.{has_end-later}
use Rattle.contest_http.proofs.head.has_end.Goals as goal

pub loop-at-preserved : goal.loop-at-preserved
loop-at-preserved c = record {
  within = omega (arith, c.loop-at-test.true);
  none =
      c.loop-at.invariant.none
      ∙ has_end-later c.args.bytes.now c.loop-at.at c.loop-at-test.true
      (ap begins_end (sym (take_rest c.args.bytes.now c.loop-at.at)) ∙ sym c.begins_end.ensures ∙ c.if-begins_end.false);
}
