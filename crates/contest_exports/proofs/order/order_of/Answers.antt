use Rattle.std.proofs.Common.{◌∙◌, ap, map, sym}
use Rattle.std.proofs.lemmas.Result.{IfOk-weaker}
use Rattle.std.proofs.lemmas.Simd.{map-map}
use Rattle.contest_exports.specs.Walks.{numbers_of}
use Rattle.contest_exports.proofs.ExportOrder.{ordered}
use Rattle.contest_exports.proofs.order.order_of.Goals as goal

pub returns : goal.returns
returns c = λ x valid are.
    let rows = c.in_ok-rows.rows.items in
    IfOk-weaker c.numbers.result _ _
    (λ all is. is ∙ (ap (map (λ r. numbers_of r.now)) c.deref.ensures.value ∙ sym (map-map numbers_of (λ r. r.now) rows) ∙ ordered x c.args.lists.now (map (λ r. r.now) rows) valid are c.in_ok-rows.ensures.moved c.in_ok-rows.ensures.sorted))
    c.numbers.ensures
