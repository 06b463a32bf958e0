use Rattle.contest_demo.proofs.RowLemmas.{three_pushed}
use Rattle.contest_demo.proofs.entries.add_judgement_types.Goals as goal

pub returns : goal.returns
returns c =
    three_pushed c.args.entries.now.items c.push.new.self.items c.push-2.new.self.items c.push-3.new.self.items
    c.in_ok-judgement_type.field-0 c.in_ok-judgement_type-2.field-0 c.in_ok-judgement_type-3.field-0 _ _ _
    c.in_ok-push.ensures.items c.in_ok-push-2.ensures.items c.in_ok-push-3.ensures.items
    c.in_ok-judgement_type.ensures c.in_ok-judgement_type-2.ensures c.in_ok-judgement_type-3.ensures
