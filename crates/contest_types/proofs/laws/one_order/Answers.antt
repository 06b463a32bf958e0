use Rattle.contest_types.proofs.OrderLemmas as lemmas
use Rattle.contest_types.proofs.laws.one_order.Goals as goal

pub returns-clause-submissions : goal.returns-clause-submissions
returns-clause-submissions c = λ before xs ys o s t f g. lemmas.same_order before o xs ys s t f g

pub returns-clause-clarifications : goal.returns-clause-clarifications
returns-clause-clarifications c = λ before xs ys o s t f g. lemmas.same_order before o xs ys s t f g
