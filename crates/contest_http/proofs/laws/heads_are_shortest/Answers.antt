use Rattle.contest_http.proofs.HeadLaws.{front, shortest, unended}
use Rattle.contest_http.proofs.laws.heads_are_shortest.Goals as goal

pub returns-clause-front : goal.returns-clause-front
returns-clause-front c = front

pub returns-clause-shortest : goal.returns-clause-shortest
returns-clause-shortest c = shortest

pub returns-clause-unended : goal.returns-clause-unended
returns-clause-unended c = unended
