use Rattle.contest_requests.proofs.MomentTexts.{read_moment}
use Rattle.contest_requests.proofs.clock_body.moment_of.Goals as goal

pub returns : goal.returns
returns c = read_moment c.args.text.now c.in-Ok.moment c.in-Ok.ensures.found c.in-Ok.ensures.none
