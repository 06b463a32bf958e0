use Rattle.std.proofs.Common.{◌+◌, [], arith, refl}
use Rattle.contest_cli_commands.proofs.ClientLemmas as clients
use Rattle.contest_cli_commands.proofs.ServingLemmas.{finish, next, starts}
use Rattle.contest_cli_commands.proofs.serving.serve.Goals as goal

pub loop-init : goal.loop-init
loop-init g c = record {
  clients = ([], refl, (refl, refl));
  goes = λ clean. starts (g.S.ContestStore.kept c.args.desk.now);
  clean = λ clean. clean;
  up = λ clean up. up;
}

pub loop-preserved : goal.loop-preserved
loop-preserved g c =
    let i = c.loop.invariant in
    let e = c.serve_next.ensures in
    record {
      clients = clients.next _ _ _ _ _ _ c.loop.counter _ _ _ _ _ _ i.clients c.in_ok-serve_next.ensures.next;
      goes = λ clean. next g.S.ContestStore.kept (g.S.ContestStore.kept c.args.desk.now) c.loop.desk c.serve_next.new.desk c.loop.counter clean e.handled (i.goes (e.clean clean));
      clean = λ clean. i.clean (e.clean clean);
      up = λ clean up. i.up (e.clean clean) (e.up clean up);
    }

pub returns-in_err-serve_next-clause-served : goal.returns-in_err-serve_next-clause-served
returns-in_err-serve_next-clause-served g c = λ clean.
    finish _ _ (c.loop.counter + 1) _ (omega (arith, c.loop-test.true))
    (next g.S.ContestStore.kept (g.S.ContestStore.kept c.args.desk.now) c.loop.desk c.serve_next.new.desk c.loop.counter clean c.serve_next.ensures.handled (c.loop.invariant.goes (c.serve_next.ensures.clean clean)))

pub returns-in_err-serve_next-clause-clean : goal.returns-in_err-serve_next-clause-clean
returns-in_err-serve_next-clause-clean g c = λ clean. c.loop.invariant.clean (c.serve_next.ensures.clean clean)

pub returns-in_err-serve_next-clause-up : goal.returns-in_err-serve_next-clause-up
returns-in_err-serve_next-clause-up g c = λ clean up. c.loop.invariant.up (c.serve_next.ensures.clean clean) (c.serve_next.ensures.up clean up)

pub returns-clause-served : goal.returns-clause-served
returns-clause-served g c = λ clean. finish _ _ c.loop.counter _ (omega (arith, c.loop.auto.counter-end)) (c.loop.invariant.goes clean)
