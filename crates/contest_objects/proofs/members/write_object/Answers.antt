use Rattle.std.proofs.Common.{map, subst}
use Rattle.std.specs.Prelude.{OnOk}
use Rattle.contest_objects.specs.JsonTokens.{Wrote, data_tokens}
use Rattle.std.proofs.lemmas.Result.{on_ok_weaker}
use Rattle.contest_objects.specs.Members.{shown}
use Rattle.contest_objects.proofs.WrittenLemmas.{object_written}
use Rattle.contest_objects.proofs.members.write_object.Goals as goal

pub returns : goal.returns
returns c = λ value is.
    subst (λ v. OnOk c.end_object.result (Wrote c.args.out.now c.end_object.new.out (data_tokens v))) is
    (on_ok_weaker c.end_object.result (object_written (map (λ m. (m.0.now, shown m.1)) c.args.members.now) c.in_ok-begin_object.ensures c.in_ok-write_members.ensures) c.end_object.ensures)
