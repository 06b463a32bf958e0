use Rattle.std.proofs.Common.{inl, inr, refl}
use Rattle.std.proofs.KnownBytes.{Keeps-refl}
use Rattle.contest_streams.specs.Streams.{stream}
use Rattle.contest_cli_commands.proofs.shown.show_from.Goals as goal

pub returns-in-Err-clause-told : goal.returns-in-Err-clause-told
returns-in-Err-clause-told g c =
    let x = (g.S.ContestStore.kept c.args.store.now).contest in
    record {
      told =
          inr (
            c.in-Err.stop,
            c.refuse.ensures.status,
            c.refuse.ensures.told,
            Keeps-refl (stream g.O.Write.contents c.args.out.now).bytes,
            c.in-Err.ensures.says,
            λ clean. elim (c.in-Err.ensures.stops clean) [ inl stops ↦ inl stops | inr lacks ↦ inr (x, refl, lacks) ],
          );
      crash = c.in-Err.ensures.crash;
      clean = c.in-Err.ensures.clean;
    }
