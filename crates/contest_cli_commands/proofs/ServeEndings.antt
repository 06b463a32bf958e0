-- How serving ends where something stops it.
use Rattle.std.proofs.Common.{◌≡◌, ap, refl, inl, inr, ℕ, arith}
use Rattle.std.specs.Prelude.{◌⊎◌}
use Rattle.std.specs.Io.KnownBytes.{Appends, Keeps}
use Rattle.std.proofs.KnownBytes.{Keeps-refl}
use Rattle.sqlite.specs.State.{HasCleanDisk, State}
use Rattle.contest_streams.specs.Streams.{AppendsFront, Fails, Stream, Tells}
use Rattle.contest_types.specs.declared.refusal.Refusal.{Refusal}
use Rattle.contest_store_sqlite.specs.Creation.{KeepsLists}
use Rattle.contest_cli_words.specs.CommandErrors.{exit_status_of, line_of}
use Rattle.contest_cli_words.specs.declared.command_error.CommandError.{CommandError}
use Rattle.contest_cli_words.specs.declared.command_error.CommandError.TheVariants.{File, Net, Refused}
use Rattle.contest_cli_machine.specs.Ports.{IsPort}
use Rattle.contest_cli_commands.specs.Printing.{StopsOpening}
use Rattle.contest_cli_commands.specs.Serve.{Serves, ServesTables, StopsAfter, StopsBefore, StopsNone, TellsPort, TellsServing, listening_line}

stops : (Opening : CommandError → Type 0) (asked : ℕ) (out_old out_new err_old err_new : Stream) (status : ℕ) (stop : CommandError) → status ≡ exit_status_of stop → exit_status_of stop ≡ 1 → Tells err_old err_new (line_of stop)
    → (StopsBefore Opening stop × Keeps out_old.bytes out_new.bytes) ⊎ TellsPort asked out_old out_new stop → TellsServing Opening asked out_old out_new err_old err_new status
stops Opening asked out_old out_new err_old err_new status stop same one told why = record {
  statuses = omega (arith, same, one);
  done = λ none. absurd (omega (arith, same, one, none));
  refused = λ _. (stop, told, why);
}

after_one : (stop : CommandError) → StopsAfter stop → exit_status_of stop ≡ 1
after_one stop (inl e) = ap exit_status_of e
after_one stop (inr e) = ap exit_status_of e

pub stops_before : (asked : ℕ) (out_old out_new err_old err_new : Stream) (status : ℕ) (stop : CommandError) → stop ≡ Net → status ≡ exit_status_of stop → Tells err_old err_new (line_of stop)
    → Keeps out_old.bytes out_new.bytes → TellsServing StopsNone asked out_old out_new err_old err_new status
stops_before asked out_old out_new err_old err_new status stop why same told keeps =
    stops StopsNone asked out_old out_new err_old err_new status stop same (ap exit_status_of why) told (inl (inr why, keeps))

pub stops_after : (asked port : ℕ) (out_old out_new err_old err_new : Stream) (status : ℕ) (stop : CommandError) → IsPort asked port → StopsAfter stop → status ≡ exit_status_of stop → Tells err_old err_new (line_of stop)
    → Appends out_old.bytes out_new.bytes (listening_line port) → TellsServing StopsNone asked out_old out_new err_old err_new status
stops_after asked port out_old out_new err_old err_new status stop at why same told out =
    stops StopsNone asked out_old out_new err_old err_new status stop same (after_one stop why) told (inr (port, at, inl (why, out)))

pub stops_cut : (asked port : ℕ) (out_old out_new err_old err_new : Stream) (status : ℕ) → IsPort asked port → status ≡ exit_status_of File → Tells err_old err_new (line_of File)
    → Fails out_old out_new → AppendsFront out_old.bytes out_new.bytes (listening_line port) → TellsServing StopsNone asked out_old out_new err_old err_new status
stops_cut asked port out_old out_new err_old err_new status at same told fails front =
    stops StopsNone asked out_old out_new err_old err_new status File same refl told (inr (port, at, inr (refl, fails, front)))

-- all were served
pub all : (asked port : ℕ) (out_old out_new err : Stream) → IsPort asked port → Appends out_old.bytes out_new.bytes (listening_line port) → TellsServing StopsNone asked out_old out_new err err 0
all asked port out_old out_new err at told = record {
  statuses = omega arith;
  done = λ _. (port, at, told, Keeps-refl err.bytes);
  refused = λ one. absurd (omega (arith, one));
}

-- no desk was made
pub unopened : (asked requests : ℕ) (out err_old err_new : Stream) (old new : State) (status : ℕ) (r : Refusal) → StopsOpening old new (Refused r) → status ≡ exit_status_of (Refused r) → Tells err_old err_new (line_of (Refused r))
    → KeepsLists old new → Serves asked requests out out err_old err_new old new status
unopened asked requests out err_old err_new old new status r why same told keeps = record {
  told = stops (StopsOpening old new) asked out out err_old err_new status (Refused r) same refl told (inl (inl why, Keeps-refl out.bytes));
  done = λ zero. absurd (omega (arith, same, zero));
  leaves = λ clean. inl keeps;
}

-- what stops a desk that is made stops whatever comes before it too
after_all : (Opening : CommandError → Type 0) (asked : ℕ) (out_old out_new err_old err_new : Stream) (status : ℕ) → TellsServing StopsNone asked out_old out_new err_old err_new status
    → TellsServing Opening asked out_old out_new err_old err_new status
after_all Opening asked out_old out_new err_old err_new status t = record {
  statuses = t.statuses;
  done = t.done;
  refused = λ one. let r = t.refused one in (
    r.0,
    r.1,
    elim r.2 [
      | inl before ↦ inl (elim before.0 [ inl none ↦ absurd none | inr net ↦ inr net ], before.1)
      | inr port ↦ inr port
    ],
  );
}

-- one was
pub opened : (asked requests : ℕ) (out_old out_new err_old err_new : Stream) (old new : State) (status : ℕ) → TellsServing StopsNone asked out_old out_new err_old err_new status → (HasCleanDisk new → ServesTables requests old new)
    → Serves asked requests out_old out_new err_old err_new old new status
opened asked requests out_old out_new err_old err_new old new status told tables = record {
  told = after_all (StopsOpening old new) asked out_old out_new err_old err_new status told;
  done = λ zero clean. tables clean;
  leaves = λ clean. inr (tables clean);
}
