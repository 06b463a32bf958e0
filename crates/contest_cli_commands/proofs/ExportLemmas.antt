-- What is told of the submissions of a contest, and what is left then.
use Rattle.std.proofs.Common.{◌≡◌, ◌∙◌, subst, sym, inl, inr, refl, ℕ, List, Result, Err, arith}
use Rattle.std.specs.Prelude.{◌⊎◌}
use Rattle.std.specs.Io.KnownBytes.{Keeps}
use Rattle.std.proofs.KnownBytes.{Keeps-refl}
use Rattle.sqlite.specs.State.{HasCleanDisk, State}
use Rattle.contest_types.specs.State.{ContestState}
use Rattle.contest_streams.specs.Streams.{Failed, Fails, Stream, Tells}
use Rattle.contest_store.specs.Keeping.{CountsFaults, Kept, LeavesNoMore}
use Rattle.contest_store.specs.StoreErrors.{refusal_of}
use Rattle.contest_store.specs.declared.store_error.StoreError.{StoreError}
use Rattle.contest_store.specs.declared.store_error.StoreError.TheVariants as error
use Rattle.contest_store.proofs.LeaveLemmas.{one_more_failed}
use Rattle.contest_store_sqlite.specs.Contests.{may_leave_of}
use Rattle.contest_store_sqlite.specs.Opening.{FindsContest, Opened}
use Rattle.contest_desk.specs.Serving.{OnlyReads}
use Rattle.contest_exports.specs.Exports.{of_store}
use Rattle.contest_exports.specs.declared.export.ExportFault.{ExportFault}
use Rattle.contest_exports.specs.declared.export.ExportFault.TheVariants.{Store}
use Rattle.contest_cli_words.specs.CommandErrors.{exit_status_of, line_of}
use Rattle.contest_cli_words.specs.declared.command_error.CommandError.{CommandError}
use Rattle.contest_cli_words.specs.declared.command_error.CommandError.TheVariants.{File, Refused}
use Rattle.contest_cli_commands.specs.Exporting.{Exports, ExportsKept, GivesSubmissions, PutsFront, PutsOut, StopsKept, TellsWritten}
use Rattle.contest_cli_commands.specs.Printing.{IsStoreStop, StopsOpening}

-- a crash after a look leaves no more than before
pub leaves_by_look : {T : Type 0} (r : Result T StoreError) (old new : Kept) → OnlyReads r old new → new.is_clean → LeavesNoMore old.may_leave new.may_leave
leaves_by_look r old new l clean c left = elim (l.crash clean c left) [ inl before ↦ before | inr none ↦ absurd none.1 ]

-- what a store failed with is told as that
pub counted_stops : (e : StoreError) (old new : Kept) → CountsFaults (of_store (Err (Store e))) old.faults new.faults → StopsKept old new (Refused (refusal_of e))
counted_stops error.Fault old new counted = inl (refl, subst (Failed old.faults) (sym counted) (one_more_failed old.faults))
counted_stops error.Memory old new counted = inr refl

pub stops_kept : (r : Result (Unit {0}) ExportFault) (e : StoreError) (old new : Kept) → r ≡ Err (Store e) → CountsFaults (of_store r) old.faults new.faults
    → StopsKept old new (Refused (refusal_of e))
stops_kept r e old new is counted = counted_stops e old new (subst (λ q. CountsFaults (of_store q) old.faults new.faults) is counted)

pub as_stop : (old new : Kept) (stop : CommandError) → StopsKept old new stop → IsStoreStop stop
as_stop old new stop (inl fault) = inl fault.0
as_stop old new stop (inr memory) = inr memory

module _ (Gives : ContestState → List ℕ → Type 0) where
  -- all of the text is out
  pub written_whole : (clean : Type 0) (Is : ContestState → Type 0) (Stops : CommandError → Type 0) (out_old out_new err : Stream) (status : ℕ) → status ≡ 0 → (clean → PutsOut Gives Is out_old out_new)
      → TellsWritten Gives clean Is Stops out_old out_new err err status
  written_whole clean Is Stops out_old out_new err status zero is = record { done = λ e. (is, Keeps-refl err.bytes); refused = λ e. absurd (omega (arith, zero, e)) }

  -- why it ended early is told, and nothing is out or a front of the text
  pub cut_off : (clean : Type 0) (Is : ContestState → Type 0) (Stops : CommandError → Type 0) (out_old out_new err_old err_new : Stream) (stop : CommandError) (status : ℕ)
      → Stops stop ⊎ ((stop ≡ File) × Fails out_old out_new) → exit_status_of stop ≡ 1
      → Keeps out_old.bytes out_new.bytes ⊎ (clean → PutsFront Gives Is out_old out_new) → status ≡ exit_status_of stop → Tells err_old err_new (line_of stop)
      → TellsWritten Gives clean Is Stops out_old out_new err_old err_new status
  cut_off clean Is Stops out_old out_new err_old err_new stop status why one front is told = record {
    done = λ e. absurd (omega (arith, one, is, e));
    refused = λ e. (stop, told, why, front);
  }

  -- what is told of one contest is told of another that is the same
  pub told_of : (clean other : Type 0) (Is Was : ContestState → Type 0) (Stops More : CommandError → Type 0) (out_old out_new err_old err_new : Stream) (status : ℕ)
      → (other → clean) → (other → (x : ContestState) → Is x → Was x) → ((stop : CommandError) → Stops stop → More stop) → TellsWritten Gives clean Is Stops out_old out_new err_old err_new status
      → TellsWritten Gives other Was More out_old out_new err_old err_new status
  told_of clean other Is Was Stops More out_old out_new err_old err_new status as_clean same more t = record {
    done = λ e. let d = t.done e in ((λ c. let g = d.0 (as_clean c) in (g.0, same c g.0 g.1, g.2, g.3, g.4)), d.1);
    refused = λ e.
        let d = t.refused e in (
          d.0,
          d.1,
          elim d.2 [ inl stops ↦ inl (more d.0 stops) | inr failed ↦ inr failed ],
          elim d.3 [
            | inl keeps ↦ inl keeps
            | inr front ↦ inr (λ c. let g = front (as_clean c) in (g.0, same c g.0 g.1, g.2, g.3, g.4))
          ],
        );
  }

-- what a store shows is what the tables show from which it was opened, and a crash leaves no more than it could before that
pub shown_by_store : (out_old out_new err_old err_new : Stream) (status : ℕ) (old new : State) (first last : Kept)
    → ExportsKept out_old out_new err_old err_new first last status
    → (HasCleanDisk new → last.is_clean) → (HasCleanDisk new → Opened old first) → (HasCleanDisk new → LeavesNoMore last.may_leave (may_leave_of new))
    → Exports out_old out_new err_old err_new old new status
shown_by_store out_old out_new err_old err_new status old new first last shows as_clean opened kept = record {
  statuses = shows.statuses;
  told = told_of GivesSubmissions last.is_clean (HasCleanDisk new) (λ x. x ≡ first.contest) (FindsContest old) (StopsKept first last) (StopsOpening old new) out_old out_new err_old err_new status as_clean
      (λ clean x is. let o = opened clean in subst (FindsContest old) (sym (is ∙ o.shows.now_is)) o.found) (λ stop is. inl (as_stop first last stop is)) shows.told;
  leaves = λ clean d left. (opened clean).crash d (shows.crash (as_clean clean) d (kept clean d left));
}
