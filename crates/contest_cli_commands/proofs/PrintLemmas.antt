-- What is told of a text that is asked for.
use Rattle.std.proofs.Common.{◌≡◌, ◌∙◌, ap, sym, refl, subst, inl, inr, ℕ, Result, Ok, Err, arith}
use Rattle.std.specs.Prelude.{◌⊎◌, IfErr}
use Rattle.std.specs.Result.{IsErrAnd}
use Rattle.sqlite.specs.State.{HasCleanDisk, State}
use Rattle.contest_streams.specs.Streams.{Stream}
use Rattle.contest_types.specs.declared.refusal.Refusal.{Refusal}
use Rattle.contest_store.specs.Keeping.{LeavesNoMore}
use Rattle.contest_store.specs.StoreErrors.{refusal_of}
use Rattle.contest_store.specs.declared.store_error.StoreError.{StoreError}
use Rattle.contest_store.specs.declared.store_error.StoreError.TheVariants as error
use Rattle.contest_store_sqlite.specs.Contests.{may_leave_of}
use Rattle.contest_store_sqlite.specs.Creation.{KeepsLists, open_refusal}
use Rattle.contest_store_sqlite.specs.Opening.{FindsContest, FindsFirst, may_leave_filled}
use Rattle.contest_store_sqlite.specs.declared.open_error.OpenError.{OpenError}
use Rattle.contest_store_sqlite.specs.declared.open_error.OpenError.TheVariants as open_error
use Rattle.contest_cli_words.specs.CommandErrors.{IsWords, exit_status_of}
use Rattle.contest_cli_words.specs.declared.asked_text.AskedText.{AskedText}
use Rattle.contest_cli_words.specs.declared.command_error.CommandError.{CommandError}
use Rattle.contest_cli_words.specs.declared.command_error.CommandError.TheVariants.{Clock, File, Net, Refused, Usage}
use Rattle.contest_cli_commands.specs.Printing.{GivesText, IsStoreStop, LacksText, Prints, SaysAny, StopsOpening, TellsText}
use Rattle.contest_cli_commands.specs.Showing.{ShowsText, TellsShown}

-- what the store failed with
pub by_error : (e : StoreError) → IsStoreStop (Refused (refusal_of e))
by_error error.Fault = inl refl
by_error error.Memory = inr refl

-- why no desk is opened
pub stops_opening : (old new : State) (e : OpenError) (r : Refusal) → r ≡ open_refusal e → (e ≡ open_error.OldSchema → FindsFirst old new) → StopsOpening old new (Refused r)
stops_opening old new (open_error.Store e) r is first = inl (subst (λ (q : Refusal). IsStoreStop (Refused q)) (sym is) (by_error e))
stops_opening old new open_error.OldSchema r is first = inr (ap Refused is, first refl)

-- where no more than cells was committed, a crash leaves what it could leave before, or the contest that stood with its cells
pub leaves_no_more : (old new : State) → KeepsLists old new → HasCleanDisk new → LeavesNoMore (may_leave_filled old) (may_leave_of new)
leaves_no_more old new keeps clean c left = elim (keeps.crash clean left.0 left.1) [ inl before ↦ inl (left.0, before, left.2) | inr filled ↦ inr (filled.0, filled.1, sym left.2 ∙ filled.2) ]

-- what an error is turned into stops for the same reason
pub told_err : {T E : Type 0} (r : Result T E) (P Q : E → Type 0) → IsErrAnd r P → ((stop : E) → P stop → Q stop) → IfErr r Q
told_err (Ok v) P Q told turns = tt
told_err (Err e) P Q told turns = turns e told

-- which status tells that words are at fault, and which doesn't
once_or_twice : (stop : CommandError) → (exit_status_of stop ≡ 1) ⊎ (exit_status_of stop ≡ 2)
once_or_twice (Usage text) = inr refl
once_or_twice (Refused _) = inl refl
once_or_twice File = inl refl
once_or_twice Clock = inl refl
once_or_twice Net = inl refl

words_twice : (stop : CommandError) → IsWords stop → exit_status_of stop ≡ 2
words_twice (Usage text) words = refl
words_twice (Refused _) words = absurd words
words_twice File words = absurd words
words_twice Clock words = absurd words
words_twice Net words = absurd words

stops_once : (old new : State) (stop : CommandError) → StopsOpening old new stop → exit_status_of stop ≡ 1
stops_once old new stop (inl (inl fault)) = ap exit_status_of fault
stops_once old new stop (inl (inr memory)) = ap exit_status_of memory
stops_once old new stop (inr schema) = ap exit_status_of schema.0

module _ (now : ℕ) (asked : AskedText) (out_old out_new err_old err_new : Stream) (status : ℕ) (old new : State) where
  told_text : TellsShown (GivesText now asked) (LacksText asked) SaysAny (HasCleanDisk new) (FindsContest old) (StopsOpening old new) out_old out_new err_old err_new status
      → TellsText (HasCleanDisk new) (FindsContest old) (StopsOpening old new) now asked out_old out_new err_old err_new status
  told_text (inl (text, gives, shows)) = record {
    statuses = omega (arith, shows.statuses);
    done = λ e. (text, gives, (shows.done e).0, (shows.done e).1);
    refused = λ e. (File, (shows.cut e).2, inr (refl, (shows.cut e).0, text, gives, (shows.cut e).1));
    unknown = λ e. absurd (omega (arith, shows.statuses, e));
  }
  told_text (inr (stop, is, told, keeps, says, why)) = elim (once_or_twice stop) [
    | inl one ↦ record {
      statuses = omega (arith, one, is);
      done = λ e. absurd (omega (arith, one, is, e));
      refused = λ e. (stop, told, inl (λ c. elim (why c) [ inl stops ↦ stops | inr lacks ↦ absurd (let two = words_twice stop lacks.2.0 in omega (arith, one, two)) ], keeps));
      unknown = λ e. absurd (omega (arith, one, is, e));
    }
    | inr two ↦ record {
      statuses = omega (arith, two, is);
      done = λ e. absurd (omega (arith, two, is, e));
      refused = λ e. absurd (omega (arith, two, is, e));
      unknown = λ e. (λ c. elim (why c) [ inl stops ↦ absurd (let one = stops_once old new stop stops in omega (arith, one, two)) | inr lacks ↦ (lacks.0, lacks.1, lacks.2.1) ], keeps, _, told);
    }
  ]

  -- how the command ends
  pub prints : ShowsText (GivesText now asked) (LacksText asked) SaysAny out_old out_new err_old err_new old new status → Prints now asked out_old out_new err_old err_new old new status
  prints s = record { told = told_text s.told; leaves = s.leaves }
