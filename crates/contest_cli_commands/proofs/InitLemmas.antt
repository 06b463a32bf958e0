-- What a file that is read, and a contest that is set up, say of `init`.
use Rattle.std.proofs.Common.{◌≡◌, ◌+◌, ◌⊎◌, inl, inr, ◌∙◌, refl, subst, sym, ℕ, List, Bool, true, false, IsTrue, arith}
use Rattle.std.proofs.KnownBytes.{Keeps-refl}
use Rattle.sqlite.specs.State.{HasCleanDisk, State}
use Rattle.sqlite.proofs.StateLemmas.{survives_weaker}
use Rattle.contest_types.specs.State.{ContestState, new_contest}
use Rattle.contest_streams.specs.Streams.{Fails, ReadsAll, Stream, TakesFront, Tells}
use Rattle.contest_types.specs.Valid.{is_valid}
use Rattle.contest_types.specs.declared.contest.Contest.{Contest}
use Rattle.contest_types.specs.declared.limits.TheConstants.{IMPORTED_FILE}
use Rattle.contest_types.specs.declared.refusal.Refusal.{Refusal}
use Rattle.contest_types.specs.declared.refusal.Refusal.TheVariants.{BodyTooLarge, KeyReused, Malformed, Memory, OldSchema, StoreFault}
use Rattle.contest_streams.specs.declared.input.InputFault.{InputFault}
use Rattle.contest_streams.specs.declared.input.InputFault.TheVariants as fault
use Rattle.contest_store.specs.Keeping.{LeavesOnly}
use Rattle.contest_store.specs.declared.store_error.StoreError.TheVariants as failure
use Rattle.contest_import.specs.ContestFile.{IsContestFile}
use Rattle.contest_store_tables.specs.Connected.{IsBare}
use Rattle.contest_store_tables.specs.declared.counts.Counts.{Counts}
use Rattle.contest_store_sqlite.specs.Contests.{committed_of, may_leave_of}
use Rattle.contest_store_sqlite.specs.Creation.{Created, IsOfOpen, KeepsLists, StoodEqual, StoodOther, open_refusal}
use Rattle.contest_store_sqlite.specs.declared.open_error.OpenError.{OpenError}
use Rattle.contest_store_sqlite.specs.declared.open_error.OpenError.TheVariants as open_error
use Rattle.contest_store_sqlite.specs.Keeping.{kept_of}
use Rattle.contest_store_sqlite.specs.Opening.{FindsFirst}
use Rattle.contest_cli_commands.specs.Init.{Inits, LeavesContest, LeavesNew, ReadsContest, RefusesContest, RefusesFile, Sets, SetsFile, StopsContest, StopsFile, StopsInit}
use Rattle.contest_cli_words.specs.CommandErrors.{exit_status_of, line_of, stop_of}
use Rattle.contest_cli_words.specs.declared.command_error.CommandError.{CommandError}
use Rattle.contest_cli_words.specs.declared.command_error.CommandError.TheVariants.{File, Refused}
use Rattle.contest_cli_commands.proofs.InputLemmas.{keeps_lists, too_large, was_read}

-- why a file can't be read
pub unread_stops : (old new : Stream) (f : InputFault) → (f ≡ fault.TooLarge → TakesFront old.bytes new.bytes (IMPORTED_FILE + 1))
    → (f ≡ fault.File → Fails old new) → StopsFile old new (stop_of f)
unread_stops old new fault.File large failed = failed refl
unread_stops old new fault.TooLarge large failed = too_large old.bytes new.bytes (large refl)
unread_stops old new fault.Memory large failed = tt

-- why it says no contest
pub unsaid_stops : (old new : Stream) (limit : ℕ) (bytes file : List ℕ) (r : Refusal) → ReadsAll old.bytes new.bytes limit bytes → file ≡ bytes
    → (r ≡ Memory) ⊎ ((r ≡ Malformed) × ((c : Contest) → IsContestFile file c → ⊥)) → StopsFile old new (Refused r)
unsaid_stops old new limit bytes file r all same (inl is) = subst (λ (given : Refusal). RefusesFile old given) (sym is) tt
unsaid_stops old new limit bytes file r all same (inr none) =
    subst (λ (given : Refusal). RefusesFile old given) (sym none.0) (file, was_read old all same, none.1)

module _ (c : Contest) (old new : State) where
  refused_by : (e : OpenError) → (open_refusal e ≡ OldSchema → FindsFirst old new × KeepsLists old new) → RefusesContest c old new (open_refusal e)
  refused_by (open_error.Store failure.Fault) first = tt
  refused_by (open_error.Store failure.Memory) first = tt
  refused_by open_error.OldSchema first = first refl

  -- why a valid contest isn't set up
  pub refused_stops : (P : Type 0) (r : Refusal) → is_valid (new_contest c) ≡ true → (r ≡ Malformed) ⊎ ((r ≡ KeyReused) ⊎ IsOfOpen r)
      → (r ≡ Malformed → (is_valid (new_contest c) ≡ false) × P) → (HasCleanDisk new → r ≡ KeyReused → StoodOther c.head old new)
      → ((r ≡ KeyReused) ⊎ (r ≡ Malformed) → KeepsLists old new) → (r ≡ OldSchema → FindsFirst old new × KeepsLists old new)
      → StopsContest c old new (Refused r)
  refused_stops P r valid (inl is) malformed differs keeps first = let other = (malformed is).0 in cc
  refused_stops P r valid (inr (inl is)) malformed differs keeps first =
      subst (λ (given : Refusal). RefusesContest c old new given) (sym is) ((λ clean. differs clean is), keeps (inl is))
  refused_stops P r valid (inr (inr failed)) malformed differs keeps first =
      subst (λ (given : Refusal). RefusesContest c old new given) (sym failed.1) (refused_by failed.0 (λ is. first (failed.1 ∙ is)))

  leaves_shown : (x : ContestState) → IsTrue new.is_open → committed_of new ≡ x → (IsTrue new.is_open → LeavesOnly (may_leave_of new) (committed_of new)) → LeavesOnly (may_leave_of new) x
  leaves_shown x up is settled = subst (λ (y : ContestState). LeavesOnly (may_leave_of new) y) is (settled up)

  -- a store that was created is settled
  pub sets : (counts : Counts) (commits : ℕ) (is_loaded : Bool)
      → (IsBare old → Created c old (kept_of new counts commits is_loaded)) → (¬ IsBare old → StoodEqual c old (kept_of new counts commits is_loaded))
      → (IsTrue new.is_open → LeavesOnly (may_leave_of new) (committed_of new)) → Sets c old new
  sets counts commits is_loaded created stood settled = record {
    made = λ bare. (let it = (created bare).shows in leaves_shown (new_contest c) it.up it.kept_is settled);
    stood = λ other. (
        let it = stood other in
        let opened = it.opened in
        (opened.contest, opened.found, it.equal, leaves_shown opened.contest opened.shows.up opened.shows.kept_is settled)
        );
  }

-- the connection isn't touched where no file's contest was read
pub file_stops : (in_old in_new : Stream) (s : State) (stop : CommandError) → StopsFile in_old in_new stop → StopsInit in_old in_new s s stop
file_stops in_old in_new s File stops = (stops, keeps_lists s)
file_stops in_old in_new s (Refused BodyTooLarge) stops = (stops, keeps_lists s)
file_stops in_old in_new s (Refused Malformed) stops = (stops, keeps_lists s)
file_stops in_old in_new s (Refused Memory) stops = tt
file_stops in_old in_new s (Refused _) stops = absurd stops
file_stops in_old in_new s _ stops = absurd stops

pub contest_stops : (in_old in_new : Stream) (c : Contest) (old new : State) (stop : CommandError) → ReadsContest in_old c → StopsContest c old new stop → StopsInit in_old in_new old new stop
contest_stops in_old in_new c old new (Refused KeyReused) reads stops = (c, reads, stops.0, stops.1)
contest_stops in_old in_new c old new (Refused OldSchema) reads stops = stops
contest_stops in_old in_new c old new (Refused StoreFault) reads stops = tt
contest_stops in_old in_new c old new (Refused Memory) reads stops = tt
contest_stops in_old in_new c old new (Refused _) reads stops = absurd stops
contest_stops in_old in_new c old new _ reads stops = absurd stops

-- a crash leaves no more than the file's contest
pub leaves_file : (input : Stream) (c : Contest) (old new : State) → ReadsContest input c → LeavesNew c old new → LeavesContest input old new
leaves_file input c old new reads survives = survives_weaker old new _ _ (λ clean db made. elim made [ inl is ↦ inl (c, reads, is) | inr filled ↦ inr filled ]) survives

pub leaves_same : (input : Stream) (s : State) → LeavesContest input s s
leaves_same input s = survives_weaker s s _ _ (λ clean db filled. inr filled) (keeps_lists s)

-- how it ends where the contest stands
pub set_up : (in_old in_new err : Stream) (old new : State) → SetsFile in_old old new → LeavesContest in_old old new → Inits in_old in_new err err old new 0
set_up in_old in_new err old new sets leaves = record {
  statuses = omega arith;
  done = λ is. (sets.0, sets.1, sets.2, Keeps-refl err.bytes);
  refused = λ is. absurd (omega (arith, is));
  leaves = leaves;
}

one_of : (in_old in_new : Stream) (old new : State) (stop : CommandError) → StopsInit in_old in_new old new stop → exit_status_of stop ≡ 1
one_of in_old in_new old new (Refused r) stops = refl
one_of in_old in_new old new File stops = refl
one_of in_old in_new old new _ stops = absurd stops

-- and where it doesn't
pub stopped : (in_old in_new err_old err_new : Stream) (old new : State) (stop : CommandError) (status : ℕ) → StopsInit in_old in_new old new stop
    → LeavesContest in_old old new → status ≡ exit_status_of stop → Tells err_old err_new (line_of stop)
    → Inits in_old in_new err_old err_new old new status
stopped in_old in_new err_old err_new old new stop status stops leaves is told =
    let one : status ≡ 1 = is ∙ one_of in_old in_new old new stop stops in
    record {
      statuses = omega arith;
      done = λ zero. absurd (omega (arith, zero, one));
      refused = λ _. (stop, stops, told);
      leaves = leaves;
    }
