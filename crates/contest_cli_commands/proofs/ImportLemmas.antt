-- What an import leaves, from what its desk left, and how it ends.
use Rattle.std.proofs.Common.{◌≡◌, ◌+◌, ◌⊎◌, ◌∙◌, inl, inr, ℕ, List, Some, Result, Ok, Err, ap, arith, refl, subst, sym}
use Rattle.std.proofs.KnownBytes.{Keeps-refl}
use Rattle.sqlite.specs.State.{HasCleanDisk, State}
use Rattle.contest_types.specs.State.{ContestState}
use Rattle.contest_streams.specs.Streams.{Fails, Stream, TakesFront, Tells}
use Rattle.contest_types.specs.declared.limits.TheConstants.{IMPORTED_FILE}
use Rattle.contest_types.specs.declared.refusal.Refusal.{Refusal}
use Rattle.contest_types.specs.declared.refusal.Refusal.TheVariants.{Memory, OldSchema, StoreFault}
use Rattle.contest_streams.specs.declared.input.InputFault.{InputFault}
use Rattle.contest_streams.specs.declared.input.InputFault.TheVariants as fault
use Rattle.contest_store.specs.Keeping.{Kept, LeavesNoMore, LeavesOnly, LeavesOr}
use Rattle.contest_store.specs.StoreErrors.{refusal_of}
use Rattle.contest_store.specs.declared.store_error.StoreError.{StoreError}
use Rattle.contest_store.specs.declared.store_error.StoreError.TheVariants as error
use Rattle.contest_types.specs.declared.import_kind.ImportKind.{ImportKind}
use Rattle.contest_desk.specs.Imports.{import_step}
use Rattle.contest_desk.specs.Items.{HasStoreError}
use Rattle.contest_store_sqlite.specs.Contests.{may_leave_of}
use Rattle.contest_store_sqlite.specs.Creation.{KeepsLists, open_refusal}
use Rattle.contest_store_sqlite.specs.declared.open_error.OpenError.{OpenError}
use Rattle.contest_store_sqlite.specs.declared.open_error.OpenError.TheVariants as open_error
use Rattle.contest_store_sqlite.specs.Opening.{FindsFirst, Opened, may_leave_filled}
use Rattle.contest_cli_words.specs.Endings.{Shows}
use Rattle.contest_cli_commands.specs.Import.{Imports, KeepsNothing, LeavesStep, RefusesImport, Steps, StepsOrFinds, StopsImport, added_line}
use Rattle.contest_cli_commands.specs.Inputs.{WasRead}
use Rattle.contest_cli_words.specs.CommandErrors.{exit_status_of, line_of, stop_of}
use Rattle.contest_cli_words.specs.declared.command_error.CommandError.{CommandError}
use Rattle.contest_cli_words.specs.declared.command_error.CommandError.TheVariants.{Clock, File, Net, Refused, Usage}
use Rattle.contest_cli_commands.proofs.InputLemmas.{keeps_lists, too_large}

-- a refusal is the store's or want of memory, or another
of_store : (r : Refusal) → (r ≡ StoreFault) ⊎ (r ≡ Memory) → HasStoreError {A = ℕ} (Err r)
of_store r (inl fault) = inl (ap Err fault)
of_store r (inr memory) = inr (ap Err memory)

decided : (r : Refusal) → ((r ≡ StoreFault) ⊎ (r ≡ Memory)) ⊎ ¬ HasStoreError {A = ℕ} (Err r)
decided StoreFault = inl (inl refl)
decided Memory = inl (inr refl)
decided _ = inr (λ is. elim is [ inl fault ↦ cc | inr memory ↦ cc ])

by_error : (e : StoreError) (r : Refusal) → r ≡ refusal_of e → HasStoreError {A = ℕ} (Err r)
by_error error.Fault r is = inl (ap Err is)
by_error error.Memory r is = inr (ap Err is)

old_of : (r : Refusal) → ◌≡◌ {A = Result ℕ Refusal} (Err r) (Err OldSchema) → r ≡ OldSchema
old_of r is = cc

pub no_error : (added : ℕ) → ¬ HasStoreError {A = ℕ} (Ok added)
no_error added (inl fault) = cc
no_error added (inr memory) = cc

none_added : (added : ℕ) → ◌≡◌ {A = Result ℕ Refusal} (Ok added) (Err OldSchema) → ⊥
none_added added is = cc

module _ (now : ℕ) (kind : ImportKind) (input : Stream) (old new : State) where
  -- where no more than cells was committed, a crash leaves what it could leave before, or the contest that stood with its cells
  pub leaves_as_before : KeepsLists old new → HasCleanDisk new → LeavesStep now kind input old new
  leaves_as_before keeps clean c left = elim (keeps.crash clean left.0 left.1) [ inl before ↦ inl (inl (left.0, before, left.2)) | inr filled ↦ inl (inr (filled.0, filled.1, sym left.2 ∙ filled.2)) ]

  -- why rows that were read aren't added
  pub refuses : (r : Refusal) → (¬ HasStoreError {A = ℕ} (Err r) → StepsOrFinds now kind input old new (Err r)) → (HasStoreError {A = ℕ} (Err r) → KeepsNothing old new)
      → RefusesImport now kind input old new r
  refuses r steps fails = elim (decided r) [
    | inl failed ↦ inl (failed, fails (of_store r failed))
    | inr other ↦ elim (steps other) [ inl first ↦ inr (inl (old_of r first.0, first.1)) | inr is ↦ inr (inr (inr is)) ]
  ]

  -- why no desk was opened
  pub finds : (e : OpenError) (r : Refusal) → r ≡ open_refusal e → (e ≡ open_error.OldSchema → FindsFirst old new) → ¬ HasStoreError {A = ℕ} (Err r)
      → StepsOrFinds now kind input old new (Err r)
  finds (open_error.Store e) r is first ordinary = absurd (ordinary (by_error e r is))
  finds open_error.OldSchema r is first ordinary = inl (ap Err is, first refl)

  -- rows were added, so the step's
  pub added_steps : (added : ℕ) → StepsOrFinds now kind input old new (Ok added) → HasCleanDisk new → Steps now kind input old new (Ok added)
  added_steps added (inl first) = absurd (none_added added first.0)
  added_steps added (inr steps) = steps

  module _ (bytes : List ℕ) (read : WasRead input bytes) (kept : Kept) (opened : Opened old kept) where
    -- the desk's answer is that of the contest that was found
    pub steps : (answer : Result ℕ Refusal) → answer ≡ (import_step kept.contest now kind bytes).0 → LeavesOnly (may_leave_of new) (import_step kept.contest now kind bytes).1
        → Steps now kind input old new answer
    steps answer is leaves =
        let same = opened.shows.now_is in
        record {
          bytes = bytes;
          read = read;
          contest = opened.contest;
          found = opened.found;
          answered = sym (is ∙ ap (λ (x : ContestState). (import_step x now kind bytes).0) same);
          leaves = subst (λ (x : ContestState). LeavesOnly (may_leave_of new) (import_step x now kind bytes).1) same leaves;
        }

    -- and so is what a crash leaves
    pub leaves_step : LeavesOr kept.may_leave (may_leave_of new) (import_step kept.contest now kind bytes).1 → LeavesStep now kind input old new
    leaves_step crash c left = elim (crash c left) [
      | inl before ↦ inl (opened.crash c before)
      | inr is ↦ inr (bytes, read, opened.contest, opened.found, is ∙ ap (λ (x : ContestState). Some (import_step x now kind bytes).1) opened.shows.now_is)
    ]

-- a desk that failed shows the contest that was found, and a crash leaves no other
pub keeps_nothing : (old new : State) (before after : Kept) → Opened old before → after.contest ≡ before.contest → LeavesOnly (may_leave_of new) after.contest
    → LeavesNoMore (may_leave_filled old) (may_leave_of new)
keeps_nothing old new before after opened same only c left = inr (opened.contest, opened.found, only.1 c left ∙ ap Some (same ∙ opened.shows.now_is))

-- an input that isn't read to its end stops it, and the connection isn't called
pub fault_stops : (now : ℕ) (kind : ImportKind) (in_old in_new : Stream) (s : State) (f : InputFault)
    → (f ≡ fault.TooLarge → TakesFront in_old.bytes in_new.bytes (IMPORTED_FILE + 1)) → (f ≡ fault.File → Fails in_old in_new)
    → StopsImport now kind in_old in_new s s (stop_of f)
fault_stops now kind in_old in_new s fault.File large failed = (failed refl, keeps_lists s)
fault_stops now kind in_old in_new s fault.TooLarge large failed = inr (inr (inl (refl, too_large in_old.bytes in_new.bytes (large refl), keeps_lists s)))
fault_stops now kind in_old in_new s fault.Memory large failed = inl (inr refl, λ clean up c left. inl left)

module _ (now : ℕ) (kind : ImportKind) (in_old in_new : Stream) (old new : State) (leaves : HasCleanDisk new → LeavesStep now kind in_old old new) (err_old err_new : Stream) (status : ℕ) where
  -- rows were added, and their number is told
  pub told : (out_old out_new : Stream) (added : ℕ) (line : List ℕ) → (HasCleanDisk new → Steps now kind in_old old new (Ok added)) → line ≡ added_line added
      → Shows line out_old out_new err_old err_new status → Imports now kind in_old in_new out_old out_new err_old err_new old new status
  told out_old out_new added line steps is shows =
      let s = subst (λ l. Shows l out_old out_new err_old err_new status) is shows in
      record {
        statuses = s.statuses;
        done = λ e. (added, steps, (s.done e).0, (s.done e).1);
        refused = λ e. (File, (s.cut e).2, inr (record { failed = (s.cut e).0; stopped = refl; added = added; told = (s.cut e).1; kept = steps }));
        leaves = leaves;
      }

  -- none was added, which is told
  pub stopped : (out : Stream) (stop : CommandError) → StopsImport now kind in_old in_new old new stop → status ≡ exit_status_of stop → Tells err_old err_new (line_of stop)
      → Imports now kind in_old in_new out out err_old err_new old new status
  stopped out (Usage text) stops is told = absurd stops
  stopped out Clock stops is told = absurd stops
  stopped out Net stops is told = absurd stops
  stopped out (Refused r) stops is told = record {
    statuses = omega (arith, is);
    done = λ e. absurd (omega (arith, is, e));
    refused = λ e. (Refused r, told, inl (stops, Keeps-refl out.bytes));
    leaves = leaves;
  }
  stopped out File stops is told = record {
    statuses = omega (arith, is);
    done = λ e. absurd (omega (arith, is, e));
    refused = λ e. (File, told, inl (stops, Keeps-refl out.bytes));
    leaves = leaves;
  }
