-- What is told of an upgrade.
use Rattle.std.proofs.Common.{◌≡◌, Bool, true, false, List, ℕ, inl, inr, refl, subst, sym, arith}
use Rattle.std.proofs.KnownBytes.{Keeps-refl}
use Rattle.sqlite.specs.State.{HasCleanDisk, State}
use Rattle.contest_types.specs.State.{ContestState}
use Rattle.contest_types.specs.declared.refusal.Refusal.{Refusal}
use Rattle.contest_streams.specs.Streams.{Stream, Tells}
use Rattle.contest_store_sqlite.specs.Creation.{IsOfStore}
use Rattle.contest_store_sqlite.specs.Opening.{IsRead}
use Rattle.contest_store_sqlite.specs.Upgrading.{IsUpgraded, KeepsUpgraded}
use Rattle.contest_cli_words.specs.CommandErrors.{exit_status_of, line_of}
use Rattle.contest_cli_words.specs.Endings.{Shows}
use Rattle.contest_cli_words.specs.declared.command_error.CommandError.TheVariants.{File, Refused}
use Rattle.contest_cli_commands.specs.Printing.{IsStoreStop}
use Rattle.contest_cli_commands.specs.Upgrade.{StandsToday, Upgrades, schema_line}
use Rattle.contest_cli_commands.proofs.PrintLemmas.{by_error}

-- whether it was moved or not, it stands
stands : (moved : Bool) (old new : State) → (moved ≡ true → IsUpgraded old new) → (moved ≡ false → (lists : ContestState) × IsRead old new lists) → StandsToday old new
stands true old new upgraded read = inl (upgraded refl)
stands false old new upgraded read = inr (read refl)

module _ (err_old err_new : Stream) (old new : State) (status : ℕ) (leaves : KeepsUpgraded old new) where
  pub shown : (out_old out_new : Stream) (moved : Bool) (line : List ℕ) → (HasCleanDisk new → moved ≡ true → IsUpgraded old new) → (HasCleanDisk new → moved ≡ false → (lists : ContestState) × IsRead old new lists)
      → line ≡ schema_line → Shows line out_old out_new err_old err_new status → Upgrades out_old out_new err_old err_new old new status
  shown out_old out_new moved line upgraded read is shows =
      let s = subst (λ l. Shows l out_old out_new err_old err_new status) is shows in
      let today = λ (clean : HasCleanDisk new). stands moved old new (upgraded clean) (read clean) in
      record {
        statuses = s.statuses;
        done = λ e. (today, (s.done e).0, (s.done e).1);
        refused = λ e. (File, (s.cut e).2, inr (refl, (s.cut e).0, (s.cut e).1, today));
        leaves = leaves;
      }

  -- the store refused
  pub stopped : (out : Stream) (r : Refusal) → IsOfStore r → status ≡ exit_status_of (Refused r) → Tells err_old err_new (line_of (Refused r)) → Upgrades out out err_old err_new old new status
  stopped out r kind is told = record {
    statuses = omega (arith, is);
    done = λ e. absurd (omega (arith, is, e));
    refused = λ e. (Refused r, told, inl (subst (λ (q : Refusal). IsStoreStop (Refused q)) (sym kind.1) (by_error kind.0), Keeps-refl out.bytes));
    leaves = leaves;
  }
