-- What was read of an input, and what stays where nothing is kept.
use Rattle.std.proofs.Common.{◌≡◌, ◌<◌, ◌+◌, inl, ℕ, List, Option, Some, None, IfSome, length, refl, subst, sym, arith}
use Rattle.sqlite.specs.State.{State}
use Rattle.contest_streams.specs.Streams.{ReadsAll, Stream, TakesFront}
use Rattle.contest_types.specs.declared.limits.TheConstants.{IMPORTED_FILE}
use Rattle.contest_store_sqlite.specs.Creation.{KeepsLists}
use Rattle.contest_cli_commands.specs.Inputs.{WasRead}
use Rattle.contest_cli_words.proofs.StreamLemmas.{is_longer}

-- bytes that were read to their end, by the slice of them
pub was_read : (input : Stream) {left : Option (List ℕ)} {limit : ℕ} {bytes file : List ℕ} → ReadsAll input.bytes left limit bytes → file ≡ bytes → WasRead input file
was_read input all same = subst (λ (b : List ℕ). WasRead input b) (sym same) all.whole

-- more than a file may have were taken, so as many were there
pub too_large : (old new : Option (List ℕ)) → TakesFront old new (IMPORTED_FILE + 1) → IfSome old (λ left. IMPORTED_FILE < length left)
too_large None new taken = tt
too_large (Some left) None taken = absurd taken.2
too_large (Some left) (Some rest) taken = is_longer left taken.0 rest IMPORTED_FILE taken.2 taken.1

-- a connection that isn't called keeps all
pub keeps_lists : (s : State) → KeepsLists s s
keeps_lists s = record {
  clean = omega arith;
  shield = λ shielded. shielded;
  counts = omega arith;
  limit = refl;
  closes = λ clean up. inl up;
  crash = λ clean db left. inl left;
}
