-- What BEGIN, COMMIT and ROLLBACK mean, whatever the schema.
use Rattle.std.proofs.Common.{◌≡◌, ℕ, [], codes, Ok, None, refl}
use Rattle.sqlite.specs.Schema.{Schema}
use Rattle.sqlite.specs.Command.{Command}
use Rattle.sqlite.specs.Command.TheVariants.{Begin, Commit, Rollback}
use Rattle.sqlite_resolve.specs.declared.compiled.Compiled.{Compiled}
use Rattle.sqlite_tied.specs.Compute.{everything}
use Rattle.sqlite.specs.Listing.{understood}

abbrev pub word : Command → ℕ → Compiled
word command n = record { command = command; returning = None; names = []; formats = []; start = 0; end = n; tail = n }

pub begin_is : (s : Schema) → understood s (codes "BEGIN") ≡ Ok (word Begin 5)
unfolding understood everything
begin_is s = refl

pub commit_is : (s : Schema) → understood s (codes "COMMIT") ≡ Ok (word Commit 6)
unfolding understood everything
commit_is s = refl

pub rollback_is : (s : Schema) → understood s (codes "ROLLBACK") ≡ Ok (word Rollback 8)
unfolding understood everything
rollback_is s = refl
