-- What an open of an SQLite file finds.
use Rattle.std.proofs.Common.{ap, subst, sym}
use Rattle.sqlite.specs.Effect.{Database}
use Rattle.sqlite.specs.Files.{AreFoundIn}
use Rattle.sqlite.specs.Recovery.{Image}
use Rattle.sqlite.specs.Start.{FindsIn}
use Rattle.sqlite.specs.State.{HasCleanDisk, IsLive, Opens, State}
use Rattle.sqlite.specs.Tree.{Trees}
use Rattle.contest_store_tables.specs.Numbered.{IsNumbered}
use Rattle.contest_store_tables.proofs.NumberedLemmas.{all_numbered, found_numbered}

-- its trees are those of the files
pub are_found : (image : Image) (s : State) → Opens s → FindsIn image s → AreFoundIn image s.now.trees
are_found image s opened found = subst (λ (db : Trees). AreFoundIn image db) (ap (λ (d : Database). d.trees) (sym opened.clean)) found.reads

-- a desk's rows rise by their numbers in it
pub is_numbered : (image : Image) (s : State) → (HasCleanDisk s → Opens s × IsLive s) → (HasCleanDisk s → FindsIn image s) → IsNumbered s
is_numbered image s opened found = all_numbered s (λ clean up. let it = opened clean in found_numbered image s (up, it.0.clean) (it.1 up).0 (found clean))
