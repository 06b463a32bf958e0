-- What an open of two files finds.
use Rattle.sqlite_disk.specs.declared.Disk as disk
use Rattle.sqlite_disk.specs.declared.Files.{Files}
use Rattle.sqlite_store.specs.declared.store.FileStore.{FileStore}
use Rattle.sqlite.specs.Files.{Finds, IsOpened, file_state, image_of}
use Rattle.sqlite.specs.Held.{Held}
use Rattle.sqlite.specs.State.{HasCleanDisk}
use Rattle.contest_store_tables.specs.Numbered.{IsNumbered}
use Rattle.contest_store_tables.proofs.NumberedLemmas.{all_numbered, found_numbered}

-- a desk's rows rise by their numbers in it
pub is_numbered : {D : Type 0} {g : disk.Ghosts D} (files : Files D) (c : Held (FileStore D g)) → (HasCleanDisk (file_state c) → IsOpened c) → (HasCleanDisk (file_state c) → Finds files c) → IsNumbered (file_state c)
is_numbered {D} {g} files c opened found =
    all_numbered (file_state c) (λ clean up.
    let it = opened clean in
    let seen = found clean in
    found_numbered (image_of g files) (file_state c) (up, it.0.clean) (it.1 up).0 (record { holds = seen.holds; reads = seen.reads }))
