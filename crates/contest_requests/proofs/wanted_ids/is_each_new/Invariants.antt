use Rattle.std.proofs.Common.{◌≡◌, ℕ, List, true, take}
use Rattle.std.specs.Borrow.{Bor}
use Rattle.contest_types.specs.Places.{is_among, are_different}
use Rattle.contest_files.specs.IdArrays.{is_seen}
use Rattle.contest_requests.proofs.wanted_ids.is_each_new.Given as goal

-- the texts so far were seen, and are different
abbrev pub invariant-loop-id : goal.invariant-loop-id
invariant-loop-id l = ((other : Bor (List ℕ)) → is_seen l.seen other ≡ is_among (take l.id-index l.ids) other.now)
    × (are_different (take l.id-index l.ids) ≡ true)
