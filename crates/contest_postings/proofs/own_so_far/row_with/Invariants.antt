use Rattle.std.proofs.Common.{◌≡◌, None, take}
use Rattle.std.specs.Prelude.{find}
use Rattle.contest_types.specs.State.{submissions_of}
use Rattle.contest_rules.specs.Submitting.{has_key}
use Rattle.contest_postings.proofs.own_so_far.row_with.Given as goal

-- none of the team's so far has the key
abbrev pub invariant-loop-place : goal.invariant-loop-place
invariant-loop-place l = find (has_key l.key) (take l.place-index (submissions_of l.team l.lists.submissions)) ≡ None
