-- What is given to a row that stands changes it as it changes the contest.
use Rattle.std.proofs.Common.{◌≡◌, ◌+◌, Some}
use Rattle.sqlite_value.specs.Order.{Row}
use Rattle.contest_lists.specs.Lists.{loaded}
use Rattle.contest_types.specs.State.{ContestState, add}
use Rattle.contest_types.specs.declared.entry.Entry.{Entry}
use Rattle.contest_types.specs.declared.entry.Entry.TheVariants.{SetMember, SetRejudging, SetStart, SetThaw, SetFinalized, SetDuration, SetTeamName, SetDigest}
use Rattle.contest_store_tables.specs.declared.row_change.RowChange.{RowChange}
use Rattle.contest_store_changes.specs.EntryRows.{IsGiven}
use Rattle.contest_store_changes.specs.OneRow.{IsOneChange}
use Rattle.contest_store_changes.specs.Sound.{IsSound}
use Rattle.contest_store_changes.proofs.BoundRows.{Unreal, digest_unreal, duration_unreal, marks_unreal, member_state_given_unreal, state_given_unreal, team_name_unreal}
use Rattle.contest_store_changes.proofs.ChangeLaws.{marks_are_changed, member_is_changed, rejudging_is_changed}
use Rattle.contest_store_changes.proofs.SettingChanges.{digest_is_changed, duration_is_changed, team_name_is_changed}

pub is_one_change : (lists x : ContestState) (e : Entry) (change : RowChange) (row : Row) → IsGiven lists e change row → IsSound x → loaded x ≡ lists → Unreal row × IsOneChange change row x (add x e)
is_one_change lists x (SetStart start) change row is sound held = rw (is.0, is.1, ← held) (marks_unreal (record x.fixed.marks { start = start }), marks_are_changed x (record x.fixed.marks { start = start }))
is_one_change lists x (SetThaw thaw) change row is sound held = rw (is.0, is.1, ← held) (marks_unreal (record x.fixed.marks { thaw = Some thaw }), marks_are_changed x (record x.fixed.marks { thaw = Some thaw }))
is_one_change lists x (SetFinalized finalized) change row is sound held = rw (is.0, is.1, ← held) (marks_unreal (record x.fixed.marks { finalized = Some finalized }), marks_are_changed x (record x.fixed.marks { finalized = Some finalized }))
is_one_change lists x (SetDuration duration freeze) change row is sound held = rw (is.0, is.1) (duration_unreal duration freeze, duration_is_changed x duration freeze)
is_one_change lists x (SetTeamName team name) change row is sound held = rw (is.0, is.1) (team_name_unreal (team + 1) name, team_name_is_changed x team name)
is_one_change lists x (SetDigest id digest) change row is sound held = rw (is.0, is.1) (digest_unreal id digest, digest_is_changed x id digest sound)
is_one_change lists x (SetRejudging n state) change row is sound held = rw (is.0, is.1) (state_given_unreal n state, rejudging_is_changed x n state)
is_one_change lists x (SetMember n place state) change row is sound held = rw (is.0, is.1, ← held) (member_state_given_unreal x.fixed.settings n (place + 1) state, member_is_changed x n place state)
is_one_change lists x _ change row is sound held = absurd is
