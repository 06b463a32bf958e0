-- The row of what is new is one more row of the contest.
use Rattle.std.proofs.Common.{◌≡◌, ◌+◌, [], false, true, length}
use Rattle.std.proofs.lemmas.List.{length-map}
use Rattle.sqlite_value.specs.Order.{Row}
use Rattle.contest_lists.specs.Lists.{loaded}
use Rattle.contest_types.specs.Addable.{is_addable}
use Rattle.contest_types.specs.Loads.{without_file}
use Rattle.contest_types.specs.State.{ContestState, add}
use Rattle.contest_types.specs.declared.entry.Entry.{Entry}
use Rattle.contest_types.specs.declared.entry.Entry.TheVariants.{NewSubmission, NewProposal, NewRelease, NewClarification, NewRejudging, NewType, NewLanguage, NewProblem, NewGroup, NewTeam, NewAccount}
use Rattle.contest_store_tables.specs.declared.table_name.TableName.{TableName}
use Rattle.contest_store_changes.specs.EntryRows.{IsNewRow, headed}
use Rattle.contest_store_changes.specs.OneRow.{IsOneRow}
use Rattle.contest_store_changes.specs.Sound.{IsSound}
use Rattle.contest_store_changes.proofs.AccountAddition.{account_is_added}
use Rattle.contest_store_changes.proofs.BoundRows.{Unreal, account_unreal, clarification_unreal, item_unreal, proposal_unreal, rejudging_unreal, release_unreal, submission_unreal}
use Rattle.contest_store_changes.proofs.ListAdditions.{submission_is_added, proposal_is_added, release_is_added, clarification_is_added, rejudging_is_added}
use Rattle.contest_store_changes.proofs.SettingAdditions.{type_added, language_added, group_added, problem_added, team_added}

pub is_one_row : (lists x : ContestState) (e : Entry) (table : TableName) (row : Row) → IsNewRow lists e table row → IsSound x → loaded x ≡ lists → is_addable x e ≡ true → Unreal row × IsOneRow table row x (add x (headed e))
is_one_row lists x (NewSubmission s) table row is sound held may = rw (is.0, is.1, ← held, length-map x.submissions without_file) (submission_unreal x.fixed.settings (length x.submissions + 1) s, submission_is_added x s sound)
is_one_row lists x (NewProposal p) table row is sound held may = rw (is.0, is.1, ← held) (proposal_unreal x.fixed.settings (length x.proposals + 1) p, proposal_is_added x p sound)
is_one_row lists x (NewRelease v) table row is sound held may = rw (is.0, is.1, ← held) (release_unreal x.fixed.settings (length x.releases + 1) v, release_is_added x v sound)
is_one_row lists x (NewClarification c) table row is sound held may = rw (is.0, is.1, ← held) (clarification_unreal x.fixed.settings (length x.clarifications + 1) c, clarification_is_added x c sound)
is_one_row lists x (NewRejudging r) table row is sound held may = rw (is.0, is.1, ← held) (rejudging_unreal (length x.rejudgings + 1) r, rejudging_is_added x r sound)
is_one_row lists x (NewType t) table row is sound held may = rw (is.0, is.1, ← held) (item_unreal 0 _ _ _ [] 0 _ _ [], type_added x t sound)
is_one_row lists x (NewLanguage l) table row is sound held may = rw (is.0, is.1, ← held) (item_unreal 1 _ _ _ [] 0 _ false [], language_added x l sound)
is_one_row lists x (NewProblem p) table row is sound held may = rw (is.0, is.1, ← held) (item_unreal 3 _ _ _ _ _ false false [], problem_added x p sound)
is_one_row lists x (NewGroup g) table row is sound held may = rw (is.0, is.1, ← held) (item_unreal 2 _ _ _ [] 0 false false [], group_added x g sound)
is_one_row lists x (NewTeam t) table row is sound held may = rw (is.0, is.1, ← held) (item_unreal 4 _ _ _ [] 0 _ false _, team_added x t sound)
is_one_row lists x (NewAccount a) table row is sound held may = rw (is.0, is.1, ← held) (account_unreal x.fixed.settings a, account_is_added x a sound may)
is_one_row lists x _ table row is sound held may = absurd is
