-- Worked examples: settings that are valid and that aren't, and what adding a row comes to.
use Rattle.std.proofs.Common.{◌≡◌, ℕ, ◌+◌, List, [], ◌∷◌, refl, Some, None, true, false, map}
use Rattle.std.specs.Prelude.{codes, Ok, Err}
use Rattle.std.specs.List.{list_any, list_all}
use Rattle.contest_types.specs.PlainRows.{plain_problem, plain_team}
use Rattle.contest_types.specs.Setup.{Setup}
use Rattle.contest_types.specs.Accounts.{with_account, account_named, account_addition}
use Rattle.contest_types.specs.Additions.{addition_by}
use Rattle.contest_types.specs.SetupAdditions.{problem_addition, team_addition}
use Rattle.contest_types.specs.State.{ContestState}
use Rattle.contest_types.specs.ValidFixed.{has_valid_settings}
use Rattle.contest_types.specs.Valid.{is_valid}
use Rattle.contest_types.specs.declared.account.Account.{Account}
use Rattle.contest_types.specs.declared.account.Role.TheVariants as role
use Rattle.contest_types.specs.declared.contest.ContestHead.{ContestHead}
use Rattle.contest_types.specs.declared.id_list.IdMatch.TheVariants.{New, Same}
use Rattle.contest_types.specs.declared.refusal.Cause.TheVariants.{KeyReused, UnknownReference, TableFull}
use Rattle.contest_types.proofs.ExampleContest.{hours, head, settings, accounts, account_for, team_named, empty}

abbrev with_settings : Setup → ContestState
with_settings s = record empty { fixed = record empty.fixed { settings = s } }

abbrev with_head : ContestHead → ContestState
with_head h = with_settings (record settings { head = h })

-- a duration of nothing, a freeze longer than the contest, a penalty of 1001 minutes, 101 places of a medal
abbrev bad_heads : List ContestState
bad_heads =
    with_head (record head { duration = 0; freeze = None }) ∷ with_head (record head { duration = hours 1000 + 1 })
    ∷ with_head (record head { freeze = Some (hours 5 + 1) }) ∷ with_head (record head { penalty_time = 1001 })
    ∷ with_head (record head { medals = record { gold = 101; silver = 4; bronze = 4 } }) ∷ []

no_heads : list_any is_valid bad_heads ≡ false
no_heads = refl

-- each limit may be reached; a freeze may be of no length, and of the whole contest
abbrev good_heads : List ContestState
good_heads =
    with_head (record head { duration = 1; freeze = Some 1 }) ∷ with_head (record head { duration = hours 1000 })
    ∷ with_head (record head { freeze = Some 0 }) ∷ with_head (record head { penalty_time = 1000 })
    ∷ with_head (record head { medals = record { gold = 100; silver = 100; bronze = 100 } }) ∷ []

all_heads : list_all is_valid good_heads ≡ true
all_heads = refl

-- an id twice, a label twice, a group that isn't there
abbrev bad_lists : List ContestState
bad_lists =
    with_settings (record settings { teams = team_named (codes "t1") (codes "Alpha") false ∷ team_named (codes "t1") (codes "Beta") false ∷ [] })
    ∷ with_settings (record settings {
      problems =
          plain_problem (codes "a") (codes "A") (codes "Apples") 0
          ∷ plain_problem (codes "b") (codes "A") (codes "Bridges") 1 ∷ [];
    })
    ∷ with_settings (record settings { teams = record (plain_team (codes "t1") (codes "Alpha")) { groups = 0 ∷ [] } ∷ [] }) ∷ []

no_lists : list_any has_valid_settings bad_lists ≡ false
no_lists = refl

-- adding: a new row, an equal one, another under its id, another with its label, one for which there is no room
new_problem : problem_addition settings (plain_problem (codes "c") (codes "C") (codes "Cakes") 2) ≡ Ok true
new_problem = refl

same_problem_again : problem_addition settings (plain_problem (codes "a") (codes "A") (codes "Apples") 0) ≡ Ok false
same_problem_again = refl

other_problem : problem_addition settings (plain_problem (codes "a") (codes "A") (codes "Pears") 0) ≡ Err KeyReused
other_problem = refl

label_held : problem_addition settings (plain_problem (codes "c") (codes "A") (codes "Cakes") 2) ≡ Err KeyReused
label_held = refl

unknown_group : team_addition settings (record (plain_team (codes "t5") (codes "Delta")) { groups = 0 ∷ [] }) ≡ Err UnknownReference
unknown_group = refl

-- a full table takes no new row, and refuses no equal one
full_table : addition_by New true ≡ Err TableFull
full_table = refl

full_and_equal : addition_by Same true ≡ Ok false
full_and_equal = refl

-- accounts stand by the bytes of their ids, in whichever order they come
abbrev ids_of : List Account → List (List ℕ)
ids_of = map (λ (a : Account). a.id)

by_id : ids_of (with_account (with_account (with_account [] (account_for (codes "j1") role.Judge)) (account_for (codes "a9") (role.Team 3))) (account_for (codes "adm") role.Admin)) ≡ codes "a9" ∷ codes "adm" ∷ codes "j1" ∷ []
by_id = refl

still_named : account_named (with_account accounts (account_for (codes "b1") role.Judge)) (codes "j1") ≡ Some (account_for (codes "j1") role.Judge)
still_named = refl

new_account : account_addition settings accounts (account_for (codes "b1") role.Judge) ≡ Ok true
new_account = refl

same_account_again : account_addition settings accounts (account_for (codes "j1") role.Judge) ≡ Ok false
same_account_again = refl

other_role : account_addition settings accounts (account_for (codes "j1") role.Admin) ≡ Err KeyReused
other_role = refl

analyst_added : account_addition settings accounts (account_for (codes "b1") role.Analyst) ≡ Ok true
analyst_added = refl

analyst_isnt_judge : account_addition settings accounts (account_for (codes "j1") role.Analyst) ≡ Err KeyReused
analyst_isnt_judge = refl

-- another account has the token
token_held : account_addition settings accounts (record { id = codes "b1"; role = role.Judge; digest = codes "j1" }) ≡ Err KeyReused
token_held = refl

unknown_team : account_addition settings accounts (account_for (codes "b1") (role.Team 4)) ≡ Err UnknownReference
unknown_team = refl
