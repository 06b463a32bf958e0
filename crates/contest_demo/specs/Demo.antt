-- The demo contest (own): two problems, four teams of which one is hidden, two judges and an admin.
use Rattle.std.specs.Prelude.{ℕ, Bool, true, false, List, [], ◌∷◌, ◌++◌, Some, codes, take}
use Rattle.sha2.specs.Sha256.{sha256}
use Rattle.contest_types.specs.PlainRows.{plain_language, plain_problem, plain_team, plain_type}
use Rattle.contest_types.specs.declared.account.Role.{Role}
use Rattle.contest_types.specs.declared.account.Role.TheVariants as role
use Rattle.contest_types.specs.declared.contest.Contest.{Contest}
use Rattle.contest_types.specs.declared.entry.Entry.{Entry}
use Rattle.contest_types.specs.declared.entry.Entry.TheVariants.{NewType, NewLanguage, NewProblem, NewTeam, NewAccount}

-- five hours from nine o'clock (UTC) on 2 March 2024, the last of them frozen
abbrev pub demo_contest : (verification : Bool) → Contest
demo_contest verification = record {
  head = record {
    id = codes "demo";
    name = codes "Demo Cup";
    duration = 18_000_000;
    freeze = Some 3_600_000;
    penalty_time = 20;
    verification = verification;
    medals = record { gold = 4; silver = 4; bronze = 4 };
  };
  start = Some 1_709_370_000_000;
}

abbrev pub new_type : (id name : List ℕ) → (solved penalty : Bool) → Entry
new_type id name solved penalty = NewType (plain_type id name solved penalty)

abbrev pub new_language : (id name : List ℕ) → (entry_point_required : Bool) → Entry
new_language id name entry_point_required = NewLanguage (record (plain_language id name) { entry_point_required = entry_point_required })

abbrev pub new_problem : (id label name : List ℕ) → (ordinal : ℕ) → Entry
new_problem id label name ordinal = NewProblem (plain_problem id label name ordinal)

-- without groups
abbrev pub new_team : (id name : List ℕ) → (hidden : Bool) → Entry
new_team id name hidden = NewTeam (record (plain_team id name) { hidden = hidden })

-- of the token the digest alone
abbrev pub new_account : (id : List ℕ) → Role → (token : List ℕ) → Entry
new_account id role token = NewAccount (record { id = id; role = role; digest = sha256 token })

abbrev pub judgement_types : List Entry
judgement_types =
    new_type (codes "AC") (codes "correct") true false
    ∷ new_type (codes "WA") (codes "wrong answer") false true
    ∷ new_type (codes "CE") (codes "compile error") false false ∷ []

abbrev pub languages : List Entry
languages = new_language (codes "cpp") (codes "C++") false ∷ new_language (codes "java") (codes "Java") true ∷ []

abbrev pub problems : List Entry
problems = new_problem (codes "a") (codes "A") (codes "Apples") 0 ∷ new_problem (codes "b") (codes "B") (codes "Bridges") 1 ∷ []

abbrev pub teams : List Entry
teams =
    new_team (codes "t1") (codes "Alpha") false
    ∷ new_team (codes "t2") (codes "Beta") false
    ∷ new_team (codes "t3") (codes "Gamma") false
    ∷ new_team (codes "t9") (codes "Staff") true ∷ []

-- one of each team, in the same order
abbrev pub team_accounts : List Entry
team_accounts =
    new_account (codes "a1") (role.Team 0) (codes "token-a1")
    ∷ new_account (codes "a2") (role.Team 1) (codes "token-a2")
    ∷ new_account (codes "a3") (role.Team 2) (codes "token-a3")
    ∷ new_account (codes "a9") (role.Team 3) (codes "token-a9") ∷ []

abbrev pub jury_accounts : List Entry
jury_accounts =
    new_account (codes "j1") role.Judge (codes "token-j1")
    ∷ new_account (codes "j2") role.Judge (codes "token-j2")
    ∷ new_account (codes "adm") role.Admin (codes "token-adm") ∷ []

-- all of it with the first so many problems, and the first so many teams with their accounts; all where there are fewer
abbrev pub demo_entries : (first_teams first_problems : ℕ) → List Entry
demo_entries first_teams first_problems =
    judgement_types ++ languages ++ take first_problems problems ++ take first_teams teams ++ take first_teams team_accounts ++ jury_accounts
