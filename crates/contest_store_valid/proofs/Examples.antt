-- Worked examples: which of its own each row is, whose keys are told apart, and what makes lists invalid.
use Rattle.std.proofs.Common.{◌≡◌, ℕ, [], ◌∷◌, map, refl, Some, None, true, false}
use Rattle.std.specs.Prelude.{codes, nat_eq}
use Rattle.std.specs.List.{list_all, list_any}
use Rattle.contest_lists.specs.Lists.{loaded}
use Rattle.contest_types.specs.State.{of_submission, same_addressee}
use Rattle.contest_types.specs.Valid.{is_valid}
use Rattle.contest_types.specs.declared.account.Role.TheVariants as role
use Rattle.contest_types.specs.declared.clarification.Addressee.TheVariants as addressee
use Rattle.contest_types.specs.declared.clarification.Clarification.{Clarification}
use Rattle.contest_types.specs.declared.submission.Submission.{Submission}
use Rattle.contest_types.proofs.ExampleContest.{accounts, account_for, asked, answered, announced, submitted, minutes}
use Rattle.contest_types.proofs.ExampleTalk.{base, submissions}
use Rattle.contest_store_valid.specs.Accounts.{role_named, with_role}
use Rattle.contest_store_valid.specs.Files.{has_small_files}
use Rattle.contest_store_valid.specs.Keys.{pair_of, same_numbers, keyed, same_keyed}
use Rattle.contest_store_valid.specs.Numbering.{numbered}
use Rattle.contest_store_valid.specs.Talk.{addressee_of, whose, same_sender, has_one}

-- three submissions of team 7 with one of team 3 between
each_by_team : numbered nat_eq (7 ∷ 7 ∷ 3 ∷ 7 ∷ []) ≡ 1 ∷ 2 ∷ 1 ∷ 3 ∷ []
each_by_team = refl

none_numbered : numbered nat_eq [] ≡ []
none_numbered = refl

-- the submissions of the example, by team
submissions_by_team : numbered nat_eq (map (λ (s : Submission). s.team) submissions) ≡ map (λ (s : Submission). s.number) submissions
submissions_by_team = refl

-- the teams and numbers of submissions are told apart, so each is the first of its own
each_once : numbered same_numbers (map (λ (s : Submission). pair_of (of_submission s)) submissions) ≡ 1 ∷ 1 ∷ 1 ∷ 1 ∷ []
each_once = refl

-- two teams may have one key, but no team may have it twice; a submission with no key has none
with_key : (team number : ℕ) → Submission
with_key team number = record (submitted team number (minutes number) 0) { key = Some (codes "k1") }

keys_of_teams : numbered (same_keyed nat_eq) (keyed (λ (s : Submission). s.team) (λ s. s.key) (with_key 0 1 ∷ with_key 1 1 ∷ submitted 0 2 (minutes 2) 0 ∷ with_key 0 3 ∷ [])) ≡ 1 ∷ 1 ∷ 2 ∷ []
unfolding with_key
keys_of_teams = refl

-- a team's question and the jury's answer count up together, and what is told to all by itself
by_addressee : numbered same_addressee (map addressee_of (asked 0 1 (minutes 40) ∷ answered 0 2 (minutes 50) ∷ announced 1 (minutes 60) None ∷ [])) ≡ 1 ∷ 2 ∷ 1 ∷ []
by_addressee = refl

-- so does what is told to each group
abbrev told : (group number : ℕ) → Clarification
told group number = record (announced number (minutes 60) None) { addressee = addressee.Group group }

by_group : numbered same_addressee (map addressee_of (announced 1 (minutes 60) None ∷ told 0 1 ∷ told 1 1 ∷ told 0 2 ∷ asked 0 1 (minutes 61) ∷ [])) ≡ 1 ∷ 1 ∷ 1 ∷ 2 ∷ 1 ∷ []
by_group = refl

-- a team's key is its own, a judge's goes by the account, whoever it is sent to
team_and_judge : same_sender (whose (asked 0 1 (minutes 40))) (whose (answered 0 2 (minutes 50))) ≡ false
team_and_judge = refl

one_judge : same_sender (whose (answered 0 2 (minutes 50))) (whose (announced 1 (minutes 60) None)) ≡ true
one_judge = refl

two_teams : same_sender (whose (asked 0 1 (minutes 40))) (whose (asked 1 1 (minutes 40))) ≡ false
two_teams = refl

-- what is answered is found by whose it is and its number
question_stands : list_all (has_one base.clarifications) (record { addressee = (asked 0 1 0).addressee; number = 1 } ∷ []) ≡ true
question_stands = refl

no_third : list_any (has_one base.clarifications) (record { addressee = (asked 0 1 0).addressee; number = 3 } ∷ []) ≡ false
no_third = refl

-- roles by id: a judge's, none, and where an id comes again that of the first
judge : role_named accounts (codes "j1") ≡ Some role.Judge
judge = refl

nobody : role_named accounts (codes "j9") ≡ None
nobody = refl

first_stays : with_role (role_named accounts) (account_for (codes "j1") role.Admin) (codes "j1") ≡ Some role.Judge
first_stays = refl

-- the example is valid, with its files and without them
valid_loaded : list_all is_valid (base ∷ loaded base ∷ []) ≡ true
valid_loaded = refl

small_files : has_small_files base ≡ true
small_files = refl
