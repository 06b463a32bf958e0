-- Adding what may be added keeps a contest valid: each row of the settings, and accounts.
use Rattle.std.proofs.Common.{◌≡◌, ℕ, ◌+◌, ◌≤◌, Bool, true, false, [], ◌∷◌, ◌++◌, length, map, refl, sym, ◌∙◌, arith}
use Rattle.std.specs.Prelude.{nat_le, Result, Err, if◌then◌else◌}
use Rattle.std.specs.List.{list_all}
use Rattle.std.proofs.lemmas.Bool.{false≢true}
use Rattle.std.proofs.lemmas.Bool.Decides.{nat_tests}
use Rattle.contest_types.specs.Places.{is_among, are_different}
use Rattle.contest_types.specs.Setup.{IsValid, labels_of, refers}
use Rattle.contest_types.specs.Rows.{same_type, same_language, same_problem, same_group, same_team}
use Rattle.contest_types.specs.Additions.{id_match_of, addition, keyed_addition}
use Rattle.contest_types.specs.Accounts.{with_account, has_valid_role, same_account}
use Rattle.contest_types.specs.State.{ContestState, add, NewType, NewLanguage, NewProblem, NewGroup, NewTeam, NewAccount}
use Rattle.contest_types.specs.ValidFixed.{is_valid_account}
use Rattle.contest_types.specs.Valid.{is_valid}
use Rattle.contest_types.specs.Addable.{is_addable, is_added}
use Rattle.contest_types.specs.declared.limits.TheConstants.{JUDGEMENT_TYPES, LANGUAGES, PROBLEMS, GROUPS, TEAMS, ACCOUNTS}
use Rattle.contest_types.specs.declared.refusal.Cause.{Cause}
use Rattle.contest_types.specs.declared.refusal.Cause.TheVariants.{UnknownReference}
use Rattle.contest_types.specs.declared.id_list.IdMatch.{IdMatch}
use Rattle.contest_types.specs.declared.id_list.IdMatch.TheVariants.{New, Same, Other}
use Rattle.contest_types.specs.declared.account.Account.{Account}
use Rattle.contest_types.specs.declared.objects.JudgementType.{JudgementType}
use Rattle.contest_types.specs.declared.objects.Language.{Language}
use Rattle.contest_types.specs.declared.objects.Problem.{Problem}
use Rattle.contest_types.specs.declared.objects.Group.{Group}
use Rattle.contest_types.specs.declared.objects.Team.{Team}
use Rattle.contest_types.proofs.PlaceLemmas.{and_left, and_right, all_push, not_among}
use Rattle.contest_types.proofs.AdditionLemmas.{place_of_new}
use Rattle.contest_types.proofs.AccountLemmas.{named_still, all_accounts, accounts_different, one_longer}
use Rattle.contest_types.proofs.SetupLemmas.{all_wider, refers_wider, labels_push}
use Rattle.contest_types.proofs.SettingsTest.{is_settings, has_settings}
use Rattle.contest_types.proofs.ValidParts.{parts, four, all_four}
use Rattle.contest_types.proofs.GroupLemmas.{hears_by_teams, hears_with_team}
use Rattle.contest_types.proofs.GrownSettings.{same_lists, one_type, one_language, one_problem, one_group, one_team}
use Rattle.contest_types.proofs.AddSettings.{with_lists, Wider, no_list_shorter, as_named, widened, account_wider, longer, IsNewRow, new_row, takes}

pub adding_type : (x : ContestState) (t : JudgementType) → is_valid x ≡ true → is_addable x (NewType t) ≡ true → is_valid (add x (NewType t)) ≡ true
adding_type x t h a =
    let s = x.fixed.settings in
    let v = is_settings x (parts x h).settings in
    let k = takes (λ (r : JudgementType). r.id) same_type s.types t JUDGEMENT_TYPES v.types (new_row (id_match_of (λ (r : JudgementType). r.id) same_type s.types t) (nat_le JUDGEMENT_TYPES (length s.types)) a) in
    let y = with_lists x (s.types ++ t ∷ []) s.languages s.problems s.groups s.teams x.fixed.accounts in
    let valid : IsValid y.fixed.settings = record { head = v.head; types = k.different; few_types = k.few; languages = v.languages; few_languages = v.few_languages; problems = v.problems; labels = v.labels; few_problems = v.few_problems; groups = v.groups; few_groups = v.few_groups; teams = v.teams; few_teams = v.few_teams; references = v.references } in
    let w : Wider x.fixed y.fixed = record { lists = no_list_shorter s y.fixed.settings (one_type s t); named = as_named x.fixed.accounts x.fixed.accounts (λ id a e. e); heard = λ b to k. sym (hears_by_teams b s y.fixed.settings refl to) ∙ k } in
    widened x (s.types ++ t ∷ []) s.languages s.problems s.groups s.teams x.fixed.accounts w h (has_settings y valid) (parts x h).accounts

pub adding_language : (x : ContestState) (l : Language) → is_valid x ≡ true → is_addable x (NewLanguage l) ≡ true → is_valid (add x (NewLanguage l)) ≡ true
adding_language x l h a =
    let s = x.fixed.settings in
    let v = is_settings x (parts x h).settings in
    let k = takes (λ (r : Language). r.id) same_language s.languages l LANGUAGES v.languages (new_row (id_match_of (λ (r : Language). r.id) same_language s.languages l) (nat_le LANGUAGES (length s.languages)) a) in
    let y = with_lists x s.types (s.languages ++ l ∷ []) s.problems s.groups s.teams x.fixed.accounts in
    let valid : IsValid y.fixed.settings = record { head = v.head; types = v.types; few_types = v.few_types; languages = k.different; few_languages = k.few; problems = v.problems; labels = v.labels; few_problems = v.few_problems; groups = v.groups; few_groups = v.few_groups; teams = v.teams; few_teams = v.few_teams; references = v.references } in
    let w : Wider x.fixed y.fixed = record { lists = no_list_shorter s y.fixed.settings (one_language s l); named = as_named x.fixed.accounts x.fixed.accounts (λ id a e. e); heard = λ b to k. sym (hears_by_teams b s y.fixed.settings refl to) ∙ k } in
    widened x s.types (s.languages ++ l ∷ []) s.problems s.groups s.teams x.fixed.accounts w h (has_settings y valid) (parts x h).accounts

pub adding_group : (x : ContestState) (g : Group) → is_valid x ≡ true → is_addable x (NewGroup g) ≡ true → is_valid (add x (NewGroup g)) ≡ true
adding_group x g h a =
    let s = x.fixed.settings in
    let v = is_settings x (parts x h).settings in
    let k = takes (λ (r : Group). r.id) same_group s.groups g GROUPS v.groups (new_row (id_match_of (λ (r : Group). r.id) same_group s.groups g) (nat_le GROUPS (length s.groups)) a) in
    let y = with_lists x s.types s.languages s.problems (s.groups ++ g ∷ []) s.teams x.fixed.accounts in
    let valid : IsValid y.fixed.settings = record { head = v.head; types = v.types; few_types = v.few_types; languages = v.languages; few_languages = v.few_languages; problems = v.problems; labels = v.labels; few_problems = v.few_problems; groups = k.different; few_groups = k.few; teams = v.teams; few_teams = v.few_teams; references = refers_wider (length s.groups) (length (s.groups ++ g ∷ [])) (longer s.groups g) s.teams v.references } in
    let w : Wider x.fixed y.fixed = record { lists = no_list_shorter s y.fixed.settings (one_group s g); named = as_named x.fixed.accounts x.fixed.accounts (λ id a e. e); heard = λ b to k. sym (hears_by_teams b s y.fixed.settings refl to) ∙ k } in
    widened x s.types s.languages s.problems (s.groups ++ g ∷ []) s.teams x.fixed.accounts w h (has_settings y valid) (parts x h).accounts

-- a row with a second key that is added is new, that key too
record IsNewKeyed (found : IdMatch) (held full : Bool) : Type 0 where
  row : IsNewRow found full
  key : held ≡ false

new_keyed : (found : IdMatch) (held full : Bool) → is_added (keyed_addition found held full) ≡ true → IsNewKeyed found held full
new_keyed New true full h = absurd (false≢true h)
new_keyed New false full h = record { row = new_row New full h; key = refl }
new_keyed Same held full h = absurd (false≢true h)
new_keyed Other held full h = absurd (false≢true h)

pub adding_problem : (x : ContestState) (p : Problem) → is_valid x ≡ true → is_addable x (NewProblem p) ≡ true → is_valid (add x (NewProblem p)) ≡ true
adding_problem x p h a =
    let s = x.fixed.settings in
    let v = is_settings x (parts x h).settings in
    let n = new_keyed (id_match_of (λ (r : Problem). r.id) same_problem s.problems p) (is_among (labels_of s.problems) p.label) (nat_le PROBLEMS (length s.problems)) a in
    let k = takes (λ (r : Problem). r.id) same_problem s.problems p PROBLEMS v.problems n.row in
    let y = with_lists x s.types s.languages (s.problems ++ p ∷ []) s.groups s.teams x.fixed.accounts in
    let valid : IsValid y.fixed.settings = record { head = v.head; types = v.types; few_types = v.few_types; languages = v.languages; few_languages = v.few_languages; problems = k.different; labels = labels_push s.problems p v.labels n.key; few_problems = k.few; groups = v.groups; few_groups = v.few_groups; teams = v.teams; few_teams = v.few_teams; references = v.references } in
    let w : Wider x.fixed y.fixed = record { lists = no_list_shorter s y.fixed.settings (one_problem s p); named = as_named x.fixed.accounts x.fixed.accounts (λ id a e. e); heard = λ b to k. sym (hears_by_teams b s y.fixed.settings refl to) ∙ k } in
    widened x s.types s.languages (s.problems ++ p ∷ []) s.groups s.teams x.fixed.accounts w h (has_settings y valid) (parts x h).accounts

-- what is added by a second test passes the first
row_parts : (b : Bool) (answer : Result Bool Cause) (cause : Cause) → is_added (if b then answer else Err cause) ≡ true → (b ≡ true) × (is_added answer ≡ true)
row_parts true answer cause h = (refl, h)
row_parts false answer cause h = absurd (false≢true h)

pub adding_team : (x : ContestState) (t : Team) → is_valid x ≡ true → is_addable x (NewTeam t) ≡ true → is_valid (add x (NewTeam t)) ≡ true
adding_team x t h a =
    let s = x.fixed.settings in
    let v = is_settings x (parts x h).settings in
    let both = row_parts (refers (length s.groups) t) (addition (λ (r : Team). r.id) same_team TEAMS s.teams t) UnknownReference a in
    let k = takes (λ (r : Team). r.id) same_team s.teams t TEAMS v.teams (new_row (id_match_of (λ (r : Team). r.id) same_team s.teams t) (nat_le TEAMS (length s.teams)) both.1) in
    let y = with_lists x s.types s.languages s.problems s.groups (s.teams ++ t ∷ []) x.fixed.accounts in
    let valid : IsValid y.fixed.settings = record { head = v.head; types = v.types; few_types = v.few_types; languages = v.languages; few_languages = v.few_languages; problems = v.problems; labels = v.labels; few_problems = v.few_problems; groups = v.groups; few_groups = v.few_groups; teams = k.different; few_teams = k.few; references = all_push (refers (length s.groups)) s.teams t v.references both.0 } in
    let w : Wider x.fixed y.fixed = record { lists = no_list_shorter s y.fixed.settings (one_team s t); named = as_named x.fixed.accounts x.fixed.accounts (λ id a e. e); heard = hears_with_team s t } in
    let was = four (list_all (is_valid_account s) x.fixed.accounts) (are_different (map (λ (b : Account). b.id) x.fixed.accounts)) (are_different (map (λ (b : Account). b.digest) x.fixed.accounts)) (nat_le (length x.fixed.accounts) ACCOUNTS) (parts x h).accounts in
    let accounts = all_four _ _ _ _ (all_wider (is_valid_account s) (is_valid_account y.fixed.settings) (account_wider s y.fixed.settings (longer s.teams t)) x.fixed.accounts was.first) was.second was.third was.fourth in
    widened x s.types s.languages s.problems s.groups (s.teams ++ t ∷ []) x.fixed.accounts w h (has_settings y valid) accounts

within_one : (n m most : ℕ) → m ≤ n + 1 → nat_le most n ≡ false → nat_le m most ≡ true
within_one n m most l h = grind (arith, nat_tests)

pub adding_account : (x : ContestState) (a : Account) → is_valid x ≡ true → is_addable x (NewAccount a) ≡ true → is_valid (add x (NewAccount a)) ≡ true
adding_account x a h may =
    let s = x.fixed.settings in
    let accounts = x.fixed.accounts in
    let ids = λ (b : Account). b.id in
    let digests = λ (b : Account). b.digest in
    let both = row_parts (has_valid_role s a.role) (keyed_addition (id_match_of ids same_account accounts a) (is_among (map digests accounts) a.digest) (nat_le ACCOUNTS (length accounts))) UnknownReference (and_right (is_valid_account s a) _ may) in
    let n = new_keyed (id_match_of ids same_account accounts a) (is_among (map digests accounts) a.digest) (nat_le ACCOUNTS (length accounts)) both.1 in
    let new : is_among (map ids accounts) a.id ≡ false = not_among a.id 0 (map ids accounts) (place_of_new ids same_account accounts a n.row.new) in
    let y = with_lists x s.types s.languages s.problems s.groups s.teams (with_account accounts a) in
    let w : Wider x.fixed y.fixed = record { lists = no_list_shorter s y.fixed.settings (same_lists s); named = as_named accounts (with_account accounts a) (named_still accounts a new); heard = λ b to k. sym (hears_by_teams b s y.fixed.settings refl to) ∙ k } in
    let was = four (list_all (is_valid_account s) accounts) (are_different (map ids accounts)) (are_different (map digests accounts)) (nat_le (length accounts) ACCOUNTS) (parts x h).accounts in
    let valid = all_four _ _ _ _ (all_accounts (is_valid_account s) accounts a was.first (and_left _ _ may)) (accounts_different ids accounts a was.second new) (accounts_different digests accounts a was.third n.key)
    (within_one (length accounts) (length (with_account accounts a)) ACCOUNTS (one_longer accounts a) n.row.room) in
    widened x s.types s.languages s.problems s.groups s.teams (with_account accounts a) w h (parts x h).settings valid
