-- Worked examples: contests that differ in something that an audience may learn aren't alike for it.
use Rattle.std.proofs.Common.{◌≡◌, ℕ, ◌+◌, List, [], ◌∷◌, ◌++◌, refl, Option, Some, None, true, false, length}
use Rattle.std.specs.Prelude.{codes, ◌==◌, ◌&&◌, is_some, is_none}
use Rattle.std.specs.List.{list_any, list_all}
use Rattle.std.specs.Option.{option_map_or}
use Rattle.contest_types.specs.Accounts.{with_account}
use Rattle.contest_types.specs.State.{FixedPart, ContestState}
use Rattle.contest_types.specs.Sight.{Judgement}
use Rattle.contest_types.specs.Alike.{Alike}
use Rattle.contest_types.specs.Valid.{is_valid}
use Rattle.contest_types.specs.declared.account.Role.TheVariants as role
use Rattle.contest_types.specs.declared.submission.Submission.{Submission}
use Rattle.contest_types.specs.declared.submission.Release.{Release}
use Rattle.contest_types.specs.declared.clarification.Clarification.{Clarification}
use Rattle.contest_types.specs.declared.audience.Audience.{Audience}
use Rattle.contest_types.specs.declared.audience.Audience.TheVariants as audience
use Rattle.contest_types.specs.declared.clarification.Addressee.TheVariants as addressee
use Rattle.contest_types.proofs.AlikeLemmas.{some_own, some_open, unlike_teams, unlike_talk, unlike_fixed}
use Rattle.contest_types.proofs.ExampleContest.{minutes, hours, settings, accounts, account_for, accepted, wrong, submitted, released, asked, answered, announced}
use Rattle.contest_types.proofs.ExampleTalk.{base, submissions, clarifications, own_submission, other_submission, frozen_submission, hidden_submission, own_release, other_release}

-- the first team, which asks
abbrev me : Audience
me = audience.Team 1

-- with another own submission, or another of the second team
abbrev with_own : Submission → ContestState
with_own s = record base { submissions = s ∷ other_submission ∷ frozen_submission ∷ hidden_submission ∷ [] }

abbrev with_more : Submission → ContestState
with_more s = record base { submissions = submissions ++ s ∷ [] }

own_file_told : Alike me base (with_own (record own_submission { file = 80 ∷ [] })) → ⊥
own_file_told = unlike_teams me base (with_own (record own_submission { file = 80 ∷ [] })) 0 (some_own (λ r. length r.submission.file == 0)) refl refl

own_time_told : Alike me base (with_own (record own_submission { time = minutes 9 })) → ⊥
own_time_told = unlike_teams me base (with_own (record own_submission { time = minutes 9 })) 0 (some_own (λ r. r.submission.time == minutes 10)) refl refl

own_problem_told : Alike me base (with_own (record own_submission { problem = 1 })) → ⊥
own_problem_told = unlike_teams me base (with_own (record own_submission { problem = 1 })) 0 (some_own (λ r. r.submission.problem == 0)) refl refl

own_language_told : Alike me base (with_own (record own_submission { language = 1 })) → ⊥
own_language_told = unlike_teams me base (with_own (record own_submission { language = 1 })) 0 (some_own (λ r. r.submission.language == 0)) refl refl

-- one more own submission, and one more of another team
own_number_told : Alike me (with_more (submitted 0 2 (minutes 30) 0)) base → ⊥
own_number_told = unlike_teams me (with_more (submitted 0 2 (minutes 30) 0)) base 0 (some_own (λ r. r.submission.number == 2)) refl refl

other_number_told : Alike me (with_more (submitted 2 1 (minutes 30) 0)) base → ⊥
other_number_told = unlike_teams me (with_more (submitted 2 1 (minutes 30) 0)) base 2 (some_open (λ r. r.number == 1)) refl refl

own_key_told : Alike me base (with_own (record own_submission { key = Some (codes "k1") })) → ⊥
own_key_told = unlike_teams me base (with_own (record own_submission { key = Some (codes "k1") })) 0 (some_own (λ r. is_none r.submission.key)) refl refl

own_entry_point_told : Alike me base (with_own (record own_submission { entry_point = Some (codes "Main") })) → ⊥
own_entry_point_told = unlike_teams me base (with_own (record own_submission { entry_point = Some (codes "Main") })) 0 (some_own (λ r. is_none r.submission.entry_point)) refl refl

abbrev with_releases : List Release → ContestState
with_releases releases = record base { releases = releases }

own_verdict_told : Alike me base (with_releases (record own_release { verdict = accepted } ∷ other_release ∷ [])) → ⊥
own_verdict_told = unlike_teams me base (with_releases (record own_release { verdict = accepted } ∷ other_release ∷ [])) 0 (some_own (λ r. list_any (λ (j : Judgement). j.verdict == wrong) r.judgements)) refl refl

own_release_told : Alike me base (with_releases (other_release ∷ [])) → ⊥
own_release_told = unlike_teams me base (with_releases (other_release ∷ [])) 0 (some_own (λ r. length r.judgements == 1)) refl refl

own_round_told : Alike me base (with_releases (own_release ∷ record own_release { round = 2 } ∷ other_release ∷ [])) → ⊥
own_round_told = unlike_teams me base (with_releases (own_release ∷ record own_release { round = 2 } ∷ other_release ∷ [])) 0 (some_own (λ r. length r.judgements == 1)) refl refl

own_release_time_told : Alike me base (with_releases (record own_release { time = minutes 12 } ∷ other_release ∷ [])) → ⊥
own_release_time_told = unlike_teams me base (with_releases (record own_release { time = minutes 12 } ∷ other_release ∷ [])) 0 (some_own (λ r. list_any (λ (j : Judgement). j.time == minutes 11) r.judgements)) refl refl

-- in the freeze too: what is released on an own frozen submission is told
abbrev in_freeze : List Release → ContestState
in_freeze releases = record base { submissions = submissions ++ submitted 0 2 (hours 4 + minutes 5) 1 ∷ []; releases = releases }

own_frozen_release_told : Alike me (in_freeze (own_release ∷ [])) (in_freeze (own_release ∷ released 0 2 1 accepted (hours 4 + minutes 9) ∷ [])) → ⊥
own_frozen_release_told = unlike_teams me (in_freeze (own_release ∷ [])) (in_freeze (own_release ∷ released 0 2 1 accepted (hours 4 + minutes 9) ∷ [])) 0 (some_own (λ r. (r.submission.number == 2) && (length r.judgements == 0))) refl refl

abbrev with_other : Submission → ContestState
with_other s = record base { submissions = own_submission ∷ s ∷ frozen_submission ∷ hidden_submission ∷ [] }

other_time_told : Alike me base (with_other (record other_submission { time = minutes 21 })) → ⊥
other_time_told = unlike_teams me base (with_other (record other_submission { time = minutes 21 })) 1 (some_open (λ r. r.time == minutes 20)) refl refl

other_problem_told : Alike me base (with_other (record other_submission { problem = 1 })) → ⊥
other_problem_told = unlike_teams me base (with_other (record other_submission { problem = 1 })) 1 (some_open (λ r. r.problem == 0)) refl refl

other_language_told : Alike me base (with_other (record other_submission { language = 1 })) → ⊥
other_language_told = unlike_teams me base (with_other (record other_submission { language = 1 })) 1 (some_open (λ r. (r.number == 1) && (r.language == 0))) refl refl

-- a frozen submission is there, though its verdict isn't
frozen_submission_told : Alike me base (record base { submissions = own_submission ∷ other_submission ∷ hidden_submission ∷ [] }) → ⊥
frozen_submission_told = unlike_teams me base (record base { submissions = own_submission ∷ other_submission ∷ hidden_submission ∷ [] }) 1 (some_open (λ r. r.number == 2)) refl refl

-- a verdict that is released in the freeze on what was submitted before it
other_release_told : Alike me base (with_releases (own_release ∷ [])) → ⊥
other_release_told = unlike_teams me base (with_releases (own_release ∷ [])) 1 (some_open (λ r. length r.judgements == 1)) refl refl

other_verdict_told : Alike me base (with_releases (own_release ∷ record other_release { verdict = wrong } ∷ [])) → ⊥
other_verdict_told = unlike_teams me base (with_releases (own_release ∷ record other_release { verdict = wrong } ∷ [])) 1 (some_open (λ r. list_any (λ (j : Judgement). j.verdict == accepted) r.judgements)) refl refl

other_release_time_told : Alike me base (with_releases (own_release ∷ record other_release { time = hours 5 } ∷ [])) → ⊥
other_release_time_told = unlike_teams me base (with_releases (own_release ∷ record other_release { time = hours 5 } ∷ [])) 1 (some_open (λ r. list_any (λ (j : Judgement). j.time == hours 4 + minutes 7) r.judgements)) refl refl

other_round_told : Alike me base (with_releases (own_release ∷ other_release ∷ record other_release { round = 2 } ∷ [])) → ⊥
other_round_told = unlike_teams me base (with_releases (own_release ∷ other_release ∷ record other_release { round = 2 } ∷ [])) 1 (some_open (λ r. length r.judgements == 1)) refl refl

-- with another request, another answer or another announcement
abbrev with_talk : (request answer announcement : Clarification) → ContestState
with_talk request answer announcement = record base { clarifications = request ∷ answer ∷ announcement ∷ [] }

abbrev request : Clarification
request = asked 0 1 (minutes 40)

abbrev answer : Clarification
answer = answered 0 2 (minutes 50)

abbrev announcement : Clarification
announcement = announced 1 (minutes 60) None

own_request_key_told : Alike me base (with_talk (record request { key = Some (codes "k1") }) answer announcement) → ⊥
own_request_key_told = unlike_talk me base (with_talk (record request { key = Some (codes "k1") }) answer announcement) (addressee.Team 0) (λ c. (c.number == 1) && is_none c.key) refl refl

answer_text_told : Alike me base (with_talk request (record answer { text = codes "No" }) announcement) → ⊥
answer_text_told = unlike_talk me base (with_talk request (record answer { text = codes "No" }) announcement) (addressee.Team 0) (λ c. length c.text == 3) refl refl

answer_reply_told : Alike me base (with_talk request (record answer { reply = None }) announcement) → ⊥
answer_reply_told = unlike_talk me base (with_talk request (record answer { reply = None }) announcement) (addressee.Team 0) (λ c. is_some c.reply) refl refl

direction_told : Alike me base (with_talk request (record answer { from_jury = false; account = codes "a1" }) announcement) → ⊥
direction_told = unlike_talk me base (with_talk request (record answer { from_jury = false; account = codes "a1" }) announcement) (addressee.Team 0) (λ c. c.from_jury) refl refl

announcement_text_told : Alike audience.Public base (with_talk request answer (record announcement { text = codes "Tea." })) → ⊥
announcement_text_told = unlike_talk audience.Public base (with_talk request answer (record announcement { text = codes "Tea." })) addressee.All (λ c. length c.text == 6) refl refl

announcement_time_told : Alike me base (with_talk request answer (record announcement { time = 7 })) → ⊥
announcement_time_told = unlike_talk me base (with_talk request answer (record announcement { time = 7 })) addressee.All (λ c. c.time == minutes 60) refl refl

announcement_problem_told : Alike me base (with_talk request answer (record announcement { problem = Some 1 })) → ⊥
announcement_problem_told = unlike_talk me base (with_talk request answer (record announcement { problem = Some 1 })) addressee.All (λ c. is_none c.problem) refl refl

-- what answers a question of the team's own tells it so
reply_to_own_told : Alike me base (with_talk request answer (record announcement { reply = Some (record { addressee = addressee.Team 0; number = 1 }) })) → ⊥
reply_to_own_told = unlike_talk me base (with_talk request answer (record announcement { reply = Some (record { addressee = addressee.Team 0; number = 1 }) })) addressee.All (λ c. is_none c.reply) refl refl

-- the settings, the accounts and the marks
abbrev with_fixed : FixedPart → ContestState
with_fixed f = record base { fixed = f }

settings_told : Alike me base (with_fixed (record base.fixed { settings = record settings { head = record settings.head { penalty_time = 10 } } })) → ⊥
settings_told = unlike_fixed me base (with_fixed (record base.fixed { settings = record settings { head = record settings.head { penalty_time = 10 } } })) (λ f. f.settings.head.penalty_time == 20) refl refl

accounts_told : Alike me base (with_fixed (record base.fixed { accounts = with_account accounts (account_for (codes "b1") role.Judge) })) → ⊥
accounts_told = unlike_fixed me base (with_fixed (record base.fixed { accounts = with_account accounts (account_for (codes "b1") role.Judge) })) (λ f. length f.accounts == 6) refl refl

abbrev with_marks : Option ℕ → Option ℕ → ContestState
with_marks thaw finalized = with_fixed (record base.fixed { marks = record { start = Some 0; thaw = thaw; finalized = finalized } })

finalized_told : Alike me base (with_marks None (Some (hours 6))) → ⊥
finalized_told = unlike_fixed me base (with_marks None (Some (hours 6))) (λ f. is_none f.marks.finalized) refl refl

thaw_told : Alike me base (with_marks (Some (hours 6)) None) → ⊥
thaw_told = unlike_fixed me base (with_marks (Some (hours 6)) None) (λ f. is_none f.marks.thaw) refl refl

start_told : Alike me base (with_fixed (record base.fixed { marks = record { start = Some 1; thaw = None; finalized = None } })) → ⊥
start_told = unlike_fixed me base (with_fixed (record base.fixed { marks = record { start = Some 1; thaw = None; finalized = None } })) (λ f. option_map_or (λ start. start == 0) f.marks.start false) refl refl

-- one clarification more, and another number with it
more_talk_told : Alike me (record base { clarifications = clarifications ++ announced 2 (minutes 61) None ∷ [] }) base → ⊥
more_talk_told = unlike_talk me (record base { clarifications = clarifications ++ announced 2 (minutes 61) None ∷ [] }) base addressee.All (λ c. c.number == 2) refl refl

-- to the hidden team its own submission and verdict are told
abbrev staff : Audience
staff = audience.Team 4

staff_verdict_told : Alike staff base (with_releases (own_release ∷ other_release ∷ released 3 1 1 accepted (minutes 31) ∷ [])) → ⊥
staff_verdict_told = unlike_teams staff base (with_releases (own_release ∷ other_release ∷ released 3 1 1 accepted (minutes 31) ∷ [])) 3 (some_own (λ r. length r.judgements == 0)) refl refl

staff_file_told : Alike staff base (record base { submissions = own_submission ∷ other_submission ∷ frozen_submission ∷ record hidden_submission { file = 80 ∷ [] } ∷ [] }) → ⊥
staff_file_told = unlike_teams staff base (record base { submissions = own_submission ∷ other_submission ∷ frozen_submission ∷ record hidden_submission { file = 80 ∷ [] } ∷ [] }) 3 (some_own (λ r. length r.submission.file == 0)) refl refl

-- to the public a verdict on what was submitted before the freeze is told
public_verdict_told : Alike audience.Public base (with_releases (own_release ∷ [])) → ⊥
public_verdict_told = unlike_teams audience.Public base (with_releases (own_release ∷ [])) 1 (some_open (λ r. length r.judgements == 1)) refl refl

-- all of these contests are valid: `Alike` tells valid contests apart
unlike_are_valid : list_all is_valid (with_own (record own_submission { file = 80 ∷ [] }) ∷ with_own (record own_submission { key = Some (codes "k1") }) ∷ with_own (record own_submission { entry_point = Some (codes "Main") }) ∷ with_own (record own_submission { time = minutes 9 }) ∷ with_own (record own_submission { problem = 1 }) ∷ with_own (record own_submission { language = 1 }) ∷ with_more (submitted 0 2 (minutes 30) 0) ∷ with_more (submitted 2 1 (minutes 30) 0) ∷ with_releases (record own_release { verdict = accepted } ∷ other_release ∷ []) ∷ with_releases (other_release ∷ []) ∷ with_releases (own_release ∷ record own_release { round = 2 } ∷ other_release ∷ []) ∷ in_freeze (own_release ∷ released 0 2 1 accepted (hours 4 + minutes 9) ∷ []) ∷ []) ≡ true
unlike_are_valid = refl

others_are_valid : list_all is_valid (with_other (record other_submission { time = minutes 21 }) ∷ with_other (record other_submission { problem = 1 }) ∷ with_other (record other_submission { language = 1 }) ∷ with_releases (own_release ∷ []) ∷ with_releases (own_release ∷ record other_release { verdict = wrong } ∷ []) ∷ with_releases (own_release ∷ record other_release { time = hours 5 } ∷ []) ∷ with_releases (own_release ∷ other_release ∷ record other_release { round = 2 } ∷ []) ∷ with_releases (own_release ∷ other_release ∷ released 3 1 1 accepted (minutes 31) ∷ []) ∷ []) ≡ true
others_are_valid = refl

talks_are_valid : list_all is_valid (with_talk (record request { key = Some (codes "k1") }) answer announcement ∷ with_talk request (record answer { text = codes "No" }) announcement ∷ with_talk request (record answer { reply = None }) announcement ∷ with_talk request (record answer { from_jury = false; account = codes "a1" }) announcement ∷ with_talk request answer (record announcement { text = codes "Tea." }) ∷ with_talk request answer (record announcement { time = 7 }) ∷ with_talk request answer (record announcement { problem = Some 1 }) ∷ with_talk request answer (record announcement { reply = Some (record { addressee = addressee.Team 0; number = 1 }) }) ∷ []) ≡ true
talks_are_valid = refl

fixed_are_valid : list_all is_valid (with_marks None (Some (hours 6)) ∷ with_marks (Some (hours 6)) None ∷ with_fixed (record base.fixed { accounts = with_account accounts (account_for (codes "b1") role.Judge) }) ∷ with_fixed (record base.fixed { settings = record settings { head = record settings.head { penalty_time = 10 } } }) ∷ []) ≡ true
fixed_are_valid = refl

others_too_are_valid : list_all is_valid (with_releases (record own_release { time = minutes 12 } ∷ other_release ∷ []) ∷ in_freeze (own_release ∷ []) ∷ record base { submissions = own_submission ∷ other_submission ∷ hidden_submission ∷ [] } ∷ with_fixed (record base.fixed { marks = record { start = Some 1; thaw = None; finalized = None } }) ∷ record base { clarifications = clarifications ++ announced 2 (minutes 61) None ∷ [] } ∷ record base { submissions = own_submission ∷ other_submission ∷ frozen_submission ∷ record hidden_submission { file = 80 ∷ [] } ∷ [] } ∷ []) ≡ true
others_too_are_valid = refl
