-- A small contest as rows, computed: one row of each table, and what is read of some.
use Rattle.std.proofs.Common.{◌≡◌, ℕ, [], ◌∷◌, false, get_or, take, refl}
use Rattle.std.specs.Prelude.{Some, None, codes, is_some}
use Rattle.std.specs.List.{list_any}
use Rattle.std.specs.Fmt.{digits}
use Rattle.sqlite_value.specs.declared.value.Value.TheVariants.{Null, Text, Blob}
use Rattle.sqlite_value.specs.Order.{Row}
use Rattle.contest_types.specs.State.{ContestState}
use Rattle.contest_types.specs.declared.clarification.Addressee.TheVariants as addressee
use Rattle.contest_types.specs.declared.proposal.Proposer.TheVariants as proposer
use Rattle.contest_types.specs.declared.rejudging.MemberState.TheVariants as member
use Rattle.contest_types.specs.declared.rejudging.RejudgingState.TheVariants as state
use Rattle.contest_types.specs.declared.submission.Submission.{Submission}
use Rattle.contest_types.proofs.ExampleContest.{empty, settings, minutes, accepted, wrong, submitted, released, proposed, asked, answered, announced, rejudged}
use Rattle.contest_store_rows.specs.Cells.{number}
use Rattle.contest_store_rows.specs.Clarifications.{addressee_of}
use Rattle.contest_store_rows.specs.Proposals.{proposal_in}
use Rattle.contest_store_rows.specs.References.{reference_of}
use Rattle.contest_store_rows.specs.Rejudgings.{member_in, own_rows}
use Rattle.contest_store_rows.specs.Releases.{release_in}
use Rattle.contest_store_rows.specs.Submissions.{submission_in}
use Rattle.contest_store_rows.specs.Tables.{rows_in_version, rows_of}
use Rattle.contest_store_rows.specs.declared.versions.Version.TheVariants.{First}

-- the second team's first submission, of two bytes in Java with an entry point and a key
abbrev java : Submission
java = record (submitted 1 1 (minutes 20) 1) { language = 1; entry_point = Some (codes "Main"); file = 123 ∷ 125 ∷ []; key = Some (codes "k7") }

abbrev demo : ContestState
demo = record empty {
  submissions = java ∷ [];
  proposals = proposed 1 1 wrong (minutes 21) ∷ record (proposed 1 1 accepted (minutes 22)) { proposer = proposer.Import } ∷ [];
  releases = released 1 1 1 wrong (minutes 23) ∷ [];
  clarifications = asked 0 1 (minutes 40) ∷ answered 0 2 (minutes 50) ∷ announced 1 (minutes 60) None ∷ [];
  rejudgings = rejudged 1 1 accepted state.Applied ∷ [];
}

desk_rows : (rows_of demo).desk ≡ (number 1 ∷ number 2 ∷ []) ∷ []
desk_rows = refl

-- the start is set, and neither the thaw nor the final results
contest_store_rows : (rows_of demo).contest ≡ (number 1 ∷ Text (codes "demo") ∷ Text (codes "Demo Cup") ∷ number 18000000 ∷ number 3600000 ∷ number 20 ∷ number 0 ∷ number 4 ∷ number 4 ∷ number 4 ∷ number 0 ∷ Null ∷ Null ∷ []) ∷ []
contest_store_rows = refl

-- a type, a language and a team among the items
abbrev item_at : ℕ → Row
item_at at = get_or (rows_of demo).items at []

first_type : item_at 0 ≡ number 0 ∷ number 1 ∷ Text (codes "AC") ∷ Text (codes "correct") ∷ Text [] ∷ number 0 ∷ number 1 ∷ number 0 ∷ Text [] ∷ []
first_type = refl

second_language : item_at 4 ≡ number 1 ∷ number 2 ∷ Text (codes "java") ∷ Text (codes "Java") ∷ Text [] ∷ number 0 ∷ number 1 ∷ number 0 ∷ Text [] ∷ []
second_language = refl

hidden_team : item_at 10 ≡ number 4 ∷ number 4 ∷ Text (codes "t9") ∷ Text (codes "Staff") ∷ Text [] ∷ number 0 ∷ number 1 ∷ number 0 ∷ Text [] ∷ []
hidden_team = refl

first_account : get_or (rows_of demo).accounts 0 [] ≡ Text (codes "a1") ∷ number 0 ∷ Text (codes "t1") ∷ Blob (codes "a1") ∷ []
first_account = refl

judge : get_or (rows_of demo).accounts 4 [] ≡ Text (codes "j1") ∷ number 1 ∷ Null ∷ Blob (codes "j1") ∷ []
judge = refl

submission_rows : (rows_of demo).submissions ≡ (number 1 ∷ number 2 ∷ number 1 ∷ number 1200000 ∷ Text (codes "b") ∷ Text (codes "java") ∷ Text (codes "Main") ∷ Blob (123 ∷ 125 ∷ []) ∷ Text (codes "k7") ∷ []) ∷ []
submission_rows = refl

-- an account's proposal, and one of a file of verdicts
proposal_rows : (rows_of demo).proposals ≡
    (number 1 ∷ number 2 ∷ number 1 ∷ Text (codes "WA") ∷ Text (codes "j1") ∷ number 1260000 ∷ [])
    ∷ (number 2 ∷ number 2 ∷ number 1 ∷ Text (codes "AC") ∷ Text (codes "import") ∷ number 1320000 ∷ []) ∷ []
proposal_rows = refl

release_rows : (rows_of demo).releases ≡ (number 1 ∷ number 2 ∷ number 1 ∷ number 1 ∷ Text (codes "WA") ∷ number 1380000 ∷ []) ∷ []
release_rows = refl

rejudging_rows : (rows_of demo).rejudgings ≡ (number 1 ∷ Text (codes "limits") ∷ number 1 ∷ []) ∷ []
rejudging_rows = refl

member_rows : (rows_of demo).members ≡ (number 1 ∷ number 1 ∷ number 2 ∷ number 1 ∷ Text (codes "AC") ∷ Null ∷ number 1 ∷ []) ∷ []
member_rows = refl

-- a team asks, is answered, and all are told
clarification_rows : (rows_of demo).notices ≡
    (number 1 ∷ number 1 ∷ number 1 ∷ number 1 ∷ number 0 ∷ Text (codes "a1") ∷ Null ∷ Null ∷ Text (codes "Why?") ∷ number 2400000 ∷ Null ∷ [])
    ∷ (number 2 ∷ number 1 ∷ number 1 ∷ number 2 ∷ number 1 ∷ Text (codes "j1") ∷ Null ∷ Text (codes "c1-1") ∷ Text (codes "So.") ∷ number 3000000 ∷ Null ∷ [])
    ∷ (number 3 ∷ number 0 ∷ number 0 ∷ number 1 ∷ number 1 ∷ Text (codes "j1") ∷ Null ∷ Null ∷ Text (codes "Lunch.") ∷ number 3600000 ∷ Null ∷ []) ∷ []
unfolding digits
clarification_rows = refl

-- where the first schema kept them there is none
no_first_rows : (rows_of demo).clarifications ≡ []
no_first_rows = refl

-- a row of the first schema
first_rows : take 1 (rows_in_version First demo).clarifications ≡ (number 1 ∷ number 1 ∷ number 1 ∷ number 0 ∷ Text (codes "a1") ∷ Null ∷ Null ∷ Text (codes "Why?") ∷ number 2400000 ∷ Null ∷ []) ∷ []
first_rows = refl

-- what a kind and a number say
of_all_kinds : addressee_of 0 0 ≡ addressee.All
of_all_kinds = refl

of_a_team : addressee_of 1 12 ≡ addressee.Team 11
of_a_team = refl

of_a_group : addressee_of 2 3 ≡ addressee.Group 2
of_a_group = refl

-- a row that has another number, or a cell more, is none
wrong_number : release_in settings 2 (number 1 ∷ number 2 ∷ number 1 ∷ number 1 ∷ Text (codes "WA") ∷ number 1380000 ∷ []) ≡ None
wrong_number = refl

cell_too_many : release_in settings 1 (number 1 ∷ number 2 ∷ number 1 ∷ number 1 ∷ Text (codes "WA") ∷ number 1380000 ∷ Null ∷ []) ≡ None
cell_too_many = refl

-- no team has number 0, and no type the id
team_zero : release_in settings 1 (number 1 ∷ number 0 ∷ number 1 ∷ number 1 ∷ Text (codes "WA") ∷ number 1380000 ∷ []) ≡ None
team_zero = refl

no_such_type : proposal_in settings 1 (number 1 ∷ number 2 ∷ number 1 ∷ Text (codes "RE") ∷ Text (codes "j1") ∷ number 1260000 ∷ []) ≡ None
no_such_type = refl

-- a loaded row: the file is not in it, and one that is a text is none
loaded : submission_in settings 1 (number 1 ∷ number 2 ∷ number 1 ∷ number 1200000 ∷ Text (codes "b") ∷ Text (codes "java") ∷ Null ∷ Text (codes "blob") ∷ number 2 ∷ Text (codes "k7") ∷ [])
    ≡ Some (record java { entry_point = None; file = [] })
loaded = refl

no_blob : submission_in settings 1 (number 1 ∷ number 2 ∷ number 1 ∷ number 1200000 ∷ Text (codes "b") ∷ Text (codes "java") ∷ Null ∷ Text (codes "text") ∷ number 2 ∷ Text (codes "k7") ∷ []) ≡ None
no_blob = refl

-- the first member of the first rejudging, without a verdict; it is none of the second
abbrev member_of : ℕ → Row
member_of rejudging = number rejudging ∷ number 1 ∷ number 2 ∷ number 1 ∷ Null ∷ Null ∷ number 0 ∷ []

first_member : member_in settings 1 1 (member_of 1) ≡ Some (record { team = 1; number = 1; state = member.Empty })
first_member = refl

member_of_the_second : member_in settings 1 1 (member_of 2) ≡ None
member_of_the_second = refl

own_front : own_rows 1 (member_of 1 ∷ member_of 2 ∷ member_of 1 ∷ []) ≡ member_of 1 ∷ []
own_front = refl

-- ids of clarifications
of_team_12 : reference_of (codes "c12-3") ≡ Some (record { addressee = addressee.Team 11; number = 3 })
of_team_12 = refl

of_all : reference_of (codes "g-40") ≡ Some (record { addressee = addressee.All; number = 40 })
of_all = refl

of_group_3 : reference_of (codes "g3-40") ≡ Some (record { addressee = addressee.Group 2; number = 40 })
of_group_3 = refl

-- another form names no clarification
of_another_form : list_any (λ id. is_some (reference_of id)) (codes "g0-1" ∷ codes "c0-1" ∷ codes "c-1" ∷ codes "t1-1" ∷ codes "-1" ∷ codes "g-" ∷ codes "g-1x" ∷ codes "g" ∷ [] ∷ []) ≡ false
of_another_form = refl
