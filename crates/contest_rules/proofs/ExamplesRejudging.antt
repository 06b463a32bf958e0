-- Worked examples: rejudgings of the first team's first submission, and of others.
use Rattle.std.proofs.Common.{◌≡◌, ℕ, true, false, List, [], ◌∷◌, refl, Some, Result, Ok, Err}
use Rattle.std.specs.Prelude.{codes}
use Rattle.std.specs.Fmt.{digits}
use Rattle.contest_types.specs.State.{FixedPart}
use Rattle.contest_types.specs.declared.entry.Entry.TheVariants.{NewRelease, SetRejudging}
use Rattle.contest_types.specs.declared.rejudging.Member.{Member}
use Rattle.contest_types.specs.declared.rejudging.MemberState.{MemberState}
use Rattle.contest_types.specs.declared.rejudging.MemberState.TheVariants.{Empty, Proposed, Ready}
use Rattle.contest_types.specs.declared.rejudging.Rejudging.{Rejudging}
use Rattle.contest_types.specs.declared.rejudging.RejudgingState.{RejudgingState}
use Rattle.contest_types.specs.declared.rejudging.RejudgingState.TheVariants.{Applied, Cancelled, Open}
use Rattle.contest_types.specs.declared.submission.Release.{Release}
use Rattle.contest_types.specs.declared.submission.Submission.{Submission}
use Rattle.contest_types.proofs.ExampleContest.{accepted, empty, minutes, submitted, wrong}
use Rattle.contest_rules.specs.Opening.{open_rejudging}
use Rattle.contest_rules.specs.Rejudging.{applied_entries, apply_on, cancel_on, member_after, rejudge_on}
use Rattle.contest_rules.specs.declared.rejudging.MemberChange.{MemberChange}
use Rattle.contest_rules.specs.declared.rule_refusal.RuleRefusal.{RuleRefusal}
use Rattle.contest_rules.specs.declared.rule_refusal.RuleRefusal.TheVariants.{InRejudging, NotOpen, RejudgingClosed, RejudgingIncomplete, UnknownReference}

-- two submissions of the first team and one of the second; the last waits for its verdict
abbrev standing : List Submission
standing = submitted 0 1 (minutes 10) 0 ∷ submitted 0 2 (minutes 20) 0 ∷ submitted 1 1 (minutes 30) 0 ∷ []

abbrev released : (number round verdict : ℕ) → Release
released number round verdict = record { team = 0; number = number; round = round; verdict = verdict; time = minutes 40 }

abbrev judged : List Release
judged = released 1 1 accepted ∷ released 2 1 wrong ∷ []

abbrev member : (number : ℕ) → MemberState → Member
member number state = record { team = 0; number = number; state = state }

abbrev over : RejudgingState → List Member → Rejudging
over state members = record { reason = codes "data"; state = state; members = members }

abbrev opened : FixedPart → List Rejudging → List (List ℕ) → Result Rejudging RuleRefusal
opened f rs ids = open_rejudging f standing judged rs (record { reason = codes "data"; submissions = ids })

-- it is opened over what has a release
one_opened : opened empty.fixed [] (codes "s1-1" ∷ []) ≡ Ok (over Open (member 1 Empty ∷ []))
unfolding digits
one_opened = refl

-- its members stand as they were named
two_opened : opened empty.fixed [] (codes "s1-2" ∷ codes "s1-1" ∷ []) ≡ Ok (over Open (member 2 Empty ∷ member 1 Empty ∷ []))
unfolding digits
two_opened = refl

not_there : opened empty.fixed [] (codes "s1-1" ∷ codes "s1-3" ∷ []) ≡ Err UnknownReference
unfolding digits
not_there = refl

not_released : opened empty.fixed [] (codes "s1-1" ∷ codes "s2-1" ∷ []) ≡ Err RejudgingIncomplete
unfolding digits
not_released = refl

judged_again_already : opened empty.fixed (over Open (member 1 Empty ∷ []) ∷ []) (codes "s1-2" ∷ codes "s1-1" ∷ []) ≡ Err InRejudging
unfolding digits
judged_again_already = refl

-- one that is applied or cancelled frees its members
free_after_applied : opened empty.fixed (over Applied (member 1 (Ready wrong) ∷ []) ∷ over Cancelled (member 1 Empty ∷ []) ∷ []) (codes "s1-1" ∷ []) ≡ Ok (over Open (member 1 Empty ∷ []))
unfolding digits
free_after_applied = refl

-- of several refusals the first of the order is told
final : FixedPart
final = record empty.fixed { marks = record empty.fixed.marks { finalized = Some (minutes 300) } }

reference_before_clock : opened final [] (codes "s1-3" ∷ []) ≡ Err UnknownReference
unfolding digits
reference_before_clock = refl

clock_before_release : opened final [] (codes "s2-1" ∷ []) ≡ Err NotOpen
unfolding digits final
clock_before_release = refl

release_before_rejudging : opened empty.fixed (over Open (member 1 Empty ∷ []) ∷ []) (codes "s1-1" ∷ codes "s2-1" ∷ []) ≡ Err RejudgingIncomplete
unfolding digits
release_before_rejudging = refl

-- without verification each verdict stands
at_once : member_after false (codes "j1") wrong Empty ≡ Ready wrong
at_once = refl

at_once_again : member_after false (codes "j1") accepted (Ready wrong) ≡ Ready accepted
at_once_again = refl

-- with it another account has to give the same
first_word : member_after true (codes "j1") wrong Empty ≡ Proposed wrong (codes "j1")
first_word = refl

same_judge : member_after true (codes "j1") wrong (Proposed wrong (codes "j1")) ≡ Proposed wrong (codes "j1")
same_judge = refl

other_type : member_after true (codes "j2") accepted (Proposed wrong (codes "j1")) ≡ Proposed accepted (codes "j2")
other_type = refl

agreed : member_after true (codes "j1") accepted (Proposed accepted (codes "j2")) ≡ Ready accepted
agreed = refl

stays_ready : member_after true (codes "j2") accepted (Ready accepted) ≡ Ready accepted
stays_ready = refl

ready_no_more : member_after true (codes "j2") wrong (Ready accepted) ≡ Proposed wrong (codes "j2")
ready_no_more = refl

-- a verdict of account j1 for a submission of the first team
abbrev verdict_for : Rejudging → (number : ℕ) → Result MemberChange RuleRefusal
verdict_for r number = rejudge_on false r (Some (record { team = 0; number = number; verdict = wrong })) (codes "j1")

member_judged : verdict_for (over Open (member 2 Empty ∷ member 1 Empty ∷ [])) 1 ≡ Ok (record { place = 1; state = Ready wrong })
member_judged = refl

no_member : verdict_for (over Open (member 1 Empty ∷ [])) 2 ≡ Err UnknownReference
no_member = refl

closed : verdict_for (over Cancelled (member 1 Empty ∷ [])) 1 ≡ Err RejudgingClosed
closed = refl

no_member_before_closed : verdict_for (over Applied (member 1 (Ready wrong) ∷ [])) 2 ≡ Err UnknownReference
no_member_before_closed = refl

-- one that is applied releases a further verdict on each member
applied : apply_on judged (minutes 50) (over Open (member 1 (Ready wrong) ∷ [])) ≡ Ok (record { team = 0; number = 1; round = 2; verdict = wrong; time = minutes 50 } ∷ [])
applied = refl

-- what was cancelled in between leaves no gap
applied_later : apply_on judged (minutes 60) (over Open (member 2 (Ready accepted) ∷ [])) ≡ Ok (record { team = 0; number = 2; round = 2; verdict = accepted; time = minutes 60 } ∷ [])
applied_later = refl

not_ready : apply_on judged (minutes 50) (over Open (member 1 (Ready wrong) ∷ member 2 Empty ∷ [])) ≡ Err RejudgingIncomplete
not_ready = refl

only_proposed : apply_on judged (minutes 50) (over Open (member 1 (Proposed wrong (codes "j1")) ∷ [])) ≡ Err RejudgingIncomplete
only_proposed = refl

closed_before_ready : apply_on judged (minutes 50) (over Cancelled (member 1 Empty ∷ [])) ≡ Err RejudgingClosed
closed_before_ready = refl

all_added : applied_entries 1 (released 1 2 wrong ∷ []) ≡ NewRelease (released 1 2 wrong) ∷ SetRejudging 1 Applied ∷ []
all_added = refl

cancelled : cancel_on (over Open (member 1 (Ready wrong) ∷ [])) ≡ Ok tt
cancelled = refl

cancelled_once : cancel_on (over Cancelled []) ≡ Err RejudgingClosed
cancelled_once = refl
