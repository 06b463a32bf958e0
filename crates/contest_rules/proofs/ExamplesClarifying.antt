-- Worked examples: what becomes of what the second team asks, and of what the jury writes.
use Rattle.std.proofs.Common.{◌≡◌, ℕ, true, false, List, [], ◌∷◌, refl, Some, None, Result, Ok, Err}
use Rattle.std.specs.Prelude.{codes}
use Rattle.std.specs.Fmt.{digits}
use Rattle.contest_types.specs.State.{FixedPart}
use Rattle.contest_types.specs.declared.clarification.Addressee.{Addressee}
use Rattle.contest_types.specs.declared.clarification.Addressee.TheVariants as addressee
use Rattle.contest_types.specs.declared.clarification.Clarification.{Clarification}
use Rattle.contest_types.specs.declared.objects.Team.{Team}
use Rattle.contest_types.proofs.ExampleContest.{empty, hours, minutes, started, team_named}
use Rattle.contest_rules.specs.declared.clarifying.Sender.{Sender}
use Rattle.contest_rules.specs.declared.clarifying.Sender.TheVariants as sender
use Rattle.contest_rules.specs.declared.clarifying.WantedAddressee.{WantedAddressee}
use Rattle.contest_rules.specs.declared.clarifying.WantedAddressee.TheVariants.{All as WantsAll, Group as WantsGroup, Team as WantsTeam}
use Rattle.contest_rules.specs.declared.clarifying.WantedClarification.{WantedClarification}
use Rattle.contest_rules.specs.declared.decision.Decision.{Decision}
use Rattle.contest_rules.specs.declared.decision.Decision.TheVariants.{Add, Stands}
use Rattle.contest_rules.specs.declared.rule_refusal.RuleRefusal.{RuleRefusal}
use Rattle.contest_rules.specs.declared.rule_refusal.RuleRefusal.TheVariants.{KeyReused, NotOpen, UnknownReference}
use Rattle.contest_rules.specs.Clarifying.{clarify}

abbrev Decided : Type 0
Decided = Result (Decision Clarification Clarification) RuleRefusal

abbrev decided : (now : ℕ) → Sender → (account : List ℕ) → List Clarification → WantedClarification → Decided
decided now s account cs w = clarify empty.fixed now s account cs w

-- the second team asks about problem a, under a key
abbrev question : WantedClarification
question = record { text = codes "Is 0 allowed?"; problem = Some (codes "a"); to = WantsAll; reply = None; key = Some (codes "k") }

abbrev question_at : (time : ℕ) → Clarification
question_at time = record { addressee = addressee.Team 1; number = 1; from_jury = false; account = codes "a2"; problem = Some 0; reply = None; text = codes "Is 0 allowed?"; time = time; key = Some (codes "k") }

asks : decided (minutes 10) (sender.Team 1) (codes "a2") [] question ≡ Ok (Add (question_at (minutes 10)))
asks = refl

abbrev one : List Clarification
one = question_at (minutes 10) ∷ []

-- the jury answers it, to all, to the team or to a group
abbrev answer : (to : WantedAddressee) → WantedClarification
answer to = record { text = codes "Yes."; problem = None; to = to; reply = Some (codes "c2-1"); key = None }

abbrev answer_at : Addressee → (number time : ℕ) → Clarification
answer_at to number time = record { addressee = to; number = number; from_jury = true; account = codes "j1"; problem = None; reply = Some (record { addressee = addressee.Team 1; number = 1 }); text = codes "Yes."; time = time; key = None }

answers_all : decided (minutes 12) sender.Jury (codes "j1") one (answer WantsAll) ≡ Ok (Add (answer_at addressee.All 1 (minutes 12)))
unfolding digits
answers_all = refl

answers_the_team : decided (minutes 13) sender.Jury (codes "j1") one (answer (WantsTeam (codes "t2"))) ≡ Ok (Add (answer_at (addressee.Team 1) 2 (minutes 13)))
unfolding digits
answers_the_team = refl

-- a hidden team may be told something too
answers_a_hidden_team : decided (minutes 13) sender.Jury (codes "j1") one (answer (WantsTeam (codes "t9"))) ≡ Ok (Add (answer_at (addressee.Team 3) 1 (minutes 13)))
unfolding digits
answers_a_hidden_team = refl

-- what another team asked is as what isn't there
abbrev about : (reply : List ℕ) → WantedClarification
about reply = record question { reply = Some reply; key = None }

not_heard : decided (minutes 14) (sender.Team 0) (codes "a1") one (about (codes "c2-1")) ≡ Err UnknownReference
unfolding digits
not_heard = refl

not_there : decided (minutes 14) (sender.Team 0) (codes "a1") one (about (codes "c2-2")) ≡ Err UnknownReference
unfolding digits
not_there = refl

-- nobody writes before the start, and after the end the jury alone
abbrev unset : FixedPart
unset = record empty.fixed { marks = record started { start = None } }

before_the_start : clarify unset (minutes 1) sender.Jury (codes "j1") [] (record question { problem = None }) ≡ Err NotOpen
before_the_start = refl

late_question : decided (hours 5) (sender.Team 0) (codes "a1") [] question ≡ Err NotOpen
late_question = refl

late_answer : decided (hours 5) sender.Jury (codes "j1") one (answer WantsAll) ≡ Ok (Add (answer_at addressee.All 1 (hours 5)))
unfolding digits
late_answer = refl

-- a key answers for itself before the clock does, for each account of its team
again : decided (hours 9) (sender.Team 1) (codes "b2") one question ≡ Ok (Stands (question_at (minutes 10)))
again = refl

something_else : decided (hours 9) (sender.Team 1) (codes "a2") one (record question { text = codes "Is 1?" }) ≡ Err KeyReused
something_else = refl

-- and for nobody else: to the jury, and to another team, it is a new key
key_of_the_jury : decided (hours 9) sender.Jury (codes "a2") one question ≡ Ok (Add (record (question_at (hours 9)) { addressee = addressee.All; from_jury = true }))
key_of_the_jury = refl

key_of_another : decided (hours 9) (sender.Team 0) (codes "a1") one question ≡ Err NotOpen
key_of_another = refl

-- the first and the third team are in the group `north`
abbrev northern : (id name : List ℕ) → Team
northern id name = record (team_named id name false) { groups = 0 ∷ [] }

abbrev grouped : FixedPart
grouped = record empty.fixed {
  settings = record empty.fixed.settings {
    groups = record { id = codes "north"; name = codes "North" } ∷ [];
    teams = northern (codes "t1") (codes "Alpha") ∷ team_named (codes "t2") (codes "Beta") false ∷ northern (codes "t3") (codes "Gamma") ∷ [];
  };
}

-- the jury tells the group, and each of all and the group has a count of its own
abbrev change : (to : WantedAddressee) → WantedClarification
change to = record { text = codes "Room change."; problem = None; to = to; reply = None; key = Some (codes "k") }

abbrev change_at : Addressee → (number time : ℕ) → Clarification
change_at to number time = record { addressee = to; number = number; from_jury = true; account = codes "j1"; problem = None; reply = None; text = codes "Room change."; time = time; key = Some (codes "k") }

tells_the_group : clarify grouped (minutes 20) sender.Jury (codes "j1") [] (change (WantsGroup (codes "north"))) ≡ Ok (Add (change_at (addressee.Group 0) 1 (minutes 20)))
tells_the_group = refl

abbrev told : List Clarification
told = change_at (addressee.Group 0) 1 (minutes 20) ∷ []

then_all : clarify grouped (minutes 21) sender.Jury (codes "j2") told (change WantsAll) ≡ Ok (Add (record (change_at addressee.All 1 (minutes 21)) { account = codes "j2" }))
then_all = refl

-- to whom it goes is content
told_again : clarify grouped (hours 9) sender.Jury (codes "j1") told (change (WantsGroup (codes "north"))) ≡ Ok (Stands (change_at (addressee.Group 0) 1 (minutes 20)))
told_again = refl

told_all_again : clarify grouped (hours 9) sender.Jury (codes "j1") told (change WantsAll) ≡ Err KeyReused
told_all_again = refl

no_such_group : clarify grouped (minutes 20) sender.Jury (codes "j1") [] (change (WantsGroup (codes "south"))) ≡ Err UnknownReference
no_such_group = refl

-- a team of the group may ask about it, another team finds no such clarification
abbrev about_the_change : WantedClarification
about_the_change = record { text = codes "Which room?"; problem = None; to = WantsAll; reply = Some (codes "g1-1"); key = None }

asks_about_it : clarify grouped (minutes 22) (sender.Team 2) (codes "a3") told about_the_change
    ≡ Ok (Add (record { addressee = addressee.Team 2; number = 1; from_jury = false; account = codes "a3"; problem = None; reply = Some (record { addressee = addressee.Group 0; number = 1 }); text = codes "Which room?"; time = minutes 22; key = None }))
unfolding digits
asks_about_it = refl

not_told : clarify grouped (minutes 22) (sender.Team 1) (codes "a2") told about_the_change ≡ Err UnknownReference
unfolding digits
not_told = refl
