-- What was answered as done survives every crash (own). The law is the contract of a function of src/laws.rt.
use Rattle.std.specs.Prelude.{◌≡◌, ◌⊎◌, ℕ, true, List, [], ◌∷◌, map, Some}
use Rattle.contest_types.specs.Order.{Has}
use Rattle.contest_types.specs.State.{ContestState}
use Rattle.contest_types.specs.Valid.{is_valid}
use Rattle.contest_types.specs.declared.entry.Entry.{Entry}
use Rattle.contest_types.specs.declared.entry.Entry.TheVariants.{NewSubmission, NewProposal, NewRelease, NewClarification, NewRejudging, SetMember, SetRejudging, SetStart, SetThaw, SetFinalized, SetDuration, SetTeamName, SetDigest, NewType, NewLanguage, NewProblem, NewGroup, NewTeam, NewAccount}
use Rattle.contest_types.specs.declared.rejudging.Member.{Member}
use Rattle.contest_types.specs.declared.rejudging.MemberState.TheVariants.{Empty}
use Rattle.contest_types.specs.declared.rejudging.Rejudging.{Rejudging}
use Rattle.contest_types.specs.declared.rejudging.RejudgingState.TheVariants.{Open}
use Rattle.contest_view.specs.Rejudgings.{named_rejudging}
use Rattle.contest_operations.specs.Growing.{HasAccount, unnamed}
use Rattle.contest_desk.specs.Items.{IsStoreAnswer, item_entries, item_step}
use Rattle.contest_desk.specs.Runs.{LeavesAfter}
use Rattle.contest_desk.specs.declared.item.Answer.{Answer}
use Rattle.contest_desk.specs.declared.item.Item.{Item}

-- from an opening of a desk until it stopped or crashed: the contest that was read, and what was asked and answered
pub record Stretch : Type 0 where
  pub opened : ContestState
  pub items : List Item
  pub answers : List Answer

-- what the next opening reads
abbrev pub next_opened : List Stretch → (last : ContestState) → ContestState
next_opened [] last = last
next_opened (s ∷ ss) last = s.opened

-- one stretch after another, to an opening that reads `last`: each reads what a crash may leave of the stretch before it
abbrev pub IsDay : List Stretch → (last : ContestState) → Type 0
IsDay [] last = Unit {0}
IsDay (s ∷ ss) last = LeavesAfter (λ c. c ≡ Some s.opened) s.opened s.items s.answers (Some (next_opened ss last)) × IsDay ss last

-- an item whose answer is no failure of the store added this
abbrev pub IsDone : ContestState → List Item → List Answer → Entry → Type 0
IsDone x (item ∷ items) (answer ∷ answers) e =
    ((IsStoreAnswer answer → ⊥) × (Has (item_entries x item) e ⊎ IsDone (item_step x item).1 items answers e))
    ⊎ (IsStoreAnswer answer × IsDone x items answers e)
IsDone x [] answers e = ⊥
IsDone x (item ∷ items) [] e = ⊥

-- a rejudging but for its state and those of its members, which are set later
abbrev pub unjudged : Rejudging → Rejudging
unjudged r = record { reason = r.reason; state = Open; members = map (λ (m : Member). record m { state = Empty }) r.members }

-- what was added is in the lists. Not what may be set again: a member's state, the start, the thaw, a duration, a name, a token
abbrev pub Stands : ContestState → Entry → Type 0
Stands z (NewSubmission s) = Has z.submissions s
Stands z (NewProposal p) = Has z.proposals p
Stands z (NewRelease v) = Has z.releases v
Stands z (NewClarification c) = Has z.clarifications c
Stands z (NewRejudging r) = Has (map unjudged z.rejudgings) (unjudged r)
Stands z (SetRejudging n state) = (id : List ℕ) × (r : Rejudging) × (named_rejudging id z.rejudgings ≡ Some (n, r)) × (r.state ≡ state)
Stands z (SetFinalized moment) = z.fixed.marks.finalized ≡ Some moment
Stands z (NewType t) = Has z.fixed.settings.types t
Stands z (NewLanguage l) = Has z.fixed.settings.languages l
Stands z (NewProblem p) = Has z.fixed.settings.problems p
Stands z (NewGroup g) = Has z.fixed.settings.groups g
Stands z (NewTeam t) = Has (map unnamed z.fixed.settings.teams) (unnamed t)
Stands z (NewAccount a) = HasAccount z.fixed.accounts a.id a.role
Stands z (SetMember n place state) = Unit {0}
Stands z (SetStart start) = Unit {0}
Stands z (SetThaw thaw) = Unit {0}
Stands z (SetDuration duration freeze) = Unit {0}
Stands z (SetTeamName team name) = Unit {0}
Stands z (SetDigest id digest) = Unit {0}

-- whatever was answered as done in any stretch of a day is in the lists that the last opening reads
abbrev pub NothingIsLost : Type 0
NothingIsLost =
    (s : Stretch) (ss : List Stretch) (last : ContestState) → is_valid s.opened ≡ true → IsDay (s ∷ ss) last
    → (t : Stretch) → Has (s ∷ ss) t → (e : Entry) → IsDone t.opened t.items t.answers e → Stands last e
