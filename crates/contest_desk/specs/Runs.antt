-- Requests and imports one after another (own).
use Rattle.std.specs.Prelude.{◌≡◌, ◌⊎◌, ℕ, IsTrue, List, [], ◌∷◌, Option, Some}
use Rattle.contest_types.specs.State.{ContestState}
use Rattle.contest_streams.specs.Streams.{one_more}
use Rattle.contest_store.specs.Keeping.{Kept}
use Rattle.contest_desk.specs.Items.{IsFaultAnswer, IsStoreAnswer, item_step}
use Rattle.contest_desk.specs.declared.item.Answer.{Answer}
use Rattle.contest_desk.specs.declared.item.Item.{Item}

-- an item is answered as the machine's step does, or with a failure that changes nothing
abbrev pub IsServed : ContestState → Item → Answer → ContestState → Type 0
IsServed x item answer y = ((answer ≡ (item_step x item).0) × (y ≡ (item_step x item).1)) ⊎ (IsStoreAnswer answer × (y ≡ x))

-- from one contest to another by these items, with these answers
abbrev pub IsRun : ContestState → List Item → List Answer → ContestState → Type 0
IsRun x [] [] y = y ≡ x
IsRun x (item ∷ items) (answer ∷ answers) y = (mid : ContestState) × IsServed x item answer mid × IsRun mid items answers y
IsRun x [] (answer ∷ answers) y = ⊥
IsRun x (item ∷ items) [] y = ⊥

-- the items are a run from the contest before, to the contest after if the store is still open
abbrev pub RunsTo : (old new : Kept) → List Item → List Answer → Type 0
RunsTo old new items answers = (y : ContestState) × IsRun old.contest items answers y × (IsTrue new.is_open → new.contest ≡ y)

-- what a crash may leave after these items with these answers, where before them it might leave `before`: an item
-- that is answered leaves its contest and no other, and one that fails what might be left before it, or its contest
abbrev pub LeavesAfter : (before : Option ContestState → Type 0) → ContestState → List Item → List Answer → Option ContestState → Type 0
LeavesAfter before x [] [] c = before c
LeavesAfter before x (item ∷ items) (answer ∷ answers) c =
    let y = (item_step x item).1 in
    ((IsStoreAnswer answer → ⊥) × LeavesAfter (λ d. d ≡ Some y) y items answers c)
    ⊎ (IsStoreAnswer answer × LeavesAfter (λ d. before d ⊎ (d ≡ Some y)) x items answers c)
LeavesAfter before x [] (answer ∷ answers) c = ⊥
LeavesAfter before x (item ∷ items) [] c = ⊥

-- a fault that is answered is counted, and nothing else is
abbrev pub CountsAnswer : Answer → ℕ → ℕ → Type 0
CountsAnswer answer old new = (IsFaultAnswer answer → new ≡ one_more old) × ((IsFaultAnswer answer → ⊥) → new ≡ old)

abbrev pub CountsAnswers : List Answer → ℕ → ℕ → Type 0
CountsAnswers [] old new = new ≡ old
CountsAnswers (answer ∷ answers) old new = (mid : ℕ) × CountsAnswer answer old mid × CountsAnswers answers mid new
