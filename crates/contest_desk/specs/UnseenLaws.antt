-- What an audience can't notice leaves the contest alike for it. Each law is the contract of a function
-- of src/laws/unseen.rt.
use Rattle.std.specs.Prelude.{◌≡◌, ◌≢◌, ◌⊎◌, ℕ, true, List, Err}
use Rattle.contest_types.specs.State.{ContestState, add, add_all}
use Rattle.contest_types.specs.Alike.{Alike}
use Rattle.contest_types.specs.declared.entry.Entry.{Entry}
use Rattle.contest_types.specs.declared.audience.Audience.{Audience}
use Rattle.contest_types.specs.declared.refusal.Refusal.{Refusal}
use Rattle.contest_types.specs.declared.import_kind.ImportKind.{ImportKind}
use Rattle.contest_desk.specs.Imports.{entries_of, import_step, imported}
use Rattle.contest_desk.specs.Items.{item_entries}
use Rattle.contest_operations.specs.Offers.{is_read}
use Rattle.contest_operations.specs.Step.{outcome, step}
use Rattle.contest_desk.specs.Unseen.{IsUnseen, AreUnseen}
use Rattle.contest_desk.specs.declared.item.Item.{Item}
use Rattle.contest_desk.specs.declared.item.Item.TheVariants as item
use Rattle.contest_requests.specs.declared.request.Credential.{Credential}
use Rattle.contest_requests.specs.declared.request.Request.{Request}

-- one entry that can't be noticed leaves the contest alike
abbrev pub UnseenEntry : Type 0
UnseenEntry = (a : Audience) (x : ContestState) (e : Entry) → IsUnseen a x e → Alike a (add x e) x

-- and so do any number of them
abbrev pub UnseenEntries : Type 0
UnseenEntries = (a : Audience) (x : ContestState) (es : List Entry) → AreUnseen a x es → Alike a (add_all x es) x

-- a request that is refused leaves the contest as it was, whoever asks
abbrev pub RefusedStep : Type 0
RefusedStep =
    (x : ContestState) (now : ℕ) (credential : Credential) (request : Request)
    → (step x now credential request).0.status ≢ 200 → (step x now credential request).1 ≡ x

-- and so does one that reads: a GET or a HEAD
abbrev pub ReadStep : Type 0
ReadStep =
    (x : ContestState) (now : ℕ) (credential : Credential) (request : Request)
    → is_read request.method ≡ true → (step x now credential request).1 ≡ x

-- a request that is refused, or reads, or adds only what an audience can't notice
abbrev pub IsUnnoticed : Audience → ContestState → (now : ℕ) → Credential → Request → Type 0
IsUnnoticed a x now credential request =
    ((step x now credential request).0.status ≢ 200) ⊎ ((is_read request.method ≡ true) ⊎ AreUnseen a x (outcome x now credential request).entries)

-- a file that is refused, or adds nothing, or only what an audience can't notice
abbrev pub IsUnnoticedItem : Audience → ContestState → Item → Type 0
IsUnnoticedItem a x (item.Request i) = IsUnnoticed a x i.now i.credential i.request
IsUnnoticedItem a x (item.Import i) = AreUnseen a x (item_entries x (item.Import i))

-- an import that is refused leaves the contest as it was
abbrev pub RefusedImport : Type 0
RefusedImport =
    (x : ContestState) (now : ℕ) (kind : ImportKind) (file : List ℕ) (refusal : Refusal)
    → (import_step x now kind file).0 ≡ Err refusal → (import_step x now kind file).1 ≡ x

-- and one that adds only what an audience can't notice leaves it alike
abbrev pub UnseenImport : Type 0
UnseenImport =
    (a : Audience) (x : ContestState) (now : ℕ) (kind : ImportKind) (file : List ℕ)
    → AreUnseen a x (entries_of (imported x now kind file)) → Alike a (import_step x now kind file).1 x

-- whoever asks: such a request leaves the contest alike
abbrev pub UnseenStep : Type 0
UnseenStep =
    (a : Audience) (x : ContestState) (now : ℕ) (credential : Credential) (request : Request)
    → IsUnnoticed a x now credential request → Alike a (step x now credential request).1 x
