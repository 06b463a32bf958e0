-- What a desk is asked to do at a moment, a request or an import, and what it answers (own).
use Rattle.std.specs.Prelude.{◌≡◌, ◌⊎◌, ◌==◌, Bool, false, List, Result, Ok, Err}
use Rattle.contest_types.specs.Refusals.{status_of}
use Rattle.contest_types.specs.State.{ContestState}
use Rattle.contest_types.specs.declared.entry.Entry.{Entry}
use Rattle.contest_types.specs.declared.refusal.Refusal.{Refusal}
use Rattle.contest_types.specs.declared.refusal.Refusal.TheVariants.{StoreFault, Memory}
use Rattle.contest_desk.specs.Imports.{entries_of, import_step, imported}
use Rattle.contest_operations.specs.Replies.{refused, IsStoreReply}
use Rattle.contest_operations.specs.Step.{outcome, step}
use Rattle.contest_desk.specs.declared.item.Answer.{Answer}
use Rattle.contest_desk.specs.declared.item.Answer.TheVariants as answer
use Rattle.contest_desk.specs.declared.item.Item.{Item}
use Rattle.contest_desk.specs.declared.item.Item.TheVariants as item

-- what an item is answered, and the contest afterwards
abbrev pub item_step : ContestState → Item → Answer × ContestState
item_step x (item.Request i) = (answer.Reply (step x i.now i.credential i.request).0, (step x i.now i.credential i.request).1)
item_step x (item.Import i) = (answer.Imported (import_step x i.now i.kind i.file).0, (import_step x i.now i.kind i.file).1)

-- what an item adds
abbrev pub item_entries : ContestState → Item → List Entry
item_entries x (item.Request i) = (outcome x i.now i.credential i.request).entries
item_entries x (item.Import i) = entries_of (imported x i.now i.kind i.file)

-- an import that the store or want of memory is the cause of refusing
abbrev pub HasStoreError : {A : Type 0} → Result A Refusal → Type 0
HasStoreError result = (result ≡ Err StoreFault) ⊎ (result ≡ Err Memory)

-- an answer that the store or want of memory is the cause of
abbrev pub IsStoreAnswer : Answer → Type 0
IsStoreAnswer (answer.Reply reply) = IsStoreReply reply
IsStoreAnswer (answer.Imported result) = HasStoreError result

-- an answer that the store failed
abbrev pub IsFaultAnswer : Answer → Type 0
IsFaultAnswer (answer.Reply reply) = reply ≡ refused StoreFault
IsFaultAnswer (answer.Imported result) = result ≡ Err StoreFault

-- the status is that of such an answer
abbrev pub has_failed : Answer → Bool
has_failed (answer.Reply reply) = reply.status == 503
has_failed (answer.Imported (Ok added)) = false
has_failed (answer.Imported (Err refusal)) = status_of refusal == 503
