-- What holds of every item, a request or an import.
use Rattle.std.proofs.Common.{◌≡◌, true, false, refl, ap, inl, inr}
use Rattle.std.specs.Prelude.{◌==◌}
use Rattle.contest_types.specs.Addable.{are_addable}
use Rattle.contest_types.specs.Alike.{Alike}
use Rattle.contest_types.specs.State.{ContestState, add_all}
use Rattle.contest_types.specs.Valid.{is_valid}
use Rattle.contest_types.specs.declared.audience.Audience.{Audience}
use Rattle.contest_desk.specs.Imports.{entries_of, imported}
use Rattle.contest_desk.specs.Items.{IsStoreAnswer, has_failed, item_entries, item_step}
use Rattle.contest_desk.specs.UnseenLaws.{IsUnnoticedItem}
use Rattle.contest_desk.specs.declared.item.Answer.{Answer}
use Rattle.contest_desk.specs.declared.item.Answer.TheVariants as answer
use Rattle.contest_desk.specs.declared.item.Item.{Item}
use Rattle.contest_desk.specs.declared.item.Item.TheVariants as item
use Rattle.contest_operations.specs.declared.reply.Reply.{Reply}
use Rattle.contest_desk.proofs.ImportLemmas.{error_has_failed, import_addable, import_ordinary, imports_keep_valid}
use Rattle.contest_operations.proofs.LawLemmas.{outcome_addable, steps_keep_valid}
use Rattle.contest_operations.proofs.NeverFails.{step_ordinary}
use Rattle.contest_desk.proofs.QuietSteps.{unnoticed}
use Rattle.contest_desk.proofs.UnseenLemmas.{unseen_entries}

pub items_keep_valid : (x : ContestState) (i : Item) → is_valid x ≡ true → is_valid (item_step x i).1 ≡ true
items_keep_valid x (item.Request i) valid = steps_keep_valid i.now i.credential i.request x valid
items_keep_valid x (item.Import i) valid = imports_keep_valid x i.now i.kind i.file valid

pub item_addable : (x : ContestState) (i : Item) → is_valid x ≡ true → are_addable x (item_entries x i) ≡ true
item_addable x (item.Request i) valid = outcome_addable x i.now i.credential i.request valid
item_addable x (item.Import i) valid = import_addable x i.now i.kind i.file

pub item_adds : (x : ContestState) (i : Item) → (item_step x i).1 ≡ add_all x (item_entries x i)
item_adds x (item.Request i) = refl
item_adds x (item.Import i) = refl

-- no item is answered with a failure of its own
pub item_ordinary : (x : ContestState) (i : Item) → has_failed (item_step x i).0 ≡ false
item_ordinary x (item.Request i) = step_ordinary x i.now i.credential i.request
item_ordinary x (item.Import i) = import_ordinary x i.now i.kind i.file

pub failure_is : (r : Answer) → IsStoreAnswer r → has_failed r ≡ true
failure_is (answer.Reply reply) (inl e) = ap (λ (q : Reply). q.status == 503) e
failure_is (answer.Reply reply) (inr e) = ap (λ (q : Reply). q.status == 503) e
failure_is (answer.Imported result) fails = error_has_failed result fails

pub item_unnoticed : (a : Audience) (x : ContestState) (i : Item) → IsUnnoticedItem a x i → Alike a (item_step x i).1 x
item_unnoticed a x (item.Request i) h = unnoticed a x i.now i.credential i.request h
item_unnoticed a x (item.Import i) h = unseen_entries a x (entries_of (imported x i.now i.kind i.file)) h
