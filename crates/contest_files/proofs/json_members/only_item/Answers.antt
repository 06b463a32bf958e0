use Rattle.std.proofs.Common.{◌≡◌, length, None, vec_len, rules, option_and_then, map, sym, ◌∙◌, ap}
use Rattle.serde_json.specs.View.{view, items_of}
use Rattle.contest_files.specs.JsonMembers.{only_item}
use Rattle.contest_files.proofs.JsonLemmas.{only_item-none}
use Rattle.contest_files.proofs.json_members.only_item.Goals as goal

pub returns-else-len-eq1 : goal.returns-else-len-eq1
returns-else-len-eq1 c =
    let items = c.in-Some.items.now in
    let none : only_item (items_of (map view items.items)) ≡ None = only_item-none items.items (λ one. c.if-len-eq1.false (let same : vec_len items ≡ length items.items = search rules in c.len.ensures ∙ (same ∙ one))) in
    sym (ap (option_and_then only_item) (sym c.in-Some.ensures) ∙ none)
