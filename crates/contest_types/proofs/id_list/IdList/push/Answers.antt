use Rattle.std.proofs.Common.{ℕ, ◌≡◌, ◌∙◌, true, Some, ap, length, subst, arith}
use Rattle.std.specs.HashMap.{UpdatesBy}
use Rattle.contest_types.specs.IdText.{is_id}
use Rattle.contest_types.proofs.PlaceLemmas.{IsIndexed-push, key_eq}
use Rattle.contest_types.proofs.id_list.IdList.push.Goals as goal

pub invariant_of-self-2 : goal.invariant_of-self-2
invariant_of-self-2 g c =
    let key = c.in_ok-key.ensures.items ∙ c.as_bytes.ensures.bytes ∙ c.id.ensures in
    let count : c.len.result ≡ length c.self.inside.rows.items = omega (arith, ap length c.reserve.ensures.items) in
    let spelled : is_id (g.T.Identified.id c.args.row) ≡ true = rw c.id.ensures at c.as_bytes.ensures.id in
    let updates = subst (λ (n : ℕ). UpdatesBy key_eq (key_eq c.in_ok-key.key) c.self.inside.places c.insert.new.self (Some n)) count c.in_ok-insert.ensures.updates in
    rw (c.in-Ok.ensures.items, c.reserve.ensures.items)
    (IsIndexed-push g.T.Identified.id c.self.inside.rows.items c.args.row c.in_ok-key.key c.self.inside.places c.insert.new.self key spelled (rw (← c.self.view_is) at c.requires) updates c.self.invariant)

pub returns-clause-different : goal.returns-clause-different
returns-clause-different g c = (invariant_of-self-2 g c).different
