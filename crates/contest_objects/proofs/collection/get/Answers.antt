use Rattle.std.proofs.Common.{◌≡◌, ◌∙◌, sym, ap, Some, None, refl}
use Rattle.std.specs.List.{filter_map}
use Rattle.std.specs.Option.{option_map}
use Rattle.serde_json.specs.Written.{compact_text}
use Rattle.contest_types.proofs.Rising.{find_passes}
use Rattle.contest_objects.specs.Items.{found_in, has_this_id, object_in}
use Rattle.contest_objects.proofs.ListingLemmas.{found_among, served_under}
use Rattle.contest_objects.proofs.collection.get.Goals as goal

pub returns-in_ok-text-in-Some : goal.returns-in_ok-text-in-Some
returns-in_ok-text-in-Some g c =
    let item = g.C.Collection.item c.args.collection.now in
    let found = sym c.with_id.ensures ∙ (rw c.in-Some.is refl) in
    let served = served_under c.args.id.now (item c.in-Some.row.now) (find_passes (λ r. has_this_id c.args.id.now (item r)) c.args.rows.now c.in-Some.row.now found) in
    let is : Some (served.0).object ≡ found_in (filter_map item c.args.rows.now) c.args.id.now = ap object_in (sym served.1) ∙ found_among item c.args.rows.now c.args.id.now (Some c.in-Some.row.now) found in
    ap Some (c.in_ok-text-in-Some.ensures served.0 served.1) ∙ ap (option_map compact_text) is

pub returns-in-None : goal.returns-in-None
returns-in-None g c =
    ap (option_map compact_text) (found_among (g.C.Collection.item c.args.collection.now) c.args.rows.now c.args.id.now None (sym c.with_id.ensures ∙ (rw c.in-None.is refl)))
