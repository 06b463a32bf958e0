use Rattle.std.proofs.Common.{◌≡◌, [], ◌∷◌, ◌++◌, length, ap, sym, ◌∙◌, arith}
use Rattle.std.specs.Prelude.{◌==◌, if◌then◌else◌}
use Rattle.contest_lists.proofs.TeamRowLemmas.{places_push}
use Rattle.contest_lists.proofs.indexed_submissions.IndexedSubmissions.push.Goals as goal

pub invariant_of-self-2 : goal.invariant_of-self-2
invariant_of-self-2 c = λ team.
    let rows = c.self.inside.rows.items in
    let row = c.args.row in
    let count : c.len.result ≡ length rows = omega (arith, ap length c.reserve.ensures.items) in
    let noted = rw count at (c.in_ok-note.ensures.ok team) in
    rw (c.in-Ok.ensures.items, c.reserve.ensures.items)
    (noted ∙ (ap (λ ps. ps ++ (if row.team == team then length rows ∷ [] else [])) (c.self.invariant team) ∙ sym (places_push team rows row)))
