use Rattle.std.proofs.Common.{◌∙◌, subst, sym, arith}
use Rattle.std.proofs.lemmas.Bool.Decides.{nat_tests}
use Rattle.contest_desk.specs.Serving.{Keeps}
use Rattle.contest_desk.proofs.KeepLemmas.{all_kept}
use Rattle.contest_desk.proofs.keep.keep.Goals as goal

pub returns : goal.returns
returns g c =
    let old = g.S.ContestStore.kept c.args.store.now in
    let new = g.S.ContestStore.kept c.commit.new.self in
    let empty = sym c.is_empty.ensures ∙ c.if-is_empty.false in
    subst (λ es. Keeps c.commit.result old new es ⊥) c.into_vec-entries.ensures
    (all_kept c.in_ok-append_all.field-0 c.commit.result old (g.S.ContestStore.kept c.append_all.new.store) new c.into_vec-entries.result.items (λ none. grind (arith, nat_tests, none, empty)) c.in_ok-append_all.ensures c.commit.ensures)
