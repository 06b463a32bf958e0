use Rattle.std.proofs.Common.{◌≡◌, ◌∙◌, ℕ, ◌+◌, ◌++◌, ◌∷◌, [], List, map, drop, ap, sym, arith}
use Rattle.std.specs.Prelude.{◌==◌, if◌then◌else◌}
use Rattle.std.specs.List.{enumerate_from}
use Rattle.std.proofs.lemmas.List.{append_assoc}
use Rattle.contest_types.specs.declared.rejudging.Member.{Member}
use Rattle.contest_view.proofs.RejudgingLemmas.{left_counted}
use Rattle.contest_postings.proofs.rejudging.members_with.Goals as goal

pub loop-at-preserved : goal.loop-at-preserved
loop-at-preserved c =
    let at = c.loop-at.at in
    let members = c.args.members.now in
    let member = c.index-members-at.result in
    let one : at ≡ 0 + at = omega arith in
    let changed = c.loop-at.changed in
    let make : ℕ × Member → Member = λ p. if p.0 == c.args.place then record p.1 { state = c.args.state.now } else p.1 in
    let rest : List Member = map make (enumerate_from (0 + (at + 1)) (drop (at + 1) members)) in
    let made : c.in_ok-member_with.field-0 ≡ make (0 + at, member) = c.in_ok-member_with.ensures ∙ ap (λ n. make (n, member)) one in
    let next : map make (enumerate_from (0 + at) (drop at members)) ≡ c.in_ok-member_with.field-0 ∷ rest = ap (map make) (left_counted 0 members at member c.loop-at-test.true c.index-members-at.is) ∙ ap (λ m. m ∷ rest) (sym made) in
    ap (λ ms. ms ++ rest) c.in_ok-push.ensures.ok ∙ (append_assoc changed (c.in_ok-member_with.field-0 ∷ []) rest ∙ (ap (λ ms. changed ++ ms) (sym next) ∙ c.loop-at.invariant))
