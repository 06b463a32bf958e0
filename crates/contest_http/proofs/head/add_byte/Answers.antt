use Rattle.std.proofs.Common.{◌≡◌, ◌-◌, ◌++◌, ◌∷◌, [], ◌∙◌, arith, sym, ap, drop, length}
use Rattle.std.proofs.lemmas.List.{take_rest}
use Rattle.contest_http.specs.Head.{has_end}
use Rattle.contest_http.proofs.LastBytes.{has_end-last}
use Rattle.contest_http.proofs.head.add_byte.Goals as goal

pub returns-in-Ok-clause-end : goal.returns-in-Ok-clause-end
returns-in-Ok-clause-end c =
    let bytes = c.args.bytes.now.items in
    let all : c.deref.result.now ≡ bytes ++ c.args.byte ∷ [] = c.deref.ensures.value ∙ c.in-Ok.ensures.items in
    let size : c.saturating_sub-from.result ≡ length bytes - 2 = omega (arith, c.saturating_sub-from.ensures, c.len.ensures) in
    c.has_end.ensures ∙ ap has_end (take_rest c.deref.result.now c.saturating_sub-from.result)
    ∙ ap (λ t. has_end (drop c.saturating_sub-from.result t)) all
    ∙ ap (λ n. has_end (drop n (bytes ++ c.args.byte ∷ []))) size
    ∙ sym (has_end-last bytes c.args.byte c.requires)
