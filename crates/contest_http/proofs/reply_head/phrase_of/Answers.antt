use Rattle.std.proofs.Common.{◌≤◌, ◌∙◌, length, sym, ap, subst, Bor, List, ℕ}
use Rattle.http.specs.StatusCode.{reason_phrase}
use Rattle.contest_http.proofs.PhraseLemmas.{phrase_given, phrase_is_short}
use Rattle.contest_http.proofs.reply_head.phrase_of.Goals as goal

pub returns-in-Ok-clause-text : goal.returns-in-Ok-clause-text
returns-in-Ok-clause-text c =
    let e = c.in-Ok.ensures in
    ap (λ (s : Bor (List ℕ)). s.now) c.unwrap_or.ensures ∙ phrase_given c.args.status c.canonical_reason.result _ (c.canonical_reason.ensures.value ∙ ap reason_phrase e.1) e.0.0 e.0.1

pub returns-in-Ok-clause-short : goal.returns-in-Ok-clause-short
returns-in-Ok-clause-short c = subst (λ t. length t ≤ 40) (sym (returns-in-Ok-clause-text c)) (phrase_is_short c.args.status)
