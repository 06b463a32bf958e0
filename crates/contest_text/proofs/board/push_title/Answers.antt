use Rattle.std.proofs.lemmas.Result.{on_ok_weaker}
use Rattle.contest_text.proofs.TextLemmas.{joined}
use Rattle.contest_text.proofs.board.push_title.Goals as goal

pub returns : goal.returns
returns c =
    on_ok_weaker c.push_title_end.result
    (λ e. joined _ _ _ _ _ _ _ _ _ _ _ c.in_ok-push_who.ensures c.in_ok-push_str.ensures.bytes c.in_ok-push_group.ensures c.in_ok-push_time.ensures e)
    c.push_title_end.ensures
