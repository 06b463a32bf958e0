use Rattle.std.proofs.Common.{◌∙◌, ap}
use Rattle.contest_score.specs.Ranking.{Scoreboard}
use Rattle.contest_view.proofs.AwardReads.{same_awards}
use Rattle.contest_view.proofs.awards.final_awards.Goals as goal

pub returns-in-Ok : goal.returns-in-Ok
returns-in-Ok c x shows =
    same_awards _ _ _ _ _ _ _ c.in-Ok.ensures.awards (ap (λ f. f.settings) (c.fixed.ensures ∙ ap (λ l. l.fixed) shows.lists))
    (ap (λ (b : Scoreboard). b.rows) (c.in_ok-board.ensures x (record { valid = shows.valid; lists = shows.lists; cells = shows.cells }))) (c.deref.ensures.value ∙ c.in_ok-solves.ensures x shows)
