use Rattle.std.proofs.Common.{◌≡◌, ◌+◌, ◌++◌, drop}
use Rattle.std.specs.List.{enumerate_from, flat_map}
use Rattle.contest_objects.specs.JsonTokens.{data_tokens}
use Rattle.contest_view.specs.Rejudgings.{numbered_data}
use Rattle.contest_view.proofs.rejudgings.write_numbered.Given as goal

-- what is written so far, and what is left to write
abbrev pub invariant-loop-place : goal.invariant-loop-place
invariant-loop-place l =
    (l.out.tokens ++ flat_map (λ p. data_tokens (numbered_data l.settings p)) (enumerate_from (1 + l.place) (drop l.place l.rejudgings))
    ≡ l.fn.out.tokens ++ flat_map (λ p. data_tokens (numbered_data l.settings p)) (enumerate_from 1 l.rejudgings)) × (l.out.before ≡ l.fn.out.before)
