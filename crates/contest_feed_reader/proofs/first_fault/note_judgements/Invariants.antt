use Rattle.std.proofs.Common.{◌≡◌, drop, List, ℕ}
use Rattle.std.specs.Prelude.{fold}
use Rattle.contest_feed_reader.specs.IdSets.{IsIdSet}
use Rattle.contest_feed_reader.specs.References.{earlier, judgement_faults}
use Rattle.contest_feed_reader.proofs.first_fault.note_judgements.Given as goal

abbrev pub invariant-loop-row : goal.invariant-loop-row
invariant-loop-row l = (ids : List (List ℕ)) → IsIdSet l.types ids → fold earlier l.first (judgement_faults ids (drop l.row-index l.judgements)) ≡ fold earlier l.fn.first (judgement_faults ids l.judgements)
