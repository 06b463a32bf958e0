-- The proposal that a row is.
use Rattle.std.specs.Prelude.{ℕ, ◌-◌, nat_le, List, map, Option, Some, None, if◌then◌else◌, codes}
use Rattle.std.specs.Option.{option_and_then, option_map}
use Rattle.std.specs.Str.{bytes_eq}
use Rattle.sqlite_value.specs.Order.{Row, column}
use Rattle.contest_types.specs.IdText.{id_of}
use Rattle.contest_types.specs.Setup.{Setup}
use Rattle.contest_types.specs.declared.limits.TheConstants.{LAST_MOMENT}
use Rattle.contest_types.specs.declared.objects.JudgementType.{JudgementType}
use Rattle.contest_types.specs.declared.proposal.Proposal.{Proposal}
use Rattle.contest_types.specs.declared.proposal.Proposer.{Proposer}
use Rattle.contest_types.specs.declared.proposal.Proposer.TheVariants.{Account, Import}
use Rattle.contest_store_rows.specs.Cells.{number_of, text_of}
use Rattle.contest_store_rows.specs.ListRows.{proposal_row}
use Rattle.contest_store_rows.specs.Readings.{if_its_row, place_in}

-- the id of an account, or `import`
abbrev pub proposer_of : List ℕ → Option Proposer
proposer_of text = if bytes_eq text (codes "import") then Some Import else option_map Account (id_of text)

-- what the cells say, if the proposer and the time are some
abbrev pub proposal_said : Setup → Row → Option Proposal
proposal_said s r =
    option_and_then (λ proposer. if nat_le (number_of (column r 5)) LAST_MOMENT then Some (record {
      team = number_of (column r 1) - 1;
      number = number_of (column r 2);
      verdict = place_in (map (λ (t : JudgementType). t.id) s.types) (column r 3);
      proposer = proposer;
      time = number_of (column r 5);
    }) else None) (proposer_of (text_of (column r 4)))

abbrev pub proposal_in : Setup → ℕ → Row → Option Proposal
proposal_in s n r = option_and_then (if_its_row (proposal_row s n) r) (proposal_said s r)
