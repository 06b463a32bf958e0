-- Whose a clarification is, and who may send it (own).
use Rattle.std.specs.Prelude.{ℕ, Bool, true, false, not, ◌&&◌, ◌==◌, nat_lt, List, [], length, Option, Some, None, is_some, if◌then◌else◌}
use Rattle.std.specs.Borrow.{Bor}
use Rattle.std.specs.List.{list_any}
use Rattle.std.specs.Option.{option_eq, option_map_or}
use Rattle.std.specs.Str.{bytes_eq}
use Rattle.contest_types.specs.Accounts.{account_named}
use Rattle.contest_types.specs.State.{FixedPart, same_addressee}
use Rattle.contest_types.specs.ValidClarifications.{is_an_addressee, is_well_sent}
use Rattle.contest_types.specs.declared.clarification.Clarification.{Clarification}
use Rattle.contest_types.specs.declared.clarification.Addressee.{Addressee}
use Rattle.contest_types.specs.declared.clarification.Reference.{Reference}
use Rattle.contest_store_valid.specs.Keys.{same_pair, read}

abbrev pub addressee_of : Clarification → Addressee
addressee_of c = c.addressee

-- what names a clarification
abbrev pub reference_to : Clarification → Reference
reference_to c = record { addressee = c.addressee; number = c.number }

abbrev pub same_reference : Reference → Reference → Bool
same_reference r q = same_addressee r.addressee q.addressee && (r.number == q.number)

-- one of the clarifications is this one
abbrev pub has_one : List Clarification → Reference → Bool
has_one cs r = list_any (λ c. same_reference (reference_to c) r) cs

-- whose key a clarification has: its addressee's if a team wrote it, its account's if the jury did
abbrev pub whose : Clarification → Option Addressee × List ℕ
whose c = if c.from_jury then (None, c.account) else (Some c.addressee, [])

abbrev pub same_sender : Option Addressee × List ℕ → Option Addressee × List ℕ → Bool
same_sender = same_pair (option_eq same_addressee) bytes_eq

-- a key that is borrowed, with whose it is
abbrev pub read_sent : (Option Addressee × Bor (List ℕ)) × Bor (List ℕ) → (Option Addressee × List ℕ) × List ℕ
read_sent k = (read k.0, k.1.now)

-- written by the jury, or by a team
abbrev pub is_of : (from_jury : Bool) → Clarification → Bool
is_of true c = c.from_jury
is_of false c = not c.from_jury

-- it names what is there but for what it answers, and is sent by who may send it
abbrev pub is_sent : FixedPart → Clarification → Bool
is_sent f c =
    is_an_addressee f c.addressee && is_some (account_named f.accounts c.account)
    && option_map_or (λ problem. nat_lt problem (length f.settings.problems)) c.problem true && is_well_sent f c
