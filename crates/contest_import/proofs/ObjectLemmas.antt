-- Members of JSON objects, and the items of arrays.
use Rattle.std.proofs.Common.{ℕ, ◌≡◌, ◌≤◌, Bool, true, false, List, Option, Some, None, refl, arith}
use Rattle.std.specs.Prelude.{nat_le, if◌then◌else◌}
use Rattle.std.specs.Option.{option_and_then}
use Rattle.std.proofs.lemmas.Bool.Decides.{nat_tests}
use Rattle.serde_json.specs.Data.{Data}
use Rattle.serde_json.specs.Find.{as_number, as_u64, get}
use Rattle.contest_files.specs.JsonMembers.{number_in, number_to}

within : (most n : ℕ) (found : Option ℕ) → Some n ≡ option_and_then (λ k. if nat_le k most then Some k else None) found → n ≤ most
within most n None is = absurd (cc is)
within most n (Some k) is =
    let go : (b : Bool) → nat_le k most ≡ b → Some n ≡ (if b then Some k else None) → n ≤ most = elim [
      | true ↦ λ less e. (let same : n ≡ k = cc e in rw same (grind (arith, nat_tests, less)))
      | false ↦ λ more e. absurd (cc e)
    ] in
    go (nat_le k most) refl is

-- a number that is read is within its limit
pub number_within : (most n : ℕ) (name : List ℕ) (d : Data) → Some n ≡ number_in most name d → n ≤ most
number_within most n name d is =
    let go : (member : Option Data) → Some n ≡ option_and_then (number_to most) member → n ≤ most = elim [
      | None ↦ λ e. absurd (cc e)
      | Some v ↦ λ e. within most n (option_and_then as_u64 (as_number v)) e
    ] in
    go (get name d) is
