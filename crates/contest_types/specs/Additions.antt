-- What adding a row to a list comes to.
use Rattle.std.specs.Prelude.{ℕ, ◌≡◌, Bool, true, false, List, [], ◌∷◌, ◌++◌, length, Option, None, Some, Result, Ok, Err, if◌then◌else◌, nat_le, find}
use Rattle.std.specs.Str.{bytes_eq}
use Rattle.contest_types.specs.declared.id_list.IdMatch.{IdMatch}
use Rattle.contest_types.specs.declared.id_list.IdMatch.TheVariants.{New, Same, Other}
use Rattle.contest_types.specs.declared.refusal.Cause.{Cause}
use Rattle.contest_types.specs.declared.refusal.Cause.TheVariants.{KeyReused, TableFull}
use Rattle.contest_types.specs.declared.refusal.RowFault.{RowFault}
use Rattle.contest_types.specs.declared.refusal.RowFault.TheVariants.{Fault, Memory}

-- what a row finds under its id
abbrev pub id_match_by : {T : Type 0} → (T → T → Bool) → T → Option T → IdMatch
id_match_by same row None = New
id_match_by same row (Some other) = if same other row then Same else Other

abbrev pub id_match_of : {T : Type 0} → (T → List ℕ) → (T → T → Bool) → List T → T → IdMatch
id_match_of id same rows row = id_match_by same row (find (λ other. bytes_eq (id row) (id other)) rows)

-- whether the row is added, or why it can't be: an equal one that stands adds nothing
abbrev pub addition_by : IdMatch → (full : Bool) → Result Bool Cause
addition_by Same full = Ok false
addition_by Other full = Err KeyReused
addition_by New full = if full then Err TableFull else Ok true

-- the same of a row with a second key, which may be held by another row
abbrev pub keyed_addition : IdMatch → (held : Bool) → (full : Bool) → Result Bool Cause
keyed_addition New held full = if held then Err KeyReused else addition_by New full
keyed_addition Same held full = addition_by Same full
keyed_addition Other held full = addition_by Other full

abbrev pub addition : {T : Type 0} → (T → List ℕ) → (T → T → Bool) → (most : ℕ) → List T → T → Result Bool Cause
addition id same most rows row = addition_by (id_match_of id same rows row) (nat_le most (length rows))

-- the rows with one more, where it is added
abbrev pub grown : {T : Type 0} → (added : Bool) → List T → T → List T
grown added rows row = if added then rows ++ row ∷ [] else rows

-- memory was refused, or this is the cause
abbrev pub IsFaultOf : {A : Type 0} → RowFault → Result A Cause → Type 0
IsFaultOf Memory answer = Unit {0}
IsFaultOf (Fault cause) answer = answer ≡ Err cause
