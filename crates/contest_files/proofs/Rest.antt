-- The records that are still to come, before and after a read.
use Rattle.std.proofs.Common.{◌≡◌, ◌≤◌, ◌<◌, ◌+◌, ◌∙◌, ◌⊎◌, inl, inr, sym, refl, ap, ap₂, ℕ, zero, suc, List, [], ◌∷◌, length, Option, Some, None, Bool, true, false, add-one, arith, Bor}
use Rattle.std.specs.Prelude.{if◌then◌else◌}
use Rattle.csv.specs.Machine.{Read, next_record, ends_at_end, step, is_end, fields_after, field_after}
use Rattle.csv.specs.Reading.{ReadRecord, Reached, default_config, records_from, records_next, source_of, strip_bom}
use Rattle.csv.specs.declared.parser.Config.{Config}
use Rattle.csv.specs.declared.parser.State.{State}
use Rattle.csv.specs.declared.parser.State.TheVariants as st
use Rattle.csv.specs.declared.reader.Reader.{Reader}
use Rattle.csv.proofs.ReadFacts.{rows-end, rows-more}
use Rattle.contest_files.specs.CsvRecords.{rest_of, rows_left, slice_left}

-- a record takes a byte, or is the last
abbrev Taken : List ℕ → Read → Type 0
Taken xs q = (length q.2 + 1 ≤ length xs) ⊎ ((q.2 ≡ []) × (q.1 ≡ st.StartRecord))

longer : (c : ℕ) (xs : List ℕ) (q : Read) → Taken xs q → Taken (c ∷ xs) q
longer c xs q (inl less) = inl (omega (arith, less))
longer c xs q (inr done) = inr done

of_some : Option Read → Read → Read
of_some (Some x) d = x
of_some None d = d

code : Option Read → ℕ
code (Some x) = 1
code None = 0

end_case : (b : Bool) (fs : List (List ℕ)) (q : Read) → (if b then Some (fs, st.StartRecord, []) else None) ≡ Some q → Taken [] q
unfolding of_some code
end_case true fs q e =
    let same : (fs, st.StartRecord, []) ≡ q = ap (λ o. of_some o q) e in
    inr (sym (ap (λ (r : Read). r.2) same), sym (ap (λ (r : Read). r.1) same))
end_case false fs q e = let bad : 0 ≡ 1 = ap code e in absurd (omega (arith, bad))

step_case : (b : Bool) (a : Read) (more : Option Read) (c : ℕ) (xs : List ℕ) (q : Read) → a.2 ≡ xs → (more ≡ Some q → Taken xs q) → (if b then Some a else more) ≡ Some q → Taken (c ∷ xs) q
unfolding of_some
step_case true a more c xs q same rest e =
    let there : a ≡ q = ap (λ o. of_some o q) e in
    let left : q.2 ≡ xs = sym (ap (λ (r : Read). r.2) there) ∙ same in
    inl (rw left (omega arith))
step_case false a more c xs q same rest e = longer c xs q (rest e)

consumes : (cfg : Config) (s : State) (fs : List (List ℕ)) (f : List ℕ) (xs : List ℕ) (q : Read) → next_record cfg s fs f xs ≡ Some q → Taken xs q
unfolding next_record
consumes cfg s fs f [] q e = end_case (ends_at_end s) _ q e
consumes cfg s fs f (c ∷ xs) q e = step_case (is_end (step cfg s c).1) _ _ c xs q refl (consumes cfg (step cfg s c).0 (fields_after (step cfg s c).1 fs f) (field_after (step cfg s c).1 c f) xs q) e

-- an end of a text has no records
at_end : (cfg : Config) (n : ℕ) → records_from cfg n st.StartRecord [] ≡ []
unfolding records_from next_record
at_end cfg zero = refl
at_end cfg (suc n) = refl

over : (cfg : Config) (n : ℕ) (s : State) (xs : List ℕ) → xs ≡ [] → s ≡ st.StartRecord → records_from cfg n s xs ≡ []
over cfg n s xs e b = rw (e, b) (at_end cfg n)

same_next : (cfg : Config) (n m : ℕ) (xs : List ℕ) (o : Option Read)
    → ((q : Read) → o ≡ Some q → records_from cfg n q.1 q.2 ≡ records_from cfg m q.1 q.2)
    → records_next (records_from cfg n) o ≡ records_next (records_from cfg m) o
same_next cfg n m xs None h = refl
same_next cfg n m xs (Some q) h = ap (λ more. q.0 ∷ more) (h q refl)

-- a count of turns past the text's bytes is as good as any other
enough : (cfg : Config) (n m : ℕ) (s : State) (xs : List ℕ) → length xs < n → length xs < m → records_from cfg n s xs ≡ records_from cfg m s xs
unfolding records_from
enough cfg zero m s xs l k = absurd (omega (arith, l))
enough cfg (suc n) zero s xs l k = absurd (omega (arith, k))
enough cfg (suc n) (suc m) s xs l k = same_next cfg n m xs (next_record cfg s [] [] xs) (λ q e. elim (consumes cfg s [] [] xs q e) [
  | inl less ↦ enough cfg n m q.1 q.2 (omega (arith, less, l)) (omega (arith, less, k))
  | inr done ↦ over cfg n q.1 q.2 done.0 done.1 ∙ sym (over cfg m q.1 q.2 done.0 done.1)
])

one_turn : (cfg : Config) (n : ℕ) (s : State) (xs : List ℕ) → records_from cfg (n + 1) s xs ≡ records_next (records_from cfg n) (next_record cfg s [] [] xs)
unfolding records_from
one_turn cfg n s xs = rw (add-one n) refl

-- the records of a text are the next one and those of what it leaves
pub rest_more : (s : State) (xs : List ℕ) (q : Read) → next_record default_config s [] [] xs ≡ Some q → rest_of s xs ≡ q.0 ∷ rest_of q.1 q.2
rest_more s xs q e =
    let left : records_from default_config (length xs) q.1 q.2 ≡ rest_of q.1 q.2 = elim (consumes default_config s [] [] xs q e) [
      | inl less ↦ enough default_config (length xs) (length q.2 + 1) q.1 q.2 (omega (arith, less)) (omega arith)
      | inr done ↦ over default_config (length xs) q.1 q.2 done.0 done.1 ∙ sym (over default_config (length q.2 + 1) q.1 q.2 done.0 done.1)
    ] in
    one_turn default_config (length xs) s xs ∙ ap (records_next (records_from default_config (length xs))) e ∙ ap (λ more. q.0 ∷ more) left

pub rest_end : (s : State) (xs : List ℕ) → next_record default_config s [] [] xs ≡ None → rest_of s xs ≡ []
rest_end s xs e = one_turn default_config (length xs) s xs ∙ ap (records_next (records_from default_config (length xs))) e

count_next : (cfg : Config) (n : ℕ) (o : Option Read) → ((s : State) (xs : List ℕ) → length (records_from cfg n s xs) ≤ n) → length (records_next (records_from cfg n) o) ≤ n + 1
count_next cfg n None h = omega arith
count_next cfg n (Some q) h = let l = h q.1 q.2 in omega (arith, l)

count : (cfg : Config) (n : ℕ) (s : State) (xs : List ℕ) → length (records_from cfg n s xs) ≤ n
unfolding records_from
count cfg zero s xs = omega arith
count cfg (suc n) s xs = let l = count_next cfg n (next_record cfg s [] [] xs) (count cfg n) in omega (arith, l)

strip_less : (xs : List ℕ) → length (strip_bom xs) ≤ length xs
unfolding strip_bom
strip_less [] = omega arith
strip_less (a ∷ []) = omega arith
strip_less (a ∷ b ∷ []) = omega arith
strip_less (a ∷ b ∷ c ∷ rest) = grind arith

-- a text has no more records than bytes, and one
pub few : (xs : List ℕ) → length (rest_of st.StartRecord (strip_bom xs)) ≤ length xs + 1
few xs =
    let l = count default_config (length (strip_bom xs) + 1) st.StartRecord (strip_bom xs) in
    let k = strip_less xs in
    omega (arith, l, k)

-- what a read that found a record, or none, leaves
pub left_more : (a b : Reader (Bor (List ℕ))) (f : List (List ℕ)) (xs : List ℕ) → a.config ≡ default_config → source_of slice_left a ≡ Some xs → ReadRecord slice_left a b true f
    → (ys : List ℕ) × (source_of slice_left b ≡ Some ys) × (rows_left a ≡ f ∷ rows_left b)
unfolding Reached
left_more a b f xs ec ex r =
    let m = rows-more slice_left a b f default_config a.state xs xs [] ec ex (refl, refl) r in
    let q = m.2.0 in
    let next = rest_more a.state xs q m.2.1 in
    let state : q.1 ≡ b.state = m.2.3.0 in
    let bytes : q.2 ≡ m.0 = m.2.3.1 in
    let tail : rest_of q.1 q.2 ≡ rest_of b.state m.0 = rw (state, bytes) refl in
    let head : q.0 ≡ f = sym m.2.2 in
    (m.0, m.1, rw (ex, m.1) (next ∙ ap₂ (λ g more. g ∷ more) head tail))

pub left_end : (a b : Reader (Bor (List ℕ))) (f : List (List ℕ)) (xs : List ℕ) → a.config ≡ default_config → source_of slice_left a ≡ Some xs → ReadRecord slice_left a b false f
    → rows_left a ≡ []
left_end a b f xs ec ex r = rw ex (rest_end a.state xs (rows-end slice_left a b f default_config xs ec ex r))
