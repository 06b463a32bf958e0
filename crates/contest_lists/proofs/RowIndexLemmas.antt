-- How submissions stand among rows, as rows are added.
use Rattle.std.proofs.Common.{◌≡◌, ◌<◌, ◌≤◌, ◌+◌, ◌∙◌, ℕ, zero, suc, Bool, true, false, cond, List, [], ◌∷◌, ◌++◌, append-nil, length, take, get_or, Option, Some, None, refl, sym, ap, subst, arith}
use Rattle.std.specs.Prelude.{◌==◌, filter, slice_get, if◌then◌else◌}
use Rattle.std.specs.List.{last_or}
use Rattle.std.proofs.lemmas.Bool.{eqb-true}
use Rattle.std.proofs.lemmas.List.{length-take, take_more, length_push}
use Rattle.std.proofs.lemmas.List.Elements.{filter-append}
use Rattle.contest_types.specs.State.{SubmissionRef}
use Rattle.contest_types.proofs.LastLemmas.{last_more}
use Rattle.contest_types.proofs.PlaceLemmas.{and_left, and_right}
use Rattle.contest_lists.specs.RowIndex.{IsIndexed, Stands, next_after, noted_with}
use Rattle.contest_lists.specs.RowsOn.{count_on, is_on, last_row}
use Rattle.contest_lists.specs.declared.indexed_rows.Standing.{Standing}

-- what stands at a place stands there when a row is added
kept_at : {R : Type 0} (rows : List R) (row : R) (k : ℕ) → k < length rows → slice_get (rows ++ row ∷ []) k ≡ slice_get rows k
kept_at [] row k l = absurd (omega (arith, l))
kept_at (x ∷ rows) row zero l = refl
kept_at (x ∷ rows) row (suc k) l = kept_at rows row k (omega (arith, l))

-- and the new one at the end
at_end : {R : Type 0} (rows : List R) (row : R) → slice_get (rows ++ row ∷ []) (length rows) ≡ Some row
at_end [] row = refl
at_end (x ∷ rows) row = at_end rows row

-- the rows on a submission after one more
on_more : {R : Type 0} (of : R → SubmissionRef) (rows : List R) (row : R) (team number : ℕ)
    → filter (is_on of team number) (rows ++ row ∷ []) ≡ filter (is_on of team number) rows ++ cond (is_on of team number row) (row ∷ []) []
on_more of rows row team number = filter-append (is_on of team number) rows (row ∷ [])

module _ {R : Type 0} (of : R → SubmissionRef) (rows : List R) (row : R) (team number : ℕ) where
  own : List R
  own = filter (is_on of team number) rows

  -- where it is on another submission, this one stands as before
  others : (o : Option Standing) → is_on of team number row ≡ false → Stands rows o (count_on of rows team number) (last_row of rows team number)
      → Stands (rows ++ row ∷ []) o (count_on of (rows ++ row ∷ []) team number) (last_row of (rows ++ row ∷ []) team number)
  others o other stands =
      let same : filter (is_on of team number) (rows ++ row ∷ []) ≡ filter (is_on of team number) rows =
      on_more of rows row team number ∙ (ap (λ b. filter (is_on of team number) rows ++ cond b (row ∷ []) []) other ∙ append-nil (filter (is_on of team number) rows)) in
      let go : (o : Option Standing) → Stands rows o (count_on of rows team number) (last_row of rows team number) → Stands (rows ++ row ∷ []) o (count_on of rows team number) (last_row of rows team number) = elim [
        | None ↦ λ s. s
        | (Some one) ↦ λ s. (let more = length_push rows row in (s.0, omega (arith, s.1, more), kept_at rows row one.last s.1 ∙ s.2))
      ] in
      subst (λ own. Stands (rows ++ row ∷ []) o (length own) (last_or None own)) (sym same) (go o stands)

  -- where it is on this one, it is counted, and the last
  on_this : (o : Option Standing) → is_on of team number row ≡ true → Stands rows o (count_on of rows team number) (last_row of rows team number)
      → Stands (rows ++ row ∷ []) (Some (record { next = next_after o + 1; last = length rows })) (count_on of (rows ++ row ∷ []) team number) (last_row of (rows ++ row ∷ []) team number)
  on_this o this stands =
      let grown : filter (is_on of team number) (rows ++ row ∷ []) ≡ filter (is_on of team number) rows ++ row ∷ [] =
      on_more of rows row team number ∙ ap (λ b. filter (is_on of team number) rows ++ cond b (row ∷ []) []) this in
      let count : (o : Option Standing) → Stands rows o (count_on of rows team number) (last_row of rows team number) → next_after o ≡ count_on of rows team number + 1 = elim [
        | None ↦ λ s. (let none = s.0 in omega (arith, none))
        | (Some one) ↦ λ s. s.0
      ] in
      let more = length_push rows row in
      subst (λ own. Stands (rows ++ row ∷ []) (Some (record { next = next_after o + 1; last = length rows })) (length own) (last_or None own)) (sym grown) (
        ap (λ n. n + 1) (count o stands) ∙ ap (λ n. n + 1) (sym (length_push (filter (is_on of team number) rows) row)),
        omega (arith, more),
        at_end rows row ∙ sym (last_more None (filter (is_on of team number) rows) row),
      )

-- one more row is noted
pub indexed_more : {R : Type 0} (of : R → SubmissionRef) (rows : List R) (row : R) (old new : ℕ → ℕ → Option Standing) → IsIndexed of old rows
    → ((team number : ℕ) → new team number ≡ noted_with old ((of row).team, (of row).number) (length rows) team number) → IsIndexed of new (rows ++ row ∷ [])
indexed_more of rows row old new before after team number =
    let standsAfter : Option Standing → Type 0 = λ o. Stands (rows ++ row ∷ []) o (count_on of (rows ++ row ∷ []) team number) (last_row of (rows ++ row ∷ []) team number) in
    let next : Standing = record { next = next_after (old (of row).team (of row).number) + 1; last = length rows } in
    let on : is_on of team number row ≡ true → standsAfter (Some next) = λ is.
    (let its_team : (of row).team ≡ team = eqb-true (of row).team team (and_left _ _ is) in
    let its_number : (of row).number ≡ number = eqb-true (of row).number number (and_right ((of row).team == team) _ is) in
    let same : old (of row).team (of row).number ≡ old team number = ap (λ t. old t (of row).number) its_team ∙ ap (old team) its_number in
    subst (λ o. standsAfter (Some (record { next = next_after o + 1; last = length rows }))) (sym same) (on_this of rows row team number (old team number) is (before team number))) in
    let go : (b : Bool) → is_on of team number row ≡ b → standsAfter (if b then Some next else old team number) = elim [
      | true ↦ λ is. on is
      | false ↦ λ is. others of rows row team number (old team number) is (before team number)
    ] in
    subst standsAfter (sym (after team number)) (go (is_on of team number row) refl)

-- so far and the next
pub indexed_next : {R : Type 0} (of : R → SubmissionRef) (rows : List R) (k : ℕ) (row : R) (old new : ℕ → ℕ → Option Standing) → k < length rows → row ≡ get_or rows k row
    → IsIndexed of old (take k rows) → ((team number : ℕ) → new team number ≡ noted_with old ((of row).team, (of row).number) k team number) → IsIndexed of new (take (k + 1) rows)
indexed_next of rows k row old new l at before after =
    let long : length (take k rows) ≡ k = omega (arith, length-take k rows, l) in
    let grown : take (k + 1) rows ≡ take k rows ++ row ∷ [] = take_more rows k row l ∙ ap (λ r. take k rows ++ r ∷ []) (sym at) in
    subst (IsIndexed of new) (sym grown) (indexed_more of (take k rows) row old new before (rw long after))

-- no more are on a submission than there are
pub few_on : {R : Type 0} (of : R → SubmissionRef) (rows : List R) (team number : ℕ) → count_on of rows team number ≤ length rows
few_on of [] team number = omega arith
few_on of (row ∷ rows) team number =
    let rest = few_on of rows team number in
    let go : (b : Bool) → length (if b then row ∷ filter (is_on of team number) rows else filter (is_on of team number) rows) ≤ length (row ∷ rows) = elim [ true ↦ omega (arith, rest) | false ↦ omega (arith, rest) ] in
    go (is_on of team number row)

-- which the next one on a submission will be
pub next_is : {R : Type 0} (rows : List R) (o : Option Standing) (count : ℕ) (last : Option R) → Stands rows o count last → next_after o ≡ count + 1
next_is rows None count last s = let none = s.0 in omega (arith, none)
next_is rows (Some one) count last s = s.0
