-- Which attempts count: those up to the first that solves.
use Rattle.std.proofs.Common.{◌≡◌, Bool, true, false, cond, List, [], ◌∷◌, ◌++◌, length, map, filter, ◌≤◌, None, is_some, refl, sym, ap, ◌∙◌, append_assoc, append-nil, length-append, arith}
use Rattle.std.specs.List.{list_any, enumerate_from, find}
use Rattle.std.proofs.Math.Seq.{take-append_seam}
use Rattle.std.proofs.lemmas.List.Folds.{list_any-append}
use Rattle.std.proofs.lemmas.Bool.{false≢true}
use Rattle.std.proofs.lemmas.Grind.{common_steps}
use Rattle.contest_score.specs.declared.attempt.Attempt.{Attempt}
use Rattle.contest_score.specs.Scoring.{is_solving, counts_at, counted}

-- up to the first that solves
abbrev pub until_solved : List Attempt → List Attempt
until_solved [] = []
until_solved (x ∷ xs) = x ∷ cond (is_solving x) [] (until_solved xs)

-- those of xs that count in the whole list, in which ws stands before them
abbrev pub counted_after : List Attempt → List Attempt → List Attempt
counted_after ws xs = map (λ p. p.1) (filter (counts_at (ws ++ xs)) (enumerate_from (length ws) xs))

-- after one that solves nothing counts
pub nothing_counts : (ws xs : List Attempt) → list_any is_solving ws ≡ true → counted_after ws xs ≡ []
nothing_counts ws [] h = refl
nothing_counts ws (x ∷ xs) h =
    let more : list_any is_solving (ws ++ x ∷ []) ≡ true = rw (list_any-append, h) refl in
    rw (take-append_seam, h) (rw append_assoc at (rw length-append at (nothing_counts (ws ++ x ∷ []) xs more)))

counts_next : (ws : List Attempt) (x : Attempt) (xs : List Attempt) → list_any is_solving ws ≡ false → (b : Bool) → is_solving x ≡ b → (list_any is_solving (ws ++ x ∷ []) ≡ false → counted_after (ws ++ x ∷ []) xs ≡ until_solved xs) → counted_after ws (x ∷ xs) ≡ until_solved (x ∷ xs)
counts_next ws x xs h true e more =
    let now : list_any is_solving (ws ++ x ∷ []) ≡ true = rw (list_any-append, h, e) refl in
    let rest = rw append_assoc at (rw length-append at (nothing_counts (ws ++ x ∷ []) xs now)) in
    rw (take-append_seam, h, e) (ap (λ r. x ∷ r) rest)
counts_next ws x xs h false e more =
    let now : list_any is_solving (ws ++ x ∷ []) ≡ false = rw (list_any-append, h, e) refl in
    let rest = rw append_assoc at (rw length-append at (more now)) in
    rw (take-append_seam, h, e) (ap (λ r. x ∷ r) rest)

-- up to the first that solves, of what follows ws
pub counts_until : (ws xs : List Attempt) → list_any is_solving ws ≡ false → counted_after ws xs ≡ until_solved xs
counts_until ws [] h = refl
counts_until ws (x ∷ xs) h = counts_next ws x xs h (is_solving x) refl (counts_until (ws ++ x ∷ []) xs)

pub counted-until : (xs : List Attempt) → counted xs ≡ until_solved xs
counted-until xs = counts_until [] xs refl

unsolved_head : (w : Attempt) (ws : List Attempt) → list_any is_solving (w ∷ ws) ≡ false → (is_solving w ≡ false) × (list_any is_solving ws ≡ false)
unsolved_head w ws h = grind (arith, common_steps)

pub until_solved-append : (ws xs : List Attempt) → list_any is_solving ws ≡ false → until_solved (ws ++ xs) ≡ ws ++ until_solved xs
until_solved-append [] xs h = refl
until_solved-append (w ∷ ws) xs h =
    let both = unsolved_head w ws h in rw both.0 (ap (λ r. w ∷ r) (until_solved-append ws xs both.1))

-- where nothing solves, all count
pub counted_open : (xs : List Attempt) → list_any is_solving xs ≡ false → counted xs ≡ xs
counted_open xs h = counted-until xs ∙ (rw append-nil at (until_solved-append xs [] h))

past_next : (x : Attempt) (xs ys : List Attempt) → list_any is_solving (x ∷ xs) ≡ true → (b : Bool) → is_solving x ≡ b → (list_any is_solving xs ≡ true → until_solved (xs ++ ys) ≡ until_solved xs) → until_solved (x ∷ xs ++ ys) ≡ until_solved (x ∷ xs)
past_next x xs ys h true e more = rw e refl
past_next x xs ys h false e more = rw e (ap (λ r. x ∷ r) (more (rw e at h)))

nothing_after : (b : Bool) → cond b [] (until_solved []) ≡ []
nothing_after true = refl
nothing_after false = refl

length_next : (x : Attempt) (xs : List Attempt) (b : Bool) → is_solving x ≡ b → length (until_solved xs) ≤ length xs → length (until_solved (x ∷ xs)) ≤ length (x ∷ xs)
length_next x xs true e h = rw e (omega arith)
length_next x xs false e h = rw e (omega (arith, h))

-- past one that solves nothing counts
pub until_solved_past : (xs ys : List Attempt) → list_any is_solving xs ≡ true → until_solved (xs ++ ys) ≡ until_solved xs
until_solved_past [] ys h = absurd (false≢true h)
until_solved_past (x ∷ xs) ys h = past_next x xs ys h (is_solving x) refl (until_solved_past xs ys)

pub counted_past : (xs ys : List Attempt) → list_any is_solving xs ≡ true → counted (xs ++ ys) ≡ counted xs
counted_past xs ys h = counted-until (xs ++ ys) ∙ (until_solved_past xs ys h ∙ sym (counted-until xs))

-- where nothing solves, one more counts too
pub counted_more : (xs : List Attempt) (x : Attempt) → list_any is_solving xs ≡ false → counted (xs ++ x ∷ []) ≡ xs ++ x ∷ []
counted_more xs x h = counted-until (xs ++ x ∷ []) ∙ (until_solved-append xs (x ∷ []) h ∙ ap (λ r. xs ++ x ∷ r) (nothing_after (is_solving x)))

length_until : (xs : List Attempt) → length (until_solved xs) ≤ length xs
length_until [] = omega arith
length_until (x ∷ xs) = length_next x xs (is_solving x) refl (length_until xs)

pub length-counted : (xs : List Attempt) → length (counted xs) ≤ length xs
length-counted xs = rw counted-until (length_until xs)

find_next : (p : Attempt → Bool) (x : Attempt) (xs : List Attempt) → list_any p (x ∷ xs) ≡ false → (b : Bool) → p x ≡ b → (list_any p xs ≡ false → find p xs ≡ None) → find p (x ∷ xs) ≡ None
find_next p x xs h true e more = absurd (false≢true (sym (rw e at h)))
find_next p x xs h false e more = rw e (more (rw e at h))

pub find_none : (p : Attempt → Bool) (xs : List Attempt) → list_any p xs ≡ false → find p xs ≡ None
find_none p [] h = refl
find_none p (x ∷ xs) h = find_next p x xs h (p x) refl (find_none p xs)

-- where one solves, one is found
found_next : (x : Attempt) (xs : List Attempt) → list_any is_solving (x ∷ xs) ≡ true → (b : Bool) → is_solving x ≡ b → (list_any is_solving xs ≡ true → is_some (find is_solving (until_solved xs)) ≡ true) → is_some (find is_solving (until_solved (x ∷ xs))) ≡ true
found_next x xs h true e more = rw e refl
found_next x xs h false e more = rw e (more (rw e at h))

found_until : (xs : List Attempt) → list_any is_solving xs ≡ true → is_some (find is_solving (until_solved xs)) ≡ true
found_until [] h = absurd (false≢true h)
found_until (x ∷ xs) h = found_next x xs h (is_solving x) refl (found_until xs)

pub found_counted : (xs : List Attempt) → list_any is_solving xs ≡ true → is_some (find is_solving (counted xs)) ≡ true
found_counted xs h = rw counted-until (found_until xs h)
