-- A replayed contest tells of each submission what its record said.
use Rattle.std.proofs.Common.{ℕ, ◌≡◌, ◌+◌, ◌<◌, ◌≤◌, inl, inr, Bool, true, false, List, [], ◌∷◌, ◌++◌, length, map, Option, Some, None, refl, sym, ap, ◌∙◌, arith, append-nil, append_assoc}
use Rattle.std.specs.Prelude.{◌==◌, nat_eq}
use Rattle.std.specs.List.{last_or}
use Rattle.std.proofs.lemmas.Bool.{cases_Bool, eqb-true, eq-eqb}
use Rattle.std.proofs.lemmas.Bool.Decides.{nat_tests}
use Rattle.std.proofs.lemmas.List.{length-append}
use Rattle.std.proofs.lemmas.Simd.{map-map}
use Rattle.std.proofs.lemmas.List.Elements.{filter-append}
use Rattle.contest_types.specs.Setup.{Setup}
use Rattle.contest_types.specs.State.{releases_on}
use Rattle.contest_types.specs.Sight.{judgement_of, type_of}
use Rattle.contest_types.specs.declared.audience.Audience.{Audience}
use Rattle.contest_types.specs.declared.marks.Marks.{Marks}
use Rattle.contest_types.specs.declared.submission.Release.{Release}
use Rattle.contest_score.specs.Contest.{judged_submissions, seen_board}
use Rattle.contest_score.specs.MaskedCells.{cell_for}
use Rattle.contest_score.specs.Ranking.{board_of, is_public}
use Rattle.contest_score.specs.declared.submission.JudgedSubmission.{JudgedSubmission}
use Rattle.contest_replay.specs.ReplayLists.{team_submissions}
use Rattle.contest_replay.specs.ReplayContest.{Numbered, numbered_after, released, releases_of, replay_contest}
use Rattle.contest_replay.proofs.ReplayStateLemmas.{apart}

abbrev pub count : ℕ → List JudgedSubmission → ℕ
count team us = length (team_submissions team us)

below : (a b : ℕ) → b < a → nat_eq a b ≡ false
below a b h = grind (arith, nat_tests)

-- a submission more
count_more : (team : ℕ) (us : List JudgedSubmission) (u : JudgedSubmission) → count team (us ++ u ∷ []) ≡ count team us + count team (u ∷ [])
count_more team us u = ap length (filter-append (λ v. v.team == team) us (u ∷ [])) ∙ length-append (team_submissions team us) (team_submissions team (u ∷ []))

count_own : (u : JudgedSubmission) → count u.team (u ∷ []) ≡ 1
count_own u = rw (eq-eqb u.team u.team refl) refl

-- what is released on a submission isn't on one of another team, nor on one with another number
other_team : (n : Numbered) (verdict : Option ℕ) (team number : ℕ) → nat_eq n.row.team team ≡ false → releases_on team number (released n verdict) ≡ []
other_team n None team number h = refl
other_team n (Some v) team number h = rw h refl

other_number : (n : Numbered) (verdict : Option ℕ) (team number : ℕ) (b : Bool) → nat_eq n.row.team team ≡ b → nat_eq n.number number ≡ false → releases_on team number (released n verdict) ≡ []
other_number n None team number b t h = refl
other_number n (Some v) team number true t h = rw (t, h) refl
other_number n (Some v) team number false t h = rw t refl

own_releases : (n : Numbered) (verdict : Option ℕ) → releases_on n.row.team n.number (released n verdict) ≡ released n verdict
own_releases n None = refl
own_releases n (Some v) = rw (eq-eqb n.row.team n.row.team refl, eq-eqb n.number n.number refl) refl

-- a team's number is past those of its earlier submissions
later : (earlier : List JudgedSubmission) (u : JudgedSubmission) (team number : ℕ) → number ≤ count team earlier
    → releases_on team number (released (record { number = count u.team earlier + 1; row = u }) u.verdict) ≡ []
later earlier u team number h = elim (cases_Bool (nat_eq u.team team)) [
  | inl t ↦ other_number (record { number = count u.team earlier + 1; row = u }) u.verdict team number true t
      (below (count u.team earlier + 1) number (omega (arith, h, ap (λ k. count k earlier) (eqb-true u.team team t))))
  | inr f ↦ other_team (record { number = count u.team earlier + 1; row = u }) u.verdict team number f
]

-- the submissions still to come have greater numbers
none_later : (earlier us : List JudgedSubmission) (team number : ℕ) → number ≤ count team earlier → releases_on team number (releases_of (numbered_after earlier us)) ≡ []
none_later earlier [] team number h = refl
none_later earlier (u ∷ us) team number h =
    filter-append _ (released (record { number = count u.team earlier + 1; row = u }) u.verdict) (releases_of (numbered_after (earlier ++ u ∷ []) us))
    ∙ rw (later earlier u team number h, none_later (earlier ++ u ∷ []) us team number (omega (arith, h, count_more team earlier u))) refl

-- the verdict that releases come to
abbrev told : List Release → Option ℕ
told vs = type_of (last_or None (map judgement_of vs))

told_of : (n : Numbered) (verdict : Option ℕ) → told (released n verdict) ≡ verdict
told_of n None = refl
told_of n (Some v) = refl

abbrev judged : List Release → Numbered → JudgedSubmission
judged vs n = record { team = n.row.team; problem = n.row.problem; time = n.row.time; verdict = told (releases_on n.row.team n.number vs) }

-- nothing was released on submissions that are still to come
abbrev pub IsBefore : List JudgedSubmission → List Release → Type 0
IsBefore earlier vs = (team number : ℕ) → count team earlier < number → releases_on team number vs ≡ []

pub is_before_more : (earlier : List JudgedSubmission) (vs : List Release) (u : JudgedSubmission) → IsBefore earlier vs
    → IsBefore (earlier ++ u ∷ []) (vs ++ released (record { number = count u.team earlier + 1; row = u }) u.verdict)
is_before_more earlier vs u h team number l =
    let n : Numbered = record { number = count u.team earlier + 1; row = u } in
    let none : releases_on team number (released n u.verdict) ≡ [] = elim (cases_Bool (nat_eq u.team team)) [
      | inl t ↦ other_number n u.verdict team number true t
          (apart (count u.team earlier + 1) number (omega (arith, l, count_more team earlier u, count_own u, ap (λ k. count k earlier) (eqb-true u.team team t), ap (λ k. count k (u ∷ [])) (eqb-true u.team team t))))
      | inr f ↦ other_team n u.verdict team number f
    ] in
    filter-append _ vs (released n u.verdict) ∙ rw (none, h team number (omega (arith, l, count_more team earlier u))) refl

head_told : (earlier us : List JudgedSubmission) (u : JudgedSubmission) (before : List Release) → IsBefore earlier before
    → told (releases_on u.team (count u.team earlier + 1) (before ++ releases_of (numbered_after earlier (u ∷ us)))) ≡ u.verdict
head_told earlier us u before h =
    let n : Numbered = record { number = count u.team earlier + 1; row = u } in
    let rest : List Release = releases_of (numbered_after (earlier ++ u ∷ []) us) in
    let after : releases_on u.team n.number rest ≡ [] =
    none_later (earlier ++ u ∷ []) us u.team n.number (omega (arith, count_more u.team earlier u, count_own u)) in
    let first : releases_on u.team n.number before ≡ [] = h u.team n.number (omega arith) in
    let split : releases_on u.team n.number (before ++ (released n u.verdict ++ rest)) ≡ released n u.verdict =
    filter-append _ before (released n u.verdict ++ rest)
    ∙ (rw first (filter-append _ (released n u.verdict) rest ∙ rw (after, own_releases n u.verdict) (append-nil (released n u.verdict)))) in
    ap told split ∙ told_of n u.verdict

told_all : (vs before : List Release) (earlier us : List JudgedSubmission) → vs ≡ before ++ releases_of (numbered_after earlier us) → IsBefore earlier before
    → map (judged vs) (numbered_after earlier us) ≡ us
told_all vs before earlier [] e h = refl
told_all vs before earlier (u ∷ us) e h =
    let n : Numbered = record { number = count u.team earlier + 1; row = u } in
    let same_head : judged vs n ≡ u = ap (λ v. record { team = u.team; problem = u.problem; time = u.time; verdict = v }) (rw e (head_told earlier us u before h)) in
    let same_tail : map (judged vs) (numbered_after (earlier ++ u ∷ []) us) ≡ us =
    told_all vs (before ++ released n u.verdict) (earlier ++ u ∷ []) us (e ∙ sym (append_assoc before (released n u.verdict) (releases_of (numbered_after (earlier ++ u ∷ []) us)))) (is_before_more earlier before u h) in
    rw (same_head, same_tail) refl

-- scoring reads of a replayed contest what the records said
pub replayed_judged : (s : Setup) (marks : Marks) (us : List JudgedSubmission) → judged_submissions (replay_contest s marks us) ≡ us
replayed_judged s marks us =
    map-map _ _ (numbered_after [] us) ∙ told_all (releases_of (numbered_after [] us)) [] [] us refl (λ team number l. refl)

-- so its board is the one of the cells of those
pub replayed_board : (who : Audience) (s : Setup) (marks : Marks) (now : ℕ) (us : List JudgedSubmission)
    → seen_board who now None (replay_contest s marks us) ≡ board_of s (is_public s) (cell_for who s marks now us)
replayed_board who s marks now us = ap (λ vs. board_of s (is_public s) (cell_for who s marks now vs)) (replayed_judged s marks us)
