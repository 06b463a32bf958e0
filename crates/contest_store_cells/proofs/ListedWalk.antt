-- The walk over the submissions that finds the first ones.
use Rattle.std.proofs.Common.{◌≡◌, ◌+◌, ◌<◌, ◌≤◌, ◌∙◌, ℕ, Bool, true, false, cond, List, [], ◌∷◌, ◌++◌, length, map, take, get_or, refl, sym, ap, append-nil}
use Rattle.std.specs.Prelude.{◌||◌, nat_lt}
use Rattle.std.specs.List.{list_any}
use Rattle.std.proofs.lemmas.Bool.{le-ltb, lt-ltb}
use Rattle.std.proofs.lemmas.List.{map-append}
use Rattle.std.proofs.lemmas.List.Elements.{filter_more}
use Rattle.std.proofs.lemmas.List.Folds.{list_any-append}
use Rattle.contest_types.specs.declared.submission.Submission.{Submission}
use Rattle.contest_score.specs.ScoringLaws.{is_at}
use Rattle.contest_store_cells.specs.CellRows.{first_attempts}
use Rattle.contest_store_cells.specs.Listing.{first_places, of_teams, place_of}
use Rattle.contest_store_cells.proofs.FirstAttempts.{at_place, one_more_first, same_first}

-- what was seen of these submissions, and where their first ones are
pub record Walked (teams : ℕ) (ss : List Submission) (test : ℕ → ℕ → Bool) (found : List (ℕ × ℕ)) : Type 0 where
  pub seen : (t p : ℕ) → test t p ≡ list_any (is_at t p) (of_teams teams ss)
  pub places : found ≡ first_places teams ss

taken : (teams : ℕ) (ss : List Submission) (i : ℕ) (s : Submission) (b : Bool) → i < length ss → s ≡ get_or ss i s → nat_lt s.team teams ≡ b
    → of_teams teams (take (i + 1) ss) ≡ of_teams teams (take i ss) ++ cond b (s ∷ []) []
taken teams ss i s b within is tested =
    filter_more (λ (u : Submission). nat_lt u.team teams) ss i s within
    ∙ (ap (λ (u : Submission). of_teams teams (take i ss) ++ cond (nat_lt u.team teams) (u ∷ []) []) (sym is)
    ∙ ap (λ c. of_teams teams (take i ss) ++ cond c (s ∷ []) []) tested)

-- one more is a first one where none is at its place
attempts_push : (ss : List Submission) (s : Submission) → first_attempts (ss ++ s ∷ []) ≡ first_attempts ss ++ cond (list_any (is_at s.team s.problem) ss) [] (s ∷ [])
attempts_push ss s =
    let go : (b : Bool) → list_any (at_place s) ss ≡ b → first_attempts (ss ++ s ∷ []) ≡ first_attempts ss ++ cond b [] (s ∷ []) = elim [
      | true ↦ λ h. same_first s ss h ∙ sym (append-nil (first_attempts ss))
      | false ↦ λ h. one_more_first s ss h
    ] in
    go (list_any (at_place s) ss) refl

one_seen : (b c : Bool) → (c || (b || false)) ≡ cond b true c
one_seen true true = refl
one_seen true false = refl
one_seen false true = refl
one_seen false false = refl

one_placed : (b : Bool) (s : Submission) → map place_of (cond b [] (s ∷ [])) ≡ cond b [] (place_of s ∷ [])
one_placed true s = refl
one_placed false s = refl

places_push : (ss : List Submission) (s : Submission) → map place_of (first_attempts (ss ++ s ∷ [])) ≡ map place_of (first_attempts ss) ++ cond (list_any (is_at s.team s.problem) ss) [] (place_of s ∷ [])
places_push ss s =
    let any = list_any (is_at s.team s.problem) ss in
    ap (map place_of) (attempts_push ss s)
    ∙ (map-append place_of (first_attempts ss) (cond any [] (s ∷ [])) ∙ ap (λ ps. map place_of (first_attempts ss) ++ ps) (one_placed any s))

-- one more submission, by a team that is there
pub walk_more : (teams : ℕ) (ss : List Submission) (i : ℕ) (s : Submission) (old new : ℕ → ℕ → Bool) (before after : List (ℕ × ℕ)) → i < length ss → s ≡ get_or ss i s → s.team < teams
    → Walked teams (take i ss) old before → ((t p : ℕ) → new t p ≡ cond (is_at t p s) true (old t p)) → after ≡ before ++ cond (old s.team s.problem) [] (place_of s ∷ [])
    → Walked teams (take (i + 1) ss) new after
walk_more teams ss i s old new before after within is there walked sees grows =
    let us = of_teams teams (take i ss) in
    let next : of_teams teams (take (i + 1) ss) ≡ us ++ s ∷ [] = taken teams ss i s true within is (lt-ltb s.team teams there) in
    record {
      seen = λ t p.
          (sees t p
          ∙ (ap (cond (is_at t p s) true) (walked.seen t p)
          ∙ (sym (list_any-append (is_at t p) us (s ∷ []) ∙ one_seen (is_at t p s) (list_any (is_at t p) us))
          ∙ ap (list_any (is_at t p)) (sym next))));
      places =
          grows
          ∙ (ap (λ ps. ps ++ cond (old s.team s.problem) [] (place_of s ∷ [])) walked.places
          ∙ (ap (λ b. map place_of (first_attempts us) ++ cond b [] (place_of s ∷ [])) (walked.seen s.team s.problem)
          ∙ (sym (places_push us s) ∙ ap (λ vs. map place_of (first_attempts vs)) (sym next))));
    }

-- and by one that isn't
pub walk_past : (teams : ℕ) (ss : List Submission) (i : ℕ) (s : Submission) (old : ℕ → ℕ → Bool) (before : List (ℕ × ℕ)) → i < length ss → s ≡ get_or ss i s → teams ≤ s.team
    → Walked teams (take i ss) old before → Walked teams (take (i + 1) ss) old before
walk_past teams ss i s old before within is past walked =
    let us = of_teams teams (take i ss) in
    let next : of_teams teams (take (i + 1) ss) ≡ us = taken teams ss i s false within is (le-ltb s.team teams past) ∙ append-nil us in
    record {
      seen = λ t p. (walked.seen t p ∙ ap (list_any (is_at t p)) (sym next));
      places = walked.places ∙ ap (λ vs. map place_of (first_attempts vs)) (sym next);
    }
