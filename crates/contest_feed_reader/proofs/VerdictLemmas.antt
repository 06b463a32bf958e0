-- The last judgement of each submission, after one more judgement.
use Rattle.std.proofs.Common.{◌≡◌, ◌∙◌, ◌++◌, ◌∷◌, [], ℕ, Bool, true, false, List, Option, Some, None, refl, sym, ap}
use Rattle.std.specs.Prelude.{◌&&◌, ℤ, filter, fold, is_some, not, if◌then◌else◌}
use Rattle.std.specs.Option.{option_and_then, option_map}
use Rattle.std.specs.Str.{bytes_eq}
use Rattle.std.proofs.lemmas.List.Elements.{filter-append}
use Rattle.std.proofs.lemmas.List.Sums.{fold-append}
use Rattle.contest_types.specs.Places.{place_of}
use Rattle.contest_types.proofs.PlaceLemmas.{same_bytes}
use Rattle.contest_feed_reader.specs.LastVerdicts.{counted_verdict, is_last, kept}
use Rattle.contest_feed_reader.specs.Verdicts.{ended_before, judges, last_judgement, later, place_by}
use Rattle.contest_feed_reader.specs.declared.submissions.FeedJudgement.{FeedJudgement}
use Rattle.contest_feed_reader.specs.declared.verdicts.LastVerdict.{LastVerdict}

last_more : (submission : List ℕ) (js : List FeedJudgement) (j : FeedJudgement) → last_judgement submission (js ++ j ∷ []) ≡ (if judges submission j then later (last_judgement submission js) j else last_judgement submission js)
last_more submission js j =
    let go : (b : Bool) → judges submission j ≡ b → fold later (last_judgement submission js) (filter (judges submission) (j ∷ [])) ≡ (if b then later (last_judgement submission js) j else last_judgement submission js) =
    elim [ true ↦ λ e. rw e refl | false ↦ λ e. rw e refl ] in
    ap (fold later None) (filter-append (judges submission) js (j ∷ []))
    ∙ (fold-append later None (filter (judges submission) js) (filter (judges submission) (j ∷ [])) ∙ go (judges submission j) refl)

-- one that counts is the last of its submission, or isn't
pub counted_last : (types : List (List ℕ)) (js : List FeedJudgement) (j : FeedJudgement) (had has : List ℕ → Option LastVerdict) (last : Bool) → (j.counts && is_some j.verdict) ≡ true → is_last (had j.submission) j.ended ≡ last
    → ((submission : List ℕ) → has submission ≡ (if last then (if bytes_eq j.submission submission then Some (kept types j) else had submission) else had submission))
    → ((submission : List ℕ) → had submission ≡ option_map (kept types) (last_judgement submission js))
    → (submission : List ℕ) → has submission ≡ option_map (kept types) (last_judgement submission (js ++ j ∷ []))
counted_last types js j had has last on is put are submission =
    put submission ∙ (go (bytes_eq j.submission submission) refl ∙ ap (option_map (kept types)) (sym (last_more submission js j ∙ ap (λ b. if bytes_eq j.submission submission && b then later (last_judgement submission js) j else last_judgement submission js) on)))
  where
    of_last : (o : Option FeedJudgement) (l : Bool) → is_last (option_map (kept types) o) j.ended ≡ l → (if l then Some (kept types j) else option_map (kept types) o) ≡ option_map (kept types) (later o j)
    of_last None true e = refl
    of_last None false e = absurd (cc e)
    of_last (Some i) l e = other (ended_before j.ended i.ended) l e
      where
        other : (b k : Bool) → not b ≡ k → (if k then Some (kept types j) else Some (kept types i)) ≡ Some (kept types (if b then i else j))
        other true k e = ap (λ x. if x then Some (kept types j) else Some (kept types i)) (sym e)
        other false k e = ap (λ x. if x then Some (kept types j) else Some (kept types i)) (sym e)

    own : bytes_eq j.submission submission ≡ true → is_last (option_map (kept types) (last_judgement submission js)) j.ended ≡ last
    own e = ap (λ o. is_last o j.ended) (sym (are submission)) ∙ (ap (λ s. is_last (had s) j.ended) (sym (same_bytes j.submission submission e)) ∙ is)

    unless : (l : Bool) → (if l then had submission else had submission) ≡ had submission
    unless true = refl
    unless false = refl

    go : (b : Bool) → bytes_eq j.submission submission ≡ b → (if last then (if b then Some (kept types j) else had submission) else had submission)
        ≡ option_map (kept types) (if b && true then later (last_judgement submission js) j else last_judgement submission js)
    go true e = ap (λ o. if last then Some (kept types j) else o) (are submission) ∙ of_last (last_judgement submission js) last (own e)
    go false e = unless last ∙ are submission

-- what is kept of the last has its type
pub kept_verdict : (types : List (List ℕ)) (o : Option FeedJudgement) (v : LastVerdict) → Some v ≡ option_map (kept types) o → v.verdict ≡ option_and_then (place_by types) o
kept_verdict types None v e = absurd (cc e)
kept_verdict types (Some j) v e = let same : v ≡ kept types j = cc e in ap (λ (k : LastVerdict). k.verdict) same

-- a judgement that counts has this type
pub is_counted : (j : FeedJudgement) (verdict : List ℕ) → Some verdict ≡ counted_verdict j → ((j.counts && is_some j.verdict) ≡ true) × (j.verdict ≡ Some verdict)
is_counted j verdict is =
    let go : (b : Bool) (o : Option (List ℕ)) → Some verdict ≡ (if b then o else None) → ((b && is_some o) ≡ true) × (o ≡ Some verdict) = elim [
      | true ↦ elim [ None ↦ λ e. absurd (cc e) | (Some v) ↦ λ e. (refl, sym e) ]
      | false ↦ λ o e. absurd (cc e)
    ] in
    go j.counts j.verdict is

-- so this is kept of it
pub kept_is : (types : List (List ℕ)) (j : FeedJudgement) (verdict : List ℕ) (ended : Option ℤ) (place : Option ℕ) → j.verdict ≡ Some verdict → ended ≡ j.ended → place ≡ place_of verdict types
    → record { ended = ended; verdict = place } ≡ kept types j
kept_is types j verdict ended place typed e p =
    let placed : place ≡ place_by types j = p ∙ ap (option_and_then (λ id. place_of id types)) (sym typed) in
    λ i. record { ended = e i; verdict = placed i }
