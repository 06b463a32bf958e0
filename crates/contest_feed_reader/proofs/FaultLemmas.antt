-- Faults that are noted row by row.
use Rattle.std.proofs.Common.{◌≡◌, ◌≤◌, ◌+◌, ◌++◌, ◌∷◌, [], ◌∙◌, ℕ, List, Bool, true, false, cond, Option, Some, None, length, refl, sym, ap, add-zero, arith, length-append}
use Rattle.std.specs.Prelude.{◌&&◌, fold, filter, if◌then◌else◌, unwrap_or}
use Rattle.std.specs.Str.{bytes_eq}
use Rattle.std.proofs.lemmas.List.Elements.{filter-append}
use Rattle.std.proofs.lemmas.List.Sums.{fold-append, length-filter, count_by-le-length}
use Rattle.contest_types.proofs.PlaceLemmas.{same_bytes}
use Rattle.contest_feed_reader.specs.References.{Fault, counted, counts, earlier}
use Rattle.contest_feed_reader.specs.declared.row.Row.{Row}
use Rattle.contest_feed_reader.specs.declared.submissions.FeedSubmission.{FeedSubmission}

-- one more submission
pub counted_more : (duration : ℕ) (team : List ℕ) (before : List (Row FeedSubmission)) (row : Row FeedSubmission)
    → counted duration team (before ++ row ∷ []) ≡ counted duration team before + cond (counts duration row && bytes_eq row.object.team team) 1 0
counted_more duration team before row =
    let own : Row FeedSubmission → Bool = λ r. counts duration r && bytes_eq r.object.team team in
    let last : (b : Bool) → own row ≡ b → length (filter own (row ∷ [])) ≡ cond b 1 0 = elim [ true ↦ λ e. rw e refl | false ↦ λ e. rw e refl ] in
    ap length (filter-append own before (row ∷ [])) ∙ length-append (filter own before) (filter own (row ∷ [])) ∙ ap (λ n. counted duration team before + n) (last (own row) refl)

-- no more count than there are
pub counted_few : (duration : ℕ) (team : List ℕ) (rows : List (Row FeedSubmission)) → counted duration team rows ≤ length rows
counted_few duration team rows =
    let own : Row FeedSubmission → Bool = λ r. counts duration r && bytes_eq r.object.team team in
    omega (arith, length-filter own rows, count_by-le-length own rows)

-- what is counted of a team, after one more
unwrap_cond : (b : Bool) (n : ℕ) (o : Option ℕ) → unwrap_or (if b then Some n else o) 0 ≡ (if b then n else unwrap_or o 0)
unwrap_cond true n o = refl
unwrap_cond false n o = refl

pub count_step : (duration : ℕ) (row : Row FeedSubmission) (before : List (Row FeedSubmission)) (old new : List ℕ → Option ℕ) (count : ℕ) → counts duration row ≡ true → count ≡ unwrap_or (old row.object.team) 0
    → ((team : List ℕ) → new team ≡ (if bytes_eq row.object.team team then Some (count + 1) else old team))
    → ((team : List ℕ) → unwrap_or (old team) 0 ≡ counted duration team before) → (team : List ℕ) → unwrap_or (new team) 0 ≡ counted duration team (before ++ row ∷ [])
count_step duration row before old new count does is put are team =
    let go : (b : Bool) → bytes_eq row.object.team team ≡ b → (if b then count + 1 else unwrap_or (old team) 0) ≡ counted duration team before + cond b 1 0 = elim [
      | true ↦ λ e. (let same : count ≡ counted duration team before = is ∙ (ap (λ t. unwrap_or (old t) 0) (same_bytes row.object.team team e) ∙ are team) in ap (λ n. n + 1) same)
      | false ↦ λ e. are team ∙ sym (add-zero (counted duration team before))
    ] in
    ap (λ o. unwrap_or o 0) (put team) ∙ (unwrap_cond (bytes_eq row.object.team team) (count + 1) (old team)
    ∙ (go (bytes_eq row.object.team team) refl ∙ sym (counted_more duration team before row ∙ ap (λ b. counted duration team before + cond (b && bytes_eq row.object.team team) 1 0) does)))

-- faults that are noted after others
and_then : (xs ys : List Fault) (first last : Option Fault) → first ≡ fold earlier None xs → last ≡ fold earlier first ys → last ≡ fold earlier None (xs ++ ys)
and_then xs ys first last before after = after ∙ (ap (λ f. fold earlier f ys) before ∙ sym (fold-append earlier None xs ys))

pub all_faults : (a b c d e f : List Fault) (u v w x y z : Option Fault) → u ≡ fold earlier None a → v ≡ fold earlier u b → w ≡ fold earlier v c → x ≡ fold earlier w d → y ≡ fold earlier x e → z ≡ fold earlier y f
    → z ≡ fold earlier None (a ++ b ++ c ++ d ++ e ++ f)
all_faults a b c d e f u v w x y z p q r s t k =
    and_then (a ++ b ++ c ++ d ++ e) f y z (and_then (a ++ b ++ c ++ d) e x y (and_then (a ++ b ++ c) d w x (and_then (a ++ b) c v w (and_then a b u v p q) r) s) t) k
