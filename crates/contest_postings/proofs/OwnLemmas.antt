-- What is loaded of a team's own submissions decides as all of them would.
use Rattle.std.proofs.Common.{◌≡◌, ◌∙◌, ◌-◌, ℕ, Bool, true, false, cond, List, [], ◌∷◌, length, map, Option, Some, None, refl, ap}
use Rattle.std.specs.Prelude.{find, slice_get}
use Rattle.std.specs.Option.{option_map}
use Rattle.std.proofs.lemmas.List.{length-map}
use Rattle.std.proofs.lemmas.Option.{slice_get-map}
use Rattle.contest_types.specs.Loads.{without_file}
use Rattle.contest_types.specs.State.{ContestState, submissions_of}
use Rattle.contest_types.specs.Valid.{is_valid}
use Rattle.contest_types.specs.declared.submission.Submission.{Submission}
use Rattle.contest_rules.specs.Submitting.{has_key, so_far, standing_under}
use Rattle.contest_rules.specs.declared.submitting.OwnSoFar.{OwnSoFar}
use Rattle.contest_lists.specs.Lists.{places_of}
use Rattle.contest_lists.proofs.TeamRowLemmas.{as_many}
use Rattle.contest_postings.specs.OwnSubmissions.{file_at, bytes_of, keyed_row, with_file}
use Rattle.contest_postings.proofs.FileLemmas.{file_there}
use Rattle.contest_postings.proofs.OwnRows.{found_somewhere}
use Rattle.contest_types.proofs.OwnLemmas.{own_loaded}

time_of : (o : Option Submission) → option_map (λ (s : Submission). s.time) (option_map without_file o) ≡ option_map (λ (s : Submission). s.time) o
time_of None = refl
time_of (Some s) = refl

-- a key stands where it stood
found_loaded : (key : List ℕ) (ss : List Submission) → find (has_key key) (map without_file ss) ≡ option_map without_file (find (has_key key) ss)
found_loaded key [] = refl
found_loaded key (s ∷ ss) =
    let go : (b : Bool) → cond b (Some (without_file s)) (find (has_key key) (map without_file ss)) ≡ option_map without_file (cond b (Some s) (find (has_key key) ss)) = elim [ true ↦ refl | false ↦ found_loaded key ss ] in
    go (has_key key s)

stands_loaded : (key : Option (List ℕ)) (ss : List Submission) → standing_under key (map without_file ss) ≡ option_map without_file (standing_under key ss)
stands_loaded None ss = refl
stands_loaded (Some key) ss = found_loaded key ss

stands_somewhere : (key : Option (List ℕ)) (ss : List Submission) (s : Submission) → standing_under key ss ≡ Some s → (k : ℕ) × (slice_get ss k ≡ Some s)
stands_somewhere None ss s is = absurd (cc is)
stands_somewhere (Some key) ss s is = found_somewhere (has_key key) ss s is

-- the one that has the key comes with its file
filed : (x : ContestState) (team : ℕ) (key : Option (List ℕ)) (rows : List Submission) (file : Option (List ℕ)) → is_valid x ≡ true → rows ≡ map without_file x.submissions
    → file ≡ file_at x (keyed_row team key rows) → option_map (with_file (bytes_of file)) (standing_under key (submissions_of team rows)) ≡ standing_under key (submissions_of team x.submissions)
filed x team key rows file valid are is =
    let own = submissions_of team x.submissions in
    let loaded : standing_under key (submissions_of team rows) ≡ option_map without_file (standing_under key own) =
    ap (λ ss. standing_under key (submissions_of team ss)) are ∙ (ap (standing_under key) (own_loaded team x.submissions) ∙ stands_loaded key own) in
    let go : (o : Option Submission) → standing_under key own ≡ o → option_map (with_file (bytes_of file)) (option_map without_file o) ≡ o = elim [
      | None ↦ λ e. refl
      | (Some s) ↦ λ e. (let at = stands_somewhere key own s e in
          let keyed : keyed_row team key rows ≡ Some (team, s.number) = ap (option_map (λ (t : Submission). (team, t.number))) (loaded ∙ ap (option_map without_file) e) in
          let whole : file ≡ Some s.file = is ∙ (ap (file_at x) keyed ∙ file_there x team at.0 s valid at.1) in
          ap (λ b. Some (with_file (bytes_of b) s)) whole)
    ] in
    ap (option_map (with_file (bytes_of file))) loaded ∙ go (standing_under key own) refl

pub so_far_is : (x : ContestState) (team : ℕ) (key : Option (List ℕ)) (rows : List Submission) (file : Option (List ℕ)) (count : ℕ) (last standing : Option Submission) → is_valid x ≡ true → rows ≡ map without_file x.submissions
    → file ≡ file_at x (keyed_row team key rows) → count ≡ length (places_of team rows) → last ≡ slice_get (submissions_of team rows) (count - 1) → standing ≡ standing_under key (submissions_of team rows)
    → ◌≡◌ {A = OwnSoFar} (record { count = count; last = option_map (λ (s : Submission). s.time) last; standing = option_map (with_file (bytes_of file)) standing }) (so_far key (submissions_of team x.submissions))
so_far_is x team key rows file count last standing valid are is many ends stands =
    let own = submissions_of team x.submissions in
    let owned : submissions_of team rows ≡ map without_file own = ap (submissions_of team) are ∙ own_loaded team x.submissions in
    let counts : count ≡ length own = many ∙ (as_many team rows ∙ (ap length owned ∙ length-map own without_file)) in
    let lasts : option_map (λ (s : Submission). s.time) last ≡ option_map (λ (s : Submission). s.time) (slice_get own (length own - 1)) =
    ap (option_map (λ (s : Submission). s.time)) (ends ∙ ((λ i. slice_get (owned i) (counts i - 1)) ∙ slice_get-map without_file own (length own - 1))) ∙ time_of (slice_get own (length own - 1)) in
    let whole = ap (option_map (with_file (bytes_of file))) stands ∙ filed x team key rows file valid are is in
    λ i. record { count = counts i; last = lasts i; standing = whole i }
