-- A submission that is repeated in a contest that has grown.
use Rattle.std.proofs.Common.{◌≡◌, ◌∙◌, ◌<◌, ℕ, Bool, true, false, cond, List, [], ◌∷◌, ◌++◌, length, map, Option, Some, None, Ok, Err, refl, sym, ap, subst, arith, inl}
use Rattle.std.specs.Prelude.{◌==◌, ◌&&◌, find, is_none, is_some, not, bytes_eq, if◌then◌else◌}
use Rattle.std.specs.Option.{option_map, option_map_or, option_and_then, option_or}
use Rattle.std.proofs.lemmas.Bool.{eq-eqb, eqb-true}
use Rattle.std.proofs.lemmas.List.Elements.{filter-append}
use Rattle.std.proofs.lemmas.List.Folds.{find-append}
use Rattle.serde_json.specs.Data.{Data, string, object}
use Rattle.contest_types.specs.Masks.{audience_at}
use Rattle.contest_types.specs.MomentText.{moment_text}
use Rattle.contest_types.specs.Places.{place_of}
use Rattle.contest_types.specs.ProblemPlaces.{problem_id_at}
use Rattle.contest_types.specs.SettingsNames.{language_id_at}
use Rattle.contest_types.specs.Sight.{Program, program_for}
use Rattle.contest_types.specs.State.{ContestState, FixedPart, submissions_of, add, add_all}
use Rattle.contest_types.specs.TeamPlaces.{team_id_at}
use Rattle.contest_types.specs.VisibleIds.{submission_id}
use Rattle.contest_types.specs.declared.entry.Entry.TheVariants.{NewSubmission}
use Rattle.contest_types.specs.declared.objects.Language.{Language}
use Rattle.contest_types.specs.declared.objects.Problem.{Problem}
use Rattle.contest_types.specs.declared.objects.Team.{Team}
use Rattle.contest_types.specs.declared.refusal.Refusal.TheVariants.{KeyReused as TheKeyReused}
use Rattle.contest_types.specs.declared.submission.Submission.{Submission}
use Rattle.contest_types.proofs.PlaceLemmas.{and_left, place_within, same_bytes, bytes_same}
use Rattle.contest_types.proofs.Rising.{find_passes}
use Rattle.contest_types.proofs.ValidParts.{four}
use Rattle.contest_objects.specs.Objects.{files_data, submission_members}
use Rattle.contest_objects.specs.Times.{contest_time_data}
use Rattle.contest_rules.specs.Submitting.{asks_the_same, fresh, has_key, have_equal_content, is_complete, lacks_entry_point, next_submission, repeated, same_text, so_far, standing_under, submit, submit_to}
use Rattle.contest_rules.specs.declared.decision.Decision.TheVariants.{Add, Stands}
use Rattle.contest_rules.specs.declared.rule_refusal.RuleRefusal.TheVariants.{EntryPointMissing, KeyReused, UnknownReference}
use Rattle.contest_rules.specs.declared.submitting.OwnSoFar.{OwnSoFar}
use Rattle.contest_rules.specs.declared.submitting.WantedSubmission.{WantedSubmission}
use Rattle.contest_rules.proofs.TakenLemmas.{Decided, IfTaken, decided}
use Rattle.contest_operations.specs.Growing.{Grows, IsFront}
use Rattle.contest_operations.specs.Outcomes.{Outcome, done_or_ruled, refusing, replying}
use Rattle.contest_operations.specs.PostedSubmissions.{IsSoundSubmission, submission_outcome}
use Rattle.contest_postings.specs.PostSubmission.{decision_entries, decision_object, own_submission}
use Rattle.contest_operations.specs.Replies.{answer}
use Rattle.contest_operations.specs.declared.reply.Reply.{Reply}
use Rattle.contest_operations.proofs.AddedAlike.{own_more}
use Rattle.contest_view.proofs.OwnNumbers.{find_both}
use Rattle.contest_operations.proofs.RuledLemmas.{ruled_refuses}
use Rattle.contest_operations.proofs.Fronts.{Extends, equal_texts, extends, find_front, place_front, same_as_itself, same_place_from, some_found, team_stays}
use Rattle.contest_types.proofs.GrownSettings.{at_front}

own_front : (team : ℕ) (xs ys : List Submission) → IsFront xs ys → IsFront (submissions_of team xs) (submissions_of team ys)
own_front team xs ys (more, e) = (submissions_of team more, ap (submissions_of team) e ∙ filter-append (λ (s : Submission). s.team == team) xs more)

stands_front : (key : Option (List ℕ)) (xs ys : List Submission) (s : Submission) → IsFront xs ys → standing_under key xs ≡ Some s → standing_under key ys ≡ Some s
stands_front None xs ys s front is = absurd (cc is)
stands_front (Some key) xs ys s front is = find_front (has_key key) xs ys s front is

abbrev data_by : (s : Submission) → Option Program → (start : Option ℕ) → (contest language problem team : List ℕ) → Data
data_by s program start contest language problem team =
    object (submission_members (contest_time_data start s.time) (option_map string (option_and_then (λ (p : Program). p.entry_point) program)) (option_map (λ (p : Program). files_data contest (submission_id s.team s.number)) program)
    (submission_id s.team s.number) language problem team (string (moment_text s.time)))

-- the value of one that stands stays
own_stays : (f g : FixedPart) (team : ℕ) (s : Submission) → Extends f g → s.language < length f.settings.languages → s.problem < length f.settings.problems → s.team < length f.settings.teams
    → own_submission g s ≡ own_submission f s
own_stays f g team s h l p t =
    let language : language_id_at g.settings s.language ≡ language_id_at f.settings s.language = ap (λ o. option_map_or (λ (k : Language). k.id) o []) (at_front f.settings.languages g.settings.languages s.language h.languages l) in
    let problem : problem_id_at g.settings.problems s.problem ≡ problem_id_at f.settings.problems s.problem = ap (λ o. option_map_or (λ (q : Problem). q.id) o []) (at_front f.settings.problems g.settings.problems s.problem h.problems p) in
    let whose : team_id_at g.settings s.team ≡ team_id_at f.settings s.team = team_stays (λ (u : Team). u.id) [] (λ u. refl) f g s.team h t in
    λ i. data_by s (program_for (audience_at s.team) s) (h.start i) (h.id i) (language i) (problem i) (whose i)

abbrev pub problem_place : FixedPart → WantedSubmission → Option ℕ
problem_place f w = place_of w.problem (map (λ (p : Problem). p.id) f.settings.problems)

abbrev pub language_place : FixedPart → WantedSubmission → Option ℕ
language_place f w = place_of w.language (map (λ (l : Language). l.id) f.settings.languages)

-- what a wanted submission names
pub record IsThere (f : FixedPart) (w : WantedSubmission) (problem language : ℕ) : Type 0 where
  pub is_problem : problem_place f w ≡ Some problem
  pub is_language : language_place f w ≡ Some language
  pub complete : lacks_entry_point f language w.entry_point ≡ false

complete_there : (f : FixedPart) (w : WantedSubmission) → is_complete f w ≡ true → (problem language : ℕ) × IsThere f w problem language
complete_there f w h =
    let on : (lacks : Bool) (problem language : ℕ) → problem_place f w ≡ Some problem → language_place f w ≡ Some language → lacks_entry_point f language w.entry_point ≡ lacks → not lacks ≡ true
    → (problem language : ℕ) × IsThere f w problem language = elim [
      | true ↦ λ problem language p l e k. absurd (cc k)
      | false ↦ λ problem language p l e k. (problem, language, record { is_problem = p; is_language = l; complete = e })
    ] in
    let go : (o q : Option ℕ) → problem_place f w ≡ o → language_place f w ≡ q → (is_some o && option_map_or (λ language. not (lacks_entry_point f language w.entry_point)) q false) ≡ true
    → (problem language : ℕ) × IsThere f w problem language = elim [
      | None ↦ λ q p l k. absurd (cc k)
      | (Some problem) ↦ elim [ None ↦ λ p l k. absurd (cc k) | (Some language) ↦ λ p l k. on (lacks_entry_point f language w.entry_point) problem language p l refl k ]
    ] in
    go (problem_place f w) (language_place f w) refl refl h

there_complete : (f : FixedPart) (w : WantedSubmission) (problem language : ℕ) → IsThere f w problem language → is_complete f w ≡ true
there_complete f w problem language h =
    (λ i. is_some (h.is_problem i) && option_map_or (λ k. not (lacks_entry_point f k w.entry_point)) (h.is_language i) false) ∙ ap not h.complete

still_there : (f g : FixedPart) (w : WantedSubmission) (problem language : ℕ) → Extends f g → IsThere f w problem language → IsThere g w problem language
still_there f g w problem language h t = record {
  is_problem = place_front (λ (p : Problem). p.id) w.problem f.settings.problems g.settings.problems problem h.problems t.is_problem;
  is_language = place_front (λ (l : Language). l.id) w.language f.settings.languages g.settings.languages language h.languages t.is_language;
  complete = ap (λ o. option_map_or (λ (l : Language). l.entry_point_required) o false && is_none w.entry_point)
      (at_front f.settings.languages g.settings.languages language h.languages (place_within (λ (l : Language). l.id) w.language f.settings.languages language t.is_language)) ∙ t.complete;
}

-- what names what is there is decided by its key
at_key : (f : FixedPart) (now team : ℕ) (own : OwnSoFar) (w : WantedSubmission) (problem language : ℕ) (s : Submission) → IsThere f w problem language → own.standing ≡ Some s
    → submit f now team own w ≡ repeated s problem language w
at_key f now team own w problem language s t stands =
    let by : Option ℕ → Option ℕ → Decided = λ o q. elim o [
      | None ↦ Err UnknownReference
      | (Some there) ↦ elim q [ None ↦ Err UnknownReference | (Some spoken) ↦ if lacks_entry_point f spoken w.entry_point then Err EntryPointMissing else submit_to f now team own there spoken w ]
    ] in
    let named : submit f now team own w ≡ (if lacks_entry_point f language w.entry_point then Err EntryPointMissing else submit_to f now team own problem language w) = λ i. by (t.is_problem i) (t.is_language i) in
    named ∙ (ap (λ lacks. if lacks then Err EntryPointMissing else submit_to f now team own problem language w) t.complete
    ∙ ap (λ o. elim o as (λ _. Decided) [ (Some r) ↦ repeated r problem language w | None ↦ fresh f now team own problem language w ]) stands)

-- what was asked for is asked for again by who asks for the same
asks_as : (g : FixedPart) (s : Submission) (v w : WantedSubmission) (p l q k : ℕ) → asks_the_same s p l v ≡ true → IsThere g v p l → IsThere g w q k → asks_the_same s q k w ≡ have_equal_content v w
asks_as g s v w p l q k asks t u =
    let all = four (s.problem == p) (s.language == l) (same_text s.entry_point v.entry_point) (bytes_eq s.file v.file) asks in
    let problem : s.problem ≡ p = eqb-true s.problem p all.first in
    let language : s.language ≡ l = eqb-true s.language l all.second in
    let entry : s.entry_point ≡ v.entry_point = equal_texts s.entry_point v.entry_point all.third in
    let file : s.file ≡ v.file = same_bytes s.file v.file all.fourth in
    let one : (p == q) ≡ bytes_eq v.problem w.problem = same_place_from v.problem w.problem 0 (map (λ (r : Problem). r.id) g.settings.problems) p q t.is_problem u.is_problem in
    let two : (l == k) ≡ bytes_eq v.language w.language = same_place_from v.language w.language 0 (map (λ (r : Language). r.id) g.settings.languages) l k t.is_language u.is_language in
    (λ i. (problem i == q) && (language i == k) && same_text (entry i) w.entry_point && bytes_eq (file i) w.file)
    ∙ (λ i. one i && two i && same_text v.entry_point w.entry_point && bytes_eq v.file w.file)

-- what is said of a post that is repeated
abbrev pub Repeats : (later team : ℕ) → WantedSubmission → ContestState → Reply → Type 0
Repeats later team v y reply =
    (submission_outcome later team v y ≡ replying reply)
    × ((w : WantedSubmission) → w.key ≡ v.key → is_complete y.fixed w ≡ true
    → (have_equal_content v w ≡ true → submission_outcome later team w y ≡ replying reply) × (have_equal_content v w ≡ false → submission_outcome later team w y ≡ refusing TheKeyReused))

-- one that stands under its key
stood_repeats : (f : FixedPart) (y : ContestState) (later team : ℕ) (v : WantedSubmission) (s : Submission) (p l : ℕ) → Extends f y.fixed → team < length f.settings.teams → s.team ≡ team
    → IsThere f v p l → asks_the_same s p l v ≡ true → standing_under v.key (submissions_of team y.submissions) ≡ Some s → Repeats later team v y (answer (own_submission f s))
stood_repeats f y later team v s p l h there whose t asks stands =
    let g = y.fixed in
    let own = submissions_of team y.submissions in
    let all = four (s.problem == p) (s.language == l) (same_text s.entry_point v.entry_point) (bytes_eq s.file v.file) asks in
    let problem : s.problem < length f.settings.problems = subst (λ n. n < length f.settings.problems) (sym (eqb-true s.problem p all.first)) (place_within (λ (r : Problem). r.id) v.problem f.settings.problems p t.is_problem) in
    let language : s.language < length f.settings.languages = subst (λ n. n < length f.settings.languages) (sym (eqb-true s.language l all.second)) (place_within (λ (r : Language). r.id) v.language f.settings.languages l t.is_language) in
    let stays : own_submission g s ≡ own_submission f s = own_stays f g team s h language problem (subst (λ n. n < length f.settings.teams) (sym whose) there) in
    let u = still_there f g v p l h t in
    let by : Bool → Decided = λ b. if b then Ok (Stands s) else Err KeyReused in
    let said : Decided → Outcome = done_or_ruled (decision_object g) decision_entries in
    let is : (w : WantedSubmission) → w.key ≡ v.key → is_complete g w ≡ true → (b : Bool) → have_equal_content v w ≡ b → submission_outcome later team w y ≡ said (by b) =
    λ w same complete b e. (let c = complete_there g w complete in
    let under : standing_under w.key own ≡ Some s = ap (λ key. standing_under key own) same ∙ stands in
    ap said (at_key g later team (so_far w.key own) w c.0 c.1 s c.2 under ∙ ap by (asks_as g s v w p l c.0 c.1 asks u c.2 ∙ e))) in
    let repeats : said (Ok (Stands s)) ≡ replying (answer (own_submission f s)) = ap (λ d. replying (answer d)) stays in
    let itself : have_equal_content v v ≡ true = rw (bytes_same v.problem, bytes_same v.language, same_as_itself v.entry_point, bytes_same v.file) refl in
    (is v refl (there_complete g v p l u) true itself ∙ repeats, λ w same complete. (λ e. is w same complete true e ∙ repeats, λ e. is w same complete false e))

-- what was taken asks for itself
asks_again : (now team : ℕ) (own : OwnSoFar) (problem language : ℕ) (w : WantedSubmission) → asks_the_same (next_submission now team own problem language w) problem language w ≡ true
asks_again now team own problem language w = rw (eq-eqb problem problem refl, eq-eqb language language refl, same_as_itself w.entry_point, bytes_same w.file) refl

stands_added : (key : Option (List ℕ)) (own : List Submission) (s : Submission) → is_some key ≡ true → s.key ≡ key → standing_under key own ≡ None → standing_under key (own ++ s ∷ []) ≡ Some s
stands_added None own s some is none = absurd (cc some)
stands_added (Some key) own s some is none =
    let has : has_key key s ≡ true = rw is (bytes_same key) in
    find-append (has_key key) own (s ∷ []) ∙ (ap (λ o. option_or o (find (has_key key) (s ∷ []))) none ∙ ap (λ b. cond b (Some s) None) has)

-- one that stands among a team's own is that team's
stands_for : (key : Option (List ℕ)) (team : ℕ) (ss : List Submission) (s : Submission) → standing_under key (submissions_of team ss) ≡ Some s → (s.team ≡ team) × (0 < length ss)
stands_for None team ss s h = absurd (cc h)
stands_for (Some key) team ss s h =
    let both : Submission → Bool = λ t. (t.team == team) && has_key key t in
    let found : find both ss ≡ Some s = find_both (λ (t : Submission). t.team == team) (has_key key) ss ∙ h in
    (eqb-true s.team team (and_left (s.team == team) (has_key key s) (find_passes both ss s found)), some_found both ss s found)

one_stands : (ss : List Submission) (s : Submission) → 0 < length (ss ++ s ∷ [])
one_stands [] s = omega arith
one_stands (t ∷ ss) s = omega arith

pub submission_repeats : (x y : ContestState) (now later team : ℕ) (v : WantedSubmission) → IsSoundSubmission x.fixed team v → is_some v.key ≡ true
    → (submission_outcome now team v x).reply.status ≡ 200 → Grows (add_all x (submission_outcome now team v x).entries) y → Repeats later team v y (submission_outcome now team v x).reply
submission_repeats x y now later team v sound some =
    let f = x.fixed in
    let own = submissions_of team x.submissions in
    let said : Decided → Outcome = done_or_ruled (decision_object f) decision_entries in
    let go : (r : Decided) → IfTaken f now team (so_far v.key own) v r → (said r).reply.status ≡ 200 → Grows (add_all x (said r).entries) y → Repeats later team v y (said r).reply = elim [
      | (Err refusal) ↦ λ t done h. absurd (ruled_refuses refusal done)
      | (Ok (Add s)) ↦ λ t done h. (let z = add x (NewSubmission s) in
          let mine : s.team ≡ team = ap (λ (r : Submission). r.team) t.is in
          let key : s.key ≡ v.key = ap (λ (r : Submission). r.key) t.is in
          let stands : standing_under v.key (submissions_of team z.submissions) ≡ Some s =
          ap (standing_under v.key) (own_more team x.submissions s (eq-eqb s.team team mine)) ∙ stands_added v.key own s some key t.new_key in
          let asks : asks_the_same s t.problem t.language v ≡ true = subst (λ (r : Submission). asks_the_same r t.problem t.language v ≡ true) (sym t.is) (asks_again now team (so_far v.key own) t.problem t.language v) in
          stood_repeats f y later team v s t.problem t.language (extends z y h (inl (one_stands x.submissions s))) sound.0 mine
          (record { is_problem = t.is_problem; is_language = t.is_language; complete = t.complete }) asks
          (stands_front v.key (submissions_of team z.submissions) (submissions_of team y.submissions) s (own_front team z.submissions y.submissions h.submissions) stands))
      | (Ok (Stands s)) ↦ λ t done h. (let mine = stands_for v.key team x.submissions s t.stands in
          stood_repeats f y later team v s t.problem t.language (extends x y h (inl mine.1)) sound.0 mine.0
          (record { is_problem = t.is_problem; is_language = t.is_language; complete = t.complete }) t.same
          (stands_front v.key own (submissions_of team y.submissions) s (own_front team x.submissions y.submissions h.submissions) t.stands))
    ] in
    go (submit f now team (so_far v.key own) v) (decided f now team (so_far v.key own) v)
