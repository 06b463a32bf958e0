-- What is served of submissions.
use Rattle.std.proofs.Common.{◌≡◌, ◌∙◌, ℕ, Bool, true, false, List, [], ◌∷◌, Option, Some, None, refl, sym, ap, inl, inr}
use Rattle.std.specs.Prelude.{bytes_eq, find, if◌then◌else◌}
use Rattle.std.specs.List.{filter_map}
use Rattle.std.specs.Option.{option_and_then, option_to_list}
use Rattle.std.proofs.lemmas.Bool.{cases_Bool}
use Rattle.std.proofs.lemmas.Slice.Eq.{bytes_eq-Decides}
use Rattle.serde_json.specs.Data.{Data}
use Rattle.contest_types.specs.Loads.{without_file, loaded_submissions}
use Rattle.contest_types.specs.Masks.{knows_all_of}
use Rattle.contest_types.specs.Order.{Has}
use Rattle.contest_types.specs.Sight.{Program, SeenSubmission, program_for, program_of, seen_submission, seen_submissions, sees_team}
use Rattle.contest_types.specs.State.{ContestState, FixedPart}
use Rattle.contest_types.specs.Valid.{is_valid}
use Rattle.contest_types.specs.VisibleIds.{submission_id}
use Rattle.contest_types.specs.declared.audience.Audience.{Audience}
use Rattle.contest_types.specs.declared.submission.Submission.{Submission}
use Rattle.contest_types.proofs.InOrderLemmas.{find_has, map_has, none_passes}
use Rattle.contest_types.proofs.Rising.{find_passes}
use Rattle.contest_objects.specs.Items.{Item, IsOrderOf, found_in, has_this_id}
use Rattle.contest_objects.specs.Objects.{submission_data}
use Rattle.contest_view.specs.Reads.{named_submission, submission_found, submission_item, submission_items}
use Rattle.contest_view.specs.Rows.{row_cmp, row_item}
use Rattle.contest_objects.proofs.ListingLemmas.{all_served, found_among}
use Rattle.contest_view.proofs.SeenById.{one_with_id}
use Rattle.contest_view.proofs.SeenOrder.{HaveOwnIds, ServesSeen, found_is, items_are}

same_object : (f : FixedPart) (a : Audience) (s : Submission)
    → submission_data f s.team s.number s.time s.problem s.language (program_for a (without_file s)) ≡ submission_data f s.team s.number s.time s.problem s.language (program_for a s)
same_object f a s =
    let program : List ℕ → Program = λ file. program_of (record s { file = file }) in
    let go : (b : Bool) → submission_data f s.team s.number s.time s.problem s.language (if b then Some (program []) else None) ≡ submission_data f s.team s.number s.time s.problem s.language (if b then Some (program s.file) else None) = elim [ true ↦ refl | false ↦ refl ] in
    go (knows_all_of a s.team)

serves : (a : Audience) (now : ℕ) (x : ContestState) → ServesSeen a now x (row_item x.fixed a) (λ v. Some (submission_item x.fixed v))
serves a now x s =
    let item : Data → Item = λ d. record { id = submission_id s.team s.number; object = d } in
    let d = submission_data x.fixed s.team s.number s.time s.problem s.language (program_for a (without_file s)) in
    let go : (b : Bool) → (if b then Some (item d) else None) ≡ option_and_then (λ (v : SeenSubmission). Some (submission_item x.fixed v)) (if b then Some (seen_submission a now x s) else None) = elim [
      | true ↦ ap (λ e. Some (item e)) (same_object x.fixed a s)
      | false ↦ refl
    ] in
    go (sees_team a x.fixed.settings s.team)

-- it is served under its id
own_id : (f : FixedPart) (a : Audience) (s : Submission) (i : Item) → row_item f a s ≡ Some i → i.id ≡ submission_id s.team s.number
own_id f a s i e =
    let d = submission_data f s.team s.number s.time s.problem s.language (program_for a s) in
    let go : (b : Bool) → (if b then Some (record { id = submission_id s.team s.number; object = d }) else None) ≡ Some i → i.id ≡ submission_id s.team s.number = elim [
      | true ↦ λ g. (let same : ◌≡◌ {A = Item} (record { id = submission_id s.team s.number; object = d }) i = cc g in ap (λ (k : Item). k.id) (sym same))
      | false ↦ λ g. absurd (cc g)
    ] in
    go (sees_team a f.settings s.team) e

own_ids : (a : Audience) (x : ContestState) → is_valid x ≡ true → HaveOwnIds x (row_item x.fixed a)
own_ids a x valid s t i j hs ht is it same = one_with_id x valid s t hs ht (sym (own_id x.fixed a (without_file s) i is) ∙ (same ∙ own_id x.fixed a (without_file t) j it))

pub submissions_are : (a : Audience) (now : ℕ) (x : ContestState) → is_valid x ≡ true → (order : List Submission) → IsOrderOf (row_cmp x.fixed.settings) (loaded_submissions x) order
    → filter_map (row_item x.fixed a) order ≡ submission_items a now x
submissions_are a now x valid order l =
    items_are a now x valid (row_item x.fixed a) (λ v. Some (submission_item x.fixed v)) (serves a now x) order l ∙ all_served (submission_item x.fixed) (seen_submissions a now x)

-- among the rows that have an id there is the one that is named
module _ (f : FixedPart) (a : Audience) (rows : List Submission) (one : (s t : Submission) → Has rows s → Has rows t → submission_id s.team s.number ≡ submission_id t.team t.number → s ≡ t) (id : List ℕ) where
  abbrev serves_it : Submission → Bool
  serves_it s = has_this_id id (row_item f a s)

  abbrev is_named : Submission → Bool
  is_named s = bytes_eq (submission_id s.team s.number) id

  named_id : (s : Submission) → serves_it s ≡ true → submission_id s.team s.number ≡ id
  named_id s h =
      let go : (o : Option Item) → row_item f a s ≡ o → has_this_id id o ≡ true → submission_id s.team s.number ≡ id = elim [
        | None ↦ λ e k. absurd (cc k)
        | (Some i) ↦ λ e k. sym (own_id f a s i e) ∙ (bytes_eq-Decides i.id id).0 k
      ] in
      go (row_item f a s) refl h

  alone : found_in (filter_map (row_item f a) (option_to_list (named_submission id rows))) id ≡ found_in (filter_map (row_item f a) rows) id
  alone =
      let item = row_item f a in
      let none : (o : Option Submission) → find serves_it rows ≡ o → ((t : Submission) → Has rows t → serves_it t ≡ true → ⊥) → o ≡ None = elim [
        | None ↦ λ e never. refl
        | (Some t) ↦ λ e never. absurd (never t (find_has serves_it rows t e) (find_passes serves_it rows t e))
      ] in
      let go : (o : Option Submission) → named_submission id rows ≡ o → found_in (filter_map item (option_to_list o)) id ≡ found_in (filter_map item rows) id = elim [
        | None ↦ λ e. found_among item rows id None (none (find serves_it rows) refl (λ t h k. none_passes is_named rows t e h ((bytes_eq-Decides (submission_id t.team t.number) id).1 (named_id t k))))
        | (Some s) ↦ λ e.
            let there = find_has is_named rows s e in
            let same : (t : Submission) → Has rows t → serves_it t ≡ true → t ≡ s = λ t h k. one t s h there (named_id t k ∙ sym ((bytes_eq-Decides (submission_id s.team s.number) id).0 (find_passes is_named rows s e))) in
            let found : serves_it s ≡ true → (o : Option Submission) → find serves_it rows ≡ o → find serves_it rows ≡ Some s = λ k. elim [
              | None ↦ λ g. absurd (none_passes serves_it rows s g there k)
              | (Some t) ↦ λ g. g ∙ ap Some (same t (find_has serves_it rows t g) (find_passes serves_it rows t g))
            ] in
            elim (cases_Bool (serves_it s)) [
              | inl k ↦ sym (found_among item (s ∷ []) id (Some s) (rw k refl)) ∙ found_among item rows id (Some s) (found k (find serves_it rows) refl)
              | inr k ↦ sym (found_among item (s ∷ []) id None (rw k refl)) ∙ found_among item rows id None (none (find serves_it rows) refl (λ t h l. cc (sym k ∙ (ap serves_it (sym (same t h l)) ∙ l))))
            ]
      ] in
      go (named_submission id rows) refl

pub submission_is : (a : Audience) (now : ℕ) (x : ContestState) → is_valid x ≡ true → (id : List ℕ)
    → found_in (filter_map (row_item x.fixed a) (option_to_list (named_submission id (loaded_submissions x)))) id ≡ submission_found a now x id
submission_is a now x valid id =
    let one : (s t : Submission) → Has (loaded_submissions x) s → Has (loaded_submissions x) t → submission_id s.team s.number ≡ submission_id t.team t.number → s ≡ t = λ s t hs ht e.
    (let u = map_has without_file x.submissions s hs in
    let v = map_has without_file x.submissions t ht in
    let same : submission_id u.item.team u.item.number ≡ submission_id v.item.team v.item.number = ap (λ (r : Submission). submission_id r.team r.number) (sym u.is) ∙ (e ∙ ap (λ (r : Submission). submission_id r.team r.number) v.is) in
    u.is ∙ (ap without_file (one_with_id x valid u.item v.item u.there v.there same) ∙ sym v.is)) in
    alone x.fixed a (loaded_submissions x) one id
    ∙ (found_is a now x valid (row_item x.fixed a) (λ v. Some (submission_item x.fixed v)) (serves a now x) (own_ids a x valid) id
    ∙ ap (λ is. found_in is id) (all_served (submission_item x.fixed) (seen_submissions a now x)))
