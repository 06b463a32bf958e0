-- One more verdict of a file.
use Rattle.std.proofs.Common.{◌≡◌, ◌∙◌, ℕ, Bool, true, false, cond, List, [], ◌∷◌, ◌++◌, append-nil, length, map, Option, Some, None, Result, Ok, Err, refl, sym, ap, subst}
use Rattle.std.specs.Prelude.{◌||◌, find, nat_le, if◌then◌else◌}
use Rattle.std.specs.HashMap.{HashMap}
use Rattle.std.specs.List.{cons_option, filter_map}
use Rattle.std.specs.Option.{option_map, option_or, option_to_list}
use Rattle.std.proofs.lemmas.List.{append_assoc, map-append}
use Rattle.std.proofs.lemmas.List.Elements.{filter_map-append}
use Rattle.std.proofs.lemmas.List.Folds.{find-append, list_any-append}
use Rattle.contest_files.specs.FieldTexts.{Text}
use Rattle.contest_types.specs.Loads.{loaded_submissions}
use Rattle.contest_types.specs.State.{ContestState, FixedPart, names, of_proposal, of_release, of_submission, proposals_for}
use Rattle.contest_types.specs.Valid.{is_valid}
use Rattle.contest_types.specs.ValidRejudgings.{is_released}
use Rattle.contest_types.specs.ValidSubmissions.{is_imported, is_valid_proposal}
use Rattle.contest_types.specs.VerdictAdditions.{first_addition, imported_for, verdict_addition}
use Rattle.contest_types.specs.declared.limits.TheConstants.{PROPOSALS}
use Rattle.contest_types.specs.declared.proposal.Proposal.{Proposal}
use Rattle.contest_types.specs.declared.refusal.Cause.{Cause}
use Rattle.contest_types.specs.declared.refusal.Cause.TheVariants.{AlreadyReleased, TableFull}
use Rattle.contest_types.specs.declared.submission.Release.{Release}
use Rattle.contest_types.specs.declared.submission.Submission.{Submission}
use Rattle.contest_types.proofs.PlaceLemmas.{both_true}
use Rattle.contest_lists.specs.Lists.{loaded}
use Rattle.contest_rules.specs.Verdicts as rules
use Rattle.contest_rules.specs.Verdicts.{first_release, named_verdict}
use Rattle.contest_rules.specs.declared.proposing.NewVerdict.{NewVerdict}
use Rattle.contest_rules.specs.declared.verdicts.NamedVerdict.{NamedVerdict}
use Rattle.contest_rules.specs.declared.verdicts.WantedVerdict.{WantedVerdict}
use Rattle.contest_rules.proofs.NamedLemmas.{named_is}
use Rattle.contest_rules.proofs.ProposedLemmas.{named_there}
use Rattle.std.proofs.lemmas.Bool.{lt-ltb}
use Rattle.contest_view.specs.Reads.{named_submission}
use Rattle.contest_import_verdicts.specs.ImportedVerdicts.{AreImported, addition_by, value_at, verdict_of}
use Rattle.contest_import_verdicts.specs.SoFar.{DecidesFirst, SoFar}
use Rattle.contest_import_verdicts.specs.VerdictFiles.{after_record, if_added, imported_verdict, record_verdict, verdict_on, verdict_wanted, wanted_in, with_verdict, with_verdicts}
use Rattle.contest_import_verdicts.proofs.ImportedLemmas.{own_more}

-- what the verdict of a record names is there
pub named_fits : (x : ContestState) (now : ℕ) (w : WantedVerdict) (n : NamedVerdict) → named_verdict x.fixed x.submissions w ≡ Some n → is_valid_proposal x (imported_verdict x.fixed now n).proposal ≡ true
named_fits x now w n e =
    let there = named_there x w n e in
    both_true _ _ (both_true _ _ there.there (lt-ltb n.verdict (length x.fixed.settings.types) there.is_type)) refl

pub record IsOfRecord (x : ContestState) (now : ℕ) (v : NewVerdict) : Type 0 where
  pub named : NamedVerdict
  pub made : imported_verdict x.fixed now named ≡ v
  pub fits : is_valid_proposal x v.proposal ≡ true

pub of_record : (x : ContestState) (now : ℕ) (row : List Text) (v : NewVerdict) → record_verdict x now row ≡ Ok v → IsOfRecord x now v
of_record x now row v is =
    let named : (w : WantedVerdict) (o : Option NamedVerdict) → named_verdict x.fixed x.submissions w ≡ o → verdict_on x.fixed now o ≡ Ok v → IsOfRecord x now v = λ w. elim [
      | None ↦ λ e k. absurd (cc k)
      | (Some n) ↦ λ e k. (let made : imported_verdict x.fixed now n ≡ v = cc k in
          record { named = n; made = made; fits = subst (λ (u : NewVerdict). is_valid_proposal x u.proposal ≡ true) made (named_fits x now w n e) })
    ] in
    let wanted : (o : Option WantedVerdict) → verdict_wanted x now o ≡ Ok v → IsOfRecord x now v = elim [
      | None ↦ λ e. absurd (cc e)
      | (Some w) ↦ λ e. named w (named_verdict x.fixed x.submissions w) refl e
    ] in
    wanted (wanted_in row) is

-- what it names is the same of the lists as they are loaded
pub verdict_of_lists : (x lists : ContestState) (now : ℕ) (row : List Text) (w : WantedVerdict) (o : Option Submission) (n : Option NamedVerdict) {f : FixedPart} → lists ≡ loaded x → wanted_in row ≡ Some w → f ≡ lists.fixed
    → named_submission w.submission (loaded_submissions x) ≡ o → n ≡ rules.verdict_on f (option_map of_submission o) w → record_verdict x now row ≡ verdict_on x.fixed now n
verdict_of_lists x lists now row w o n are wanted fixed found is =
    ap (verdict_wanted x now) wanted ∙ ap (verdict_on x.fixed now) (sym (is ∙ named_is x w o (fixed ∙ ap (λ (y : ContestState). y.fixed) are) found))

-- what is kept decides whether it is added
decided : {H : Type 0} (x lists : ContestState) (imported : HashMap (ℕ × ℕ) ℕ H) (so_far : List NewVerdict) (p : Proposal) → SoFar x lists imported so_far → is_valid_proposal x p ≡ true
    → addition_by (value_at imported p.team p.number) lists p ≡ verdict_addition (with_verdicts x so_far) p
decided x lists imported so_far p s valid =
    let y = with_verdicts x so_far in
    let fits : is_valid_proposal y p ≡ true = valid in
    let go : (o : Option Proposal) → imported_for y (of_proposal p) ≡ o → addition_by (verdict_of o) lists p ≡ verdict_addition y p = elim [
      | None ↦ λ e. rw (fits, e) (ap (λ (l : ContestState). first_addition l p) s.lists_are ∙ sym (s.first p e))
      | (Some q) ↦ λ e. rw (fits, e) refl
    ] in
    ap (λ o. addition_by o lists p) (s.imported_are p.team p.number) ∙ go (imported_for y (of_proposal p)) refl

-- what the record adds
pub judged : {H : Type 0} (x lists : ContestState) (imported : HashMap (ℕ × ℕ) ℕ H) (now : ℕ) (so_far : List NewVerdict) (row : List Text) (v : NewVerdict) (r : Result Bool Cause) → SoFar x lists imported so_far → record_verdict x now row ≡ Ok v
    → addition_by (value_at imported v.proposal.team v.proposal.number) lists v.proposal ≡ r → after_record x now so_far row ≡ if_added so_far v r
judged x lists imported now so_far row v r s is added =
    ap (with_verdict x so_far) is ∙ ap (if_added so_far v) (sym (decided x lists imported so_far v.proposal s (of_record x now row v is).fits) ∙ added)

pub proposals_more : (x : ContestState) (so_far : List NewVerdict) (v : NewVerdict) → (with_verdicts x so_far).proposals ++ v.proposal ∷ [] ≡ (with_verdicts x (so_far ++ v ∷ [])).proposals
proposals_more x so_far v =
    let of : NewVerdict → Proposal = λ u. u.proposal in
    append_assoc x.proposals (map of so_far) (v.proposal ∷ []) ∙ ap (λ ps. x.proposals ++ ps) (sym (map-append of so_far (v ∷ [])))

releases_more : (x : ContestState) (so_far : List NewVerdict) (v : NewVerdict) → (with_verdicts x so_far).releases ++ option_to_list v.release ≡ (with_verdicts x (so_far ++ v ∷ [])).releases
releases_more x so_far v =
    let of : NewVerdict → Option Release = λ u. u.release in
    let one : (o : Option Release) → option_to_list o ≡ cons_option o [] = elim [ None ↦ refl | (Some r) ↦ refl ] in
    append_assoc x.releases (filter_map of so_far) (option_to_list v.release)
    ∙ ap (λ vs. x.releases ++ vs) (ap (λ vs. filter_map of so_far ++ vs) (one v.release) ∙ sym (filter_map-append of so_far (v ∷ [])))

-- a contest with one verdict more
abbrev pub and_one : ContestState → NewVerdict → ContestState
and_one y v = record y { proposals = y.proposals ++ v.proposal ∷ []; releases = y.releases ++ option_to_list v.release }

pub verdicts_more : (x : ContestState) (so_far : List NewVerdict) (v : NewVerdict) → and_one (with_verdicts x so_far) v ≡ with_verdicts x (so_far ++ v ∷ [])
verdicts_more x so_far v = λ i. record x { proposals = proposals_more x so_far v i; releases = releases_more x so_far v i }

or_false : (b : Bool) → (b || false) ≡ b
or_false true = refl
or_false false = refl

-- the first of a submission is decided without a verdict on another
others_decide : (y : ContestState) (f : FixedPart) (now : ℕ) (n : NamedVerdict) (p : Proposal) → names p.team p.number (record { team = n.team; number = n.number }) ≡ false
    → first_addition (and_one y (imported_verdict f now n)) p ≡ first_addition y p
others_decide y f now n p other =
    let q = (imported_verdict f now n).proposal in
    let own = proposals_for p.team p.number y.proposals in
    let is_it : Release → Bool = λ v. names p.team p.number (of_release v) in
    let proposals = own_more p.team p.number y.proposals q ∙ (ap (λ b. own ++ cond b (q ∷ []) []) other ∙ append-nil own) in
    let releases : (b : Bool) → is_released p.team p.number (y.releases ++ option_to_list (if b then None else Some (first_release now n))) ≡ is_released p.team p.number y.releases = elim [
      | true ↦ ap (is_released p.team p.number) (append-nil y.releases)
      | false ↦ list_any-append is_it y.releases (first_release now n ∷ []) ∙ (ap (λ b. is_released p.team p.number y.releases || (b || false)) other ∙ or_false (is_released p.team p.number y.releases))
    ] in
    λ i. if nat_le PROPOSALS (length (proposals i)) then Err TableFull else (if releases f.settings.head.verification i then Err AlreadyReleased else Ok true)

found_none : (o : Option Proposal) (q : Proposal) → option_or o (Some q) ≡ None → ⊥
found_none None q e = cc e
found_none (Some p) q e = cc e

-- on its own submission an imported one stands then
first_after : (x y : ContestState) (f : FixedPart) (now : ℕ) (n : NamedVerdict) → DecidesFirst x y → DecidesFirst x (and_one y (imported_verdict f now n))
first_after x y f now n first p none =
    let q = (imported_verdict f now n).proposal in
    let own = proposals_for p.team p.number y.proposals in
    let go : (b : Bool) → names p.team p.number (of_proposal q) ≡ b → find is_imported (own ++ cond b (q ∷ []) []) ≡ None → first_addition (and_one y (imported_verdict f now n)) p ≡ first_addition x p = elim [
      | true ↦ λ e k. absurd (found_none (find is_imported own) q (sym (find-append is_imported own (q ∷ [])) ∙ k))
      | false ↦ λ e k. others_decide y f now n p e ∙ first p (ap (find is_imported) (sym (append-nil own)) ∙ k)
    ] in
    go (names p.team p.number (of_proposal q)) refl (ap (find is_imported) (sym (own_more p.team p.number y.proposals q)) ∙ none)

pub next_so_far : {H I : Type 0} (x lists : ContestState) (before : HashMap (ℕ × ℕ) ℕ H) (imported : HashMap (ℕ × ℕ) ℕ I) (now : ℕ) (so_far next : List NewVerdict) (v : NewVerdict)
    → SoFar x lists before so_far → IsOfRecord x now v → next ≡ so_far ++ v ∷ [] → AreImported imported ((with_verdicts x so_far).proposals ++ v.proposal ∷ []) → SoFar x lists imported next
next_so_far x lists before imported now so_far next v old of is are =
    let y = with_verdicts x so_far in
    let first : DecidesFirst x (and_one y v) = subst (λ (u : NewVerdict). DecidesFirst x (and_one y u)) of.made (first_after x y x.fixed now of.named old.first) in
    subst (SoFar x lists imported) (sym is) (record { valid = old.valid; lists_are = old.lists_are; imported_are = subst (AreImported imported) (proposals_more x so_far v) are; first = subst (DecidesFirst x) (verdicts_more x so_far v) first })

pub none_so_far : (x : ContestState) → with_verdicts x [] ≡ x
none_so_far x = λ i. record x { proposals = append-nil x.proposals i; releases = append-nil x.releases i }

-- before the first record
pub first_so_far : {H : Type 0} (x lists : ContestState) (imported : HashMap (ℕ × ℕ) ℕ H) (so_far : List NewVerdict) → is_valid x ≡ true → lists ≡ loaded x → so_far ≡ [] → AreImported imported lists.proposals
    → SoFar x lists imported so_far
first_so_far x lists imported so_far valid are none kept =
    let all : (y : ContestState) → y ≡ x → AreImported imported y.proposals × DecidesFirst x y = λ y e. (subst (λ (z : ContestState). AreImported imported z.proposals) (are ∙ sym (ap loaded e)) kept, subst (DecidesFirst x) (sym e) (λ p h. refl)) in
    let here = all (with_verdicts x []) (none_so_far x) in
    subst (SoFar x lists imported) (sym none) (record { valid = valid; lists_are = are; imported_are = here.0; first = here.1 })
