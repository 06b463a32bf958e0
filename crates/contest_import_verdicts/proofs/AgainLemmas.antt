-- A file of verdicts that was imported adds nothing when it is imported again.
use Rattle.std.proofs.Common.{◌≡◌, ◌+◌, ◌∙◌, ℕ, Bool, true, false, List, [], ◌∷◌, ◌++◌, map, Option, Some, None, Result, Ok, Err, refl, sym, ap, subst, cond}
use Rattle.std.specs.Prelude.{◌==◌, filter, find}
use Rattle.std.specs.List.{flat_map}
use Rattle.std.specs.Option.{option_or}
use Rattle.std.proofs.lemmas.Bool.{eq-eqb, false≢true}
use Rattle.std.proofs.lemmas.List.{append_assoc, map-append}
use Rattle.std.proofs.lemmas.List.Elements.{filter-append}
use Rattle.std.proofs.lemmas.List.Folds.{find-append}
use Rattle.csv.specs.Reading.{default_config, records, strip_bom}
use Rattle.contest_files.specs.FieldTexts.{Text}
use Rattle.contest_types.specs.State.{ContestState, add_all, names, of_proposal, proposals_for}
use Rattle.contest_types.specs.ValidSubmissions.{is_imported, is_valid_proposal}
use Rattle.contest_types.specs.VerdictAdditions.{verdict_addition}
use Rattle.contest_types.specs.declared.proposal.Proposal.{Proposal}
use Rattle.contest_types.specs.declared.refusal.Cause.{Cause}
use Rattle.contest_types.specs.declared.refusal.Refusal.{Refusal}
use Rattle.contest_types.proofs.PlaceLemmas.{both_true}
use Rattle.contest_rules.specs.Proposing.{entries_of}
use Rattle.contest_rules.specs.Verdicts.{named_verdict}
use Rattle.contest_rules.specs.declared.proposing.NewVerdict.{NewVerdict}
use Rattle.contest_rules.specs.declared.verdicts.NamedVerdict.{NamedVerdict}
use Rattle.contest_rules.specs.declared.verdicts.WantedVerdict.{WantedVerdict}
use Rattle.contest_import_verdicts.specs.Laws.{VerdictsAddNothingAgain}
use Rattle.contest_import_verdicts.specs.VerdictFiles.{after_records, below_header, entries_if, if_added, imported_verdict, or_fault_of, verdict_on, verdict_wanted, verdicts_in, wanted_in, with_verdict, with_verdicts}
use Rattle.contest_import_verdicts.proofs.AddableLemmas.{add_verdicts, more_added, tested}
use Rattle.contest_import_verdicts.proofs.SoFarLemmas.{named_fits, none_so_far, proposals_more}

abbrev imported : ContestState → NamedVerdict → Option Proposal
imported x n = find is_imported (proposals_for n.team n.number x.proposals)

-- a verdict of this type was imported for the submission
record Has (x : ContestState) (n : NamedVerdict) : Type 0 where
  pub proposal : Proposal
  pub found : imported x n ≡ Some proposal
  pub same : (proposal.verdict == n.verdict) ≡ true

-- what was imported stays, whatever is added
still : (x : ContestState) (so_far more : List NewVerdict) (n : NamedVerdict) → Has (with_verdicts x so_far) n → Has (with_verdicts x (so_far ++ more)) n
still x so_far more n h =
    let of : NewVerdict → Proposal = λ v. v.proposal in
    let own : Proposal → Bool = λ p. names n.team n.number (of_proposal p) in
    let before = (with_verdicts x so_far).proposals in
    let after : (with_verdicts x (so_far ++ more)).proposals ≡ before ++ map of more =
    ap (λ ps. x.proposals ++ ps) (map-append of so_far more) ∙ sym (append_assoc x.proposals (map of so_far) (map of more)) in
    record {
      proposal = h.proposal;
      found = ap (λ ps. find is_imported (proposals_for n.team n.number ps)) after
          ∙ (ap (find is_imported) (filter-append own before (map of more))
          ∙ (find-append is_imported (filter own before) (filter own (map of more)) ∙ ap (λ o. option_or o (find is_imported (filter own (map of more)))) h.found));
      same = h.same;
    }

-- one that is added is the first that was imported
has_added : (x : ContestState) (now : ℕ) (so_far : List NewVerdict) (n : NamedVerdict) → verdict_addition (with_verdicts x so_far) (imported_verdict x.fixed now n).proposal ≡ Ok true
    → Has (with_verdicts x (so_far ++ imported_verdict x.fixed now n ∷ [])) n
has_added x now so_far n h =
    let own : Proposal → Bool = λ p. names n.team n.number (of_proposal p) in
    let v = imported_verdict x.fixed now n in
    let before = (with_verdicts x so_far).proposals in
    let its_own : own v.proposal ≡ true = both_true _ _ (eq-eqb n.team n.team refl) (eq-eqb n.number n.number refl) in
    let none : (o : Option Proposal) → find is_imported (filter own before) ≡ o → option_or o (find is_imported (cond (own v.proposal) (v.proposal ∷ []) [])) ≡ Some v.proposal = elim [
      | None ↦ λ e. rw its_own refl
      | (Some q) ↦ λ e. absurd (false≢true (sym (tested (with_verdicts x so_far) v.proposal true h (Some q) e).0))
    ] in
    record {
      proposal = v.proposal;
      found = ap (λ ps. find is_imported (proposals_for n.team n.number ps)) (sym (proposals_more x so_far v))
          ∙ (ap (find is_imported) (filter-append own before (v.proposal ∷ []))
          ∙ (find-append is_imported (filter own before) (filter own (v.proposal ∷ [])) ∙ none (find is_imported (filter own before)) refl));
      same = eq-eqb n.verdict n.verdict refl;
    }

has_stood : (x : ContestState) (now : ℕ) (so_far : List NewVerdict) (n : NamedVerdict) → verdict_addition (with_verdicts x so_far) (imported_verdict x.fixed now n).proposal ≡ Ok false → Has (with_verdicts x so_far) n
has_stood x now so_far n h =
    let y = with_verdicts x so_far in
    let go : (o : Option Proposal) → imported y n ≡ o → Has y n = elim [
      | None ↦ λ e. absurd (false≢true (tested y (imported_verdict x.fixed now n).proposal false h None e).0)
      | (Some q) ↦ λ e. record { proposal = q; found = e; same = (tested y (imported_verdict x.fixed now n).proposal false h (Some q) e).1 }
    ] in
    go (imported y n) refl

-- so its record adds nothing any more
adds_nothing : (x : ContestState) (later : ℕ) (all : List NewVerdict) (w : WantedVerdict) (n : NamedVerdict) → named_verdict x.fixed x.submissions w ≡ Some n → Has (with_verdicts x all) n
    → verdict_addition (with_verdicts (with_verdicts x all) []) (imported_verdict x.fixed later n).proposal ≡ Ok false
adds_nothing x later all w n e h =
    let y = with_verdicts x all in
    let p = (imported_verdict x.fixed later n).proposal in
    let fits : is_valid_proposal y p ≡ true = named_fits x later w n e in
    let here : verdict_addition y p ≡ Ok false = rw (fits, h.found, h.same) refl in
    subst (λ (z : ContestState). verdict_addition z p ≡ Ok false) (sym (none_so_far y)) here

again : (x : ContestState) (now later : ℕ) (so_far : List NewVerdict) (n : ℕ) (rows : List (List Text)) (all : List NewVerdict) → after_records x now so_far n rows ≡ Ok all
    → after_records (with_verdicts x all) later [] n rows ≡ Ok []
again x now later so_far n [] all h = refl
again x now later so_far n (row ∷ rows) all h =
    let y = with_verdicts x all in
    let rest : List NewVerdict → Result (List NewVerdict) Refusal = λ more. after_records x now more (n + 1) rows in
    let onward : List NewVerdict → Result (List NewVerdict) Refusal = λ more. after_records y later more (n + 1) rows in
    let has : (so_far : List NewVerdict) (v : NamedVerdict) → Has (with_verdicts x so_far) v → after_records x now so_far (n + 1) rows ≡ Ok all → Has y v = λ these v k e. (
    let m = more_added x now these (n + 1) rows all e in
    subst (λ vs. Has (with_verdicts x vs) v) (sym m.all_are) (still x these m.more v k)) in
    let done : (w : WantedVerdict) (v : NamedVerdict) → named_verdict x.fixed x.submissions w ≡ Some v → Has y v → after_records y later [] (n + 1) rows ≡ Ok []
    → or_fault_of n onward (if_added [] (imported_verdict x.fixed later v) (verdict_addition (with_verdicts y []) (imported_verdict x.fixed later v).proposal)) ≡ Ok [] = λ w v e k l.
    ap (λ r. or_fault_of n onward (if_added [] (imported_verdict x.fixed later v) r)) (adds_nothing x later all w v e k) ∙ l in
    let judged : (w : WantedVerdict) (v : NamedVerdict) → named_verdict x.fixed x.submissions w ≡ Some v → (r : Result Bool Cause) → verdict_addition (with_verdicts x so_far) (imported_verdict x.fixed now v).proposal ≡ r
    → or_fault_of n rest (if_added so_far (imported_verdict x.fixed now v) r) ≡ Ok all
    → or_fault_of n onward (if_added [] (imported_verdict x.fixed later v) (verdict_addition (with_verdicts y []) (imported_verdict x.fixed later v).proposal)) ≡ Ok [] = λ w v named. elim [
      | (Err c) ↦ λ e k. absurd (cc k)
      | (Ok true) ↦ λ e k. done w v named (has (so_far ++ imported_verdict x.fixed now v ∷ []) v (has_added x now so_far v e) k) (again x now later (so_far ++ imported_verdict x.fixed now v ∷ []) (n + 1) rows all k)
      | (Ok false) ↦ λ e k. done w v named (has so_far v (has_stood x now so_far v e) k) (again x now later so_far (n + 1) rows all k)
    ] in
    let named : (w : WantedVerdict) (o : Option NamedVerdict) → named_verdict x.fixed x.submissions w ≡ o → or_fault_of n rest (with_verdict x so_far (verdict_on x.fixed now o)) ≡ Ok all
    → or_fault_of n onward (with_verdict y [] (verdict_on x.fixed later o)) ≡ Ok [] = λ w. elim [
      | None ↦ λ e k. absurd (cc k)
      | (Some v) ↦ λ e k. judged w v e (verdict_addition (with_verdicts x so_far) (imported_verdict x.fixed now v).proposal) refl k
    ] in
    let wanted : (o : Option WantedVerdict) → or_fault_of n rest (with_verdict x so_far (verdict_wanted x now o)) ≡ Ok all → or_fault_of n onward (with_verdict y [] (verdict_wanted y later o)) ≡ Ok [] = elim [
      | None ↦ λ k. absurd (cc k)
      | (Some w) ↦ λ k. named w (named_verdict x.fixed x.submissions w) refl k
    ] in
    wanted (wanted_in row) h

pub verdicts_add_nothing_again : VerdictsAddNothingAgain
verdicts_add_nothing_again x now later bytes rows h =
    let below = below_header (records default_config (strip_bom bytes)) in
    let nothing : (o : Option (List (List Text))) (all : List NewVerdict) → verdicts_in x now o ≡ Ok all → entries_if (verdicts_in (with_verdicts x all) later o) ≡ Ok [] = λ o all. elim o as (λ o. verdicts_in x now o ≡ Ok all → entries_if (verdicts_in (with_verdicts x all) later o) ≡ Ok []) [
      | None ↦ λ k. absurd (cc k)
      | (Some found) ↦ λ k. ap entries_if (again x now later [] 1 found all k)
    ] in
    let go : (r : Result (List NewVerdict) Refusal) → verdicts_in x now below ≡ r → entries_if r ≡ Ok rows → entries_if (verdicts_in (add_all x rows) later below) ≡ Ok [] = elim [
      | (Err refusal) ↦ λ e k. absurd (cc k)
      | (Ok all) ↦ λ e k. (let is : flat_map entries_of all ≡ rows = cc k in
          let after : with_verdicts x all ≡ add_all x rows = sym (add_verdicts x all) ∙ ap (add_all x) is in
          subst (λ (y : ContestState). entries_if (verdicts_in y later below) ≡ Ok []) after (nothing below all e))
    ] in
    go (verdicts_in x now below) refl h
