-- What a file of verdicts adds may be added, one after the other.
use Rattle.std.proofs.Common.{◌≡◌, ◌+◌, ◌∙◌, ℕ, Bool, true, false, List, [], ◌∷◌, ◌++◌, append-nil, length, Option, Some, None, Result, Ok, Err, refl, sym, ap, subst}
use Rattle.std.specs.Prelude.{◌==◌, not, nat_le, if◌then◌else◌}
use Rattle.std.specs.List.{flat_map}
use Rattle.std.proofs.lemmas.Bool.{false≢true}
use Rattle.std.proofs.lemmas.List.{append_assoc}
use Rattle.csv.specs.Reading.{default_config, records, strip_bom}
use Rattle.contest_files.specs.FieldTexts.{Text}
use Rattle.contest_types.specs.Addable.{are_addable, is_addable}
use Rattle.contest_types.specs.State.{ContestState, add, add_all, of_proposal, proposals_for}
use Rattle.contest_types.specs.ValidRejudgings.{has_release}
use Rattle.contest_types.specs.ValidSubmissions.{is_valid_proposal}
use Rattle.contest_types.specs.VerdictAdditions.{imported_for, verdict_addition}
use Rattle.contest_types.specs.declared.entry.Entry.{Entry}
use Rattle.contest_types.specs.declared.entry.Entry.TheVariants.{NewProposal, NewRelease}
use Rattle.contest_types.specs.declared.limits.TheConstants.{PROPOSALS}
use Rattle.contest_types.specs.declared.proposal.Proposal.{Proposal}
use Rattle.contest_types.specs.declared.refusal.Cause.{Cause}
use Rattle.contest_types.specs.declared.refusal.Cause.TheVariants.{UnknownReference, KeyReused, TableFull, AlreadyReleased}
use Rattle.contest_types.specs.declared.submission.Release.{Release}
use Rattle.contest_types.proofs.PlaceLemmas.{and_left, and_right, both_true}
use Rattle.contest_types.proofs.VerdictLemmas.{imported_is_addable}
use Rattle.contest_rules.specs.Proposing.{entries_of}
use Rattle.contest_rules.specs.Verdicts.{first_release, named_verdict}
use Rattle.contest_rules.specs.declared.proposing.NewVerdict.{NewVerdict}
use Rattle.contest_rules.specs.declared.verdicts.NamedVerdict.{NamedVerdict}
use Rattle.contest_rules.specs.declared.verdicts.WantedVerdict.{WantedVerdict}
use Rattle.contest_rules.proofs.ProposedLemmas.{IsNamed, named_there, release_fits}
use Rattle.contest_import_verdicts.specs.Laws.{VerdictsAreAddable}
use Rattle.contest_import_verdicts.specs.VerdictFiles.{after_records, below_header, entries_if, if_added, imported_verdict, or_fault_of, verdict_on, verdict_wanted, verdicts_in, wanted_in, with_verdict, with_verdicts}
use Rattle.contest_import_verdicts.proofs.SoFarLemmas.{none_so_far, verdicts_more}

-- a contest with one verdict more is what adding its rows makes
with_one : (x : ContestState) (so_far : List NewVerdict) (p : Proposal) (o : Option Release)
    → add_all (with_verdicts x so_far) (entries_of (record { proposal = p; release = o })) ≡ with_verdicts x (so_far ++ record { proposal = p; release = o } ∷ [])
with_one x so_far p None =
    let y = with_verdicts x so_far in
    (λ i. record y { proposals = y.proposals ++ p ∷ []; releases = sym (append-nil y.releases) i }) ∙ verdicts_more x so_far (record { proposal = p; release = None })
with_one x so_far p (Some r) = verdicts_more x so_far (record { proposal = p; release = Some r })

-- what was tested of a verdict, by the one that was imported for its submission before, if one was
abbrev pub IsTested : ContestState → Proposal → (added : Bool) → (earlier : Option Proposal) → Type 0
IsTested y p added None = (added ≡ true) × (has_release y p.team p.number ≡ false)
IsTested y p added (Some q) = (added ≡ false) × ((q.verdict == p.verdict) ≡ true)

pub tested : (y : ContestState) (p : Proposal) (added : Bool) → verdict_addition y p ≡ Ok added → (o : Option Proposal) → imported_for y (of_proposal p) ≡ o → IsTested y p added o
tested y p added h o e =
    let go : (valid : Bool) (q : Option Proposal) (full released : Bool) → has_release y p.team p.number ≡ released
    → (if not valid then Err UnknownReference else (elim q as (λ _. Result Bool Cause) [
      | (Some earlier) ↦ if earlier.verdict == p.verdict then Ok false else Err KeyReused
      | None ↦ if full then Err TableFull else (if released then Err AlreadyReleased else Ok true)
    ])) ≡ Ok added → IsTested y p added q = elim [
      | false ↦ λ q full released f k. absurd (cc k)
      | true ↦ elim [
        | (Some earlier) ↦ λ full released f k. stood (earlier.verdict == p.verdict) k
        | None ↦ elim [
          | true ↦ λ released f k. absurd (cc k)
          | false ↦ elim [ true ↦ λ f k. absurd (cc k) | false ↦ λ f k. (cc k, f) ]
        ]
      ]
    ] in
    subst (IsTested y p added) e (go (is_valid_proposal y p) (imported_for y (of_proposal p)) (nat_le PROPOSALS (length (proposals_for p.team p.number y.proposals))) (has_release y p.team p.number) refl h)
  where
    stood : (b : Bool) → (if b then Ok false else Err KeyReused) ≡ Ok added → (added ≡ false) × (b ≡ true)
    stood true k = (cc k, refl)
    stood false k = absurd (cc k)

-- one that is added has no release yet
unreleased : (y : ContestState) (p : Proposal) → verdict_addition y p ≡ Ok true → has_release y p.team p.number ≡ false
unreleased y p h =
    let go : (o : Option Proposal) → imported_for y (of_proposal p) ≡ o → has_release y p.team p.number ≡ false = elim [ None ↦ λ e. (tested y p true h None e).1 | (Some q) ↦ λ e. absurd (false≢true (sym (tested y p true h (Some q) e).0)) ] in
    go (imported_for y (of_proposal p)) refl

-- its rows may be added
verdict_addable : (x : ContestState) (now : ℕ) (so_far : List NewVerdict) (n : NamedVerdict) → IsNamed x n
    → verdict_addition (with_verdicts x so_far) (imported_verdict x.fixed now n).proposal ≡ Ok true → are_addable (with_verdicts x so_far) (entries_of (imported_verdict x.fixed now n)) ≡ true
verdict_addable x now so_far n there h =
    let y = with_verdicts x so_far in
    let p = (imported_verdict x.fixed now n).proposal in
    let go : (b : Bool) → are_addable (add y (NewProposal p)) (elim (if b then None else Some (first_release now n)) as (λ _. List Entry) [ None ↦ [] | (Some v) ↦ NewRelease v ∷ [] ]) ≡ true = elim [
      | true ↦ refl
      | false ↦ both_true _ _ (release_fits (add y (NewProposal p)) now n.team n.number n.verdict there.there there.is_type (unreleased y p h)) refl
    ] in
    both_true _ _ (imported_is_addable y p h) (go x.fixed.settings.head.verification)

joined : (x : ContestState) (es fs : List Entry) → are_addable x es ≡ true → are_addable (add_all x es) fs ≡ true → are_addable x (es ++ fs) ≡ true
joined x [] fs h k = k
joined x (e ∷ es) fs h k = both_true _ _ (and_left (is_addable x e) _ h) (joined (add x e) es fs (and_right (is_addable x e) _ h) k)

-- what the records to come add, after the verdicts so far
pub record IsMore (x : ContestState) (so_far all : List NewVerdict) : Type 0 where
  pub more : List NewVerdict
  pub all_are : all ≡ so_far ++ more
  pub addable : are_addable (with_verdicts x so_far) (flat_map entries_of more) ≡ true

with_this : (x : ContestState) (so_far all : List NewVerdict) (v : NewVerdict) → are_addable (with_verdicts x so_far) (entries_of v) ≡ true → IsMore x (so_far ++ v ∷ []) all → IsMore x so_far all
with_this x so_far all v one rest = record {
  more = v ∷ rest.more;
  all_are = rest.all_are ∙ append_assoc so_far (v ∷ []) rest.more;
  addable = joined (with_verdicts x so_far) (entries_of v) (flat_map entries_of rest.more) one
      (subst (λ (y : ContestState). are_addable y (flat_map entries_of rest.more) ≡ true) (sym (with_one x so_far v.proposal v.release)) rest.addable);
}

pub more_added : (x : ContestState) (now : ℕ) (so_far : List NewVerdict) (n : ℕ) (rows : List (List Text)) (all : List NewVerdict) → after_records x now so_far n rows ≡ Ok all → IsMore x so_far all
more_added x now so_far n [] all h =
    let is : so_far ≡ all = cc h in
    record { more = []; all_are = sym is ∙ sym (append-nil so_far); addable = refl }
more_added x now so_far n (row ∷ rows) all h =
    let later : List NewVerdict → Result (List NewVerdict) _ = λ more. after_records x now more (n + 1) rows in
    let judged : (v : NamedVerdict) → IsNamed x v → (r : Result Bool Cause) → verdict_addition (with_verdicts x so_far) (imported_verdict x.fixed now v).proposal ≡ r
    → or_fault_of n later (if_added so_far (imported_verdict x.fixed now v) r) ≡ Ok all → IsMore x so_far all = λ v there. elim [
      | (Err c) ↦ λ e k. absurd (cc k)
      | (Ok true) ↦ λ e k. with_this x so_far all (imported_verdict x.fixed now v) (verdict_addable x now so_far v there e) (more_added x now (so_far ++ imported_verdict x.fixed now v ∷ []) (n + 1) rows all k)
      | (Ok false) ↦ λ e k. more_added x now so_far (n + 1) rows all k
    ] in
    let named : (w : WantedVerdict) (o : Option NamedVerdict) → named_verdict x.fixed x.submissions w ≡ o → or_fault_of n later (with_verdict x so_far (verdict_on x.fixed now o)) ≡ Ok all → IsMore x so_far all = λ w. elim [
      | None ↦ λ e k. absurd (cc k)
      | (Some v) ↦ λ e k. judged v (named_there x w v e) (verdict_addition (with_verdicts x so_far) (imported_verdict x.fixed now v).proposal) refl k
    ] in
    let wanted : (o : Option WantedVerdict) → or_fault_of n later (with_verdict x so_far (verdict_wanted x now o)) ≡ Ok all → IsMore x so_far all = elim [
      | None ↦ λ k. absurd (cc k)
      | (Some w) ↦ λ k. named w (named_verdict x.fixed x.submissions w) refl k
    ] in
    wanted (wanted_in row) h

pub verdicts_are_addable : VerdictsAreAddable
verdicts_are_addable x now bytes rows h =
    let made : (r : Result (List NewVerdict) _) → verdicts_in x now (below_header (records default_config (strip_bom bytes))) ≡ r → entries_if r ≡ Ok rows → are_addable x rows ≡ true = elim [
      | (Err refusal) ↦ λ e k. absurd (cc k)
      | (Ok all) ↦ λ e k. (let is : flat_map entries_of all ≡ rows = cc k in
          let m = found (below_header (records default_config (strip_bom bytes))) all e in
          let here : are_addable x (flat_map entries_of m.more) ≡ true = subst (λ (y : ContestState). are_addable y (flat_map entries_of m.more) ≡ true) (none_so_far x) m.addable in
          subst (λ es. are_addable x es ≡ true) is (subst (λ vs. are_addable x (flat_map entries_of vs) ≡ true) (sym m.all_are) here))
    ] in
    made (verdicts_in x now (below_header (records default_config (strip_bom bytes)))) refl h
  where
    found : (o : Option (List (List Text))) (all : List NewVerdict) → verdicts_in x now o ≡ Ok all → IsMore x [] all
    found None all e = absurd (cc e)
    found (Some rows) all e = more_added x now [] 1 rows all e

-- a contest with verdicts is what adding their rows makes
added_all : (x : ContestState) (es fs : List Entry) → add_all x (es ++ fs) ≡ add_all (add_all x es) fs
added_all x [] fs = refl
added_all x (e ∷ es) fs = added_all (add x e) es fs

more_verdicts : (x : ContestState) (so_far more : List NewVerdict) → add_all (with_verdicts x so_far) (flat_map entries_of more) ≡ with_verdicts x (so_far ++ more)
more_verdicts x so_far [] = ap (with_verdicts x) (sym (append-nil so_far))
more_verdicts x so_far (v ∷ more) =
    added_all (with_verdicts x so_far) (entries_of v) (flat_map entries_of more)
    ∙ (ap (λ (y : ContestState). add_all y (flat_map entries_of more)) (with_one x so_far v.proposal v.release)
    ∙ (more_verdicts x (so_far ++ v ∷ []) more ∙ ap (with_verdicts x) (append_assoc so_far (v ∷ []) more)))

pub add_verdicts : (x : ContestState) (all : List NewVerdict) → add_all x (flat_map entries_of all) ≡ with_verdicts x all
add_verdicts x all = subst (λ (y : ContestState). add_all y (flat_map entries_of all) ≡ with_verdicts x all) (none_so_far x) (more_verdicts x [] all)
