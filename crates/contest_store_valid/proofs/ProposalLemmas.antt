-- The proposals for each submission, by which of those each one is.
use Rattle.std.proofs.Common.{◌≡◌, ℕ, List, length, map, filter, refl, sym, ◌∙◌, ap}
use Rattle.std.specs.Prelude.{◌&&◌, nat_eq, nat_le, nat_lt, count_by}
use Rattle.std.specs.List.{list_all}
use Rattle.std.proofs.Math.Bool.{and_assoc}
use Rattle.std.proofs.lemmas.List.Folds.{list_all-map}
use Rattle.contest_types.specs.Series.{in_each}
use Rattle.contest_types.specs.State.{FixedPart, ContestState, of_proposal}
use Rattle.contest_types.specs.ValidSubmissions.{has_submission, is_valid_proposal, has_valid_proposals, for_one_submission, is_imported, is_there}
use Rattle.contest_types.specs.declared.limits.TheConstants.{PROPOSALS}
use Rattle.contest_types.specs.declared.proposal.Proposal.{Proposal}
use Rattle.contest_types.specs.declared.proposal.Proposer.{Proposer}
use Rattle.contest_types.specs.declared.proposal.Proposer.TheVariants as proposer
use Rattle.contest_store_valid.specs.Accounts.{has_proposer}
use Rattle.contest_store_valid.specs.Numbering.{numbered}
use Rattle.contest_store_valid.specs.Keys.{pair_of, same_numbers}
use Rattle.contest_store_valid.proofs.StepLemmas.{all_both, in_each_both}
use Rattle.contest_store_valid.proofs.NumberLemmas.{Tells, tells, each_has_few}
use Rattle.contest_store_valid.proofs.CountLemmas.{each_counts_few}
use Rattle.contest_store_valid.proofs.PairLemmas.{same_numbers_equiv, all_same}

abbrev pair : Proposal → ℕ × ℕ
pair p = pair_of (of_proposal p)

proposal_tells : Tells for_one_submission same_numbers pair
proposal_tells = tells for_one_submission same_numbers pair same_numbers_equiv (λ p q. refl)

pub few_by_submission : (ps : List Proposal) (pairs : List (ℕ × ℕ)) → pairs ≡ map (λ (p : Proposal). pair_of (of_proposal p)) ps
    → list_all (λ n. nat_le n PROPOSALS) (numbered (λ j k. nat_eq j.0 k.0 && nat_eq j.1 k.1) pairs) ≡ in_each for_one_submission (λ ps. nat_le (length ps) PROPOSALS) ps
few_by_submission ps pairs h = rw h (sym (each_has_few PROPOSALS proposal_tells ps))

pub imported_by_submission : (ps : List Proposal) (pairs : List (ℕ × ℕ)) → pairs ≡ map (λ (p : Proposal). pair_of (of_proposal p)) (filter is_imported ps)
    → list_all (λ n. nat_le n 1) (numbered (λ j k. nat_eq j.0 k.0 && nat_eq j.1 k.1) pairs) ≡ in_each for_one_submission (λ ps. nat_le (count_by is_imported ps) 1) ps
imported_by_submission ps pairs h = rw h (sym (each_counts_few is_imported 1 proposal_tells ps))

pub for_submissions : (x : ContestState) (ps : List Proposal) (pairs : List (ℕ × ℕ)) → pairs ≡ map (λ (p : Proposal). pair_of (of_proposal p)) ps
    → list_all (λ k. has_submission x k.0 k.1) pairs ≡ list_all (λ (p : Proposal). has_submission x p.team p.number) ps
for_submissions x ps pairs h = ap (list_all (λ k. has_submission x k.0 k.1)) h ∙ list_all-map (λ k. has_submission x k.0 k.1) pair ps

there_by_role : (f : FixedPart) (p : Proposer) → has_proposer f.accounts p ≡ is_there f p
there_by_role f (proposer.Account id) = refl
there_by_role f proposer.Import = refl

pub have_proposers : (f : FixedPart) (ps : List Proposal) → list_all (λ (p : Proposal). has_proposer f.accounts p.proposer) ps ≡ list_all (λ (p : Proposal). is_there f p.proposer) ps
have_proposers f ps = all_same (λ (p : Proposal). has_proposer f.accounts p.proposer) (λ p. is_there f p.proposer) (λ p. there_by_role f p.proposer) ps

pub valid_alone : (x : ContestState)
    → list_all (is_valid_proposal x) x.proposals
    ≡ (list_all (λ (p : Proposal). has_submission x p.team p.number) x.proposals && list_all (λ (p : Proposal). nat_lt p.verdict (length x.fixed.settings.types)) x.proposals && list_all (λ (p : Proposal). is_there x.fixed p.proposer) x.proposals)
valid_alone x =
    all_both (λ (p : Proposal). has_submission x p.team p.number && nat_lt p.verdict (length x.fixed.settings.types)) (λ p. is_there x.fixed p.proposer) x.proposals
    ∙ ap (λ b. b && list_all (λ (p : Proposal). is_there x.fixed p.proposer) x.proposals)
    (all_both (λ (p : Proposal). has_submission x p.team p.number) (λ p. nat_lt p.verdict (length x.fixed.settings.types)) x.proposals)

pub valid_proposals : (x : ContestState)
    → has_valid_proposals x
    ≡ (list_all (is_valid_proposal x) x.proposals && in_each for_one_submission (λ ps. nat_le (length ps) PROPOSALS) x.proposals && in_each for_one_submission (λ ps. nat_le (count_by is_imported ps) 1) x.proposals)
valid_proposals x =
    let alone = list_all (is_valid_proposal x) x.proposals in
    let few = in_each for_one_submission (λ ps. nat_le (length ps) PROPOSALS) x.proposals in
    let once = in_each for_one_submission (λ ps. nat_le (count_by is_imported ps) 1) x.proposals in
    ap (λ b. alone && b) (in_each_both for_one_submission (λ ps. nat_le (length ps) PROPOSALS) (λ ps. nat_le (count_by is_imported ps) 1) x.proposals) ∙ sym (and_assoc alone few once)
