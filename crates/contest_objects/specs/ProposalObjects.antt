-- Proposed verdicts as the jury is served them (own; a verdict is a judgement type of the Contest API 2023-06).
use Rattle.std.specs.Prelude.{ℕ, Bool, List, codes}
use Rattle.serde_json.specs.Data.{Data, Members, boolean, string, object, member, no_members}
use Rattle.contest_types.specs.MomentText.{moment_text}
use Rattle.contest_types.specs.SettingsNames.{type_id_at}
use Rattle.contest_types.specs.Setup.{Setup}
use Rattle.contest_types.specs.VisibleIds.{submission_id}
use Rattle.contest_types.specs.declared.proposal.Proposal.{Proposal}
use Rattle.contest_types.specs.declared.proposal.Proposer.{Proposer}
use Rattle.contest_types.specs.declared.proposal.Proposer.TheVariants as proposer

-- a file of verdicts stands for the reserved account `import`
abbrev pub proposer_id : Proposer → List ℕ
proposer_id (proposer.Account id) = id
proposer_id proposer.Import = codes "import"

-- a proposal, by the values of its members
abbrev pub proposal_members : (account judgement_type : List ℕ) → (released : Bool) → (submission : List ℕ) → (time : ℕ) → Members
proposal_members account judgement_type released submission time =
    member (codes "account_id") (string account)
    (member (codes "judgement_type_id") (string judgement_type)
    (member (codes "released") (boolean released)
    (member (codes "submission_id") (string submission)
    (member (codes "time") (string (moment_text time)) no_members))))

-- released: whether the submission has a release
abbrev pub proposal_data : Setup → Proposal → (released : Bool) → Data
proposal_data s p released = object (proposal_members (proposer_id p.proposer) (type_id_at s p.verdict) released (submission_id p.team p.number) p.time)
