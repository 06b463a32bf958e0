-- Worked examples of requests: what the laws ask for is asked for.
use Rattle.std.proofs.Common.{◌≡◌, ◌∙◌, ◌<◌, ℕ, true, false, List, [], ◌∷◌, Some, None, Ok, inl, inr, refl, ap, arith, sym, subst, zero, suc, Err, ◌+◌, ◌++◌, Option, Result}
use Rattle.std.specs.Prelude.{bytes_eq, codes, nat_lt, slice_get, if◌then◌else◌}
use Rattle.std.specs.List.{All, list_all}
use Rattle.std.specs.Option.{option_map, option_map_or}
use Rattle.std.proofs.lemmas.Bool.{false≢true, leb-true, ltb-true}
use Rattle.std.proofs.lemmas.Fmt.{decimal_digit}
use Rattle.std.proofs.lemmas.List.Elements.{All-cons}
use Rattle.std.specs.Str.{chars, is_utf8}
use Rattle.serde_json.proofs.OnLiterals.{serde_json_on_literals}
use Rattle.sha2.specs.Sha256.{sha256}
use Rattle.contest_types.specs.Order.{Has}
use Rattle.contest_types.specs.State.{ContestState, FixedPart, of_submission}
use Rattle.contest_types.specs.Valid.{is_valid}
use Rattle.contest_types.specs.declared.account.Account.{Account}
use Rattle.contest_types.specs.declared.entry.Entry.TheVariants.{NewRelease, SetFinalized, SetMember}
use Rattle.contest_types.specs.declared.rejudging.MemberState.TheVariants.{Proposed, Ready}
use Rattle.contest_types.specs.declared.proposal.Proposal.{Proposal}
use Rattle.contest_types.specs.declared.proposal.Proposer.TheVariants.{Import}
use Rattle.contest_types.specs.declared.rejudging.Rejudging.{Rejudging}
use Rattle.contest_types.specs.declared.rejudging.RejudgingState.TheVariants.{Open}
use Rattle.contest_types.specs.declared.submission.Release.{Release}
use Rattle.contest_types.specs.declared.account.Role.TheVariants as role
use Rattle.contest_types.proofs.ExampleContest.{empty, hours, minutes, rejudged, released, submitted, thawed_at, wrong}
use Rattle.contest_types.proofs.ExampleTalk.{base}
use Rattle.contest_types.proofs.PlaceLemmas.{and_left, and_right, bytes_same}
use Rattle.contest_files.specs.JsonMembers.{data_of}
use Rattle.contest_rules.specs.Rejudging.{rejudge_on}
use Rattle.contest_rules.specs.Verdicts.{named_verdict, verdict_on}
use Rattle.contest_rules.specs.declared.verdicts.NamedVerdict.{NamedVerdict}
use Rattle.contest_rules.specs.Verifying.{verify_named}
use Rattle.contest_rules.specs.declared.rule_refusal.RuleRefusal.{RuleRefusal}
use Rattle.contest_rules.specs.declared.rule_refusal.RuleRefusal.TheVariants.{NotFound}
use Rattle.contest_view.specs.Rejudgings.{named_rejudging}
use Rattle.contest_postings.specs.DoneThings.{done_as, ruled_with}
use Rattle.contest_postings.specs.PostRejudgings.{change_entries, change_object, member_change, step_change}
use Rattle.contest_postings.specs.PostVerification.{release_entries, release_object}
use Rattle.contest_postings.specs.declared.rejudging.RejudgingChange.{RejudgingChange}
use Rattle.contest_postings.specs.declared.rejudging.RejudgingStep.TheVariants.{Apply, Judge}
use Rattle.contest_postings.specs.declared.changes.WantedChange.TheVariants as wanted
use Rattle.contest_requests.specs.declared.request.Credential.{Credential}
use Rattle.contest_requests.specs.declared.request.Credential.TheVariants.{Token}
use Rattle.contest_requests.specs.JuryVerdicts.{verdict_of}
use Rattle.contest_requests.specs.declared.jury_verdict.JuryVerdict.{JuryVerdict}
use Rattle.contest_requests.specs.declared.request.Request.{Request}
use Rattle.contest_requests.specs.declared.request.KeyField.TheVariants.{Absent}
use Rattle.contest_requests.specs.declared.request.Method.TheVariants as method
use Rattle.contest_operations.specs.Callers.{holder_of, caller_of}
use Rattle.contest_operations.specs.Offers.{nothing}
use Rattle.contest_operations.specs.Routes.{offer_at, route_rows}
use Rattle.contest_operations.specs.Step.{asked, asked_there, outcome_of, step, wish_or_reply, wish_or_reply_by}
use Rattle.contest_operations.specs.declared.command.Command.TheVariants as command
use Rattle.contest_operations.specs.Outcomes.{told}
use Rattle.contest_operations.specs.declared.outcome.Outcome.{Outcome}
use Rattle.contest_operations.specs.Paths.{jury_piece}
use Rattle.contest_operations.specs.declared.post_change.ChangeKind.TheVariants as change
use Rattle.contest_operations.specs.declared.command.Posted.TheVariants.{Change as Changed, Final, Rejudging as OfRejudging, Verification}
use Rattle.contest_operations.specs.declared.offer.Offer.{Offer}
use Rattle.contest_operations.specs.declared.wish.Wish.TheVariants.{Do}
use Rattle.contest_operations.proofs.RouteLaw.{routes_read}
use Rattle.contest_desk.specs.AccountLaws.{replaces_token, token_wished}
use Rattle.contest_desk.specs.Items.{IsStoreAnswer, item_entries, item_step}
use Rattle.contest_desk.specs.Runs.{IsRun}
use Rattle.contest_desk.specs.declared.item.Answer.{Answer}
use Rattle.contest_desk.specs.declared.item.Item.{Item}
use Rattle.contest_desk.specs.declared.item.Item.TheVariants as item
use Rattle.contest_desk.specs.declared.item.RequestItem.{RequestItem}
use Rattle.contest_desk.proofs.ItemLemmas.{failure_is, item_ordinary}
use Rattle.contest_laws.specs.Crashes.{IsDone, Stretch}
use Rattle.contest_laws.specs.Finals.{HasSameResults, IsFinal}
use Rattle.contest_laws.proofs.CrashLaws.{nothing_is_lost}
use Rattle.contest_laws.proofs.Examples.{late}
use Rattle.contest_laws.specs.Standing.{is_of_admin}
use Rattle.contest_laws.specs.Verdicts.{Asks, IsApplied, IsSettled, IsVerified}
use Rattle.contest_laws.proofs.AdminLaws.{only_admins_replace_tokens}
use Rattle.contest_laws.proofs.FinalLaws.{final_results_stay}
use Rattle.contest_laws.proofs.VerdictLaws.{only_rejudgings_revise, two_judges_rejudge, two_judges_release}

-- an administrator, with a token
abbrev admin : Account
admin = record { id = codes "adm"; role = role.Admin; digest = sha256 (codes "secret") }

-- the contest ended an hour ago, and was thawed then
abbrev over : ContestState
over = record empty { fixed = record (thawed_at empty (hours 5)).fixed { accounts = admin ∷ [] } }

is_over_valid : is_valid over ≡ true
is_over_valid = refl

abbrev secret : Credential
secret = Token (codes "secret")

abbrev finalize_path : List ℕ
finalize_path = codes "/jury/finalize"

-- the administrator asks for final results
abbrev asks_final : RequestItem
asks_final = record { now = hours 6; credential = secret; request = record { method = method.Post; path = finalize_path; key = Absent; body = [] } }

abbrev offers_final : Offer
offers_final = record nothing { post = Some command.Finalize }

bytes_by : (path : List ℕ) → list_all (λ b. nat_lt b 256) path ≡ true → All (λ b. b < 256) path
bytes_by [] all = λ i d h. absurd (omega (arith, h))
bytes_by (b ∷ path) all = All-cons (λ c. c < 256) b path (ltb-true b 256 (and_left (nat_lt b 256) _ all)) (bytes_by path (and_right (nat_lt b 256) _ all))

-- the row at a place of a list is in it
has_at : {X : Type 0} (n : ℕ) (xs : List X) (x : X) → slice_get xs n ≡ Some x → Has xs x
has_at n [] x is = absurd (cc is)
has_at zero (y ∷ xs) x is = (let same : y ≡ x = cc is in inl (sym same))
has_at (suc n) (y ∷ xs) x is = inr (has_at n xs x is)

route_is : offer_at finalize_path ≡ Some offers_final
unfolding chars is_utf8 lib.Utf8.encode
route_is = (routes_read finalize_path (bytes_by finalize_path refl) refl offers_final).1 (finalize_path, has_at 28 route_rows (finalize_path, offers_final) refl, refl)

-- what the administrator posts where this is offered
wish_by : (f : FixedPart) (request : Request) (offer : Offer) → f.accounts ≡ admin ∷ [] → offer_at request.path ≡ Some offer
    → wish_or_reply f secret request ≡ wish_or_reply_by f (Some (Some admin)) request (asked_there f.settings.head.id request.path request.method (Some offer))
wish_by f request offer alone route =
    let found : caller_of f secret ≡ Some (Some admin) = ap (λ accounts. option_map (λ (a : Account). Some a) (holder_of accounts (codes "secret"))) alone ∙ ap (λ b. option_map (λ (a : Account). Some a) (if b then Some admin else None)) (bytes_same (sha256 (codes "secret"))) in
    ap (λ who. wish_or_reply_by f who request (asked f.settings.head.id request.path request.method)) found
    ∙ ap (λ o. wish_or_reply_by f (Some (Some admin)) request (asked_there f.settings.head.id request.path request.method o)) route

wishes : wish_or_reply over.fixed asks_final.credential asks_final.request ≡ Ok (Do Final)
wishes = wish_by over.fixed asks_final.request offers_final refl route_is

is_final : IsFinal over asks_final
is_final = record { asked = wishes; accepted = ap (λ r. (outcome_of over (hours 6) r).reply.status) wishes }

-- accounts are imported later: what was final stays
stays_final : (answer : Answer) (y : ContestState) → IsRun (step over (hours 6) asks_final.credential asks_final.request).1 (late ∷ []) (answer ∷ []) y → HasSameResults (step over (hours 6) asks_final.credential asks_final.request).1 y
stays_final answer y run = final_results_stay over y asks_final (late ∷ []) (answer ∷ []) is_over_valid is_final run

-- ---- it is killed after its answer, and opened again

abbrev finalizing : Item
finalizing = item.Request asks_final

adds_mark : item_entries over finalizing ≡ SetFinalized (hours 6) ∷ []
adds_mark = ap (λ r. (outcome_of over (hours 6) r).entries) wishes

abbrev morning : Stretch
morning = record { opened = over; items = finalizing ∷ []; answers = (item_step over finalizing).0 ∷ [] }

answered : IsStoreAnswer (item_step over finalizing).0 → ⊥
answered fails = false≢true (sym (item_ordinary over finalizing) ∙ failure_is (item_step over finalizing).0 fails)

is_done : IsDone over morning.items morning.answers (SetFinalized (hours 6))
is_done = inl (answered, inl (subst (λ es. Has es (SetFinalized (hours 6))) (sym adds_mark) (inl refl)))

still_marked : (item_step over finalizing).1.fixed.marks.finalized ≡ Some (hours 6)
still_marked = nothing_is_lost morning [] (item_step over finalizing).1 is_over_valid (inl (answered, refl), tt) morning (inl refl) (SetFinalized (hours 6)) is_done

-- ---- a rejudging is applied

-- the verdict on the second team's first submission was judged anew, and is ready
abbrev ready : ContestState
ready = record base { fixed = record base.fixed { accounts = admin ∷ [] }; rejudgings = rejudged 1 1 wrong Open ∷ [] }

abbrev apply_path : List ℕ
apply_path = codes "/jury/rejudgings/1/apply"

abbrev applying : Item
applying = item.Request (record { now = hours 4 + minutes 40; credential = secret; request = record { method = method.Post; path = apply_path; key = Absent; body = [] } })

abbrev offers_apply : Offer
offers_apply = record nothing { post = Some command.ApplyRejudging }

apply_route : offer_at apply_path ≡ Some offers_apply
unfolding chars is_utf8 lib.Utf8.encode
apply_route = (routes_read apply_path (bytes_by apply_path refl) refl offers_apply).1 (codes "/jury/rejudgings/{n}/apply", has_at 37 route_rows (codes "/jury/rejudgings/{n}/apply", offers_apply) refl, refl)

asks_apply : Asks ready applying (OfRejudging apply_path Apply)
asks_apply = wish_by ready.fixed (record { method = method.Post; path = apply_path; key = Absent; body = [] }) offers_apply refl apply_route

is_first : named_rejudging (jury_piece apply_path) ready.rejudgings ≡ Some (1, rejudged 1 1 wrong Open)
is_first = ap (λ number. if bytes_eq number (codes "1") then Some (1, rejudged 1 1 wrong Open) else None) (decimal_digit 1 (omega arith))

abbrev revised : Release
revised = released 1 1 2 wrong (hours 4 + minutes 40)

adds_round : Has (item_entries ready applying) (NewRelease revised)
adds_round =
    subst (λ es. Has es (NewRelease revised)) (sym (ap (λ r. (outcome_of ready (hours 4 + minutes 40) r).entries) asks_apply))
    (subst (λ o. Has (told (done_as (change_object ready.fixed) change_entries (applied_by o))).entries (NewRelease revised)) (sym is_first) (inl refl))
  where
    applied_by : Option (ℕ × Rejudging) → Result RejudgingChange RuleRefusal
    applied_by o = elim o as (λ _. Result RejudgingChange RuleRefusal) [ None ↦ Err NotFound | (Some p) ↦ step_change (hours 4 + minutes 40) Apply ready p ]

is_applied : IsApplied ready applying revised
is_applied = only_rejudgings_revise ready applying revised adds_round (leb-true 2 2 refl)

-- ---- a judge verifies what a file of verdicts proposed

-- a submission of the first team, and its proposal
abbrev proposed_by_file : Proposal
proposed_by_file = record { team = 0; number = 1; verdict = wrong; proposer = Import; time = minutes 20 }

abbrev waiting : ContestState
waiting = record empty {
  fixed = record empty.fixed { settings = record empty.fixed.settings { head = record empty.fixed.settings.head { verification = true } }; accounts = admin ∷ [] };
  submissions = submitted 0 1 (minutes 10) 0 ∷ [];
  proposals = proposed_by_file ∷ [];
}

is_waiting_valid : is_valid waiting ≡ true
is_waiting_valid = refl

abbrev verify_path : List ℕ
verify_path = codes "/jury/verifications"

abbrev verify_request : Request
verify_request = record { method = method.Post; path = verify_path; key = Absent; body = codes "{\"submission_id\":\"s1-1\",\"judgement_type_id\":\"WA\"}" }

abbrev verifying : Item
verifying = item.Request (record { now = minutes 30; credential = secret; request = verify_request })

abbrev offers_verify : Offer
offers_verify = record nothing { post = Some command.Verify }

verify_route : offer_at verify_path ≡ Some offers_verify
unfolding chars is_utf8 lib.Utf8.encode
verify_route = (routes_read verify_path (bytes_by verify_path refl) refl offers_verify).1 (verify_path, has_at 27 route_rows (verify_path, offers_verify) refl, refl)

abbrev verdict_asked : JuryVerdict
verdict_asked = record { account = codes "adm"; wanted = record { submission = codes "s1-1"; judgement_type = codes "WA" } }

asks_verify : Asks waiting verifying (Verification verdict_asked)
unfolding chars data_of is_utf8 serde_json_on_literals verdict_of
asks_verify = wish_by waiting.fixed verify_request offers_verify refl verify_route

is_named : named_verdict waiting.fixed waiting.submissions verdict_asked.wanted ≡ Some (record { team = 0; number = 1; verdict = wrong })
is_named = ap (λ d. verdict_on waiting.fixed (option_map of_submission (if bytes_eq (115 ∷ (d ++ (45 ∷ d))) (codes "s1-1") then Some (submitted 0 1 (minutes 10) 0) else None)) verdict_asked.wanted) (decimal_digit 1 (omega arith))

abbrev verified : Release
verified = released 0 1 1 wrong (minutes 30)

adds_first : Has (item_entries waiting verifying) (NewRelease verified)
adds_first =
    subst (λ es. Has es (NewRelease verified)) (sym (ap (λ r. (outcome_of waiting (minutes 30) r).entries) asks_verify))
    (subst (λ o. Has (told (done_as (release_object waiting.fixed) release_entries (verify_named o waiting.proposals waiting.releases (minutes 30) (codes "adm")))).entries (NewRelease verified)) (sym is_named) (inl refl))

is_verified : IsVerified waiting verifying verified
is_verified = two_judges_release waiting verifying verified is_waiting_valid refl adds_first refl

-- ---- a judge names what another account proposed for a member of a rejudging

abbrev half_judged : Rejudging
half_judged = record { reason = codes "limits"; state = Open; members = record { team = 0; number = 1; state = Proposed wrong (codes "j1") } ∷ [] }

abbrev rejudged_by_two : ContestState
rejudged_by_two = record waiting { proposals = []; rejudgings = half_judged ∷ [] }

abbrev verdicts_path : List ℕ
verdicts_path = codes "/jury/rejudgings/1/verdicts"

abbrev verdict_request : Request
verdict_request = record { method = method.Post; path = verdicts_path; key = Absent; body = verify_request.body }

abbrev judging : Item
judging = item.Request (record { now = minutes 30; credential = secret; request = verdict_request })

abbrev offers_verdicts : Offer
offers_verdicts = record nothing { post = Some command.JudgeRejudging }

verdicts_route : offer_at verdicts_path ≡ Some offers_verdicts
unfolding chars is_utf8 lib.Utf8.encode
verdicts_route = (routes_read verdicts_path (bytes_by verdicts_path refl) refl offers_verdicts).1 (codes "/jury/rejudgings/{n}/verdicts", has_at 36 route_rows (codes "/jury/rejudgings/{n}/verdicts", offers_verdicts) refl, refl)

asks_judge : Asks rejudged_by_two judging (OfRejudging verdicts_path (Judge verdict_asked))
unfolding chars data_of is_utf8 serde_json_on_literals verdict_of
asks_judge = wish_by rejudged_by_two.fixed verdict_request offers_verdicts refl verdicts_route

is_half_judged : named_rejudging (jury_piece verdicts_path) rejudged_by_two.rejudgings ≡ Some (1, half_judged)
is_half_judged = ap (λ number. if bytes_eq number (codes "1") then Some (1, half_judged) else None) (decimal_digit 1 (omega arith))

-- what the step comes to, by the rejudging and the verdict that are named
abbrev judged_with : Option (ℕ × Rejudging) → Option NamedVerdict → Outcome
judged_with o v =
    told (done_as (change_object rejudged_by_two.fixed) change_entries
    (elim o as (λ _. Result RejudgingChange RuleRefusal) [ None ↦ Err NotFound | (Some p) ↦ ruled_with (member_change p.0 p.1) (rejudge_on true p.1 v (codes "adm")) ]))

sets_ready : Has (item_entries rejudged_by_two judging) (SetMember 1 0 (Ready wrong))
sets_ready =
    subst (λ es. Has es (SetMember 1 0 (Ready wrong))) (sym (ap (λ r. (outcome_of rejudged_by_two (minutes 30) r).entries) asks_judge))
    (subst (λ o. Has (judged_with o (named_verdict waiting.fixed waiting.submissions verdict_asked.wanted)).entries (SetMember 1 0 (Ready wrong))) (sym is_half_judged)
    (subst (λ v. Has (judged_with (Some (1, half_judged)) v).entries (SetMember 1 0 (Ready wrong))) (sym is_named) (inl refl)))

is_settled : IsSettled rejudged_by_two judging 1 0 wrong
is_settled = two_judges_rejudge rejudged_by_two judging 1 0 wrong refl sets_ready

-- ---- an administrator replaces a token

abbrev tokens_path : List ℕ
tokens_path = codes "/jury/tokens"

abbrev token_request : Request
token_request = record { method = method.Post; path = tokens_path; key = Absent; body = codes "{\"account_id\":\"adm\",\"token\":\"another-secret\"}" }

abbrev replacing : Item
replacing = item.Request (record { now = hours 6; credential = secret; request = token_request })

abbrev offers_tokens : Offer
offers_tokens = record nothing { post = Some (command.Change change.Token) }

tokens_route : offer_at tokens_path ≡ Some offers_tokens
unfolding chars is_utf8 lib.Utf8.encode
tokens_route = (routes_read tokens_path (bytes_by tokens_path refl) refl offers_tokens).1 (tokens_path, has_at 31 route_rows (tokens_path, offers_tokens) refl, refl)

asks_token : Asks over replacing (Changed (wanted.Token (record { id = codes "adm"; digest = sha256 (codes "another-secret") })))
unfolding chars data_of is_utf8 serde_json_on_literals
asks_token = wish_by over.fixed token_request offers_tokens refl tokens_route

replaces : replaces_token over (codes "adm") replacing ≡ true
replaces = ap (λ w. option_map_or (λ other. bytes_eq other (codes "adm")) (token_wished w) false) asks_token

by_admin : is_of_admin over replacing ≡ true
by_admin = only_admins_replace_tokens over replacing (codes "adm") replaces
