-- What is answered, by what was read.
use Rattle.std.proofs.Common.{rules, ◌≡◌, ◌++◌, ◌∙◌, sym, ap, subst, refl, ℕ, List, Bool, true, Option, Some, Ok, Err, take, inl, inr}
use Rattle.std.specs.Prelude.{◌⊎◌, Result, None}
use Rattle.std.specs.Io.KnownBytes.{Appends}
use Rattle.std.proofs.lemmas.Option.{same_Some}
use Rattle.std.proofs.KnownBytes.{Appends-trans}
use Rattle.httpdate.specs.Text.{imf_fixdate}
use Rattle.httpdate.proofs.Theorems.{unix_secs_injective}
use Rattle.contest_types.specs.Alike.{Alike, MayBeHeld}
use Rattle.contest_types.specs.State.{ContestState}
use Rattle.contest_types.specs.Valid.{is_valid}
use Rattle.contest_types.specs.declared.audience.Audience.{Audience}
use Rattle.contest_types.specs.declared.refusal.Refusal.{Refusal}
use Rattle.contest_types.specs.declared.refusal.Refusal.TheVariants.{Memory}
use Rattle.contest_store.specs.Keeping.{Kept}
use Rattle.contest_operations.specs.Laws.{HasSight}
use Rattle.contest_operations.specs.Replies.{refused, IsStoreReply}
use Rattle.contest_operations.specs.Step.{step}
use Rattle.contest_operations.specs.declared.reply.Reply.{Reply}
use Rattle.contest_requests.specs.declared.request.Credential.{Credential}
use Rattle.contest_requests.specs.declared.request.Request.{Request}
use Rattle.contest_http.specs.Frames.{Frame, IsFrame}
use Rattle.contest_http.specs.Reading.{ReadsOne, RefusesMemory, Takes, interim}
use Rattle.contest_http.specs.Serving.{Answers, AnswersAlike, Decides, Handles, ServesOne}
use Rattle.contest_http.specs.Spelling.{IsSpelling, spelled}
use Rattle.contest_http.specs.declared.framed.Framed.{Framed}
use Rattle.contest_http.specs.declared.framed.Framed.TheVariants.{Asked, Nothing, Refused}
use Rattle.contest_http.specs.declared.framed.ServeFault.{ServeFault}
use Rattle.contest_http.specs.declared.framed.ServeFault.TheVariants.{Read, Write}
use Rattle.contest_http.specs.declared.framed.Served.{Served}
use Rattle.contest_http.specs.declared.framed.Served.TheVariants as served
use Rattle.contest_http.proofs.FrameLemmas.{frame_unique}

pub one_spelling : (now : ℕ) (r : Reply) (h : Bool) (a b : List ℕ) → IsSpelling now r h a → IsSpelling now r h b → a ≡ b
one_spelling now r h a b p q =
    p.spelling ∙ ap (λ parts. spelled (imf_fixdate parts) r h) (unix_secs_injective p.date q.date (p.seconds ∙ sym q.seconds)) ∙ sym q.spelling

refusal_in : Framed → Refusal
refusal_in (Refused e h) = e
refusal_in f = Memory

IsAsked : Framed → Type 0
IsAsked (Asked credential request h) = Unit {0}
IsAsked f = ⊥

-- a refusal is answered by its reply
decides_refused : {S : Type 0} (kept : S → Kept) (input left : List ℕ) (now : ℕ) (before : S) (refusal : Refusal) (h : Bool) (reply : Reply) (first : List ℕ)
    → reply ≡ refused refusal → Takes input left (Refused refusal h) first ⊎ RefusesMemory input left (Refused refusal h) first
    → Decides kept input left now before before first reply h
unfolding refusal_in
decides_refused kept input left now before refusal h reply first e (inl takes) = inr (inl (refusal, takes, e, refl))
decides_refused kept input left now before refusal h reply first e (inr m) =
    let same : refusal ≡ Memory = ap refusal_in m.framed_is in
    inr (inr (rw same at m, e ∙ ap refused same, refl))

decides_asked : {S : Type 0} (kept : S → Kept) (input left : List ℕ) (now : ℕ) (before after : S) (credential : Credential) (request : Request) (h : Bool) (reply : Reply) (first : List ℕ)
    → Handles kept before after now credential request reply
    → Takes input left (Asked credential request h) first ⊎ RefusesMemory input left (Asked credential request h) first
    → Decides kept input left now before after first reply h
unfolding IsAsked
decides_asked kept input left now before after credential request h reply first e (inl takes) = inl (credential, request, takes, e)
decides_asked kept input left now before after credential request h reply first e (inr m) = absurd (subst IsAsked m.framed_is tt)

-- what goes out after `first`
serves : {S : Type 0} (kept : S → Kept) (input left : List ℕ) (old mid new : Option (List ℕ)) (now : ℕ) (before after : S) (reply : Reply) (h : Bool) (first : List ℕ) (r : Result Served ServeFault)
    → Appends old mid first → Decides kept input left now before after first reply h → Answers now reply h mid new r
    → ServesOne kept input left old new now before after r
serves kept input left old mid new now before after reply h first (Ok served.Nothing) out d a = absurd a
serves kept input left old mid new now before after reply h first (Ok (served.Answered status)) out d (same, text, spelling, p) =
    (record { first = first; reply = reply; head_only = h; decided = d; text = text; spelled = spelling }, same, Appends-trans old mid new first text out p)
serves kept input left old mid new now before after reply h first (Err Read) out d a = absurd a
serves kept input left old mid new now before after reply h first (Err Write) out d (text, spelling, f) =
    inr (record { first = first; reply = reply; head_only = h; decided = d; text = text; spelled = spelling }, f.0, Appends-trans old mid new first (take f.0 text) out f.2)

pub serves_refused : {S : Type 0} (kept : S → Kept) (input left : List ℕ) (old mid new : Option (List ℕ)) (now : ℕ) (before : S) (refusal : Refusal) (h : Bool) (reply : Reply) (r : Result Served ServeFault)
    → ReadsOne input left old mid (Ok (Refused refusal h)) → reply ≡ refused refusal → Answers now reply h mid new r
    → ServesOne kept input left old new now before before r
serves_refused kept input left old mid new now before refusal h reply r (first, out, cases) e a =
    serves kept input left old mid new now before before reply h first r out (decides_refused kept input left now before refusal h reply first e cases) a

pub serves_asked : {S : Type 0} (kept : S → Kept) (input left : List ℕ) (old mid new : Option (List ℕ)) (now : ℕ) (before after : S) (credential : Credential) (request : Request) (h : Bool) (reply : Reply) (r : Result Served ServeFault)
    → ReadsOne input left old mid (Ok (Asked credential request h)) → Handles kept before after now credential request reply → Answers now reply h mid new r
    → ServesOne kept input left old new now before after r
serves_asked kept input left old mid new now before after credential request h reply r (first, out, cases) e a =
    serves kept input left old mid new now before after reply h first r out (decides_asked kept input left now before after credential request h reply first e cases) a

-- no byte
nothing_asked : {S : Type 0} (kept : S → Kept) (input left first : List ℕ) → Takes input left Nothing first ⊎ RefusesMemory input left Nothing first → Takes input left Nothing first
nothing_asked kept input left first (inl takes) = takes
nothing_asked kept input left first (inr m) = absurd (search (rules, m.framed_is))

pub serves_nothing : {S : Type 0} (kept : S → Kept) (input left : List ℕ) (old new : Option (List ℕ)) (now : ℕ) (before : S)
    → ReadsOne input left old new (Ok Nothing) → ServesOne kept input left old new now before before (Ok served.Nothing)
serves_nothing kept input left old new now before (first, out, cases) = (first, nothing_asked kept input left first cases, out, refl)

-- a stream failed
pub serves_failed : {S : Type 0} (kept : S → Kept) (input left : List ℕ) (old new : Option (List ℕ)) (now : ℕ) (before : S) (fault : ServeFault)
    → ReadsOne input left old new (Err fault) → ServesOne kept input left old new now before before (Err fault)
serves_failed kept input left old new now before Read r = (r, refl)
serves_failed kept input left old new now before Write (due, out) = inl (due, out, refl)

-- what goes out is the machine's reply over every contest that is alike

asked_in : Framed → Option (Credential × (Request × Bool))
asked_in (Asked credential request h) = Some (credential, (request, h))
asked_in f = None

is_failure : (reply : Reply) (status : ℕ) → status ≡ reply.status → IsStoreReply reply → status ≡ 503
is_failure reply status e (inl r) = e ∙ ap (λ (r : Reply). r.status) r
is_failure reply status e (inr r) = e ∙ ap (λ (r : Reply). r.status) r

abbrev AreOut : (now : ℕ) (x : Reply × ContestState) (h due : Bool) (a : Audience) (z : ContestState) → (old new : Option (List ℕ)) → Type 0
AreOut now x h due a z old new = ((text : List ℕ) → IsSpelling now x.0 h text → Appends old new (interim due ++ text)) × Alike a z x.1

alike_asked : {S : Type 0} (kept : S → Kept) (input left : List ℕ) (old new : Option (List ℕ)) (now : ℕ) (before after : S) (reply : Reply) (first text : List ℕ)
    (c d : Credential) (r q : Request) (h k : Bool) (f : Frame) (a : Audience) (y : ContestState)
    → (kept after).is_clean → ¬ (IsStoreReply reply) → Takes input left (Asked d q k) first → Handles kept before after now d q reply
    → IsSpelling now reply k text → Appends old new (first ++ text) → IsFrame input f → f.framed ≡ Asked c r h
    → HasSight (kept before).contest.fixed c a → MayBeHeld a now (kept before).contest → is_valid y ≡ true → Alike a (kept before).contest y
    → AreOut now (step y now c r) h f.is_due a (kept after).contest old new
unfolding asked_in
alike_asked kept input left old new now before after reply first text c d r q h k f a y clean ordinary takes handles spelling out is asked sight held valid alike =
    let one : f ≡ takes.frame = frame_unique input f takes.frame is takes.is in
    let same : Asked c r h ≡ Asked d q k = sym asked ∙ ap (λ (g : Frame). g.framed) one ∙ sym takes.framed_is in
    let parts = same_Some (c, (r, h)) (d, (q, k)) (ap asked_in same) in
    let who : c ≡ d = ap (λ (p : Credential × (Request × Bool)). p.0) parts in
    let what : r ≡ q = ap (λ (p : Credential × (Request × Bool)). p.1.0) parts in
    let head : h ≡ k = ap (λ (p : Credential × (Request × Bool)). p.1.1) parts in
    let iso = handles.isolated clean ordinary a y (rw who at sight) held valid alike in
    let due : first ≡ interim f.is_due = takes.first_is ∙ ap (λ (g : Frame). interim g.is_due) (sym one) in
    rw (who, what, head) ((λ t s. rw (sym due, one_spelling now reply k t text (rw (sym iso.0) at s) spelling) out), iso.1)

alike_decided : {S : Type 0} (kept : S → Kept) (input left : List ℕ) (old new : Option (List ℕ)) (now : ℕ) (before after : S) (reply : Reply) (first text : List ℕ) (k : Bool)
    (c : Credential) (r : Request) (h : Bool) (f : Frame) (a : Audience) (y : ContestState)
    → (kept after).is_clean → ¬ (IsStoreReply reply) → Decides kept input left now before after first reply k
    → IsSpelling now reply k text → Appends old new (first ++ text) → IsFrame input f → f.framed ≡ Asked c r h
    → HasSight (kept before).contest.fixed c a → MayBeHeld a now (kept before).contest → is_valid y ≡ true → Alike a (kept before).contest y
    → AreOut now (step y now c r) h f.is_due a (kept after).contest old new
unfolding IsAsked
alike_decided kept input left old new now before after reply first text k c r h f a y clean ordinary (inl (d, q, takes, handles)) spelling out is asked sight held valid alike =
    alike_asked kept input left old new now before after reply first text c d r q h k f a y clean ordinary takes handles spelling out is asked sight held valid alike
alike_decided kept input left old new now before after reply first text k c r h f a y clean ordinary (inr (inl (refusal, takes, e, same))) spelling out is asked sight held valid alike =
    let one : f ≡ takes.frame = frame_unique input f takes.frame is takes.is in
    let other : Asked c r h ≡ Refused refusal k = sym asked ∙ ap (λ (g : Frame). g.framed) one ∙ sym takes.framed_is in
    absurd (subst IsAsked other tt)
alike_decided kept input left old new now before after reply first text k c r h f a y clean ordinary (inr (inr (m, e, same))) spelling out is asked sight held valid alike =
    absurd (ordinary (inr e))

pub answers_alike : {S : Type 0} (kept : S → Kept) (input left : List ℕ) (old new : Option (List ℕ)) (now : ℕ) (before after : S) (result : Result Served ServeFault)
    → ServesOne kept input left old new now before after result → (kept after).is_clean → AnswersAlike kept input old new now before after result
answers_alike kept input left old new now before after (Ok served.Nothing) s clean = λ status e. absurd (search (rules, e))
answers_alike kept input left old new now before after (Err Read) s clean = λ status e. absurd (search (rules, e))
answers_alike kept input left old new now before after (Err Write) s clean = λ status e. absurd (search (rules, e))
answers_alike kept input left old new now before after (Ok (served.Answered told)) (x, same, out) clean =
    λ status e other f is c r h asked a y sight held valid alike.
    let told_is : status ≡ told = search (rules, e) in
    alike_decided kept input left old new now before after x.reply x.first x.text x.head_only c r h f a y clean
    (λ store. other (is_failure x.reply status (told_is ∙ same) store)) x.decided x.spelled out is asked sight held valid alike
