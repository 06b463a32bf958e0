-- What follows a head, joined to it.
use Rattle.std.proofs.Common.{rules, ◌≡◌, ◌≤◌, ◌<◌, ◌+◌, ◌++◌, ◌∙◌, sym, ap, refl, [], ◌∷◌, List, ℕ, zero, suc, Bool, true, false, Option, Some, None, drop, length, length-append, arith, if◌then◌else◌, nat_lt, inl, inr, map}
use Rattle.std.specs.Prelude.{codes, ◌⊎◌, IsTrue, IsSome, Result, Ok, Err}
use Rattle.std.specs.Io.KnownBytes.{Appends}
use Rattle.std.proofs.lemmas.Bool.Decides.{nat_tests}
use Rattle.std.proofs.Math.Seq.{drop-append_seam, drop-length, drop-nil}
use Rattle.std.proofs.KnownBytes.{Appends-nil}
use Rattle.contest_types.specs.declared.refusal.Refusal.{Refusal}
use Rattle.contest_types.specs.declared.refusal.Refusal.TheVariants.{Encoding, Malformed, Memory}
use Rattle.contest_http.specs.Bodies.{TakesBody, TakesBodyPart}
use Rattle.contest_http.specs.Head.{TakesHeadPart, has_end, head_of}
use Rattle.contest_http.specs.Frames.{AsksForHead, IsFrame, IsHeadOf, IsPlanOf, frame_by, framed_by, plan_found, request_of}
use Rattle.contest_http.specs.Plans.{body_length, head_plan, is_head, lacks_host, method_of, plan_at, plan_of, plan_sized}
use Rattle.contest_http.specs.Fields.{FieldText, values}
use Rattle.contest_http.specs.Targets.{path_of}
use Rattle.contest_requests.specs.declared.request.Method.{Method}
use Rattle.httparse.specs.Grammar.{RequestHead}
use Rattle.httparse.proofs.GrammarLemmas.{request_unique}
use Rattle.httparse.specs.Spans.{name_and_value}
use Rattle.contest_http.specs.Reading.{BeforeRead, Due, ReadsHead, ReadsOne, ReadsRest, RefusesBody, RefusesMemory, Takes, TakesHeadFront, TakesRest, interim, interim_text}
use Rattle.contest_http.specs.declared.framed.Framed.{Framed}
use Rattle.contest_http.specs.declared.framed.Framed.TheVariants.{Asked, Nothing, Refused}
use Rattle.contest_http.specs.declared.framed.ServeFault.{ServeFault}
use Rattle.contest_http.specs.declared.framed.ServeFault.TheVariants.{Read, Write}
use Rattle.contest_http.specs.declared.plan.Expected.{Expected}
use Rattle.contest_http.specs.declared.plan.Plan.{Plan}
use Rattle.contest_http.specs.declared.plan.Plan.TheVariants.{Expect, Refuse}
use Rattle.contest_http.proofs.FrameLemmas.{frame_unique, head_front, none_is_empty}

pub is_some_of : (a : Option (List ℕ)) (x : List ℕ) → a ≡ Some x → IsSome a
is_some_of a x e = rw e refl

left_of : (input left bytes : List ℕ) → input ≡ bytes ++ left → left ≡ drop (length bytes) input
left_of input left bytes e = rw e (sym (drop-append_seam bytes left))

pub taken_front : (input left : List ℕ) → TakesHeadPart (Some input) (Some left) → TakesHeadFront input left
taken_front input left part = record { count = length part.bytes; within = part.within; left_is = left_of input left part.bytes part.taken }

-- a body, or the end of the input in it
pub rest_taken : (e : Expected) (rest left body : List ℕ) (h : Bool) → TakesBody rest left e.size (Some body) → h ≡ is_head e.method
    → TakesRest e rest left (Asked e.credential (request_of e body) h)
rest_taken e rest left body h (fits, body_is, left_is) head =
    let enough : nat_lt (length rest) e.size ≡ false = grind (arith, nat_tests, fits) in
    let all : 0 + e.size ≡ e.size = omega arith in
    record { framed_is = rw (enough, body_is, head) refl; left_is = rw (enough, all) left_is }

pub rest_ended : (e : Expected) (rest left : List ℕ) (h : Bool) → TakesBody rest left e.size None → h ≡ is_head e.method
    → TakesRest e rest left (Refused Malformed h)
rest_ended e rest left h (short, left_is) head =
    let ends : nat_lt (length rest) e.size ≡ true = grind (arith, nat_tests, short) in
    let all : 0 + length rest ≡ length rest = omega arith in
    record { framed_is = rw (ends, head) refl; left_is = rw (ends, all) (left_is ∙ sym (drop-length rest)) }

pub rest_refused : (e : Expected) (rest left : List ℕ) (h : Bool) → TakesBodyPart (Some rest) (Some left) e.size → h ≡ is_head e.method
    → RefusesBody e rest left (Refused Memory h)
rest_refused e rest left h part head = record {
  count = length part.bytes;
  framed_is = ap (Refused Memory) head;
  within = part.within;
  fits = let e = part.taken in rw e (omega (arith, length-append part.bytes left));
  left_is = left_of rest left part.bytes part.taken;
}

drop_more : (n m : ℕ) (xs : List ℕ) → drop m (drop n xs) ≡ drop (n + m) xs
drop_more zero m xs = let e : 0 + m ≡ m = omega arith in rw e refl
drop_more (suc n) m [] = drop-nil m ∙ sym (drop-nil (suc n + m))
drop_more (suc n) m (x ∷ xs) = let e : suc n + m ≡ suc (n + m) = omega arith in rw e (drop_more n m xs)

-- what is asked after a head doesn't depend on the head's length, and the fronts add up
same_framed : (e : Expected) (n : ℕ) (rest : List ℕ) → (framed_by (Expect e) n rest).framed ≡ (framed_by (Expect e) 0 rest).framed
same_framed e n rest =
    let go : (b : Bool) → nat_lt (length rest) e.size ≡ b → (framed_by (Expect e) n rest).framed ≡ (framed_by (Expect e) 0 rest).framed = elim [
      | true ↦ λ t. rw t refl
      | false ↦ λ t. rw t refl
    ] in go (nat_lt (length rest) e.size) refl

fronts_add : (e : Expected) (n : ℕ) (rest : List ℕ) → (framed_by (Expect e) n rest).front ≡ n + (framed_by (Expect e) 0 rest).front
fronts_add e n rest =
    let go : (b : Bool) → nat_lt (length rest) e.size ≡ b → (framed_by (Expect e) n rest).front ≡ n + (framed_by (Expect e) 0 rest).front = elim [
      | true ↦ λ t. rw t (omega arith)
      | false ↦ λ t. rw t (omega arith)
    ] in go (nat_lt (length rest) e.size) refl

same_due : (e : Expected) (n : ℕ) (rest : List ℕ) → (framed_by (Expect e) n rest).is_due ≡ e.is_due
same_due e n rest =
    let go : (b : Bool) → nat_lt (length rest) e.size ≡ b → (framed_by (Expect e) n rest).is_due ≡ e.is_due = elim [
      | true ↦ λ t. rw t refl
      | false ↦ λ t. rw t refl
    ] in go (nat_lt (length rest) e.size) refl

front_holds : (e : Expected) (n k : ℕ) (rest : List ℕ) → k ≤ e.size → k ≤ length rest → n + k ≤ (framed_by (Expect e) n rest).front
front_holds e n k rest small fits =
    let go : (b : Bool) → nat_lt (length rest) e.size ≡ b → n + k ≤ (framed_by (Expect e) n rest).front = elim [
      | true ↦ λ t. rw t (omega (arith, small, fits))
      | false ↦ λ t. rw t (omega (arith, small, fits))
    ] in go (nat_lt (length rest) e.size) refl

-- a head that asks for a request asks by its method
method_in : Plan → Option Method
method_in (Refuse refusal h) = None
method_in (Expect e) = Some e.method

at_method : (m n : Method) (minor size : ℕ) (fields : List FieldText) (path : Option (List ℕ)) → method_in (plan_at m minor size fields path) ≡ Some n → n ≡ m
unfolding method_in
at_method m n minor size fields None e = absurd (search (rules, e))
at_method m n minor size fields (Some path) e = sym (search (rules, e))

sized_method : (m n : Method) (target : List ℕ) (minor : ℕ) (fields : List FieldText) (r : Result ℕ Refusal) → method_in (plan_sized m target minor fields r) ≡ Some n → n ≡ m
unfolding method_in
sized_method m n target minor fields (Err refusal) e = absurd (search (rules, e))
sized_method m n target minor fields (Ok size) e = at_method m n minor size fields (path_of target) e

picked : (m n : Method) (refusal : Refusal) (b : Bool) (p : Plan) → (method_in p ≡ Some n → n ≡ m)
    → method_in (if b then Refuse refusal (is_head m) else p) ≡ Some n → n ≡ m
unfolding method_in
picked m n refusal true p k e = absurd (search (rules, e))
picked m n refusal false p k e = k e

plan_method : (m n : Method) (target : List ℕ) (minor : ℕ) (fields : List FieldText) → method_in (plan_of m target minor fields) ≡ Some n → n ≡ m
plan_method m n target minor fields e =
    let sized = sized_method m n target minor fields (body_length (values (codes "content-length") fields)) in
    let hosted = picked m n Malformed (lacks_host minor fields) _ sized in
    picked m n Encoding (nat_lt 0 (length (values (codes "transfer-encoding") fields))) _ hosted e

asks_at : (head : List ℕ) (e : Expected) (found : Option RequestHead) → IsHeadOf head found → Some (Expect e) ≡ Some (plan_found found) → is_head e.method ≡ true → AsksForHead head
unfolding method_in
asks_at head e None is same h = absurd (search (rules, same))
asks_at head e (Some found) is same h =
    let p : Expect e ≡ head_plan found = search (rules, same) in
    let m : e.method ≡ method_of found.method = plan_method (method_of found.method) e.method found.target found.minor (map name_and_value found.fields) (sym (ap method_in p)) in
    (found, is, rw m at h)

expects_at : (head : List ℕ) (e : Expected) (b : Bool) → has_end head ≡ b → IsPlanOf head (Some (Expect e)) → is_head e.method ≡ true → AsksForHead head
expects_at head e true t a h = let f = a.ended t in asks_at head e f.0 f.1 f.2 h
expects_at [] e false t a h = let n = a.none refl in absurd (search (rules, n))
expects_at (x ∷ xs) e false t a h =
    let some : 0 < length (x ∷ xs) = omega arith in
    let n = a.unended some t in
    absurd (search (rules, n))

pub expects_head : (head : List ℕ) (e : Expected) → IsPlanOf head (Some (Expect e)) → IsTrue (is_head e.method) → AsksForHead head
expects_head head e a h = let t : is_head e.method ≡ true = search (rules, h) in expects_at head e (has_end head) refl a t

-- and where a head asks for the reply's head alone, so does its method
heeds_at : (head : List ℕ) (e : Expected) (found : Option RequestHead) → IsHeadOf head found → Some (Expect e) ≡ Some (plan_found found) → AsksForHead head → is_head e.method ≡ true
unfolding method_in
heeds_at head e None is same asks = absurd (search (rules, same))
heeds_at head e (Some found) is same asks =
    let p : Expect e ≡ head_plan found = search (rules, same) in
    let m : e.method ≡ method_of found.method = plan_method (method_of found.method) e.method found.target found.minor (map name_and_value found.fields) (sym (ap method_in p)) in
    let one : found ≡ asks.0 = (request_unique head found asks.0 [] [] is asks.1).0 in
    rw (m, one) asks.2

-- a head that doesn't end asks for nothing that follows
heeds_in : (head : List ℕ) (e : Expected) (b : Bool) → has_end head ≡ b → IsPlanOf head (Some (Expect e)) → AsksForHead head → is_head e.method ≡ true
heeds_in head e true t a asks = let f = a.ended t in heeds_at head e f.0 f.1 f.2 asks
heeds_in [] e false t a asks = let n = a.none refl in absurd (search (rules, n))
heeds_in (x ∷ xs) e false t a asks =
    let some : 0 < length (x ∷ xs) = omega arith in
    let n = a.unended some t in
    absurd (search (rules, n))

heeds_head : (head : List ℕ) (e : Expected) → IsPlanOf head (Some (Expect e)) → AsksForHead head → IsTrue (is_head e.method)
heeds_head head e a asks = let t : is_head e.method ≡ true = heeds_in head e (has_end head) refl a asks in search (rules, t)

-- the frame of a head and what follows it
frame_at : (input rest : List ℕ) (e : Expected) → ReadsHead input rest (Some (Expect e)) → IsFrame input (framed_by (Expect e) (length (head_of input)) rest)
frame_at input rest e r = (Some (Expect e), r.plan_is, rw (sym r.left_is) refl)

due_at : (input rest : List ℕ) (e : Expected) → ReadsHead input rest (Some (Expect e)) → e.is_due ≡ true → Due input
due_at input rest e r due = record {
  frame = framed_by (Expect e) (length (head_of input)) rest;
  is = frame_at input rest e r;
  due = same_due e (length (head_of input)) rest ∙ due;
}

join_takes : (input rest left : List ℕ) (e : Expected) (framed : Framed) → ReadsHead input rest (Some (Expect e)) → TakesRest e rest left framed
    → Takes input left framed (interim e.is_due)
join_takes input rest left e framed r t =
    let n = length (head_of input) in
    record {
      frame = framed_by (Expect e) n rest;
      is = frame_at input rest e r;
      framed_is = t.framed_is ∙ sym (same_framed e n rest);
      left_is = t.left_is ∙ ap (drop (framed_by (Expect e) 0 rest).front) r.left_is ∙ drop_more n (framed_by (Expect e) 0 rest).front input ∙ ap (λ k. drop k input) (sym (fronts_add e n rest));
      first_is = ap interim (sym (same_due e n rest));
    }

first_at : (input rest : List ℕ) (e : Expected) (b : Bool) → e.is_due ≡ b → ReadsHead input rest (Some (Expect e))
    → (interim e.is_due ≡ []) ⊎ (Due input × (interim e.is_due ≡ interim_text))
first_at input rest e true d r = inr (due_at input rest e r d, rw d refl)
first_at input rest e false d r = inl (rw d refl)

join_refuses : (input rest left : List ℕ) (e : Expected) (framed : Framed) → ReadsHead input rest (Some (Expect e)) → RefusesBody e rest left framed
    → RefusesMemory input left framed (interim e.is_due)
join_refuses input rest left e framed r t =
    let n = length (head_of input) in
    record {
      head_only = is_head e.method;
      framed_is = t.framed_is;
      asks = λ h. expects_head (head_of input) e r.plan_is h;
      heeds = λ _ asks. heeds_head (head_of input) e r.plan_is asks;
      part = record {
        count = n + t.count;
        left_is = t.left_is ∙ ap (drop t.count) r.left_is ∙ drop_more n t.count input;
        within = λ f is. let same = frame_unique input f (framed_by (Expect e) n rest) is (frame_at input rest e r) in rw same (front_holds e n t.count rest t.within t.fits);
        first_is = first_at input rest e e.is_due refl r;
      };
    }

join_ok : (input rest left : List ℕ) (e : Expected) (framed : Framed) → ReadsHead input rest (Some (Expect e))
    → TakesRest e rest left framed ⊎ RefusesBody e rest left framed
    → Takes input left framed (interim e.is_due) ⊎ RefusesMemory input left framed (interim e.is_due)
join_ok input rest left e framed r (inl t) = inl (join_takes input rest left e framed r t)
join_ok input rest left e framed r (inr t) = inr (join_refuses input rest left e framed r t)

join_read : (input rest : List ℕ) (e : Expected) (old new : Option (List ℕ)) (b : Bool) → e.is_due ≡ b → ReadsHead input rest (Some (Expect e)) → Appends old new (interim e.is_due) → BeforeRead input old new
join_read input rest e old new true d r a = inr (due_at input rest e r d, rw d at a)
join_read input rest e old new false d r a = inl (rw d at a)

join : (input rest left : List ℕ) (e : Expected) (old new : Option (List ℕ)) (r : Result Framed ServeFault) → ReadsHead input rest (Some (Expect e))
    → ReadsRest e rest left old new r → ReadsOne input left old new r
join input rest left e old new (Ok framed) h (out, cases) = (interim e.is_due, out, join_ok input rest left e framed h cases)
join input rest left e old new (Err Read) h a = join_read input rest e old new e.is_due refl h a
join input rest left e old new (Err Write) h (due, a) = (due_at input rest e h due, a)

-- a head that asks for a request, and what follows it
pub join_rest : (mid : Option (List ℕ)) (input left : List ℕ) (e : Expected) (old new : Option (List ℕ)) (r : Result Framed ServeFault) → IsSome mid
    → ((rest : List ℕ) → mid ≡ Some rest → ReadsHead input rest (Some (Expect e)))
    → ((rest : List ℕ) → mid ≡ Some rest → ReadsRest e rest left old new r)
    → ReadsOne input left old new r
join_rest None input left e old new r some h k = absurd (search (rules, some))
join_rest (Some rest) input left e old new r some h k = join input rest left e old new r (h rest refl) (k rest refl)

-- no byte
pub join_none : (input left : List ℕ) (old : Option (List ℕ)) → ReadsHead input left None → ReadsOne input left old old (Ok Nothing)
join_none input left old r =
    let none = none_is_empty (head_of input) r.plan_is in (
      [],
      Appends-nil old,
      inl record {
        frame = frame_by None (head_of input) (drop (length (head_of input)) input);
        is = (None, r.plan_is, refl);
        framed_is = refl;
        left_is = rw none at r.left_is;
        first_is = refl;
      },
    )

-- a head that is refused
pub join_refused : (input left : List ℕ) (old : Option (List ℕ)) (refusal : Refusal) (h : Bool) → ReadsHead input left (Some (Refuse refusal h))
    → ReadsOne input left old old (Ok (Refused refusal h))
join_refused input left old refusal h r = (
  [],
  Appends-nil old,
  inl record {
    frame = framed_by (Refuse refusal h) (length (head_of input)) (drop (length (head_of input)) input);
    is = (Some (Refuse refusal h), r.plan_is, refl);
    framed_is = refl;
    left_is = r.left_is;
    first_is = refl;
  },
)

-- want of memory while the head is read
pub join_memory : (input left : List ℕ) (old : Option (List ℕ)) (h : Bool) → TakesHeadFront input left → (IsTrue h → AsksForHead (head_of input))
    → ReadsOne input left old old (Ok (Refused Memory h))
join_memory input left old h t asks = (
  [],
  Appends-nil old,
  inr record {
    head_only = h;
    framed_is = refl;
    asks = asks;
    heeds = λ past _. absurd (omega (arith, past, t.within));
    part = record {
      count = t.count;
      left_is = t.left_is;
      within = λ f is. let front = head_front input f is in omega (arith, front, t.within);
      first_is = inl refl;
    };
  },
)
