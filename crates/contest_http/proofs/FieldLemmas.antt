-- The values of the fields of one name, from a place on.
use Rattle.std.proofs.Common.{◌≡◌, ◌<◌, ◌+◌, ◌∷◌, ◌∙◌, refl, ap, ℕ, false, List, length, drop, drop-cons, add-one, slice_index_or, suc, map}
use Rattle.std.specs.Prelude.{IsTrue}
use Rattle.httparse.specs.Spans.{header_bytes, span_bytes, name_and_value}
use Rattle.httparse.specs.declared.spans.HeaderSpan.{HeaderSpan}
use Rattle.httparse.specs.Grammar.{RequestHead}
use Rattle.contest_requests.specs.declared.request.Method.{Method}
use Rattle.contest_http.specs.Fields.{FieldText, is_named, values}
use Rattle.contest_http.specs.Plans.{head_plan, method_of, plan_of}

-- no field
abbrev pub none : HeaderSpan
none = record { name = record { start = 0; end = 0 }; value = record { start = 0; end = 0 } }

-- the fields that these spans cover
abbrev pub covered : List ℕ → List HeaderSpan → List FieldText
covered head spans = map (header_bytes head) spans

-- the field at a place has the name
pub values-hit : (head name : List ℕ) (spans : List HeaderSpan) (k : ℕ) (d : HeaderSpan) → k < length spans
    → IsTrue (is_named name (header_bytes head (slice_index_or spans k d)))
    → values name (covered head (drop k spans)) ≡ span_bytes head (slice_index_or spans k d).value ∷ values name (covered head (drop (k + 1) spans))
values-hit head name spans k d within named =
    let e : drop k spans ≡ slice_index_or spans k d ∷ drop (suc k) spans = drop-cons spans k d within in
    rw (add-one, e, named) refl

-- it has another
pub values-miss : (head name : List ℕ) (spans : List HeaderSpan) (k : ℕ) (d : HeaderSpan) → k < length spans
    → is_named name (header_bytes head (slice_index_or spans k d)) ≡ false
    → values name (covered head (drop k spans)) ≡ values name (covered head (drop (k + 1) spans))
values-miss head name spans k d within other =
    let e : drop k spans ≡ slice_index_or spans k d ∷ drop (suc k) spans = drop-cons spans k d within in
    rw (add-one, e, other) refl

pub twice : (a m n r s : List (List ℕ)) (v w : List ℕ) → a ≡ m → m ≡ v ∷ n → n ≡ r → r ≡ w ∷ s
    → (x : List ℕ) × (y : List ℕ) × (z : List (List ℕ)) × (a ≡ x ∷ y ∷ z)
twice a m n r s v w p q t u = (v, w, s, p ∙ q ∙ ap (λ l. v ∷ l) (t ∙ u))

-- what a head's parts ask for is what the head asks for
pub head_plan-is : (h : RequestHead) (m : Method) (target : List ℕ) (minor : ℕ) (fields : List FieldText)
    → m ≡ method_of h.method → target ≡ h.target → minor ≡ h.minor → fields ≡ map name_and_value h.fields
    → plan_of m target minor fields ≡ head_plan h
head_plan-is h m target minor fields p q r s = rw (p, q, r, s) refl
