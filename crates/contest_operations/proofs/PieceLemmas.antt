-- Tokens of a route, piece by piece between its slashes.
use Rattle.std.proofs.Common.{◌≡◌, ◌∙◌, ℕ, Bool, true, false, List, [], ◌∷◌, length, refl, sym, ap, subst, arith, inl, inr}
use Rattle.std.specs.Prelude.{◌⊎◌, ◌==◌, ◌&&◌, nat_lt, if◌then◌else◌}
use Rattle.std.specs.Str.{bytes_eq}
use Rattle.std.proofs.lemmas.Bool.{eq-eqb, eqb-true}
use Rattle.std.proofs.lemmas.Bool.Decides.{nat_tests}
use Rattle.contest_types.proofs.PlaceLemmas.{and_left, and_right}
use Rattle.contest_operations.specs.RouteReading.{in_front, pieces}
use Rattle.contest_operations.proofs.SeekRows.{after_piece, ends_piece, goes, proper}

-- a parameter stands for any piece that isn't empty, other tokens for themselves
abbrev pub is_parameter : List ℕ → Bool
is_parameter [] = false
is_parameter (x ∷ r) = x == 256

abbrev pub takes_token : (tokens piece : List ℕ) → Bool
takes_token r piece = if is_parameter r then nat_lt 0 (length piece) else bytes_eq r piece

abbrev pub takes_tokens : (route path : List (List ℕ)) → Bool
takes_tokens [] [] = true
takes_tokens [] (piece ∷ path) = false
takes_tokens (r ∷ route) [] = false
takes_tokens (r ∷ route) (piece ∷ path) = takes_token r piece && takes_tokens route path

-- the pieces after the first
abbrev rest_pieces : List ℕ → List (List ℕ)
rest_pieces [] = []
rest_pieces (b ∷ path) = if b == 47 then pieces path else rest_pieces path

split : (text : List ℕ) → (piece : List ℕ) × (pieces text ≡ piece ∷ rest_pieces text)
split [] = ([], refl)
split (c ∷ text) =
    let p = split text in
    let go : (e : Bool) → (c == 47) ≡ e → (piece : List ℕ) × (pieces (c ∷ text) ≡ piece ∷ rest_pieces (c ∷ text)) = elim [
      | true ↦ λ e. ([], rw e refl)
      | false ↦ λ e. (c ∷ p.0, rw e (ap (in_front c) p.1))
    ] in
    go (c == 47) refl

rest_after : (path : List ℕ) → rest_pieces (after_piece path) ≡ rest_pieces path
rest_after [] = refl
rest_after (b ∷ path) =
    let go : (e : Bool) → (b == 47) ≡ e → rest_pieces (if e then b ∷ path else after_piece path) ≡ (if e then pieces path else rest_pieces path) = elim [
      | true ↦ λ e. rw e refl
      | false ↦ λ e. rest_after path
    ] in
    go (b == 47) refl

-- what is left of a path begins with a slash, if anything is
begins_so : (path : List ℕ) → (after_piece path ≡ []) ⊎ ((more : List ℕ) × (after_piece path ≡ 47 ∷ more))
begins_so [] = inl refl
begins_so (b ∷ path) =
    let go : (e : Bool) → (b == 47) ≡ e → ((if e then b ∷ path else after_piece path) ≡ []) ⊎ ((more : List ℕ) × ((if e then b ∷ path else after_piece path) ≡ 47 ∷ more)) = elim [
      | true ↦ λ e. inr (path, ap (λ z. z ∷ path) (eqb-true b 47 e))
      | false ↦ λ e. begins_so path
    ] in
    go (b == 47) refl

-- some piece is always there
none_for : (text : List ℕ) → takes_tokens (pieces text) [] ≡ false
none_for text = rw ((split text).1) refl

none_by : (path : List ℕ) → takes_tokens [] (pieces path) ≡ false
none_by path = rw ((split path).1) refl

no_parameter : (t : List ℕ) → proper false t ≡ true → is_parameter (split t).0 ≡ false
unfolding split
no_parameter [] h = refl
no_parameter (x ∷ t) h =
    let go : (e f : Bool) → (x == 256) ≡ e → (x == 47) ≡ f → is_parameter (split (x ∷ t)).0 ≡ false = elim [
      | true ↦ λ f e g. absurd (let no : false ≡ true = rw e at h in cc no)
      | false ↦ elim [ true ↦ λ e g. first_empty x t g | false ↦ λ e g. first_itself x t g ∙ e ]
    ] in
    go (x == 256) (x == 47) refl refl
  where
    first_of : (a b : List ℕ) (rest more : List (List ℕ)) → a ∷ rest ≡ b ∷ more → a ≡ b
    first_of a b rest more e = cc e

    first_empty : (y : ℕ) (u : List ℕ) → (y == 47) ≡ true → is_parameter (split (y ∷ u)).0 ≡ false
    first_empty y u g = ap is_parameter (first_of (split (y ∷ u)).0 [] _ (pieces u) (sym (split (y ∷ u)).1 ∙ rw g refl))

    first_itself : (y : ℕ) (u : List ℕ) → (y == 47) ≡ false → is_parameter (split (y ∷ u)).0 ≡ (y == 256)
    first_itself y u g = ap is_parameter (first_of (split (y ∷ u)).0 (y ∷ (split u).0) _ (rest_pieces u) (sym (split (y ∷ u)).1 ∙ (rw g refl ∙ ap (in_front y) (split u).1)))

-- a byte that isn't that of a piece
takes_no_byte : (b : ℕ) (piece : List ℕ) (rest more : List (List ℕ)) → takes_tokens ([] ∷ rest) ((b ∷ piece) ∷ more) ≡ false
takes_no_byte b piece rest more = refl

takes_no_piece : (x : ℕ) (r : List ℕ) (rest more : List (List ℕ)) → takes_tokens ((x ∷ r) ∷ rest) ([] ∷ more) ≡ false
takes_no_piece x r rest more =
    let go : (e : Bool) → ((if e then nat_lt 0 (length {A = ℕ} []) else false) && takes_tokens rest more) ≡ false = elim [ true ↦ refl | false ↦ refl ] in
    go (x == 256)

regroup : (a b c : Bool) → (a && (b && c)) ≡ ((a && b) && c)
regroup true b c = refl
regroup false b c = refl

-- after a parameter
after_name : (t path : List ℕ) → ends_piece t ≡ true → proper false t ≡ true → ((u more : List ℕ) → t ≡ 47 ∷ u → proper true u ≡ true → goes u more ≡ takes_tokens (pieces u) (pieces more))
    → goes t (after_piece path) ≡ takes_tokens (rest_pieces t) (rest_pieces path)
after_name [] path ends ok ih =
    ap (goes []) refl ∙ elim (begins_so path) [
      | inl e ↦ ap (goes []) e ∙ ap (takes_tokens []) (sym (ap rest_pieces e) ∙ rest_after path)
      | inr (more, e) ↦ ap (goes []) e ∙ (sym (none_by more) ∙ ap (takes_tokens []) (sym (ap rest_pieces e) ∙ rest_after path))
    ]
after_name (x ∷ u) path ends ok ih =
    let is : x ≡ 47 = eqb-true x 47 ends in
    let on : proper true u ≡ true = and_right (nat_lt 47 256) (proper true u) (subst (λ z. proper false (z ∷ u) ≡ true) is ok) in
    subst (λ z. goes (z ∷ u) (after_piece path) ≡ takes_tokens (rest_pieces (z ∷ u)) (rest_pieces path)) (sym is)
    (elim (begins_so path) [
      | inl e ↦ ap (goes (47 ∷ u)) e ∙ (sym (none_for u) ∙ ap (takes_tokens (pieces u)) (sym (ap rest_pieces e) ∙ rest_after path))
      | inr (more, e) ↦ ap (goes (47 ∷ u)) e ∙ (ih u more (ap (λ z. z ∷ u) is) on ∙ ap (takes_tokens (pieces u)) (sym (ap rest_pieces e) ∙ rest_after path))
    ])

-- a parameter is a piece, and the rest comes after it
name_pieces : (t : List ℕ) → ends_piece t ≡ true → pieces (256 ∷ t) ≡ (256 ∷ []) ∷ rest_pieces t
name_pieces [] ends = refl
name_pieces (x ∷ u) ends = subst (λ z. pieces (256 ∷ z ∷ u) ≡ (256 ∷ []) ∷ rest_pieces (z ∷ u)) (sym (eqb-true x 47 ends)) refl

-- no token goes by nothing alone
nothing_goes : (path : List ℕ) → goes [] path ≡ takes_tokens (pieces []) (pieces path)
nothing_goes [] = refl
nothing_goes (b ∷ path) =
    let go : (e : Bool) → (b == 47) ≡ e → false ≡ takes_tokens ([] ∷ []) (pieces (b ∷ path)) = elim [
      | true ↦ λ e. rw e (sym (none_by path))
      | false ↦ λ e. rw (e, (split path).1) refl
    ] in
    go (b == 47) refl

some_length : (b : ℕ) (piece : List ℕ) → nat_lt 0 (length (b ∷ piece)) ≡ true
some_length b piece = grind (arith, nat_tests)

-- one token more, of a path with a byte more
token_more : (starts : Bool) (x : ℕ) (t : List ℕ) (b : ℕ) (path : List ℕ) → proper starts (x ∷ t) ≡ true
    → ((s : Bool) → proper s t ≡ true → goes t path ≡ takes_tokens (pieces t) (pieces path))
    → ((u more : List ℕ) → t ≡ 47 ∷ u → proper true u ≡ true → goes u more ≡ takes_tokens (pieces u) (pieces more))
    → goes (x ∷ t) (b ∷ path) ≡ takes_tokens (pieces (x ∷ t)) (pieces (b ∷ path))
token_more starts x t b path ok same_piece next_piece =
    let go : (e : Bool) → (x == 256) ≡ e → goes (x ∷ t) (b ∷ path) ≡ takes_tokens (pieces (x ∷ t)) (pieces (b ∷ path)) = elim [
      | true ↦ λ e. (let is : x ≡ 256 = eqb-true x 256 e in
          let both : (ends_piece t && proper false t) ≡ true = and_right starts (ends_piece t && proper false t) (subst (λ z. proper starts (z ∷ t) ≡ true) is ok) in
          let ends = and_left (ends_piece t) (proper false t) both in
          let rest = after_name t path ends (and_right (ends_piece t) (proper false t) both) next_piece in
          let by : (f : Bool) → (b == 47) ≡ f → (if f then false else goes t (after_piece path)) ≡ takes_tokens ((256 ∷ []) ∷ rest_pieces t) (pieces (b ∷ path)) = elim [
            | true ↦ λ f. rw f refl
            | false ↦ λ f. rw (f, (split path).1) (rest ∙ sym (ap (λ c. c && takes_tokens (rest_pieces t) (rest_pieces path)) (some_length b (split path).0)))
          ] in
          subst (λ z. goes (z ∷ t) (b ∷ path) ≡ takes_tokens (pieces (z ∷ t)) (pieces (b ∷ path))) (sym is)
          (by (b == 47) refl ∙ ap (λ ps. takes_tokens ps (pieces (b ∷ path))) (sym (name_pieces t ends))))
      | false ↦ λ e. (let on : proper (x == 47) t ≡ true = and_right (nat_lt x 256) (proper (x == 47) t) (rw e at ok) in
          let rest = same_piece (x == 47) on in
          let by : (f g : Bool) → (x == 47) ≡ f → (b == 47) ≡ g → ((x == b) && goes t path) ≡ takes_tokens (pieces (x ∷ t)) (pieces (b ∷ path)) = elim [
            | true ↦ elim [
              | true ↦ λ f g. rw (f, g) (rw (eq-eqb x b (eqb-true x 47 f ∙ sym (eqb-true b 47 g))) rest)
              | false ↦ λ f g. rw (f, g, (split path).1) (rw (differs x b (eqb-true x 47 f) g) refl)
            ]
            | false ↦ elim [
              | true ↦ λ f g. rw (f, g, (split t).1) (rw (other x b f (eqb-true b 47 g)) (sym (takes_no_piece x (split t).0 (rest_pieces t) (pieces path))))
              | false ↦ λ f g. (let q = (split t).0 in let p = (split path).0 in
                  let literal : is_parameter q ≡ false = no_parameter t (rw f at on) in
                  let same : goes t path ≡ (bytes_eq q p && takes_tokens (rest_pieces t) (rest_pieces path)) = rest ∙ (ap (λ ps. takes_tokens ps (pieces path)) (split t).1 ∙ (ap (takes_tokens (q ∷ rest_pieces t)) (split path).1 ∙ ap (λ c. (if c then nat_lt 0 (length p) else bytes_eq q p) && takes_tokens (rest_pieces t) (rest_pieces path)) literal)) in
                  rw (f, g, (split t).1, (split path).1, e) (ap (λ c. (x == b) && c) same ∙ regroup (x == b) (bytes_eq q p) (takes_tokens (rest_pieces t) (rest_pieces path))))
            ]
          ] in
          rw e (by (x == 47) (b == 47) refl refl))
    ] in
    go (x == 256) refl
  where
    differs : (y c : ℕ) → y ≡ 47 → (c == 47) ≡ false → (y == c) ≡ false
    differs y c is not_so = grind (arith, nat_tests, is, not_so)

    other : (y c : ℕ) → (y == 47) ≡ false → c ≡ 47 → (y == c) ≡ false
    other y c not_so is = grind (arith, nat_tests, is, not_so)

-- going by tokens is taking them piece by piece
pub by_pieces : (starts : Bool) (t path : List ℕ) → proper starts t ≡ true → goes t path ≡ takes_tokens (pieces t) (pieces path)
by_pieces starts [] path ok = nothing_goes path
by_pieces starts (x ∷ t) [] ok =
    let go : (e : Bool) → (x == 47) ≡ e → false ≡ takes_tokens (pieces (x ∷ t)) ([] ∷ []) = elim [
      | true ↦ λ e. rw e (sym (none_for t))
      | false ↦ λ e. rw (e, (split t).1) (sym (takes_no_piece x (split t).0 (rest_pieces t) []))
    ] in
    go (x == 47) refl
by_pieces starts (x ∷ []) (b ∷ path) ok = token_more starts x [] b path ok (λ s on. nothing_goes path) (λ u more f on. absurd (cc f))
by_pieces starts (x ∷ y ∷ u) (b ∷ path) ok = token_more starts x (y ∷ u) b path ok (λ s on. by_pieces s (y ∷ u) path on)
    (λ v more f on. subst (λ z. goes z more ≡ takes_tokens (pieces z) (pieces more)) (tails f) (by_pieces true u more (subst (λ z. proper true z ≡ true) (sym (tails f)) on)))
  where
    tails : {w : ℕ} {a c : List ℕ} {v : ℕ} → w ∷ a ≡ v ∷ c → a ≡ c
    tails e = cc e
