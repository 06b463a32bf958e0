-- What matchit's walk over a table finds: a row that the path goes by, if there is one.
use Rattle.std.proofs.Common.{◌≡◌, ◌∙◌, ◌-◌, ◌<◌, ◌≤◌, ℕ, zero, suc, Bool, true, false, cond, List, [], ◌∷◌, length, drop, Option, Some, None, refl, sym, ap, subst, arith, inl, inr, nat_eq}
use Rattle.std.specs.Prelude.{◌⊎◌, ◌==◌, ◌&&◌, ltb, nat_lt, if◌then◌else◌}
use Rattle.std.specs.Cmp.Lexicographic.{pointwise}
use Rattle.std.proofs.lemmas.Bool.{eq-eqb, eqb-true, false≢true}
use Rattle.std.proofs.lemmas.Bool.Decides.{nat_tests}
use Rattle.std.proofs.Math.Bool.{and-false}
use Rattle.matchit.specs.Rows.{RowsOf}
use Rattle.matchit.specs.Seek.{cuts, has_slash, longest_from, longest_suffix, or_else, own, param_step, seek, segment, step, with_suffix}
use Rattle.matchit.proofs.ParamLemmas.{better-empty}
use Rattle.contest_types.specs.Order.{Has}
use Rattle.contest_types.proofs.PlaceLemmas.{and_left, and_right}

-- a path from its first slash on
abbrev pub after_piece : List ℕ → List ℕ
after_piece [] = []
after_piece (b ∷ path) = if b == 47 then b ∷ path else after_piece path

-- a path goes by tokens: by bytes themselves, by a parameter one or more bytes up to a slash
abbrev pub goes : (tokens path : List ℕ) → Bool
goes [] [] = true
goes [] (b ∷ path) = false
goes (x ∷ t) [] = false
goes (x ∷ t) (b ∷ path) = if x == 256 then (if b == 47 then false else goes t (after_piece path)) else ((x == b) && goes t path)

-- a slash follows, or nothing
abbrev pub ends_piece : List ℕ → Bool
ends_piece [] = true
ends_piece (x ∷ t) = x == 47

-- a parameter is a piece by itself, and every other token a byte
abbrev pub proper : (starts : Bool) → List ℕ → Bool
proper starts [] = true
proper starts (x ∷ t) = if x == 256 then starts && (ends_piece t && proper false t) else (nat_lt x 256 && proper (x == 47) t)

abbrev pub AreBytes : List ℕ → Type 0
AreBytes [] = Unit {0}
AreBytes (b ∷ path) = (b < 256) × AreBytes path

-- pieces of a path

no_slash_whole : (path : List ℕ) → has_slash path ≡ false → (segment path ≡ path) × (after_piece path ≡ [])
no_slash_whole [] h = (refl, refl)
no_slash_whole (b ∷ path) h =
    let go : (c : Bool) → (b == 47) ≡ c → cond c true (has_slash path) ≡ false → (segment (b ∷ path) ≡ b ∷ path) × (after_piece (b ∷ path) ≡ []) = elim [
      | true ↦ λ e k. absurd (cc k)
      | false ↦ λ e k. (let rest = no_slash_whole path k in (rw e (ap (λ s. b ∷ s) rest.0), rw e rest.1))
    ] in
    go (b == 47) refl h

-- where there is a slash, the first piece ends with it
record Cut (path : List ℕ) : Type 0 where
  pub some : 0 < length (segment path)
  pub last : drop (length (segment path) - 1) (segment path) ≡ 47 ∷ []
  pub rest : drop (length (segment path) - 1) path ≡ after_piece path
  pub begins : (more : List ℕ) × (after_piece path ≡ 47 ∷ more)

cut_here : (path : List ℕ) → has_slash path ≡ true → Cut path
cut_here [] h = absurd (cc h)
cut_here (b ∷ path) h =
    let go : (c : Bool) → (b == 47) ≡ c → cond c true (has_slash path) ≡ true → Cut (b ∷ path) = elim [
      | true ↦ λ e k. subst (λ z. Cut (z ∷ path)) (sym (eqb-true b 47 e)) (record { some = omega arith; last = refl; rest = refl; begins = (path, refl) })
      | false ↦ λ e k. (let c = cut_here path k in
          let less : length (segment path) ≡ suc (length (segment path) - 1) = omega (arith, c.some) in
          let last : drop (length (segment path)) (b ∷ segment path) ≡ 47 ∷ [] = ap (λ n. drop n (b ∷ segment path)) less ∙ c.last in
          let rest : drop (length (segment path)) (b ∷ path) ≡ after_piece path = ap (λ n. drop n (b ∷ path)) less ∙ c.rest in
          let shape : segment (b ∷ path) ≡ b ∷ segment path = rw e refl in
          let long : length (segment (b ∷ path)) - 1 ≡ length (segment path) = omega (arith, ap (λ (t : List ℕ). length t) shape) in
          record {
            some = omega (arith, ap (λ (t : List ℕ). length t) shape);
            last = ap (λ n. drop n (segment (b ∷ path))) long ∙ (ap (drop (length (segment path))) shape ∙ last);
            rest = ap (λ n. drop n (b ∷ path)) long ∙ (rest ∙ rw e refl);
            begins = rw e c.begins;
          })
    ] in
    go (b == 47) refl h

after_short : (path : List ℕ) → length (after_piece path) ≤ length path
after_short [] = omega arith
after_short (b ∷ path) =
    let go : (c : Bool) → length (if c then b ∷ path else after_piece path) ≤ suc (length path) = elim [ true ↦ omega arith | false ↦ omega (arith, after_short path) ] in
    go (b == 47)

after_bytes : (path : List ℕ) → AreBytes path → AreBytes (after_piece path)
after_bytes [] h = tt
after_bytes (b ∷ path) h =
    let go : (c : Bool) → AreBytes (if c then b ∷ path else after_piece path) = elim [ true ↦ h | false ↦ after_bytes path h.1 ] in
    go (b == 47)

-- whether the first piece of a path leaves a byte before its slash

last_apart : (b : ℕ) (path : List ℕ) → (b == 47) ≡ false → has_slash path ≡ false → pointwise nat_eq (47 ∷ []) (drop (length path) (b ∷ path)) ≡ false
last_apart b [] e h = grind (arith, nat_tests, e)
last_apart b (c ∷ path) e h =
    let go : (d : Bool) → (c == 47) ≡ d → cond d true (has_slash path) ≡ false → pointwise nat_eq (47 ∷ []) (drop (length path) (c ∷ path)) ≡ false = elim [
      | true ↦ λ f k. absurd (cc k)
      | false ↦ λ f k. last_apart c path f k
    ] in
    go (c == 47) refl h

no_cut : (b : ℕ) (path : List ℕ) → (b == 47) ≡ false → has_slash path ≡ false → cuts (b ∷ segment path) (47 ∷ []) ≡ false
no_cut b path e h =
    let one : length (b ∷ path) - 1 ≡ length path = omega arith in
    ap (λ s. cuts (b ∷ s) (47 ∷ [])) (no_slash_whole path h).0
    ∙ (ap (λ n. ltb 1 (length (b ∷ path)) && pointwise nat_eq (47 ∷ []) (drop n (b ∷ path))) one
    ∙ (ap (λ c. ltb 1 (length (b ∷ path)) && c) (last_apart b path e h) ∙ and-false (ltb 1 (length (b ∷ path)))))

cut : (b : ℕ) (path : List ℕ) → has_slash path ≡ true → cuts (b ∷ segment path) (47 ∷ []) ≡ true
cut b path h =
    let c = cut_here path h in
    let s = segment path in
    let less : length s ≡ suc (length s - 1) = omega (arith, c.some) in
    let one : length (b ∷ s) - 1 ≡ length s = omega arith in
    let last : drop (length s) (b ∷ s) ≡ 47 ∷ [] = ap (λ n. drop n (b ∷ s)) less ∙ c.last in
    let long : ltb 1 (length (b ∷ s)) ≡ true = (let some = c.some in grind (arith, nat_tests, some)) in
    ap (λ n. ltb 1 (length (b ∷ s)) && pointwise nat_eq (47 ∷ []) (drop n (b ∷ s))) one
    ∙ (ap (λ d. ltb 1 (length (b ∷ s)) && pointwise nat_eq (47 ∷ []) d) last ∙ ap (λ t. t && true) long)

-- a slash follows, or nothing: and so its first piece is one of two
ends_with_slash : (t : List ℕ) → ends_piece t ≡ true → (segment t ≡ []) ⊎ (segment t ≡ 47 ∷ [])
ends_with_slash [] h = inl refl
ends_with_slash (x ∷ t) h = (let is : x ≡ 47 = eqb-true x 47 h in inr (rw is refl))

not_name : (b : ℕ) → b < 256 → (b == 256) ≡ false
not_name b small = grind (arith, nat_tests, small)

no_slash_here : (b : ℕ) (path : List ℕ) → (b == 47) ≡ false → has_slash (b ∷ path) ≡ has_slash path
no_slash_here b path e = rw e refl

slash_here : (b : ℕ) (path : List ℕ) → (b == 47) ≡ true → has_slash (b ∷ path) ≡ true
slash_here b path e = rw e refl

no_cut_here : (b : ℕ) (path : List ℕ) → (b == 47) ≡ true → cuts (segment (b ∷ path)) (47 ∷ []) ≡ false
no_cut_here b path e = subst (λ z. cuts (segment (z ∷ path)) (47 ∷ []) ≡ false) (sym (eqb-true b 47 e)) refl

-- a path goes by a parameter, and then by the tokens after it
by_name : (t : List ℕ) (b : ℕ) (path : List ℕ) → (b == 47) ≡ false → goes (256 ∷ t) (b ∷ path) ≡ goes t (after_piece path)
by_name t b path e = rw e refl

by_byte : (t : List ℕ) (b : ℕ) (path : List ℕ) → b < 256 → goes (b ∷ t) (b ∷ path) ≡ goes t path
by_byte t b path small = rw (not_name b small, eq-eqb b b refl) refl

-- rows

module _ {K : Type 0} where
  seek_none : (n : ℕ) (path : List ℕ) → seek {K = K} n [] path ≡ None
  unfolding seek param_step
  seek_none n [] = refl
  seek_none (suc n) (b ∷ path) = seek_none n path
  seek_none zero (b ∷ path) =
      let go : (c : Bool) → seek {K = K} ((cond {A = ℕ × RowsOf K} c (0, []) (length (b ∷ path), [])).0 - 1) (cond {A = ℕ × RowsOf K} c (0, []) (length (b ∷ path), [])).1 path ≡ None = elim [
        | true ↦ seek_none (0 - 1) path
        | false ↦ seek_none (length (b ∷ path) - 1) path
      ] in
      rw (seek_none 0 path, go (has_slash (b ∷ path))) refl

  seek_drop : (n : ℕ) (rs : RowsOf K) (path : List ℕ) → seek n rs path ≡ seek 0 rs (drop n path)
  unfolding seek
  seek_drop zero rs path = refl
  seek_drop (suc n) rs [] = refl
  seek_drop (suc n) rs (b ∷ path) = seek_drop n rs path

  seek_over : (rs : RowsOf K) (path : List ℕ) → seek (length path) rs path ≡ own rs
  unfolding seek
  seek_over rs [] = refl
  seek_over rs (b ∷ path) = seek_over rs path

  own_has : (rs : RowsOf K) (k : K) → own rs ≡ Some k → Has rs ([], k)
  own_has [] k h = absurd (cc h)
  own_has (([], key) ∷ rest) k h = (let same : key ≡ k = cc h in inl (ap (λ j. ([], j)) (sym same)))
  own_has ((x ∷ t, key) ∷ rest) k h = inr (own_has rest k h)

  has_own : (rs : RowsOf K) (k : K) → Has rs ([], k) → (j : K) × (own rs ≡ Some j)
  has_own [] k h = absurd h
  has_own (([], key) ∷ rest) k h = (key, refl)
  has_own ((x ∷ t, key) ∷ rest) k (inl e) = (let no : ◌≡◌ {A = List ℕ} [] (x ∷ t) = ap (λ (p : List ℕ × K). p.0) e in absurd (cc no))
  has_own ((x ∷ t, key) ∷ rest) k (inr h) = has_own rest k h

  has_step : (b : ℕ) (rs : RowsOf K) (t : List ℕ) (k : K) → Has (step b rs) (t, k) → Has rs (b ∷ t, k)
  has_step b [] t k h = absurd h
  has_step b (([], key) ∷ rest) t k h = inr (has_step b rest t k h)
  has_step b ((x ∷ u, key) ∷ rest) t k h =
      let go : (c : Bool) → (x == b) ≡ c → Has (cond c ((u, key) ∷ step b rest) (step b rest)) (t, k) → Has ((x ∷ u, key) ∷ rest) (b ∷ t, k) = elim [
        | true ↦ λ e g. (let is : x ≡ b = eqb-true x b e in elim g [
          | inl f ↦ inl (λ i. (sym is i ∷ (ap (λ (p : List ℕ × K). p.0) f) i, (ap (λ (p : List ℕ × K). p.1) f) i))
          | inr more ↦ inr (has_step b rest t k more)
        ])
        | false ↦ λ e g. inr (has_step b rest t k g)
      ] in
      go (x == b) refl h

  step_has : (b : ℕ) (rs : RowsOf K) (t : List ℕ) (k : K) → Has rs (b ∷ t, k) → Has (step b rs) (t, k)
  step_has b [] t k h = absurd h
  step_has b (([], key) ∷ rest) t k (inl e) = (let no : ◌≡◌ {A = List ℕ} (b ∷ t) [] = ap (λ (p : List ℕ × K). p.0) e in absurd (cc no))
  step_has b (([], key) ∷ rest) t k (inr h) = step_has b rest t k h
  step_has b ((x ∷ u, key) ∷ rest) t k (inl e) =
      let texts : b ∷ t ≡ x ∷ u = ap (λ (p : List ℕ × K). p.0) e in
      let keys : k ≡ key = ap (λ (p : List ℕ × K). p.1) e in
      let head : x ≡ b = cc texts in
      let tail : t ≡ u = cc texts in
      rw (eq-eqb x b head) (inl (λ i. (tail i, keys i)))
  step_has b ((x ∷ u, key) ∷ rest) t k (inr h) =
      let go : (c : Bool) → Has (cond c ((u, key) ∷ step b rest) (step b rest)) (t, k) = elim [ true ↦ inr (step_has b rest t k h) | false ↦ step_has b rest t k h ] in
      go (x == b)

  suffix_has : (s : List ℕ) (rs : RowsOf K) (t : List ℕ) (k : K) → Has (with_suffix s rs) (t, k) → Has rs (t, k)
  suffix_has s [] t k h = absurd h
  suffix_has s ((u, key) ∷ rest) t k h =
      let go : (c : Bool) → Has (cond c ((u, key) ∷ with_suffix s rest) (with_suffix s rest)) (t, k) → Has ((u, key) ∷ rest) (t, k) = elim [
        | true ↦ λ g. elim g [ inl e ↦ inl e | inr more ↦ inr (suffix_has s rest t k more) ]
        | false ↦ λ g. inr (suffix_has s rest t k g)
      ] in
      go _ h

  has_suffix : (rs : RowsOf K) (u : List ℕ) (k : K) → Has rs (47 ∷ u, k) → Has (with_suffix (47 ∷ []) rs) (47 ∷ u, k)
  has_suffix [] u k h = absurd h
  has_suffix ((v, key) ∷ rest) u k (inl e) =
      let texts : v ≡ 47 ∷ u = sym (ap (λ (p : List ℕ × K). p.0) e) in
      let keys : key ≡ k = sym (ap (λ (p : List ℕ × K). p.1) e) in
      rw (texts, keys) (inl refl)
  has_suffix ((v, key) ∷ rest) u k (inr h) =
      let more = has_suffix rest u k h in
      let go : (c : Bool) → Has (cond c ((v, key) ∷ with_suffix (47 ∷ []) rest) (with_suffix (47 ∷ []) rest)) (47 ∷ u, k) = elim [ true ↦ inr more | false ↦ more ] in
      go _

  -- what follows a parameter ends its piece
  abbrev AllEnd : RowsOf K → Type 0
  AllEnd rs = (t : List ℕ) (k : K) → Has rs (t, k) → ends_piece t ≡ true

  longest_stays : (seg : List ℕ) (rs : RowsOf K) → AllEnd rs → longest_from seg (47 ∷ []) rs ≡ 47 ∷ []
  longest_stays seg [] all = refl
  longest_stays seg ((t, key) ∷ rest) all =
      let more = longest_stays seg rest (λ u k h. all u k (inr h)) in
      elim (ends_with_slash t (all t key (inl refl))) [
        | inl e ↦ rw e (ap (λ best. longest_from seg best rest) (better-empty seg (47 ∷ [])) ∙ more)
        | inr e ↦ rw e more
      ]

  longest_is : (seg : List ℕ) (rs : RowsOf K) → AllEnd rs → (longest_from seg [] rs ≡ []) ⊎ ((longest_from seg [] rs ≡ 47 ∷ []) × (cuts seg (47 ∷ []) ≡ true))
  longest_is seg [] all = inl refl
  longest_is seg ((t, key) ∷ rest) all =
      let ends : AllEnd rest = λ u k h. all u k (inr h) in
      elim (ends_with_slash t (all t key (inl refl))) [
        | inl e ↦ rw e (longest_is seg rest ends)
        | inr e ↦ (let go : (c : Bool) → cuts seg (47 ∷ []) ≡ c → (longest_from seg (cond c (47 ∷ []) []) rest ≡ []) ⊎ ((longest_from seg (cond c (47 ∷ []) []) rest ≡ 47 ∷ []) × (cuts seg (47 ∷ []) ≡ true)) = elim [
          | true ↦ λ f. inr (longest_stays seg rest ends, f)
          | false ↦ λ f. longest_is seg rest ends
        ] in
            rw e (go (cuts seg (47 ∷ [])) refl))
      ]

  longest_found : (seg : List ℕ) (rs : RowsOf K) (u : List ℕ) (k : K) → AllEnd rs → cuts seg (47 ∷ []) ≡ true → Has rs (47 ∷ u, k) → longest_from seg [] rs ≡ 47 ∷ []
  longest_found seg [] u k all c h = absurd h
  longest_found seg ((t, key) ∷ rest) u k all c (inl e) =
      let text : t ≡ 47 ∷ u = sym (ap (λ (p : List ℕ × K). p.0) e) in
      rw (text, c) (longest_stays seg rest (λ v j h. all v j (inr h)))
  longest_found seg ((t, key) ∷ rest) u k all c (inr h) =
      let ends : AllEnd rest = λ v j g. all v j (inr g) in
      elim (ends_with_slash t (all t key (inl refl))) [
        | inl e ↦ rw e (longest_found seg rest u k ends c h)
        | inr e ↦ rw (e, c) (longest_stays seg rest ends)
      ]

  -- a table whose patterns are proper, at the start of a piece or within one
  abbrev pub AllProper : (starts : Bool) → RowsOf K → Type 0
  AllProper starts rs = (t : List ℕ) (k : K) → Has rs (t, k) → proper starts t ≡ true

  -- what was found is that of one of three
  one_of : (a b c : Option K) (k : K) → or_else a (or_else b c) ≡ Some k → (a ≡ Some k) ⊎ ((b ≡ Some k) ⊎ (c ≡ Some k))
  one_of (Some j) b c k h = inl h
  one_of None (Some j) c k h = inr (inl h)
  one_of None None c k h = inr (inr h)

  first_found : (a b : Option K) (j : K) → a ≡ Some j → (i : K) × (or_else a b ≡ Some i)
  first_found (Some i) b j h = (i, refl)
  first_found None b j h = absurd (cc h)

  second_found : (a b c : Option K) (j : K) → b ≡ Some j → (i : K) × (or_else a (or_else b c) ≡ Some i)
  second_found (Some i) b c j h = (i, refl)
  second_found None (Some i) c j h = (i, refl)
  second_found None None c j h = absurd (cc h)

  -- the rows that go on with a byte, or after a parameter
  byte_tails : (starts : Bool) (rs : RowsOf K) (b : ℕ) → b < 256 → AllProper starts rs → AllProper (b == 47) (step b rs)
  byte_tails starts rs b small all t k h =
      let here = all (b ∷ t) k (has_step b rs t k h) in
      let other : (b == 256) ≡ false = grind (arith, nat_tests, small) in
      and_right (nat_lt b 256) (proper (b == 47) t) (rw other at here)

  name_tails : (starts : Bool) (rs : RowsOf K) → AllProper starts rs → AllProper false (step 256 rs) × AllEnd (step 256 rs)
  name_tails starts rs all =
      let both : (t : List ℕ) (k : K) → Has (step 256 rs) (t, k) → (ends_piece t && proper false t) ≡ true = λ t k h. and_right starts (ends_piece t && proper false t) (all (256 ∷ t) k (has_step 256 rs t k h)) in
      (λ t k h. and_right (ends_piece t) (proper false t) (both t k h), λ t k h. and_left (ends_piece t) (proper false t) (both t k h))

  -- where a parameter takes a first piece that a slash follows, the rows with a slash go on from there
  past_piece : (ts : RowsOf K) (b : ℕ) (path : List ℕ) → (b == 47) ≡ false → has_slash path ≡ true → longest_suffix (segment (b ∷ path)) ts ≡ 47 ∷ []
      → seek ((param_step ts (b ∷ path)).0 - 1) (param_step ts (b ∷ path)).1 path ≡ seek 0 (with_suffix (47 ∷ []) ts) (after_piece path)
  unfolding param_step
  past_piece ts b path e h longest =
      let c = cut_here path h in
      let seg : segment (b ∷ path) ≡ b ∷ segment path = rw e refl in
      let count : length (segment (b ∷ path)) - 1 - 1 ≡ length (segment path) - 1 = omega (arith, ap (λ (t : List ℕ). length t) seg) in
      rw longest (seek_drop (length (segment (b ∷ path)) - 1 - 1) (with_suffix (47 ∷ []) ts) path ∙ (ap (λ n. seek 0 (with_suffix (47 ∷ []) ts) (drop n path)) count ∙ ap (seek 0 (with_suffix (47 ∷ []) ts)) c.rest))

  -- where it takes the rest of the path, the row that ends there is it
  to_end : (ts : RowsOf K) (b : ℕ) (path : List ℕ) → (b == 47) ≡ false → has_slash path ≡ false → longest_suffix (segment (b ∷ path)) ts ≡ []
      → seek ((param_step ts (b ∷ path)).0 - 1) (param_step ts (b ∷ path)).1 path ≡ own ts
  unfolding param_step
  to_end ts b path e h longest =
      let count : length (b ∷ path) - 1 ≡ length path = omega arith in
      rw (longest, e, h) (ap (λ n. seek n ts path) count ∙ seek_over ts path)

  -- and where no row goes on after a slash that follows, or the piece is empty, there is none
  stopped : (ts : RowsOf K) (b : ℕ) (path : List ℕ) → has_slash (b ∷ path) ≡ true → longest_suffix (segment (b ∷ path)) ts ≡ []
      → seek ((param_step ts (b ∷ path)).0 - 1) (param_step ts (b ∷ path)).1 path ≡ None
  unfolding param_step
  stopped ts b path h longest = rw (longest, h) (seek_none (0 - 1) path)

-- whatever is found is a row that the path goes by

abbrev pub Found : {K : Type 0} → RowsOf K → List ℕ → K → Type 0
Found rs path k = (t : List ℕ) × Has rs (t, k) × (goes t path ≡ true)

abbrev pub FindsIn : Type 0 → ℕ → Type 0
FindsIn K m = (starts : Bool) (rs : RowsOf K) (path : List ℕ) (k : K) → length path ≤ m → AreBytes path → AllProper starts rs → seek 0 rs path ≡ Some k → Found rs path k

found_by_name : {K : Type 0} (m : ℕ) → FindsIn K m → (rs : RowsOf K) (b : ℕ) (path : List ℕ) (k : K) → length path ≤ m → AreBytes path → AllProper false (step 256 rs) → AllEnd (step 256 rs)
    → seek ((param_step (step 256 rs) (b ∷ path)).0 - 1) (param_step (step 256 rs) (b ∷ path)).1 path ≡ Some k → Found rs (b ∷ path) k
found_by_name {K} m ih rs b path k within bytes all ends h =
    let ts = step 256 rs in
    let nothing : has_slash (b ∷ path) ≡ true → longest_suffix (segment (b ∷ path)) ts ≡ [] → Found rs (b ∷ path) k = λ slash longest. absurd (let no : None ≡ Some k = sym (stopped ts b path slash longest) ∙ h in cc no) in
    let here : (b == 47) ≡ false → segment (b ∷ path) ≡ b ∷ segment path = λ e. rw e refl in
    let go : (c d : Bool) → (b == 47) ≡ c → has_slash path ≡ d → Found rs (b ∷ path) k = elim [
      | true ↦ λ d e f. elim (longest_is (segment (b ∷ path)) ts ends) [
        | inl longest ↦ nothing (slash_here b path e) longest
        | inr two ↦ absurd (false≢true (sym (no_cut_here b path e) ∙ two.1))
      ]
      | false ↦ elim [
        | true ↦ λ e f. elim (longest_is (segment (b ∷ path)) ts ends) [
          | inl longest ↦ nothing (no_slash_here b path e ∙ f) longest
          | inr two ↦ (let rest = ih false (with_suffix (47 ∷ []) ts) (after_piece path) k (omega (arith, within, after_short path)) (after_bytes path bytes) (λ t j g. all t j (suffix_has (47 ∷ []) ts t j g))
              (sym (past_piece ts b path e f two.0) ∙ h) in
              (256 ∷ rest.0, has_step 256 rs rest.0 k (suffix_has (47 ∷ []) ts rest.0 k rest.1), by_name rest.0 b path e ∙ rest.2))
        ]
        | false ↦ λ e f. (let longest : longest_suffix (segment (b ∷ path)) ts ≡ [] = elim (longest_is (segment (b ∷ path)) ts ends) [
          | inl is ↦ is
          | inr two ↦ absurd (false≢true (sym (ap (λ s. cuts s (47 ∷ [])) (here e) ∙ no_cut b path e f) ∙ two.1))
        ] in
            (256 ∷ [], has_step 256 rs [] k (own_has ts k (sym (to_end ts b path e f longest) ∙ h)), by_name [] b path e ∙ ap (goes []) (no_slash_whole path f).1))
      ]
    ] in
    go (b == 47) (has_slash path) refl refl

pub finds : {K : Type 0} (m : ℕ) → FindsIn K m
unfolding seek
finds m starts rs [] k within bytes all h = ([], own_has rs k h, refl)
finds zero starts rs (b ∷ path) k within bytes all h = absurd (omega (arith, within))
finds (suc m) starts rs (b ∷ path) k within bytes all h =
    let short : length path ≤ m = omega (arith, within) in
    let named = name_tails starts rs all in
    elim (one_of _ _ _ k h) [
      | inl g ↦ (let rest = finds m (b == 47) (step b rs) path k short bytes.1 (byte_tails starts rs b bytes.0 all) g in
          (b ∷ rest.0, has_step b rs rest.0 k rest.1, by_byte rest.0 b path bytes.0 ∙ rest.2))
      | inr more ↦ elim more [
        | inl g ↦ found_by_name m (finds m) rs b path k short bytes.1 named.0 named.1 g
        | inr g ↦ (let no = all (257 ∷ []) k (has_step 257 rs [] k (own_has (step 257 rs) k g)) in absurd (cc no))
      ]
    ]

-- and where the path goes by a row something is found

abbrev pub MeetsIn : Type 0 → ℕ → Type 0
MeetsIn K m = (starts : Bool) (rs : RowsOf K) (path t : List ℕ) (k : K) → length path ≤ m → AreBytes path → AllProper starts rs → Has rs (t, k) → goes t path ≡ true → (j : K) × (seek 0 rs path ≡ Some j)

at_end : (u : List ℕ) → goes u [] ≡ true → u ≡ []
at_end [] h = refl
at_end (x ∷ u) h = absurd (cc h)

on_slash : (u more : List ℕ) → ends_piece u ≡ true → goes u (47 ∷ more) ≡ true → (v : List ℕ) × (u ≡ 47 ∷ v)
on_slash [] more ends g = absurd (cc g)
on_slash (x ∷ u) more ends g = (let is : x ≡ 47 = eqb-true x 47 ends in (u, ap (λ z. z ∷ u) is))

met_by_name : {K : Type 0} (m : ℕ) → MeetsIn K m → (rs : RowsOf K) (b : ℕ) (path t : List ℕ) (k : K) → length path ≤ m → AreBytes path → AllProper false (step 256 rs) → AllEnd (step 256 rs)
    → Has (step 256 rs) (t, k) → (b == 47) ≡ false → goes t (after_piece path) ≡ true
    → (j : K) × (seek ((param_step (step 256 rs) (b ∷ path)).0 - 1) (param_step (step 256 rs) (b ∷ path)).1 path ≡ Some j)
met_by_name {K} m ih rs b path t k within bytes all ends has e g =
    let ts = step 256 rs in
    let here : segment (b ∷ path) ≡ b ∷ segment path = rw e refl in
    let go : (d : Bool) → has_slash path ≡ d → (j : K) × (seek ((param_step ts (b ∷ path)).0 - 1) (param_step ts (b ∷ path)).1 path ≡ Some j) = elim [
      | true ↦ λ f. (let c = (cut_here path f).begins in
          let on : goes t (47 ∷ c.0) ≡ true = rw c.1 at g in
          let form = on_slash t c.0 (ends t k has) on in
          let longest : longest_suffix (segment (b ∷ path)) ts ≡ 47 ∷ [] = longest_found (segment (b ∷ path)) ts form.0 k ends (ap (λ s. cuts s (47 ∷ [])) here ∙ cut b path f) (subst (λ u. Has ts (u, k)) form.1 has) in
          let rest = ih false (with_suffix (47 ∷ []) ts) (after_piece path) (47 ∷ form.0) k (omega (arith, within, after_short path)) (after_bytes path bytes) (λ u j h. all u j (suffix_has (47 ∷ []) ts u j h))
          (has_suffix ts form.0 k (subst (λ u. Has ts (u, k)) form.1 has)) (subst (λ u. goes u (after_piece path) ≡ true) form.1 g) in
          (rest.0, past_piece ts b path e f longest ∙ rest.1))
      | false ↦ λ f. (let whole = no_slash_whole path f in
          let over : goes t [] ≡ true = rw whole.1 at g in
          let empty = at_end t over in
          let longest : longest_suffix (segment (b ∷ path)) ts ≡ [] = elim (longest_is (segment (b ∷ path)) ts ends) [
            | inl is ↦ is
            | inr two ↦ absurd (false≢true (sym (ap (λ s. cuts s (47 ∷ [])) here ∙ no_cut b path e f) ∙ two.1))
          ] in
          let own_row = has_own ts k (subst (λ u. Has ts (u, k)) empty has) in
          (own_row.0, to_end ts b path e f longest ∙ own_row.1))
    ] in
    go (has_slash path) refl

pub meets : {K : Type 0} (m : ℕ) → MeetsIn K m
unfolding seek
meets m starts rs [] [] k within bytes all has g = has_own rs k has
meets m starts rs [] (x ∷ t) k within bytes all has g = absurd (cc g)
meets zero starts rs (b ∷ path) t k within bytes all has g = absurd (omega (arith, within))
meets (suc m) starts rs (b ∷ path) [] k within bytes all has g = absurd (cc g)
meets (suc m) starts rs (b ∷ path) (x ∷ t) k within bytes all has g =
    let short : length path ≤ m = omega (arith, within) in
    let named = name_tails starts rs all in
    let go : (c : Bool) → (x == 256) ≡ c → (j : _) × (seek 0 rs (b ∷ path) ≡ Some j) = elim [
      | true ↦ λ e. (let is : x ≡ 256 = eqb-true x 256 e in
          let row : Has rs (256 ∷ t, k) = subst (λ z. Has rs (z ∷ t, k)) is has in
          let on : goes (256 ∷ t) (b ∷ path) ≡ true = subst (λ z. goes (z ∷ t) (b ∷ path) ≡ true) is g in
          let by : (d : Bool) → (b == 47) ≡ d → (j : _) × (seek 0 rs (b ∷ path) ≡ Some j) = elim [
            | true ↦ λ f. absurd (let no : false ≡ true = rw f at on in cc no)
            | false ↦ λ f. (let second = met_by_name m (meets m) rs b path t k short bytes.1 named.0 named.1 (step_has 256 rs t k row) f (sym (by_name t b path f) ∙ on) in second_found _ _ _ second.0 second.1)
          ] in
          by (b == 47) refl)
      | false ↦ λ e. (let both : ((x == b) && goes t path) ≡ true = rw e at g in
          let is : x ≡ b = eqb-true x b (and_left (x == b) (goes t path) both) in
          let rest = meets m (b == 47) (step b rs) path t k short bytes.1 (byte_tails starts rs b bytes.0 all) (step_has b rs t k (subst (λ z. Has rs (z ∷ t, k)) is has)) (and_right (x == b) (goes t path) both) in
          first_found _ _ rest.0 rest.1)
    ] in
    go (x == 256) refl
