-- The least unused handle value: that it is one, and that it is unused.
use Rattle.std.proofs.Common.{◌≡◌, ◌∙◌, ℕ, ◌+◌, ◌*◌, ◌<◌, ◌≤◌, ◌==◌, Bool, true, false, cond, List, [], ◌∷◌, length, get_or, None, Some, All, refl, ap, sym, subst, arith, eqb-true}
use Rattle.std.proofs.lemmas.Bool.Decides.{nat_tests}
use Rattle.std.proofs.lemmas.List.Elements.{All-nil, All-cons, All-head, All-tail}
use Rattle.std.proofs.lemmas.List.{length-map}
use Rattle.std.proofs.lemmas.Map.Keys.{sorted_head, sorted_tail}
use Rattle.std.specs.List.{AllByRecursion}
use Rattle.std.specs.List.Sorted.{IsStrictlySortedBy}
use Rattle.std.specs.Map.{keys_of}
use Rattle.std.specs.declared.cmp.Ordering.TheVariants.{Less}
use Rattle.std.specs.Ordering.{nat_cmp, is_lt}
use Rattle.ob_model.specs.Grants.{IsHandleValue}
use Rattle.ob_model.proofs.Ids.{is_at-id}
use Rattle.ob_handles.specs.Indexed.{at, gap}

-- nothing is found under a number that no key is
pub no_key : {X : Type 0} (es : List (ℕ × X)) (key : ℕ) → All (λ k. (k == key) ≡ false) (keys_of es) → at es key ≡ None
no_key [] key none = refl
no_key {X} (e ∷ es) key none =
    ap (λ b. cond b (Some e.1) (at es key)) (is_at-id key e.0 ∙ All-head (λ k. (k == key) ≡ false) e.0 (keys_of es) none)
    ∙ no_key es key (All-tail (λ k. (k == key) ≡ false) e.0 (keys_of es) none)

-- a multiple of four from four times this on
abbrev IsFrom : ℕ → ℕ → Type 0
IsFrom n value = (k : ℕ) × (value ≡ 4 * k) × (n ≤ k)

above : (v : ℕ) (vs : List ℕ) → AllByRecursion (λ y. nat_cmp v y ≡ Less) vs → All (λ y. v < y) vs
above v [] rising = All-nil (λ y. v < y)
above v (y ∷ ys) rising = All-cons (λ y. v < y) y ys (less v y rising.0) (above v ys rising.1)
  where
    less : (a b : ℕ) → nat_cmp a b ≡ Less → a < b
    less a b is = grind (arith, nat_tests)

other : (a b : ℕ) → a < b → (a == b) ≡ false
other a b less = grind (arith, nat_tests)

other_above : (a b : ℕ) → b < a → (a == b) ≡ false
other_above a b less = grind (arith, nat_tests)

apart : (a b : ℕ) → b ≤ a → (a == b) ≡ false → b < a
apart a b least differ = grind (arith, nat_tests)

-- the gap among rising multiples of four is one more of them, is none of them, and comes no later than
-- behind them all
abbrev IsGap : ℕ → List ℕ → ℕ → Type 0
IsGap n values found = (m : ℕ) × (found ≡ 4 * m) × (n ≤ m) × (m ≤ n + length values) × All (λ v. (v == found) ≡ false) values

gap_is : (n : ℕ) (values : List ℕ) → IsStrictlySortedBy nat_cmp values → All (IsFrom n) values → IsGap n values (gap (4 * n) values)
gap_is n [] rising from = (n, refl, omega arith, omega arith, All-nil (λ v. (v == 4 * n) ≡ false))
gap_is n (v ∷ vs) rising from = go (v == 4 * n) refl (gap_is (n + 1) vs (sorted_tail nat_cmp v vs rising))
  where
    first : IsFrom n v
    first = All-head (IsFrom n) v vs from

    later : All (λ y. v < y) vs
    later = above v vs (sorted_head nat_cmp v vs rising)

    next : v ≡ 4 * n → All (IsFrom (n + 1)) vs
    next same = λ k d below.
        let y : ℕ = get_or vs k d in
        let less : v < y = later k d below in
        let is : IsFrom n y = All-tail (IsFrom n) v vs from k d below in
        let value : y ≡ 4 * is.0 = is.1 in
        (is.0, value, omega (arith, less, value, same))

    go : (b : Bool) → (v == 4 * n) ≡ b → (All (IsFrom (n + 1)) vs → IsGap (n + 1) vs (gap (4 * (n + 1)) vs)) → IsGap n (v ∷ vs) (cond b (gap (4 * n + 4) vs) (4 * n))
    go true same rest =
        let v_is : v ≡ 4 * n = eqb-true v (4 * n) same in
        let step : 4 * (n + 1) ≡ 4 * n + 4 = omega arith in
        let found : IsGap (n + 1) vs (gap (4 * n + 4) vs) = subst (λ t. IsGap (n + 1) vs (gap t vs)) step (rest (next v_is)) in
        let m_is : gap (4 * n + 4) vs ≡ 4 * found.0 = found.1 in
        let least : n + 1 ≤ found.0 = found.2 in
        let most : found.0 ≤ n + 1 + length vs = found.3 in (
          found.0,
          m_is,
          omega (arith, least),
          omega (arith, most),
          All-cons (λ y. (y == gap (4 * n + 4) vs) ≡ false) v vs (other v (gap (4 * n + 4) vs) (omega (arith, v_is, m_is, least))) found.4,
        )
    go false differ rest =
        let k_is : v ≡ 4 * first.0 = first.1 in
        let k_from : n ≤ first.0 = first.2 in
        let v_above : 4 * n < v = apart v (4 * n) (omega (arith, k_is, k_from)) differ in (
          n,
          refl,
          omega arith,
          omega arith,
          All-cons (λ y. (y == 4 * n) ≡ false) v vs differ
              (λ k d below. let less = later k d below in other_above (get_or vs k d) (4 * n) (omega (arith, less, v_above))),
        )

-- a handle value, from one on
from_one : (value : ℕ) → IsHandleValue value → IsFrom 1 value
from_one value is = (is.0, is.1, is.2)

-- where there is room, the gap is a handle value
pub gap_value : (values : List ℕ) (found : ℕ) → found ≡ gap 4 values → IsStrictlySortedBy nat_cmp values → All IsHandleValue values → length values < 65535
    → IsHandleValue found
gap_value values found is rising all room =
    let m : IsGap 1 values (gap 4 values) = gap_is 1 values rising (λ k d below. from_one (get_or values k d) (all k d below)) in
    let m_is : gap 4 values ≡ 4 * m.0 = m.1 in
    let least : 1 ≤ m.0 = m.2 in
    let most : m.0 ≤ 1 + length values = m.3 in
    (m.0, is ∙ m_is, least, omega (arith, is, m_is, most, room))

-- and no key
pub gap_unused : {X : Type 0} (es : List (ℕ × X)) (found : ℕ) → found ≡ gap 4 (keys_of es) → IsStrictlySortedBy nat_cmp (keys_of es) → All IsHandleValue (keys_of es)
    → at es found ≡ None
gap_unused es found is rising all =
    ap (at es) is
    ∙ no_key es (gap 4 (keys_of es)) (gap_is 1 (keys_of es) rising (λ k d below. from_one (get_or (keys_of es) k d) (all k d below))).4

-- the value behind a greatest one below the end
pub next_value : (greatest : ℕ) → IsHandleValue greatest → greatest < 262140 → IsHandleValue (greatest + 4)
next_value greatest is below =
    let value : greatest ≡ 4 * is.0 = is.1 in
    (is.0 + 1, omega (arith, value), omega arith, omega (arith, value, below))

pub next_unused : {X : Type 0} (es : List (ℕ × X)) (greatest : ℕ) → All (λ k. is_lt (nat_cmp greatest k) ≡ false) (keys_of es) → at es (greatest + 4) ≡ None
next_unused es greatest up_to = no_key es (greatest + 4) (λ k d below. passed (get_or (keys_of es) k d) (up_to k d below))
  where
    passed : (k : ℕ) → is_lt (nat_cmp greatest k) ≡ false → (k == greatest + 4) ≡ false
    passed k not_less = grind (arith, nat_tests)

-- what holds of each key holds of one under which something is found
pub found_key : {X : Type 0} (P : ℕ → Type 0) (es : List (ℕ × X)) (key : ℕ) (x : X) → at es key ≡ Some x → All P (keys_of es) → P key
found_key P [] key x found all = cc
found_key {X} P (e ∷ es) key x found all =
    go (e.0 == key) refl (ap (λ b. cond b (Some e.1) (at es key)) (sym (is_at-id key e.0)) ∙ found) (λ there. found_key P es key x there (All-tail P e.0 (keys_of es) all))
  where
    go : (b : Bool) → (e.0 == key) ≡ b → cond b (Some e.1) (at es key) ≡ Some x → (at es key ≡ Some x → P key) → P key
    go true same here rest = subst P (eqb-true e.0 key same) (All-head P e.0 (keys_of es) all)
    go false differ there rest = rest there

-- there are as many keys as entries
pub keys_are_fewer : {X : Type 0} (es : List (ℕ × X)) → length es < 65535 → length (keys_of es) < 65535
keys_are_fewer es room = subst (λ n. n < 65535) (sym (length-map es (λ e. e.0))) room
