-- Parses that a map keeps under their tickets: what is found, what is left, and what comes last.
use Rattle.std.proofs.Common.{◌≡◌, ◌≢◌, ◌∙◌, ℕ, ◌<◌, ◌==◌, Bool, true, false, not, cond, List, [], ◌∷◌, ◌++◌, filter, Some, None, All, refl, ap, sym, subst, eqb-true, arith, ◌||◌}
use Rattle.std.proofs.lemmas.Bool.{ne_eqb}
use Rattle.std.proofs.lemmas.List.{map-append}
use Rattle.std.proofs.lemmas.List.Elements.{All-nil, All-cons, All-head, All-tail, All-push}
use Rattle.std.proofs.lemmas.Map.Keys.{sorted_tail}
use Rattle.std.specs.BTreeMap.{is_at, insert_entry}
use Rattle.std.specs.List.{list_any}
use Rattle.std.specs.List.Sorted.{IsStrictlySortedBy}
use Rattle.std.specs.Map.{keys_of, lookup, remove_entry}
use Rattle.std.specs.Ordering.{nat_cmp}
use Rattle.ob_model.proofs.Ids.{Differ-from_rising, is_at-id, insert_entry-last, remove_entry-id}
use Rattle.ob_seats.specs.Kept.{AreKept, IsNext, without}

module _ {P : Type 0} (ticket_of : P → ℕ) where
  abbrev Own : ℕ × P → Type 0
  Own e = ticket_of e.1 ≡ e.0

  abbrev AreOwn : List (ℕ × P) → Type 0
  AreOwn es = All Own es

  -- keys below another
  below_inside : (n : ℕ) (es : List (ℕ × P)) → All (λ k. k < n) (keys_of es) → All (λ e. e.0 < n) es
  below_inside n [] below = All-nil (λ e. e.0 < n)
  below_inside n (e ∷ es) below =
      All-cons (λ (x : ℕ × P). x.0 < n) e es (All-head (λ k. k < n) e.0 (keys_of es) below) (below_inside n es (All-tail (λ k. k < n) e.0 (keys_of es) below))

  -- what is found under a ticket has it
  pub found_own : (n : ℕ) (es : List (ℕ × P)) (x : P) → AreOwn es → lookup (is_at (nat_cmp n)) es ≡ Some x → ticket_of x ≡ n
  found_own n [] x own e = cc
  found_own n (y ∷ es) x own e = go (is_at (nat_cmp n) y.0) refl e (found_own n es x (All-tail Own y es own))
    where
      go : (b : Bool) → is_at (nat_cmp n) y.0 ≡ b → cond b (Some y.1) (lookup (is_at (nat_cmp n)) es) ≡ Some x → (lookup (is_at (nat_cmp n)) es ≡ Some x → ticket_of x ≡ n) → ticket_of x ≡ n
      go true here e on = let same : y.1 ≡ x = cc in ap ticket_of (sym same) ∙ (All-head Own y es own ∙ eqb-true y.0 n (sym (is_at-id n y.0) ∙ here))
      go false here e on = on e

  -- something is found under each key
  pub is_kept : (n : ℕ) (es : List (ℕ × P)) → list_any (λ k. k == n) (keys_of es) ≡ true → None ≡ lookup (is_at (nat_cmp n)) es → ⊥
  is_kept n [] there none = cc
  is_kept n (y ∷ es) there none = go (is_at (nat_cmp n) y.0) (y.0 == n) (is_at-id n y.0) there none (is_kept n es)
    where
      go : (a b : Bool) → a ≡ b → (b || list_any (λ k. k == n) (keys_of es)) ≡ true → None ≡ cond a (Some y.1) (lookup (is_at (nat_cmp n)) es)
          → (list_any (λ k. k == n) (keys_of es) ≡ true → None ≡ lookup (is_at (nat_cmp n)) es → ⊥) → ⊥
      go true b same there none on = cc
      go false true same there none on = cc
      go false false same there none on = on there none

  left_own : (n : ℕ) (es : List (ℕ × P)) → AreOwn es → AreOwn (remove_entry (is_at (nat_cmp n)) es)
  left_own n [] own = own
  left_own n (e ∷ es) own = go (is_at (nat_cmp n) e.0) (left_own n es (All-tail Own e es own))
    where
      go : (b : Bool) → AreOwn (remove_entry (is_at (nat_cmp n)) es) → AreOwn (cond b es (e ∷ remove_entry (is_at (nat_cmp n)) es))
      go true more = All-tail Own e es own
      go false more = All-cons Own e (remove_entry (is_at (nat_cmp n)) es) (All-head Own e es own) more

  -- the keys that are left
  keys_left : (n : ℕ) (es : List (ℕ × P)) → keys_of (filter (λ (e : ℕ × P). not (e.0 == n)) es) ≡ without n (keys_of es)
  keys_left n [] = refl
  keys_left n (e ∷ es) = go (not (e.0 == n)) (keys_left n es)
    where
      go : (b : Bool) → keys_of (filter (λ (e : ℕ × P). not (e.0 == n)) es) ≡ without n (keys_of es)
          → keys_of (cond b (e ∷ filter (λ (e : ℕ × P). not (e.0 == n)) es) (filter (λ (e : ℕ × P). not (e.0 == n)) es)) ≡ cond b (e.0 ∷ without n (keys_of es)) (without n (keys_of es))
      go true more = ap (λ ks. e.0 ∷ ks) more
      go false more = more

  module _ (es : List (ℕ × P)) (are : AreKept ticket_of es) (now : List ℕ) (same : keys_of es ≡ now) (n : ℕ) where
    module _ (x : P) (its : n ≡ ticket_of x) (below : All (λ k. k < n) now) (new : List (ℕ × P)) (put : new ≡ insert_entry nat_cmp es n x) where
      comes_last : new ≡ es ++ (n, x) ∷ []
      comes_last = put ∙ insert_entry-last n x es (below_inside n es (subst (All (λ k. k < n)) (sym same) below))

      pub last_now : keys_of new ≡ now ++ ticket_of x ∷ []
      last_now =
          ap keys_of comes_last ∙ (map-append (λ (e : ℕ × P). e.0) es ((n, x) ∷ []) ∙ (ap (λ (ks : List ℕ). ks ++ n ∷ []) same ∙ ap (λ k. now ++ k ∷ []) its))

      pub more_kept : IsStrictlySortedBy nat_cmp (keys_of new) → AreKept ticket_of new
      more_kept rises = record { rising = rises; own = subst AreOwn (sym comes_last) (All-push Own es (n, x) are.own (sym its)) }

    module _ (left : List (ℕ × P)) (taken : left ≡ remove_entry (is_at (nat_cmp n)) es) where
      pub others_now : keys_of left ≡ without n now
      others_now = ap keys_of (taken ∙ remove_entry-id n es (Differ-from_rising es are.rising)) ∙ (keys_left n es ∙ ap (without n) same)

      pub fewer_kept : IsStrictlySortedBy nat_cmp (keys_of left) → AreKept ticket_of left
      fewer_kept rises = record { rising = rises; own = subst AreOwn (sym taken) (left_own n es are.own) }

  -- the first goes
  module _ (es : List (ℕ × P)) (are : AreKept ticket_of es) (key : ℕ) (x : P) (left : List (ℕ × P)) (first : es ≡ (key, x) ∷ left) where
    all : AreKept ticket_of ((key, x) ∷ left)
    all = subst (AreKept ticket_of) first are

    pub rest_kept : AreKept ticket_of left
    rest_kept = record { rising = sorted_tail nat_cmp key (keys_of left) all.rising; own = All-tail Own (key, x) left all.own }

    pub first_own : keys_of es ≡ ticket_of x ∷ keys_of left
    first_own = ap keys_of first ∙ ap (λ k. k ∷ keys_of left) (sym (All-head Own (key, x) left all.own))

  -- nothing is found under a key above all
  pub none_there : (es : List (ℕ × P)) (now : List ℕ) → keys_of es ≡ now → (n : ℕ) → All (λ k. k < n) now → (other : P) → Some other ≡ lookup (is_at (nat_cmp n)) es → ⊥
  none_there es now same n below other is =
      none n es (subst (All (λ k. k < n)) (sym same) below) other (sym is)
    where
      none : (n : ℕ) (es : List (ℕ × P)) → All (λ k. k < n) (keys_of es) → (other : P) → lookup (is_at (nat_cmp n)) es ≡ Some other → ⊥
      none n [] below other e = cc
      none n (y ∷ es) below other e = go (is_at (nat_cmp n) y.0) (is_at-id n y.0 ∙ ne_eqb y.0 n (λ same. omega (arith, same, All-head (λ k. k < n) y.0 (keys_of es) below))) e (none n es (All-tail (λ k. k < n) y.0 (keys_of es) below) other)
        where
          go : (b : Bool) → b ≡ false → cond b (Some y.1) (lookup (is_at (nat_cmp n)) es) ≡ Some other → (lookup (is_at (nat_cmp n)) es ≡ Some other → ⊥) → ⊥
          go true is e on = cc
          go false is e on = on e

-- a ticket that was tested may be kept
pub is_next : (now : List ℕ) (tested n : ℕ) → tested ≡ n → tested ≢ 0 → All (λ k. k < tested) now → IsNext now n
is_next now tested n same some below = subst (IsNext now) same (some, below)
