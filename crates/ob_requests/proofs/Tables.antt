-- What is kept for variables, and the tables that keep it.
use Rattle.std.proofs.Common.{◌≡◌, ℕ, zero, suc, ◌+◌, ◌<◌, ◌≤◌, Bool, true, false, not, cond, List, [], ◌∷◌, length, Option, Some, None, Result, Ok, Err, MatchResult, IfOk, is_some, sym, ap, ◌∙◌, refl, subst, take, arith}
use Rattle.std.specs.Prelude.{unwrap_or}
use Rattle.std.specs.List.{AllByRecursion, AllZip, IsDistinct, position, position_or_len, slice_get}
use Rattle.std.specs.Map.{lookup, keys_of, values_of}
use Rattle.std.specs.Str.{bytes_eq}
use Rattle.smallvec.specs.SmallVec.{SmallVec}
use Rattle.std.proofs.lemmas.Bool.{true≢false}
use Rattle.std.proofs.lemmas.Map.Keys.{IsDistinct-head, IsDistinct-tail}
use Rattle.std.proofs.lemmas.Slice.Eq.{bytes_eq-Decides}
use Rattle.indexmap.specs.IndexMap.{IndexMap, insert_entry, set_value_at}
use Rattle.indexmap.proofs.MapLemmas.{Found-position}
use Rattle.ob_requests.specs.Variables.{with_number}
use Rattle.ob_requests.specs.Tables.{number_among, number_or, IsIn, IsSlotOf}

abbrev Entries : Type 0 → Type 0
Entries N = List (SmallVec ℕ × N)

abbrev is_variable : List ℕ → SmallVec ℕ → Bool
is_variable variable key = bytes_eq variable key.items

abbrev pub same_key : SmallVec ℕ → SmallVec ℕ → Bool
same_key x y = bytes_eq x.items y.items

-- the variable's first entry is the one of this slot
abbrev IsAt : {N : Type 0} → Entries N → ℕ → List ℕ → Type 0
IsAt [] slot variable = ⊥
IsAt (entry ∷ entries) zero variable = bytes_eq variable entry.0.items ≡ true
IsAt (entry ∷ entries) (suc slot) variable = (bytes_eq variable entry.0.items ≡ false) × IsAt entries slot variable

-- tests of bytes
pub same_bytes : (xs ys : List ℕ) → bytes_eq xs ys ≡ true → xs ≡ ys
same_bytes xs ys e = (bytes_eq-Decides xs ys).0 e

pub own_bytes : (xs ys : List ℕ) → xs ≡ ys → bytes_eq xs ys ≡ true
own_bytes xs ys e = (bytes_eq-Decides xs ys).1 e

pub both_same : (a b : Bool) → (a ≡ true → b ≡ true) → (b ≡ true → a ≡ true) → a ≡ b
both_same true b f g = sym (f refl)
both_same false true f g = g refl
both_same false false f g = refl

pub flipped : (xs ys : List ℕ) → bytes_eq xs ys ≡ bytes_eq ys xs
flipped xs ys = both_same _ _ (λ e. own_bytes ys xs (sym (same_bytes xs ys e))) (λ e. own_bytes xs ys (sym (same_bytes ys xs e)))

apart : (variable w key : List ℕ) → bytes_eq variable key ≡ false → bytes_eq w key ≡ true → bytes_eq variable w ≡ true → ⊥
apart variable w key differs here there =
    let yes : bytes_eq variable key ≡ true = own_bytes variable key (same_bytes variable w there ∙ same_bytes w key here) in cc

alike : (variable w key : List ℕ) → bytes_eq variable key ≡ true → bytes_eq w key ≡ bytes_eq variable w
alike variable w key e = ap (λ x. bytes_eq w x) (sym (same_bytes variable key e)) ∙ flipped w variable

at_zero : (b : Bool) (n : ℕ) → cond (not b) (1 + n) 0 ≡ 0 → b ≡ true
at_zero true n e = refl
at_zero false n e = absurd (omega arith)

at_more : (b : Bool) (n i : ℕ) → cond (not b) (1 + n) 0 ≡ suc i → (b ≡ false) × (n ≡ i)
at_more true n i e = absurd (omega arith)
at_more false n i e = (refl, omega arith)

module _ {N : Type 0} where
  -- a variable that is tested behind an equal one, and behind another
  picks_equal : (a b : Bool) (v x : N) (l : Option N) → b ≡ a → cond b (Some v) l ≡ cond a (Some v) (cond b (Some x) l)
  picks_equal true true v x l e = refl
  picks_equal false false v x l e = refl
  picks_equal true false v x l e = cc
  picks_equal false true v x l e = cc

  picks_apart : (a b : Bool) (v x : N) (l : Option N) → (b ≡ true → a ≡ true → ⊥) → cond b (Some x) (cond a (Some v) l) ≡ cond a (Some v) (cond b (Some x) l)
  picks_apart true true v x l h = absurd (h refl refl)
  picks_apart true false v x l h = refl
  picks_apart false true v x l h = refl
  picks_apart false false v x l h = refl

  swapped : (a b : Bool) (v x y : N) → (a ≡ true → b ≡ true → ⊥) → cond a v (cond b x y) ≡ cond b x (cond a v y)
  swapped true true v x y h = absurd (h refl refl)
  swapped true false v x y h = refl
  swapped false true v x y h = refl
  swapped false false v x y h = refl

  -- a variable's value where the value at a slot was set
  lookup_set : (es : Entries N) (slot : ℕ) (variable : List ℕ) (v : N) (w : List ℕ) → IsAt es slot variable
      → lookup (is_variable w) (set_value_at es slot v) ≡ cond (bytes_eq variable w) (Some v) (lookup (is_variable w) es)
  lookup_set [] slot variable v w at = absurd at
  lookup_set (e ∷ es) zero variable v w at = picks_equal (bytes_eq variable w) (bytes_eq w e.0.items) v e.1 (lookup (is_variable w) es) (alike variable w e.0.items at)
  lookup_set (e ∷ es) (suc slot) variable v w (differs, at) =
      rw (lookup_set es slot variable v w at) (picks_apart (bytes_eq variable w) (bytes_eq w e.0.items) v e.1 (lookup (is_variable w) es) (apart variable w e.0.items differs))

  -- a variable's value where an entry was added
  lookup_added : (es : Entries N) (k : SmallVec ℕ) (v : N) (w : List ℕ)
      → lookup (is_variable w) (insert_entry same_key es k v) ≡ cond (bytes_eq k.items w) (Some v) (lookup (is_variable w) es)
  lookup_added [] k v w = ap (λ b. cond b (Some v) None) (flipped w k.items)
  lookup_added (e ∷ es) k v w = go (bytes_eq k.items e.0.items) refl (lookup_added es k v w)
    where
      go : (b : Bool) → bytes_eq k.items e.0.items ≡ b → lookup (is_variable w) (insert_entry same_key es k v) ≡ cond (bytes_eq k.items w) (Some v) (lookup (is_variable w) es)
          → lookup (is_variable w) (cond b ((e.0, v) ∷ es) (e ∷ insert_entry same_key es k v))
          ≡ cond (bytes_eq k.items w) (Some v) (cond (bytes_eq w e.0.items) (Some e.1) (lookup (is_variable w) es))
      go true q h = picks_equal (bytes_eq k.items w) (bytes_eq w e.0.items) v e.1 (lookup (is_variable w) es) (alike k.items w e.0.items q)
      go false q h = rw h (picks_apart (bytes_eq k.items w) (bytes_eq w e.0.items) v e.1 (lookup (is_variable w) es) (apart k.items w e.0.items q))

  -- a key that stands behind another one is not the same
  not_later : (key : SmallVec ℕ) (es : Entries N) (slot : ℕ) (e : SmallVec ℕ × N) → AllByRecursion (λ k. same_key key k ≡ false) (keys_of es) → slice_get es slot ≡ Some e
      → same_key key e.0 ≡ false
  not_later key [] slot e all at = absurd (true≢false (sym (ap is_some at)))
  not_later key (x ∷ es) zero e all at = ap (λ (o : Option (SmallVec ℕ × N)). same_key key (unwrap_or o x).0) (sym at) ∙ all.0
  not_later key (x ∷ es) (suc slot) e all at = not_later key es slot e all.1 at

  -- the entry of a variable is its first, where no two keys are the same
  first_in : (es : Entries N) (slot : ℕ) (variable : List ℕ) (e : SmallVec ℕ × N) → IsDistinct same_key (keys_of es) → slice_get es slot ≡ Some e → bytes_eq variable e.0.items ≡ true
      → IsAt es slot variable
  first_in [] slot variable e distinct at is = absurd (true≢false (sym (ap is_some at)))
  first_in (x ∷ es) zero variable e distinct at is = ap (λ (o : Option (SmallVec ℕ × N)). bytes_eq variable (unwrap_or o x).0.items) at ∙ is
  first_in (x ∷ es) (suc slot) variable e distinct at is =
      (other (bytes_eq variable x.0.items) refl, first_in es slot variable e (IsDistinct-tail same_key x.0 (keys_of es) distinct) at is)
    where
      later : same_key x.0 e.0 ≡ false
      later = not_later x.0 es slot e (IsDistinct-head same_key x.0 (keys_of es) distinct) at

      other : (b : Bool) → bytes_eq variable x.0.items ≡ b → bytes_eq variable x.0.items ≡ false
      other true q = absurd (apart x.0.items variable e.0.items later (own_bytes variable e.0.items (same_bytes variable e.0.items is)) (own_bytes x.0.items variable (sym (same_bytes variable x.0.items q))))
      other false q = q

  -- and its value stands there
  pub value_there : (es : Entries N) (slot : ℕ) (variable : List ℕ) → IsIn es slot variable → is_some (slice_get (values_of es) slot) ≡ true
  value_there [] slot variable at = absurd (true≢false (sym (ap is_some at.1)))
  value_there (x ∷ es) zero variable at = refl
  value_there (x ∷ es) (suc slot) variable at = value_there es slot variable at

  -- and there is room for the variable
  pub found_in : (es : Entries N) (slot : ℕ) (variable : List ℕ) (e : SmallVec ℕ × N) → slice_get es slot ≡ Some e → bytes_eq variable e.0.items ≡ true
      → is_some (lookup (is_variable variable) es) ≡ true
  found_in [] slot variable e at is = absurd (true≢false (sym (ap is_some at)))
  found_in (x ∷ es) zero variable e at is = ap (λ b. is_some (cond b (Some x.1) (lookup (is_variable variable) es))) (ap (λ (o : Option (SmallVec ℕ × N)). bytes_eq variable (unwrap_or o x).0.items) at ∙ is)
  found_in (x ∷ es) (suc slot) variable e at is = go (bytes_eq variable x.0.items) (found_in es slot variable e at is)
    where
      go : (b : Bool) → is_some (lookup (is_variable variable) es) ≡ true → is_some (cond b (Some x.1) (lookup (is_variable variable) es)) ≡ true
      go true later = refl
      go false later = later

  -- what a variable's first entry keeps
  value_first : (es : Entries N) (slot : ℕ) (variable : List ℕ) (v : N) → IsAt es slot variable → slice_get (values_of es) slot ≡ Some v → lookup (is_variable variable) es ≡ Some v
  value_first [] slot variable v at is = absurd at
  value_first (e ∷ es) zero variable v at is = ap (λ b. cond b (Some e.1) (lookup (is_variable variable) es)) at ∙ is
  value_first (e ∷ es) (suc slot) variable v at is = ap (λ b. cond b (Some e.1) (lookup (is_variable variable) es)) at.0 ∙ value_first es slot variable v at.1 is

  -- room for a variable stays where one is added
  pub added_room : {S : Type 0} (m n : IndexMap (SmallVec ℕ) N S) (k : SmallVec ℕ) (v : N) → n.entries ≡ insert_entry same_key m.entries k v
      → (w : List ℕ) → is_some (lookup (is_variable w) m.entries) ≡ true → is_some (lookup (is_variable w) n.entries) ≡ true
  added_room {S} m n k v e w there =
      ap (λ (es : Entries N). is_some (lookup (is_variable w) es)) e ∙ (ap is_some (lookup_added m.entries k v w) ∙ go (bytes_eq k.items w))
    where
      go : (b : Bool) → is_some (cond b (Some v) (lookup (is_variable w) m.entries)) ≡ true
      go true = refl
      go false = there

  same_values : (f g : List ℕ → N) → ((w : List ℕ) → f w ≡ g w) → f ≡ g
  same_values f g h = λ i w. h w i

  module _ (none : N) where
    chosen : (b : Bool) (v : N) (o : Option N) → unwrap_or (cond b (Some v) o) none ≡ cond b v (unwrap_or o none)
    chosen true v o = refl
    chosen false v o = refl

    pub none_found : (o : Option N) → is_some o ≡ false → unwrap_or o none ≡ none
    none_found None e = refl
    none_found (Some x) e = cc

    -- a slot that is set sets its variable
    pub set_values : {S : Type 0} (m n : IndexMap (SmallVec ℕ) N S) (slot : ℕ) (variable : List ℕ) (v : N) → n.entries ≡ set_value_at m.entries slot v
        → IsDistinct same_key (keys_of m.entries) → IsIn m.entries slot variable → number_or none n ≡ with_number (number_or none m) variable v
    set_values {S} m n slot variable v e distinct is_in = same_values _ _ (λ w.
        ap (λ (es : Entries N). number_among none es w) e
        ∙ (ap (λ (o : Option N). unwrap_or o none) (lookup_set m.entries slot variable v w (first_in m.entries slot variable is_in.0 distinct is_in.1 is_in.2))
        ∙ chosen (bytes_eq variable w) v (lookup (is_variable w) m.entries)))

    -- what stands in a variable's slot is kept for it
    pub kept_there : (es : Entries N) (slot : ℕ) (variable : List ℕ) (v : N) → IsDistinct same_key (keys_of es) → IsIn es slot variable → slice_get (values_of es) slot ≡ Some v
        → number_among none es variable ≡ v
    kept_there es slot variable v distinct is_in at =
        ap (λ (o : Option N). unwrap_or o none) (value_first es slot variable v (first_in es slot variable is_in.0 distinct is_in.1 is_in.2) at)

    -- the number of the entry that stands in a variable's slot is the variable's
    pub number_found : (es : Entries N) (key : SmallVec ℕ) (variable : List ℕ) (v : N) → key.items ≡ variable → lookup (same_key key) es ≡ Some v → v ≡ number_among none es variable
    number_found es key variable v same found = sym (ap (λ (o : Option N). unwrap_or o none) (ap (λ w. lookup (is_variable w) es) (sym same) ∙ found))

    -- a variable without room has no number
    pub none_given_up : (es : Entries N) (variable : List ℕ) → is_some (lookup (is_variable variable) es) ≡ false → number_among none es ≡ with_number (number_among none es) variable none
    none_given_up es variable unknown = same_values _ _ (λ w. go w (bytes_eq variable w) refl)
      where
        go : (w : List ℕ) (b : Bool) → bytes_eq variable w ≡ b → number_among none es w ≡ cond b none (number_among none es w)
        go w true q = rw (sym (same_bytes variable w q)) (none_found (lookup (is_variable variable) es) unknown)
        go w false q = refl

    -- a variable that is added without a number leaves all numbers as they were
    pub added_values : {S : Type 0} (m n : IndexMap (SmallVec ℕ) N S) (k : SmallVec ℕ) (variable : List ℕ) → n.entries ≡ insert_entry same_key m.entries k none → k.items ≡ variable
        → is_some (lookup (is_variable variable) m.entries) ≡ false → number_or none n ≡ number_or none m
    added_values {S} m n k variable e same unknown = same_values _ _ (λ w.
        ap (λ (es : Entries N). number_among none es w) e
        ∙ (ap (λ (o : Option N). unwrap_or o none) (lookup_added m.entries k none w)
        ∙ (chosen (bytes_eq k.items w) none (lookup (is_variable w) m.entries) ∙ kept w (bytes_eq k.items w) refl)))
      where
        kept : (w : List ℕ) (b : Bool) → bytes_eq k.items w ≡ b → cond b none (number_among none m.entries w) ≡ number_among none m.entries w
        kept w true q =
            let here : w ≡ variable = sym (same_bytes k.items w q) ∙ same in
            rw here (sym (none_found (lookup (is_variable variable) m.entries) unknown))
        kept w false q = refl

    -- what the first entries keep for a variable, where one more comes: nothing for its own variable before
    pub not_earlier : (es : Entries N) (slot : ℕ) (e : SmallVec ℕ × N) → IsDistinct same_key (keys_of es) → slice_get es slot ≡ Some e
        → (w : List ℕ) → bytes_eq e.0.items w ≡ true → number_among none (take slot es) w ≡ none
    not_earlier [] slot e distinct at w is = absurd (true≢false (sym (ap is_some at)))
    not_earlier (x ∷ es) zero e distinct at w is = refl
    not_earlier (x ∷ es) (suc slot) e distinct at w is =
        chosen (bytes_eq w x.0.items) x.1 (lookup (is_variable w) (take slot es))
        ∙ (ap (λ b. cond b x.1 (number_among none (take slot es) w)) other
        ∙ not_earlier es slot e (IsDistinct-tail same_key x.0 (keys_of es) distinct) at w is)
      where
        go : (b : Bool) → bytes_eq w x.0.items ≡ b → bytes_eq w x.0.items ≡ false
        go true q = absurd (true≢false (sym (own_bytes x.0.items e.0.items (sym (same_bytes w x.0.items q) ∙ sym (same_bytes e.0.items w is)))
            ∙ not_later x.0 es slot e (IsDistinct-head same_key x.0 (keys_of es) distinct) at))
        go false q = q

        other : bytes_eq w x.0.items ≡ false
        other = go (bytes_eq w x.0.items) refl

    one_taken : (es : Entries N) (slot : ℕ) (e : SmallVec ℕ × N) → IsDistinct same_key (keys_of es) → slice_get es slot ≡ Some e
        → (w : List ℕ) → number_among none (take (suc slot) es) w ≡ cond (bytes_eq e.0.items w) e.1 (number_among none (take slot es) w)
    one_taken [] slot e distinct at w = absurd (true≢false (sym (ap is_some at)))
    one_taken (x ∷ es) zero e distinct at w =
        chosen (bytes_eq w x.0.items) x.1 None ∙ (ap (λ b. cond b x.1 none) (flipped w x.0.items)
        ∙ ap (λ (o : Option (SmallVec ℕ × N)). cond (bytes_eq (unwrap_or o x).0.items w) (unwrap_or o x).1 none) at)
    one_taken (x ∷ es) (suc slot) e distinct at w =
        chosen (bytes_eq w x.0.items) x.1 (lookup (is_variable w) (take (suc slot) es))
        ∙ (ap (λ n. cond (bytes_eq w x.0.items) x.1 n) (one_taken es slot e (IsDistinct-tail same_key x.0 (keys_of es) distinct) at w)
        ∙ (swapped (bytes_eq w x.0.items) (bytes_eq e.0.items w) x.1 e.1 (number_among none (take slot es) w) apart_here
        ∙ ap (λ n. cond (bytes_eq e.0.items w) e.1 n) (sym (chosen (bytes_eq w x.0.items) x.1 (lookup (is_variable w) (take slot es))))))
      where
        apart_here : bytes_eq w x.0.items ≡ true → bytes_eq e.0.items w ≡ true → ⊥
        apart_here p q = true≢false (sym (own_bytes x.0.items e.0.items (sym (same_bytes w x.0.items p) ∙ sym (same_bytes e.0.items w q)))
            ∙ not_later x.0 es slot e (IsDistinct-head same_key x.0 (keys_of es) distinct) at)

    more_taken : (n : ℕ) → suc n ≡ n + 1
    more_taken n = omega arith

    pub taken : (es : Entries N) (slot : ℕ) (e : SmallVec ℕ × N) → IsDistinct same_key (keys_of es) → slice_get es slot ≡ Some e
        → (w : List ℕ) → number_among none (take (slot + 1) es) w ≡ cond (bytes_eq e.0.items w) e.1 (number_among none (take slot es) w)
    taken es slot e distinct at w = subst (λ n. number_among none (take n es) w ≡ cond (bytes_eq e.0.items w) e.1 (number_among none (take slot es) w)) (more_taken slot) (one_taken es slot e distinct at w)

  -- the slot of a variable that was found
  at_first : (es : Entries N) (slot : ℕ) (variable : List ℕ) → position_or_len (is_variable variable) (keys_of es) ≡ slot → slot < length es → IsAt es slot variable
  at_first [] slot variable e l = absurd (omega arith)
  at_first (e ∷ es) zero variable p l = at_zero (bytes_eq variable e.0.items) (position_or_len (is_variable variable) (keys_of es)) p
  at_first (e ∷ es) (suc slot) variable p l =
      let more = at_more (bytes_eq variable e.0.items) (position_or_len (is_variable variable) (keys_of es)) slot p in
      (more.0, at_first es slot variable more.1 (omega arith))

  in_first : (es : Entries N) (slot : ℕ) (variable : List ℕ) → IsAt es slot variable → IsIn es slot variable
  in_first [] slot variable at = absurd at
  in_first (e ∷ es) zero variable at = (e, refl, at)
  in_first (e ∷ es) (suc slot) variable at = in_first es slot variable at.1

  pub at_found : (es : Entries N) (slot : ℕ) (variable : List ℕ) → position (is_variable variable) (keys_of es) ≡ Some slot → IsIn es slot variable
  at_found es slot variable p =
      let found = Found-position (is_variable variable) es slot p in in_first es slot variable (at_first es slot variable found.or_len found.within)

module _ {S N : Type 0} where
  -- what a search for a variable gives is where it stands
  pub slot_found : (m : IndexMap (SmallVec ℕ) N S) (variable : List ℕ) (r : Option ℕ) → r ≡ position (is_variable variable) (keys_of m.entries)
      → is_some r ≡ is_some (lookup (is_variable variable) m.entries) → IsSlotOf m variable r
  slot_found m variable None at found = sym found
  slot_found m variable (Some slot) at found = at_found m.entries slot variable (sym at)

-- ---- a copy

-- for the variables of a clone the same is kept
module _ {N : Type 0} (none : N) (C : SmallVec ℕ → SmallVec ℕ → Type 0) (D : N → N → Type 0) (keys : (x y : SmallVec ℕ) → C x y → x.items ≡ y.items) (values : (x y : N) → D x y → x ≡ y) where
  cloned_values : (es fs : Entries N) → AllZip (λ p q. C p.0 q.0 × D p.1 q.1) es fs → (w : List ℕ) → number_among none fs w ≡ number_among none es w
  cloned_values [] [] a w = refl
  cloned_values [] (f ∷ fs) a w = absurd a
  cloned_values (e ∷ es) [] a w = absurd a
  cloned_values (e ∷ es) (f ∷ fs) ((c, d), a) w =
      rw (← keys e.0 f.0 c, ← values e.1 f.1 d) (go (bytes_eq w e.0.items) (cloned_values es fs a w))
    where
      go : (b : Bool) → number_among none fs w ≡ number_among none es w
          → unwrap_or (cond b (Some e.1) (lookup (is_variable w) fs)) none ≡ unwrap_or (cond b (Some e.1) (lookup (is_variable w) es)) none
      go true later = refl
      go false later = later

  pub cloned : {S : Type 0} (m n : IndexMap (SmallVec ℕ) N S) → AllZip (λ p q. C p.0 q.0 × D p.1 q.1) m.entries n.entries → number_or none n ≡ number_or none m
  cloned {S} m n a = same_values _ _ (λ w. cloned_values m.entries n.entries a w)

pub where_ok : {A E : Type 0} (r : Result A E) (P Q : A → Type 0) (R : E → Type 0) → ((x : A) → P x → Q x) → MatchResult r P R → IfOk r Q
where_ok (Ok x) P Q R more is = more x is
where_ok (Err y) P Q R more is = tt

-- bytes that are cloned are the same
pub cloned_bytes : (xs ys : List ℕ) → AllZip (λ x y. y ≡ x) xs ys → xs ≡ ys
cloned_bytes [] [] a = refl
cloned_bytes [] (y ∷ ys) a = absurd a
cloned_bytes (x ∷ xs) [] a = absurd a
cloned_bytes (x ∷ xs) (y ∷ ys) (same, a) = rw same (ap (λ l. x ∷ l) (cloned_bytes xs ys a))

-- ---- a pass over a table

-- no slot goes
pub same_length : {N : Type 0} (es : Entries N) (slot : ℕ) (v : N) → length (set_value_at es slot v) ≡ length es
same_length [] slot v = refl
same_length (e ∷ es) zero v = refl
same_length (e ∷ es) (suc slot) v = ap suc (same_length es slot v)

module _ {N : Type 0} (Goes : N → N → Type 0) where
  -- what the first entries keep went so, and the others stand as they did
  abbrev pub IsSwept : ℕ → Entries N → Entries N → Type 0
  IsSwept zero old new = new ≡ old
  IsSwept (suc count) [] new = new ≡ []
  IsSwept (suc count) (e ∷ old) [] = ⊥
  IsSwept (suc count) (e ∷ old) (f ∷ new) = (f.0 ≡ e.0) × Goes e.1 f.1 × IsSwept count old new

  more : (n : ℕ) → suc n ≡ n + 1
  more n = omega arith

  -- one more goes: it stays as it is
  pub swept_stays : (slot : ℕ) (old new : Entries N) (v : N) → slice_get (values_of new) slot ≡ Some v → Goes v v → IsSwept slot old new → IsSwept (slot + 1) old new
  swept_stays slot old new v at goes is = subst (λ n. IsSwept n old new) (more slot) (go slot old new at is)
    where
      first : (e f : SmallVec ℕ × N) → f ≡ e → f.1 ≡ v → Goes e.1 f.1
      first e f same here = subst (λ (z : SmallVec ℕ × N). Goes z.1 f.1) same (subst (λ x. Goes x x) (sym here) goes)

      go : (slot : ℕ) (old new : Entries N) → slice_get (values_of new) slot ≡ Some v → IsSwept slot old new → IsSwept (suc slot) old new
      go zero [] new at is = is
      go zero (e ∷ old) [] at is = cc
      go zero (e ∷ old) (f ∷ new) at is =
          let head : f ≡ e = cc in
          let tail : new ≡ old = cc in
          let here : f.1 ≡ v = cc in
          (ap (λ (z : SmallVec ℕ × N). z.0) head, first e f head here, tail)
      go (suc slot) [] new at is = is
      go (suc slot) (e ∷ old) [] at is = absurd is
      go (suc slot) (e ∷ old) (f ∷ new) at (key, went, is) = (key, went, go slot old new at is)

  -- or it is written
  pub swept_goes : (slot : ℕ) (old new : Entries N) (v u : N) → slice_get (values_of new) slot ≡ Some v → Goes v u → IsSwept slot old new
      → IsSwept (slot + 1) old (set_value_at new slot u)
  swept_goes slot old new v u at goes is = subst (λ n. IsSwept n old (set_value_at new slot u)) (more slot) (go slot old new at is)
    where
      first : (e f : SmallVec ℕ × N) → f ≡ e → f.1 ≡ v → Goes e.1 u
      first e f same here =
          let value : e.1 ≡ v = ap (λ (z : SmallVec ℕ × N). z.1) (sym same) ∙ here in
          subst (λ x. Goes x u) (sym value) goes

      go : (slot : ℕ) (old new : Entries N) → slice_get (values_of new) slot ≡ Some v → IsSwept slot old new → IsSwept (suc slot) old (set_value_at new slot u)
      go zero [] [] at is = cc
      go zero [] (f ∷ new) at is = cc
      go zero (e ∷ old) [] at is = cc
      go zero (e ∷ old) (f ∷ new) at is =
          let head : f ≡ e = cc in
          let tail : new ≡ old = cc in
          let here : f.1 ≡ v = cc in
          (ap (λ (z : SmallVec ℕ × N). z.0) head, first e f head here, tail)
      go (suc slot) [] [] at is = refl
      go (suc slot) [] (f ∷ new) at is = cc
      go (suc slot) (e ∷ old) [] at is = absurd is
      go (suc slot) (e ∷ old) (f ∷ new) at (key, went, is) = (key, went, go slot old new at is)

  -- where all did, what is kept for each variable went so
  pub swept_all : (none : N) → Goes none none → (count : ℕ) (old new : Entries N) → length new ≤ count → IsSwept count old new
      → (w : List ℕ) → Goes (number_among none old w) (number_among none new w)
  swept_all none goes zero [] [] few is w = goes
  swept_all none goes zero [] (f ∷ new) few is w = absurd (omega (arith, few))
  swept_all none goes zero (e ∷ old) [] few is w = cc
  swept_all none goes zero (e ∷ old) (f ∷ new) few is w = absurd (omega (arith, few))
  swept_all none goes (suc count) [] [] few is w = goes
  swept_all none goes (suc count) [] (f ∷ new) few is w = cc
  swept_all none goes (suc count) (e ∷ old) [] few is w = absurd is
  swept_all none goes (suc count) (e ∷ old) (f ∷ new) few (key, went, is) w =
      rw key (go (bytes_eq w e.0.items) (swept_all none goes count old new (omega (arith, few)) is w))
    where
      go : (b : Bool) → Goes (number_among none old w) (number_among none new w)
          → Goes (unwrap_or (cond b (Some e.1) (lookup (is_variable w) old)) none) (unwrap_or (cond b (Some f.1) (lookup (is_variable w) new)) none)
      go true later = went
      go false later = later
