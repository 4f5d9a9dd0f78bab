-- Handles that a process begins with: their values, their orders, and what is left without them.
use Rattle.std.proofs.Common.{◌≡◌, ◌≢◌, ◌∙◌, ℕ, suc, ◌+◌, ◌<◌, ◌==◌, ◌&&◌, Bool, true, false, not, cond, List, [], ◌∷◌, ◌++◌, length, filter, find, get_or, map, take, Option, None, Some, Result, Ok, Err, All, refl, ap, sym, subst, arith, eq-eqb}
use Rattle.std.specs.Prelude.{AllPairs}
use Rattle.std.specs.Result.{IfOk}
use Rattle.std.specs.Option.{is_some}
use Rattle.std.proofs.Common.{Vec}
use Rattle.std.proofs.lemmas.Bool.{ne_eqb}
use Rattle.std.proofs.lemmas.List.{append-nil, get_or-take, get_or_default, length-take-le}
use Rattle.std.proofs.Math.Seq.{take-suc}
use Rattle.std.proofs.lemmas.List.Elements.{All-nil, All-cons, All-head, All-tail, All-append, All-weaker, filter-append}
use Rattle.ob_model.specs.declared.state.Held.{Held}
use Rattle.ob_model.specs.declared.state.Process.{Process}
use Rattle.ob_model.specs.Closing.{is_handle}
use Rattle.ob_model.proofs.Finds.{filter_all, filter_none}
use Rattle.ob_processes.specs.Handed.{handed_on}
use Rattle.ob_processes.specs.Running.{Running, with_map}
use Rattle.ob_processes.proofs.Entries.{is_of}

-- what holds of the list that was asked for holds of what was given
pub of_list : {X Z E : Type 0} (P : List X → Type 0) (r : Result (Vec X Z) E) (xs : List X) → IfOk r (λ list. list.items ≡ xs) → P xs → IfOk r (λ list. P list.items)
of_list P (Ok list) xs same holds = subst P (sym same) holds
of_list P (Err e) xs same holds = tt

-- ---- one more

pub one_more : (p n : ℕ) (hs : List Held) (h : Held)
    → handed_on p n (hs ++ h ∷ []) ≡ handed_on p n hs ++ record { process = p; value = h.value; object = h.object; inherit = true; order = n + length hs } ∷ []
one_more p n [] h = ap (λ m. record { process = p; value = h.value; object = h.object; inherit = true; order = m } ∷ []) (omega arith)
one_more p n (k ∷ hs) h =
    ap (λ xs. record { process = p; value = k.value; object = k.object; inherit = true; order = n } ∷ xs)
    (one_more p (n + 1) hs h
    ∙ ap (λ m. handed_on p (n + 1) hs ++ record { process = p; value = h.value; object = h.object; inherit = true; order = m } ∷ []) (omega arith))

-- all are of the process, below the next order
pub all_own : (p n : ℕ) (hs : List Held) → All (λ h. is_of p h ≡ true) (handed_on p n hs)
all_own p n [] = All-nil (λ h. is_of p h ≡ true)
all_own p n (h ∷ hs) = All-cons (λ k. is_of p k ≡ true) _ (handed_on p (n + 1) hs) (eq-eqb p p refl) (all_own p (n + 1) hs)

pub all_below : (p n : ℕ) (hs : List Held) → All (λ h. h.order < n + length hs) (handed_on p n hs)
all_below p n [] = All-nil (λ h. h.order < n + 0)
all_below p n (h ∷ hs) =
    All-cons (λ k. k.order < n + length (h ∷ hs)) _ (handed_on p (n + 1) hs) (omega arith)
    (All-weaker (λ k. k.order < n + 1 + length hs) (λ k. k.order < n + length (h ∷ hs)) (λ k less. omega (arith, less)) (handed_on p (n + 1) hs) (all_below p (n + 1) hs))

-- a value that is none of theirs is unused
none_there : {X : Type 0} (test : X → Bool) (xs : List X) → All (λ x. test x ≡ false) xs → find test xs ≡ None
none_there test [] none = refl
none_there {X} test (x ∷ xs) none = go (test x) (All-head (λ y. test y ≡ false) x xs none) (none_there test xs (All-tail (λ y. test y ≡ false) x xs none))
  where
    go : (t : Bool) → t ≡ false → find test xs ≡ None → cond t (Some x) (find test xs) ≡ None
    go true e rest = cc
    go false e rest = rest

pub other_values : (p n : ℕ) (hs : List Held) (value : ℕ) → All (λ h. h.value ≢ value) hs → All (λ h. is_handle p value h ≡ false) (handed_on p n hs)
other_values p n [] value others = All-nil (λ h. is_handle p value h ≡ false)
other_values p n (h ∷ hs) value others =
    All-cons (λ k. is_handle p value k ≡ false) _ (handed_on p (n + 1) hs)
    (neither (p == p) (h.value == value) (ne_eqb h.value value (All-head (λ k. k.value ≢ value) h hs others)))
    (other_values p (n + 1) hs value (All-tail (λ k. k.value ≢ value) h hs others))
  where
    neither : (a b : Bool) → b ≡ false → (a && b) ≡ false
    neither true b e = e
    neither false b e = refl

-- no handle of a process has any value
no_handle : (p value : ℕ) (hs : List Held) → All (λ h. is_of p h ≡ false) hs → All (λ h. is_handle p value h ≡ false) hs
no_handle p value hs alone = All-weaker (λ h. is_of p h ≡ false) (λ h. is_handle p value h ≡ false) (λ h e. ap (λ b. b && (h.value == value)) e) hs alone

module _ (p n : ℕ) (old hs : List Held) (alone : All (λ h. is_of p h ≡ false) old) where
  pub unused : (value : ℕ) → All (λ h. h.value ≢ value) hs → find (is_handle p value) (old ++ handed_on p n hs) ≡ None
  unused value others =
      none_there (is_handle p value) (old ++ handed_on p n hs)
      (All-append (λ h. is_handle p value h ≡ false) old (handed_on p n hs) (no_handle p value old alone) (other_values p n hs value others))

  pub newest : All (λ h. h.order < n) old → All (λ h. h.order < n + length hs) (old ++ handed_on p n hs)
  newest below =
      All-append (λ h. h.order < n + length hs) old (handed_on p n hs)
      (All-weaker (λ h. h.order < n) (λ h. h.order < n + length hs) (λ h less. omega (arith, less)) old below) (all_below p n hs)

  -- what is left without those of the process
  pub others_left : filter (λ h. not (is_of p h)) (old ++ handed_on p n hs) ≡ old
  others_left =
      filter-append (λ h. not (is_of p h)) old (handed_on p n hs)
      ∙ ap (λ xs. xs ++ filter (λ h. not (is_of p h)) (handed_on p n hs)) (filter_all (λ h. not (is_of p h)) old (All-weaker (λ h. is_of p h ≡ false) (λ h. not (is_of p h) ≡ true) (λ h e. ap not e) old alone))
      ∙ ap (λ xs. old ++ xs) (filter_none (λ h. not (is_of p h)) (handed_on p n hs) (All-weaker (λ h. is_of p h ≡ true) (λ h. not (is_of p h) ≡ false) (λ h e. ap not e) (handed_on p n hs) (all_own p n hs)))
      ∙ append-nil old

-- ---- of some that are passed one after another, the one whose turn it is
module _ (all : List Held) (k : ℕ) (x : Held) (within : k < length all) (is : x ≡ get_or all k x) where
  pub passed : take (k + 1) all ≡ take k all ++ x ∷ []
  passed = ap (λ n. take n all) {y = suc k} (omega arith) ∙ take-suc all k x within ∙ ap (λ (h : Held). take k all ++ h ∷ []) (sym is)

  pub so_far : length (take k all) ≡ k
  so_far = length-take-le k all (omega (arith, within))

  pub others_before : AllPairs (λ a b. a.value ≢ b.value) all → All (λ h. h.value ≢ x.value) (take k all)
  others_before apart = λ i d below same.
      let before : i < k = subst (λ (n : ℕ). i < n) so_far below in
      apart i k d before within (ap (λ (h : Held). h.value) (sym (get_or-take k all i d before)) ∙ same ∙ ap (λ (h : Held). h.value) (is ∙ get_or_default all k x d within))

-- ---- none is taken

-- where none is found none is left out
pub none_goes : (p : ℕ) (hs : List Held) → find (is_of p) hs ≡ None → filter (λ k. not (is_of p k)) hs ≡ hs
none_goes p hs none = filter_all (λ k. not (is_of p k)) hs (λ k d within. ap not (none_found p hs none k d within))
  where
    none_found : (p : ℕ) (hs : List Held) → find (is_of p) hs ≡ None → All (λ k. is_of p k ≡ false) hs
    none_found p [] none = All-nil (λ k. is_of p k ≡ false)
    none_found p (k ∷ hs) none = go (is_of p k) refl none (none_found p hs)
      where
        go : (t : Bool) → is_of p k ≡ t → cond t (Some k) (find (is_of p) hs) ≡ None → (find (is_of p) hs ≡ None → All (λ x. is_of p x ≡ false) hs) → All (λ x. is_of p x ≡ false) (k ∷ hs)
        go true own none more = cc
        go false other none more = All-cons (λ x. is_of p x ≡ false) k hs other (more none)

-- ---- a process that begins and is taken away again
pub begun_live : (p : ℕ) (x : Process) (xs : List Process) → x.number ≡ p → is_some (find (λ y. y.number == p) (xs ++ x ∷ [])) ≡ true
begun_live p x [] same = ap (λ b. is_some (cond b (Some x) None)) (eq-eqb x.number p same)
begun_live p x (y ∷ xs) same = go (y.number == p) (begun_live p x xs same)
  where
    go : (t : Bool) → is_some (find (λ z. z.number == p) (xs ++ x ∷ [])) ≡ true → is_some (cond t (Some y) (find (λ z. z.number == p) (xs ++ x ∷ []))) ≡ true
    go true more = refl
    go false more = more

pub begun_back : (p : ℕ) (map : Option ℕ) (xs : List Process) → All (λ x. x.number < p) xs
    → filter (λ x. not (x.number == p)) (xs ++ record { number = p; map = map } ∷ []) ≡ xs
begun_back p map xs below =
    filter-append (λ x. not (x.number == p)) xs (record { number = p; map = map } ∷ [])
    ∙ ap (λ ys. ys ++ filter (λ (x : Process). not (x.number == p)) (record { number = p; map = map } ∷ []))
    (filter_all (λ x. not (x.number == p)) xs (All-weaker (λ x. x.number < p) (λ x. not (x.number == p) ≡ true) (λ x less. ap not (ne_eqb x.number p (λ same. omega (arith, less, same)))) xs below))
    ∙ ap (λ b. xs ++ cond (not b) (record { number = p; map = map } ∷ []) []) (eq-eqb p p refl)
    ∙ append-nil xs

-- and has the map that it is given
pub begun_mapped : (p : ℕ) (m : Option ℕ) (xs : List Process) → All (λ x. x.number < p) xs
    → map (with_map p m) (xs ++ record { number = p; map = None } ∷ []) ≡ xs ++ record { number = p; map = m } ∷ []
begun_mapped p m [] below = ap (λ b. cond b (record { number = p; map = m }) (record { number = p; map = None }) ∷ []) (eq-eqb p p refl)
begun_mapped p m (x ∷ xs) below =
    ap (λ b. cond b (record x { map = m }) x ∷ map (with_map p m) (xs ++ record { number = p; map = None } ∷ []))
    (ne_eqb x.number p (λ same. let less : x.number < p = All-head (λ (y : Process). y.number < p) x xs below in omega (arith, less, same)))
    ∙ ap (λ ys. x ∷ ys) (begun_mapped p m xs (All-tail (λ y. y.number < p) x xs below))

pub alike : (a b : Running) → a.processes ≡ b.processes → a.handles ≡ b.handles → a ≡ b
alike a b processes handles = λ i. record { processes = processes i; handles = handles i }
