-- Lists of handles that differ in values alone, and what values name in them: what is found, what is left, and
-- what stands at the same places when a handle comes.
use Rattle.std.proofs.Common.{◌≡◌, ◌∙◌, ℕ, ◌*◌, ◌<◌, ◌==◌, Bool, true, false, ◌&&◌, ◌||◌, not, cond, List, [], ◌∷◌, ◌++◌, filter, map, find, get_or, Option, None, Some, All, refl, ap, sym, arith, eq-eqb, eqb-true}
use Rattle.std.specs.List.{list_any}
use Rattle.std.specs.Option.{option_map, option_map_or, option_and_then}
use Rattle.std.proofs.lemmas.Bool.{ne_eqb}
use Rattle.std.proofs.lemmas.List.{map-append}
use Rattle.std.proofs.lemmas.List.Elements.{All-head, All-tail}
use Rattle.ob_base.specs.Handle.{key_of, without_low_bits}
use Rattle.ob_model.specs.declared.state.Held.{Held}
use Rattle.ob_model.specs.State.{State, held_of}
use Rattle.ob_model.specs.Grants.{IsHandleValue}
use Rattle.ob_model.specs.Closing.{is_handle}
use Rattle.ob_model.specs.Alike.{unvalued_handle, is_named}
use Rattle.ob_model.proofs.Finds.{not_found}

-- of two lists that differ in the values of handles alone, and two tests that pass at the same places: what is
-- found first
pub found_alike : (f k : Held → Bool) (hs is : List Held) → map unvalued_handle hs ≡ map unvalued_handle is → map f hs ≡ map k is
    → option_map unvalued_handle (find f hs) ≡ option_map unvalued_handle (find k is)
found_alike f k [] [] same tests = refl
found_alike f k [] (i ∷ is) same tests = cc
found_alike f k (h ∷ hs) [] same tests = cc
found_alike f k (h ∷ hs) (i ∷ is) same tests =
    let heads : unvalued_handle h ≡ unvalued_handle i = cc in
    let tails : map unvalued_handle hs ≡ map unvalued_handle is = cc in
    let test : f h ≡ k i = cc in
    let others : map f hs ≡ map k is = cc in
    go (f h) (k i) test heads (found_alike f k hs is tails others)
  where
    go : (b c : Bool) → b ≡ c → unvalued_handle h ≡ unvalued_handle i → option_map unvalued_handle (find f hs) ≡ option_map unvalued_handle (find k is)
        → option_map unvalued_handle (cond b (Some h) (find f hs)) ≡ option_map unvalued_handle (cond c (Some i) (find k is))
    go true true e heads rest = ap (λ x. Some x) heads
    go true false e heads rest = cc
    go false true e heads rest = cc
    go false false e heads rest = rest

-- the handle that a value names is found by the test
none_found : (hs : List Held) → find (λ h. false) hs ≡ None
none_found [] = refl
none_found (h ∷ hs) = none_found hs

pub named_found : {K T F I : Type 0} (s : State K T F I) (p value : ℕ) → option_and_then (held_of s p) (key_of value) ≡ find (is_named p value) s.handles
named_found s p value = go (key_of value)
  where
    go : (o : Option ℕ) → option_and_then (held_of s p) o ≡ find (λ h. option_map_or (λ key. is_handle p key h) o false) s.handles
    go None = sym (none_found s.handles)
    go (Some key) = refl

pub found_passes : (f : Held → Bool) (hs : List Held) (h : Held) → find f hs ≡ Some h → f h ≡ true
found_passes f [] h e = cc
found_passes f (x ∷ xs) h e = go (f x) refl e (found_passes f xs h)
  where
    go : (b : Bool) → f x ≡ b → cond b (Some x) (find f xs) ≡ Some h → (find f xs ≡ Some h → f h ≡ true) → f h ≡ true
    go true is e rest = let same : x ≡ h = cc in ap f (sym same) ∙ is
    go false is e rest = rest e

-- it is the one of its process and its value
pub named_is : (p value : ℕ) (h : Held) → is_named p value h ≡ true → (x : Held) → is_handle h.process h.value x ≡ is_named p value x
named_is p value h e x = go (key_of value) e
  where
    both : (a b : Bool) → (a && b) ≡ true → (a ≡ true) × (b ≡ true)
    both true true e = (refl, refl)
    both true false e = cc
    both false b e = cc

    go : (o : Option ℕ) → option_map_or (λ key. is_handle p key h) o false ≡ true → is_handle h.process h.value x ≡ option_map_or (λ key. is_handle p key x) o false
    go None e = cc
    go (Some key) e =
        let parts = both (h.process == p) (h.value == key) e in
        let process : h.process ≡ p = eqb-true h.process p parts.0 in
        let valued : h.value ≡ key = eqb-true h.value key parts.1 in
        λ i. is_handle (process i) (valued i) x

pub named_owner : (p value : ℕ) (h : Held) → is_named p value h ≡ true → h.process ≡ p
named_owner p value h e = go (key_of value) e
  where
    first : (a b : Bool) → (a && b) ≡ true → a ≡ true
    first true b e = refl
    first false b e = cc

    go : (o : Option ℕ) → option_map_or (λ key. is_handle p key h) o false ≡ true → h.process ≡ p
    go None e = cc
    go (Some key) e = eqb-true h.process p (first (h.process == p) (h.value == key) e)

-- ---- tests of two lists that pass at the same places

-- what a test of both leaves, where it passes at the same places
pub kept_places : {X : Type 0} (f k : Held → Bool) (a b : Held → X) (hs is : List Held) → map f hs ≡ map k is → map a hs ≡ map b is → map a (filter f hs) ≡ map b (filter k is)
kept_places f k a b [] [] tests same = refl
kept_places f k a b [] (i ∷ is) tests same = cc
kept_places f k a b (h ∷ hs) [] tests same = cc
kept_places {X = X} f k a b (h ∷ hs) (i ∷ is) tests same =
    let test : f h ≡ k i = cc in
    let others : map f hs ≡ map k is = cc in
    let heads : a h ≡ b i = cc in
    let tails : map a hs ≡ map b is = cc in
    go (f h) (k i) test heads (kept_places f k a b hs is others tails)
  where
    go : (x y : Bool) → x ≡ y → a h ≡ b i → map a (filter f hs) ≡ map b (filter k is) → map a (cond x (h ∷ filter f hs) (filter f hs)) ≡ map b (cond y (i ∷ filter k is) (filter k is))
    go true true e heads rest = λ j. heads j ∷ rest j
    go true false e heads rest = cc
    go false true e heads rest = cc
    go false false e heads rest = rest

map_twice : {X Y : Type 0} (f : Held → X) (k : X → Y) (hs : List Held) → map (λ h. k (f h)) hs ≡ map k (map f hs)
map_twice f k [] = refl
map_twice f k (h ∷ hs) = ap (λ ys. k (f h) ∷ ys) (map_twice f k hs)

pub other_places : (f k : Held → Bool) (hs is : List Held) → map f hs ≡ map k is → map (λ h. not (f h)) hs ≡ map (λ i. not (k i)) is
other_places f k hs is tests = map_twice f not hs ∙ ap (map not) tests ∙ sym (map_twice k not is)

-- a test that doesn't read values passes at the same places
pub plain_places : (f : Held → Bool) (hs is : List Held) → map unvalued_handle hs ≡ map unvalued_handle is → ((h : Held) → f (unvalued_handle h) ≡ f h) → map f hs ≡ map f is
plain_places f hs is same reads =
    (λ i. map (λ h. sym (reads h) i) hs) ∙ map_twice unvalued_handle f hs ∙ ap (map f) same ∙ sym (map_twice unvalued_handle f is) ∙ (λ i. map (λ h. reads h i) is)

-- two tests that are the same on each of a list
pub map_same : (f k : Held → Bool) (hs : List Held) → All (λ h. f h ≡ k h) hs → map f hs ≡ map k hs
map_same f k [] same = refl
map_same f k (h ∷ hs) same = λ i. All-head (λ x. f x ≡ k x) h hs same i ∷ map_same f k hs (All-tail (λ x. f x ≡ k x) h hs same) i

-- nothing passes in either
pub nowhere : (f k : Held → Bool) (hs is : List Held) → map unvalued_handle hs ≡ map unvalued_handle is → All (λ h. f h ≡ false) hs → All (λ h. k h ≡ false) is → map f hs ≡ map k is
nowhere f k hs is same none none_too =
    map_same f (λ h. false) hs none ∙ plain_places (λ h. false) hs is same (λ h. refl) ∙ sym (map_same k (λ h. false) is none_too)

-- what passes somewhere
passes_somewhere : (f : Held → Bool) (hs : List Held) → list_any f hs ≡ list_any (λ b. b) (map f hs)
passes_somewhere f [] = refl
passes_somewhere f (h ∷ hs) = ap (λ b. f h || b) (passes_somewhere f hs)

pub somewhere_too : (f k : Held → Bool) (hs is : List Held) → map f hs ≡ map k is → list_any f hs ≡ true → list_any k is ≡ true
somewhere_too f k hs is tests some = passes_somewhere k is ∙ ap (list_any (λ b. b)) (sym tests) ∙ sym (passes_somewhere f hs) ∙ some

-- what follows from each that passes, where one does
pub from_one : {Goal : Type 0} (f : Held → Bool) (hs : List Held) → All (λ h. f h ≡ true → Goal) hs → list_any f hs ≡ true → Goal
from_one f [] each some = cc
from_one {Goal = Goal} f (h ∷ hs) each some =
    go (f h) some (All-head (λ x. f x ≡ true → Goal) h hs each) (from_one f hs (All-tail (λ x. f x ≡ true → Goal) h hs each))
  where
    go : (b : Bool) → (b || list_any f hs) ≡ true → (b ≡ true → Goal) → (list_any f hs ≡ true → Goal) → Goal
    go true some here rest = here refl
    go false some here rest = rest some

-- ---- a handle that comes

-- it isn't the one that a value names already
pub new_is_unnamed : (q x p v : ℕ) (hs : List Held) (new : Held) → new.process ≡ p → new.value ≡ v → find (is_handle p v) hs ≡ None → list_any (is_named q x) hs ≡ true → is_named q x new ≡ false
new_is_unnamed q x p v hs new process value free some = go (is_named q x new) refl
  where
    go : (b : Bool) → is_named q x new ≡ b → b ≡ false
    go true e =
        from_one (is_named q x) hs
        (λ k d within named.
        let same : is_handle p v (get_or hs k d) ≡ true =
        (λ i. is_handle (sym process i) (sym value i) (get_or hs k d)) ∙ named_is q x new e (get_or hs k d) ∙ named in
        let none : is_handle p v (get_or hs k d) ≡ false = not_found (is_handle p v) hs free k d within in
        cc) some
    go false e = refl

-- places with one handle more
pub one_more_place : (f k : Held → Bool) (hs is : List Held) (new other : Held) → map f hs ≡ map k is → f new ≡ k other → map f (hs ++ new ∷ []) ≡ map k (is ++ other ∷ [])
one_more_place f k hs is new other tests last = map-append f hs (new ∷ []) ∙ (λ i. tests i ++ last i ∷ []) ∙ sym (map-append k is (other ∷ []))

-- a handle value is its own key
pub own_key : (value : ℕ) → IsHandleValue value → key_of value ≡ Some value
own_key value is =
    let n : ℕ = is.0 in
    let four : value ≡ 4 * n = is.1 in
    let some : 0 < n = is.2 in
    let cleared : without_low_bits value ≡ value = omega (arith, four) in
    let other : (value == 0) ≡ false = ne_eqb value 0 (λ zero. omega (arith, zero, four, some)) in
    (λ i. cond (cleared i == 0) None (Some (cleared i))) ∙ ap (λ b. cond b None (Some value)) other

-- a new handle is named by its value alone, and last
pub new_is_named : (p v : ℕ) (hs : List Held) (new : Held) → new.process ≡ p → new.value ≡ v → key_of v ≡ Some v → is_named p v new ≡ true
new_is_named p v hs new process value key =
    ap (λ o. option_map_or (λ key. is_handle p key new) o false) key ∙ (λ i. eq-eqb new.process p process i && (new.value == v)) ∙ eq-eqb new.value v value

pub none_is_named : (p v : ℕ) (hs : List Held) → key_of v ≡ Some v → find (is_handle p v) hs ≡ None → All (λ h. is_named p v h ≡ false) hs
none_is_named p v hs key free = λ k d within.
    ap (λ o. option_map_or (λ key. is_handle p key (get_or hs k d)) o false) key ∙ not_found (is_handle p v) hs free k d within
