-- Lists of handles: one that came is taken back, all that a search for one could find lead to its object,
-- and there are few of all processes where few processes have few each.
use Rattle.std.proofs.Common.{◌≡◌, ℕ, zero, suc, ◌+◌, ◌*◌, ◌≤◌, ◌==◌, Bool, true, false, ◌&&◌, ◌||◌, not, cond, List, [], ◌∷◌, ◌++◌, length, get_or, filter, find, All, None, Some, is_some, refl, ap, ◌∙◌, sym, subst, arith, eqb-true, eq-eqb}
use Rattle.std.specs.Prelude.{count_by, nat_lt}
use Rattle.std.specs.List.{AllPairs, list_any}
use Rattle.std.proofs.lemmas.Bool.{and_parts}
use Rattle.std.proofs.lemmas.Bool.Decides.{nat_tests}
use Rattle.std.proofs.lemmas.List.Elements.{All-nil}
use Rattle.std.proofs.lemmas.List.Filters.{length-filter_both}
use Rattle.std.proofs.lemmas.List.Sums.{length-filter, sum_by-append}
use Rattle.ob_model.specs.declared.state.Held.{Held}
use Rattle.ob_model.specs.declared.state.Process.{Process}
use Rattle.ob_model.specs.Closing.{is_handle}
use Rattle.ob_model.proofs.Finds.{All-kept}

-- a handle is the one of its process and value
pub is_itself : (p value : ℕ) → ((p == p) && (value == value)) ≡ true
is_itself p value = λ i. eq-eqb p p refl i && eq-eqb value value refl i

-- a handle that came under an unused value is taken back
pub taken_back : (p value : ℕ) (hs : List Held) (h : Held) → find (is_handle p value) hs ≡ None → is_handle p value h ≡ true
    → filter (λ k. not (is_handle p value k)) (hs ++ h ∷ []) ≡ hs
taken_back p value [] h none is = ap (λ (b : Bool). cond (not b) (h ∷ []) []) is
taken_back p value (k ∷ hs) h none is = go (is_handle p value k) none (λ none. taken_back p value hs h none is)
  where
    left : List Held
    left = filter (λ x. not (is_handle p value x)) (hs ++ h ∷ [])

    go : (b : Bool) → cond b (Some k) (find (is_handle p value) hs) ≡ None → (find (is_handle p value) hs ≡ None → left ≡ hs) → cond (not b) (k ∷ left) left ≡ k ∷ hs
    go true none rest = cc
    go false none rest = ap (λ ys. k ∷ ys) (rest none)

-- what a search finds passes its test
pub found_passes : {X : Type 0} (test : X → Bool) (xs : List X) (x : X) → find test xs ≡ Some x → test x ≡ true
found_passes test [] x e = cc
found_passes test (y ∷ ys) x e = go (test y) refl e (found_passes test ys x)
  where
    go : (b : Bool) → test y ≡ b → cond b (Some y) (find test ys) ≡ Some x → (find test ys ≡ Some x → test x ≡ true) → test x ≡ true
    go true f e rest = let same : y ≡ x = cc in ap test (sym same) ∙ f
    go false f e rest = rest e

-- of handles of which no two of a process have one value, all that a search for one could find lead to its
-- object
pub only_handle : (p value : ℕ) (hs : List Held) (h : Held) → AllPairs (λ a b. is_handle a.process a.value b ≡ false) hs → find (is_handle p value) hs ≡ Some h
    → All (λ k. is_handle p value k ≡ true → k.object ≡ h.object) hs
only_handle p value [] h differ e = All-nil (λ k. is_handle p value k ≡ true → k.object ≡ h.object)
only_handle p value (x ∷ hs) h differ e =
    go (is_handle p value x) refl e (only_handle p value hs h (λ i j d less below. differ (suc i) (suc j) d (omega (arith, less)) (omega (arith, below))))
  where
    alike : (k : Held) → is_handle p value x ≡ true → is_handle p value k ≡ true → is_handle x.process x.value k ≡ true
    alike k f is =
        let mine = and_parts (x.process == p) (x.value == value) f in
        subst (λ (q : ℕ × ℕ). is_handle q.0 q.1 k ≡ true) (λ i. (sym (eqb-true x.process p mine.0) i, sym (eqb-true x.value value mine.1) i)) is

    go : (b : Bool) → is_handle p value x ≡ b → cond b (Some x) (find (is_handle p value) hs) ≡ Some h
        → (find (is_handle p value) hs ≡ Some h → All (λ k. is_handle p value k ≡ true → k.object ≡ h.object) hs)
        → All (λ k. is_handle p value k ≡ true → k.object ≡ h.object) (x ∷ hs)
    go true f e rest zero d below = λ _. let same : x ≡ h = cc in ap (λ (k : Held). k.object) same
    go true f e rest (suc k) d below = λ other.
        let one : is_handle x.process x.value (get_or hs k d) ≡ true = alike (get_or hs k d) f other in
        let apart : is_handle x.process x.value (get_or hs k d) ≡ false = differ 0 (suc k) d (omega arith) below in
        cc
    go false f e rest zero d below = λ is. cc
    go false f e rest (suc k) d below = rest e k d (omega (arith, below))

-- some pass a test exactly where their count isn't 0
some_more : (n : ℕ) → nat_lt 0 (suc n) ≡ true
some_more n = grind (arith, nat_tests)

any_kept : {X : Type 0} (test : X → Bool) (xs : List X) → nat_lt 0 (length (filter test xs)) ≡ list_any test xs
any_kept test [] = refl
any_kept test (x ∷ xs) = go (test x) (any_kept test xs)
  where
    go : (b : Bool) → nat_lt 0 (length (filter test xs)) ≡ list_any test xs → nat_lt 0 (length (cond b (x ∷ filter test xs) (filter test xs))) ≡ (b || list_any test xs)
    go true rest = some_more (length (filter test xs))
    go false rest = rest

pub any_counted : {X : Type 0} (test : X → Bool) (xs : List X) → nat_lt 0 (count_by test xs) ≡ list_any test xs
any_counted test xs = ap (nat_lt 0) (sym (length-filter test xs)) ∙ any_kept test xs

-- of two lists one after the other all are counted
pub count-append : {X : Type 0} (test : X → Bool) (xs ys : List X) → count_by test (xs ++ ys) ≡ count_by test xs + count_by test ys
count-append test xs ys = sum_by-append (λ x. cond (test x) 1 0) xs ys

-- counts of what a filter left are no greater
fewer_left : {X : Type 0} (test keeps : X → Bool) (xs : List X) → length (filter test (filter keeps xs)) ≤ length (filter test xs)
fewer_left test keeps [] = omega arith
fewer_left test keeps (x ∷ xs) = go (keeps x) (test x) refl (fewer_left test keeps xs)
  where
    go : (k t : Bool) → test x ≡ t → length (filter test (filter keeps xs)) ≤ length (filter test xs)
        → length (filter test (cond k (x ∷ filter keeps xs) (filter keeps xs))) ≤ length (cond t (x ∷ filter test xs) (filter test xs))
    go true true e rest = subst (λ (b : Bool). length (cond b (x ∷ filter test (filter keeps xs)) (filter test (filter keeps xs))) ≤ suc (length (filter test xs))) (sym e) (omega (arith, rest))
    go true false e rest = subst (λ (b : Bool). length (cond b (x ∷ filter test (filter keeps xs)) (filter test (filter keeps xs))) ≤ length (filter test xs)) (sym e) rest
    go false true e rest = omega (arith, rest)
    go false false e rest = rest

pub count_left : {X : Type 0} (test keeps : X → Bool) (xs : List X) → count_by test (filter keeps xs) ≤ count_by test xs
count_left test keeps xs =
    let fewer = fewer_left test keeps xs in
    let one = length-filter test (filter keeps xs) in
    let all = length-filter test xs in
    omega (arith, fewer, one, all)

-- live processes, of which none has more than 65,535 handles, have no more than that times their number
pub few_of_all : (ps : List Process) (hs : List Held) → All (λ h. is_some (find (λ x. x.number == h.process) ps) ≡ true) hs
    → ((p : ℕ) → count_by (λ h. h.process == p) hs ≤ 65535) → length hs ≤ length ps * 65535
few_of_all [] [] live few = omega arith
few_of_all [] (h ∷ hs) live few = let none : false ≡ true = live 0 h (omega arith) in cc
few_of_all (x ∷ ps) hs live few =
    let others = filter (λ h. not (h.process == x.number)) hs in
    let rest : length others ≤ length ps * 65535 = few_of_all ps others
    (All-kept (λ h. not (h.process == x.number)) (λ h. is_some (find (λ y. y.number == h.process) (x ∷ ps)) ≡ true) (λ h. is_some (find (λ y. y.number == h.process) ps) ≡ true) another hs live)
    (λ p. let less = count_left (λ h. h.process == p) (λ h. not (h.process == x.number)) hs in let most = few p in omega (arith, less, most)) in
    let own = length-filter (λ h. h.process == x.number) hs in
    let all = length-filter_both (λ h. h.process == x.number) (λ h. not (h.process == x.number)) (λ h. refl) hs in
    let most = few x.number in
    omega (arith, rest, own, all, most)
  where
    another : (h : Held) → not (h.process == x.number) ≡ true → is_some (find (λ y. y.number == h.process) (x ∷ ps)) ≡ true → is_some (find (λ y. y.number == h.process) ps) ≡ true
    another h apart some = go (x.number == h.process) refl some
      where
        go : (b : Bool) → (x.number == h.process) ≡ b → is_some (cond b (Some x) (find (λ y. y.number == h.process) ps)) ≡ true → is_some (find (λ y. y.number == h.process) ps) ≡ true
        go true e some =
            let same : (h.process == x.number) ≡ true = eq-eqb h.process x.number (sym (eqb-true x.number h.process e)) in
            cc
        go false e some = some
