-- The set's value and the inner values after a close, after a process begins, and after one ends.
use Rattle.std.proofs.Common.{◌≡◌, ◌∙◌, ℕ, suc, ◌+◌, ◌==◌, Bool, true, false, cond, not, ◌&&◌, ◌||◌, if◌then◌else◌, List, [], ◌∷◌, ◌++◌, append-nil, append_assoc, length, get_or, filter, map, All, Option, None, Some, refl, ap, sym, subst, arith, eqb-true, eq-eqb}
use Rattle.std.specs.Prelude.{AllPairs, count_by}
use Rattle.std.specs.List.{list_any}
use Rattle.std.specs.Option.{option_map_or}
use Rattle.std.proofs.lemmas.Bool.{false≢true, ne_eqb, and_parts}
use Rattle.std.proofs.lemmas.List.{map-append}
use Rattle.std.proofs.lemmas.List.Elements.{All-nil, All-cons, All-append, All-head, All-tail, filter-append}
use Rattle.std.proofs.lemmas.List.Kept.{AllPairs-filter}
use Rattle.std.proofs.lemmas.List.Sums.{sum_by-cons, length-filter}
use Rattle.ob_model.specs.declared.state.Held.{Held}
use Rattle.ob_model.specs.declared.terms.Reason.TheVariants.{Inherited}
use Rattle.ob_model.specs.State.{State, held_of, handle_count, handle_count_in}
use Rattle.ob_model.specs.Procedures.{Procedures}
use Rattle.ob_model.specs.Settle.{has_handle, settle}
use Rattle.ob_model.specs.Grants.{open_refusal, with_open, with_handle}
use Rattle.ob_model.specs.Closing.{is_handle, without_handle, closed_handle}
use Rattle.ob_model.specs.Processes.{handles_in, inherited_from, with_child, inherits_one, inherits, begun, closed_in_turn, ended}
use Rattle.ob_model.specs.Sound.{IsSound}
use Rattle.ob_model.specs.Calls.{Call, Opened, Closed, is_of_set, closes, handles_to, calls_of_child, closes_at_end}
use Rattle.ob_model.proofs.Finds.{filter_all, filter_none}
use Rattle.ob_model.proofs.AlikeHandles.{found_passes}
use Rattle.ob_model.proofs.Ended.{live_numbered}
use Rattle.ob_laws.specs.CallsMade.{inside}
use Rattle.ob_laws.proofs.SetCounts.{of_set-closed, of_set-settle}
use Rattle.ob_laws.proofs.ClosedHandles.{of_set-closed_all}
use Rattle.ob_laws.proofs.InheritedHandles.{of_set-inherits}
use Rattle.ob_laws.proofs.Follows.{Follows, follows_still, follows_then, follows_told, open_follows, close_follows}
use Rattle.ob_laws.proofs.RisingNumbers.{Rises, rises_closed, rises_closed_all, rises_inherits}
use Rattle.ob_laws.proofs.MovedSteps.{Moves, moves_told, unmade_moves}

-- nothing, wherever it is
nothing : (b : Bool) → ◌≡◌ {A = List Call} [] (if b then [] else [])
nothing true = refl
nothing false = refl

-- calls on an object of the set at one number, and on the object of that number
of_number : {K T F I : Type 0} (s : State K T F I) (m o : ℕ) (call other : Call) → ((m == o) ≡ true → call ≡ other)
    → (if is_of_set s m && (m == o) then call ∷ [] else []) ≡ (if is_of_set s o && (m == o) then other ∷ [] else [])
of_number s m o call other same = go (m == o) refl
  where
    go : (b : Bool) → (m == o) ≡ b → (if is_of_set s m && b then call ∷ [] else []) ≡ (if is_of_set s o && b then other ∷ [] else [])
    go true e = λ i. if is_of_set s (eqb-true m o e i) && true then same e i ∷ [] else []
    go false e =
        elim (is_of_set s m) as (λ b. ◌≡◌ {A = List Call} (if b && false then call ∷ [] else []) []) [ true ↦ refl | false ↦ refl ]
        ∙ sym (elim (is_of_set s o) as (λ b. ◌≡◌ {A = List Call} (if b && false then other ∷ [] else []) []) [ true ↦ refl | false ↦ refl ])

module _ {K T F I : Type 0} (g : Procedures K T F I) where
  -- ---- a close

  handle_follows : (s : State K T F I) (h : Held) → let w = without_handle s h.process h.value in
      Follows g (inside s) (inside (closed_handle g s h)) (λ o. if is_of_set s h.object && (h.object == o) then Closed (handle_count_in w h.process h.object) (handle_count w h.object) ∷ [] else [])
  handle_follows s h = close_follows g (without_handle s h.process h.value) h.process h.object

  pub close_moves : (s : State K T F I) (p value : ℕ) (h : Held) → Rises s → held_of s p value ≡ Some h
      → let t = settle g (closed_handle g s h) in Moves g s t (λ o. None) (λ o. if is_of_set s o && (h.object == o) then Closed (handle_count_in t p o) (handle_count t o) ∷ [] else [])
  close_moves s p value h rises found =
      moves_told g s (settle g u) (λ o. None) (λ o. if is_of_set s h.object && (h.object == o) then Closed (handle_count_in w h.process h.object) (handle_count w h.object) ∷ [] else [])
      (λ o. if is_of_set s o && (h.object == o) then Closed (handle_count_in w p o) (handle_count w o) ∷ [] else [])
      (λ o. of_number s h.object o (Closed (handle_count_in w h.process h.object) (handle_count w h.object)) (Closed (handle_count_in w p o) (handle_count w o))
      (λ here i. Closed (handle_count_in w (process i) (eqb-true h.object o here i)) (handle_count w (eqb-true h.object o here i))))
      (unmade_moves g s u (λ o. if is_of_set s h.object && (h.object == o) then Closed (handle_count_in w h.process h.object) (handle_count w h.object) ∷ [] else [])
      (rises_closed g s h rises) (λ o. sym (of_set-closed g s h o)) (handle_follows s h))
    where
      w : State K T F I
      w = without_handle s h.process h.value

      u : State K T F I
      u = closed_handle g s h

      process : h.process ≡ p
      process = eqb-true h.process p (and_parts (h.process == p) (h.value == value) (found_passes (is_handle p value) s.handles h found)).0

-- ---- all handles of a process

-- no two handles are of one process and value
abbrev AreDistinct : List Held → Type 0
AreDistinct hs = AllPairs (λ a b. is_handle a.process a.value b ≡ false) hs

at_split : {X : Type 0} (P : X → Type 0) (before : List X) (x : X) (behind : List X) → All P (before ++ x ∷ behind) → P x
at_split P [] x behind all = All-head P x behind all
at_split P (y ∷ before) x behind all = at_split P before x behind (All-tail P y (before ++ x ∷ behind) all)

other_way : (a b : Held) → is_handle a.process a.value b ≡ false → is_handle b.process b.value a ≡ false
other_way a b e = go (is_handle b.process b.value a) refl
  where
    go : (c : Bool) → is_handle b.process b.value a ≡ c → c ≡ false
    go true is =
        let parts = and_parts (a.process == b.process) (a.value == b.value) is in
        absurd (false≢true (sym e
        ∙ (λ i. eq-eqb b.process a.process (sym (eqb-true a.process b.process parts.0)) i && (b.value == a.value)) ∙ eq-eqb b.value a.value (sym (eqb-true a.value b.value parts.1))))
    go false is = refl

-- taking one of them leaves the others
taken_out : (before : List Held) (h : Held) (behind : List Held) → AreDistinct (before ++ h ∷ behind) → filter (λ x. not (is_handle h.process h.value x)) (before ++ h ∷ behind) ≡ before ++ behind
taken_out [] h behind distinct =
    ap (λ b. cond (not b) (h ∷ filter (λ x. not (is_handle h.process h.value x)) behind) (filter (λ x. not (is_handle h.process h.value x)) behind))
    ((λ i. eq-eqb h.process h.process refl i && (h.value == h.value)) ∙ eq-eqb h.value h.value refl)
    ∙ filter_all (λ x. not (is_handle h.process h.value x)) behind (λ k d within. ap not (distinct 0 (suc k) d (omega arith) (omega (arith, within))))
taken_out (x ∷ before) h behind distinct =
    ap (λ b. cond (not b) (x ∷ filter (λ y. not (is_handle h.process h.value y)) (before ++ h ∷ behind)) (filter (λ y. not (is_handle h.process h.value y)) (before ++ h ∷ behind)))
    (other_way x h (at_split (λ y. is_handle x.process x.value y ≡ false) before h behind (λ k d within. distinct 0 (suc k) d (omega arith) (omega (arith, within)))))
    ∙ ap (λ ys. x ∷ ys) (taken_out before h behind (λ i j d before within. distinct (suc i) (suc j) d (omega (arith, before)) (omega (arith, within))))

-- what passes two tests
count_and : {X : Type 0} (one other : X → Bool) (xs : List X) → count_by (λ x. one x && other x) xs ≡ count_by one (filter other xs)
count_and one other [] = refl
count_and {X} one other (x ∷ xs) = sum_by-cons (λ y. cond (one y && other y) 1 0) x xs ∙ go (other x) (count_and one other xs)
  where
    go : (b : Bool) → count_by (λ y. one y && other y) xs ≡ count_by one (filter other xs)
        → cond (one x && b) 1 0 + count_by (λ y. one y && other y) xs ≡ count_by one (cond b (x ∷ filter other xs) (filter other xs))
    go true rest =
        (λ i. elim (one x) as (λ b. ◌≡◌ {A = ℕ} (cond (b && true) 1 0) (cond b 1 0)) [ true ↦ refl | false ↦ refl ] i + rest i) ∙ sym (sum_by-cons (λ y. cond (one y) 1 0) x (filter other xs))
    go false rest =
        (λ i. elim (one x) as (λ b. ◌≡◌ {A = ℕ} (cond (b && false) 1 0) 0) [ true ↦ refl | false ↦ refl ] i + rest i) ∙ omega arith

module _ {K T F I : Type 0} (g : Procedures K T F I) (p : ℕ) where
  abbrev stays : Held → Bool
  stays h = not (h.process == p)

  abbrev to_one : ℕ → Held → Bool
  to_one o h = h.object == o

  -- the closes that are told of an object of the set, where its handles that were passed stay, and the rest is to come
  abbrev closes_of : State K T F I → List Held → List Held → ℕ → List Call
  closes_of s passed rest o = if is_of_set s o then closes stays (filter (to_one o) passed) (filter (to_one o) rest) else []

  -- a handle of another process is passed
  passed_told : (s : State K T F I) (passed : List Held) (h : Held) (hs : List Held) (o : ℕ) → (h.process == p) ≡ false
      → closes_of s (passed ++ h ∷ []) hs o ≡ closes_of s passed (h ∷ hs) o
  passed_told s passed h hs o other =
      ap (λ xs. if is_of_set s o then closes stays xs (filter (to_one o) hs) else []) (filter-append (to_one o) passed (h ∷ []))
      ∙ ap (λ calls. if is_of_set s o then calls else []) (go (h.object == o))
    where
      go : (b : Bool) → closes stays (filter (to_one o) passed ++ cond b (h ∷ []) []) (filter (to_one o) hs) ≡ closes stays (filter (to_one o) passed) (cond b (h ∷ filter (to_one o) hs) (filter (to_one o) hs))
      go true =
          sym (ap (λ b. if not b then closes stays (filter (to_one o) passed ++ h ∷ []) (filter (to_one o) hs)
          else Closed (count_by (λ x. x.process == h.process) (filter (to_one o) passed ++ filter (to_one o) hs)) (length (filter (to_one o) passed ++ filter (to_one o) hs))
          ∷ closes stays (filter (to_one o) passed) (filter (to_one o) hs)) other)
      go false = ap (λ xs. closes stays xs (filter (to_one o) hs)) (append-nil (filter (to_one o) passed))

  -- one of its own is closed, and then the rest
  closed_told : (s : State K T F I) (passed : List Held) (h : Held) (hs : List Held) (o : ℕ) → (h.process == p) ≡ true
      → (without_handle s h.process h.value).handles ≡ passed ++ hs
      → let w = without_handle s h.process h.value in
      (if is_of_set s h.object && (h.object == o) then Closed (handle_count_in w h.process h.object) (handle_count w h.object) ∷ [] else []) ++ closes_of (closed_handle g s h) passed hs o
      ≡ closes_of s passed (h ∷ hs) o
  closed_told s passed h hs o own left =
      (λ i. of_number s h.object o (Closed (handle_count_in w h.process h.object) (handle_count w h.object)) counted same i
      ++ (if of_set-closed g s h o i then closes stays (filter (to_one o) passed) (filter (to_one o) hs) else []))
      ∙ go (is_of_set s o) (h.object == o)
    where
      w : State K T F I
      w = without_handle s h.process h.value

      counted : Call
      counted = Closed (count_by (λ x. x.process == h.process) (filter (to_one o) passed ++ filter (to_one o) hs)) (length (filter (to_one o) passed ++ filter (to_one o) hs))

      same : (h.object == o) ≡ true → Closed (handle_count_in w h.process h.object) (handle_count w h.object) ≡ counted
      same here =
          (λ i. Closed (count_by (λ x. x.process == h.process && x.object == eqb-true h.object o here i) (left i)) (count_by (to_one (eqb-true h.object o here i)) (left i)))
          ∙ (λ i. Closed (count_and (λ x. x.process == h.process) (to_one o) (passed ++ hs) i) (sym (length-filter (to_one o) (passed ++ hs)) i))
          ∙ ap (λ xs. Closed (count_by (λ x. x.process == h.process) xs) (length xs)) (filter-append (to_one o) passed hs)

      go : (a b : Bool)
          → (if a && b then counted ∷ [] else []) ++ (if a then closes stays (filter (to_one o) passed) (filter (to_one o) hs) else [])
          ≡ (if a then closes stays (filter (to_one o) passed) (cond b (h ∷ filter (to_one o) hs) (filter (to_one o) hs)) else [])
      go true true =
          sym (ap (λ b. if not b then closes stays (filter (to_one o) passed ++ h ∷ []) (filter (to_one o) hs) else counted ∷ closes stays (filter (to_one o) passed) (filter (to_one o) hs)) own)
      go true false = refl
      go false true = refl
      go false false = refl

  -- from s, where these handles were passed, all of its own among the rest are closed, in their order
  abbrev ClosesFrom : State K T F I → List Held → List Held → Type 0
  ClosesFrom s passed rest =
      s.handles ≡ passed ++ rest → AreDistinct s.handles → Follows g (inside s) (inside (closed_in_turn g s (filter (λ h. h.process == p) rest))) (closes_of s passed rest)

  closed_follows : (s : State K T F I) (passed rest : List Held) → ClosesFrom s passed rest
  closed_follows s passed [] e distinct =
      follows_told g (inside s) (inside s) (λ o. []) (closes_of s passed []) (λ o. nothing (is_of_set s o)) (follows_still g (inside s) (inside s) refl)
  closed_follows s passed (h ∷ hs) e distinct = go (h.process == p) refl (closed_follows s (passed ++ h ∷ []) hs) (closed_follows (closed_handle g s h) passed hs)
    where
      go : (b : Bool) → (h.process == p) ≡ b → ClosesFrom s (passed ++ h ∷ []) hs → ClosesFrom (closed_handle g s h) passed hs
          → Follows g (inside s) (inside (closed_in_turn g s (cond b (h ∷ filter (λ x. x.process == p) hs) (filter (λ x. x.process == p) hs)))) (closes_of s passed (h ∷ hs))
      go false other later now =
          follows_told g (inside s) (inside (closed_in_turn g s (filter (λ x. x.process == p) hs))) (closes_of s (passed ++ h ∷ []) hs) (closes_of s passed (h ∷ hs))
          (λ o. passed_told s passed h hs o other) (later (e ∙ sym (append_assoc passed (h ∷ []) hs)) distinct)
      go true own later now =
          let u = closed_handle g s h in
          let w = without_handle s h.process h.value in
          let left : w.handles ≡ passed ++ hs = ap (filter (λ x. not (is_handle h.process h.value x))) e ∙ taken_out passed h hs (subst AreDistinct e distinct) in
          follows_told g (inside s) (inside (closed_in_turn g u (filter (λ x. x.process == p) hs)))
          (λ o. (if is_of_set s h.object && (h.object == o) then Closed (handle_count_in w h.process h.object) (handle_count w h.object) ∷ [] else []) ++ closes_of u passed hs o)
          (closes_of s passed (h ∷ hs)) (λ o. closed_told s passed h hs o own left)
          (follows_then g (inside s) (inside u) (inside (closed_in_turn g u (filter (λ x. x.process == p) hs)))
          (λ o. if is_of_set s h.object && (h.object == o) then Closed (handle_count_in w h.process h.object) (handle_count w h.object) ∷ [] else []) (closes_of u passed hs)
          (handle_follows g s h)
          (now left (AllPairs-filter (λ a b. is_handle a.process a.value b ≡ false) (λ x. not (is_handle h.process h.value x)) s.handles distinct)))

  -- a process that ends
  pub ended_moves : (s : State K T F I) → IsSound s → Rises s → Moves g s (settle g (ended g s p)) (λ o. None) (λ o. if is_of_set s o then closes_at_end s p o else [])
  ended_moves s sound rises =
      unmade_moves g s (ended g s p) (λ o. if is_of_set s o then closes_at_end s p o else []) (rises_closed_all g s (handles_in s p) rises) (λ o. sym (of_set-closed_all g p s (handles_in s p) o))
      (closed_follows s [] s.handles refl sound.handles.distinct)

-- ---- a process that begins

-- two filters, either way
filter_swap : {X : Type 0} (one other : X → Bool) (xs : List X) → filter one (filter other xs) ≡ filter other (filter one xs)
filter_swap one other [] = refl
filter_swap {X} one other (x ∷ xs) = go (one x) (other x) refl refl (filter_swap one other xs)
  where
    go : (a b : Bool) → one x ≡ a → other x ≡ b → filter one (filter other xs) ≡ filter other (filter one xs)
        → filter one (cond b (x ∷ filter other xs) (filter other xs)) ≡ filter other (cond a (x ∷ filter one xs) (filter one xs))
    go true true passes stays rest = (λ i. cond (passes i) (x ∷ filter one (filter other xs)) (filter one (filter other xs))) ∙ ap (λ ys. x ∷ ys) rest ∙ sym (λ i. cond (stays i) (x ∷ filter other (filter one xs)) (filter other (filter one xs)))
    go true false passes stays rest = rest ∙ sym (λ i. cond (stays i) (x ∷ filter other (filter one xs)) (filter other (filter one xs)))
    go false true passes stays rest = (λ i. cond (passes i) (x ∷ filter one (filter other xs)) (filter one (filter other xs))) ∙ rest
    go false false passes stays rest = rest

none_filtered : {X : Type 0} (test : X → Bool) (xs : List X) → list_any test xs ≡ false → filter test xs ≡ []
none_filtered test [] none = refl
none_filtered {X} test (x ∷ xs) none = go (test x) none (none_filtered test xs)
  where
    go : (b : Bool) → (b || list_any test xs) ≡ false → (list_any test xs ≡ false → filter test xs ≡ []) → cond b (x ∷ filter test xs) (filter test xs) ≡ []
    go true none rest = cc
    go false none rest = rest none

module _ {K T F I : Type 0} (g : Procedures K T F I) (child : ℕ) where
  -- the opens of these new handles, of an object of the set
  abbrev opens_of : State K T F I → List Held → ℕ → List Call
  opens_of s news o = if is_of_set s o then map (λ _. Opened Inherited) (filter (λ h. h.object == o) news) else []

  -- from s to t handles of the child come behind the others, each by an open
  abbrev Opens : State K T F I → State K T F I → Type 0
  Opens s t = (news : List Held) × (t.handles ≡ s.handles ++ news) × All (λ h. (h.process == child) ≡ true) news × Follows g (inside s) (inside t) (opens_of s news)

  opens_none : (s t : State K T F I) → t.handles ≡ s.handles → inside t ≡ inside s → Opens s t
  opens_none s t handles same = (
    [],
    handles ∙ sym (append-nil s.handles),
    All-nil (λ h. (h.process == child) ≡ true),
    follows_told g (inside s) (inside t) (λ o. []) (opens_of s []) (λ o. nothing (is_of_set s o)) (follows_still g (inside s) (inside t) same),
  )

  opens_one : (s : State K T F I) (h : Held) → Opens s (inherits_one g s child h)
  opens_one s h = go (open_refusal g s h.object Inherited) refl
    where
      new : Held
      new = record { process = child; value = h.value; object = h.object; inherit = true; order = s.next_order }

      one : (o : ℕ) → (if is_of_set s o && (h.object == o) then Opened Inherited ∷ [] else []) ≡ opens_of s (new ∷ []) o
      one o = at (is_of_set s o) (h.object == o)
        where
          at : (a b : Bool) → (if a && b then Opened Inherited ∷ [] else []) ≡ (if a then map (λ _. Opened Inherited) (cond b (new ∷ []) []) else [])
          at true true = refl
          at true false = refl
          at false true = refl
          at false false = refl

      go : (r : Option ℕ) → open_refusal g s h.object Inherited ≡ r → Opens s (option_map_or (λ _. record s { next_order = s.next_order + 1 }) r (with_handle (with_open g s h.object Inherited) child h.value h.object true))
      go None taken = (
        new ∷ [],
        refl,
        All-cons (λ x. (x.process == child) ≡ true) new [] (eq-eqb child child refl) (All-nil (λ x. (x.process == child) ≡ true)),
        follows_told g (inside s) (inside (with_open g s h.object Inherited)) (λ o. if is_of_set s h.object && (h.object == o) then Opened Inherited ∷ [] else []) (opens_of s (new ∷ []))
            (λ o. of_number s h.object o (Opened Inherited) (Opened Inherited) (λ here. refl) ∙ one o) (open_follows g s h.object Inherited taken),
      )
      go (Some k) refused = opens_none s (record s { next_order = s.next_order + 1 }) refl refl

  opens_all : (s : State K T F I) (hs : List Held) → Opens s (inherits g s child hs)
  opens_all s [] = opens_none s s refl refl
  opens_all s (h ∷ hs) =
      let u = inherits_one g s child h in
      let one = opens_one s h in
      let rest = opens_all u hs in (
        one.0 ++ rest.0,
        rest.1 ∙ ap (λ xs. xs ++ rest.0) one.1 ∙ append_assoc s.handles one.0 rest.0,
        All-append (λ x. (x.process == child) ≡ true) one.0 rest.0 one.2 rest.2,
        follows_told g (inside s) (inside (inherits g u child hs)) (λ o. opens_of s one.0 o ++ opens_of u rest.0 o) (opens_of s (one.0 ++ rest.0)) (together one.0 rest.0)
            (follows_then g (inside s) (inside u) (inside (inherits g u child hs)) (opens_of s one.0) (opens_of u rest.0) one.3 rest.3),
      )
    where
      together : (news more : List Held) (o : ℕ) → opens_of s news o ++ opens_of (inherits_one g s child h) more o ≡ opens_of s (news ++ more) o
      together news more o =
          ap (λ b. opens_of s news o ++ (if b then map (λ _. Opened Inherited) (filter (λ x. x.object == o) more) else [])) (of_set-inherits g child s (h ∷ []) o) ∙ go (is_of_set s o)
        where
          go : (b : Bool)
              → (if b then map (λ _. Opened Inherited) (filter (λ x. x.object == o) news) else []) ++ (if b then map (λ _. Opened Inherited) (filter (λ x. x.object == o) more) else [])
              ≡ (if b then map (λ _. Opened Inherited) (filter (λ x. x.object == o) (news ++ more)) else [])
          go true =
              sym (ap (map (λ _. Opened Inherited)) (filter-append (λ x. x.object == o) news more)
              ∙ map-append (λ _. Opened Inherited) (filter (λ x. x.object == o) news) (filter (λ x. x.object == o) more))
          go false = refl

module _ {K T F I : Type 0} (g : Procedures K T F I) where
  -- a process that begins
  pub begun_moves : (s : State K T F I) (p : ℕ) (inherit : Bool) → IsSound s → Rises s
      → let t = settle g (begun g s p inherit) in Moves g s t (λ o. None) (calls_of_child t s.next_process)
  begun_moves s p inherit sound rises =
      moves_told g s t (λ o. None) (opens_of g s.next_process (with_child s p) opens.0) (calls_of_child t s.next_process) told
      (unmade_moves g s u (opens_of g s.next_process (with_child s p) opens.0) (rises_inherits g (with_child s p) s.next_process (inherited_from s p inherit) rises) (λ o. sym (of_set o)) opens.3)
    where
      u : State K T F I
      u = begun g s p inherit

      t : State K T F I
      t = settle g u

      opens : Opens g s.next_process (with_child s p) u
      opens = opens_all g s.next_process (with_child s p) (inherited_from s p inherit)

      of_set : (o : ℕ) → is_of_set u o ≡ is_of_set s o
      of_set o = of_set-inherits g s.next_process (with_child s p) (inherited_from s p inherit) o

      others : filter (λ h. h.process == s.next_process) s.handles ≡ []
      others =
          filter_none (λ h. h.process == s.next_process) s.handles
          (λ k d within.
          let less = live_numbered s.processes s.next_process (get_or s.handles k d).process sound.processes.numbered (sound.handles.live k d within) in
          ne_eqb (get_or s.handles k d).process s.next_process (λ same. omega (arith, less, same)))

      mine : filter (λ h. h.process == s.next_process) u.handles ≡ opens.0
      mine =
          ap (filter (λ h. h.process == s.next_process)) opens.1 ∙ filter-append (λ h. h.process == s.next_process) s.handles opens.0
          ∙ (λ i. others i ++ filter_all (λ h. h.process == s.next_process) opens.0 opens.2 i)

      those : (o : ℕ) → filter (λ h. h.process == s.next_process) (handles_to t o) ≡ filter (λ h. h.object == o) opens.0
      those o = filter_swap (λ h. h.process == s.next_process) (λ h. h.object == o) u.handles ∙ ap (filter (λ h. h.object == o)) mine

      told : (o : ℕ) → opens_of g s.next_process (with_child s p) opens.0 o ≡ calls_of_child t s.next_process o
      told o = go (has_handle u o) refl
        where
          go : (b : Bool) → has_handle u o ≡ b → opens_of g s.next_process (with_child s p) opens.0 o ≡ calls_of_child t s.next_process o
          go true held = sym (λ i. if (of_set-settle g u o held ∙ of_set o) i then map (λ _. Opened Inherited) (those o i) else [])
          go false none =
              let empty : filter (λ h. h.process == s.next_process) (handles_to t o) ≡ [] = ap (filter (λ h. h.process == s.next_process)) (none_filtered (λ h. h.object == o) u.handles none) in
              (λ i. if is_of_set s o then map (λ _. Opened Inherited) ((sym (those o) ∙ empty) i) else []) ∙ sym (nothing (is_of_set s o)) ∙ nothing (is_of_set t o)
              ∙ sym (λ i. if is_of_set t o then map (λ _. Opened Inherited) (empty i) else [])
