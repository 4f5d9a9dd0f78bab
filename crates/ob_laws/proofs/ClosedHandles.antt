-- The calls of a close, and of the end of a process, on an object.
use Rattle.std.proofs.Common.{◌≡◌, ◌∙◌, ℕ, suc, ◌+◌, ◌==◌, Bool, true, false, cond, not, ◌&&◌, if◌then◌else◌, List, [], ◌∷◌, ◌++◌, length, length-append, get_or, find, filter, All, Some, refl, ap, sym, subst, arith, eqb-true}
use Rattle.std.specs.Prelude.{count_by, AllPairs}
use Rattle.std.proofs.lemmas.Bool.{false≢true, and_parts}
use Rattle.std.proofs.lemmas.List.Elements.{All-head, All-tail, filter_passes}
use Rattle.std.proofs.lemmas.List.Sums.{sum_by-cons, sum_by_push, sum_by-append, length-filter}
use Rattle.ob_model.specs.declared.state.Held.{Held}
use Rattle.ob_model.specs.State.{State, held_of, handle_count, handle_count_in}
use Rattle.ob_model.specs.Procedures.{Procedures}
use Rattle.ob_model.specs.Settle.{settle}
use Rattle.ob_model.specs.Closing.{is_handle, closed_handle}
use Rattle.ob_model.specs.Processes.{handles_in, closed_in_turn, ended}
use Rattle.ob_model.specs.Sound.{IsSound}
use Rattle.ob_model.specs.Calls.{Closed, is_of_set, handles_to, closes, closes_at_end}
use Rattle.ob_model.specs.Lifetimes.{closings}
use Rattle.ob_model.proofs.Finds.{filter_all}
use Rattle.ob_model.proofs.AlikeHandles.{found_passes}
use Rattle.ob_model.proofs.Ended.{ended_holds_nothing}
use Rattle.ob_laws.proofs.CallCounts.{has_delete, Tells, Leaves, closings-cons}
use Rattle.ob_laws.proofs.LifeOf.{set_count}
use Rattle.ob_laws.proofs.SetCounts.{of_set-closed, count-settle}

-- ---- one handle less

-- what the one handle of a process and value leaves of a count
module _ (p value : ℕ) (h : Held) (test : Held → Bool) where
  count_without : (hs : List Held) → AllPairs (λ a b. is_handle a.process a.value b ≡ false) hs → find (is_handle p value) hs ≡ Some h
      → count_by test hs ≡ count_by test (filter (λ x. not (is_handle p value x)) hs) + cond (test h) 1 0
  count_without [] apart e = cc
  count_without (x ∷ xs) apart e = go (is_handle p value x) refl e (count_without xs (λ i j d before within. apart (suc i) (suc j) d (omega (arith, before)) (omega (arith, within))))
    where
      left : List Held
      left = filter (λ y. not (is_handle p value y)) xs

      more : count_by test (x ∷ xs) ≡ cond (test x) 1 0 + count_by test xs
      more = sum_by-cons (λ y. cond (test y) 1 0) x xs

      go : (b : Bool) → is_handle p value x ≡ b → cond b (Some x) (find (is_handle p value) xs) ≡ Some h
          → (find (is_handle p value) xs ≡ Some h → count_by test xs ≡ count_by test left + cond (test h) 1 0)
          → count_by test (x ∷ xs) ≡ count_by test (cond (not b) (x ∷ left) left) + cond (test h) 1 0
      go true is e rest =
          let same : x ≡ h = cc in
          let parts = and_parts (x.process == p) (x.value == value) is in
          let process : x.process ≡ p = eqb-true x.process p parts.0 in
          let valued : x.value ≡ value = eqb-true x.value value parts.1 in
          let others : left ≡ xs =
          filter_all (λ y. not (is_handle p value y)) xs
          (λ k d within. (λ i. not (is_handle (sym process i) (sym valued i) (get_or xs k d))) ∙ ap not (apart 0 (suc k) d (omega arith) (omega (arith, within)))) in
          let counted : count_by test left ≡ count_by test xs = ap (count_by test) others in
          let one : ◌≡◌ {A = ℕ} (cond (test x) 1 0) (cond (test h) 1 0) = ap (λ y. cond (test y) 1 0) same in
          omega (arith, more, counted, one)
      go false is e rest =
          let less : count_by test (x ∷ left) ≡ cond (test x) 1 0 + count_by test left = sum_by-cons (λ y. cond (test y) 1 0) x left in
          let counted : count_by test xs ≡ count_by test left + cond (test h) 1 0 = rest e in
          omega (arith, more, less, counted)

-- from n handles to m, of an object that is one of the set or isn't, where one goes that leads to it or doesn't
one_close_tells : (n m count left process_left : ℕ) (of leads : Bool) → count ≡ left + cond leads 1 0 → n ≡ cond of count 0 → m ≡ cond of left 0
    → Tells n (if of && leads then Closed process_left left ∷ [] else []) m
one_close_tells n m count left process_left true true less before after = (omega (arith, less, before), sym after)
one_close_tells n m count left process_left true false less before after = omega (arith, less, before, after)
one_close_tells n m count left process_left false leads less before after = omega (arith, before, after)

module _ {K T F I : Type 0} (g : Procedures K T F I) where
  count-closed : (s : State K T F I) (p value : ℕ) (h : Held) (test : Held → Bool) → IsSound s → held_of s p value ≡ Some h
      → count_by test s.handles ≡ count_by test (closed_handle g s h).handles + cond (test h) 1 0
  count-closed s p value h test sound found =
      let parts = and_parts (h.process == p) (h.value == value) (found_passes (is_handle p value) s.handles h found) in
      let process : h.process ≡ p = eqb-true h.process p parts.0 in
      let valued : h.value ≡ value = eqb-true h.value value parts.1 in
      count_without h.process h.value h test s.handles sound.handles.distinct ((λ i. find (is_handle (process i) (valued i)) s.handles) ∙ found)

  -- a handle that is closed
  pub closed_tells : (s : State K T F I) (p value : ℕ) (h : Held) (o : ℕ) → IsSound s → held_of s p value ≡ Some h
      → let t = settle g (closed_handle g s h) in Tells (set_count s o) (if is_of_set s o && (h.object == o) then Closed (handle_count_in t p o) (handle_count t o) ∷ [] else []) (set_count t o)
  closed_tells s p value h o sound found =
      let u = closed_handle g s h in
      one_close_tells (set_count s o) (set_count (settle g u) o) (handle_count s o) (handle_count u o) (handle_count_in (settle g u) p o) (is_of_set s o) (h.object == o)
      (count-closed s p value h (λ x. x.object == o) sound found) refl (count-settle g u o ∙ ap (λ b. cond b (handle_count u o) 0) (of_set-closed g s h o))

-- ---- all handles of a process

-- what one test leaves of what another one left, where the other passes whenever the one does
filter_filter : {X : Type 0} (test keeps : X → Bool) → ((x : X) → test x ≡ true → keeps x ≡ true) → (xs : List X) → filter test (filter keeps xs) ≡ filter test xs
filter_filter test keeps kept [] = refl
filter_filter {X} test keeps kept (x ∷ xs) = go (test x) (keeps x) refl refl (filter_filter test keeps kept xs)
  where
    go : (a b : Bool) → test x ≡ a → keeps x ≡ b → filter test (filter keeps xs) ≡ filter test xs
        → filter test (cond b (x ∷ filter keeps xs) (filter keeps xs)) ≡ cond a (x ∷ filter test xs) (filter test xs)
    go true true passes stays rest = (λ i. cond (passes i) (x ∷ filter test (filter keeps xs)) (filter test (filter keeps xs))) ∙ ap (λ ys. x ∷ ys) rest
    go true false passes stays rest = absurd (false≢true (sym stays ∙ kept x passes))
    go false true passes stays rest = (λ i. cond (passes i) (x ∷ filter test (filter keeps xs)) (filter test (filter keeps xs))) ∙ rest
    go false false passes stays rest = rest

-- where nothing passes, nothing is taken away by it
none_then_all : {X : Type 0} (test : X → Bool) (xs : List X) → filter test xs ≡ [] → filter (λ x. not (test x)) xs ≡ xs
none_then_all test [] none = refl
none_then_all {X} test (x ∷ xs) none = go (test x) none (none_then_all test xs)
  where
    go : (b : Bool) → cond b (x ∷ filter test xs) (filter test xs) ≡ [] → (filter test xs ≡ [] → filter (λ y. not (test y)) xs ≡ xs)
        → cond (not b) (x ∷ filter (λ y. not (test y)) xs) (filter (λ y. not (test y)) xs) ≡ x ∷ xs
    go true none rest = cc
    go false none rest = ap (λ ys. x ∷ ys) (rest none)

module _ {K T F I : Type 0} (g : Procedures K T F I) (p : ℕ) where
  -- the handles of other processes stay
  others-closed : (s : State K T F I) (hs : List Held) → All (λ h. (h.process == p) ≡ true) hs
      → filter (λ x. not (x.process == p)) (closed_in_turn g s hs).handles ≡ filter (λ x. not (x.process == p)) s.handles
  others-closed s [] own = refl
  others-closed s (h ∷ hs) own =
      others-closed (closed_handle g s h) hs (All-tail (λ x. (x.process == p) ≡ true) h hs own)
      ∙ filter_filter (λ x. not (x.process == p)) (λ x. not (is_handle h.process h.value x)) (λ x other. apart x (x.process == h.process) refl other) s.handles
    where
      mine : h.process ≡ p
      mine = eqb-true h.process p (All-head (λ x. (x.process == p) ≡ true) h hs own)

      apart : (x : Held) (b : Bool) → (x.process == h.process) ≡ b → not (x.process == p) ≡ true → not (b && (x.value == h.value)) ≡ true
      apart x true e other = absurd (false≢true ((λ i. not (sym (ap (λ q. x.process == q) (sym mine) ∙ e) i)) ∙ other))
      apart x false e other = refl

  -- and which objects are of the set does
  pub of_set-closed_all : (s : State K T F I) (hs : List Held) (o : ℕ) → is_of_set (closed_in_turn g s hs) o ≡ is_of_set s o
  of_set-closed_all s [] o = refl
  of_set-closed_all s (h ∷ hs) o = of_set-closed_all (closed_handle g s h) hs o ∙ of_set-closed g s h o

  -- a process that ends leaves the handles of the others
  pub handles-ended : (s : State K T F I) → (ended g s p).handles ≡ filter (λ x. not (x.process == p)) s.handles
  handles-ended s =
      sym (none_then_all (λ x. x.process == p) (ended g s p).handles (ended_holds_nothing g s p))
      ∙ others-closed s (handles_in s p) (filter_passes (λ h. h.process == p) s.handles)

-- ---- the calls where a process ends

-- handles to an object that stay, of those that lead to it, and those that lead to it, of those that stay
pub count_both : {X : Type 0} (one other : X → Bool) (xs : List X) → count_by one (filter other xs) ≡ count_by other (filter one xs)
count_both one other [] = refl
count_both {X} one other (x ∷ xs) = go (one x) (other x) refl refl (count_both one other xs)
  where
    go : (a b : Bool) → one x ≡ a → other x ≡ b → count_by one (filter other xs) ≡ count_by other (filter one xs)
        → count_by one (cond b (x ∷ filter other xs) (filter other xs)) ≡ count_by other (cond a (x ∷ filter one xs) (filter one xs))
    go true true passes stays rest =
        sum_by-cons (λ y. cond (one y) 1 0) x (filter other xs) ∙ (λ i. cond (passes i) 1 0 + rest i) ∙ sym (sum_by-cons (λ y. cond (other y) 1 0) x (filter one xs) ∙ ap (λ b. cond b 1 0 + count_by other (filter one xs)) stays)
    go true false passes stays rest =
        rest ∙ sym (sum_by-cons (λ y. cond (other y) 1 0) x (filter one xs) ∙ ap (λ b. cond b 1 0 + count_by other (filter one xs)) stays ∙ omega arith)
    go false true passes stays rest =
        sum_by-cons (λ y. cond (one y) 1 0) x (filter other xs) ∙ (λ i. cond (passes i) 1 0 + rest i) ∙ omega arith
    go false false passes stays rest = rest

module _ (stays : Held → Bool) where
  -- from the handles to an object, to those of them that stay
  closes-tell : (passed hs : List Held) → Tells (length (passed ++ hs)) (closes stays passed hs) (length passed + count_by stays hs)
  closes-tell passed [] = let e = length-append passed [] in omega (arith, e)
  closes-tell passed (x ∷ xs) = go (stays x) refl (closes-tell (passed ++ x ∷ []) xs) (closes-tell passed xs)
    where
      more : count_by stays (x ∷ xs) ≡ cond (stays x) 1 0 + count_by stays xs
      more = sum_by-cons (λ y. cond (stays y) 1 0) x xs

      go : (b : Bool) → stays x ≡ b → Tells (length ((passed ++ x ∷ []) ++ xs)) (closes stays (passed ++ x ∷ []) xs) (length (passed ++ x ∷ []) + count_by stays xs)
          → Tells (length (passed ++ xs)) (closes stays passed xs) (length passed + count_by stays xs)
          → Tells (length (passed ++ x ∷ xs))
          (if b then closes stays (passed ++ x ∷ []) xs else Closed (count_by (λ y. y.process == x.process) (passed ++ xs)) (length (passed ++ xs)) ∷ closes stays passed xs)
          (length passed + count_by stays (x ∷ xs))
      go true e later now =
          let one : ◌≡◌ {A = ℕ} (cond (stays x) 1 0) 1 = ap (λ b. cond b 1 0) e in
          let start : length ((passed ++ x ∷ []) ++ xs) ≡ length (passed ++ x ∷ xs) =
          let a = length-append (passed ++ x ∷ []) xs in let b = length-append passed (x ∷ []) in let c = length-append passed (x ∷ xs) in omega (arith, a, b, c) in
          let end : length (passed ++ x ∷ []) + count_by stays xs ≡ length passed + count_by stays (x ∷ xs) = let b = length-append passed (x ∷ []) in omega (arith, b, more, one) in
          subst (λ m. Tells (length (passed ++ x ∷ xs)) (closes stays (passed ++ x ∷ []) xs) m) end (subst (λ n. Tells n (closes stays (passed ++ x ∷ []) xs) (length (passed ++ x ∷ []) + count_by stays xs)) start later)
      go false e later now =
          let one : ◌≡◌ {A = ℕ} (cond (stays x) 1 0) 0 = ap (λ b. cond b 1 0) e in
          let start : length (passed ++ x ∷ xs) ≡ length (passed ++ xs) + 1 = let a = length-append passed xs in let c = length-append passed (x ∷ xs) in omega (arith, a, c) in
          let end : length passed + count_by stays xs ≡ length passed + count_by stays (x ∷ xs) = omega (arith, more, one) in
          (start, subst (λ m. Tells (length (passed ++ xs)) (closes stays passed xs) m) end now)

  closes-undeleted : (passed hs : List Held) → has_delete (closes stays passed hs) ≡ false
  closes-undeleted passed [] = refl
  closes-undeleted passed (x ∷ xs) = go (stays x) (closes-undeleted (passed ++ x ∷ []) xs) (closes-undeleted passed xs)
    where
      go : (b : Bool) → has_delete (closes stays (passed ++ x ∷ []) xs) ≡ false → has_delete (closes stays passed xs) ≡ false
          → has_delete (if b then closes stays (passed ++ x ∷ []) xs else Closed (count_by (λ y. y.process == x.process) (passed ++ xs)) (length (passed ++ xs)) ∷ closes stays passed xs) ≡ false
      go true later now = later
      go false later now = now

module _ (p : ℕ) where
  -- each handle of the process is closed
  closings-all : (passed hs : List Held) → closings (closes (λ h. not (h.process == p)) passed hs) ≡ count_by (λ h. h.process == p) hs
  closings-all passed [] = refl
  closings-all passed (x ∷ xs) = go (x.process == p) refl (closings-all (passed ++ x ∷ []) xs) (closings-all passed xs)
    where
      more : count_by (λ y. y.process == p) (x ∷ xs) ≡ cond (x.process == p) 1 0 + count_by (λ y. y.process == p) xs
      more = sum_by-cons (λ y. cond (y.process == p) 1 0) x xs

      go : (b : Bool) → (x.process == p) ≡ b → closings (closes (λ h. not (h.process == p)) (passed ++ x ∷ []) xs) ≡ count_by (λ h. h.process == p) xs
          → closings (closes (λ h. not (h.process == p)) passed xs) ≡ count_by (λ h. h.process == p) xs
          → closings (if not b then closes (λ h. not (h.process == p)) (passed ++ x ∷ []) xs
          else Closed (count_by (λ y. y.process == x.process) (passed ++ xs)) (length (passed ++ xs)) ∷ closes (λ h. not (h.process == p)) passed xs)
          ≡ count_by (λ y. y.process == p) (x ∷ xs)
      go true e later now = closings-cons (Closed (count_by (λ y. y.process == x.process) (passed ++ xs)) (length (passed ++ xs))) (closes (λ h. not (h.process == p)) passed xs) ∙ ap (λ n. 1 + n) now ∙ sym (more ∙ ap (λ b. cond b 1 0 + count_by (λ y. y.process == p) xs) e)
      go false e later now = let one : ◌≡◌ {A = ℕ} (cond (x.process == p) 1 0) 0 = ap (λ b. cond b 1 0) e in omega (arith, later, more, one)

  -- each close is given the handles of the process that are closed behind it
  closes-leave : (passed hs : List Held) → count_by (λ h. h.process == p) passed ≡ 0 → Leaves 0 (closes (λ h. not (h.process == p)) passed hs)
  closes-leave passed [] none = tt
  closes-leave passed (x ∷ xs) none = go (x.process == p) refl (closes-leave (passed ++ x ∷ []) xs) (closes-leave passed xs none)
    where
      go : (b : Bool) → (x.process == p) ≡ b
          → (count_by (λ h. h.process == p) (passed ++ x ∷ []) ≡ 0 → Leaves 0 (closes (λ h. not (h.process == p)) (passed ++ x ∷ []) xs)) → Leaves 0 (closes (λ h. not (h.process == p)) passed xs)
          → Leaves 0 (if not b then closes (λ h. not (h.process == p)) (passed ++ x ∷ []) xs
          else Closed (count_by (λ y. y.process == x.process) (passed ++ xs)) (length (passed ++ xs)) ∷ closes (λ h. not (h.process == p)) passed xs)
      go true e later now = (
        ap (λ q. count_by (λ y. y.process == q) (passed ++ xs)) (eqb-true x.process p e) ∙ sum_by-append (λ y. cond (y.process == p) 1 0) passed xs
            ∙ (λ i. none i + sym (closings-all passed xs) i),
        now,
      )
      go false e later now = later (sum_by_push (λ y. cond (y.process == p) 1 0) passed x ∙ (λ i. none i + cond (e i) 1 0))

module _ {K T F I : Type 0} (g : Procedures K T F I) where
  -- a process that ends
  pub ended_tells : (s : State K T F I) (p o : ℕ) → Tells (set_count s o) (if is_of_set s o then closes_at_end s p o else []) (set_count (settle g (ended g s p)) o)
  ended_tells s p o = go (is_of_set s o) refl
    where
      stays : Held → Bool
      stays h = not (h.process == p)

      end : set_count (settle g (ended g s p)) o ≡ cond (is_of_set s o) (count_by stays (handles_to s o)) 0
      end =
          count-settle g (ended g s p) o
          ∙ (λ i. cond (of_set-closed_all g p s (handles_in s p) o i) (count_by (λ h. h.object == o) (handles-ended g p s i)) 0)
          ∙ ap (λ n. cond (is_of_set s o) n 0) (count_both (λ h. h.object == o) stays s.handles)

      go : (b : Bool) → is_of_set s o ≡ b → Tells (set_count s o) (if b then closes_at_end s p o else []) (set_count (settle g (ended g s p)) o)
      go true e =
          let all : length (handles_to s o) ≡ set_count s o = length-filter (λ h. h.object == o) s.handles ∙ sym (ap (λ b. cond b (handle_count s o) 0) e) in
          let left : 0 + count_by stays (handles_to s o) ≡ set_count (settle g (ended g s p)) o = omega arith ∙ sym (end ∙ ap (λ b. cond b (count_by stays (handles_to s o)) 0) e) in
          subst (λ m. Tells (set_count s o) (closes_at_end s p o) m) left (subst (λ n. Tells n (closes_at_end s p o) (0 + count_by stays (handles_to s o))) all (closes-tell stays [] (handles_to s o)))
      go false e = ap (λ b. cond b (handle_count s o) 0) e ∙ sym (end ∙ ap (λ b. cond b (count_by stays (handles_to s o)) 0) e)

  -- none is left in the process
  none_own : (p o : ℕ) (hs : List Held) → count_by (λ h. h.process == p && h.object == o) (filter (λ h. not (h.process == p)) hs) ≡ 0
  none_own p o [] = refl
  none_own p o (x ∷ xs) = go (x.process == p) refl (none_own p o xs)
    where
      go : (b : Bool) → (x.process == p) ≡ b → count_by (λ h. h.process == p && h.object == o) (filter (λ h. not (h.process == p)) xs) ≡ 0
          → count_by (λ h. h.process == p && h.object == o) (cond (not b) (x ∷ filter (λ h. not (h.process == p)) xs) (filter (λ h. not (h.process == p)) xs)) ≡ 0
      go true e rest = rest
      go false e rest =
          sum_by-cons (λ h. cond (h.process == p && h.object == o) 1 0) x (filter (λ h. not (h.process == p)) xs) ∙ (λ i. cond (e i && (x.object == o)) 1 0 + rest i)

  pub ended_leaves : (s : State K T F I) (p o : ℕ) → Leaves (handle_count_in (settle g (ended g s p)) p o) (if is_of_set s o then closes_at_end s p o else [])
  ended_leaves s p o =
      subst (λ n. Leaves n (if is_of_set s o then closes_at_end s p o else [])) (sym (ap (count_by (λ h. h.process == p && h.object == o)) (handles-ended g p s) ∙ none_own p o s.handles)) (go (is_of_set s o))
    where
      go : (b : Bool) → Leaves 0 (if b then closes_at_end s p o else [])
      go true = closes-leave p [] (handles_to s o) refl
      go false = tt

  pub ended_undeleted : (s : State K T F I) (p o : ℕ) (b : Bool) → has_delete (if b then closes_at_end s p o else []) ≡ false
  ended_undeleted s p o true = closes-undeleted (λ h. not (h.process == p)) [] (handles_to s o)
  ended_undeleted s p o false = refl
