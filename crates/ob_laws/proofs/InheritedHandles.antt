-- The calls on an object as a process begins: the opens of the handles that it inherits.
use Rattle.std.proofs.Common.{◌≡◌, ◌∙◌, ℕ, ◌+◌, ◌==◌, Bool, true, false, cond, if◌then◌else◌, List, [], ◌∷◌, ◌++◌, append-nil, append_assoc, length, get_or, filter, map, All, Option, None, Some, ◌⊎◌, inl, inr, refl, ap, sym, subst, arith, eq-eqb}
use Rattle.std.specs.Prelude.{count_by}
use Rattle.std.specs.Option.{option_map_or}
use Rattle.std.proofs.lemmas.Bool.{false≢true, ne_eqb}
use Rattle.std.proofs.lemmas.List.Elements.{All-nil, All-cons, All-append, filter-append}
use Rattle.std.proofs.lemmas.List.Sums.{sum_by-append, length-filter}
use Rattle.ob_model.specs.declared.state.Held.{Held}
use Rattle.ob_model.specs.State.{State, handle_count}
use Rattle.ob_model.specs.declared.terms.Reason.{Reason}
use Rattle.ob_model.specs.declared.terms.Reason.TheVariants.{Inherited}
use Rattle.ob_model.specs.Procedures.{Procedures}
use Rattle.ob_model.specs.Settle.{has_handle, settle}
use Rattle.ob_model.specs.Grants.{open_refusal, with_open, with_handle}
use Rattle.ob_model.specs.Processes.{inherited_from, with_child, inherits_one, inherits, begun}
use Rattle.ob_model.specs.Sound.{IsSound}
use Rattle.ob_model.specs.Calls.{Opened, is_of_set, handles_to, calls_of_child}
use Rattle.ob_model.proofs.Finds.{filter_all, filter_none}
use Rattle.ob_model.proofs.Ended.{live_numbered}
use Rattle.ob_laws.proofs.CallCounts.{has_delete, Tells, Leaves}
use Rattle.ob_laws.proofs.LifeOf.{set_count}
use Rattle.ob_laws.proofs.SetCounts.{of_set-opened, of_set-settle, count-settle, none_counted}
use Rattle.ob_laws.proofs.ClosedHandles.{count_both}

-- ---- opens alone

opens_tell : {X : Type 0} (reason : Reason) (n : ℕ) (xs : List X) → Tells n (map (λ _. Opened reason) xs) (n + length xs)
opens_tell reason n [] = omega arith
opens_tell reason n (x ∷ xs) = subst (λ m. Tells (n + 1) (map (λ _. Opened reason) xs) m) (omega arith) (opens_tell reason (n + 1) xs)

opens_leave : {X : Type 0} (reason : Reason) (left : ℕ) (xs : List X) → Leaves left (map (λ _. Opened reason) xs)
opens_leave reason left [] = tt
opens_leave reason left (x ∷ xs) = opens_leave reason left xs

opens_undeleted : {X : Type 0} (reason : Reason) (xs : List X) → has_delete (map (λ _. Opened reason) xs) ≡ false
opens_undeleted reason [] = refl
opens_undeleted reason (x ∷ xs) = opens_undeleted reason xs

several_tell : {X : Type 0} (reason : Reason) (n m before more : ℕ) (was there : Bool) (xs : List X)
    → n ≡ cond was before 0 → m ≡ cond was (before + more) 0 → length xs ≡ more → (there ≡ was) ⊎ (before + more ≡ 0)
    → Tells n (if there then map (λ _. Opened reason) xs else []) m
several_tell reason n m before more true true xs first last many either =
    subst (λ k. Tells n (map (λ _. Opened reason) xs) k) (omega (arith, first, last, many)) (opens_tell reason n xs)
several_tell reason n m before more false true xs first last many (inl same) = absurd (false≢true (sym same))
several_tell reason n m before more false true xs first last many (inr none) =
    subst (λ k. Tells n (map (λ _. Opened reason) xs) k) (omega (arith, first, last, many, none)) (opens_tell reason n xs)
several_tell reason n m before more true false xs first last many (inl same) = absurd (false≢true same)
several_tell reason n m before more true false xs first last many (inr none) = omega (arith, first, last, none)
several_tell reason n m before more false false xs first last many either = omega (arith, first, last)

module _ {K T F I : Type 0} (g : Procedures K T F I) (child : ℕ) where
  -- what a child inherits leaves which objects are of the set
  pub of_set-inherits : (s : State K T F I) (hs : List Held) (o : ℕ) → is_of_set (inherits g s child hs) o ≡ is_of_set s o
  of_set-inherits s [] o = refl
  of_set-inherits s (h ∷ hs) o = of_set-inherits (inherits_one g s child h) hs o ∙ go (open_refusal g s h.object Inherited)
    where
      go : (r : Option ℕ) → is_of_set (option_map_or (λ _. record s { next_order = s.next_order + 1 }) r (with_handle (with_open g s h.object Inherited) child h.value h.object true)) o ≡ is_of_set s o
      go None = of_set-opened g s h.object o Inherited
      go (Some k) = refl

  -- and its handles come behind the others
  abbrev Adds : State K T F I → State K T F I → Type 0
  Adds s t = (news : List Held) × (t.handles ≡ s.handles ++ news) × All (λ h. (h.process == child) ≡ true) news

  adds_one : (s : State K T F I) (h : Held) → Adds s (inherits_one g s child h)
  adds_one s h = go (open_refusal g s h.object Inherited)
    where
      go : (r : Option ℕ) → Adds s (option_map_or (λ _. record s { next_order = s.next_order + 1 }) r (with_handle (with_open g s h.object Inherited) child h.value h.object true))
      go None = (
        record { process = child; value = h.value; object = h.object; inherit = true; order = s.next_order } ∷ [],
        refl,
        All-cons (λ x. (x.process == child) ≡ true) _ [] (eq-eqb child child refl) (All-nil (λ x. (x.process == child) ≡ true)),
      )
      go (Some k) = ([], sym (append-nil s.handles), All-nil (λ x. (x.process == child) ≡ true))

  adds_all : (s : State K T F I) (hs : List Held) → Adds s (inherits g s child hs)
  adds_all s [] = ([], sym (append-nil s.handles), All-nil (λ x. (x.process == child) ≡ true))
  adds_all s (h ∷ hs) =
      let one = adds_one s h in
      let rest = adds_all (inherits_one g s child h) hs in (
        one.0 ++ rest.0,
        rest.1 ∙ ap (λ xs. xs ++ rest.0) one.1 ∙ append_assoc s.handles one.0 rest.0,
        All-append (λ x. (x.process == child) ≡ true) one.0 rest.0 one.2 rest.2,
      )

module _ {K T F I : Type 0} (g : Procedures K T F I) where
  -- a process that begins
  pub begun_tells : (s : State K T F I) (p : ℕ) (inherit : Bool) (o : ℕ) → IsSound s
      → Tells (set_count s o) (calls_of_child (settle g (begun g s p inherit)) s.next_process o) (set_count (settle g (begun g s p inherit)) o)
  begun_tells s p inherit o sound =
      several_tell Inherited (set_count s o) (set_count t o) (handle_count s o) (count_by (λ h. h.object == o) news) (is_of_set s o) (is_of_set t o)
      (filter (λ h. h.process == s.next_process) (handles_to t o)) refl
      (count-settle g u o ∙ (λ i. cond (of_set i) (counted i) 0)) many either
    where
      u : State K T F I
      u = begun g s p inherit

      t : State K T F I
      t = settle g u

      adds : Adds g s.next_process (with_child s p) u
      adds = adds_all g s.next_process (with_child s p) (inherited_from s p inherit)

      news : List Held
      news = adds.0

      of_set : is_of_set u o ≡ is_of_set s o
      of_set = of_set-inherits g s.next_process (with_child s p) (inherited_from s p inherit) o

      counted : handle_count u o ≡ handle_count s o + count_by (λ h. h.object == o) news
      counted = ap (count_by (λ h. h.object == o)) adds.1 ∙ sum_by-append (λ h. cond (h.object == o) 1 0) s.handles news

      others : filter (λ h. h.process == s.next_process) s.handles ≡ []
      others =
          filter_none (λ h. h.process == s.next_process) s.handles
          (λ k d within.
          let less = live_numbered s.processes s.next_process (get_or s.handles k d).process sound.processes.numbered (sound.handles.live k d within) in
          ne_eqb (get_or s.handles k d).process s.next_process (λ same. omega (arith, less, same)))

      mine : filter (λ h. h.process == s.next_process) u.handles ≡ news
      mine =
          ap (filter (λ h. h.process == s.next_process)) adds.1 ∙ filter-append (λ h. h.process == s.next_process) s.handles news
          ∙ (λ i. others i ++ filter_all (λ h. h.process == s.next_process) news adds.2 i)

      many : length (filter (λ h. h.process == s.next_process) (handles_to t o)) ≡ count_by (λ h. h.object == o) news
      many =
          length-filter (λ h. h.process == s.next_process) (handles_to u o) ∙ count_both (λ h. h.process == s.next_process) (λ h. h.object == o) u.handles
          ∙ ap (count_by (λ h. h.object == o)) mine

      either : (is_of_set t o ≡ is_of_set s o) ⊎ (handle_count s o + count_by (λ h. h.object == o) news ≡ 0)
      either = go (has_handle u o) refl
        where
          go : (b : Bool) → has_handle u o ≡ b → (is_of_set t o ≡ is_of_set s o) ⊎ (handle_count s o + count_by (λ h. h.object == o) news ≡ 0)
          go true held = inl (of_set-settle g u o held ∙ of_set)
          go false none = inr (sym counted ∙ none_counted (λ h. h.object == o) u.handles none)

  -- closes and deletes nothing
  pub begun_leaves : (t : State K T F I) (child o left : ℕ) → Leaves left (calls_of_child t child o)
  begun_leaves t child o left = go (is_of_set t o)
    where
      go : (b : Bool) → Leaves left (if b then map (λ _. Opened Inherited) (filter (λ h. h.process == child) (handles_to t o)) else [])
      go true = opens_leave Inherited left (filter (λ h. h.process == child) (handles_to t o))
      go false = tt

  pub begun_undeleted : (t : State K T F I) (child o : ℕ) → has_delete (calls_of_child t child o) ≡ false
  begun_undeleted t child o = go (is_of_set t o)
    where
      go : (b : Bool) → has_delete (if b then map (λ _. Opened Inherited) (filter (λ h. h.process == child) (handles_to t o)) else []) ≡ false
      go true = opens_undeleted Inherited (filter (λ h. h.process == child) (handles_to t o))
      go false = refl
