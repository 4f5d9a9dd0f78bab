-- How many handles lead to an object of the set, after each kind of change, and what the calls of a grant tell of it.
use Rattle.std.proofs.Common.{◌≡◌, ◌≢◌, ◌∙◌, ℕ, ◌+◌, ◌≤◌, ◌==◌, Bool, true, false, cond, ◌&&◌, ◌||◌, if◌then◌else◌, List, [], ◌∷◌, ◌++◌, find, All, Option, None, Some, is_some, option_map, refl, ap, sym, subst, arith, eqb-true, eq-eqb}
use Rattle.std.specs.Prelude.{count_by}
use Rattle.std.specs.List.{list_any}
use Rattle.std.specs.Option.{option_map_or, option_or, option_and_then}
use Rattle.std.proofs.lemmas.Bool.{false≢true, ne_eqb}
use Rattle.std.proofs.lemmas.List.Elements.{All-head, All-tail}
use Rattle.std.proofs.lemmas.List.Folds.{find-append, list_any-append}
use Rattle.std.proofs.lemmas.List.Sums.{sum_by-cons, sum_by_push}
use Rattle.ob_model.specs.declared.state.Body.{Body}
use Rattle.ob_model.specs.declared.state.Body.TheVariants.{Directory, Link, Other}
use Rattle.ob_model.specs.declared.state.Held.{Held}
use Rattle.ob_model.specs.declared.state.Object.{Object}
use Rattle.ob_model.specs.State.{State, object_of, held_of, handle_count, handle_count_in, insert_object}
use Rattle.ob_model.specs.declared.terms.Reason.{Reason}
use Rattle.ob_model.specs.Procedures.{Procedures, ParseOutcome, EndsItself, EndsMade, EndsReparse, EndsRefused}
use Rattle.ob_model.specs.Settle.{is_alive, has_handle, settle}
use Rattle.ob_model.specs.Grants.{opened_body, opened_object, with_open}
use Rattle.ob_model.specs.Closing.{is_handle, without_handle, closed_body, closed_object, closed_handle}
use Rattle.ob_model.specs.Permanence.{turned_object, turned}
use Rattle.ob_model.specs.Parses.{parsed_state}
use Rattle.ob_model.specs.Sound.{IsSound}
use Rattle.ob_model.specs.Calls.{Opened, leads_to, is_set_body, is_of_set, calls_of_grant}
use Rattle.ob_model.proofs.InOrder.{in_order-others}
use Rattle.ob_model.proofs.Settled.{object_of-settle, alive_from_handle}
use Rattle.ob_model.proofs.Soundness.{find_id-map, opened_object-id, opened_object-is_directory, closed_object-id, closed_object-is_directory, stands_drawn}
use Rattle.ob_model.proofs.Turned.{turned_object-id, turned_object-is_directory, turned_either}
use Rattle.ob_laws.proofs.CallCounts.{has_delete, Tells, Leaves}
use Rattle.ob_laws.proofs.LifeOf.{set_count, none_held}

-- whether what is found is an object of the set
abbrev pub is_set_found : {F I : Type 0} → Option (Object F I) → Bool
is_set_found found = option_map_or is_set_body (option_map (λ x. x.body) found) false

-- a change that leaves which bodies are of the set
set_found-map : {F I : Type 0} (f : Object F I → Object F I) → ((x : Object F I) → is_set_body (f x).body ≡ is_set_body x.body)
    → (found : Option (Object F I)) → is_set_found (option_map f found) ≡ is_set_found found
set_found-map f same None = refl
set_found-map f same (Some x) = same x

-- none passes, so none is counted
pub none_counted : {X : Type 0} (test : X → Bool) (xs : List X) → list_any test xs ≡ false → count_by test xs ≡ 0
none_counted test [] none = refl
none_counted test (x ∷ xs) none = go (test x) refl none (none_counted test xs)
  where
    go : (b : Bool) → test x ≡ b → (b || list_any test xs) ≡ false → (list_any test xs ≡ false → count_by test xs ≡ 0) → count_by test (x ∷ xs) ≡ 0
    go true e none rest = cc
    go false e none rest = sum_by-cons (λ y. cond (test y) 1 0) x xs ∙ ap (λ b. cond b 1 0 + count_by test xs) e ∙ ap (λ n. 0 + n) (rest none)

either_zero : (b : Bool) → ◌≡◌ {A = ℕ} (cond b 0 0) 0
either_zero true = refl
either_zero false = refl

-- no handle leads there, so it doesn't matter whether an object of the set is there
none_either : (a b : Bool) (n : ℕ) → n ≡ 0 → cond a n 0 ≡ cond b n 0
none_either a b n e = ap (λ m. cond a m 0) e ∙ either_zero a ∙ sym (ap (λ m. cond b m 0) e ∙ either_zero b)

module _ {K T F I : Type 0} (g : Procedures K T F I) where
  -- which objects are of the set stays, where one is opened, closed, or made permanent or temporary
  pub of_set-opened : (s : State K T F I) (o m : ℕ) (reason : Reason) → is_of_set (with_open g s o reason) m ≡ is_of_set s m
  of_set-opened s o m reason =
      ap is_set_found (find_id-map (opened_object g s.set o reason) (opened_object-id g s.set o reason) (opened_object-is_directory g s.set o reason) m s.objects)
      ∙ set_found-map (opened_object g s.set o reason)
      (λ x. elim (x.id == o) as (λ b. is_set_body (if b then record x { body = opened_body g s.set x.body reason } else x).body ≡ is_set_body x.body) [ true ↦ stays x.body | false ↦ refl ])
      (object_of s m)
    where
      stays : (body : Body F I) → is_set_body (opened_body g s.set body reason) ≡ is_set_body body
      stays (Directory shadow) = refl
      stays (Link target) = refl
      stays (Other face inner) = refl

  pub of_set-closed : (s : State K T F I) (h : Held) (m : ℕ) → is_of_set (closed_handle g s h) m ≡ is_of_set s m
  of_set-closed s h m =
      ap is_set_found (find_id-map (closed_object g s.set h.object left total) (closed_object-id g s.set h.object left total) (closed_object-is_directory g s.set h.object left total) m s.objects)
      ∙ set_found-map (closed_object g s.set h.object left total)
      (λ x. elim (x.id == h.object) as (λ b. is_set_body (if b then record x { body = closed_body g s.set left total x.body } else x).body ≡ is_set_body x.body) [ true ↦ stays x.body | false ↦ refl ])
      (object_of s m)
    where
      left : ℕ
      left = handle_count_in (without_handle s h.process h.value) h.process h.object

      total : ℕ
      total = handle_count (without_handle s h.process h.value) h.object

      stays : (body : Body F I) → is_set_body (closed_body g s.set left total body) ≡ is_set_body body
      stays (Directory shadow) = refl
      stays (Link target) = refl
      stays (Other face inner) = refl

  -- settling leaves how many handles lead to an object of the set: what goes has no handle
  pub count-settle : (s : State K T F I) (o : ℕ) → set_count (settle g s) o ≡ set_count s o
  count-settle s o = go (is_alive s o) refl (has_handle s o) refl
    where
      go : (a : Bool) → is_alive s o ≡ a → (b : Bool) → has_handle s o ≡ b → set_count (settle g s) o ≡ set_count s o
      go true alive b held = ap (λ found. cond (is_set_found found) (handle_count s o) 0) (object_of-settle g s o alive)
      go false dead true held = absurd (false≢true (sym dead ∙ alive_from_handle s o held))
      go false dead false held = none_either (is_of_set (settle g s) o) (is_of_set s o) (handle_count s o) (none_counted (λ h. h.object == o) s.handles held)

  -- what has a handle is of the set after settling if it was before
  pub of_set-settle : (s : State K T F I) (o : ℕ) → has_handle s o ≡ true → is_of_set (settle g s) o ≡ is_of_set s o
  of_set-settle s o held = ap is_set_found (object_of-settle g s o (alive_from_handle s o held))

module _ {K T F I : Type 0} where
  -- making an object permanent or temporary leaves its handles
  pub count-turned : (s : State K T F I) (o m : ℕ) (permanent : Bool) → set_count (turned s o permanent) m ≡ set_count s m
  count-turned s o m permanent =
      turned_either (λ t. set_count t m ≡ set_count s m) s o permanent refl
      (ap (λ found. cond (is_set_found found) (handle_count s m) 0) (find_id-map (turned_object o permanent) (turned_object-id o permanent) (turned_object-is_directory o permanent) m s.objects)
      ∙ ap (λ b. cond b (handle_count s m) 0) (set_found-map {F = F} {I = I} (turned_object o permanent)
      (λ x. elim (x.id == o) as (λ b. is_set_body (if b then record x { permanent = permanent } else x).body ≡ is_set_body x.body) [ true ↦ refl | false ↦ refl ])
      (object_of s m)))

  -- an object that comes, where none was, has no handle yet
  pub count-inserted : (s : State K T F I) (x : Object F I) (o : ℕ) → IsSound s → object_of s x.id ≡ None
      → cond (is_set_found (find (λ y. y.id == o) (insert_object x s.objects))) (handle_count s o) 0 ≡ set_count s o
  count-inserted s x o sound free = go (x.id == o) refl
    where
      go : (b : Bool) → (x.id == o) ≡ b → cond (is_set_found (find (λ y. y.id == o) (insert_object x s.objects))) (handle_count s o) 0 ≡ set_count s o
      go true e = none_either _ (is_of_set s o) (handle_count s o) (none_held s o (subst (λ n. object_of s n ≡ None) (eqb-true x.id o e) free) s.handles sound.handles.standing)
      go false e = ap (λ found. cond (is_set_found found) (handle_count s o) 0) (in_order-others (λ y. y.id) (λ y. y.id == o) x s.objects e)

  -- no object is under a number that wasn't drawn, nor under one that none has
  pub undrawn : (s : State K T F I) (o : ℕ) → IsSound s → s.next_id ≤ o → object_of s o ≡ None
  undrawn s o sound above = go (object_of s o) refl
    where
      go : (found : Option (Object F I)) → object_of s o ≡ found → found ≡ None
      go None e = refl
      go (Some x) e = let less = stands_drawn s.next_id s.objects o sound.objects.drawn (ap is_some e) in absurd (omega (arith, less, above))

-- an object is under no number that none has
pub none_numbered : {F I : Type 0} (n : ℕ) (xs : List (Object F I)) → All (λ y. y.id ≢ n) xs → find (λ x. x.id == n) xs ≡ None
none_numbered n [] free = refl
none_numbered {F} {I} n (x ∷ xs) free =
    ap (λ b. cond b (Some x) (find (λ y. y.id == n) xs)) (ne_eqb x.id n (All-head (λ y. y.id ≢ n) x xs free)) ∙ none_numbered n xs (All-tail (λ y. y.id ≢ n) x xs free)

module _ {K T F I : Type 0} where
  -- the state in which the end of a pending open is judged
  pub count-parsed : (s : State K T F I) (ticket : ℕ) (outcome : Option (ParseOutcome F I)) (o : ℕ) → IsSound s → All (λ y. y.id ≢ ticket) s.objects
      → set_count (parsed_state s ticket outcome) o ≡ set_count s o
  count-parsed s ticket None o sound free = refl
  count-parsed s ticket (Some EndsItself) o sound free = refl
  count-parsed s ticket (Some (EndsReparse text)) o sound free = refl
  count-parsed s ticket (Some (EndsRefused k)) o sound free = refl
  count-parsed s ticket (Some (EndsMade face inner)) o sound free =
      count-inserted s (record { id = ticket; body = Other face inner; permanent = false; exclusive = false }) o sound (none_numbered ticket s.objects free)

-- ---- the calls of a grant

pub last_passes : (a b : Bool) → b ≡ true → (a || (b || false)) ≡ true
last_passes true b e = refl
last_passes false b e = ap (λ c. c || false) e

-- from n handles to m, of an object that is one of the set or isn't, where one comes that leads to it or doesn't
one_grant_tells : (n m count : ℕ) (was there leads : Bool) (reason : Reason) → (leads ≡ true → there ≡ was) → n ≡ cond was count 0 → m ≡ cond was (count + cond leads 1 0) 0
    → Tells n (if there && leads then Opened reason ∷ [] else []) m
one_grant_tells n m count true true true reason same before after = omega (arith, before, after)
one_grant_tells n m count false true true reason same before after = absurd (false≢true (sym (same refl)))
one_grant_tells n m count true true false reason same before after = omega (arith, before, after)
one_grant_tells n m count false true false reason same before after = omega (arith, before, after)
one_grant_tells n m count true false true reason same before after = absurd (false≢true (same refl))
one_grant_tells n m count false false true reason same before after = omega (arith, before, after)
one_grant_tells n m count true false false reason same before after = omega (arith, before, after)
one_grant_tells n m count false false false reason same before after = omega (arith, before, after)

module _ {K T F I : Type 0} where
  -- a grant closes and deletes nothing
  pub granted_leaves : (reason : Reason) (t : State K T F I) (p : ℕ) (given : Option ℕ) (o left : ℕ) → Leaves left (calls_of_grant reason t p given o)
  granted_leaves reason t p given o left = elim (is_of_set t o && leads_to (option_and_then (held_of t p) given) o) as (λ b. Leaves left (if b then Opened reason ∷ [] else [])) [ true ↦ tt | false ↦ tt ]

  pub granted_undeleted : (reason : Reason) (t : State K T F I) (p : ℕ) (given : Option ℕ) (o : ℕ) → has_delete (calls_of_grant reason t p given o) ≡ false
  granted_undeleted reason t p given o = elim (is_of_set t o && leads_to (option_and_then (held_of t p) given) o) as (λ b. has_delete (if b then Opened reason ∷ [] else []) ≡ false) [ true ↦ refl | false ↦ refl ]

  -- where no handle is given nothing is opened
  pub ungranted : (reason : Reason) (t : State K T F I) (p o : ℕ) → calls_of_grant reason t p None o ≡ []
  ungranted reason t p o = go (is_of_set t o)
    where
      go : (b : Bool) → (if b && false then Opened reason ∷ [] else []) ≡ []
      go true = refl
      go false = refl

module _ {K T F I : Type 0} (g : Procedures K T F I) (s u : State K T F I) (new : Held) (handles : u.handles ≡ s.handles ++ new ∷ [])
    (free : held_of s new.process new.value ≡ None) (o : ℕ) (agree : cond (is_of_set u o) (handle_count s o) 0 ≡ set_count s o) (reason : Reason) where
  -- a process is given a handle of a value that it didn't use
  itself : is_handle new.process new.value new ≡ true
  itself = (λ i. eq-eqb new.process new.process refl i && (new.value == new.value)) ∙ eq-eqb new.value new.value refl

  found : held_of u new.process new.value ≡ Some new
  found =
      ap (find (is_handle new.process new.value)) handles ∙ find-append (is_handle new.process new.value) s.handles (new ∷ [])
      ∙ ap (λ (x : Option Held). option_or x (find (is_handle new.process new.value) (new ∷ []))) free ∙ ap (λ b. cond b (Some new) None) itself

  one_more : handle_count u o ≡ handle_count s o + cond (new.object == o) 1 0
  one_more = ap (count_by (λ h. h.object == o)) handles ∙ sum_by_push (λ h. cond (h.object == o) 1 0) s.handles new

  held_then : (new.object == o) ≡ true → has_handle u o ≡ true
  held_then e = ap (list_any (λ h. h.object == o)) handles ∙ list_any-append (λ h. h.object == o) s.handles (new ∷ []) ∙ last_passes (list_any (λ h. h.object == o) s.handles) (new.object == o) e

  pub given_tells : Tells (set_count s o) (calls_of_grant reason (settle g u) new.process (Some new.value) o) (set_count (settle g u) o)
  given_tells =
      subst (λ (x : Option Held). Tells (set_count s o) (if is_of_set (settle g u) o && leads_to x o then Opened reason ∷ [] else []) (set_count (settle g u) o)) (sym found)
      (one_grant_tells (set_count s o) (set_count (settle g u) o) (handle_count s o) (is_of_set u o) (is_of_set (settle g u) o) (new.object == o) reason
      (λ e. of_set-settle g u o (held_then e)) (sym agree) (count-settle g u o ∙ ap (λ n. cond (is_of_set u o) n 0) one_more))
