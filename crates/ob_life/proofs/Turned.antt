-- An object that is made permanent or temporary, put together of what its parts ensure.
use Rattle.std.proofs.Common.{◌≡◌, ◌∙◌, ℕ, ◌<◌, ◌==◌, ◌&&◌, ◌||◌, Bool, true, false, not, cond, if◌then◌else◌, List, [], ◌∷◌, find, get_or, refl, ap, sym, subst, eq-eqb}
use Rattle.std.specs.Prelude.{Option, None, Some, MatchOption}
use Rattle.std.specs.List.{list_any}
use Rattle.std.specs.Option.{option_and_then, option_map, is_some}
use Rattle.std.proofs.lemmas.List.Elements.{All-map, All-weaker}
use Rattle.ob_base.specs.Handle.{key_of}
use Rattle.ob_base.specs.declared.status.Status.TheVariants.{Success, ProcessGone, InvalidHandle}
use Rattle.ob_model.specs.declared.reply.Answer.{Answer}
use Rattle.ob_model.specs.declared.state.Held.{Held}
use Rattle.ob_model.specs.declared.state.Object.{Object}
use Rattle.ob_model.specs.declared.state.Row.{Row}
use Rattle.ob_model.specs.State.{State, root_id, is_live, held_of}
use Rattle.ob_model.specs.Closing.{is_handle}
use Rattle.ob_model.specs.Grants.{first_refusal}
use Rattle.ob_model.specs.Permanence.{turned_object, with_permanence, turned}
use Rattle.ob_model.specs.Procedures.{Procedures}
use Rattle.ob_model.specs.Refusals.{IsRefused, answers}
use Rattle.ob_model.specs.Settle.{IsSettled, settle, has_handle, has_name}
use Rattle.ob_model.specs.Step.{Turns}
use Rattle.ob_model.proofs.Soundness.{is_directory-map, stands-map, sound_rows}
use Rattle.ob_model.proofs.Staying.{settled_itself, turned_settled}
use Rattle.ob_model.proofs.Turned.{turned_object-id, turned_object-is_directory}
use Rattle.ob_objects.specs.Changes as store
use Rattle.ob_objects.specs.Store.{Entries, objects_of, rows_of}
use Rattle.ob_objects.proofs.Shown.{permanence_is_objects}
use Rattle.ob_space.specs.Namespace.{Parts, state_of}
use Rattle.ob_space.specs.Orderly.{IsOrderly, IsIdleUnheld}
use Rattle.ob_space.proofs.Orders.{pairs-map}
use Rattle.ob_space.proofs.Stepping.{is_done}

-- some element passes a test exactly where a search for one finds it
pub any_found : {X : Type 0} (test : X → Bool) (xs : List X) → is_some (find test xs) ≡ list_any test xs
any_found test [] = refl
any_found test (x ∷ xs) = go (test x) (any_found test xs)
  where
    go : (b : Bool) → is_some (find test xs) ≡ list_any test xs → is_some (cond b (Some x) (find test xs)) ≡ (b || list_any test xs)
    go true rest = refl
    go false rest = rest

-- a name that was told is there, whatever was made of it
pub told_named : {X : Type 0} (row_of : X → Row) (o : ℕ) (rows : List Row) (named : Option X) → option_map row_of named ≡ find (λ r. r.object == o) rows → is_some named ≡ list_any (λ r. r.object == o) rows
told_named row_of o rows named told = go named ∙ ap is_some told ∙ any_found (λ r. r.object == o) rows
  where
    go : (found : Option _) → is_some found ≡ is_some (option_map row_of found)
    go None = refl
    go (Some x) = refl

-- what a search finds is among the elements
found_any : {X : Type 0} (test other : X → Bool) (xs : List X) (x : X) → find test xs ≡ Some x → other x ≡ true → list_any other xs ≡ true
found_any test other [] x found passes = cc
found_any test other (y ∷ ys) x found passes = go (test y) found (found_any test other ys x)
  where
    go : (b : Bool) → cond b (Some y) (find test ys) ≡ Some x → (find test ys ≡ Some x → other x ≡ true → list_any other ys ≡ true) → (other y || list_any other ys) ≡ true
    go true found rest = let same : y ≡ x = cc in ap (λ b. b || list_any other ys) (ap other same ∙ passes)
    go false found rest = either (other y) (rest found passes)
      where
        either : (b : Bool) → list_any other ys ≡ true → (b || list_any other ys) ≡ true
        either true more = refl
        either false more = more

module _ {K T F I : Type 0} (s : State K T F I) where
  -- the object of a handle that a process names has that handle
  pub has_its_handle : (p : ℕ) (key : Option ℕ) (h : Held) → option_and_then (held_of s p) key ≡ Some h → has_handle s h.object ≡ true
  has_its_handle p None h found = cc
  has_its_handle p (Some value) h found = found_any (is_handle p value) (λ k. k.object == h.object) s.handles h found (eq-eqb h.object h.object refl)

-- the object turned, where it may be
module _ {K T F I : Type 0} (idle : I → Type 0) (s : State K T F I) (o : ℕ) (permanent : Bool) where
  -- an orderly state stays orderly
  pub turned_orderly : IsOrderly idle s → IsOrderly idle (with_permanence s o permanent)
  turned_orderly orderly =
      let f : Object F I → Object F I = turned_object o permanent in
      record {
        root = is_directory-map f (turned_object-id o permanent) (turned_object-is_directory o permanent) root_id s.objects ∙ orderly.root;
        rising = pairs-map (λ a b. a.id < b.id) f s.objects
            (λ i j d less below. subst (λ (n : ℕ). n < (f (get_or s.objects j d)).id) (sym (turned_object-id o permanent (get_or s.objects i d)))
            (subst (λ (n : ℕ). (get_or s.objects i d).id < n) (sym (turned_object-id o permanent (get_or s.objects j d))) (orderly.rising i j d less below)));
        drawn = All-map (λ x. x.id < s.next_id) f s.objects (λ k d below. subst (λ (n : ℕ). n < s.next_id) (sym (turned_object-id o permanent (get_or s.objects k d))) (orderly.drawn k d below));
        standing = sound_rows s (with_permanence s o permanent) (λ m k. stands-map f (turned_object-id o permanent) (turned_object-is_directory o permanent) m s.objects ∙ k) s.rows orderly.standing;
        descending = orderly.descending;
        stamped = orderly.stamped;
        unheld = All-map (IsIdleUnheld idle s.handles) f s.objects (All-weaker (IsIdleUnheld idle s.handles) (λ x. IsIdleUnheld idle s.handles (f x)) turned_unheld s.objects orderly.unheld);
        opened = orderly.opened;
        numbered = orderly.numbered;
        few_handles = orderly.few_handles;
        few_processes = orderly.few_processes;
      }
    where
      turned_unheld : (x : Object F I) → IsIdleUnheld idle s.handles x → IsIdleUnheld idle s.handles (turned_object o permanent x)
      turned_unheld x before = go (x.id == o)
        where
          go : (b : Bool) → IsIdleUnheld idle s.handles (cond b (record x { permanent = permanent }) x)
          go true = before
          go false = before

-- the store with an object of other permanence is the state with it
stored_turned : (K : Type 0) {T F I : Type 0} (a : Parts K T F I) (stored : Entries F I) (o : ℕ) (permanent : Bool) → stored ≡ store.with_permanence a.store o permanent
    → state_of K (record a { store = stored }) ≡ with_permanence (state_of K a) o permanent
stored_turned K a stored o permanent is =
    let both = permanence_is_objects a.store o permanent in
    (λ i. record (state_of K a) { objects = (ap objects_of is ∙ both.0) i; rows = (ap rows_of is ∙ both.1) i })

-- and so where another state is that of its parts
pub turned_space : (K : Type 0) {T F I : Type 0} (a : Parts K T F I) (s : State K T F I) → state_of K a ≡ s → (stored : Entries F I) (o : ℕ) (permanent : Bool) → stored ≡ store.with_permanence a.store o permanent
    → state_of K (record a { store = stored }) ≡ with_permanence s o permanent
turned_space K a s shown stored o permanent is = stored_turned K a stored o permanent is ∙ ap (λ (u : State _ _ _ _). with_permanence u o permanent) shown

-- a temporary object is made, or a permanent one of one that has a name; and one without a name is left
module _ {K T F I : Type 0} (s : State K T F I) (o : ℕ) where
  pub turns_it : (permanent : Bool) → (permanent ≡ true → has_name s o ≡ true) → with_permanence s o permanent ≡ turned s o permanent
  turns_it true named = ap (λ b. if not b then s else with_permanence s o true) (sym (named refl))
  turns_it false named = refl

  pub leaves_it : (permanent : Bool) → permanent ≡ true → has_name s o ≡ false → s ≡ turned s o permanent
  leaves_it permanent asked none = (λ i. if sym asked i && not (sym none i) then s else with_permanence s o permanent)

-- a step that makes an object permanent or temporary
pub turns : {K T F I : Type 0} (g : Procedures K T F I) (s t : State K T F I) (p handle : ℕ) (permanent : Bool) (answer : Answer) (h : Held) → IsSettled s → is_live s p ≡ true
    → option_and_then (held_of s p) (key_of handle) ≡ Some h → answer ≡ answers Success → t ≡ turned s h.object permanent → Turns g s p handle permanent answer t
turns g s t p handle permanent answer h settled live found told is =
    is_done ((not (is_live s p), ProcessGone) ∷ []) s answer t _ (ap (λ (b : Bool). first_refusal ((not b, ProcessGone) ∷ [])) live)
    (subst (λ (o : Option Held). MatchOption o (IsRefused s InvalidHandle answer t) (λ x. (answer ≡ answers Success) × (t ≡ settle g (turned s x.object permanent)))) (sym found)
    (told, is ∙ sym (settled_itself g (turned s h.object permanent) (turned_settled s h.object permanent settled (has_its_handle s p (key_of handle) h found)))))
