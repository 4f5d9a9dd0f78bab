-- A close, put together of what its parts ensure.
use Rattle.std.proofs.Common.{◌≡◌, ℕ, ◌==◌, true, false, ◌&&◌, ◌||◌, not, Bool, cond, List, [], ◌∷◌, find, filter, get_or, eqb-true, refl, ap, ◌∙◌, sym, subst}
use Rattle.std.specs.Prelude.{Option, Some, None, option_map}
use Rattle.std.specs.List.{list_any}
use Rattle.std.specs.Option.{option_and_then, option_map_or}
use Rattle.std.proofs.lemmas.Bool.{false≢true, and_parts, or_right}
use Rattle.std.proofs.lemmas.List.Elements.{All-map}
use Rattle.std.proofs.lemmas.List.Folds.{list_any-append}
use Rattle.ob_model.specs.declared.state.Held.{Held}
use Rattle.ob_model.specs.declared.state.Object.{Object}
use Rattle.ob_model.specs.declared.state.Row.{Row}
use Rattle.ob_model.specs.State.{State, root_id, held_of, object_of, handle_count, handle_count_in}
use Rattle.ob_model.specs.Settle.{IsSettled, is_permanent, has_handle, has_name, is_kept, is_alive_itself, is_alive, is_pinned, is_mapped}
use Rattle.ob_model.specs.Sound.{IsSound}
use Rattle.ob_model.specs.Procedures.{Procedures}
use Rattle.ob_model.specs.Closing.{is_handle, without_handle, closed_body, closed_object, closed_handle}
use Rattle.ob_model.proofs.Soundness.{find_id-map, closed_object-id, closed_object-is_directory, closed_object-shadow, closed_sound}
use Rattle.ob_model.proofs.Staying.{shadows_map}
use Rattle.ob_commands.proofs.Alive.{alive_too}
use Rattle.ob_life.specs.Settling.{AreShadowsFit, with_handle_to}
use Rattle.ob_life.proofs.HandleClosed.{held_alone}
use Rattle.ob_space.proofs.Handles.{found_passes}
use Rattle.ob_space.proofs.Orders.{any_stays}

-- a handle that a process names is found under its own process and value
pub found_itself : {K T F I : Type 0} (s : State K T F I) (p : ℕ) (key : Option ℕ) (h : Held) → option_and_then (held_of s p) key ≡ Some h → held_of s h.process h.value ≡ Some h
found_itself s p None h e = cc
found_itself s p (Some value) h e =
    let both = and_parts (h.process == p) (h.value == value) (found_passes (is_handle p value) s.handles h e) in
    (λ i. held_of s (eqb-true h.process p both.0 i) (eqb-true h.value value both.1 i)) ∙ e

-- what is found is there
some_found : {X : Type 0} (test other : X → Bool) (xs : List X) (x : X) → find test xs ≡ Some x → other x ≡ true → list_any other xs ≡ true
some_found test other [] x e passes = cc
some_found test other (y ∷ ys) x e passes = go (test y) e (λ f. some_found test other ys x f passes)
  where
    go : (b : Bool) → cond b (Some y) (find test ys) ≡ Some x → (find test ys ≡ Some x → list_any other ys ≡ true) → (other y || list_any other ys) ≡ true
    go true e rest = let same : y ≡ x = cc in ap (λ b. b || list_any other ys) (ap other same ∙ passes)
    go false e rest = ap (λ b. other y || b) (rest e) ∙ or_right (other y) true refl

or_none : (b : Bool) → (b || false) ≡ b
or_none true = refl
or_none false = refl

-- A close of a handle of a settled state leaves one that is settled with one handle more to its object: that
-- state has the objects and the rows of the first, and handles to the same objects.
module _ {K T F I : Type 0} (g : Procedures K T F I) (s : State K T F I) (h : Held) (sound : IsSound s) (held : held_of s h.process h.value ≡ Some h) where
  abbrev u : State K T F I
  u = with_handle_to (closed_handle g s h) h.object

  handle_same : (o : ℕ) → has_handle u o ≡ has_handle s o
  handle_same o =
      list_any-append (λ (x : Held). x.object == o) (filter (λ k. not (is_handle h.process h.value k)) s.handles) _ ∙ go (h.object == o) refl
    where
      left : List Held
      left = filter (λ k. not (is_handle h.process h.value k)) s.handles

      not_true : (b : Bool) → (b ≡ true → ⊥) → not b ≡ true
      not_true true never = absurd (never refl)
      not_true false never = refl

      go : (b : Bool) → (h.object == o) ≡ b → (list_any (λ x. x.object == o) (filter (λ k. not (is_handle h.process h.value k)) s.handles) || (b || false)) ≡ has_handle s o
      go true e = or_right (list_any (λ x. x.object == o) left) true refl ∙ sym (some_found (is_handle h.process h.value) (λ x. x.object == o) s.handles h held e)
      go false e =
          or_none (list_any (λ x. x.object == o) left)
          ∙ any_stays (λ x. x.object == o) (λ k. not (is_handle h.process h.value k)) s.handles
          (λ k d below at. not_true (is_handle h.process h.value (get_or s.handles k d))
          (λ taken. false≢true (sym e ∙ ap (λ n. n == o) (sym (held_alone s h.process h.value h sound held k d below taken)) ∙ at)))

  left_count : ℕ
  left_count = handle_count_in (without_handle s h.process h.value) h.process h.object

  all_count : ℕ
  all_count = handle_count (without_handle s h.process h.value) h.object

  permanent_same : (o : ℕ) → is_permanent u o ≡ is_permanent s o
  unfolding left_count all_count
  permanent_same o =
      ap (λ (x : Option (Object F I)). option_map_or (λ y. y.permanent) x false)
      (find_id-map (closed_object g s.set h.object left_count all_count) (closed_object-id g s.set h.object left_count all_count) (closed_object-is_directory g s.set h.object left_count all_count) o s.objects)
      ∙ go (object_of s o)
    where
      stays : (x : Object F I) → (closed_object g s.set h.object left_count all_count x).permanent ≡ x.permanent
      stays x = by (x.id == h.object)
        where
          by : (b : Bool) → (cond b (record x { body = closed_body g s.set left_count all_count x.body }) x).permanent ≡ x.permanent
          by true = refl
          by false = refl

      go : (x : Option (Object F I)) → option_map_or (λ y. y.permanent) (option_map (closed_object g s.set h.object left_count all_count) x) false ≡ option_map_or (λ y. y.permanent) x false
      go None = refl
      go (Some x) = stays x

  kept_same : (r : Row) → is_kept u r ≡ is_kept s r
  kept_same r = λ i. permanent_same r.object i || handle_same r.object i

  itself_same : (o : ℕ) → is_alive_itself u o ≡ is_alive_itself s o
  itself_same o = λ i. (o == root_id) || handle_same o i || is_pinned s o || is_mapped s o || (permanent_same o i && has_name s o) || list_any (λ r. (r.directory == o) && kept_same r i) s.rows

  alive_still : (o : ℕ) → is_alive s o ≡ true → is_alive u o ≡ true
  unfolding left_count all_count
  alive_still =
      alive_too s u
      (shadows_map (closed_object g s.set h.object left_count all_count) (closed_object-id g s.set h.object left_count all_count) (closed_object-shadow g s.set h.object left_count all_count) s.objects)
      (λ o alive. itself_same o ∙ alive)

  was_settled : IsSettled s → IsSettled u
  unfolding left_count all_count
  was_settled settled = record {
    names = λ k d below. kept_same (get_or s.rows k d) ∙ settled.names k d below;
    objects = All-map (λ x. is_alive u x.id ≡ true) (closed_object g s.set h.object left_count all_count) s.objects
        (λ k d below. ap (is_alive u) (closed_object-id g s.set h.object left_count all_count (get_or s.objects k d)) ∙ alive_still (get_or s.objects k d).id (settled.objects k d below));
  }

  -- the shadows of the state that a close leaves are fit
  pub closed_fit : (t : State K T F I) → t ≡ closed_handle g s h → AreShadowsFit t
  closed_fit t is =
      let left = closed_sound g s h sound in
      subst (λ (v : State K T F I). AreShadowsFit v) (sym is) (record { inside = left.rows.inside; shadows = left.objects.shadows })

  -- the state that a close leaves was settled with that handle
  pub closed_was_settled : (t : State K T F I) → IsSettled s → t ≡ closed_handle g s h → IsSettled (with_handle_to t h.object)
  closed_was_settled t settled is = subst (λ (v : State K T F I). IsSettled (with_handle_to v h.object)) (sym is) (was_settled settled)
