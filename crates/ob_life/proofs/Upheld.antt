-- An object to which a handle is left, or which is permanent and has a name, is upheld: where one handle more would
-- leave a settled state, the state is settled as it is.
use Rattle.std.proofs.Common.{◌≡◌, ◌∙◌, ℕ, Bool, true, false, ◌||◌, ◌&&◌, ◌==◌, refl, ap, sym, subst, eqb-true}
use Rattle.std.specs.List.{list_any, find}
use Rattle.std.specs.Option.{is_some}
use Rattle.std.proofs.lemmas.Bool.{or_right}
use Rattle.std.proofs.lemmas.List.Elements.{All-weaker}
use Rattle.std.proofs.lemmas.List.Folds.{list_any-append}
use Rattle.ob_model.specs.declared.state.Held.{Held}
use Rattle.ob_model.specs.declared.state.Row.{Row}
use Rattle.ob_model.specs.Procedures.{Procedures}
use Rattle.ob_model.specs.State.{State, root_id}
use Rattle.ob_model.specs.Settle.{has_shadow, is_kept, is_alive_itself, is_alive, is_permanent, has_handle, has_name, is_pinned, is_mapped, holds_kept, settle, IsSettled}
use Rattle.ob_model.proofs.Staying.{settled_itself}
use Rattle.ob_objects.specs.declared.standing.Standing.{Standing}
use Rattle.ob_objects.specs.Named.{place_of}
use Rattle.ob_objects.specs.Standing.{standing_among}
use Rattle.ob_objects.proofs.Stands.{any_found, is_mapped_some}
use Rattle.ob_life.specs.Settling.{is_upheld, with_handle_to}
use Rattle.ob_life.proofs.Judged.{or_none}

-- a handle more to what has one, or is permanent, keeps no further name
kept_both : (p h n : Bool) → (h || (p && n)) ≡ true → (p || (h || true)) ≡ (p || h)
kept_both true h n e = refl
kept_both false true n e = refl
kept_both false false n e = cc

-- nor does it keep another object
alive_both : (root h pin map q holds : Bool) → (h || q) ≡ true → (root || (h || true) || pin || map || q || holds) ≡ (root || h || pin || map || q || holds)
alive_both true h pin map q holds e = refl
alive_both false true pin map q holds e = refl
alive_both false false true map q holds e = refl
alive_both false false false true q holds e = refl
alive_both false false false false true holds e = refl
alive_both false false false false false holds e = cc

-- what has a handle is upheld
pub held_upheld : {K T F I : Type 0} (s : State K T F I) (o : ℕ) → has_handle s o ≡ true → is_upheld s o ≡ true
held_upheld s o held = ap (λ b. b || (is_permanent s o && has_name s o)) held

-- and what is permanent and has a name, as it is told
pub named_upheld : {K T F I : Type 0} (s : State K T F I) (o : ℕ) (standing : Standing) → standing ≡ standing_among s.objects s.rows o → (standing.permanent && is_some standing.place) ≡ true → is_upheld s o ≡ true
named_upheld s o standing told named =
    or_right (has_handle s o) (is_permanent s o && has_name s o)
    (ap (λ b. is_permanent s o && b) (any_found (λ r. r.object == o) s.rows ∙ sym (is_mapped_some place_of (find (λ r. r.object == o) s.rows)))
    ∙ ap (λ (x : Standing). x.permanent && is_some x.place) (sym told) ∙ named)

module _ {K T F I : Type 0} (s : State K T F I) (o : ℕ) (upheld : is_upheld s o ≡ true) where
  handle_more : (x : ℕ) → has_handle (with_handle_to s o) x ≡ (has_handle s x || ((o == x) || false))
  handle_more x = list_any-append (λ (h : Held). h.object == x) s.handles _

  at : (x : ℕ) → (o == x) ≡ true → is_upheld s x ≡ true
  at x same = subst (λ (m : ℕ). is_upheld s m ≡ true) (eqb-true o x same) upheld

  other : (x : ℕ) → (o == x) ≡ false → has_handle (with_handle_to s o) x ≡ has_handle s x
  other x apart = handle_more x ∙ ap (λ b. has_handle s x || (b || false)) apart ∙ or_none (has_handle s x)

  one : (x : ℕ) → (o == x) ≡ true → has_handle (with_handle_to s o) x ≡ (has_handle s x || true)
  one x same = handle_more x ∙ ap (λ b. has_handle s x || (b || false)) same

  kept_as : (r : Row) → is_kept (with_handle_to s o) r ≡ is_kept s r
  kept_as r = go (o == r.object) refl
    where
      go : (b : Bool) → (o == r.object) ≡ b → is_kept (with_handle_to s o) r ≡ is_kept s r
      go true e = ap (λ b. is_permanent s r.object || b) (one r.object e) ∙ kept_both (is_permanent s r.object) (has_handle s r.object) (has_name s r.object) (at r.object e)
      go false e = ap (λ b. is_permanent s r.object || b) (other r.object e)

  holds_as : (x : ℕ) → holds_kept (with_handle_to s o) x ≡ holds_kept s x
  holds_as x = λ i. list_any (λ r. (r.directory == x) && kept_as r i) s.rows

  -- whether an object stays, by whether it has a handle
  abbrev stays_by : ℕ → Bool → Bool
  stays_by x b = (x == root_id) || b || is_pinned s x || is_mapped s x || (is_permanent s x && has_name s x) || holds_kept s x

  itself_as : (x : ℕ) → is_alive_itself (with_handle_to s o) x ≡ is_alive_itself s x
  itself_as x = ap (λ b. (x == root_id) || has_handle (with_handle_to s o) x || is_pinned s x || is_mapped s x || (is_permanent s x && has_name s x) || b) (holds_as x) ∙ go (o == x) refl
    where
      go : (b : Bool) → (o == x) ≡ b → stays_by x (has_handle (with_handle_to s o) x) ≡ stays_by x (has_handle s x)
      go true e = ap (stays_by x) (one x e) ∙ alive_both (x == root_id) (has_handle s x) (is_pinned s x) (is_mapped s x) (is_permanent s x && has_name s x) (holds_kept s x) (at x e)
      go false e = ap (stays_by x) (other x e)

  alive_as : (x : ℕ) → is_alive (with_handle_to s o) x ≡ is_alive s x
  alive_as x = λ i. itself_as x i || list_any (λ y. has_shadow x y.body && itself_as y.id i) s.objects

  settled_as : IsSettled (with_handle_to s o) → IsSettled s
  settled_as settled = record {
    names = All-weaker (λ r. is_kept (with_handle_to s o) r ≡ true) (λ r. is_kept s r ≡ true) (λ r kept. sym (kept_as r) ∙ kept) s.rows settled.names;
    objects = All-weaker (λ x. is_alive (with_handle_to s o) x.id ≡ true) (λ x. is_alive s x.id ≡ true) (λ x alive. sym (alive_as x.id) ∙ alive) s.objects settled.objects;
  }

  pub nothing_goes : (g : Procedures K T F I) → IsSettled (with_handle_to s o) → s ≡ settle g s
  nothing_goes g settled = sym (settled_itself g s (settled_as settled))
