-- A state whose last handle has another value: what settles doesn't read it, and a handle that comes is last.
use Rattle.std.proofs.Common.{◌≡◌, ◌∙◌, ℕ, ◌+◌, ◌==◌, Bool, ◌&&◌, ◌||◌, not, List, [], ◌∷◌, ◌++◌, filter, refl, ap, sym}
use Rattle.std.specs.List.{list_any}
use Rattle.ob_model.specs.declared.state.Held.{Held}
use Rattle.ob_model.specs.declared.state.Row.{Row}
use Rattle.ob_model.specs.State.{State, root_id}
use Rattle.ob_model.specs.Procedures.{Procedures}
use Rattle.ob_model.specs.Settle.{has_shadow, settle, has_handle, has_name, is_permanent, is_pinned, is_mapped, deleted_all}
use Rattle.ob_model.specs.Grants.{with_handle}
use Rattle.ob_model.specs.Choice.{with_last_value, revalued}

-- the last of these handles is the one behind the others
pub appended : (value : ℕ) (hs : List Held) (h : Held) → with_last_value value (hs ++ h ∷ []) ≡ hs ++ record h { value = value } ∷ []
appended value [] h = refl
appended value (x ∷ []) h = refl
appended value (x ∷ y ∷ hs) h = ap (λ is. x ∷ is) (appended value (y ∷ hs) h)

-- which objects have handles
pub any_revalued : (value o : ℕ) (hs : List Held) → list_any (λ h. h.object == o) (with_last_value value hs) ≡ list_any (λ h. h.object == o) hs
any_revalued value o [] = refl
any_revalued value o (h ∷ []) = refl
any_revalued value o (h ∷ i ∷ hs) = ap (λ b. (h.object == o) || b) (any_revalued value o (i ∷ hs))

module _ {K T F I : Type 0} where
  has_handle-revalued : (value : ℕ) (s : State K T F I) (o : ℕ) → has_handle (revalued value s) o ≡ has_handle s o
  has_handle-revalued value s o = any_revalued value o s.handles

  -- a handle that comes under one value, and under another
  with_handle-revalued : (value : ℕ) (s : State K T F I) (p chosen o : ℕ) (inherit : Bool) → revalued value (with_handle s p chosen o inherit) ≡ with_handle s p value o inherit
  with_handle-revalued value s p chosen o inherit = λ i. record s {
    handles = appended value s.handles (record { process = p; value = chosen; object = o; inherit = inherit; order = s.next_order }) i;
    next_order = s.next_order + 1;
  }

module _ {K T F I : Type 0} (g : Procedures K T F I) where
  -- what a state settles to, where these objects have handles
  kept_by : (ℕ → Bool) → State K T F I → Row → Bool
  kept_by has s r = is_permanent s r.object || has r.object

  itself_by : (ℕ → Bool) → State K T F I → ℕ → Bool
  itself_by has s o =
      (o == root_id) || has o || is_pinned s o || is_mapped s o || (is_permanent s o && has_name s o) || list_any (λ r. (r.directory == o) && kept_by has s r) s.rows

  alive_by : (ℕ → Bool) → State K T F I → ℕ → Bool
  alive_by has s o = itself_by has s o || list_any (λ x. has_shadow o x.body && itself_by has s x.id) s.objects

  settled_by : (ℕ → Bool) → State K T F I → State K T F I
  settled_by has s = record s {
    objects = filter (λ x. alive_by has s x.id) s.objects;
    rows = filter (kept_by has s) s.rows;
    set = deleted_all g s.set (filter (λ x. not (alive_by has s x.id)) s.objects);
  }

  pub settle-revalued : (value : ℕ) (s : State K T F I) → settle g (revalued value s) ≡ revalued value (settle g s)
  unfolding settled_by alive_by itself_by kept_by
  settle-revalued value s = λ i. settled_by (λ o. has_handle-revalued value s o i) (revalued value s)

  -- a state that settles once a handle has come
  pub granted-revalued : (value : ℕ) (s : State K T F I) (p chosen o : ℕ) (inherit : Bool)
      → revalued value (settle g (with_handle s p chosen o inherit)) ≡ settle g (with_handle s p value o inherit)
  granted-revalued value s p chosen o inherit =
      sym (settle-revalued value (with_handle s p chosen o inherit)) ∙ ap (settle g) (with_handle-revalued value s p chosen o inherit)
