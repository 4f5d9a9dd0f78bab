-- A change that no procedure notices: an open, a close, a delete and a settling after it, and the states after a grant, a
-- create, a child and a process's end.
use Rattle.std.proofs.Common.{◌≡◌, ◌∙◌, ℕ, ◌+◌, ◌==◌, Bool, true, false, ◌&&◌, not, cond, List, [], ◌∷◌, filter, map, Option, None, Some, refl, ap}
use Rattle.std.specs.Option.{option_map, option_map_or, option_and_then, option_or, is_some}
use Rattle.ob_base.specs.Attrs.{has_flag, inherit_flag, permanent_flag, exclusive_flag}
use Rattle.ob_base.specs.declared.status.Status.TheVariants.{InvalidParameter, AccessDenied, InsufficientResources, TypeRefused}
use Rattle.ob_model.specs.declared.state.Body.{Body}
use Rattle.ob_model.specs.declared.state.Body.TheVariants.{Directory, Link, Other}
use Rattle.ob_model.specs.declared.state.Held.{Held}
use Rattle.ob_model.specs.declared.state.Object.{Object}
use Rattle.ob_model.specs.declared.terms.GrantOptions.{GrantOptions}
use Rattle.ob_model.specs.declared.terms.Reason.{Reason}
use Rattle.ob_model.specs.declared.terms.Reason.TheVariants.{Created, Inherited}
use Rattle.ob_model.specs.State.{State, body_of, handle_count, handle_count_in}
use Rattle.ob_model.specs.Procedures.{Procedures, ParseOutcome, EndsItself, EndsMade, EndsReparse, EndsRefused}
use Rattle.ob_model.specs.Settle.{settle, is_alive, has_name, deleted_one, deleted_all}
use Rattle.ob_model.specs.Grants.{first_refusal, is_exclusive, has_other_holder, is_table_full, with_handle, open_refusal_of, open_refusal, grant_refusal, opened_body, opened_set, with_open}
use Rattle.ob_model.specs.Closing.{closed_body, closed_set, with_close, without_handle, closed_handle}
use Rattle.ob_model.specs.Permanence.{turned, with_permanence}
use Rattle.ob_model.specs.Creates.{Spot, with_object, with_row, created, dropped}
use Rattle.ob_model.specs.Parses.{parsed_state}
use Rattle.ob_model.specs.Processes.{handles_in, inherited_from, with_child, without_process, inherits_one, inherits, begun, closed_in_turn, ended}
use Rattle.ob_types.specs.Unnoticed.{IsUnnoticed, with_change}

module _ {K T F I : Type 0} (g : Procedures K T F I) (change : T → T) (unnoticed : IsUnnoticed g change) where
  -- ---- an open

  open_refusal_of-changed : (set : T) (body : Body F I) (reason : Reason) → open_refusal_of g (change set) body reason ≡ open_refusal_of g set body reason
  open_refusal_of-changed set (Directory shadow) reason = refl
  open_refusal_of-changed set (Link target) reason = refl
  open_refusal_of-changed set (Other face inner) reason = unnoticed.refusals set inner reason

  opened_body-changed : (set : T) (body : Body F I) (reason : Reason) → opened_body g (change set) body reason ≡ opened_body g set body reason
  opened_body-changed set (Directory shadow) reason = refl
  opened_body-changed set (Link target) reason = refl
  opened_body-changed set (Other face inner) reason = λ i. Other face ((unnoticed.opens set inner reason i).1)

  opened_set-changed : (set : T) (body : Body F I) (reason : Reason) → opened_set g (change set) body reason ≡ change (opened_set g set body reason)
  opened_set-changed set (Directory shadow) reason = refl
  opened_set-changed set (Link target) reason = refl
  opened_set-changed set (Other face inner) reason = λ i. (unnoticed.opens set inner reason i).0

  pub open_refusal-changed : (s : State K T F I) (o : ℕ) (reason : Reason) → open_refusal g (with_change change s) o reason ≡ open_refusal g s o reason
  open_refusal-changed s o reason = λ i. option_and_then (λ body. open_refusal_of-changed s.set body reason i) (body_of s o)

  pub grant_refusal-changed : (s : State K T F I) (p o : ℕ) (asked : GrantOptions) (reason : Reason) → grant_refusal g (with_change change s) p o asked reason ≡ grant_refusal g s p o asked reason
  grant_refusal-changed s p o asked reason = λ i.
      option_or
      (first_refusal (
      (asked.exclusive && not (is_exclusive s o), InvalidParameter)
      ∷ (asked.inherit && is_exclusive s o, InvalidParameter)
      ∷ (is_exclusive s o && has_other_holder s p o, AccessDenied)
      ∷ (is_table_full s p, InsufficientResources) ∷ []))
      (option_map TypeRefused (open_refusal-changed s o reason i))

  pub with_open-changed : (s : State K T F I) (o : ℕ) (reason : Reason) → with_open g (with_change change s) o reason ≡ with_change change (with_open g s o reason)
  with_open-changed s o reason = λ i. record s {
    objects = map (λ x. cond (x.id == o) (record x { body = opened_body-changed s.set x.body reason i }) x) s.objects;
    set = set (body_of s o) i;
  }
    where
      set : (body : Option (Body F I)) → option_map_or (λ b. opened_set g (change s.set) b reason) body (change s.set) ≡ change (option_map_or (λ b. opened_set g s.set b reason) body s.set)
      set None = refl
      set (Some body) = opened_set-changed s.set body reason

  -- ---- a close

  closed_body-changed : (set : T) (process_left system_left : ℕ) (body : Body F I) → closed_body g (change set) process_left system_left body ≡ closed_body g set process_left system_left body
  closed_body-changed set process_left system_left (Directory shadow) = refl
  closed_body-changed set process_left system_left (Link target) = refl
  closed_body-changed set process_left system_left (Other face inner) = λ i. Other face ((unnoticed.closes set inner process_left system_left i).1)

  closed_set-changed : (set : T) (process_left system_left : ℕ) (body : Body F I) → closed_set g (change set) process_left system_left body ≡ change (closed_set g set process_left system_left body)
  closed_set-changed set process_left system_left (Directory shadow) = refl
  closed_set-changed set process_left system_left (Link target) = refl
  closed_set-changed set process_left system_left (Other face inner) = λ i. (unnoticed.closes set inner process_left system_left i).0

  with_close-changed : (s : State K T F I) (p o : ℕ) → with_close g (with_change change s) p o ≡ with_change change (with_close g s p o)
  with_close-changed s p o = λ i. record s {
    objects = map (λ x. cond (x.id == o) (record x { body = closed_body-changed s.set (handle_count_in s p o) (handle_count s o) x.body i }) x) s.objects;
    set = set (body_of s o) i;
  }
    where
      set : (body : Option (Body F I))
          → option_map_or (closed_set g (change s.set) (handle_count_in s p o) (handle_count s o)) body (change s.set)
          ≡ change (option_map_or (closed_set g s.set (handle_count_in s p o) (handle_count s o)) body s.set)
      set None = refl
      set (Some body) = closed_set-changed s.set (handle_count_in s p o) (handle_count s o) body

  pub closed_handle-changed : (s : State K T F I) (h : Held) → closed_handle g (with_change change s) h ≡ with_change change (closed_handle g s h)
  closed_handle-changed s h = with_close-changed (without_handle s h.process h.value) h.process h.object

  -- ---- deletes, and what settles

  deleted_one-changed : (body : Body F I) (set : T) → deleted_one g body (change set) ≡ change (deleted_one g body set)
  deleted_one-changed (Directory shadow) set = refl
  deleted_one-changed (Link target) set = refl
  deleted_one-changed (Other face inner) set = unnoticed.deletes set inner

  deleted_all-changed : (set : T) (objects : List (Object F I)) → deleted_all g (change set) objects ≡ change (deleted_all g set objects)
  deleted_all-changed set [] = refl
  deleted_all-changed set (o ∷ os) = ap (deleted_one g o.body) (deleted_all-changed set os) ∙ deleted_one-changed o.body (deleted_all g set os)

  pub settle-changed : (s : State K T F I) → settle g (with_change change s) ≡ with_change change (settle g s)
  settle-changed s = λ i. record (settle g s) { set = deleted_all-changed s.set (filter (λ x. not (is_alive s x.id)) s.objects) i }

  -- ---- the states that steps leave before they settle

  pub created-changed : (s : State K T F I) (p : ℕ) (spot : Spot) (body : Body F I) (attrs value : ℕ) → created g (with_change change s) p spot body attrs value ≡ with_change change (created g s p spot body attrs value)
  created-changed s p spot body attrs value = λ i.
      let opened = record s { set = opened_set-changed s.set body Created i } in
      let there = with_object opened (opened_body-changed s.set body Created i) (is_some spot && has_flag permanent_flag attrs) (has_flag exclusive_flag attrs) in
      with_handle (with_row there spot s.next_id) p value s.next_id (has_flag inherit_flag attrs)

  pub dropped-changed : (s : State K T F I) (body : Body F I) → dropped g (with_change change s) body ≡ with_change change (dropped g s body)
  dropped-changed s body = λ i. record s { next_id = s.next_id + 1; set = deleted_one-changed body s.set i }

  pub open_refusal_made-changed : (s : State K T F I) (body : Body F I) → open_refusal_of g (change s.set) body Created ≡ open_refusal_of g s.set body Created
  open_refusal_made-changed s body = open_refusal_of-changed s.set body Created

  pub turned-changed : (s : State K T F I) (o : ℕ) (permanent : Bool) → turned (with_change change s) o permanent ≡ with_change change (turned s o permanent)
  turned-changed s o permanent = go (permanent && not (has_name s o))
    where
      go : (b : Bool) → cond b (with_change change s) (with_permanence (with_change change s) o permanent) ≡ with_change change (cond b s (with_permanence s o permanent))
      go true = refl
      go false = refl

  pub parsed_state-changed : (s : State K T F I) (ticket : ℕ) (outcome : Option (ParseOutcome F I)) → parsed_state (with_change change s) ticket outcome ≡ with_change change (parsed_state s ticket outcome)
  parsed_state-changed s ticket None = refl
  parsed_state-changed s ticket (Some EndsItself) = refl
  parsed_state-changed s ticket (Some (EndsMade face inner)) = refl
  parsed_state-changed s ticket (Some (EndsReparse text)) = refl
  parsed_state-changed s ticket (Some (EndsRefused k)) = refl

  -- a child inherits, and an end closes, one handle after another
  inherits_one-changed : (s : State K T F I) (child : ℕ) (h : Held) → inherits_one g (with_change change s) child h ≡ with_change change (inherits_one g s child h)
  inherits_one-changed s child h =
      (λ i.
      option_map_or (λ _. record (with_change change s) { next_order = s.next_order + 1 }) (open_refusal-changed s h.object Inherited i)
      (with_handle (with_open-changed s h.object Inherited i) child h.value h.object true))
      ∙ go (open_refusal g s h.object Inherited)
    where
      go : (refusal : Option ℕ)
          → option_map_or (λ _. record (with_change change s) { next_order = s.next_order + 1 }) refusal (with_handle (with_change change (with_open g s h.object Inherited)) child h.value h.object true)
          ≡ with_change change (option_map_or (λ _. record s { next_order = s.next_order + 1 }) refusal (with_handle (with_open g s h.object Inherited) child h.value h.object true))
      go None = refl
      go (Some k) = refl

  inherits-changed : (s : State K T F I) (child : ℕ) (hs : List Held) → inherits g (with_change change s) child hs ≡ with_change change (inherits g s child hs)
  inherits-changed s child [] = refl
  inherits-changed s child (h ∷ hs) = ap (λ u. inherits g u child hs) (inherits_one-changed s child h) ∙ inherits-changed (inherits_one g s child h) child hs

  pub begun-changed : (s : State K T F I) (p : ℕ) (inherit : Bool) → begun g (with_change change s) p inherit ≡ with_change change (begun g s p inherit)
  begun-changed s p inherit = inherits-changed (with_child s p) s.next_process (inherited_from s p inherit)

  closed_in_turn-changed : (s : State K T F I) (hs : List Held) → closed_in_turn g (with_change change s) hs ≡ with_change change (closed_in_turn g s hs)
  closed_in_turn-changed s [] = refl
  closed_in_turn-changed s (h ∷ hs) = ap (λ u. closed_in_turn g u hs) (closed_handle-changed s h) ∙ closed_in_turn-changed (closed_handle g s h) hs

  pub ended-changed : (s : State K T F I) (p : ℕ) → ended g (with_change change s) p ≡ with_change change (ended g s p)
  ended-changed s p = ap (λ u. without_process u p) (closed_in_turn-changed s (handles_in s p))
