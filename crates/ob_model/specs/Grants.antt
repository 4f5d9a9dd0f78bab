-- Granting a handle: when it is refused, in which order, and what a granted one leaves.
--
-- Sources: OBJECT_ATTRIBUTES structure (OBJ_INHERIT, OBJ_EXCLUSIVE); Windows Internals, Object
-- Manager (handles and the process handle table; open methods). Values are multiples of four (Windows
-- Driver Kit); their range, and the refusals' order, are this profile.
use Rattle.ob_model.specs.declared.terms.GrantOptions.{GrantOptions}
use Rattle.std.specs.Prelude.{◌≡◌, ℕ, ◌+◌, ◌*◌, ◌<◌, ◌≤◌, Bool, false, ◌&&◌, ◌||◌, not, ◌==◌, nat_lt, nat_le, if◌then◌else◌, List, [], ◌∷◌, ◌++◌, map, Option, None, Some, Result, Ok, Err}
use Rattle.std.specs.List.{list_any}
use Rattle.std.specs.Option.{option_map_or, option_map, option_or, option_and_then}
use Rattle.ob_base.specs.declared.status.Status.{Status}
use Rattle.ob_base.specs.declared.status.Status.TheVariants.{InvalidParameter, AccessDenied, InsufficientResources, TypeRefused}
use Rattle.ob_model.specs.declared.state.Body.{Body}
use Rattle.ob_model.specs.declared.state.Body.TheVariants.{Directory, Link, Other}
use Rattle.ob_model.specs.declared.state.Object.{Object}
use Rattle.ob_model.specs.State.{State, body_of, object_of, held_of, table_size, most_handles, greatest_number}
use Rattle.ob_model.specs.declared.terms.Reason.{Reason}
use Rattle.ob_model.specs.Procedures.{Procedures}

-- the first of these refusals whose test holds
abbrev pub first_refusal : List (Bool × Status) → Option Status
first_refusal [] = None
first_refusal (t ∷ ts) = if t.0 then Some t.1 else first_refusal ts

-- the greatest handle value
abbrev pub greatest_handle : ℕ
greatest_handle = 262140

-- a handle value: a multiple of four from 4 to 262,140
abbrev pub IsHandleValue : ℕ → Type 0
IsHandleValue value = (n : ℕ) × (value ≡ 4 * n) × (0 < n) × (value ≤ greatest_handle)

module _ {K T F I : Type 0} where
  -- an object is exclusive
  abbrev pub is_exclusive : State K T F I → ℕ → Bool
  is_exclusive s o = option_map_or (λ x. x.exclusive) (object_of s o) false

  -- a process other than this one has a handle to an object
  abbrev pub has_other_holder : State K T F I → ℕ → ℕ → Bool
  has_other_holder s p o = list_any (λ h. (h.object == o) && not (h.process == p)) s.handles

  -- no more handles fit into a process's table, or no order of opening is left
  abbrev pub is_table_full : State K T F I → ℕ → Bool
  is_table_full s p = nat_le most_handles (table_size s p) || nat_lt greatest_number s.next_order

  -- a value is a handle value that a process doesn't use: the machine may choose any
  abbrev pub IsFreeValue : State K T F I → ℕ → ℕ → Type 0
  IsFreeValue s p value = IsHandleValue value × (held_of s p value ≡ None)

  -- a handle comes to be, with the next order of opening
  abbrev pub with_handle : State K T F I → ℕ → ℕ → ℕ → Bool → State K T F I
  with_handle s p value o inherit = record s {
    handles = s.handles ++ record { process = p; value = value; object = o; inherit = inherit; order = s.next_order } ∷ [];
    next_order = s.next_order + 1;
  }

module _ {K T F I : Type 0} (g : Procedures K T F I) where
  -- the number with which the set refuses to open an object; directories and links have no open
  -- procedure
  abbrev pub open_refusal_of : T → Body F I → Reason → Option ℕ
  open_refusal_of set (Directory shadow) reason = None
  open_refusal_of set (Link target) reason = None
  open_refusal_of set (Other face inner) reason = g.refuses_to_open set inner reason

  abbrev pub open_refusal : State K T F I → ℕ → Reason → Option ℕ
  open_refusal s o reason = option_and_then (λ body. open_refusal_of s.set body reason) (body_of s o)

  -- the refusals of a grant, in their order
  abbrev pub grant_refusal : State K T F I → ℕ → ℕ → GrantOptions → Reason → Option Status
  grant_refusal s p o asked reason =
      option_or
      (first_refusal (
      (asked.exclusive && not (is_exclusive s o), InvalidParameter)
      ∷ (asked.inherit && is_exclusive s o, InvalidParameter)
      ∷ (is_exclusive s o && has_other_holder s p o, AccessDenied)
      ∷ (is_table_full s p, InsufficientResources) ∷ []))
      (option_map TypeRefused (open_refusal s o reason))

  -- what the set's open procedure leaves of a body and of the set's value
  abbrev pub opened_body : T → Body F I → Reason → Body F I
  opened_body set (Directory shadow) reason = Directory shadow
  opened_body set (Link target) reason = Link target
  opened_body set (Other face inner) reason = Other face ((g.opened set inner reason).1)

  abbrev pub opened_set : T → Body F I → Reason → T
  opened_set set (Directory shadow) reason = set
  opened_set set (Link target) reason = set
  opened_set set (Other face inner) reason = (g.opened set inner reason).0

  -- of these objects, the one of this number as its open left it
  abbrev pub opened_object : T → ℕ → Reason → Object F I → Object F I
  opened_object set o reason x = if x.id == o then record x { body = opened_body set x.body reason } else x

  -- the state with an object opened: its inner value and the set's value are as the open left them
  abbrev pub with_open : State K T F I → ℕ → Reason → State K T F I
  with_open s o reason = record s {
    objects = map (opened_object s.set o reason) s.objects;
    set = option_map_or (λ body. opened_set s.set body reason) (body_of s o) s.set;
  }

  -- a grant gives any free value, or is refused and leaves the state as it was
  abbrev pub Grants : State K T F I → ℕ → ℕ → GrantOptions → Reason → Result ℕ Status → State K T F I → Type 0
  Grants s p o asked reason (Ok value) t =
      (grant_refusal s p o asked reason ≡ None) × IsFreeValue s p value × (t ≡ with_handle (with_open s o reason) p value o asked.inherit)
  Grants s p o asked reason (Err status) t = (grant_refusal s p o asked reason ≡ Some status) × (t ≡ s)
