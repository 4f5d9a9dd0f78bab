-- Closing a handle: what goes, and what the set's close procedure is given and leaves.
--
-- Sources: ZwClose (Windows Driver Kit); Windows Internals, Object Manager (close methods).
use Rattle.std.specs.Prelude.{ℕ, Bool, ◌&&◌, not, ◌==◌, if◌then◌else◌, filter, map}
use Rattle.std.specs.Option.{option_map_or}
use Rattle.ob_model.specs.declared.state.Body.{Body}
use Rattle.ob_model.specs.declared.state.Body.TheVariants.{Directory, Link, Other}
use Rattle.ob_model.specs.declared.state.Object.{Object}
use Rattle.ob_model.specs.declared.state.Held.{Held}
use Rattle.ob_model.specs.State.{State, body_of, handle_count, handle_count_in}
use Rattle.ob_model.specs.Procedures.{Procedures}

-- the handle is the one of this process and value
abbrev pub is_handle : ℕ → ℕ → Held → Bool
is_handle p value h = (h.process == p) && (h.value == value)

-- the state without the handle
abbrev pub without_handle : {K T F I : Type 0} → State K T F I → ℕ → ℕ → State K T F I
without_handle s p value = record s { handles = filter (λ h. not (is_handle p value h)) s.handles }

module _ {K T F I : Type 0} (g : Procedures K T F I) where
  -- what the set's close leaves of a body and of the set's value, given the handles that are left
  abbrev pub closed_body : T → ℕ → ℕ → Body F I → Body F I
  closed_body set process_left system_left (Directory shadow) = Directory shadow
  closed_body set process_left system_left (Link target) = Link target
  closed_body set process_left system_left (Other face inner) = Other face ((g.closed set inner process_left system_left).1)

  abbrev pub closed_set : T → ℕ → ℕ → Body F I → T
  closed_set set process_left system_left (Directory shadow) = set
  closed_set set process_left system_left (Link target) = set
  closed_set set process_left system_left (Other face inner) = (g.closed set inner process_left system_left).0

  -- of these objects, the one of this number as its close left it
  abbrev pub closed_object : T → ℕ → ℕ → ℕ → Object F I → Object F I
  closed_object set o process_left system_left x =
      if x.id == o then record x { body = closed_body set process_left system_left x.body } else x

  -- the state with the close procedure called for an object, one of whose handles went from a process
  abbrev pub with_close : State K T F I → ℕ → ℕ → State K T F I
  with_close s p o =
      let process_left = handle_count_in s p o in
      let system_left = handle_count s o in
      record s {
        objects = map (closed_object s.set o process_left system_left) s.objects;
        set = option_map_or (closed_set s.set process_left system_left) (body_of s o) s.set;
      }

  -- the state after a handle is closed, before it settles
  abbrev pub closed_handle : State K T F I → Held → State K T F I
  closed_handle s h = with_close (without_handle s h.process h.value) h.process h.object
