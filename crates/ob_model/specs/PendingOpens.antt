-- Pending opens: an open that reached a parsing object waits for what the parse ends with, and pins that
-- object. Its ticket is the number of the object that the parse may make.
--
-- Sources: Windows Internals, Object Manager (parse methods; object retention: what is referred to stays).
-- That a parse is run between two steps, and the ticket, are this profile.
use Rattle.std.specs.Prelude.{ℕ, ◌+◌, ◌==◌, not, false, List, [], ◌∷◌, ◌++◌, Option, None, Some, filter}
use Rattle.std.specs.List.{find}
use Rattle.std.specs.Option.{option_and_then}
use Rattle.ob_model.specs.declared.state.Body.{Body}
use Rattle.ob_model.specs.declared.state.Body.TheVariants.{Directory, Link, Other}
use Rattle.ob_model.specs.declared.state.PendingOpen.{PendingOpen}
use Rattle.ob_model.specs.declared.state.Wanted.{Wanted}
use Rattle.ob_model.specs.State.{State, body_of, insert_object}

-- the face of an object of the set
abbrev pub face_in : {F I : Type 0} → Body F I → Option F
face_in (Directory shadow) = None
face_in (Link target) = None
face_in (Other face inner) = Some face

module _ {K T F I : Type 0} where
  abbrev pub face_of : State K T F I → ℕ → Option F
  face_of s o = option_and_then face_in (body_of s o)

  -- the pending open of a ticket, where there is one
  abbrev pub pending_of : State K T F I → ℕ → Option (PendingOpen K)
  pending_of s ticket = find (λ x. x.ticket == ticket) s.pending

  -- the state with an open of a process that is pending at an object, with this rest for its parse and so many
  -- reparses left; its ticket is the next number
  abbrev pub with_pending : State K T F I → ℕ → ℕ → Wanted K → ℕ → List ℕ → ℕ → State K T F I
  with_pending s p attrs wanted o rest n = record s {
    pending = s.pending ++ record { ticket = s.next_id; process = p; object = o; rest = rest; left = n; attrs = attrs; wanted = wanted } ∷ [];
    next_id = s.next_id + 1;
  }

  -- the state in which the open of a ticket is pending no longer
  abbrev pub without_pending : State K T F I → ℕ → State K T F I
  without_pending s ticket = record s { pending = filter (λ x. not (x.ticket == ticket)) s.pending }

  -- the state with an object of the set under a ticket: without a name and a handle, and neither permanent
  -- nor exclusive
  abbrev pub with_instance : State K T F I → ℕ → F → I → State K T F I
  with_instance s ticket face inner = record s {
    objects = insert_object (record { id = ticket; body = Other face inner; permanent = false; exclusive = false }) s.objects;
  }
