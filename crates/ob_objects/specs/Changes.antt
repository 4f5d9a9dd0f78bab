-- A store after changes of one object.
--
-- Source: this profile.
use Rattle.std.specs.Prelude.{ℕ, Bool, ◌==◌, not, if◌then◌else◌, [], ◌∷◌, ◌++◌, filter, map, Option}
use Rattle.std.specs.Option.{option_and_then, option_map_or}
use Rattle.ob_model.specs.State.{in_order}
use Rattle.ob_model.specs.declared.terms.Reason.{Reason}
use Rattle.ob_model.specs.Procedures.{Procedures}
use Rattle.ob_model.specs.Grants.{open_refusal_of, opened_set}
use Rattle.ob_model.specs.Closing.{closed_set}
use Rattle.ob_dirs.specs.declared.entry.DirEntry.{DirEntry}
use Rattle.ob_objects.specs.declared.object.StoredBody.{StoredBody}
use Rattle.ob_objects.specs.declared.object.StoredBody.TheVariants.{Directory, Link, Other}
use Rattle.ob_objects.specs.declared.object.StoredObject.{StoredObject}
use Rattle.ob_objects.specs.Store.{Entries, stored_at, body_of_stored}

module _ {F I : Type 0} where
  -- the store with an object more, in order of ids
  abbrev pub with_entry : Entries F I → ℕ → StoredObject F I → Entries F I
  with_entry store id x = in_order (λ e. e.0) (id, x) store

  -- the store with the object of an id changed, where there is one
  abbrev pub changed_at : ℕ → (StoredObject F I → StoredObject F I) → Entries F I → Entries F I
  changed_at id change store = map (λ e. if e.0 == id then (e.0, change e.1) else e) store

  -- the store without the object of an id
  abbrev pub without_object : Entries F I → ℕ → Entries F I
  without_object store id = filter (λ e. not (e.0 == id)) store

  -- a directory's entries with one more after them; any other body stays
  abbrev pub body_with_name : DirEntry → StoredBody F I → StoredBody F I
  body_with_name entry (Directory entries shadow) = Directory (entries ++ entry ∷ []) shadow
  body_with_name entry (Link target) = Link target
  body_with_name entry (Other face inner) = Other face inner

  -- a directory's entries without those of a stamp; any other body stays
  abbrev pub body_without_name : ℕ → StoredBody F I → StoredBody F I
  body_without_name stamp (Directory entries shadow) = Directory (filter (λ e. not (e.stamp == stamp)) entries) shadow
  body_without_name stamp (Link target) = Link target
  body_without_name stamp (Other face inner) = Other face inner

  -- the store with an entry more in a directory, and with those of a stamp taken from one
  abbrev pub with_name : Entries F I → ℕ → DirEntry → Entries F I
  with_name store directory entry = changed_at directory (λ x. record x { body = body_with_name entry x.body }) store

  abbrev pub without_name : Entries F I → ℕ → ℕ → Entries F I
  without_name store directory stamp = changed_at directory (λ x. record x { body = body_without_name stamp x.body }) store

  -- the store with an object that is permanent or isn't
  abbrev pub with_permanence : Entries F I → ℕ → Bool → Entries F I
  with_permanence store id permanent = changed_at id (λ x. record x { permanent = permanent }) store

module _ {K T F I : Type 0} (g : Procedures K T F I) where
  -- what the set's open procedure leaves of a body, and its close procedure
  abbrev pub stored_opened : T → Reason → StoredBody F I → StoredBody F I
  stored_opened set reason (Directory entries shadow) = Directory entries shadow
  stored_opened set reason (Link target) = Link target
  stored_opened set reason (Other face inner) = Other face ((g.opened set inner reason).1)

  abbrev pub stored_closed : T → ℕ → ℕ → StoredBody F I → StoredBody F I
  stored_closed set process_left system_left (Directory entries shadow) = Directory entries shadow
  stored_closed set process_left system_left (Link target) = Link target
  stored_closed set process_left system_left (Other face inner) = Other face ((g.closed set inner process_left system_left).1)

  -- the number with which the set refuses to open an object: none where it accepts, and none for a
  -- directory, a link and where there is no object
  abbrev pub refusal_to_open : Entries F I → T → ℕ → Reason → Option ℕ
  refusal_to_open store set id reason = option_and_then (λ x. open_refusal_of g set (body_of_stored x.body) reason) (stored_at store id)

  -- the store with an object opened, and the set's value then
  abbrev pub with_opened : Entries F I → T → ℕ → Reason → Entries F I
  with_opened store set id reason = changed_at id (λ x. record x { body = stored_opened set reason x.body }) store

  abbrev pub set_after_open : Entries F I → T → ℕ → Reason → T
  set_after_open store set id reason = option_map_or (λ x. opened_set g set (body_of_stored x.body) reason) (stored_at store id) set

  -- the store with an object closed, and the set's value then
  abbrev pub with_closed : Entries F I → T → ℕ → ℕ → ℕ → Entries F I
  with_closed store set id process_left system_left =
      changed_at id (λ x. record x { body = stored_closed set process_left system_left x.body }) store

  abbrev pub set_after_close : Entries F I → T → ℕ → ℕ → ℕ → T
  set_after_close store set id process_left system_left =
      option_map_or (λ x. closed_set g set process_left system_left (body_of_stored x.body)) (stored_at store id) set
