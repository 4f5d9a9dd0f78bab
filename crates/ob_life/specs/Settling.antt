-- Which objects stay, given the names that stay; what settling makes of one object, and asks of a state; what was
-- settled before one handle was closed; and what a process that ends leaves to be settled.
use Rattle.std.specs.Prelude.{◌≡◌, ◌⊎◌, ℕ, ◌<◌, Bool, true, false, ◌&&◌, ◌||◌, ◌==◌, not, if◌then◌else◌, [], ◌∷◌, ◌++◌, filter, All, List, Option, None, Some, MatchOption}
use Rattle.std.specs.List.{list_any, find}
use Rattle.std.specs.Option.{option_map_or, is_some}
use Rattle.ob_model.specs.declared.state.Object.{Object}
use Rattle.ob_model.specs.declared.state.PendingOpen.{PendingOpen}
use Rattle.ob_model.specs.Procedures.{Procedures}
use Rattle.ob_model.specs.State.{State, root_id, body_of, shadow_of}
use Rattle.ob_model.specs.Settle.{has_shadow, is_permanent, has_handle, is_kept, has_name, is_pinned, is_mapped, deleted_one}
use Rattle.ob_model.specs.Sound.{IsDirectory, HasSoundShadowAmong}
use Rattle.ob_objects.specs.declared.standing.Standing.{Standing}
use Rattle.ob_processes.specs.Running.{Running}
use Rattle.ob_space.specs.Namespace.{running_alone}
use Rattle.ob_space.specs.Orderly.{IsIdleUnheld}

-- an object is the shadow of one of these
abbrev pub is_shadow : {F I : Type 0} → List (Object F I) → ℕ → Bool
is_shadow objects o = list_any (λ x. has_shadow o x.body) objects

-- by the standing of an object without a handle: it stays by its name, by what lies in it, as the root, as a map
-- directory, pinned by a pending open, or as the shadow of a directory that is there
abbrev pub held_up_by : {K F I : Type 0} → List (Object F I) → Running → List (PendingOpen K) → ℕ → Standing → Bool
held_up_by objects running pending o standing =
    standing.holds_names || (standing.permanent && is_some standing.place) || (o == root_id) || is_mapped (running_alone running) o || list_any (λ p. p.object == o) pending || is_shadow objects o

module _ {K T F I : Type 0} where
  -- the object is the root, has a handle, is pinned by a pending open, is `\GLOBAL??` or a live process's map
  -- directory, is permanent and has a name, is the directory of a name, or the shadow of a directory: where the rows are
  -- those that stay, and so are the directories that have it as their shadow, the object does
  abbrev pub is_held_up : State K T F I → ℕ → Bool
  is_held_up s o =
      (o == root_id) || has_handle s o || is_pinned s o || is_mapped s o || (is_permanent s o && has_name s o) || list_any (λ r. r.directory == o) s.rows || is_shadow s.objects o

  -- a handle to the object is left, or it is permanent and has a name
  abbrev pub is_upheld : State K T F I → ℕ → Bool
  is_upheld s o = has_handle s o || (is_permanent s o && has_name s o)

  -- what is asked of a state while its objects are settled: those without a handle are idle, and each name's directory
  -- was made before its object, so that none lies in what it names
  pub record MaySettle (idle : I → Type 0) (s : State K T F I) : Type 0 where
    pub unheld : All (IsIdleUnheld idle s.handles) s.objects
    pub descending : All (λ r. r.directory < r.object) s.rows

  -- the state without the names of an object that don't stay
  abbrev pub without_names : State K T F I → ℕ → State K T F I
  without_names s o = record s {
    rows = if is_permanent s o || has_handle s o then s.rows else filter (λ r. not (r.object == o)) s.rows;
  }

  -- the shadow of an object that goes where it is settled, if it is a directory that has one; and the same, unless the object
  -- is one of these
  abbrev pub shadow_left : State K T F I → ℕ → Option ℕ
  shadow_left s o = if is_held_up (without_names s o) o then None else shadow_of s o

  abbrev pub shadow_left_unless : (ℕ → Bool) → State K T F I → ℕ → Option ℕ
  shadow_left_unless touched s o = if touched o then None else shadow_left s o

  -- the state with one further handle to an object
  abbrev pub with_handle_to : State K T F I → ℕ → State K T F I
  with_handle_to s o = record s {
    handles = s.handles ++ record { process = 0; value = 0; object = o; inherit = false; order = 0 } ∷ [];
  }

  -- Only these objects, and the directory of this map, can go, and directories that hold names which go, and the shadows
  -- of directories that go: the name of each other object stays, and each other object is held up, be it by a name that
  -- lies in it, or as a shadow. The map is a directory.
  pub record StaysBut (s : State K T F I) (touched : ℕ → Bool) (map : Option ℕ) : Type 0 where
    pub names : All (λ r. touched r.object ≡ false → is_kept s r ≡ true) s.rows
    pub objects : All (λ x. touched x.id ≡ false → (map ≡ Some x.id → ⊥) → is_held_up s x.id ≡ true) s.objects
    pub directory : MatchOption map (Unit {0}) (IsDirectory s)

  -- Each name lies in a directory, and the shadow of each directory is one that was made before it, and has none itself. So
  -- it is in a sound state.
  pub record AreShadowsFit (s : State K T F I) : Type 0 where
    pub inside : All (λ r. IsDirectory s r.directory) s.rows
    pub shadows : All (HasSoundShadowAmong s.objects) s.objects

module _ {K T F I : Type 0} (g : Procedures K T F I) where
  -- the state without an object, which is deleted, and without what lies in it
  abbrev pub without_object : State K T F I → ℕ → State K T F I
  without_object s o = record s {
    objects = filter (λ x. not (x.id == o)) s.objects;
    rows = filter (λ r. not (r.directory == o)) s.rows;
    set = option_map_or (λ body. deleted_one g body s.set) (body_of s o) s.set;
  }

  -- the state after one object was settled: its names go where they don't stay, and then it goes where it
  -- doesn't
  abbrev pub settled_one : State K T F I → ℕ → State K T F I
  settled_one s o = if is_held_up (without_names s o) o then without_names s o else without_object (without_names s o) o

  -- the same, unless it is one of these objects
  abbrev pub settled_unless : (ℕ → Bool) → State K T F I → ℕ → State K T F I
  settled_unless touched s o = if touched o then s else settled_one s o

  -- the state after the shadow of a directory that went was settled, where there is one, unless it is one of these objects
  abbrev pub with_shadow_settled : (ℕ → Bool) → State K T F I → Option ℕ → State K T F I
  with_shadow_settled touched s shadow = option_map_or (settled_unless touched s) shadow s

  -- The state that is left where an object was settled; then, where it had a name, the directory of its name, unless that is one of
  -- these objects; and then the shadows of both, where they went. All names of the object lie in one directory.
  abbrev pub AreSettled : State K T F I → (ℕ → Bool) → ℕ → State K T F I → Type 0
  AreSettled s touched o t =
      MatchOption (find (λ r. r.object == o) s.rows)
      ((t ≡ with_shadow_settled touched (settled_one s o) (shadow_left s o)) × All (λ q. (q.object == o) ≡ false) s.rows)
      (λ r.
      (t
      ≡ with_shadow_settled touched (with_shadow_settled touched (settled_unless touched (settled_one s o) r.directory) (shadow_left s o))
      (shadow_left_unless touched (settled_one s o) r.directory))
      × All (λ q. (q.object == o) ≡ true → q.directory ≡ r.directory) s.rows)

  -- an object had its turn: a handle to it is left, or it is permanent and has a name, and nothing went; or it was settled so
  abbrev pub HadItsTurn : State K T F I → (ℕ → Bool) → ℕ → State K T F I → Type 0
  HadItsTurn s touched o t = ((is_upheld s o ≡ true) × (t ≡ s)) ⊎ AreSettled s touched o t
