-- Sound states: what holds of the opening state and after each step, and what a lookup rests on.
--
-- Source: this profile.
use Rattle.std.specs.Prelude.{◌≡◌, ◌≢◌, true, false, Bool, ◌&&◌, ◌==◌, ℕ, ◌<◌, List, All, AllPairs, None, MatchOption, codes}
use Rattle.std.specs.Str.{bytes_eq}
use Rattle.std.specs.Option.{is_some}
use Rattle.ob_model.specs.declared.state.Object.{Object}
use Rattle.ob_model.specs.declared.state.Row.{Row}
use Rattle.ob_model.specs.declared.state.Held.{Held}
use Rattle.ob_model.specs.declared.state.Process.{Process}
use Rattle.ob_model.specs.declared.state.PendingOpen.{PendingOpen}
use Rattle.ob_model.specs.Names.{IsComponent}
use Rattle.ob_model.specs.Paths.{is_match}
use Rattle.ob_model.specs.Closing.{is_handle}
use Rattle.ob_model.specs.State.{State, root_id, global_id, shadow_in, object_among, is_directory_among, shadow_among, is_live_among}

-- a place in a directory that no name has: the root directory has no entry called `??`
abbrev pub is_barred : ℕ → List ℕ → Bool
is_barred d name = (d == root_id) && bytes_eq name (codes "??")

module _ {F I : Type 0} where
  -- an object is there among these
  abbrev pub StandsAmong : List (Object F I) → ℕ → Type 0
  StandsAmong objects o = is_some (object_among objects o) ≡ true

  -- an object is there among these, and is a directory
  abbrev pub IsDirectoryAmong : List (Object F I) → ℕ → Type 0
  IsDirectoryAmong objects o = is_directory_among objects o ≡ true

  -- a process's map directory, where it has one, is a directory among these
  abbrev pub HasSoundMapAmong : List (Object F I) → Process → Type 0
  HasSoundMapAmong objects x = MatchOption x.map (Unit {0}) (IsDirectoryAmong objects)

  -- a shadow is fit for a directory of this number: it is a directory among these, was made before that one, and has
  -- no shadow itself
  abbrev pub IsShadowAmong : List (Object F I) → ℕ → ℕ → Type 0
  IsShadowAmong objects d shadow = IsDirectoryAmong objects shadow × (shadow < d) × (shadow_among objects shadow ≡ None)

  -- so is the shadow of an object, where it has one
  abbrev pub HasSoundShadowAmong : List (Object F I) → Object F I → Type 0
  HasSoundShadowAmong objects x = MatchOption (shadow_in x.body) (Unit {0}) (IsShadowAmong objects x.id)

  -- The root and `\GLOBAL??` are directories. Objects rise by numbers that were drawn, and each shadow is fit.
  pub record AreSoundObjects (objects : List (Object F I)) (next_id : ℕ) : Type 0 where
    pub root : IsDirectoryAmong objects root_id
    pub global : IsDirectoryAmong objects global_id
    pub drawn : All (λ x. x.id < next_id) objects
    pub rising : AllPairs (λ a b. a.id < b.id) objects
    pub shadows : All (HasSoundShadowAmong objects) objects

  -- All map directories are directories, and the number of each process was drawn.
  pub record AreSoundProcesses (objects : List (Object F I)) (processes : List Process) (next_process : ℕ) : Type 0 where
    pub maps : All (HasSoundMapAmong objects) processes
    pub numbered : All (λ x. x.number < next_process) processes

  -- Each row names an object that is there, and its directory was made before the object, so that each way up
  -- ends. Rows rise by stamps that were drawn; each is in a directory, its name is a component, no row has
  -- the name, with case, of an earlier one of its directory, and none of the root is called `??`.
  pub record AreSoundRows (objects : List (Object F I)) (rows : List Row) (next_stamp : ℕ) : Type 0 where
    pub standing : All (λ r. StandsAmong objects r.object) rows
    pub descending : All (λ r. r.directory < r.object) rows
    pub rising : AllPairs (λ a b. a.stamp < b.stamp) rows
    pub stamped : All (λ r. r.stamp < next_stamp) rows
    pub inside : All (λ r. IsDirectoryAmong objects r.directory) rows
    pub named : All (λ r. IsComponent r.name) rows
    pub apart : AllPairs (λ a b. is_match b.directory b.name false a ≡ false) rows
    pub plain : All (λ r. is_barred r.directory r.name ≡ false) rows

  -- The object of each handle is there; its process is live, and has no two handles of one value.
  pub record AreSoundHandles (objects : List (Object F I)) (processes : List Process) (handles : List Held) : Type 0 where
    pub standing : All (λ h. StandsAmong objects h.object) handles
    pub live : All (λ h. is_live_among processes h.process ≡ true) handles
    pub distinct : AllPairs (λ a b. is_handle a.process a.value b ≡ false) handles

module _ {K F I : Type 0} where
  -- The object that each pending open pins is there. The tickets rise, were drawn after the objects that they
  -- pin, and are no object's numbers.
  pub record AreSoundPending (objects : List (Object F I)) (next_id : ℕ) (pending : List (PendingOpen K)) : Type 0 where
    pub standing : All (λ x. StandsAmong objects x.object) pending
    pub ticketed : All (λ x. x.ticket < next_id) pending
    pub later : All (λ x. x.object < x.ticket) pending
    pub reserved : All (λ x. All (λ y. y.id ≢ x.ticket) objects) pending
    pub awaited : AllPairs (λ a b. a.ticket < b.ticket) pending

module _ {K T F I : Type 0} where
  -- an object is there
  abbrev pub Stands : State K T F I → ℕ → Type 0
  Stands s o = StandsAmong s.objects o

  -- an object is there, and is a directory
  abbrev pub IsDirectory : State K T F I → ℕ → Type 0
  IsDirectory s o = IsDirectoryAmong s.objects o

  -- a process's map directory, where it has one, is a directory
  abbrev pub HasSoundMap : State K T F I → Process → Type 0
  HasSoundMap s x = HasSoundMapAmong s.objects x

  -- a state is sound: its objects, its processes, its rows, its handles and its pending opens are
  pub record IsSound (s : State K T F I) : Type 0 where
    pub objects : AreSoundObjects s.objects s.next_id
    pub processes : AreSoundProcesses s.objects s.processes s.next_process
    pub rows : AreSoundRows s.objects s.rows s.next_stamp
    pub handles : AreSoundHandles s.objects s.processes s.handles
    pub pending : AreSoundPending s.objects s.next_id s.pending
