-- The refusals at what was found, before anything grows, of an open and a create where their name is looked up to,
-- and of a command at the object of its handle.
use Rattle.std.specs.Prelude.{◌≡◌, ℕ, Bool, true, false, ◌&&◌, ◌||◌, not, nat_lt, List, [], ◌∷◌, Option, None, Some}
use Rattle.std.specs.Option.{is_some, option_and_then, option_map_or}
use Rattle.ob_base.specs.Attrs.{has_flag, open_if_flag}
use Rattle.ob_base.specs.Handle.{key_of}
use Rattle.ob_base.specs.declared.status.Status.{Status}
use Rattle.ob_base.specs.declared.status.Status.TheVariants.{InvalidParameter, AccessDenied, InsufficientResources}
use Rattle.ob_model.specs.declared.command.Command.{Command}
use Rattle.ob_model.specs.declared.command.Command.TheVariants.{CreateDirectory, CreateShadowed, CreateLink, CreateObject, OpenDirectory, OpenLink, OpenObject, Close, QueryLink, QueryName, QueryDirectory, Duplicate, MakeTemporary, MakePermanent, SetDeviceMap, NewProcess, ExitProcess}
use Rattle.ob_model.specs.declared.command.Place.{Place}
use Rattle.ob_model.specs.declared.command.Place.TheVariants as place
use Rattle.ob_model.specs.declared.state.Held.{Held}
use Rattle.ob_model.specs.declared.state.Wanted.{Wanted}
use Rattle.ob_model.specs.declared.state.Wanted.TheVariants as wanted
use Rattle.ob_model.specs.declared.terms.GrantOptions.{GrantOptions}
use Rattle.ob_model.specs.declared.terms.Mode.{Mode}
use Rattle.ob_model.specs.Creates.{Making, MakesDirectory, MakesLink, MakesObject, create_mode, is_stampless, type_made}
use Rattle.ob_model.specs.Grants.{first_refusal, is_exclusive, has_other_holder, is_table_full}
use Rattle.ob_model.specs.Looks.{Look, At, Vacant, Parse, Refused, LooksUp}
use Rattle.ob_model.specs.Opens.{open_mode, options_by, type_wanted}
use Rattle.ob_model.specs.Procedures.{Procedures}
use Rattle.ob_model.specs.State.{State, held_of, is_store_full, greatest_number}
use Rattle.ob_model.specs.Types.{is_wanted_at}
use Rattle.ob_lookup.specs.Look.{MayWantMemory}
use Rattle.ob_space.specs.Early.{lacks_directory}
use Rattle.ob_space.specs.Roots.{root_of}

module _ {K T F I : Type 0} where
  -- the first refusal of a grant of those that come before the set's procedure, and before the table of handles grows
  abbrev pub early_grant_refusal : State K T F I → ℕ → ℕ → GrantOptions → Option Status
  early_grant_refusal s p o asked =
      first_refusal (
      (asked.exclusive && not (is_exclusive s o), InvalidParameter)
      ∷ (asked.inherit && is_exclusive s o, InvalidParameter)
      ∷ (is_exclusive s o && has_other_holder s p o, AccessDenied)
      ∷ (is_table_full s p, InsufficientResources) ∷ [])

  -- those of them that are judged before the room in the table is: an order of opening is left, or not
  abbrev pub refusal_before_room : State K T F I → ℕ → ℕ → GrantOptions → Option Status
  refusal_before_room s p o asked =
      first_refusal (
      (asked.exclusive && not (is_exclusive s o), InvalidParameter)
      ∷ (asked.inherit && is_exclusive s o, InvalidParameter)
      ∷ (is_exclusive s o && has_other_holder s p o, AccessDenied)
      ∷ (nat_lt greatest_number s.next_order, InsufficientResources) ∷ [])

  abbrev pub is_grant_refused : State K T F I → ℕ → ℕ → GrantOptions → Bool
  is_grant_refused s p o asked = is_some (early_grant_refusal s p o asked)

  -- a fact of the object of a handle of the caller, where it has that handle
  abbrev pub at_handle : State K T F I → ℕ → ℕ → (Held → Bool) → Bool
  at_handle s p handle fact = option_map_or fact (option_and_then (held_of s p) (key_of handle)) false

module _ {K T F I : Type 0} (g : Procedures K T F I) where
  -- an object that was found is of another type, or a handle to it is refused
  abbrev pub is_refused_at : State K T F I → ℕ → GrantOptions → Wanted K → ℕ → Bool
  is_refused_at s p asked wanted o = not (is_wanted_at g s o wanted) || is_grant_refused s p o asked

  -- an open is refused where its lookup ends so; one that would wait where no object or pending open more fits
  abbrev pub is_open_refused_at : State K T F I → ℕ → ℕ → Wanted K → Look → Bool
  is_open_refused_at s p attrs wanted (At o) = is_refused_at s p (options_by attrs) wanted o
  is_open_refused_at s p attrs wanted (Vacant d c) = false
  is_open_refused_at s p attrs wanted (Parse o rest n) = is_store_full s
  is_open_refused_at s p attrs wanted (Refused status) = true

  -- so is a create, also for a name that is taken, or where no handle, object or name more fits
  abbrev pub is_create_refused_at : State K T F I → ℕ → ℕ → Making K → Look → Bool
  is_create_refused_at s p attrs making (At o) = not (has_flag open_if_flag attrs) || is_refused_at s p (options_by attrs) (type_made making) o
  is_create_refused_at s p attrs making (Vacant d c) = is_table_full s p || is_store_full s || is_stampless s
  is_create_refused_at s p attrs making (Parse o rest n) = false
  is_create_refused_at s p attrs making (Refused status) = true

  -- A name is looked up to this end, and nothing is copied on the way: with no reparse left it ends so, and not by a
  -- link that is to be followed.
  abbrev pub LooksInPlace : State K T F I → ℕ → Mode → Option ℕ → List ℕ → Look → Type 0
  LooksInPlace s p mode root name end = LooksUp g s p mode 0 root name end × (MayWantMemory end → ⊥)

  -- a name is looked up in place to an end where this refuses it
  abbrev pub IsRefusedWhereFound : State K T F I → ℕ → Mode → Option ℕ → List ℕ → (Look → Bool) → Type 0
  IsRefusedWhereFound s p mode root name refuses = (end : Look) × LooksInPlace s p mode root name end × (refuses end ≡ true)

  -- the same of a name that may be relative to a root handle, which the process has
  abbrev pub IsNameRefused : State K T F I → ℕ → Mode → Option ℕ → List ℕ → (Look → Bool) → Type 0
  IsNameRefused s p mode root name refuses = (at : Option ℕ) × (root_of s p root ≡ Some at) × IsRefusedWhereFound s p mode at name refuses

  -- an open is refused at what its name leads to
  abbrev pub IsOpenRefused : State K T F I → ℕ → Option ℕ → List ℕ → ℕ → Wanted K → Type 0
  IsOpenRefused s p root name attrs wanted = IsNameRefused s p (open_mode wanted attrs) root name (is_open_refused_at s p attrs wanted)

  -- a create is refused at what its name leads to; or where no name is given since no handle or object more fits
  abbrev pub IsCreateRefused : State K T F I → ℕ → Place → ℕ → Making K → Type 0
  IsCreateRefused s p (place.At root name) attrs making = IsNameRefused s p (create_mode attrs) root name (is_create_refused_at s p attrs making)
  IsCreateRefused s p place.Unnamed attrs making = (is_table_full s p || is_store_full s) ≡ true

  -- A command is refused at what it finds, before anything grows: opens and creates so; a link's target is asked of what
  -- is no link; a handle to the object is refused to a process; another than a directory is to be a device map.
  abbrev pub IsRefusedAtFound : State K T F I → ℕ → Command K → Type 0
  IsRefusedAtFound s p (CreateDirectory where_to attrs) = IsCreateRefused s p where_to attrs (MakesDirectory None)
  IsRefusedAtFound s p (CreateShadowed where_to attrs shadow) = IsCreateRefused s p where_to attrs (MakesDirectory None)
  IsRefusedAtFound s p (CreateLink where_to attrs target) = IsCreateRefused s p where_to attrs (MakesLink target)
  IsRefusedAtFound s p (CreateObject where_to attrs kind args) = IsCreateRefused s p where_to attrs (MakesObject kind args)
  IsRefusedAtFound s p (OpenDirectory root name attrs) = IsOpenRefused s p root name attrs wanted.Directory
  IsRefusedAtFound s p (OpenLink root name attrs) = IsOpenRefused s p root name attrs wanted.Link
  IsRefusedAtFound s p (OpenObject root name attrs want) = IsOpenRefused s p root name attrs (type_wanted want)
  IsRefusedAtFound s p (Close handle) = ⊥
  IsRefusedAtFound s p (QueryLink handle) = at_handle s p handle (λ h. not (is_wanted_at g s h.object wanted.Link)) ≡ true
  IsRefusedAtFound s p (QueryName handle) = ⊥
  IsRefusedAtFound s p (QueryDirectory handle context room single restart) = ⊥
  IsRefusedAtFound s p (Duplicate handle to inherit) =
      at_handle s p handle (λ h. is_grant_refused s to h.object (record { inherit = inherit; exclusive = false })) ≡ true
  IsRefusedAtFound s p (MakeTemporary handle) = ⊥
  IsRefusedAtFound s p (MakePermanent handle) = ⊥
  IsRefusedAtFound s p (SetDeviceMap handle) = lacks_directory s p handle ≡ true
  IsRefusedAtFound s p (NewProcess inherit) = ⊥
  IsRefusedAtFound s p ExitProcess = ⊥
