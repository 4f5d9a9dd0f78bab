-- A walk of the code, in the words of the machine: where it begins, what a component names there, and
-- where it stops.
--
-- Sources: Windows Internals, Object Manager (session namespace: the local DOS device directory is
-- searched before `\GLOBAL??`); the rule on creates after `\??` is this profile.
use Rattle.std.specs.Prelude.{◌≡◌, ℕ, Bool, false, ◌&&◌, nat_eq, if◌then◌else◌, List, [], ◌∷◌, drop, Option, None, Some, codes}
use Rattle.std.specs.List.{starts_with}
use Rattle.std.specs.Arc.{arc_value}
use Rattle.std.specs.Option.{option_map, option_and_then, option_map_or, option_or, unwrap_or}
use Rattle.std.specs.Str.{bytes_eq}
use Rattle.ob_model.specs.declared.state.Body.TheVariants as model
use Rattle.ob_model.specs.Names.{separator, begins_with_separator}
use Rattle.ob_model.specs.State.{State, root_id, body_of, shadow_in}
use Rattle.ob_model.specs.Paths.{Origin, is_one_component}
use Rattle.ob_model.specs.Paths as paths
use Rattle.ob_model.specs.Procedures.{Procedures}
use Rattle.ob_model.specs.Looks as machine
use Rattle.ob_devmap.specs.declared.view.View.{View}
use Rattle.ob_dirs.specs.declared.entry.DirEntry.{DirEntry}
use Rattle.ob_dirs.specs.Dir.{entry_found}
use Rattle.ob_objects.specs.declared.object.StoredBody.{StoredBody}
use Rattle.ob_objects.specs.declared.object.StoredBody.TheVariants as stored
use Rattle.ob_objects.specs.Store.{Entries, stored_at, body_of_stored, entries_at}
use Rattle.ob_lookup.specs.declared.start.Standpoint.{Standpoint}
use Rattle.ob_lookup.specs.declared.start.Standpoint.TheVariants.{InDirectory, InView}
use Rattle.ob_lookup.specs.declared.start.Start.{Start}
use Rattle.ob_lookup.specs.declared.walk.Stop.{Stop}
use Rattle.ob_lookup.specs.declared.walk.Stop.TheVariants.{Missed, Directory, Link, Other}

-- what is left of a text: nothing, or a separator and what follows it
abbrev pub rest_of : Option (List ℕ) → List ℕ
rest_of None = []
rest_of (Some behind) = separator ∷ behind

-- a view's local directory: that of the device map, or the global one where there is no map
abbrev pub local_of : View → ℕ
local_of view = unwrap_or view.local view.global

-- the directory that a place is
abbrev pub directory_of : View → Standpoint → ℕ
directory_of view (InDirectory id) = id
directory_of view InView = local_of view

-- a place, where the view is that of this process
abbrev pub origin_at : ℕ → Standpoint → Origin
origin_at p (InDirectory id) = paths.InDirectory id
origin_at p InView = paths.ViewOf p

-- where a walk of this process begins, and the text that is walked from there
abbrev pub place_of : ℕ → Start → Origin
place_of p start = origin_at p start.place

abbrev pub text_of : Start → List ℕ
text_of start = rest_of start.behind

-- where what follows `\??` begins, with its separator: in the view, but a create of one component
-- in the local directory alone
abbrev pub start_behind_view : View → ℕ → Bool → List ℕ → Origin × List ℕ
start_behind_view view p create text =
    (if create && is_one_component text then paths.InDirectory (local_of view) else paths.ViewOf p, text)

-- where a text begins that names nothing in a view
abbrev pub root_origin : List ℕ → Option (Origin × List ℕ)
root_origin text =
    if bytes_eq text (codes "\\") then Some (paths.InDirectory root_id, [])
    else if begins_with_separator text then Some (paths.InDirectory root_id, text)
    else None

-- where an absolute text begins, and what is walked from there, for the process of the view
abbrev pub absolute_origin : View → ℕ → Bool → List ℕ → Option (Origin × List ℕ)
absolute_origin view p create text =
    if bytes_eq text (codes "\\??") then Some (paths.ViewOf p, [])
    else if starts_with nat_eq text (codes "\\??\\") then Some (start_behind_view view p create (drop 3 text))
    else root_origin text

-- the object that a component names among the entries of a directory
abbrev pub object_in : List DirEntry → List ℕ → Bool → Option ℕ
object_in entries component fold = option_map (λ e. e.object) (entry_found entries component fold)

-- the shadow of a directory of the store, where it has one
abbrev pub shadow_at : {F I : Type 0} → Entries F I → ℕ → Option ℕ
shadow_at store d = option_and_then (λ x. shadow_in (body_of_stored x.body)) (stored_at store d)

-- the object that it names in a directory with these entries and this shadow: by its own entries, or else, but where own
-- entries alone are asked for, by those of the shadow
abbrev pub object_seen : {F I : Type 0} → Entries F I → List DirEntry → Option ℕ → List ℕ → (own fold : Bool) → Option ℕ
object_seen store entries shadow component own fold =
    option_or (object_in entries component fold) (if own then None else option_and_then (λ d. object_in (entries_at store d) component fold) shadow)

-- the object that it names at a place whose directory has these entries and this shadow: a view searches the global
-- directory too
abbrev pub object_at : {F I : Type 0} → Entries F I → View → Standpoint → List DirEntry → Option ℕ → List ℕ → (own fold : Bool) → Option ℕ
object_at store view (InDirectory id) entries shadow component own fold = object_seen store entries shadow component own fold
object_at store view InView entries shadow component own fold =
    option_or (object_seen store entries shadow component own fold) (object_seen store (entries_at store view.global) (shadow_at store view.global) component own fold)

-- where a walk stopped
abbrev pub stop_of : Stop → machine.Stop
stop_of (Missed directory component last) = machine.Missed directory component last
stop_of (Directory id) = machine.Reached id []
stop_of (Link id target rest) = machine.Reached id rest
stop_of (Other id rest parses) = machine.Reached id rest

-- the object that was reached is, in the state, what the stop says
abbrev pub Meets : {K T F I : Type 0} → Procedures K T F I → State K T F I → Stop → Type 0
Meets g s (Missed directory component last) = Unit {0}
Meets g s (Directory id) = (shadow : Option ℕ) × (body_of s id ≡ Some (model.Directory shadow))
Meets g s (Link id target rest) = body_of s id ≡ Some (model.Link target)
Meets {F = F} {I = I} g s (Other id rest parses) =
    (face : F) × (inner : I) × (body_of s id ≡ Some (model.Other face inner)) × (parses ≡ g.parses (g.kind_of face))

module _ {K T F I : Type 0} (g : Procedures K T F I) where
  -- an object's kind parses
  abbrev pub parses_in : StoredBody F I → Bool
  parses_in (stored.Directory entries shadow) = false
  parses_in (stored.Link target) = false
  parses_in (stored.Other face inner) = g.parses (g.kind_of (arc_value face))

  -- an object is there, and its kind parses
  abbrev pub parses_at : Entries F I → ℕ → Bool
  parses_at store id = option_map_or (λ x. parses_in x.body) (stored_at store id) false
