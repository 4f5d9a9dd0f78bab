-- An absolute text begins at a directory.
use Rattle.std.proofs.Common.{◌≡◌, ℕ, ◌&&◌, Bool, true, false, nat_eq, if◌then◌else◌, List, [], drop, Option, None, Some, MatchOption, IsSome, IfOk, bytes_eq, codes, sym, subst}
use Rattle.std.specs.List.{starts_with}
use Rattle.std.specs.Option.{option_map, ok_or, unwrap_or}
use Rattle.ob_model.specs.Names.{begins_with_separator}
use Rattle.ob_model.specs.State.{root_id}
use Rattle.ob_model.specs.Paths.{Origin, InDirectory, ViewOf, is_one_component}
use Rattle.ob_devmap.specs.declared.view.View.{View}
use Rattle.ob_objects.specs.Store.{Entries, directory_at}
use Rattle.ob_lookup.specs.declared.start.Standpoint.{Standpoint}
use Rattle.ob_lookup.specs.declared.start.Standpoint.TheVariants as place
use Rattle.ob_lookup.specs.declared.start.Start.{Start}
use Rattle.ob_lookup.specs.Closed.{IsClosed, IsViewThere}
use Rattle.ob_lookup.specs.Walk.{local_of, directory_of, place_of, text_of, start_behind_view, absolute_origin}

-- what holds of the value that may be there holds of it where none is an error
pub ok_where_some : {X E : Type 0} (P : X → Type 0) (e : E) (found : Option X) → MatchOption found (Unit {0}) P → IfOk (ok_or found e) P
ok_where_some P e None h = tt
ok_where_some P e (Some x) h = h

module _ {F I : Type 0} (store : Entries F I) (view : View) (closed : IsClosed store) (there : IsViewThere store view) where
  -- a view's local directory is there
  local_there : IsSome (directory_at store (local_of view))
  local_there = go view.local there.local
    where
      go : (o : Option ℕ) → MatchOption o (Unit {0}) (λ id. IsSome (directory_at store id)) → IsSome (directory_at store (unwrap_or o view.global))
      go None h = there.global
      go (Some id) h = h

  -- the directory of an origin is there; a view's is
  abbrev IsOriginThere : Origin → Type 0
  IsOriginThere (InDirectory d) = IsSome (directory_at store d)
  IsOriginThere (ViewOf p) = Unit {0}

  absolute_there : (p : ℕ) (create : Bool) (text : List ℕ) → MatchOption (absolute_origin view p create text) (Unit {0}) (λ at. IsOriginThere at.0)
  absolute_there p create text =
      go (bytes_eq text (codes "\\??")) (starts_with nat_eq text (codes "\\??\\")) (bytes_eq text (codes "\\")) (begins_with_separator text)
    where
      behind : (one : Bool) → IsOriginThere (if one then InDirectory (local_of view) else ViewOf p)
      behind true = local_there
      behind false = tt

      go : (is_view below_view is_root is_absolute : Bool) → MatchOption
          (if is_view then Some (ViewOf p, [])
          else if below_view then Some (start_behind_view view p create (drop 3 text))
          else if is_root then Some (InDirectory root_id, [])
          else if is_absolute then Some (InDirectory root_id, text)
          else None) (Unit {0}) (λ at. IsOriginThere at.0)
      go true below_view is_root is_absolute = tt
      go false true is_root is_absolute = behind (create && is_one_component (drop 3 text))
      go false false true is_absolute = closed.root
      go false false false true = closed.root
      go false false false false = tt

  -- so is the directory of the start that is told
  pub start_there : (p : ℕ) (create : Bool) (text : List ℕ) (start : Start) → Some (place_of p start, text_of start) ≡ absolute_origin view p create text
      → IsSome (directory_at store (directory_of view start.place))
  start_there p create text start e =
      go start.place (subst (λ (o : Option (Origin × List ℕ)). MatchOption o (Unit {0}) (λ at. IsOriginThere at.0)) (sym e) (absolute_there p create text))
    where
      go : (at : Standpoint) → IsOriginThere (place_of p (record start { place = at })) → IsSome (directory_at store (directory_of view at))
      go (place.InDirectory id) h = h
      go place.InView h = local_there

  -- and of one that may be
  pub starts_there : (p : ℕ) (create : Bool) (text : List ℕ) (found : Option Start) → option_map (λ start. (place_of p start, text_of start)) found ≡ absolute_origin view p create text
      → MatchOption found (Unit {0}) (λ start. IsSome (directory_at store (directory_of view start.place)))
  starts_there p create text None e = tt
  starts_there p create text (Some start) e = start_there p create text start e
