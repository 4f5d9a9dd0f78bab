-- The types of stored objects, which a store keeps beside them.
--
-- Sources: Windows Internals, Object Manager (object types, and the type index of an object header).
use Rattle.std.specs.Prelude.{◌≡◌, ℕ, List, [], Some, All, codes}
use Rattle.std.specs.Arc.{arc_value}
use Rattle.std.specs.BTreeMap.{is_at}
use Rattle.std.specs.Map.{lookup}
use Rattle.std.specs.Option.{option_map, option_map_or}
use Rattle.std.specs.Ordering.{nat_cmp}
use Rattle.ob_model.specs.Procedures.{Procedures}
use Rattle.ob_objects.specs.declared.object.StoredBody.{StoredBody}
use Rattle.ob_objects.specs.declared.object.StoredBody.TheVariants as body
use Rattle.ob_objects.specs.declared.types.StoredType.{StoredType}
use Rattle.ob_objects.specs.declared.types.StoredType.TheVariants.{Directory, Link, Other}
use Rattle.ob_objects.specs.Store.{Entries, stored_at}

-- types of objects, each with its object's id
abbrev pub Types : Type 0 → Type 0
Types K = List (ℕ × StoredType K)

-- what is ahead in a walk through types is among them
abbrev pub IsAhead : {K : Type 0} → Types K → Types K → Type 0
IsAhead types ahead = All (λ e. lookup (is_at (nat_cmp e.0)) types ≡ Some e.1) ahead

module _ {K T F I : Type 0} (g : Procedures K T F I) where
  -- the type of what a body is
  abbrev pub type_of_body : StoredBody F I → StoredType K
  type_of_body (body.Directory entries shadow) = Directory shadow
  type_of_body (body.Link target) = Link
  type_of_body (body.Other face inner) = Other (g.kind_of (arc_value face))

  -- the name of a type
  abbrev pub name_of_type : StoredType K → List ℕ
  name_of_type (Directory shadow) = codes "Directory"
  name_of_type Link = codes "SymbolicLink"
  name_of_type (Other kind) = g.type_name kind

  -- the name of the type of an object among these; the empty text where none is of it
  abbrev pub type_name_among : Types K → ℕ → List ℕ
  type_name_among types id = option_map_or name_of_type (lookup (is_at (nat_cmp id)) types) []

  -- these are the types of a store's objects
  abbrev pub KeepsTypes : Entries F I → Types K → Type 0
  KeepsTypes store types = (id : ℕ) → lookup (is_at (nat_cmp id)) types ≡ option_map (λ x. type_of_body x.body) (stored_at store id)
