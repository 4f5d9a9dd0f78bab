-- The type of an object, and the type that a command asks for.
--
-- Sources: Windows Internals, Object Manager (object types); the Zw routines (Windows Driver Kit): an object of
-- another type than was asked for is refused.
use Rattle.std.specs.Prelude.{ℕ, Bool, true, false}
use Rattle.std.specs.Option.{option_map_or}
use Rattle.ob_model.specs.declared.state.Body.{Body}
use Rattle.ob_model.specs.declared.state.Body.TheVariants as body
use Rattle.ob_model.specs.declared.state.Wanted.{Wanted}
use Rattle.ob_model.specs.declared.state.Wanted.TheVariants.{Anything, Directory, Link, Kind}
use Rattle.ob_model.specs.State.{State, body_of, is_directory_body}
use Rattle.ob_model.specs.Procedures.{Procedures}

-- whether a body is that of a link
abbrev pub is_link_body : {F I : Type 0} → Body F I → Bool
is_link_body (body.Directory shadow) = false
is_link_body (body.Link target) = true
is_link_body (body.Other face inner) = false

module _ {K T F I : Type 0} (g : Procedures K T F I) where
  -- whether a body is that of an object of a kind of the set
  abbrev pub is_of_kind : K → Body F I → Bool
  is_of_kind kind (body.Directory shadow) = false
  is_of_kind kind (body.Link target) = false
  is_of_kind kind (body.Other face inner) = g.same_kind (g.kind_of face) kind

  -- whether an object with this body is of the type that is asked for
  abbrev pub is_wanted : Wanted K → Body F I → Bool
  is_wanted Anything body = true
  is_wanted Directory body = is_directory_body body
  is_wanted Link body = is_link_body body
  is_wanted (Kind kind) body = is_of_kind kind body

  -- whether an object is there and is of that type
  abbrev pub is_wanted_at : State K T F I → ℕ → Wanted K → Bool
  is_wanted_at s o wanted = option_map_or (is_wanted wanted) (body_of s o) false
