-- The object that a handle leads to.
--
-- Source: ObReferenceObjectByHandle (Windows Driver Kit).
use Rattle.std.specs.Prelude.{ℕ, Option}
use Rattle.std.specs.Option.{option_and_then, option_map}
use Rattle.ob_base.specs.Handle.{key_of}
use Rattle.ob_model.specs.declared.state.Body.{Body}
use Rattle.ob_model.specs.declared.state.Body.TheVariants as body
use Rattle.ob_model.specs.State.{State, body_of, held_of}
use Rattle.ob_core.specs.declared.referent.Referent.{Referent}
use Rattle.ob_core.specs.declared.referent.Referent.TheVariants.{Directory, Link, Other}

-- what is lent of an object is its body
abbrev pub body_lent : {F I : Type 0} → Referent F I → Body F I
body_lent (Directory shadow) = body.Directory shadow.now
body_lent (Link target) = body.Link target.now
body_lent (Other face inner) = body.Other face.now inner.now

-- the object of a handle of a process, whose low two bits are ignored, with its body
abbrev pub referent_at : {K T F I : Type 0} → State K T F I → ℕ → ℕ → Option (ℕ × Body F I)
referent_at s p handle =
    option_and_then (λ h. option_map (λ x. (h.object, x)) (body_of s h.object)) (option_and_then (held_of s p) (key_of handle))
