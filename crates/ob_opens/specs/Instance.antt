-- The object that an instance is which a parse made.
--
-- Source: this profile.
use Rattle.std.specs.Prelude.{ℕ, false}
use Rattle.ob_model.specs.declared.state.Body.TheVariants.{Other}
use Rattle.ob_model.specs.declared.state.Object.{Object}

-- what an instance of this face and inner value is under a ticket: an object that is neither permanent nor exclusive
abbrev pub instance_object : {F I : Type 0} → ℕ → F → I → Object F I
instance_object ticket face inner = record { id = ticket; body = Other face inner; permanent = false; exclusive = false }
