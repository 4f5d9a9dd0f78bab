-- Objects that are made temporary or permanent.
--
-- Sources: ZwMakeTemporaryObject and ZwMakePermanentObject (Windows Driver Kit); Windows Internals, Object
-- Manager (temporary and permanent objects). That an object without a name can't become permanent is this
-- profile.
use Rattle.std.specs.Prelude.{ℕ, Bool, ◌&&◌, not, ◌==◌, if◌then◌else◌, map}
use Rattle.ob_model.specs.declared.state.Object.{Object}
use Rattle.ob_model.specs.State.{State}
use Rattle.ob_model.specs.Settle.{has_name}

-- of these objects, the one of this number made permanent or temporary
abbrev pub turned_object : {F I : Type 0} → ℕ → Bool → Object F I → Object F I
turned_object o permanent x = if x.id == o then record x { permanent = permanent } else x

module _ {K T F I : Type 0} where
  -- the state with an object permanent or temporary
  abbrev pub with_permanence : State K T F I → ℕ → Bool → State K T F I
  with_permanence s o permanent = record s { objects = map (turned_object o permanent) s.objects }

  -- the state after an object is made permanent or temporary, before it settles: one without a name is not
  -- made permanent
  abbrev pub turned : State K T F I → ℕ → Bool → State K T F I
  turned s o permanent = if permanent && not (has_name s o) then s else with_permanence s o permanent
