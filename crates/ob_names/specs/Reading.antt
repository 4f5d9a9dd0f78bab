-- Reading: what is reported of bytes that are no name.
use Rattle.std.specs.Prelude.{ℕ, List, if◌then◌else◌}
use Rattle.ob_base.specs.declared.status.Status.{Status}
use Rattle.ob_base.specs.declared.status.Status.TheVariants.{ObjectNameInvalid, NameTooLong}
use Rattle.ob_model.specs.Names.{is_profile_text}

-- what bytes that are no name are refused with: a bad byte is reported before a length
abbrev pub refusal_of : List ℕ → Status
refusal_of text = if is_profile_text text then NameTooLong else ObjectNameInvalid
