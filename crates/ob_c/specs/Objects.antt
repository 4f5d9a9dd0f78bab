-- Reports of the object of a handle.
--
-- Source: ObReferenceObjectByHandle (Windows Driver Kit); user data, ids and texts are this profile.
use Rattle.std.specs.Prelude.{◌≡◌, ℕ, List, Bool, ◌||◌, Option, None, Some, MatchBool}
use Rattle.ob_base.specs.Status.{code_of}
use Rattle.ob_base.specs.declared.status.Status.TheVariants.{Success, InvalidParameter, InvalidHandle, ObjectTypeMismatch}
use Rattle.ob_core.specs.Referent.{referent_at}
use Rattle.ob_model.specs.declared.state.Body.{Body}
use Rattle.ob_model.specs.declared.state.Body.TheVariants.{Directory, Link, Other}
use Rattle.ob_host.specs.Kept.{Kept}
use Rattle.ob_host.specs.Kinds.{same_kind}
use Rattle.ob_host.specs.declared.kind.Kind.{Kind}
use Rattle.ob_host.specs.declared.kind.Kind.TheVariants.{File, Key}
use Rattle.ob_host.specs.declared.object.HostObject.{HostObject}
use Rattle.ob_c_state.specs.Machine.{Space}
use Rattle.ob_c_state.specs.Reports.{Fills, FillsNothing}
use Rattle.ob_c.specs.Referents.{id_of_body, type_of_body, user_data_of_body}

-- a status and an object are reported, or a refusal with zeros
abbrev pub ReportsZeros : (status code type user_data id : ℕ) → Type 0
ReportsZeros status code type user_data id = (status ≡ code) × (type ≡ 0) × (user_data ≡ 0) × (id ≡ 0)

-- the type, the user data and the id of what a handle leads to
abbrev pub ReportsReferent : Option (ℕ × Body HostObject Kept) → (status type user_data id : ℕ) → Type 0
ReportsReferent None status type user_data id = ReportsZeros status (code_of InvalidHandle) type user_data id
ReportsReferent (Some led) status type user_data id =
    (status ≡ code_of Success) × (type ≡ type_of_body led.1) × (user_data ≡ user_data_of_body led.1) × (id ≡ id_of_body led.0 led.1)

-- the same in a namespace that may be closed
abbrev pub ReportsObject : Option Space → (process handle : ℕ) → (status type user_data id : ℕ) → Type 0
ReportsObject None p handle status type user_data id = ReportsZeros status (code_of InvalidParameter) type user_data id
ReportsObject (Some s) p handle status type user_data id = ReportsReferent (referent_at s p handle) status type user_data id

-- whether what an object is has a text: a file or a key
abbrev pub has_text : Kind → Bool
has_text kind = same_kind kind File || same_kind kind Key

-- the text of a file or a key; any other object has none
abbrev pub ReportsBodyText : Body HostObject Kept → (status : ℕ) → (old new : List ℕ) → ℕ → Type 0
ReportsBodyText (Directory shadow) status old new reported = FillsNothing status (code_of ObjectTypeMismatch) old new reported
ReportsBodyText (Link target) status old new reported = FillsNothing status (code_of ObjectTypeMismatch) old new reported
ReportsBodyText (Other face inner) status old new reported =
    MatchBool (has_text face.kind) (Fills status face.text Success old new reported) (FillsNothing status (code_of ObjectTypeMismatch) old new reported)

abbrev pub ReportsReferentText : Option (ℕ × Body HostObject Kept) → (status : ℕ) → (old new : List ℕ) → ℕ → Type 0
ReportsReferentText None status old new reported = FillsNothing status (code_of InvalidHandle) old new reported
ReportsReferentText (Some led) status old new reported = ReportsBodyText led.1 status old new reported

-- the text of the object of a handle, in a namespace that may be closed
abbrev pub ReportsFile : Option Space → (process handle : ℕ) → (status : ℕ) → (old new : List ℕ) → ℕ → Type 0
ReportsFile None p handle status old new reported = FillsNothing status (code_of InvalidParameter) old new reported
ReportsFile (Some s) p handle status old new reported = ReportsReferentText (referent_at s p handle) status old new reported
