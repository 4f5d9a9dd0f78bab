-- A caller's objects: their arguments, when two are the same, and what a name leads to from one.
--
-- Source: this profile.
use Rattle.std.specs.Prelude.{ℕ, Bool, ◌&&◌, ◌==◌, not, nat_eq, if◌then◌else◌, List, ◌∷◌, ◌++◌, length, drop}
use Rattle.std.specs.Int.{w64, from_le_bytes}
use Rattle.std.specs.Cmp.Lexicographic.{pointwise}
use Rattle.ob_model.specs.Names.{separator, begins_with_separator}
use Rattle.ob_host.specs.Kinds.{same_kind}
use Rattle.ob_host.specs.declared.kind.Kind.{Kind}
use Rattle.ob_host.specs.declared.object.HostObject.{HostObject}

-- the bytes of user data in arguments
abbrev pub user_data_bytes : ℕ
user_data_bytes = 8

-- the user data of arguments: their first eight bytes, the lowest first; those that aren't there are 0
abbrev pub user_data_of : List ℕ → ℕ
user_data_of args = from_le_bytes w64 args

-- the text of arguments: the bytes after the user data
abbrev pub text_of : List ℕ → List ℕ
text_of args = drop user_data_bytes args

-- the object of a kind with these arguments
abbrev pub object_of : Kind → List ℕ → HostObject
object_of kind args = record { kind = kind; user_data = user_data_of args; text = text_of args }

-- two objects are the same: kind, user data and text are
abbrev pub same_object : HostObject → HostObject → Bool
same_object a b = same_kind a.kind b.kind && (nat_eq a.user_data b.user_data && pointwise nat_eq a.text b.text)

-- a backslash is wanted between a text and the rest of a name: there is a text, and the rest begins without one
abbrev pub wants_separator : List ℕ → List ℕ → Bool
wants_separator text rest = not (length text == 0) && not (begins_with_separator rest)

-- a text and the rest of a name after it
abbrev pub text_below : List ℕ → List ℕ → List ℕ
text_below text rest = text ++ (if wants_separator text rest then separator ∷ rest else rest)

-- the object of a kind that the rest of a name leads to from this one
abbrev pub object_below : HostObject → Kind → List ℕ → HostObject
object_below object kind rest = record { kind = kind; user_data = object.user_data; text = text_below object.text rest }
