-- Names: which bytes they have, when two are equal, how a text is split into components, and what
-- a link's target and the rest after it make together.
--
-- Sources: OBJECT_ATTRIBUTES structure and UNICODE_STRING structure (Windows Driver Kit) for counted
-- names, the separator and OBJ_CASE_INSENSITIVE; Windows Internals, Object Manager, for object names
-- and symbolic links. One byte a character, the bytes 0x20 to 0x7E and ASCII case are this profile.
use Rattle.std.specs.Prelude.{◌≡◌, ◌≢◌, ℕ, ◌-◌, ◌+◌, Bool, false, ◌&&◌, not, ◌==◌, nat_le, if◌then◌else◌, List, [], ◌∷◌, ◌++◌, length, drop, All}
use Rattle.std.specs.Cmp.Lexicographic.{pointwise}
use Rattle.std.specs.List.{list_all, take_while}

-- the byte that separates components, `\`
abbrev pub separator : ℕ
separator = 92

-- the most bytes that a name, a target or a substitution's result has
abbrev pub longest_name : ℕ
longest_name = 32767

-- a byte of the profile: 0x20 to 0x7E
abbrev pub is_profile_byte : ℕ → Bool
is_profile_byte b = nat_le 32 b && nat_le b 126

-- a text whose bytes are all of the profile
abbrev pub is_profile_text : List ℕ → Bool
is_profile_text text = list_all is_profile_byte text

-- a name: a profile text of at most 32,767 bytes
abbrev pub is_name : List ℕ → Bool
is_name text = is_profile_text text && nat_le (length text) longest_name

-- a byte with a to z taken to A to Z
abbrev pub upper : ℕ → ℕ
upper b = if nat_le 97 b && nat_le b 122 then b - 32 else b

-- two bytes are equal: as they are, or, with fold, when a to z are taken to A to Z
abbrev pub same_byte : Bool → ℕ → ℕ → Bool
same_byte fold a b = if fold then upper a == upper b else a == b

-- two names are equal: of one length, and byte by byte equal
abbrev pub same_name : Bool → List ℕ → List ℕ → Bool
same_name fold a b = pointwise (same_byte fold) a b

-- a component: one or more bytes, and none of them a separator
abbrev pub IsComponent : List ℕ → Type 0
IsComponent c = (c ≢ []) × All (λ b. b ≢ separator) c

-- each component after a separator
abbrev pub joined : List (List ℕ) → List ℕ
joined [] = []
joined (c ∷ cs) = (separator ∷ c) ++ joined cs

-- what may follow the components of a split: nothing, or what begins with a separator
abbrev pub IsRest : List ℕ → Type 0
IsRest [] = Unit {0}
IsRest (b ∷ bs) = b ≡ separator

-- the text is these components, each after a separator, and then this rest
pub record IsSplit (text : List ℕ) (components : List (List ℕ)) (rest : List ℕ) : Type 0 where
  pub each : All IsComponent components
  pub whole : text ≡ joined components ++ rest
  pub bounded : IsRest rest

-- the bytes of a rest after its first separator, up to the next separator or the end
abbrev pub next_component : List ℕ → List ℕ
next_component rest = take_while (λ b. not (b == separator)) (drop 1 rest)

-- what follows that component
abbrev pub after_component : List ℕ → List ℕ
after_component rest = drop (1 + length (next_component rest)) rest

-- the last byte is a separator
abbrev pub ends_in_separator : List ℕ → Bool
ends_in_separator [] = false
ends_in_separator (b ∷ []) = b == separator
ends_in_separator (b ∷ c ∷ bs) = ends_in_separator (c ∷ bs)

-- the first byte is a separator
abbrev pub begins_with_separator : List ℕ → Bool
begins_with_separator [] = false
begins_with_separator (b ∷ bs) = b == separator

-- what a lookup goes on with after a link: the target followed by the rest, where of two
-- separators that meet one is dropped (this profile)
abbrev pub substituted : List ℕ → List ℕ → List ℕ
substituted target rest =
    if ends_in_separator target && begins_with_separator rest then target ++ drop 1 rest else target ++ rest
