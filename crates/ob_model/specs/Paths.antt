-- Paths: what is found in a directory and what is seen there, the places where a walk begins, which
-- object a path leads to, and where a walk over a text stops.
--
-- Sources: Windows Internals, Object Manager (object names; object directories and their shadow
-- directories; session namespace: the local DOS device directory is searched before `\GLOBAL??`);
-- OBJECT_ATTRIBUTES structure for names relative to a root directory. Which of several matches is
-- found, that the last component of a create is no entry of a shadow, and the rule on creates after
-- `\??`, are this profile.
use Rattle.std.specs.Prelude.{◌≡◌, ◌≢◌, ℕ, Bool, true, false, ◌&&◌, not, ◌==◌, nat_eq, nat_le, if◌then◌else◌, List, [], ◌∷◌, drop, Option, None, Some, filter, codes, ◌⊎◌}
use Rattle.std.specs.List.{starts_with}
use Rattle.std.specs.Str.{bytes_eq}
use Rattle.std.specs.Option.{option_map, option_or, option_and_then, unwrap_or}
use Rattle.ob_model.specs.declared.state.Row.{Row}
use Rattle.ob_model.specs.Names.{separator, same_name, begins_with_separator, IsSplit, next_component, after_component}
use Rattle.ob_model.specs.State.{State, root_id, global_id, is_directory, shadow_of, process_of}

-- the row of least stamp among these, and the first of those where several have it
abbrev pub earlier : Row → Option Row → Row
earlier r None = r
earlier r (Some q) = if nat_le r.stamp q.stamp then r else q

abbrev pub earliest : List Row → Option Row
earliest [] = None
earliest (r ∷ rs) = Some (earlier r (earliest rs))

-- the row is in the directory, and its name is equal to the component
abbrev pub is_match : ℕ → List ℕ → Bool → Row → Bool
is_match d c fold r = (r.directory == d) && same_name fold r.name c

-- Where a walk begins: a directory, or a process's view of the DOS device names, which searches
-- two directories for the first component.
pub data Origin : Type 0 where
  InDirectory : ℕ → Origin
  ViewOf : ℕ → Origin

-- the place of the component after these components, which lead to the directory d
abbrev pub place_behind : Origin → List (List ℕ) → ℕ → Origin
place_behind place [] d = place
place_behind place (c ∷ cs) d = InDirectory d

-- the text is one component after a separator
abbrev pub is_one_component : List ℕ → Bool
is_one_component text = begins_with_separator text && not (bytes_eq (next_component text) []) && bytes_eq (after_component text) []

-- whether no component is left
abbrev pub is_none_left : List (List ℕ) → Bool
is_none_left [] = true
is_none_left (c ∷ cs) = false

-- where a name relative to a directory begins, and what is walked from there
abbrev pub relative : ℕ → List ℕ → Origin × List ℕ
relative d [] = (InDirectory d, [])
relative d (b ∷ bs) = (InDirectory d, separator ∷ b ∷ bs)

module _ {K T F I : Type 0} where
  -- what is found in a directory: of the rows whose names are equal, the one inserted first
  abbrev pub found : State K T F I → ℕ → List ℕ → Bool → Option Row
  found s d c fold = earliest (filter (is_match d c fold) s.rows)

  -- what is seen in a directory: found there, or else found in its shadow, where it has one
  abbrev pub seen : State K T F I → ℕ → List ℕ → Bool → Option Row
  seen s d c fold = option_or (found s d c fold) (option_and_then (λ shadow. found s shadow c fold) (shadow_of s d))

  -- the object that a component names in a directory, by the directory's own entries alone or by what is
  -- seen there
  abbrev pub named_object : State K T F I → ℕ → List ℕ → (own fold : Bool) → Option ℕ
  named_object s d c own fold = option_map (λ r. r.object) (if own then found s d c fold else seen s d c fold)

  -- a process's local directory of DOS device names: its map's, else `\GLOBAL??`
  abbrev pub local : State K T F I → ℕ → ℕ
  local s p = unwrap_or (option_and_then (λ x. x.map) (process_of s p)) global_id

  -- the directory that a place is
  abbrev pub directory_at : State K T F I → Origin → ℕ
  directory_at s (InDirectory d) = d
  directory_at s (ViewOf p) = local s p

  -- the object that a component names at a place, by own entries alone or by what is seen: a view
  -- searches the local directory first
  abbrev pub entry : State K T F I → Origin → List ℕ → (own fold : Bool) → Option ℕ
  entry s (InDirectory d) c own fold = named_object s d c own fold
  entry s (ViewOf p) c own fold = option_or (named_object s (local s p) c own fold) (named_object s global_id c own fold)

  -- the components lead from the place to the object: each names an object by what is seen in the
  -- directory where those before it have led, the last one by own entries alone where that is asked
  -- for, and the last object is the one
  abbrev pub IsPath : State K T F I → Origin → List (List ℕ) → (own fold : Bool) → ℕ → Type 0
  IsPath s place [] own fold o = o ≡ directory_at s place
  IsPath s place (c ∷ cs) own fold o =
      (m : ℕ) × (is_directory s (directory_at s place) ≡ true) × (entry s place c (is_none_left cs && own) fold ≡ Some m)
      × IsPath s (InDirectory m) cs own fold o

  -- a walk over the text reaches the object with this rest: components lead to it, and the rest
  -- follows an object that is no directory, or is empty. The last component of a create names
  -- an own entry
  abbrev pub IsReach : State K T F I → Origin → List ℕ → (create fold : Bool) → ℕ → List ℕ → Type 0
  IsReach s place text create fold o rest =
      (cs : List (List ℕ)) × IsSplit text cs rest × IsPath s place cs (bytes_eq rest [] && create) fold o × ((is_directory s o ≡ false) ⊎ (rest ≡ []))

  -- a walk over the text misses the component c in the directory d: components lead to d, a rest
  -- follows, and c, its first component, is empty or names nothing there; in a create the last
  -- component names nothing where no own entry has its name
  abbrev pub IsMiss : State K T F I → Origin → List ℕ → (create fold : Bool) → ℕ → List ℕ → Bool → Type 0
  IsMiss s place text create fold d c last =
      (cs : List (List ℕ)) × (rest : List ℕ) × IsSplit text cs rest × (rest ≢ []) × IsPath s place cs false fold d
      × (is_directory s d ≡ true) × (c ≡ next_component rest)
      × ((c ≡ []) ⊎ (entry s (place_behind place cs d) c (last && create) fold ≡ None)) × (last ≡ bytes_eq (after_component rest) [])

  -- where an absolute text begins, and what is walked from there. `\??` is the process's view, but a
  -- create whose last component directly follows it looks in the local directory alone
  abbrev pub origin_of : State K T F I → (p : ℕ) (create : Bool) (text : List ℕ) → Option (Origin × List ℕ)
  origin_of s p create text =
      if bytes_eq text (codes "\\") then Some (InDirectory root_id, [])
      else if bytes_eq text (codes "\\??") then Some (ViewOf p, [])
      else if starts_with nat_eq text (codes "\\??\\") then
      Some (if create && is_one_component (drop 3 text) then InDirectory (local s p) else ViewOf p, drop 3 text)
      else if begins_with_separator text then Some (InDirectory root_id, text)
      else None
