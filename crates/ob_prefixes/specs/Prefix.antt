-- Prefixes of texts: which are the same, and where the components of one lead in a state.
--
-- Sources: OBJECT_ATTRIBUTES structure (OBJ_CASE_INSENSITIVE); Windows Internals, Object Manager (session namespace: the local
-- DOS device directory is searched before `\GLOBAL??`); what a prefix has is this profile.
use Rattle.std.specs.Prelude.{◌≡◌, ℕ, Bool, true, false, not, ◌&&◌, ◌==◌, nat_eq, if◌then◌else◌, List, [], ◌∷◌, map, Option, Some, All}
use Rattle.std.specs.Bool.{beq}
use Rattle.std.specs.Cmp.Lexicographic.{pointwise}
use Rattle.std.specs.Option.{option_or}
use Rattle.std.specs.Ordering.{eq_of_both, on}
use Rattle.ob_model.specs.Names.{separator, upper, joined, IsComponent}
use Rattle.ob_model.specs.State.{State, global_id, is_directory}
use Rattle.ob_model.specs.Paths.{InDirectory, IsPath, named_object}
use Rattle.ob_prefixes.specs.declared.prefix.Prefix.{Prefix}

-- the bytes of a prefix: with a to z taken to A to Z, where the case of letters doesn't count
abbrev pub folded : Bool → List ℕ → List ℕ
folded fold bytes = if fold then map upper bytes else bytes

-- the prefix with these bytes after its first separator, walked from this directory, or from the view of this local one
pub record IsPrefixOf (from : ℕ) (is_view folds : Bool) (text : List ℕ) (prefix : Prefix) : Type 0 where
  pub place : prefix.place ≡ from
  pub in_view : prefix.in_view ≡ is_view
  pub fold : prefix.fold ≡ folds
  pub bytes : prefix.bytes.items ≡ folded folds text

-- the prefix is of a view whose local directory is another than `\GLOBAL??`
abbrev pub is_local : Prefix → Bool
is_local prefix = prefix.in_view && not (prefix.place == global_id)

-- two prefixes are the same: of one place and one fold, with the same bytes
abbrev pub same_prefix : Prefix → Prefix → Bool
same_prefix =
    eq_of_both (on (λ (x : Prefix). x.place) nat_eq) (eq_of_both (on (λ (x : Prefix). x.in_view) beq) (eq_of_both (on (λ (x : Prefix). x.fold) beq) (on (λ (x : Prefix). x.bytes.items) (pointwise nat_eq))))

module _ {K T F I : Type 0} (s : State K T F I) where
  -- the object that a component names by what is seen in a directory, or in the view whose local directory this is
  abbrev pub entry_from : (in_view : Bool) → ℕ → List ℕ → Bool → Option ℕ
  entry_from false d c fold = named_object s d c false fold
  entry_from true d c fold = option_or (named_object s d c false fold) (named_object s global_id c false fold)

  -- components, of which there are some, lead from there to the object
  abbrev pub LeadsFrom : (in_view : Bool) → ℕ → List (List ℕ) → Bool → ℕ → Type 0
  LeadsFrom in_view d [] fold o = ⊥
  LeadsFrom in_view d (c ∷ cs) fold o =
      (m : ℕ) × (is_directory s d ≡ true) × (entry_from in_view d c fold ≡ Some m) × IsPath s (InDirectory m) cs false fold o

  -- the components of the prefix lead from its place to the directory
  abbrev pub LeadsTo : Prefix → ℕ → Type 0
  LeadsTo prefix directory =
      (cs : List (List ℕ)) × All IsComponent cs × (folded prefix.fold (joined cs) ≡ separator ∷ prefix.bytes.items)
      × LeadsFrom prefix.in_view prefix.place cs prefix.fold directory × (is_directory s directory ≡ true)
