-- The store of the opening state, as names are put into its root.
use Rattle.std.proofs.Common.{◌≡◌, ◌≢◌, ◌∙◌, ℕ, ◌<◌, ◌==◌, false, List, [], ◌∷◌, All, IsSome, get_or, map, refl, ap, sym, subst, eq-eqb, arith}
use Rattle.std.specs.Prelude.{codes}
use Rattle.std.proofs.lemmas.Bool.{false≢true}
use Rattle.std.proofs.lemmas.List.Elements.{All-from_recursion}
use Rattle.ob_model.specs.declared.state.Row.{Row}
use Rattle.ob_model.specs.State.{root_id}
use Rattle.ob_objects.specs.Store.{Entries, NameEntry, directory_at, entries_at, rows_of}
use Rattle.ob_objects.specs.Changes.{with_name}
use Rattle.ob_space.specs.FirstStore.{opening_with, opening_objects, opening_entries}

-- texts of other first bytes differ
heads_differ : (a b : ℕ) (xs ys : List ℕ) → (a == b) ≡ false → a ∷ xs ≢ b ∷ ys
heads_differ a b xs ys e same = false≢true (sym e ∙ eq-eqb a b (ap (λ zs. get_or zs 0 0) same))

-- the row of a name in the root
abbrev pub root_row : NameEntry → Row
root_row e = record { stamp = e.stamp; directory = root_id; name = e.name; object = e.object }

-- the names that stand in the root before the last one
abbrev pub global : NameEntry
global = record { stamp = 1; name = codes "GLOBAL??"; object = 2 }

abbrev pub devices : NameEntry
devices = record { stamp = 2; name = codes "DosDevices"; object = 3 }

abbrev pub device : NameEntry
device = record { stamp = 3; name = codes "Device"; object = 4 }

abbrev pub based : NameEntry
based = record { stamp = 4; name = codes "BaseNamedObjects"; object = 5 }

-- and the last one
abbrev pub sessions : NameEntry
sessions = record { stamp = 5; name = codes "Sessions"; object = 6 }

module _ {F I : Type 0} (a b c d : Entries F I) (first : a ≡ opening_objects) (second : b ≡ with_name a root_id global) (third : c ≡ with_name b root_id devices)
    (fourth : d ≡ with_name c root_id device) where
  abbrev three : List NameEntry
  three = global ∷ devices ∷ device ∷ []

  three_named : d ≡ opening_with three
  three_named =
      fourth ∙ ap (λ (s : Entries F I). with_name s root_id device)
      (third ∙ ap (λ (s : Entries F I). with_name s root_id devices)
      (second ∙ ap (λ (s : Entries F I). with_name s root_id global) first))

  -- the fourth name is not there before, and the stamps are lesser
  pub fourth_free : All (λ x. x.name ≢ codes "BaseNamedObjects") (entries_at d root_id)
  fourth_free =
      subst (λ (s : Entries F I). All (λ x. x.name ≢ codes "BaseNamedObjects") (entries_at s root_id)) (sym three_named)
      (All-from_recursion (λ (x : NameEntry). x.name ≢ codes "BaseNamedObjects") three
      (heads_differ 71 66 _ _ refl, (heads_differ 68 66 _ _ refl, (heads_differ 68 66 _ _ refl, tt))))

  pub fourth_newest : All (λ x. x.stamp < 4) (entries_at d root_id)
  fourth_newest =
      subst (λ (s : Entries F I). All (λ x. x.stamp < 4) (entries_at s root_id)) (sym three_named)
      (All-from_recursion (λ (x : NameEntry). x.stamp < 4) three (omega arith, (omega arith, (omega arith, tt))))

  -- the object of the fourth name has none before
  pub fourth_unnamed : All (λ r. r.object ≢ 5) (rows_of d)
  fourth_unnamed =
      subst (λ (s : Entries F I). All (λ r. r.object ≢ 5) (rows_of s)) (sym three_named)
      (All-from_recursion (λ (r : Row). r.object ≢ 5) (map root_row three)
      ((λ same. omega (arith, same)), ((λ same. omega (arith, same)), ((λ same. omega (arith, same)), tt))))

module _ {F I : Type 0} (a b c d e : Entries F I) (first : a ≡ opening_objects) (second : b ≡ with_name a root_id global) (third : c ≡ with_name b root_id devices)
    (fourth : d ≡ with_name c root_id device) (fifth : e ≡ with_name d root_id based) where
  abbrev four : List NameEntry
  four = global ∷ devices ∷ device ∷ based ∷ []

  four_named : e ≡ opening_with four
  four_named =
      fifth ∙ ap (λ (s : Entries F I). with_name s root_id based)
      (fourth ∙ ap (λ (s : Entries F I). with_name s root_id device)
      (third ∙ ap (λ (s : Entries F I). with_name s root_id devices)
      (second ∙ ap (λ (s : Entries F I). with_name s root_id global) first)))

  -- the root is there, without the last name, and with lesser stamps
  pub root_there : IsSome (directory_at e root_id)
  root_there = subst (λ (s : Entries F I). IsSome (directory_at s root_id)) (sym four_named) refl

  pub last_free : All (λ x. x.name ≢ codes "Sessions") (entries_at e root_id)
  last_free =
      subst (λ (s : Entries F I). All (λ x. x.name ≢ codes "Sessions") (entries_at s root_id)) (sym four_named)
      (All-from_recursion (λ (x : NameEntry). x.name ≢ codes "Sessions") four
      (heads_differ 71 83 _ _ refl, (heads_differ 68 83 _ _ refl, (heads_differ 68 83 _ _ refl, (heads_differ 66 83 _ _ refl, tt)))))

  pub last_newest : All (λ x. x.stamp < 5) (entries_at e root_id)
  last_newest =
      subst (λ (s : Entries F I). All (λ x. x.stamp < 5) (entries_at s root_id)) (sym four_named)
      (All-from_recursion (λ (x : NameEntry). x.stamp < 5) four (omega arith, (omega arith, (omega arith, (omega arith, tt)))))

  pub last_unnamed : All (λ r. r.object ≢ 6) (rows_of e)
  last_unnamed =
      subst (λ (s : Entries F I). All (λ r. r.object ≢ 6) (rows_of s)) (sym four_named)
      (All-from_recursion (λ (r : Row). r.object ≢ 6) (map root_row four)
      ((λ same. omega (arith, same)), ((λ same. omega (arith, same)), ((λ same. omega (arith, same)), ((λ same. omega (arith, same)), tt)))))

  -- with the last name the store is that of the opening state
  pub all_named : (f : Entries F I) → f ≡ with_name e root_id sessions → f ≡ opening_entries
  all_named f sixth = sixth ∙ ap (λ (s : Entries F I). with_name s root_id sessions) four_named
