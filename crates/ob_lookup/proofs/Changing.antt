-- A store in which a name comes or goes, beside a cache that stays: each prefix leads where it led.
use Rattle.std.proofs.Common.{◌≡◌, ◌∙◌, ℕ, ◌<◌, ◌==◌, ◌&&◌, Bool, true, false, cond, not, List, [], ◌∷◌, ◌++◌, filter, find, Option, None, Some, option_map, IsSome, All, refl, ap, sym, subst, eqb-true, arith}
use Rattle.std.specs.Prelude.{Contains}
use Rattle.std.proofs.lemmas.Bool.{false≢true}
use Rattle.std.proofs.lemmas.List.Elements.{All-head, All-tail}
use Rattle.std.specs.List.{list_any}
use Rattle.std.specs.Option.{option_and_then, option_map_or, option_or, is_some, unwrap_or}
use Rattle.ob_model.specs.declared.state.Row.{Row}
use Rattle.ob_model.specs.declared.state.Object.{Object}
use Rattle.ob_model.specs.State.{State, global_id, is_directory, is_directory_body, shadow_in}
use Rattle.ob_model.specs.Paths.{IsPath, is_none_left, found, named_object}
use Rattle.ob_model.specs.Paths as paths
use Rattle.ob_dirs.specs.declared.entry.DirEntry.{DirEntry}
use Rattle.ob_dirs.specs.Dir.{IsDir, ComesBefore, entry_found, is_named, row_of}
use Rattle.ob_dirs.proofs.Earliest.{first_comes_before, others_are_dir, found_is_first}
use Rattle.ob_objects.specs.declared.object.StoredBody.{StoredBody}
use Rattle.ob_objects.specs.declared.object.StoredBody.TheVariants.{Directory, Link, Other}
use Rattle.ob_objects.specs.declared.object.StoredObject.{StoredObject}
use Rattle.ob_objects.specs.Store.{Entries, IsStore, Shows, stored_at, directory_of, directory_at, body_of_stored, entries_at, objects_of, rows_of}
use Rattle.ob_objects.specs.Changes.{changed_at, body_with_name, body_without_name, with_name, without_name}
use Rattle.ob_objects.proofs.Entries.{nothing_mapped}
use Rattle.ob_objects.proofs.Follow.{told_of_object, shadow_of_object}
use Rattle.ob_objects.proofs.Shown.{entries_at-is_dir, names_change_no_object, store_finds}
use Rattle.ob_objects.proofs.Stands.{any_found, is_mapped_some}
use Rattle.ob_prefixes.specs.declared.prefix.Prefix.{Prefix}
use Rattle.ob_prefixes.specs.Cache.{Kept, NoneIsLocal}
use Rattle.ob_lookup.specs.Prefixes.{ArePaths}
use Rattle.ob_prefixes.specs.Prefix.{LeadsFrom, LeadsTo}
use Rattle.ob_lookup.specs.Walk.{shadow_at}
use Rattle.ob_lookup.proofs.Kept.{flag_off}
use Rattle.ob_lookup.proofs.Seen.{named_in_parts, entries_there, is_directory_there, shadow_shown, directory_stored}
use Rattle.ob_lookup.proofs.Stays.{directory_changed, directory_with_name, shadow_changed, shadow_with_name}

-- ---- lists

-- what is found is found before others
find_behind : {X : Type 0} (p : X → Bool) (xs ys : List X) (x : X) → find p xs ≡ Some x → find p (xs ++ ys) ≡ Some x
find_behind p [] ys x e = cc
find_behind {X = X} p (z ∷ zs) ys x e = go (p z) e (find_behind p zs ys x)
  where
    go : (t : Bool) → cond t (Some z) (find p zs) ≡ Some x → (find p zs ≡ Some x → find p (zs ++ ys) ≡ Some x) → cond t (Some z) (find p (zs ++ ys)) ≡ Some x
    go true e more = e
    go false e more = more e

-- and among those that stay, where it stays
find_kept : {X : Type 0} (p keep : X → Bool) (xs : List X) (x : X) → find p xs ≡ Some x → keep x ≡ true → find p (filter keep xs) ≡ Some x
find_kept p keep [] x e stays = cc
find_kept {X = X} p keep (z ∷ zs) x e stays = go (p z) (keep z) refl refl e (find_kept p keep zs x)
  where
    go : (t u : Bool) → p z ≡ t → keep z ≡ u → cond t (Some z) (find p zs) ≡ Some x → (find p zs ≡ Some x → keep x ≡ true → find p (filter keep zs) ≡ Some x)
        → find p (cond u (z ∷ filter keep zs) (filter keep zs)) ≡ Some x
    go true true here kept e more = ap (λ t. cond t (Some z) (find p (filter keep zs))) here ∙ e
    go true false here gone e more = let same : z ≡ x = cc in absurd (false≢true (sym gone ∙ ap keep same ∙ stays))
    go false true away kept e more = ap (λ t. cond t (Some z) (find p (filter keep zs))) away ∙ more e stays
    go false false away gone e more = more e stays

find_none : {X : Type 0} (p keep : X → Bool) (xs : List X) → find p xs ≡ None → find p (filter keep xs) ≡ None
find_none p keep [] e = refl
find_none {X = X} p keep (z ∷ zs) e = go (p z) (keep z) refl e (find_none p keep zs)
  where
    go : (t u : Bool) → p z ≡ t → cond t (Some z) (find p zs) ≡ None → (find p zs ≡ None → find p (filter keep zs) ≡ None)
        → find p (cond u (z ∷ filter keep zs) (filter keep zs)) ≡ None
    go true u here e more = cc
    go false true away e more = ap (λ t. cond t (Some z) (find p (filter keep zs))) away ∙ more e
    go false false away e more = more e

found_passes_all : {X : Type 0} (P : X → Type 0) (p : X → Bool) (xs : List X) (x : X) → All P xs → find p xs ≡ Some x → P x
found_passes_all P p [] x all e = cc
found_passes_all {X = X} P p (z ∷ zs) x all e = go (p z) e (found_passes_all P p zs x (All-tail P z zs all))
  where
    go : (t : Bool) → cond t (Some z) (find p zs) ≡ Some x → (find p zs ≡ Some x → P x) → P x
    go true e more = let same : z ≡ x = cc in subst P same (All-head P z zs all)
    go false e more = more e

-- where none passes a test, what is found doesn't
not_passed : {X : Type 0} (p q : X → Bool) (xs : List X) (x : X) → find q xs ≡ None → find p xs ≡ Some x → q x ≡ false
not_passed p q [] x none e = cc
not_passed {X = X} p q (z ∷ zs) x none e = go (q z) (p z) refl none e (not_passed p q zs x)
  where
    go : (t u : Bool) → q z ≡ t → cond t (Some z) (find q zs) ≡ None → cond u (Some z) (find p zs) ≡ Some x → (find q zs ≡ None → find p zs ≡ Some x → q x ≡ false) → q x ≡ false
    go true u here none e more = cc
    go false true away none e more = let same : z ≡ x = cc in ap q (sym same) ∙ away
    go false false away none e more = more none e

-- one entry of a directory has a stamp
one_of_stamp : (p : DirEntry → Bool) (n : ℕ) (es : List DirEntry) (a b : DirEntry) → IsDir es → find (λ e. e.stamp == n) es ≡ Some a → find p es ≡ Some b → (b.stamp == n) ≡ true → a ≡ b
one_of_stamp p n [] a b is first other same = cc
one_of_stamp p n (z ∷ zs) a b is first other same = go (z.stamp == n) (p z) refl first other (one_of_stamp p n zs a b (others_are_dir z zs is))
  where
    go : (t u : Bool) → (z.stamp == n) ≡ t → cond t (Some z) (find (λ e. e.stamp == n) zs) ≡ Some a → cond u (Some z) (find p zs) ≡ Some b
        → (find (λ e. e.stamp == n) zs ≡ Some a → find p zs ≡ Some b → (b.stamp == n) ≡ true → a ≡ b) → a ≡ b
    go true true here first other more = let x : z ≡ a = cc in let y : z ≡ b = cc in sym x ∙ y
    go true false here first other more =
        let behind : z.stamp < b.stamp = (found_passes_all (ComesBefore z) p zs b (first_comes_before z zs is) other).0 in
        absurd (omega (arith, behind, eqb-true z.stamp n here, eqb-true b.stamp n same))
    go false true away first other more = let y : z ≡ b = cc in absurd (false≢true (sym away ∙ ap (λ (x : DirEntry). x.stamp == n) y ∙ same))
    go false false away first other more = more first other same

-- ---- the entries of directories

module _ {F I : Type 0} where
  stored_changed : (store : Entries F I) (id k : ℕ) (change : StoredObject F I → StoredObject F I)
      → stored_at (changed_at id change store) k ≡ option_map (λ x. cond (k == id) (change x) x) (stored_at store k)
  stored_changed [] id k change = refl
  stored_changed (o ∷ store) id k change = go (o.0 == id) (o.0 == k) refl refl (stored_changed store id k change)
    where
      same_key : (o.0 == k) ≡ true → (k == id) ≡ (o.0 == id)
      same_key there = ap (λ n. n == id) (sym (eqb-true o.0 k there))

      go : (t u : Bool) → (o.0 == id) ≡ t → (o.0 == k) ≡ u → stored_at (changed_at id change store) k ≡ option_map (λ x. cond (k == id) (change x) x) (stored_at store k)
          → stored_at (cond t (o.0, change o.1) o ∷ changed_at id change store) k
          ≡ option_map (λ x. cond (k == id) (change x) x) (option_map (λ z. z.1) (cond u (Some o) (find (λ z. z.0 == k) store)))
      go true true here there more = rw there (ap (λ t. Some (cond t (change o.1) o.1)) (sym (same_key there ∙ here)))
      go true false here there more = rw there more
      go false true here there more = rw there (ap (λ t. Some (cond t (change o.1) o.1)) (sym (same_key there ∙ here)))
      go false false here there more = rw there more

  -- with a name more
  entries_with_name : (store : Entries F I) (id : ℕ) (entry : DirEntry) (d : ℕ) → IsSome (directory_at store id)
      → entries_at (with_name store id entry) d ≡ cond (d == id) (entries_at store d ++ entry ∷ []) (entries_at store d)
  entries_with_name store id entry d there =
      ap (λ (o : Option (StoredObject F I)). unwrap_or (option_and_then (λ x. directory_of x.body) o) []) (stored_changed store id d (λ x. record x { body = body_with_name entry x.body }))
      ∙ go (d == id) (stored_at store d) (λ same. subst (λ n. IsSome (directory_at store n)) (sym (eqb-true d id same)) there)
    where
      go : (t : Bool) (o : Option (StoredObject F I)) → (t ≡ true → IsSome (option_and_then (λ x. directory_of x.body) o))
          → unwrap_or (option_and_then (λ x. directory_of x.body) (option_map (λ x. cond t (record x { body = body_with_name entry x.body }) x) o)) []
          ≡ cond t (unwrap_or (option_and_then (λ x. directory_of x.body) o) [] ++ entry ∷ []) (unwrap_or (option_and_then (λ x. directory_of x.body) o) [])
      go true None is = absurd (false≢true (is refl))
      go true (Some x) is = body x.body (is refl)
        where
          body : (b : StoredBody F I) → IsSome (directory_of b) → unwrap_or (directory_of (body_with_name entry b)) [] ≡ unwrap_or (directory_of b) [] ++ entry ∷ []
          body (Directory es shadow) is = refl
          body (Link target) is = absurd (false≢true is)
          body (Other face inner) is = absurd (false≢true is)
      go false None is = refl
      go false (Some x) is = refl

  -- without those of a stamp
  entries_without_name : (store : Entries F I) (id stamp d : ℕ)
      → entries_at (without_name store id stamp) d ≡ cond (d == id) (filter (λ e. not (e.stamp == stamp)) (entries_at store d)) (entries_at store d)
  entries_without_name store id stamp d =
      ap (λ (o : Option (StoredObject F I)). unwrap_or (option_and_then (λ x. directory_of x.body) o) []) (stored_changed store id d (λ x. record x { body = body_without_name stamp x.body }))
      ∙ go (d == id) (stored_at store d)
    where
      go : (t : Bool) (o : Option (StoredObject F I))
          → unwrap_or (option_and_then (λ x. directory_of x.body) (option_map (λ x. cond t (record x { body = body_without_name stamp x.body }) x) o)) []
          ≡ cond t (filter (λ e. not (e.stamp == stamp)) (unwrap_or (option_and_then (λ x. directory_of x.body) o) [])) (unwrap_or (option_and_then (λ x. directory_of x.body) o) [])
      go true None = refl
      go true (Some x) = body x.body
        where
          body : (b : StoredBody F I) → unwrap_or (directory_of (body_without_name stamp b)) [] ≡ filter (λ e. not (e.stamp == stamp)) (unwrap_or (directory_of b) [])
          body (Directory es shadow) = refl
          body (Link target) = refl
          body (Other face inner) = refl
      go false None = refl
      go false (Some x) = refl

  still_directory : (stamp : ℕ) (body : StoredBody F I) → is_some (directory_of (body_without_name stamp body)) ≡ is_some (directory_of body)
  still_directory stamp (Directory es shadow) = refl
  still_directory stamp (Link target) = refl
  still_directory stamp (Other face inner) = refl

  directory_without_name : (store : Entries F I) (id stamp d : ℕ) → IsSome (directory_at store d) → IsSome (directory_at (without_name store id stamp) d)
  directory_without_name store id stamp d there =
      directory_changed store id d (λ x. record x { body = body_without_name stamp x.body }) (λ x. still_directory stamp x.body) there

  still_shadow : (stamp : ℕ) (body : StoredBody F I) → shadow_in (body_of_stored (body_without_name stamp body)) ≡ shadow_in (body_of_stored body)
  still_shadow stamp (Directory es shadow) = refl
  still_shadow stamp (Link target) = refl
  still_shadow stamp (Other face inner) = refl

  shadow_without_name : (store : Entries F I) (id stamp d : ℕ) → shadow_at (without_name store id stamp) d ≡ shadow_at store d
  shadow_without_name store id stamp d = shadow_changed store id d (λ x. record x { body = body_without_name stamp x.body }) (λ x. still_shadow stamp x.body)

  -- what is found in a directory is the first entry of its name
  first_found : (store : Entries F I) → IsStore store → (d : ℕ) (c : List ℕ) (fold : Bool) → entry_found (entries_at store d) c fold ≡ find (is_named c fold) (entries_at store d)
  first_found store is d c fold = found_is_first (entries_at store d) c fold (entries_at-is_dir store d is.directories)

-- ---- where each directory finds the directories that it found

module _ {K T F I : Type 0} (store : Entries F I) (cache : Kept) (are : ArePaths K T F I store cache) (new : Entries F I) (is : IsStore store) (is_new : IsStore new)
    (directories : (d : ℕ) → IsSome (directory_at store d) → IsSome (directory_at new d)) (shadows : (d : ℕ) → shadow_at new d ≡ shadow_at store d)
    (keeps : (d : ℕ) (c : List ℕ) (fold : Bool) (e : DirEntry) → find (is_named c fold) (entries_at store d) ≡ Some e → IsSome (directory_at store e.object)
    → find (is_named c fold) (entries_at new d) ≡ Some e)
    (lacks : (e : Prefix × ℕ) → Contains cache.entries e → e.0.in_view ≡ true → (e.0.place == global_id) ≡ false → (d : ℕ) (c : List ℕ) (fold : Bool)
    → find (is_named c fold) (entries_at store d) ≡ None → find (is_named c fold) (entries_at new d) ≡ None)
    (shows_through : (d shadow : ℕ) → shadow_at store d ≡ Some shadow → (c : List ℕ) (fold : Bool) → find (is_named c fold) (entries_at store d) ≡ None
    → find (is_named c fold) (entries_at new d) ≡ None) where
  -- the object of the first entry that a component names in a directory of a store
  abbrev named_by : Entries F I → ℕ → List ℕ → Bool → Option ℕ
  named_by of d c fold = option_map (λ e. e.object) (find (is_named c fold) (entries_at of d))

  names : (r : State K T F I) (of : Entries F I) → IsStore of → Shows r of → (d : ℕ) (c : List ℕ) (fold : Bool)
      → option_map (λ x. x.object) (found r d c fold) ≡ named_by of d c fold
  names r of is shows d c fold =
      ap (option_map (λ (x : Row). x.object)) (store_finds r of is shows d c fold ∙ ap (option_map (row_of d)) (first_found of is d c fold))
      ∙ go (find (is_named c fold) (entries_at of d))
    where
      go : (o : Option DirEntry) → option_map (λ (x : Row). x.object) (option_map (row_of d) o) ≡ option_map (λ e. e.object) o
      go None = refl
      go (Some x) = refl

  -- what a component names by what is seen
  names_seen : (r : State K T F I) (of : Entries F I) → IsStore of → Shows r of → (d : ℕ) (c : List ℕ) (fold : Bool)
      → named_object r d c false fold ≡ option_or (named_by of d c fold) (option_and_then (λ x. named_by of x c fold) (shadow_at of d))
  names_seen r of is shows d c fold =
      named_in_parts r d c false fold
      ∙ (λ i. option_or (names r of is shows d c fold i) (option_and_then (λ x. names r of is shows x c fold i) (shadow_shown r of shows d i)))

  module _ (s : State K T F I) (shows : Shows s new) where
    abbrev before : State K T F I
    before = record s { objects = objects_of store; rows = rows_of store }

    shown : Shows before store
    shown = record { objects = refl; rows = refl }

    directory_still : (d : ℕ) → is_directory before d ≡ true → is_directory s d ≡ true
    directory_still d there =
        is_directory_there s new shows d (entries_at new d) (entries_there new d (directories d (directory_stored before store shown d there)))

    by_still : (d : ℕ) (c : List ℕ) (fold : Bool) (m : ℕ) → named_by store d c fold ≡ Some m → is_directory before m ≡ true → named_by new d c fold ≡ Some m
    by_still d c fold m named there = go (find (is_named c fold) (entries_at store d)) refl named
      where
        go : (o : Option DirEntry) → find (is_named c fold) (entries_at store d) ≡ o → option_map (λ e. e.object) o ≡ Some m
            → option_map (λ e. e.object) (find (is_named c fold) (entries_at new d)) ≡ Some m
        go None e h = cc
        go (Some x) e h =
            let same : x.object ≡ m = cc in
            ap (option_map (λ (y : DirEntry). y.object)) (keeps d c fold x e (subst (λ n. IsSome (directory_at store n)) (sym same) (directory_stored before store shown m there))) ∙ h

    -- what is seen in a directory, and is one
    seen_still : (d : ℕ) (c : List ℕ) (fold : Bool) (m : ℕ) → named_object before d c false fold ≡ Some m → is_directory before m ≡ true → named_object s d c false fold ≡ Some m
    seen_still d c fold m named there = names_seen s new is_new shows d c fold ∙ here (named_by store d c fold) refl (sym (names_seen before store is shown d c fold) ∙ named)
      where
        below : (o : Option ℕ) → shadow_at store d ≡ o → named_by store d c fold ≡ None → option_and_then (λ x. named_by store x c fold) o ≡ Some m
            → option_or (named_by new d c fold) (option_and_then (λ x. named_by new x c fold) (shadow_at new d)) ≡ Some m
        below None at none h = cc
        below (Some shadow) at none h =
            let lacking : find (is_named c fold) (entries_at new d) ≡ None
            = shows_through d shadow at c fold (nothing_mapped (λ (y : DirEntry). y.object) (find (is_named c fold) (entries_at store d)) none) in
            ap (λ (o : Option DirEntry). option_or (option_map (λ y. y.object) o) (option_and_then (λ x. named_by new x c fold) (shadow_at new d))) lacking
            ∙ ap (option_and_then (λ x. named_by new x c fold)) (shadows d ∙ at) ∙ by_still shadow c fold m h there

        here : (o : Option ℕ) → named_by store d c fold ≡ o → option_or o (option_and_then (λ x. named_by store x c fold) (shadow_at store d)) ≡ Some m
            → option_or (named_by new d c fold) (option_and_then (λ x. named_by new x c fold) (shadow_at new d)) ≡ Some m
        here None none h = below (shadow_at store d) refl none h
        here (Some x) some h = ap (λ (o : Option ℕ). option_or o (option_and_then (λ x. named_by new x c fold) (shadow_at new d))) (by_still d c fold m (some ∙ h) there)

    -- nothing is seen where nothing was, in the local directory of a view
    lacks_still : (e : Prefix × ℕ) → Contains cache.entries e → e.0.in_view ≡ true → (e.0.place == global_id) ≡ false → (c : List ℕ) (fold : Bool)
        → named_object before e.0.place c false fold ≡ None → named_object s e.0.place c false fold ≡ None
    lacks_still e among view apart c fold none =
        names_seen s new is_new shows e.0.place c fold
        ∙ here (named_by store e.0.place c fold) refl (sym (names_seen before store is shown e.0.place c fold) ∙ none)
      where
        by_lacks : (d : ℕ) → named_by store d c fold ≡ None → named_by new d c fold ≡ None
        by_lacks d h =
            ap (option_map (λ (y : DirEntry). y.object)) (lacks e among view apart d c fold (nothing_mapped (λ (y : DirEntry). y.object) (find (is_named c fold) (entries_at store d)) h))

        below : (o : Option ℕ) → option_and_then (λ x. named_by store x c fold) o ≡ None → option_and_then (λ x. named_by new x c fold) o ≡ None
        below None h = refl
        below (Some d) h = by_lacks d h

        here : (o : Option ℕ) → named_by store e.0.place c fold ≡ o → option_or o (option_and_then (λ x. named_by store x c fold) (shadow_at store e.0.place)) ≡ None
            → option_or (named_by new e.0.place c fold) (option_and_then (λ x. named_by new x c fold) (shadow_at new e.0.place)) ≡ None
        here (Some x) some h = cc
        here None none h =
            ap (λ (o : Option ℕ). option_or o (option_and_then (λ x. named_by new x c fold) (shadow_at new e.0.place))) (by_lacks e.0.place none)
            ∙ ap (option_and_then (λ x. named_by new x c fold)) (shadows e.0.place) ∙ below (shadow_at store e.0.place) h

    -- what leads to a directory comes through directories
    stands : (m : ℕ) (cs : List (List ℕ)) (fold : Bool) (o : ℕ) → IsPath before (paths.InDirectory m) cs false fold o → is_directory before o ≡ true → is_directory before m ≡ true
    stands m [] fold o path there = subst (λ n. is_directory before n ≡ true) path there
    stands m (c ∷ cs) fold o path there = path.1

    path_still : (m : ℕ) (cs : List (List ℕ)) (fold : Bool) (o : ℕ) → IsPath before (paths.InDirectory m) cs false fold o → is_directory before o ≡ true → IsPath s (paths.InDirectory m) cs false fold o
    path_still m [] fold o path there = path
    path_still m (c ∷ cs) fold o path there = (
      path.0,
      directory_still m path.1,
      ap (λ b. named_object s m c b fold) (flag_off cs)
          ∙ seen_still m c fold path.0 (ap (λ b. named_object before m c b fold) (sym (flag_off cs)) ∙ path.2) (stands path.0 cs fold o path.3 there),
      path_still path.0 cs fold o path.3 there,
    )

    view_still : (e : Prefix × ℕ) → Contains cache.entries e → e.0.in_view ≡ true → (c : List ℕ) (fold : Bool) (m : ℕ)
        → option_or (named_object before e.0.place c false fold) (named_object before global_id c false fold) ≡ Some m → is_directory before m ≡ true
        → option_or (named_object s e.0.place c false fold) (named_object s global_id c false fold) ≡ Some m
    view_still e among view c fold m named there = go (named_object before e.0.place c false fold) refl named
      where
        elsewhere : named_object before e.0.place c false fold ≡ None → named_object before global_id c false fold ≡ Some m → named_object s e.0.place c false fold ≡ None
        elsewhere none global = at (e.0.place == global_id) refl
          where
            at : (t : Bool) → (e.0.place == global_id) ≡ t → named_object s e.0.place c false fold ≡ None
            at true same = let both : None ≡ Some m = sym none ∙ ap (λ n. named_object before n c false fold) (eqb-true e.0.place global_id same) ∙ global in cc
            at false apart = lacks_still e among view apart c fold none

        go : (o : Option ℕ) → named_object before e.0.place c false fold ≡ o → option_or o (named_object before global_id c false fold) ≡ Some m
            → option_or (named_object s e.0.place c false fold) (named_object s global_id c false fold) ≡ Some m
        go (Some x) here named = ap (λ o. option_or o (named_object s global_id c false fold)) (seen_still e.0.place c fold m (here ∙ named) there)
        go None none named =
            ap (λ o. option_or o (named_object s global_id c false fold)) (elsewhere none named) ∙ seen_still global_id c fold m named there

    leads_still : (e : Prefix × ℕ) → Contains cache.entries e → (v : Bool) → e.0.in_view ≡ v → (cs : List (List ℕ)) (fold : Bool) (o : ℕ)
        → LeadsFrom before v e.0.place cs fold o → is_directory before o ≡ true → LeadsFrom s v e.0.place cs fold o
    leads_still e among v view [] fold o leads there = leads
    leads_still e among false view (c ∷ cs) fold o leads there =
        (leads.0, directory_still e.0.place leads.1, seen_still e.0.place c fold leads.0 leads.2 (stands leads.0 cs fold o leads.3 there), path_still leads.0 cs fold o leads.3 there)
    leads_still e among true view (c ∷ cs) fold o leads there =
        (leads.0, directory_still e.0.place leads.1, view_still e among view c fold leads.0 leads.2 (stands leads.0 cs fold o leads.3 there), path_still leads.0 cs fold o leads.3 there)

    prefix_still : (e : Prefix × ℕ) → Contains cache.entries e → LeadsTo s e.0 e.1
    prefix_still e among =
        let leads = are.paths before shown e among in
        (leads.0, leads.1, leads.2, leads_still e among e.0.in_view refl leads.0 e.0.fold e.1 leads.3 leads.4, directory_still e.1 leads.4)

  changed_are_paths : ArePaths K T F I new cache
  changed_are_paths = record {
    there = λ e among. directories e.1 (are.there e among);
    paths = λ s shows e among. prefix_still s shows e among;
  }

-- ---- a name that comes, and one that goes and names no directory

module _ {K T F I : Type 0} (store : Entries F I) (cache : Kept) (are : ArePaths K T F I store cache) (is : IsStore store) where
  pub paths_with_name : (id : ℕ) (entry : DirEntry) → IsSome (directory_at store id) → shadow_at store id ≡ None → IsStore (with_name store id entry) → NoneIsLocal cache.entries
      → ArePaths K T F I (with_name store id entry) cache
  paths_with_name id entry there plain is_new none =
      changed_are_paths store cache are (with_name store id entry) is is_new (λ d dir. directory_with_name store id d entry dir) (λ d. shadow_with_name store id d entry) keeps
      (λ e among view apart d c fold _. absurd (false≢true (sym (none e among) ∙ (λ i. view i && not (apart i))))) shows_through
    where
      shows_through : (d shadow : ℕ) → shadow_at store d ≡ Some shadow → (c : List ℕ) (fold : Bool) → find (is_named c fold) (entries_at store d) ≡ None
          → find (is_named c fold) (entries_at (with_name store id entry) d) ≡ None
      shows_through d shadow has c fold lacking = ap (find (is_named c fold)) (entries_with_name store id entry d there) ∙ go (d == id) refl
        where
          go : (t : Bool) → (d == id) ≡ t → find (is_named c fold) (cond t (entries_at store d ++ entry ∷ []) (entries_at store d)) ≡ None
          go true same = let both : None ≡ Some shadow = sym plain ∙ ap (shadow_at store) (sym (eqb-true d id same)) ∙ has in cc
          go false other = lacking

      keeps : (d : ℕ) (c : List ℕ) (fold : Bool) (e : DirEntry) → find (is_named c fold) (entries_at store d) ≡ Some e → IsSome (directory_at store e.object)
          → find (is_named c fold) (entries_at (with_name store id entry) d) ≡ Some e
      keeps d c fold e found _ = ap (find (is_named c fold)) (entries_with_name store id entry d there) ∙ go (d == id)
        where
          go : (t : Bool) → find (is_named c fold) (cond t (entries_at store d ++ entry ∷ []) (entries_at store d)) ≡ Some e
          go true = find_behind (is_named c fold) (entries_at store d) (entry ∷ []) e found
          go false = found

  pub paths_without_name : (id stamp : ℕ) → IsStore (without_name store id stamp)
      → ((e : DirEntry) → find (λ x. x.stamp == stamp) (entries_at store id) ≡ Some e → is_some (directory_at store e.object) ≡ false)
      → ArePaths K T F I (without_name store id stamp) cache
  paths_without_name id stamp is_new gone =
      changed_are_paths store cache are (without_name store id stamp) is is_new (λ d dir. directory_without_name store id stamp d dir) (λ d. shadow_without_name store id stamp d) keeps
      (λ e among view apart. lacks) (λ d shadow has. lacks d)
    where
      stays : (d : ℕ) (c : List ℕ) (fold : Bool) (e : DirEntry) → (d == id) ≡ true → find (is_named c fold) (entries_at store d) ≡ Some e → IsSome (directory_at store e.object)
          → not (e.stamp == stamp) ≡ true
      stays d c fold e same found dir = ap not (none (find (λ x. x.stamp == stamp) (entries_at store d)) refl)
        where
          none : (o : Option DirEntry) → find (λ x. x.stamp == stamp) (entries_at store d) ≡ o → (e.stamp == stamp) ≡ false
          none None h = not_passed (is_named c fold) (λ x. x.stamp == stamp) (entries_at store d) e h found
          none (Some a) h = by (e.stamp == stamp) refl
            where
              by : (t : Bool) → (e.stamp == stamp) ≡ t → (e.stamp == stamp) ≡ false
              by false apart = apart
              by true it =
                  let one : a ≡ e = one_of_stamp (is_named c fold) stamp (entries_at store d) a e (entries_at-is_dir store d is.directories) h found it in
                  absurd (false≢true (sym (gone a (ap (λ n. find (λ (x : DirEntry). x.stamp == stamp) (entries_at store n)) (sym (eqb-true d id same)) ∙ h))
                  ∙ ap (λ (x : DirEntry). is_some (directory_at store x.object)) one ∙ dir))

      keeps : (d : ℕ) (c : List ℕ) (fold : Bool) (e : DirEntry) → find (is_named c fold) (entries_at store d) ≡ Some e → IsSome (directory_at store e.object)
          → find (is_named c fold) (entries_at (without_name store id stamp) d) ≡ Some e
      keeps d c fold e found dir = ap (find (is_named c fold)) (entries_without_name store id stamp d) ∙ go (d == id) refl
        where
          go : (t : Bool) → (d == id) ≡ t → find (is_named c fold) (cond t (filter (λ x. not (x.stamp == stamp)) (entries_at store d)) (entries_at store d)) ≡ Some e
          go true same = find_kept (is_named c fold) (λ x. not (x.stamp == stamp)) (entries_at store d) e found (stays d c fold e same found dir)
          go false apart = found

      lacks : (d : ℕ) (c : List ℕ) (fold : Bool) → find (is_named c fold) (entries_at store d) ≡ None → find (is_named c fold) (entries_at (without_name store id stamp) d) ≡ None
      lacks d c fold none = ap (find (is_named c fold)) (entries_without_name store id stamp d) ∙ go (d == id)
        where
          go : (t : Bool) → find (is_named c fold) (cond t (filter (λ x. not (x.stamp == stamp)) (entries_at store d)) (entries_at store d)) ≡ None
          go true = find_none (is_named c fold) (λ x. not (x.stamp == stamp)) (entries_at store d) none
          go false = none

-- the shadow that is asked for is that of the store
pub shadow_told : {F I : Type 0} (store : Entries F I) (id : ℕ) → shadow_at store id ≡ option_and_then (λ x. shadow_in x.body) (find (λ x. x.id == id) (objects_of store))
shadow_told store id = shadow_of_object store id (stored_at store id) refl

-- where none is told once a name has come, there was none
pub plain_told : {F I : Type 0} (store new : Entries F I) (id : ℕ) (entry : DirEntry) (shadow : Option ℕ) → new ≡ with_name store id entry
    → shadow ≡ option_and_then (λ x. shadow_in x.body) (find (λ x. x.id == id) (objects_of new)) → is_some shadow ≡ false → shadow_at store id ≡ None
plain_told {F} {I} store new id entry shadow put told none =
    sym (shadow_with_name store id id entry) ∙ ap (λ (es : Entries F I). shadow_at es id) (sym put) ∙ shadow_told new id ∙ sym told ∙ go shadow none
  where
    go : (o : Option ℕ) → is_some o ≡ false → o ≡ None
    go None e = refl
    go (Some d) e = cc

-- ---- what the entry of a stamp named

-- an object is a directory where one is stored
directory_told : {F I : Type 0} (store : Entries F I) (id : ℕ) → is_some (directory_at store id) ≡ option_map_or (λ x. is_directory_body x.body) (find (λ x. x.id == id) (objects_of store)) false
directory_told {F} {I} store id = go (stored_at store id) ∙ told_of_object (λ x. is_directory_body x.body) store id (stored_at store id) refl
  where
    body : (b : StoredBody F I) → is_some (directory_of b) ≡ is_directory_body (body_of_stored b)
    body (Directory es shadow) = refl
    body (Link target) = refl
    body (Other face inner) = refl

    go : (o : Option (StoredObject F I)) → is_some (option_and_then (λ x. directory_of x.body) o) ≡ option_map_or (λ x. is_directory_body (body_of_stored x.body)) o false
    go None = refl
    go (Some x) = body x.body

module _ {F I : Type 0} (store : Entries F I) (id stamp : ℕ) (took : Option ℕ) (is : took ≡ option_map (λ e. e.object) (find (λ e. e.stamp == stamp) (entries_at store id))) where
  -- an object is told exactly where there was an entry
  pub was_there : is_some took ≡ list_any (λ e. e.stamp == stamp) (entries_at store id)
  was_there = ap is_some is ∙ is_mapped_some (λ (e : DirEntry). e.object) (find (λ e. e.stamp == stamp) (entries_at store id)) ∙ sym (any_found (λ e. e.stamp == stamp) (entries_at store id))

  -- where none is, no entry names a directory
  pub none_named : took ≡ None → (e : DirEntry) → find (λ x. x.stamp == stamp) (entries_at store id) ≡ Some e → is_some (directory_at store e.object) ≡ false
  none_named none e found = let no : Some e.object ≡ None = sym (ap (option_map (λ (x : DirEntry). x.object)) found) ∙ sym is ∙ none in cc

  -- nor where the object is none, asked once its name has gone
  pub other_named : (object : ℕ) → took ≡ Some object → (left : Entries F I) → left ≡ without_name store id stamp → option_map_or (λ x. is_directory_body x.body) (find (λ x. x.id == object) (objects_of left)) false ≡ false
      → (e : DirEntry) → find (λ x. x.stamp == stamp) (entries_at store id) ≡ Some e → is_some (directory_at store e.object) ≡ false
  other_named object some left others plain e found =
      let it : Some e.object ≡ Some object = sym (ap (option_map (λ (x : DirEntry). x.object)) found) ∙ sym is ∙ some in
      let same : e.object ≡ object = cc in
      directory_told store e.object ∙ ap (λ (xs : List (Object F I)). option_map_or (λ x. is_directory_body x.body) (find (λ x. x.id == e.object) xs) false)
      (sym (ap objects_of others ∙ (names_change_no_object store id e stamp).1))
      ∙ ap (λ n. option_map_or (λ (x : Object F I). is_directory_body x.body) (find (λ x. x.id == n) (objects_of left)) false) same ∙ plain
