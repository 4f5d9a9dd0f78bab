-- The opening state is sound, and what keeps a state so: settling, a new object, an open with its
-- grant, and a close.
use Rattle.std.proofs.Common.{◌≡◌, ◌≢◌, ℕ, ◌<◌, ◌≤◌, ◌+◌, ◌==◌, Bool, true, false, ◌&&◌, ◌||◌, not, cond, if◌then◌else◌, List, [], ◌∷◌, ◌++◌, append-nil, length, get_or, map, find, All, Option, None, Some, MatchOption, Result, Ok, Err, MatchResult, option_map, is_some, refl, ap, ◌∙◌, sym, subst, arith, eq-eqb, eqb-true}
use Rattle.std.specs.List.{list_any, AllPairs}
use Rattle.std.specs.Option.{option_map_or, option_and_then, option_or}
use Rattle.std.proofs.lemmas.Bool.{or_right, and_parts, and_from}
use Rattle.std.proofs.lemmas.List.Elements.{All-nil, All-cons, All-head, All-tail, All-from_recursion, All-append, All-push, All-map, All-weaker, All-filter}
use Rattle.std.proofs.lemmas.List.Folds.{list_any_at}
use Rattle.std.proofs.lemmas.List.Kept.{AllPairs-cons, AllPairs-filter}
use Rattle.std.proofs.lemmas.List.Quantifiers.{all_pairs_push}
use Rattle.ob_base.specs.Attrs.{has_flag, permanent_flag, exclusive_flag}
use Rattle.ob_model.specs.declared.state.Body.{Body}
use Rattle.ob_model.specs.declared.state.Body.TheVariants.{Directory, Link, Other}
use Rattle.ob_model.specs.declared.state.Object.{Object}
use Rattle.ob_model.specs.declared.state.Row.{Row}
use Rattle.ob_model.specs.declared.state.Held.{Held}
use Rattle.ob_model.specs.declared.state.Process.{Process}
use Rattle.ob_model.specs.declared.reply.Answer.{Answer}
use Rattle.ob_model.specs.declared.reply.Given.TheVariants.{Handle}
use Rattle.ob_base.specs.declared.status.Status.{Status}
use Rattle.ob_model.specs.Refusals.{gives, IsRefused}
use Rattle.ob_model.specs.State.{State, root_id, global_id, insert_object, object_among, object_of, is_directory, is_directory_body, shadow_in, shadow_among, shadow_of, is_live_among, is_live, held_of}
use Rattle.ob_model.specs.Opening.{opening}
use Rattle.ob_model.specs.declared.terms.Reason.{Reason}
use Rattle.ob_model.specs.declared.terms.Reason.TheVariants.{Created}
use Rattle.ob_model.specs.Procedures.{Procedures}
use Rattle.ob_model.specs.Settle.{is_kept, is_alive_itself, has_shadow, is_shadowing, is_alive, has_name, is_mapped, holds_kept, deleted_one, settle}
use Rattle.ob_model.specs.declared.terms.GrantOptions.{GrantOptions}
use Rattle.ob_model.specs.Grants.{Grants, opened_body, opened_set, opened_object, with_open, with_handle}
use Rattle.ob_model.specs.Closing.{is_handle, without_handle, closed_body, closed_object, closed_handle}
use Rattle.ob_model.specs.Creates.{Spot, new_rows, with_object, with_row, created, dropped}
use Rattle.ob_model.specs.Names.{IsComponent}
use Rattle.ob_model.specs.Paths.{is_match}
use Rattle.ob_model.specs.Sound.{StandsAmong, IsDirectoryAmong, IsShadowAmong, HasSoundShadowAmong, HasSoundMapAmong, Stands, IsDirectory, HasSoundMap, IsSound, is_barred}
use Rattle.ob_model.proofs.Finds.{find-map, not_found, All-kept}
use Rattle.ob_model.proofs.InOrder.{below_is_other, IsFree, free_from_other, newest_is_free, in_order-All, in_order-find, in_order-rising}
use Rattle.ob_model.proofs.Sorted.{pairs_head, pairs_tail}
use Rattle.ob_model.proofs.Places.{IsComponent-from_test, stand_apart, IsPlace}
use Rattle.ob_model.proofs.Settled.{object_of-settle, is_directory-settle, stands-settle, alive_from_shadow, alive_from_handle, alive_from_pin, alive_from_map, alive_from_held_name, alive_from_row, rows_are_names, rows_are_held}

-- whether what is found is a directory
abbrev is_directory_object : {F I : Type 0} → Option (Object F I) → Bool
is_directory_object found = option_map_or is_directory_body (option_map (λ x. x.body) found) false

-- of two handles that differ in process or value each is another than the other
other_handle : (a b c d : ℕ) → ((a == b) && (c == d)) ≡ false → ((b == a) && (d == c)) ≡ false
other_handle a b c d differ = go (b == a) (d == c) refl refl
  where
    go : (x y : Bool) → (b == a) ≡ x → (d == c) ≡ y → (x && y) ≡ false
    go true true e f =
        let first : (a == b) ≡ true = eq-eqb a b (sym (eqb-true b a e)) in
        let second : (c == d) ≡ true = eq-eqb c d (sym (eqb-true d c f)) in
        cc
    go true false e f = refl
    go false y e f = refl

-- elements rise by a number where each has a lesser one than the next
module _ {X : Type 0} (number : X → ℕ) where
  abbrev pub Climb : List X → Type 0
  Climb [] = Unit {0}
  Climb (x ∷ []) = Unit {0}
  Climb (x ∷ y ∷ xs) = (number x < number y) × Climb (y ∷ xs)

  all_above : (n : ℕ) (y : X) (xs : List X) → n < number y → Climb (y ∷ xs) → All (λ x. n < number x) (y ∷ xs)
  all_above n y [] less climb = All-cons (λ x. n < number x) y [] less (All-nil (λ x. n < number x))
  all_above n y (x ∷ xs) less climb = All-cons (λ x. n < number x) y (x ∷ xs) less (all_above n x xs (let next = climb.0 in omega (arith, less, next)) climb.1)

  pub pairs_climb : (xs : List X) → Climb xs → AllPairs (λ a b. number a < number b) xs
  pairs_climb [] climb = λ i j d less within. absurd (omega (arith, within))
  pairs_climb (x ∷ []) climb = λ i j d less within. absurd (omega (arith, less, within))
  pairs_climb (x ∷ y ∷ xs) climb = AllPairs-cons (λ a b. number a < number b) x (y ∷ xs) (all_above (number x) y xs climb.0 climb.1) (pairs_climb (y ∷ xs) climb.1)

-- rows rise by stamps
abbrev pub Rise : List Row → Type 0
Rise rows = Climb (λ r. r.stamp) rows

pub pairs_rise : (rows : List Row) → Rise rows → AllPairs (λ a b. a.stamp < b.stamp) rows
pairs_rise rows rise = pairs_climb (λ r. r.stamp) rows rise

-- numbers that rise
abbrev pub IdsRise : {F I : Type 0} → List (Object F I) → Type 0
IdsRise xs = AllPairs (λ a b. a.id < b.id) xs

-- still do where a change leaves the numbers
ids_map : {F I : Type 0} (f : Object F I → Object F I) → ((x : Object F I) → (f x).id ≡ x.id) → (xs : List (Object F I)) → IdsRise xs → IdsRise (map f xs)
ids_map f same [] rising = λ i j d less within. absurd (omega (arith, within))
ids_map f same (x ∷ xs) rising =
    AllPairs-cons (λ a b. a.id < b.id) (f x) (map f xs)
    (All-map (λ y. (f x).id < y.id) f xs
    (λ k d within. subst (λ (n : ℕ). n < (f (get_or xs k d)).id) (sym (same x)) (subst (λ (n : ℕ). x.id < n) (sym (same (get_or xs k d))) (pairs_head (λ a b. a.id < b.id) x xs rising k d within))))
    (ids_map f same xs (pairs_tail (λ a b. a.id < b.id) x xs rising))

-- each object is found under its number
pub found_at : {F I : Type 0} (xs : List (Object F I)) → IdsRise xs → All (λ x. object_among xs x.id ≡ Some x) xs
found_at [] rising = All-nil (λ x. object_among [] x.id ≡ Some x)
found_at {F} {I} (x ∷ xs) rising =
    All-cons (λ y. object_among (x ∷ xs) y.id ≡ Some y) x xs (ap (λ b. cond b (Some x) (find (λ z. z.id == x.id) xs)) (eq-eqb x.id x.id refl))
    (λ k d within.
    let y = get_or xs k d in
    ap (λ b. cond b (Some x) (find (λ z. z.id == y.id) xs)) (below_is_other x.id y.id (pairs_head (λ a b. a.id < b.id) x xs rising k d within)) ∙ found_at xs (pairs_tail (λ a b. a.id < b.id) x xs rising) k d within)

-- numbers below one are below a greater one
drawn_more : {F I : Type 0} (n m : ℕ) (xs : List (Object F I)) → n ≤ m → All (λ x. x.id < n) xs → All (λ x. x.id < m) xs
drawn_more n m xs later all = All-weaker (λ x. x.id < n) (λ x. x.id < m) (λ x less. omega (arith, less, later)) xs all

-- and stay so where a change leaves the numbers
drawn_map : {F I : Type 0} (f : Object F I → Object F I) → ((x : Object F I) → (f x).id ≡ x.id) → (n : ℕ) (xs : List (Object F I)) → All (λ x. x.id < n) xs → All (λ x. x.id < n) (map f xs)
drawn_map f same n xs all = All-map (λ x. x.id < n) f xs (λ k d within. subst (λ (i : ℕ). i < n) (sym (same (get_or xs k d))) (all k d within))

-- a number that no object has stays so where a change leaves the numbers
reserved_map : {F I : Type 0} (f : Object F I → Object F I) → ((x : Object F I) → (f x).id ≡ x.id) → (n : ℕ) (xs : List (Object F I)) → All (λ x. x.id ≢ n) xs → All (λ x. x.id ≢ n) (map f xs)
reserved_map f same n xs all = All-map (λ x. x.id ≢ n) f xs (λ k d within. subst (λ (i : ℕ). i ≢ n) (sym (same (get_or xs k d))) (all k d within))

-- what stands among objects whose numbers are below one has such a number
pub stands_drawn : {F I : Type 0} (n : ℕ) (xs : List (Object F I)) (o : ℕ) → All (λ x. x.id < n) xs → is_some (find (λ x. x.id == o) xs) ≡ true → o < n
stands_drawn n [] o all h = cc
stands_drawn {F} {I} n (x ∷ xs) o all h = go (x.id == o) refl h (stands_drawn n xs o (All-tail (λ y. y.id < n) x xs all))
  where
    go : (b : Bool) → (x.id == o) ≡ b → is_some (cond b (Some x) (find (λ y. y.id == o) xs)) ≡ true → (is_some (find (λ y. y.id == o) xs) ≡ true → o < n) → o < n
    go true e h rest = subst (λ (i : ℕ). i < n) (eqb-true x.id o e) (All-head (λ y. y.id < n) x xs all)
    go false e h rest = rest h

-- a change of objects that leaves their numbers, and which are directories
module _ {F I : Type 0} (f : Object F I → Object F I) (same_id : (x : Object F I) → (f x).id ≡ x.id) (same_body : (x : Object F I) → is_directory_body (f x).body ≡ is_directory_body x.body) where
  pub find_id-map : (o : ℕ) (xs : List (Object F I)) → find (λ x. x.id == o) (map f xs) ≡ option_map f (find (λ x. x.id == o) xs)
  find_id-map o xs = find-map (λ x. x.id == o) f (λ x. ap (λ n. n == o) (same_id x)) xs

  pub is_directory-map : (o : ℕ) (xs : List (Object F I)) → is_directory_object (find (λ x. x.id == o) (map f xs)) ≡ is_directory_object (find (λ x. x.id == o) xs)
  is_directory-map o xs = rw (find_id-map o xs) (go (find (λ x. x.id == o) xs))
    where
      go : (found : Option (Object F I)) → is_directory_object (option_map f found) ≡ is_directory_object found
      go None = refl
      go (Some x) = same_body x

  pub stands-map : (o : ℕ) (xs : List (Object F I)) → is_some (find (λ x. x.id == o) (map f xs)) ≡ is_some (find (λ x. x.id == o) xs)
  stands-map o xs = rw (find_id-map o xs) (go (find (λ x. x.id == o) xs))
    where
      go : (found : Option (Object F I)) → is_some (option_map f found) ≡ is_some found
      go None = refl
      go (Some x) = refl

-- a change of objects that leaves their numbers, and their shadows
module _ {F I : Type 0} (f : Object F I → Object F I) (same_id : (x : Object F I) → (f x).id ≡ x.id) (same_shadow : (x : Object F I) → shadow_in (f x).body ≡ shadow_in x.body) where
  pub shadow-map : (o : ℕ) (xs : List (Object F I)) → shadow_among (map f xs) o ≡ shadow_among xs o
  shadow-map o xs = rw (find-map (λ x. x.id == o) f (λ x. ap (λ n. n == o) (same_id x)) xs) (go (find (λ x. x.id == o) xs))
    where
      go : (found : Option (Object F I)) → option_and_then shadow_in (option_map (λ x. x.body) (option_map f found)) ≡ option_and_then shadow_in (option_map (λ x. x.body) found)
      go None = refl
      go (Some x) = same_shadow x

module _ {K T F I : Type 0} (g : Procedures K T F I) where
  pub opened_object-id : (set : T) (o : ℕ) (reason : Reason) (x : Object F I) → (opened_object g set o reason x).id ≡ x.id
  opened_object-id set o reason x = elim (x.id == o) as (λ b. (if b then record x { body = opened_body g set x.body reason } else x).id ≡ x.id) [ true ↦ refl | false ↦ refl ]

  opened_body-is_directory : (set : T) (reason : Reason) (body : Body F I) → is_directory_body (opened_body g set body reason) ≡ is_directory_body body
  opened_body-is_directory set reason (Directory shadow) = refl
  opened_body-is_directory set reason (Link target) = refl
  opened_body-is_directory set reason (Other face inner) = refl

  pub opened_object-is_directory : (set : T) (o : ℕ) (reason : Reason) (x : Object F I) → is_directory_body (opened_object g set o reason x).body ≡ is_directory_body x.body
  opened_object-is_directory set o reason x =
      elim (x.id == o) as (λ b. is_directory_body (if b then record x { body = opened_body g set x.body reason } else x).body ≡ is_directory_body x.body)
      [ true ↦ opened_body-is_directory set reason x.body | false ↦ refl ]

  pub closed_object-id : (set : T) (o left total : ℕ) (x : Object F I) → (closed_object g set o left total x).id ≡ x.id
  closed_object-id set o left total x = elim (x.id == o) as (λ b. (if b then record x { body = closed_body g set left total x.body } else x).id ≡ x.id) [ true ↦ refl | false ↦ refl ]

  closed_body-is_directory : (set : T) (left total : ℕ) (body : Body F I) → is_directory_body (closed_body g set left total body) ≡ is_directory_body body
  closed_body-is_directory set left total (Directory shadow) = refl
  closed_body-is_directory set left total (Link target) = refl
  closed_body-is_directory set left total (Other face inner) = refl

  pub closed_object-is_directory : (set : T) (o left total : ℕ) (x : Object F I) → is_directory_body (closed_object g set o left total x).body ≡ is_directory_body x.body
  closed_object-is_directory set o left total x =
      elim (x.id == o) as (λ b. is_directory_body (if b then record x { body = closed_body g set left total x.body } else x).body ≡ is_directory_body x.body)
      [ true ↦ closed_body-is_directory set left total x.body | false ↦ refl ]

  -- neither changes a shadow
  opened_body-shadow : (set : T) (reason : Reason) (body : Body F I) → shadow_in (opened_body g set body reason) ≡ shadow_in body
  opened_body-shadow set reason (Directory shadow) = refl
  opened_body-shadow set reason (Link target) = refl
  opened_body-shadow set reason (Other face inner) = refl

  pub opened_object-shadow : (set : T) (o : ℕ) (reason : Reason) (x : Object F I) → shadow_in (opened_object g set o reason x).body ≡ shadow_in x.body
  opened_object-shadow set o reason x =
      elim (x.id == o) as (λ b. shadow_in (if b then record x { body = opened_body g set x.body reason } else x).body ≡ shadow_in x.body)
      [ true ↦ opened_body-shadow set reason x.body | false ↦ refl ]

  closed_body-shadow : (set : T) (left total : ℕ) (body : Body F I) → shadow_in (closed_body g set left total body) ≡ shadow_in body
  closed_body-shadow set left total (Directory shadow) = refl
  closed_body-shadow set left total (Link target) = refl
  closed_body-shadow set left total (Other face inner) = refl

  pub closed_object-shadow : (set : T) (o left total : ℕ) (x : Object F I) → shadow_in (closed_object g set o left total x).body ≡ shadow_in x.body
  closed_object-shadow set o left total x =
      elim (x.id == o) as (λ b. shadow_in (if b then record x { body = closed_body g set left total x.body } else x).body ≡ shadow_in x.body)
      [ true ↦ closed_body-shadow set left total x.body | false ↦ refl ]

  -- an open leaves which objects are directories, whatever its object is
  pub is_directory-opened : (s : State K T F I) (o m : ℕ) (reason : Reason) → is_directory (with_open g s o reason) m ≡ is_directory s m
  is_directory-opened s o m reason =
      is_directory-map (opened_object g s.set o reason) (opened_object-id s.set o reason) (opened_object-is_directory s.set o reason) m s.objects

  -- and so does a close
  pub is_directory-closed : (s : State K T F I) (h : Held) (m : ℕ) → is_directory (closed_handle g s h) m ≡ is_directory s m
  is_directory-closed s h m = is_directory-map (closed_object g s.set h.object _ _) (closed_object-id s.set h.object _ _) (closed_object-is_directory s.set h.object _ _) m s.objects

  -- the root is a directory after settling where it was one before
  pub root_stands : (s : State K T F I) → is_directory (settle g s) root_id ≡ is_directory s root_id
  root_stands s = is_directory-settle g s root_id refl

  -- after an open and its grant
  pub opened_root : (s : State K T F I) (p value o : ℕ) (reason : Reason) (inherit : Bool)
      → is_directory (with_handle (with_open g s o reason) p value o inherit) root_id ≡ is_directory s root_id
  opened_root s p value o reason inherit = is_directory-opened s o root_id reason

  -- and after a close
  pub closed_root : (s : State K T F I) (h : Held) → is_directory (closed_handle g s h) root_id ≡ is_directory s root_id
  closed_root s h = is_directory-closed s h root_id

or_false : (b : Bool) → (b || false) ≡ true → b ≡ true
or_false true h = refl
or_false false h = h

-- what is found and is a directory is found before what comes behind
is_directory_object-or : {F I : Type 0} (found other : Option (Object F I)) → is_directory_object found ≡ true → is_directory_object (option_or found other) ≡ true
is_directory_object-or None other h = cc
is_directory_object-or (Some x) other h = h

-- and so is its shadow
abbrev shadow_of_found : {F I : Type 0} → Option (Object F I) → Option ℕ
shadow_of_found found = option_and_then shadow_in (option_map (λ x. x.body) found)

shadow_of_found-or : {F I : Type 0} (found other : Option (Object F I)) → is_directory_object found ≡ true → shadow_of_found (option_or found other) ≡ shadow_of_found found
shadow_of_found-or None other h = cc
shadow_of_found-or (Some x) other h = refl

-- what is found is found before what comes behind, and else what comes behind is
is_some-or_left : {F I : Type 0} (found other : Option (Object F I)) → is_some found ≡ true → is_some (option_or found other) ≡ true
is_some-or_left None other h = cc
is_some-or_left (Some x) other h = refl

is_some-or_right : {F I : Type 0} (found other : Option (Object F I)) → is_some other ≡ true → is_some (option_or found other) ≡ true
is_some-or_right None other h = h
is_some-or_right (Some x) other h = refl

-- an object of a number that is free leaves what stands, and each directory one, and stands itself
module _ {F I : Type 0} (x : Object F I) (xs : List (Object F I)) (free : IsFree (λ y. y.id) x xs) where
  pub is_directory-inserted : (m : ℕ) → IsDirectoryAmong xs m → IsDirectoryAmong (insert_object x xs) m
  is_directory-inserted m h = ap is_directory_object (in_order-find (λ y. y.id) x xs m free) ∙ is_directory_object-or (object_among xs m) _ h

  pub shadow-inserted : (m : ℕ) → IsDirectoryAmong xs m → shadow_among (insert_object x xs) m ≡ shadow_among xs m
  shadow-inserted m h = ap shadow_of_found (in_order-find (λ y. y.id) x xs m free) ∙ shadow_of_found-or (object_among xs m) _ h

  pub stands-inserted : (m : ℕ) → StandsAmong xs m → StandsAmong (insert_object x xs) m
  stands-inserted m h = ap is_some (in_order-find (λ y. y.id) x xs m free) ∙ is_some-or_left (object_among xs m) _ h

  pub inserted_stands : StandsAmong (insert_object x xs) x.id
  inserted_stands = ap is_some (in_order-find (λ y. y.id) x xs x.id free) ∙ is_some-or_right (object_among xs x.id) _ (rw (eq-eqb x.id x.id refl) refl)

-- a directory stands
stands_from_directory_object : {F I : Type 0} (found : Option (Object F I)) → is_directory_object found ≡ true → is_some found ≡ true
stands_from_directory_object None h = cc
stands_from_directory_object (Some x) h = refl

module _ {K T F I : Type 0} where
  pub stands_from_is_directory : (s : State K T F I) (o : ℕ) → IsDirectory s o → Stands s o
  stands_from_is_directory s o h = stands_from_directory_object (object_of s o) h

  -- the opening state is sound: the first two objects are directories, and each row names one of the six
  pub opening_sound : (set : T) → IsSound (opening {K = K} {F = F} {I = I} set)
  opening_sound set =
      let s : State K T F I = opening set in
      record {
        objects = record {
          root = refl;
          global = refl;
          drawn = All-from_recursion (λ x. x.id < s.next_id) s.objects (omega arith, (omega arith, (omega arith, (omega arith, (omega arith, (omega arith, tt))))));
          rising = pairs_climb (λ x. x.id) s.objects (omega arith, (omega arith, (omega arith, (omega arith, (omega arith, tt)))));
          shadows = All-from_recursion (HasSoundShadowAmong s.objects) s.objects (tt, (tt, (tt, (tt, (tt, (tt, tt))))));
        };
        processes = record {
          maps = All-from_recursion (HasSoundMap s) s.processes (tt, tt);
          numbered = All-from_recursion (λ x. x.number < s.next_process) s.processes (omega arith, tt);
        };
        rows = record {
          standing = All-from_recursion (λ r. Stands s r.object) s.rows (refl, (refl, (refl, (refl, (refl, tt)))));
          descending = All-from_recursion (λ r. r.directory < r.object) s.rows (omega arith, (omega arith, (omega arith, (omega arith, (omega arith, tt)))));
          rising = pairs_rise s.rows (omega arith, (omega arith, (omega arith, (omega arith, tt))));
          stamped = All-from_recursion (λ r. r.stamp < s.next_stamp) s.rows (omega arith, (omega arith, (omega arith, (omega arith, (omega arith, tt)))));
          inside = All-from_recursion (λ r. IsDirectory s r.directory) s.rows (refl, (refl, (refl, (refl, (refl, tt)))));
          named = All-from_recursion (λ r. IsComponent r.name) s.rows
              (IsComponent-from_test _ refl, (IsComponent-from_test _ refl, (IsComponent-from_test _ refl, (IsComponent-from_test _ refl, (IsComponent-from_test _ refl, tt)))));
          apart = stand_apart s.rows refl;
          plain = All-from_recursion (λ r. is_barred r.directory r.name ≡ false) s.rows (refl, (refl, (refl, (refl, (refl, tt)))));
        };
        handles = record {
          standing = All-nil (λ h. Stands s h.object);
          live = All-nil (λ h. is_live s h.process ≡ true);
          distinct = λ i j d less within. absurd (omega (arith, within));
        };
        pending = record {
          standing = All-nil (λ x. Stands s x.object);
          ticketed = All-nil (λ x. x.ticket < s.next_id);
          later = All-nil (λ x. x.object < x.ticket);
          reserved = All-nil (λ x. All (λ y. y.id ≢ x.ticket) s.objects);
          awaited = λ i j d less within. absurd (omega (arith, within));
        };
      }

  -- a process's map directory is one
  is_mapped_at : (s : State K T F I) (k : ℕ) (x : Process) (o : ℕ) → k < length s.processes → (get_or s.processes k x).map ≡ Some o → is_mapped s o ≡ true
  is_mapped_at s k x o within e =
      let some : list_any (λ p. option_map_or (λ d. d == o) p.map false) s.processes ≡ true =
      list_any_at (λ p. option_map_or (λ d. d == o) p.map false) s.processes k x within (rw e (eq-eqb o o refl)) in
      or_right (o == global_id) _ some

  -- what each row names stays where all that stands does
  pub sound_rows : (s t : State K T F I) → ((o : ℕ) → Stands s o → Stands t o) → (xs : List Row) → All (λ r. Stands s r.object) xs → All (λ r. Stands t r.object) xs
  sound_rows s t stays xs each = All-weaker (λ r. Stands s r.object) (λ r. Stands t r.object) (λ r h. stays r.object h) xs each

-- a map directory that stays a directory
sound_map : {F I : Type 0} (xs ys : List (Object F I)) (x : Process) → ((d : ℕ) → x.map ≡ Some d → IsDirectoryAmong xs d → IsDirectoryAmong ys d) → HasSoundMapAmong xs x → HasSoundMapAmong ys x
sound_map xs ys x stays h = go x.map refl h
  where
    go : (o : Option ℕ) → x.map ≡ o → MatchOption o (Unit {0}) (IsDirectoryAmong xs) → MatchOption o (Unit {0}) (IsDirectoryAmong ys)
    go None e h = tt
    go (Some d) e h = stays d e h

-- a shadow is fit where directories stay so, and so does what has no shadow
fit_shadow : {F I : Type 0} (xs ys : List (Object F I)) (x : Object F I) → ((o : ℕ) → IsDirectoryAmong xs o → IsDirectoryAmong ys o × (shadow_among ys o ≡ shadow_among xs o))
    → HasSoundShadowAmong xs x → HasSoundShadowAmong ys x
fit_shadow xs ys x stays h = go (shadow_in x.body) h
  where
    go : (o : Option ℕ) → MatchOption o (Unit {0}) (IsShadowAmong xs x.id) → MatchOption o (Unit {0}) (IsShadowAmong ys x.id)
    go None h = tt
    go (Some o) h = let there = stays o h.0 in (there.0, h.1, there.1 ∙ h.2)

module _ {K T F I : Type 0} where
  -- other objects leave a sound state where all that stands does so among them, each directory is one there,
  -- their numbers were drawn, rise and are no tickets, and their shadows are fit
  with_objects_sound : (s : State K T F I) (ys : List (Object F I)) (set : T) (id : ℕ) → s.next_id ≤ id
      → ((o : ℕ) → StandsAmong s.objects o → StandsAmong ys o) → ((o : ℕ) → IsDirectoryAmong s.objects o → IsDirectoryAmong ys o)
      → All (λ y. y.id < id) ys → IdsRise ys → All (HasSoundShadowAmong ys) ys
      → All (λ x. All (λ y. y.id ≢ x.ticket) ys) s.pending → IsSound s → IsSound (record s { objects = ys; set = set; next_id = id })
  with_objects_sound s ys set id later stays directory drawn rising shadows reserved sound = record {
    objects = record { root = directory root_id sound.objects.root; global = directory global_id sound.objects.global; drawn = drawn; rising = rising; shadows = shadows };
    processes = record {
      maps = All-weaker (HasSoundMap s) (HasSoundMapAmong ys) (λ x h. sound_map s.objects ys x (λ d e. directory d) h) s.processes sound.processes.maps;
      numbered = sound.processes.numbered;
    };
    rows = record {
      standing = All-weaker (λ r. Stands s r.object) (λ r. StandsAmong ys r.object) (λ r h. stays r.object h) s.rows sound.rows.standing;
      descending = sound.rows.descending;
      rising = sound.rows.rising;
      stamped = sound.rows.stamped;
      inside = All-weaker (λ r. IsDirectory s r.directory) (λ r. IsDirectoryAmong ys r.directory) (λ r h. directory r.directory h) s.rows sound.rows.inside;
      named = sound.rows.named;
      apart = sound.rows.apart;
      plain = sound.rows.plain;
    };
    handles = record {
      standing = All-weaker (λ h. Stands s h.object) (λ h. StandsAmong ys h.object) (λ h k. stays h.object k) s.handles sound.handles.standing;
      live = sound.handles.live;
      distinct = sound.handles.distinct;
    };
    pending = record {
      standing = All-weaker (λ x. Stands s x.object) (λ x. StandsAmong ys x.object) (λ x k. stays x.object k) s.pending sound.pending.standing;
      ticketed = All-weaker (λ x. x.ticket < s.next_id) (λ x. x.ticket < id) (λ x less. omega (arith, less, later)) s.pending sound.pending.ticketed;
      later = sound.pending.later;
      reserved = reserved;
      awaited = sound.pending.awaited;
    };
  }

  -- so does a change of them that leaves their numbers, which are directories, and their shadows
  pub changed_sound : (f : Object F I → Object F I) → ((x : Object F I) → (f x).id ≡ x.id) → ((x : Object F I) → is_directory_body (f x).body ≡ is_directory_body x.body)
      → ((x : Object F I) → shadow_in (f x).body ≡ shadow_in x.body) → (s : State K T F I) (set : T) → IsSound s → IsSound (record s { objects = map f s.objects; set = set })
  changed_sound f same_id same_body same_shadow s set sound =
      with_objects_sound s (map f s.objects) set s.next_id (omega arith) (λ o h. stands-map f same_id same_body o s.objects ∙ h) directory
      (drawn_map f same_id s.next_id s.objects sound.objects.drawn) (ids_map f same_id s.objects sound.objects.rising)
      (All-map (HasSoundShadowAmong (map f s.objects)) f s.objects (All-weaker (HasSoundShadowAmong s.objects) (λ x. HasSoundShadowAmong (map f s.objects) (f x)) shadowed s.objects sound.objects.shadows))
      (λ k d within. reserved_map f same_id (get_or s.pending k d).ticket s.objects (sound.pending.reserved k d within)) sound
    where
      directory : (o : ℕ) → IsDirectory s o → IsDirectoryAmong (map f s.objects) o
      directory o h = is_directory-map f same_id same_body o s.objects ∙ h

      shadowed : (x : Object F I) → HasSoundShadowAmong s.objects x → HasSoundShadowAmong (map f s.objects) (f x)
      shadowed x h =
          subst (λ (o : Option ℕ). MatchOption o (Unit {0}) (IsShadowAmong (map f s.objects) (f x).id)) (sym (same_shadow x))
          (subst (λ (n : ℕ). MatchOption (shadow_in x.body) (Unit {0}) (IsShadowAmong (map f s.objects) n)) (sym (same_id x))
          (fit_shadow s.objects (map f s.objects) x (λ o is. (directory o is, shadow-map f same_id same_shadow o s.objects)) h))

  -- one object more, of a number that no object and no pending open has, whose shadow is fit
  pub inserted_sound : (s : State K T F I) (x : Object F I) (id : ℕ) → s.next_id ≤ id → x.id < id → HasSoundShadowAmong s.objects x
      → All (λ y. y.id ≢ x.id) s.objects → All (λ y. x.id ≢ y.ticket) s.pending → IsSound s → IsSound (record s { objects = insert_object x s.objects; next_id = id })
  inserted_sound s x id later drawn shadow others tickets sound =
      let free = free_from_other (λ y. y.id) x s.objects others in
      let stays : (o : ℕ) → IsDirectory s o → IsDirectoryAmong (insert_object x s.objects) o × (shadow_among (insert_object x s.objects) o ≡ shadow_of s o) =
      λ o is. (is_directory-inserted x s.objects free o is, shadow-inserted x s.objects free o is) in
      with_objects_sound s (insert_object x s.objects) s.set id later (stands-inserted x s.objects free) (is_directory-inserted x s.objects free)
      (in_order-All (λ y. y.id) (λ y. y.id < id) x s.objects drawn (drawn_more s.next_id id s.objects later sound.objects.drawn))
      (in_order-rising (λ y. y.id) x s.objects free sound.objects.rising)
      (in_order-All (λ y. y.id) (HasSoundShadowAmong (insert_object x s.objects)) x s.objects (fit_shadow s.objects (insert_object x s.objects) x stays shadow)
      (All-weaker (HasSoundShadowAmong s.objects) (HasSoundShadowAmong (insert_object x s.objects)) (λ y h. fit_shadow s.objects (insert_object x s.objects) y stays h) s.objects sound.objects.shadows))
      (λ k d within. in_order-All (λ y. y.id) (λ y. y.id ≢ (get_or s.pending k d).ticket) x s.objects (tickets k d within) (sound.pending.reserved k d within)) sound

  -- another value of the set, and a number that is drawn
  pub set_sound : (s : State K T F I) (set : T) (id : ℕ) → s.next_id ≤ id → IsSound s → IsSound (record s { set = set; next_id = id })
  set_sound s set id later sound =
      with_objects_sound s s.objects set id later (λ o h. h) (λ o h. h) (drawn_more s.next_id id s.objects later sound.objects.drawn) sound.objects.rising sound.objects.shadows
      sound.pending.reserved sound

  -- and so do other processes where their maps are directories, their numbers were drawn, and the process of
  -- each handle is among them
  pub with_processes_sound : (s : State K T F I) (ps : List Process) (n : ℕ)
      → All (HasSoundMap s) ps → All (λ x. x.number < n) ps → All (λ h. is_live_among ps h.process ≡ true) s.handles → IsSound s → IsSound (record s { processes = ps; next_process = n })
  with_processes_sound s ps n maps numbered live sound = record {
    objects = sound.objects;
    processes = record { maps = maps; numbered = numbered };
    rows = sound.rows;
    handles = record { standing = sound.handles.standing; live = live; distinct = sound.handles.distinct };
    pending = sound.pending;
  }

  -- a new object, of the next number
  abbrev new_object : State K T F I → Body F I → Bool → Bool → Object F I
  new_object s body permanent exclusive = record { id = s.next_id; body = body; permanent = permanent; exclusive = exclusive }

  new_is_free : (s : State K T F I) (body : Body F I) (permanent exclusive : Bool) → All (λ x. x.id < s.next_id) s.objects → IsFree (λ x. x.id) (new_object s body permanent exclusive) s.objects
  new_is_free s body permanent exclusive drawn = newest_is_free (λ x. x.id) (new_object s body permanent exclusive) s.objects drawn

  -- it leaves each directory one and what stands, and stands itself
  pub is_directory-with_object : (s : State K T F I) (body : Body F I) (permanent exclusive : Bool) (m : ℕ) → All (λ x. x.id < s.next_id) s.objects
      → IsDirectory s m → IsDirectory (with_object s body permanent exclusive) m
  is_directory-with_object s body permanent exclusive m drawn h = is_directory-inserted (new_object s body permanent exclusive) s.objects (new_is_free s body permanent exclusive drawn) m h

  pub stands-with_object : (s : State K T F I) (body : Body F I) (permanent exclusive : Bool) (m : ℕ) → All (λ x. x.id < s.next_id) s.objects
      → Stands s m → Stands (with_object s body permanent exclusive) m
  stands-with_object s body permanent exclusive m drawn h = stands-inserted (new_object s body permanent exclusive) s.objects (new_is_free s body permanent exclusive drawn) m h

  pub new_stands : (s : State K T F I) (body : Body F I) (permanent exclusive : Bool) → All (λ x. x.id < s.next_id) s.objects
      → Stands (with_object s body permanent exclusive) s.next_id
  new_stands s body permanent exclusive drawn = inserted_stands (new_object s body permanent exclusive) s.objects (new_is_free s body permanent exclusive drawn)

  -- a shadow, where there is one, is a directory without a shadow; so is that of a body
  abbrev pub IsFitShadow : State K T F I → Option ℕ → Type 0
  IsFitShadow s shadow = MatchOption shadow (Unit {0}) (λ o. IsDirectory s o × (shadow_of s o ≡ None))

  abbrev pub HasFitShadow : State K T F I → Body F I → Type 0
  HasFitShadow s body = IsFitShadow s (shadow_in body)

  new_shadow : (s : State K T F I) (body : Body F I) (permanent exclusive : Bool) → IsSound s → HasFitShadow s body → HasSoundShadowAmong s.objects (new_object s body permanent exclusive)
  new_shadow s body permanent exclusive sound fit = go (shadow_in body) fit
    where
      go : (o : Option ℕ) → MatchOption o (Unit {0}) (λ o. IsDirectory s o × (shadow_of s o ≡ None)) → MatchOption o (Unit {0}) (IsShadowAmong s.objects s.next_id)
      go None h = tt
      go (Some o) h = (h.0, stands_drawn s.next_id s.objects o sound.objects.drawn (stands_from_is_directory s o h.0), h.1)

  -- so that it leaves a sound state
  object_sound : (s : State K T F I) (body : Body F I) (permanent exclusive : Bool) → HasFitShadow s body → IsSound s → IsSound (with_object s body permanent exclusive)
  object_sound s body permanent exclusive fit sound =
      inserted_sound s (new_object s body permanent exclusive) (s.next_id + 1) (omega arith) (omega arith) (new_shadow s body permanent exclusive sound fit)
      (All-weaker (λ y. y.id < s.next_id) (λ y. y.id ≢ s.next_id) (λ y less same. omega (arith, less, same)) s.objects sound.objects.drawn)
      (All-weaker (λ y. y.ticket < s.next_id) (λ y. s.next_id ≢ y.ticket) (λ y less same. omega (arith, less, same)) s.pending sound.pending.ticketed) sound

  -- the row of an object that stands, at a place in a directory made before it, leaves a sound state
  row_sound : (s : State K T F I) (spot : Spot) (o : ℕ)
      → IsSound s → Stands s o → MatchOption spot (Unit {0}) (λ at. (at.0 < o) × IsPlace s at) → IsSound (with_row s spot o)
  row_sound s spot o sound stands inside = record {
    objects = sound.objects;
    processes = sound.processes;
    rows = record {
      standing = All-append (λ r. Stands s r.object) s.rows (new_rows spot s.next_stamp o) sound.rows.standing (new spot);
      descending = All-append (λ r. r.directory < r.object) s.rows (new_rows spot s.next_stamp o) sound.rows.descending (below spot inside);
      rising = last spot;
      stamped = All-append (λ r. r.stamp < s.next_stamp + length (new_rows spot s.next_stamp o)) s.rows (new_rows spot s.next_stamp o)
          (All-weaker (λ r. r.stamp < s.next_stamp) (λ r. r.stamp < s.next_stamp + length (new_rows spot s.next_stamp o)) (λ r less. omega (arith, less)) s.rows sound.rows.stamped)
          (drawn spot);
      inside = All-append (λ r. IsDirectory s r.directory) s.rows (new_rows spot s.next_stamp o) sound.rows.inside (stand_inside spot inside);
      named = All-append (λ r. IsComponent r.name) s.rows (new_rows spot s.next_stamp o) sound.rows.named (have_names spot inside);
      apart = alone spot inside;
      plain = All-append (λ r. is_barred r.directory r.name ≡ false) s.rows (new_rows spot s.next_stamp o) sound.rows.plain (fit spot inside);
    };
    handles = sound.handles;
    pending = sound.pending;
  }
    where
      below : (spot : Spot) → MatchOption spot (Unit {0}) (λ at. (at.0 < o) × IsPlace s at) → All (λ r. r.directory < r.object) (new_rows spot s.next_stamp o)
      below None h = All-nil (λ r. r.directory < r.object)
      below (Some at) h = All-push (λ r. r.directory < r.object) [] _ (All-nil (λ r. r.directory < r.object)) h.0

      fit : (spot : Spot) → MatchOption spot (Unit {0}) (λ at. (at.0 < o) × IsPlace s at) → All (λ r. is_barred r.directory r.name ≡ false) (new_rows spot s.next_stamp o)
      fit None h = All-nil (λ r. is_barred r.directory r.name ≡ false)
      fit (Some at) h = All-push (λ r. is_barred r.directory r.name ≡ false) [] _ (All-nil (λ r. is_barred r.directory r.name ≡ false)) h.1.1

      stand_inside : (spot : Spot) → MatchOption spot (Unit {0}) (λ at. (at.0 < o) × IsPlace s at) → All (λ r. IsDirectory s r.directory) (new_rows spot s.next_stamp o)
      stand_inside None h = All-nil (λ r. IsDirectory s r.directory)
      stand_inside (Some at) h = All-push (λ r. IsDirectory s r.directory) [] _ (All-nil (λ r. IsDirectory s r.directory)) h.1.0

      have_names : (spot : Spot) → MatchOption spot (Unit {0}) (λ at. (at.0 < o) × IsPlace s at) → All (λ r. IsComponent r.name) (new_rows spot s.next_stamp o)
      have_names None h = All-nil (λ r. IsComponent r.name)
      have_names (Some at) h = All-push (λ r. IsComponent r.name) [] _ (All-nil (λ r. IsComponent r.name)) h.1.2

      alone : (spot : Spot) → MatchOption spot (Unit {0}) (λ at. (at.0 < o) × IsPlace s at)
          → AllPairs (λ a b. is_match b.directory b.name false a ≡ false) (s.rows ++ new_rows spot s.next_stamp o)
      alone None h = subst (λ (rows : List Row). AllPairs (λ a b. is_match b.directory b.name false a ≡ false) rows) (sym (append-nil s.rows)) sound.rows.apart
      alone (Some at) h = all_pairs_push (λ a b. is_match b.directory b.name false a ≡ false) s.rows _ sound.rows.apart h.1.3

      last : (spot : Spot) → AllPairs (λ a b. a.stamp < b.stamp) (s.rows ++ new_rows spot s.next_stamp o)
      last None = subst (λ (rows : List Row). AllPairs (λ a b. a.stamp < b.stamp) rows) (sym (append-nil s.rows)) sound.rows.rising
      last (Some at) = all_pairs_push (λ a b. a.stamp < b.stamp) s.rows _ sound.rows.rising sound.rows.stamped

      drawn : (spot : Spot) → All (λ r. r.stamp < s.next_stamp + length (new_rows spot s.next_stamp o)) (new_rows spot s.next_stamp o)
      drawn None = All-nil (λ r. r.stamp < s.next_stamp + 0)
      drawn (Some at) = All-push (λ r. r.stamp < s.next_stamp + 1) [] _ (All-nil (λ r. r.stamp < s.next_stamp + 1)) (omega arith)

      new : (spot : Spot) → All (λ r. Stands s r.object) (new_rows spot s.next_stamp o)
      new None = All-nil (λ r. Stands s r.object)
      new (Some at) = All-push (λ r. Stands s r.object) [] _ (All-nil (λ r. Stands s r.object)) stands

  -- a live process's handle of an unused value to an object that stands leaves a sound state
  pub handle_sound : (s : State K T F I) (p value o : ℕ) (inherit : Bool)
      → IsSound s → is_live s p ≡ true → held_of s p value ≡ None → Stands s o → IsSound (with_handle s p value o inherit)
  handle_sound s p value o inherit sound live free stands = record {
    objects = sound.objects;
    processes = sound.processes;
    rows = sound.rows;
    handles = record {
      standing = All-push (λ h. Stands s h.object) s.handles _ sound.handles.standing stands;
      live = All-push (λ h. is_live s h.process ≡ true) s.handles _ sound.handles.live live;
      distinct = all_pairs_push (λ a b. is_handle a.process a.value b ≡ false) s.handles _ sound.handles.distinct
          (λ k d within. other_handle (get_or s.handles k d).process p (get_or s.handles k d).value value (not_found (is_handle p value) s.handles free k d within));
    };
    pending = sound.pending;
  }

  -- and so does the end of a handle
  without_handle_sound : (s : State K T F I) (p value : ℕ) → IsSound s → IsSound (without_handle s p value)
  without_handle_sound s p value sound = record {
    objects = sound.objects;
    processes = sound.processes;
    rows = sound.rows;
    handles = record {
      standing = All-filter (λ h. not (is_handle p value h)) (λ h. Stands s h.object) s.handles sound.handles.standing;
      live = All-filter (λ h. not (is_handle p value h)) (λ h. is_live s h.process ≡ true) s.handles sound.handles.live;
      distinct = AllPairs-filter (λ a b. is_handle a.process a.value b ≡ false) (λ h. not (is_handle p value h)) s.handles sound.handles.distinct;
    };
    pending = sound.pending;
  }

-- a list in which no element passes a test has none that does
none_passes : {X : Type 0} (p : X → Bool) (xs : List X) → All (λ x. p x ≡ true → ⊥) xs → list_any p xs ≡ true → ⊥
none_passes p [] none some = cc
none_passes p (x ∷ xs) none some = go (p x) (list_any p xs) (All-head (λ y. p y ≡ true → ⊥) x xs none) (none_passes p xs (All-tail (λ y. p y ≡ true → ⊥) x xs none)) some
  where
    go : (a b : Bool) → (a ≡ true → ⊥) → (b ≡ true → ⊥) → (a || b) ≡ true → ⊥
    go true b first more h = first refl
    go false b first more h = more h

-- a body with a shadow has that one
pub has_shadow_is : {F I : Type 0} (o : ℕ) (body : Body F I) → has_shadow o body ≡ true → shadow_in body ≡ Some o
has_shadow_is o body h = go (shadow_in body) h
  where
    go : (shadow : Option ℕ) → option_map_or (λ n. n == o) shadow false ≡ true → shadow ≡ Some o
    go None h = cc
    go (Some n) h = ap Some (eqb-true n o h)

-- ---- the shadows of directories that are alive

module _ {K T F I : Type 0} (s : State K T F I) where
  -- the shadow of an object, where it has one, is alive
  abbrev pub HasLivingShadow : Object F I → Type 0
  HasLivingShadow x = MatchOption (shadow_in x.body) (Unit {0}) (λ o. is_alive s o ≡ true)

  -- in a sound state what has a shadow is no shadow
  pub unshadowing : (o shadow : ℕ) → IsSound s → shadow_of s o ≡ Some shadow → is_shadowing s o ≡ true → ⊥
  unshadowing o shadow sound has some =
      none_passes (λ x. has_shadow o x.body && is_alive_itself s x.id) s.objects
      (λ k d within e.
      let x = get_or s.objects k d in
      let is : shadow_in x.body ≡ Some o = has_shadow_is o x.body (and_parts (has_shadow o x.body) (is_alive_itself s x.id) e).0 in
      let fit : IsShadowAmong s.objects x.id o = subst (λ (n : Option ℕ). MatchOption n (Unit {0}) (IsShadowAmong s.objects x.id)) is (sound.objects.shadows k d within) in
      let none : shadow_of s o ≡ None = fit.2 in
      cc) some

  -- so that the shadow of a directory which is alive is alive
  pub shadow_lives : IsSound s → All (λ x. is_alive s x.id ≡ true → HasLivingShadow x) s.objects
  shadow_lives sound k d within alive = go (shadow_in x.body) refl
    where
      x : Object F I
      x = get_or s.objects k d

      found : object_of s x.id ≡ Some x
      found = found_at s.objects sound.objects.rising k d within

      itself : (o : ℕ) → shadow_in x.body ≡ Some o → (a : Bool) → is_shadowing s x.id ≡ a → (is_alive_itself s x.id || a) ≡ true → is_alive_itself s x.id ≡ true
      itself o e true f h = absurd (unshadowing x.id o sound (ap shadow_of_found found ∙ e) f)
      itself o e false f h = or_false (is_alive_itself s x.id) h

      go : (o : Option ℕ) → shadow_in x.body ≡ o → MatchOption o (Unit {0}) (λ o. is_alive s o ≡ true)
      go None e = tt
      go (Some o) e =
          alive_from_shadow s o
          (list_any_at (λ y. has_shadow o y.body && is_alive_itself s y.id) s.objects k d within
          (and_from (has_shadow o x.body) (is_alive_itself s x.id) (ap (λ (n : Option ℕ). option_map_or (λ m. m == o) n false) e ∙ eq-eqb o o refl)
          (itself o e (is_shadowing s x.id) refl alive)))

module _ {K T F I : Type 0} (g : Procedures K T F I) where
  -- an open leaves what stands
  pub stands-opened : (s : State K T F I) (o m : ℕ) (reason : Reason) → is_some (object_of (with_open g s o reason) m) ≡ is_some (object_of s m)
  stands-opened s o m reason =
      stands-map (opened_object g s.set o reason) (opened_object-id g s.set o reason) (opened_object-is_directory g s.set o reason) m s.objects

  -- and so does a close
  pub stands-closed : (s : State K T F I) (h : Held) (m : ℕ) → is_some (object_of (closed_handle g s h) m) ≡ is_some (object_of s m)
  stands-closed s h m = stands-map (closed_object g s.set h.object _ _) (closed_object-id g s.set h.object _ _) (closed_object-is_directory g s.set h.object _ _) m s.objects

  -- a shadow that is alive is fit after settling
  shadow_settled : (s : State K T F I) (x : Object F I) → HasLivingShadow s x → HasSoundShadowAmong s.objects x → HasSoundShadowAmong (settle g s).objects x
  shadow_settled s x living fit = go (shadow_in x.body) living fit
    where
      go : (o : Option ℕ) → MatchOption o (Unit {0}) (λ o. is_alive s o ≡ true) → MatchOption o (Unit {0}) (IsShadowAmong s.objects x.id)
          → MatchOption o (Unit {0}) (IsShadowAmong (settle g s).objects x.id)
      go None alive h = tt
      go (Some o) alive h = (is_directory-settle g s o alive ∙ h.0, h.1, ap shadow_of_found (object_of-settle g s o alive) ∙ h.2)

  -- settling leaves a sound state
  pub settled_sound : (s : State K T F I) → IsSound s → IsSound (settle g s)
  settled_sound s sound = record {
    objects = record {
      root = root_stands g s ∙ sound.objects.root;
      global = is_directory-settle g s global_id (alive_from_map s global_id refl) ∙ sound.objects.global;
      drawn = All-filter (λ x. is_alive s x.id) (λ x. x.id < s.next_id) s.objects sound.objects.drawn;
      rising = AllPairs-filter (λ a b. a.id < b.id) (λ x. is_alive s x.id) s.objects sound.objects.rising;
      shadows = All-kept (λ x. is_alive s x.id) (λ x. HasSoundShadowAmong s.objects x × (is_alive s x.id ≡ true → HasLivingShadow s x)) (HasSoundShadowAmong (settle g s).objects)
          (λ x alive h. shadow_settled s x (h.1 alive) h.0) s.objects
          (λ k d within. (sound.objects.shadows k d within, shadow_lives s sound k d within));
    };
    processes = record {
      maps = λ k d within.
          sound_map s.objects (settle g s).objects (get_or s.processes k d)
          (λ o e is_dir. is_directory-settle g s o (alive_from_map s o (is_mapped_at s k d o within e)) ∙ is_dir)
          (sound.processes.maps k d within);
      numbered = sound.processes.numbered;
    };
    rows = record {
      standing = All-kept (is_kept s) (λ r. Stands s r.object × (has_name s r.object ≡ true)) (λ r. Stands (settle g s) r.object)
          (λ r kept h. stands-settle g s r.object (alive_from_row s r kept h.1) h.0) s.rows
          (λ k d within. (sound.rows.standing k d within, rows_are_names s k d within));
      descending = All-filter (is_kept s) (λ r. r.directory < r.object) s.rows sound.rows.descending;
      rising = AllPairs-filter (λ a b. a.stamp < b.stamp) (is_kept s) s.rows sound.rows.rising;
      stamped = All-filter (is_kept s) (λ r. r.stamp < s.next_stamp) s.rows sound.rows.stamped;
      inside = All-kept (is_kept s) (λ r. IsDirectory s r.directory × (is_kept s r ≡ true → holds_kept s r.directory ≡ true)) (λ r. IsDirectory (settle g s) r.directory)
          (λ r kept h. is_directory-settle g s r.directory (alive_from_held_name s r.directory (h.1 kept)) ∙ h.0) s.rows
          (λ k d within. (sound.rows.inside k d within, rows_are_held s k d within));
      named = All-filter (is_kept s) (λ r. IsComponent r.name) s.rows sound.rows.named;
      apart = AllPairs-filter (λ a b. is_match b.directory b.name false a ≡ false) (is_kept s) s.rows sound.rows.apart;
      plain = All-filter (is_kept s) (λ r. is_barred r.directory r.name ≡ false) s.rows sound.rows.plain;
    };
    handles = record {
      standing = λ k d within.
          stands-settle g s (get_or s.handles k d).object
          (alive_from_handle s (get_or s.handles k d).object
          (list_any_at (λ h. h.object == (get_or s.handles k d).object) s.handles k d within (eq-eqb (get_or s.handles k d).object (get_or s.handles k d).object refl)))
          (sound.handles.standing k d within);
      live = sound.handles.live;
      distinct = sound.handles.distinct;
    };
    pending = record {
      standing = λ k d within.
          stands-settle g s (get_or s.pending k d).object
          (alive_from_pin s (get_or s.pending k d).object
          (list_any_at (λ x. x.object == (get_or s.pending k d).object) s.pending k d within (eq-eqb (get_or s.pending k d).object (get_or s.pending k d).object refl)))
          (sound.pending.standing k d within);
      ticketed = sound.pending.ticketed;
      later = sound.pending.later;
      reserved = λ k d within. All-filter (λ x. is_alive s x.id) (λ y. y.id ≢ (get_or s.pending k d).ticket) s.objects (sound.pending.reserved k d within);
      awaited = sound.pending.awaited;
    };
  }

  -- an open leaves a sound state, whatever its object is
  pub opened_sound : (s : State K T F I) (o : ℕ) (reason : Reason) → IsSound s → IsSound (with_open g s o reason)
  opened_sound s o reason sound = changed_sound (opened_object g s.set o reason) (opened_object-id g s.set o reason) (opened_object-is_directory g s.set o reason) (opened_object-shadow g s.set o reason) s _ sound

  -- an open and a grant of an object that stands to a live process leave a sound state
  pub granted_sound : (s : State K T F I) (p value o : ℕ) (reason : Reason) (inherit : Bool)
      → IsSound s → is_live s p ≡ true → held_of s p value ≡ None → Stands s o → IsSound (with_handle (with_open g s o reason) p value o inherit)
  granted_sound s p value o reason inherit sound live free stands =
      handle_sound (with_open g s o reason) p value o inherit (opened_sound s o reason sound) live free (stands-opened s o o reason ∙ stands)

  -- and so does what is answered of a grant
  pub gives_handle_sound : (s t u : State K T F I) (p o : ℕ) (asked : GrantOptions) (reason : Reason) (status : Status) (answer : Answer) (result : Result ℕ Status)
      → IsSound s → is_live s p ≡ true → Stands s o → Grants g s p o asked reason result u
      → MatchResult result (λ value. (answer ≡ gives status (Handle value)) × (t ≡ settle g u)) (λ refusal. IsRefused s refusal answer t) → IsSound t
  gives_handle_sound s t u p o asked reason status answer (Ok value) sound live stands grants h =
      subst IsSound (sym h.1)
      (settled_sound u (subst IsSound (sym grants.2) (granted_sound s p value o reason asked.inherit sound live grants.1.1 stands)))
  gives_handle_sound s t u p o asked reason status answer (Err refusal) sound live stands grants h = subst IsSound (sym h.1) sound

  -- a close leaves a sound state
  pub closed_sound : (s : State K T F I) (h : Held) → IsSound s → IsSound (closed_handle g s h)
  closed_sound s h sound =
      changed_sound (closed_object g s.set h.object _ _) (closed_object-id g s.set h.object _ _) (closed_object-is_directory g s.set h.object _ _) (closed_object-shadow g s.set h.object _ _)
      (without_handle s h.process h.value) _ (without_handle_sound s h.process h.value sound)

  -- a create of a live process, at a place or without a name, leaves a sound state
  pub created_sound : (s : State K T F I) (p : ℕ) (spot : Spot) (body : Body F I) (attrs value : ℕ)
      → IsSound s → is_live s p ≡ true → held_of s p value ≡ None → HasFitShadow s body → MatchOption spot (Unit {0}) (IsPlace s) → IsSound (created g s p spot body attrs value)
  created_sound s p spot body attrs value sound live free fit inside =
      let opened = record s { set = opened_set g s.set body Created } in
      let left = opened_body g s.set body Created in
      let permanent = is_some spot && has_flag permanent_flag attrs in
      let exclusive = has_flag exclusive_flag attrs in
      let there = with_object opened left permanent exclusive in
      let stands : Stands there s.next_id = new_stands opened left permanent exclusive sound.objects.drawn in
      handle_sound (with_row there spot s.next_id) p value s.next_id _
      (row_sound there spot s.next_id (object_sound opened left permanent exclusive fit_left (set_sound s (opened_set g s.set body Created) s.next_id (omega arith) sound)) stands (below permanent exclusive spot inside)) live free stands
    where
      opened : State K T F I
      opened = record s { set = opened_set g s.set body Created }

      fit_left : HasFitShadow opened (opened_body g s.set body Created)
      fit_left = subst (λ (o : Option ℕ). MatchOption o (Unit {0}) (λ o. IsDirectory s o × (shadow_of s o ≡ None))) (sym (opened_body-shadow g s.set Created body)) fit

      there : Bool → Bool → State K T F I
      there permanent exclusive = with_object opened (opened_body g s.set body Created) permanent exclusive

      below : (permanent exclusive : Bool) (spot : Spot) → MatchOption spot (Unit {0}) (IsPlace s) → MatchOption spot (Unit {0}) (λ at. (at.0 < s.next_id) × IsPlace (there permanent exclusive) at)
      below permanent exclusive None h = tt
      below permanent exclusive (Some at) h = (
        stands_drawn s.next_id s.objects at.0 sound.objects.drawn (stands_from_is_directory s at.0 h.0),
        (is_directory-with_object opened (opened_body g s.set body Created) permanent exclusive at.0 sound.objects.drawn h.0, h.1, h.2, h.3),
      )

  -- and so does one whose object the set refuses to open
  pub dropped_sound : (s : State K T F I) (body : Body F I) → IsSound s → IsSound (dropped g s body)
  dropped_sound s body sound = set_sound s (deleted_one g body s.set) (s.next_id + 1) (omega arith) sound
