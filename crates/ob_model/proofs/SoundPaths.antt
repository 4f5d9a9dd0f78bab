-- In a sound state paths lead to objects that are there, and walks begin at directories.
use Rattle.std.proofs.Common.{◌≡◌, ℕ, ◌==◌, ◌&&◌, Bool, true, false, if◌then◌else◌, List, [], ◌∷◌, drop, All, Option, None, Some, MatchOption, filter, find, is_some, option_map, option_and_then, unwrap_or, bytes_eq, codes, nat_eq, nat_le, refl, sym, ◌∙◌, subst, cond, eqb-true}
use Rattle.std.specs.Option.{option_or, option_map_or}
use Rattle.std.specs.List.{starts_with}
use Rattle.std.proofs.lemmas.Bool.{and_parts}
use Rattle.std.proofs.lemmas.List.Elements.{All-head, All-tail, All-filter}
use Rattle.ob_model.specs.declared.state.Body.{Body}
use Rattle.ob_model.specs.declared.state.Object.{Object}
use Rattle.ob_model.specs.declared.state.Row.{Row}
use Rattle.ob_model.specs.declared.state.Process.{Process}
use Rattle.ob_model.specs.Names.{separator, begins_with_separator, IsRest}
use Rattle.ob_model.specs.State.{State, root_id, global_id, object_of, body_of, is_directory, is_directory_body, shadow_of, process_of}
use Rattle.ob_model.specs.Paths.{Origin, InDirectory, ViewOf, IsPath, directory_at, entry, earlier, earliest, found, seen, named_object, is_match, is_none_left, local, origin_of, is_one_component}
use Rattle.ob_model.specs.Sound.{IsSound, IsDirectory, Stands, HasSoundMap}

-- what holds of each row holds of the earliest one
earlier_of : (P : Row → Type 0) (r : Row) (o : Option Row) → P r → MatchOption o (Unit {0}) P → P (earlier r o)
earlier_of P r None h k = h
earlier_of P r (Some q) h k = go (nat_le r.stamp q.stamp)
  where
    go : (t : Bool) → P (if t then r else q)
    go true = h
    go false = k

pub earliest_of : (P : Row → Type 0) (rows : List Row) → All P rows → MatchOption (earliest rows) (Unit {0}) P
earliest_of P [] all = tt
earliest_of P (r ∷ rows) all = earlier_of P r (earliest rows) (All-head P r rows all) (earliest_of P rows (All-tail P r rows all))

-- what holds of each element holds of the one that is found
pub find_of : {X : Type 0} (P : X → Type 0) (test : X → Bool) (xs : List X) → All P xs → MatchOption (find test xs) (Unit {0}) P
find_of P test [] all = tt
find_of {X} P test (x ∷ xs) all = go (test x) (find_of P test xs (All-tail P x xs all))
  where
    go : (t : Bool) → MatchOption (find test xs) (Unit {0}) P → MatchOption (cond t (Some x) (find test xs)) (Unit {0}) P
    go true more = All-head P x xs all
    go false more = more

pub of_some : {X : Type 0} (P : X → Type 0) (o : Option X) (x : X) → o ≡ Some x → MatchOption o (Unit {0}) P → P x
of_some P o x e h = subst (λ (y : Option _). MatchOption y (Unit {0}) P) e h

-- a text that begins with a separator is a rest
pub IsRest-from_begins : (text : List ℕ) → begins_with_separator text ≡ true → IsRest text
IsRest-from_begins [] h = tt
IsRest-from_begins (b ∷ text) h = eqb-true b separator h

-- behind its first three bytes, a text that begins with `\??\` is a rest
pub IsRest-behind_view : (text : List ℕ) → starts_with nat_eq text (codes "\\??\\") ≡ true → IsRest (drop 3 text)
IsRest-behind_view [] h = tt
IsRest-behind_view (a ∷ []) h = tt
IsRest-behind_view (a ∷ b ∷ []) h = tt
IsRest-behind_view (a ∷ b ∷ c ∷ []) h = tt
IsRest-behind_view (a ∷ b ∷ c ∷ d ∷ text) h =
    let second = and_parts (nat_eq 92 a) (nat_eq 63 b && (nat_eq 63 c && (nat_eq 92 d && true))) h in
    let third = and_parts (nat_eq 63 b) (nat_eq 63 c && (nat_eq 92 d && true)) second.1 in
    let fourth = and_parts (nat_eq 63 c) (nat_eq 92 d && true) third.1 in
    sym (eqb-true 92 d (and_parts (nat_eq 92 d) true fourth.1).0)

module _ {K T F I : Type 0} where
  -- an object that is there has a body
  pub body_from_stands : (s : State K T F I) (o : ℕ) → Stands s o → (body : Body F I) × (body_of s o ≡ Some body)
  body_from_stands s o h = go (object_of s o) h
    where
      go : (x : Option (Object F I)) → is_some x ≡ true → (body : Body F I) × (option_map (λ y. y.body) x ≡ Some body)
      go None e = absurd (cc)
      go (Some y) e = (y.body, refl)

  -- a directory is there
  pub stands_from_directory : (s : State K T F I) (o : ℕ) → is_directory s o ≡ true → Stands s o
  stands_from_directory s o h = go (object_of s o) h
    where
      go : (x : Option (Object F I)) → option_map_or is_directory_body (option_map (λ y. y.body) x) false ≡ true → is_some x ≡ true
      go None e = absurd (cc)
      go (Some y) e = refl

  -- what is found in a directory is there, and what is seen there
  row_object-stands : (s : State K T F I) (r : Option Row) (m : ℕ) → MatchOption r (Unit {0}) (λ r. Stands s r.object) → option_map (λ r. r.object) r ≡ Some m → Stands s m
  row_object-stands s None m k e = absurd (cc)
  row_object-stands s (Some r) m k e = let same : r.object ≡ m = cc in subst (λ (o : ℕ). Stands s o) same k

  found-stands : (s : State K T F I) (d : ℕ) (c : List ℕ) (fold : Bool) → IsSound s → MatchOption (found s d c fold) (Unit {0}) (λ r. Stands s r.object)
  found-stands s d c fold sound =
      earliest_of (λ r. Stands s r.object) (filter (is_match d c fold) s.rows) (All-filter (is_match d c fold) (λ r. Stands s r.object) s.rows sound.rows.standing)

  seen-stands : (s : State K T F I) (d : ℕ) (c : List ℕ) (fold : Bool) → IsSound s → MatchOption (seen s d c fold) (Unit {0}) (λ r. Stands s r.object)
  seen-stands s d c fold sound = go (found s d c fold) (found-stands s d c fold sound) (shadow_of s d)
    where
      go : (r : Option Row) → MatchOption r (Unit {0}) (λ r. Stands s r.object) → (shadow : Option ℕ)
          → MatchOption (option_or r (option_and_then (λ o. found s o c fold) shadow)) (Unit {0}) (λ r. Stands s r.object)
      go (Some r) h shadow = h
      go None h None = tt
      go None h (Some o) = found-stands s o c fold sound

  -- what a component names in a directory is there
  pub named_object-stands : (s : State K T F I) (d : ℕ) (c : List ℕ) (own fold : Bool) (m : ℕ) → IsSound s → named_object s d c own fold ≡ Some m → Stands s m
  named_object-stands s d c true fold m sound h = row_object-stands s (found s d c fold) m (found-stands s d c fold sound) h
  named_object-stands s d c false fold m sound h = row_object-stands s (seen s d c fold) m (seen-stands s d c fold sound) h

  -- and so is what it names at a place
  pub entry-stands : (s : State K T F I) (place : Origin) (c : List ℕ) (own fold : Bool) (m : ℕ) → IsSound s → entry s place c own fold ≡ Some m → Stands s m
  entry-stands s (InDirectory d) c own fold m sound h = named_object-stands s d c own fold m sound h
  entry-stands s (ViewOf p) c own fold m sound h = go (named_object s (local s p) c own fold) refl h
    where
      go : (x : Option ℕ) → named_object s (local s p) c own fold ≡ x → option_or x (named_object s global_id c own fold) ≡ Some m → Stands s m
      go None e k = named_object-stands s global_id c own fold m sound k
      go (Some o) e k = named_object-stands s (local s p) c own fold m sound (e ∙ k)

  -- what a path leads to is there
  pub path_stands : (s : State K T F I) (place : Origin) (cs : List (List ℕ)) (own fold : Bool) (o : ℕ) → IsSound s → Stands s (directory_at s place) → IsPath s place cs own fold o → Stands s o
  path_stands s place [] own fold o sound h path = subst (λ (x : ℕ). Stands s x) (sym path) h
  path_stands s place (c ∷ cs) own fold o sound h path =
      path_stands s (InDirectory path.0) cs own fold o sound (entry-stands s place c (is_none_left cs && own) fold path.0 sound path.2) path.3

  -- a process's local directory is a directory
  pub local_is_directory : (s : State K T F I) (p : ℕ) → IsSound s → IsDirectory s (local s p)
  local_is_directory s p sound = go (process_of s p) (find_of (HasSoundMap s) (λ x. x.number == p) s.processes sound.processes.maps)
    where
      at_map : (map : Option ℕ) → MatchOption map (Unit {0}) (IsDirectory s) → IsDirectory s (unwrap_or map global_id)
      at_map None h = sound.objects.global
      at_map (Some d) h = h

      go : (x : Option Process) → MatchOption x (Unit {0}) (HasSoundMap s) → IsDirectory s (unwrap_or (option_and_then (λ y. y.map) x) global_id)
      go None h = sound.objects.global
      go (Some y) h = at_map y.map h

  -- an origin, where there is one, is a directory, and what is walked from there is a rest
  abbrev pub IsSoundOrigin : State K T F I → Option (Origin × List ℕ) → Type 0
  IsSoundOrigin s None = Unit {0}
  IsSoundOrigin s (Some at) = IsDirectory s (directory_at s at.0) × IsRest at.1

  -- so it is of each absolute text
  pub origin_is_directory : (s : State K T F I) (p : ℕ) (create : Bool) (text : List ℕ)
      → IsSound s → IsSoundOrigin s (origin_of s p create text)
  origin_is_directory s p create text sound =
      go (bytes_eq text (codes "\\")) (bytes_eq text (codes "\\??")) (starts_with nat_eq text (codes "\\??\\")) refl (begins_with_separator text) refl
    where
      at_view : (t : Bool) → IsDirectory s (directory_at s (if t then InDirectory (local s p) else ViewOf p))
      at_view true = local_is_directory s p sound
      at_view false = local_is_directory s p sound

      go : (is_root is_view below_view : Bool) → starts_with nat_eq text (codes "\\??\\") ≡ below_view → (is_absolute : Bool) → begins_with_separator text ≡ is_absolute
          → IsSoundOrigin s
          (if is_root then Some (InDirectory root_id, [])
          else if is_view then Some (ViewOf p, [])
          else if below_view then Some (if create && is_one_component (drop 3 text) then InDirectory (local s p) else ViewOf p, drop 3 text)
          else if is_absolute then Some (InDirectory root_id, text)
          else None)
      go true is_view below_view e is_absolute f = (sound.objects.root, tt)
      go false true below_view e is_absolute f = (local_is_directory s p sound, tt)
      go false false true e is_absolute f = (at_view (create && is_one_component (drop 3 text)), IsRest-behind_view text e)
      go false false false e true f = (sound.objects.root, IsRest-from_begins text f)
      go false false false e false f = tt
