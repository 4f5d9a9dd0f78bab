-- In a concrete state: that it is sound, by a test, and what a name ends with, by computing it.
use Rattle.std.proofs.Common.{◌≡◌, ◌≢◌, All, ℕ, ◌<◌, nat_lt, arith, ◌&&◌, not, Bool, true, false, List, [], ◌∷◌, refl, Option, None, Some, MatchOption, is_some, subst}
use Rattle.std.specs.List.{list_all}
use Rattle.std.specs.Prelude.{AllPairs}
use Rattle.std.proofs.lemmas.List.Kept.{AllPairs-cons}
use Rattle.std.proofs.lemmas.Bool.{and_parts}
use Rattle.std.proofs.lemmas.Bool.Decides.{nat_tests}
use Rattle.std.proofs.lemmas.List.Sums.{AllPass-from_list_all}
use Rattle.std.proofs.lemmas.List.Elements.{All-nil, All-weaker}
use Rattle.ob_model.specs.State.{State, root_id, global_id, object_of, is_directory, shadow_in, shadow_of, is_live}
use Rattle.ob_model.specs.Procedures.{Procedures}
use Rattle.ob_model.specs.declared.terms.Mode.{Mode}
use Rattle.ob_model.specs.Looks.{Look, LooksUp}
use Rattle.ob_model.specs.declared.state.Held.{Held}
use Rattle.ob_model.specs.declared.state.PendingOpen.{PendingOpen}
use Rattle.ob_model.specs.Names.{IsComponent}
use Rattle.ob_model.specs.Closing.{is_handle}
use Rattle.ob_model.specs.Sound.{IsSound, IsDirectory, Stands, IsShadowAmong, HasSoundShadowAmong, HasSoundMap, is_barred}
use Rattle.ob_model.proofs.Places.{is_component, IsComponent-from_test, do_stand_apart, stand_apart}
use Rattle.ob_model.proofs.Soundness.{Climb, pairs_climb}
use Rattle.ob_model.proofs.Lookup.{looked_up_name, looked_up_name-LooksUp}

less : (a b : ℕ) → nat_lt a b ≡ true → a < b
less a b e = grind (arith, nat_tests)

-- elements rise by a number: rows by stamps, and objects by their own
module _ {X : Type 0} (number : X → ℕ) where
  abbrev pub do_rise : List X → Bool
  do_rise [] = true
  do_rise (x ∷ []) = true
  do_rise (x ∷ y ∷ xs) = nat_lt (number x) (number y) && do_rise (y ∷ xs)

  rise : (xs : List X) → do_rise xs ≡ true → Climb number xs
  rise [] h = tt
  rise (x ∷ []) h = tt
  rise (x ∷ y ∷ xs) h = let parts = and_parts (nat_lt (number x) (number y)) (do_rise (y ∷ xs)) h in (less (number x) (number y) parts.0, rise (y ∷ xs) parts.1)

is_false : (b : Bool) → not b ≡ true → b ≡ false
is_false true h = cc
is_false false h = refl

-- handles differ in process or value
abbrev pub do_differ : List Held → Bool
do_differ [] = true
do_differ (h ∷ hs) = list_all (λ x. not (is_handle h.process h.value x)) hs && do_differ hs

differ : (hs : List Held) → do_differ hs ≡ true → AllPairs (λ a b. is_handle a.process a.value b ≡ false) hs
differ [] e = λ i j d less within. absurd (omega (arith, within))
differ (h ∷ hs) e =
    let parts = and_parts (list_all (λ x. not (is_handle h.process h.value x)) hs) (do_differ hs) e in
    AllPairs-cons (λ a b. is_handle a.process a.value b ≡ false) h hs
    (All-weaker (λ x. not (is_handle h.process h.value x) ≡ true) (λ x. is_handle h.process h.value x ≡ false) (λ x other. is_false (is_handle h.process h.value x) other) hs
    (AllPass-from_list_all (λ x. not (is_handle h.process h.value x)) hs parts.0))
    (differ hs parts.1)

-- no open is pending
abbrev pub none_pending : {K : Type 0} → List (PendingOpen K) → Bool
none_pending [] = true
none_pending (x ∷ xs) = false

all_of_none : {K : Type 0} (P : PendingOpen K → Type 0) (xs : List (PendingOpen K)) → none_pending xs ≡ true → All P xs
all_of_none P [] h = All-nil P
all_of_none P (x ∷ xs) h = cc

pairs_of_none : {K : Type 0} (P : PendingOpen K → PendingOpen K → Type 0) (xs : List (PendingOpen K)) → none_pending xs ≡ true → AllPairs P xs
pairs_of_none P [] h = λ i j d less within. absurd (omega (arith, within))
pairs_of_none P (x ∷ xs) h = cc

-- what isn't there is none
none_there : (o : Option ℕ) → not (is_some o) ≡ true → o ≡ None
none_there None h = refl
none_there (Some n) h = cc

module _ {K T F I : Type 0} where
  abbrev pub is_map_sound : State K T F I → Option ℕ → Bool
  is_map_sound s None = true
  is_map_sound s (Some d) = is_directory s d

  -- a test of the numbers of objects, and of their shadows
  abbrev pub is_shadow_fit : State K T F I → ℕ → Option ℕ → Bool
  is_shadow_fit s d None = true
  is_shadow_fit s d (Some o) = is_directory s o && (nat_lt o d && not (is_some (shadow_of s o)))

  abbrev pub are_numbered : State K T F I → Bool
  are_numbered s = do_rise (λ x. x.id) s.objects && list_all (λ x. is_shadow_fit s x.id (shadow_in x.body)) s.objects

  -- a test of where rows stand, and under which names
  abbrev pub are_placed : State K T F I → Bool
  are_placed s = list_all (λ r. is_directory s r.directory) s.rows && (list_all (λ r. is_component r.name) s.rows && do_stand_apart s.rows)

  -- a test of the pending opens, of the stamps, of the names in the root and of the processes of handles
  abbrev pub is_orderly : State K T F I → Bool
  is_orderly s =
      none_pending s.pending && (do_rise (λ r. r.stamp) s.rows && (list_all (λ r. nat_lt r.stamp s.next_stamp) s.rows
      && (list_all (λ r. not (is_barred r.directory r.name)) s.rows && (list_all (λ h. is_live s h.process) s.handles
      && (list_all (λ x. nat_lt x.number s.next_process) s.processes && (do_differ s.handles && (are_numbered s && are_placed s)))))))

  -- a test of whether a state is sound
  abbrev pub is_sound : State K T F I → Bool
  is_sound s =
      is_directory s root_id && (is_directory s global_id && (list_all (λ x. is_map_sound s x.map) s.processes
      && (list_all (λ r. is_some (object_of s r.object)) s.rows && (list_all (λ h. is_some (object_of s h.object)) s.handles
      && (list_all (λ x. nat_lt x.id s.next_id) s.objects && (list_all (λ r. nat_lt r.directory r.object) s.rows && is_orderly s))))))

  map_sound : (s : State K T F I) (map : Option ℕ) → is_map_sound s map ≡ true → MatchOption map (Unit {0}) (IsDirectory s)
  map_sound s None h = tt
  map_sound s (Some d) h = h

  shadow_fits : (s : State K T F I) (d : ℕ) (shadow : Option ℕ) → is_shadow_fit s d shadow ≡ true → MatchOption shadow (Unit {0}) (IsShadowAmong s.objects d)
  shadow_fits s d None h = tt
  shadow_fits s d (Some o) h =
      let first = and_parts (is_directory s o) _ h in
      let second = and_parts (nat_lt o d) _ first.1 in
      (first.0, less o d second.0, none_there (shadow_of s o) second.1)

  pub IsSound-from_test : (s : State K T F I) → is_sound s ≡ true → IsSound s
  IsSound-from_test s h =
      let first = and_parts _ _ h in
      let second = and_parts _ _ first.1 in
      let third = and_parts _ _ second.1 in
      let fourth = and_parts _ _ third.1 in
      let fifth = and_parts _ _ fourth.1 in
      let sixth = and_parts _ _ fifth.1 in
      let seventh = and_parts _ _ sixth.1 in
      let eighth = and_parts _ _ seventh.1 in
      let ninth = and_parts _ _ eighth.1 in
      let tenth = and_parts _ _ ninth.1 in
      let eleventh = and_parts _ _ tenth.1 in
      let twelfth = and_parts _ _ eleventh.1 in
      let thirteenth = and_parts _ _ twelfth.1 in
      let fourteenth = and_parts _ _ thirteenth.1 in
      let numbered = and_parts _ _ fourteenth.1 in
      let objects = and_parts _ _ numbered.0 in
      let fifteenth = and_parts _ _ numbered.1 in
      let sixteenth = and_parts _ _ fifteenth.1 in
      record {
        objects = record {
          root = first.0;
          global = second.0;
          drawn = All-weaker (λ x. nat_lt x.id s.next_id ≡ true) (λ x. x.id < s.next_id) (λ x e. less x.id s.next_id e) s.objects (AllPass-from_list_all (λ x. nat_lt x.id s.next_id) s.objects sixth.0);
          rising = pairs_climb (λ x. x.id) s.objects (rise (λ x. x.id) s.objects objects.0);
          shadows = All-weaker (λ x. is_shadow_fit s x.id (shadow_in x.body) ≡ true) (HasSoundShadowAmong s.objects) (λ x e. shadow_fits s x.id (shadow_in x.body) e) s.objects
              (AllPass-from_list_all (λ x. is_shadow_fit s x.id (shadow_in x.body)) s.objects objects.1);
        };
        processes = record {
          maps = All-weaker (λ x. is_map_sound s x.map ≡ true) (HasSoundMap s) (λ x e. map_sound s x.map e) s.processes (AllPass-from_list_all (λ x. is_map_sound s x.map) s.processes third.0);
          numbered = All-weaker (λ x. nat_lt x.number s.next_process ≡ true) (λ x. x.number < s.next_process) (λ x e. less x.number s.next_process e) s.processes (AllPass-from_list_all (λ x. nat_lt x.number s.next_process) s.processes thirteenth.0);
        };
        rows = record {
          standing = AllPass-from_list_all (λ r. is_some (object_of s r.object)) s.rows fourth.0;
          descending = All-weaker (λ r. nat_lt r.directory r.object ≡ true) (λ r. r.directory < r.object) (λ r e. less r.directory r.object e) s.rows (AllPass-from_list_all (λ r. nat_lt r.directory r.object) s.rows seventh.0);
          rising = pairs_climb (λ r. r.stamp) s.rows (rise (λ r. r.stamp) s.rows ninth.0);
          stamped = All-weaker (λ r. nat_lt r.stamp s.next_stamp ≡ true) (λ r. r.stamp < s.next_stamp) (λ r e. less r.stamp s.next_stamp e) s.rows (AllPass-from_list_all (λ r. nat_lt r.stamp s.next_stamp) s.rows tenth.0);
          inside = AllPass-from_list_all (λ r. is_directory s r.directory) s.rows fifteenth.0;
          named = All-weaker (λ r. is_component r.name ≡ true) (λ r. IsComponent r.name) (λ r e. IsComponent-from_test r.name e) s.rows (AllPass-from_list_all (λ r. is_component r.name) s.rows sixteenth.0);
          apart = stand_apart s.rows sixteenth.1;
          plain = All-weaker (λ r. not (is_barred r.directory r.name) ≡ true) (λ r. is_barred r.directory r.name ≡ false) (λ r e. is_false (is_barred r.directory r.name) e) s.rows (AllPass-from_list_all (λ r. not (is_barred r.directory r.name)) s.rows eleventh.0);
        };
        handles = record {
          standing = AllPass-from_list_all (λ h. is_some (object_of s h.object)) s.handles fifth.0;
          live = AllPass-from_list_all (λ h. is_live s h.process) s.handles twelfth.0;
          distinct = differ s.handles fourteenth.0;
        };
        pending = record {
          standing = all_of_none (λ x. Stands s x.object) s.pending eighth.0;
          ticketed = all_of_none (λ x. x.ticket < s.next_id) s.pending eighth.0;
          later = all_of_none (λ x. x.object < x.ticket) s.pending eighth.0;
          reserved = all_of_none (λ x. All (λ y. y.id ≢ x.ticket) s.objects) s.pending eighth.0;
          awaited = pairs_of_none (λ a b. a.ticket < b.ticket) s.pending eighth.0;
        };
      }

module _ {K T F I : Type 0} (g : Procedures K T F I) (s : State K T F I) (sound : is_sound s ≡ true) (p : ℕ) (mode : Mode) (n : ℕ) where
  -- an absolute name ends as computed
  pub ends_as_computed : (name : List ℕ) (look : Look) → looked_up_name g s p mode n None name ≡ look → LooksUp g s p mode n None name look
  ends_as_computed name look e = subst (λ (x : Look). LooksUp g s p mode n None name x) e (looked_up_name-LooksUp g s p mode n None name (IsSound-from_test s sound) tt)

  -- and so does one relative to an object that is there
  pub relative_ends_as_computed : (root : ℕ) (name : List ℕ) (look : Look) → is_some (object_of s root) ≡ true → looked_up_name g s p mode n (Some root) name ≡ look → LooksUp g s p mode n (Some root) name look
  relative_ends_as_computed root name look stands e = subst (λ (x : Look). LooksUp g s p mode n (Some root) name x) e (looked_up_name-LooksUp g s p mode n (Some root) name (IsSound-from_test s sound) stands)
