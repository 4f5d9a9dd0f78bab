-- The handles of a process are closed one after another when the process has them no longer: each close is told
-- of those that are still to be closed, and of those of other processes.
use Rattle.std.proofs.Common.{◌≡◌, ◌∙◌, ℕ, ◌+◌, ◌*◌, ◌<◌, ◌≤◌, ◌^◌, ◌==◌, ◌&&◌, ◌||◌, Bool, true, false, not, cond, if◌then◌else◌, List, [], ◌∷◌, filter, find, get_or, map, Option, None, Some, option_map, All, refl, ap, sym, subst, arith, suc, eq-eqb, eqb-true, length}
use Rattle.std.specs.Prelude.{AllPairs, count_by, MatchOption}
use Rattle.std.specs.List.{slice_get, list_any}
use Rattle.std.specs.Option.{option_map_or, option_and_then, is_some}
use Rattle.std.proofs.lemmas.Bool.{false≢true}
use Rattle.std.proofs.lemmas.List.Elements.{All-nil, All-cons, All-head, All-tail, All-map, All-weaker, filter_passes}
use Rattle.std.proofs.lemmas.List.Filters.{sum_by-filter_both, length-filter_both}
use Rattle.std.proofs.lemmas.List.Kept.{AllPairs-filter}
use Rattle.std.proofs.lemmas.List.Sums.{length-filter, count_by-le-length}
use Rattle.ob_model.specs.declared.state.Held.{Held}
use Rattle.ob_model.specs.declared.state.Object.{Object}
use Rattle.ob_model.specs.declared.state.Process.{Process}
use Rattle.ob_model.specs.State.{State, root_id, global_id, body_of, is_directory_body, process_of, is_live, held_of, handle_count, handle_count_in}
use Rattle.ob_model.specs.Procedures.{Procedures}
use Rattle.ob_model.specs.Closing.{is_handle, closed_body, closed_object, closed_set, closed_handle, without_handle}
use Rattle.ob_model.specs.Processes.{handles_in, closed_in_turn, without_process, ended}
use Rattle.ob_model.specs.Settle.{has_shadow, is_alive_itself, is_permanent, has_handle, is_kept, is_mapped, is_pinned, has_name, IsSettled}
use Rattle.ob_model.specs.Sound.{IsSound, IsDirectory, HasSoundMap}
use Rattle.ob_model.proofs.Soundness.{closed_sound, find_id-map, is_directory-map, closed_object-id, closed_object-is_directory, closed_object-shadow}
use Rattle.ob_model.proofs.Finds.{filter_all, filter_none, not_found, list_any_weaker}
use Rattle.ob_objects.specs.Store.{Entries, objects_of, rows_of}
use Rattle.ob_objects.specs.Changes.{with_closed, set_after_close}
use Rattle.ob_objects.proofs.Shown.{closed_is_machines}
use Rattle.ob_objects.proofs.Follow.{set_after_close_is_machines}
use Rattle.ob_processes.specs.Running.{Running}
use Rattle.ob_processes.proofs.Entries.{filter_both, find_first}
use Rattle.ob_processes.proofs.Seen.{none_passes}
use Rattle.ob_space.specs.Namespace.{Parts, state_of}
use Rattle.ob_space.specs.Orderly.{IsOrderly}
use Rattle.ob_life.specs.Settling.{is_shadow, is_held_up, StaysBut}
use Rattle.ob_life.proofs.HandleClosed.{held_alone}
use Rattle.ob_space.proofs.Handles.{few_of_all}
use Rattle.ob_life.proofs.Judged.{all_found}
use Rattle.ob_space.proofs.Orders.{any_stays, closed_orderly}
use Rattle.ob_life.proofs.Beginnings.{parted_orderly}

-- two tests in either order leave the same
either_order : {X : Type 0} (p q : X → Bool) (xs : List X) → filter p (filter q xs) ≡ filter q (filter p xs)
either_order p q [] = refl
either_order {X} p q (x ∷ xs) = go (p x) (q x) refl refl (either_order p q xs)
  where
    go : (a b : Bool) → p x ≡ a → q x ≡ b → filter p (filter q xs) ≡ filter q (filter p xs)
        → filter p (cond b (x ∷ filter q xs) (filter q xs)) ≡ filter q (cond a (x ∷ filter p xs) (filter p xs))
    go true true e f more = ap (λ t. cond t (x ∷ filter p (filter q xs)) (filter p (filter q xs))) e ∙ ap (λ ys. x ∷ ys) more ∙ sym (ap (λ t. cond t (x ∷ filter q (filter p xs)) (filter q (filter p xs))) f)
    go true false e f more = more ∙ sym (ap (λ t. cond t (x ∷ filter q (filter p xs)) (filter q (filter p xs))) f)
    go false true e f more = ap (λ t. cond t (x ∷ filter p (filter q xs)) (filter p (filter q xs))) e ∙ more
    go false false e f more = more

is_false : (b : Bool) → (b ≡ true → ⊥) → b ≡ false
is_false true h = absurd (h refl)
is_false false h = refl

not_false : (b : Bool) → (b ≡ false → ⊥) → b ≡ true
not_false true h = refl
not_false false h = absurd (h refl)

-- so many of these handles lead to an object
abbrev pub count_to : List Held → ℕ → ℕ
count_to handles o = count_by (λ h. h.object == o) handles

-- the handles of other processes
abbrev pub others_of : List Held → ℕ → List Held
others_of handles p = filter (λ h. not (h.process == p)) handles

module _ {K T F I : Type 0} where
  -- the state without a process and its handles, none of which was closed
  abbrev pub parted : State K T F I → ℕ → State K T F I
  parted s p = record s { handles = others_of s.handles p; processes = filter (λ x. not (x.number == p)) s.processes }

module _ {K T F I : Type 0} (g : Procedures K T F I) where
  -- the state with the close procedure called for an object, and told so many handles
  abbrev pub told_closed : State K T F I → ℕ → ℕ → ℕ → State K T F I
  told_closed s o process_left system_left = record s {
    objects = map (closed_object g s.set o process_left system_left) s.objects;
    set = option_map_or (closed_set g s.set process_left system_left) (body_of s o) s.set;
  }

  -- the state after these handles, which are not in it, were closed one after another
  abbrev pub closing : State K T F I → List Held → State K T F I
  closing s [] = s
  closing s (h ∷ hs) = closing (told_closed s h.object (count_to hs h.object) (count_to hs h.object + count_to s.handles h.object)) hs

  -- ---- the same as closes in a state that has the handles

  module _ (s : State K T F I) (p : ℕ) (sound : IsSound s) (h : Held) (hs : List Held) (in_turn : handles_in s p ≡ h ∷ hs) where
    own : h.process ≡ p
    own = eqb-true h.process p (subst (All (λ (k : Held). (k.process == p) ≡ true)) in_turn (filter_passes (λ (k : Held). k.process == p) s.handles) 0 h (omega arith))

    apart : All (λ k. is_handle h.process h.value k ≡ false) hs
    apart k d below =
        subst (AllPairs (λ a b. is_handle a.process a.value b ≡ false)) in_turn (AllPairs-filter (λ a b. is_handle a.process a.value b ≡ false) (λ k. k.process == p) s.handles sound.handles.distinct)
        0 (suc k) d (omega arith) (omega (arith, below))

    itself : is_handle h.process h.value h ≡ true
    itself = ap (λ b. b && (h.value == h.value)) (eq-eqb h.process h.process refl) ∙ eq-eqb h.value h.value refl

    abbrev rest : List Held
    rest = filter (λ k. not (is_handle h.process h.value k)) s.handles

    -- the others of the process are left
    left : filter (λ k. k.process == p) rest ≡ hs
    left =
        either_order (λ k. k.process == p) (λ k. not (is_handle h.process h.value k)) s.handles
        ∙ ap (filter (λ k. not (is_handle h.process h.value k))) in_turn
        ∙ ap (λ t. cond (not t) (h ∷ filter (λ k. not (is_handle h.process h.value k)) hs) (filter (λ k. not (is_handle h.process h.value k)) hs)) itself
        ∙ filter_all (λ k. not (is_handle h.process h.value k)) hs
        (All-weaker (λ k. is_handle h.process h.value k ≡ false) (λ k. not (is_handle h.process h.value k) ≡ true) (λ k e. ap not e) hs apart)

    -- and all of other processes
    same_others : others_of rest p ≡ others_of s.handles p
    same_others =
        either_order (λ k. not (k.process == p)) (λ k. not (is_handle h.process h.value k)) s.handles
        ∙ filter_all (λ k. not (is_handle h.process h.value k)) (others_of s.handles p)
        (All-weaker (λ k. not (k.process == p) ≡ true) (λ k. not (is_handle h.process h.value k) ≡ true)
        (λ k other. ap (λ n. not ((k.process == n) && (k.value == h.value))) own ∙ ap not (neither (k.process == p) (k.value == h.value) other)) (others_of s.handles p)
        (filter_passes (λ k. not (k.process == p)) s.handles))
      where
        neither : (a b : Bool) → not a ≡ true → (a && b) ≡ false
        neither true b e = cc
        neither false b e = refl

    in_process : (o : ℕ) → handle_count_in (without_handle s h.process h.value) h.process o ≡ count_to hs o
    in_process o =
        sym (length-filter (λ k. (k.process == h.process) && (k.object == o)) rest)
        ∙ ap length (filter_both (λ k. k.process == h.process) (λ k. k.object == o) rest ∙ ap (λ n. filter (λ k. k.object == o) (filter (λ k. k.process == n) rest)) own ∙ ap (filter (λ k. k.object == o)) left)
        ∙ length-filter (λ k. k.object == o) hs

    in_all : (o : ℕ) → handle_count (without_handle s h.process h.value) o ≡ count_to hs o + count_to (others_of s.handles p) o
    in_all o =
        sym (sum_by-filter_both (λ k. k.process == p) (λ k. not (k.process == p)) (λ _. refl) (λ k. cond (k.object == o) 1 0) rest)
        ∙ (λ i. count_to (left i) o + count_to (same_others i) o)

    one_closed : parted (closed_handle g s h) p ≡ told_closed (parted s p) h.object (count_to hs h.object) (count_to hs h.object + count_to (parted s p).handles h.object)
    one_closed = λ i. record (parted s p) {
      objects = map (closed_object g s.set h.object (in_process h.object i) (in_all h.object i)) s.objects;
      handles = same_others i;
      set = option_map_or (closed_set g s.set (in_process h.object i) (in_all h.object i)) (body_of s h.object) s.set;
    }

    first_held : held_of s h.process h.value ≡ Some h
    first_held = found_itself s.handles sound.handles.distinct (find_first (λ k. k.process == p) s.handles ∙ ap (λ xs. slice_get xs 0) in_turn)
      where
        -- a handle that a process holds is found under its value
        found_itself : (hs : List Held) → AllPairs (λ a b. is_handle a.process a.value b ≡ false) hs → find (λ k. k.process == p) hs ≡ Some h → find (is_handle h.process h.value) hs ≡ Some h
        found_itself [] distinct found = cc
        found_itself (k ∷ hs) distinct found = go (k.process == p) refl found (found_itself hs (λ i j d less within. distinct (suc i) (suc j) d (omega (arith, less)) (omega (arith, within))))
          where
            go : (t : Bool) → (k.process == p) ≡ t → cond t (Some k) (find (λ x. x.process == p) hs) ≡ Some h → (find (λ x. x.process == p) hs ≡ Some h → find (is_handle h.process h.value) hs ≡ Some h)
                → find (is_handle h.process h.value) (k ∷ hs) ≡ Some h
            go true e found more =
                let it : k ≡ h = cc in
                ap (λ t. cond t (Some k) (find (is_handle h.process h.value) hs)) (ap (λ (x : Held). is_handle h.process h.value x) it ∙ itself) ∙ ap Some it
            go false e found more = ap (λ t. cond t (Some k) (find (is_handle h.process h.value) hs)) (ap (λ b. b && (k.value == h.value)) (ap (λ n. k.process == n) own ∙ e)) ∙ more found

  none_left : (s : State K T F I) (p : ℕ) → handles_in s p ≡ [] → without_process s p ≡ parted s p
  none_left s p none =
      (λ i. record (without_process s p) {
        handles = sym (filter_all (λ h. not (h.process == p)) s.handles (All-weaker (λ h. (h.process == p) ≡ false) (λ h. not (h.process == p) ≡ true) (λ h e. ap not e) s.handles (none_passes (λ h. h.process == p) s.handles none))) i;
      })

  pub closed_apart : (s : State K T F I) (p : ℕ) (hs : List Held) → IsSound s → handles_in s p ≡ hs → without_process (closed_in_turn g s hs) p ≡ closing (parted s p) hs
  closed_apart s p [] sound in_turn = none_left s p in_turn
  closed_apart s p (h ∷ hs) sound in_turn =
      closed_apart (closed_handle g s h) p hs (closed_sound g s h sound) (left s p sound h hs in_turn) ∙ ap (λ u. closing u hs) (one_closed s p sound h hs in_turn)

  -- what it leaves is orderly
  module _ (idle : I → Type 0) (last_idle : (set : T) (inner : I) (process_left : ℕ) → idle ((g.closed set inner process_left 0).1)) where
    closed_in_turn_orderly : (s : State K T F I) (p : ℕ) (hs : List Held) → IsSound s → handles_in s p ≡ hs → IsOrderly idle s → IsOrderly idle (closed_in_turn g s hs)
    closed_in_turn_orderly s p [] sound in_turn orderly = orderly
    closed_in_turn_orderly s p (h ∷ hs) sound in_turn orderly =
        closed_in_turn_orderly (closed_handle g s h) p hs (closed_sound g s h sound) (left s p sound h hs in_turn)
        (closed_orderly g idle last_idle s h orderly (held_alone s h.process h.value h sound (first_held s p sound h hs in_turn)))

    pub ended_orderly : (s : State K T F I) (p : ℕ) → IsSound s → IsOrderly idle s → IsOrderly idle (ended g s p)
    ended_orderly s p sound orderly = parted_orderly g idle (closed_in_turn g s (handles_in s p)) p (closed_in_turn_orderly s p (handles_in s p) sound refl orderly)

  -- ---- what stays

  module _ (touched : ℕ → Bool) (directory : Option ℕ) where
    told_stays : (s : State K T F I) (o process_left system_left : ℕ) → StaysBut s touched directory → StaysBut (told_closed s o process_left system_left) touched directory
    told_stays s o process_left system_left stays = record {
      names = λ k d below free. ap (λ b. b || has_handle s (get_or s.rows k d).object) (permanent (get_or s.rows k d).object) ∙ stays.names k d below free;
      objects =
          All-map (λ x. touched x.id ≡ false → (directory ≡ Some x.id → ⊥) → is_held_up t x.id ≡ true) f s.objects
          (λ k d below. subst (λ n. touched n ≡ false → (directory ≡ Some n → ⊥) → is_held_up t n ≡ true) (sym (same_id (get_or s.objects k d)))
          (λ free out. (λ i. ((get_or s.objects k d).id == root_id) || has_handle s (get_or s.objects k d).id || is_pinned s (get_or s.objects k d).id || is_mapped s (get_or s.objects k d).id
          || (permanent (get_or s.objects k d).id i && has_name s (get_or s.objects k d).id) || list_any (λ r. r.directory == (get_or s.objects k d).id) s.rows
          || shaded (get_or s.objects k d).id s.objects i)
          ∙ stays.objects k d below free out));
      directory = go directory stays.directory;
    }
      where
        t : State K T F I
        t = told_closed s o process_left system_left

        f : Object F I → Object F I
        f = closed_object g s.set o process_left system_left

        same_id : (x : Object F I) → (f x).id ≡ x.id
        same_id x = closed_object-id g s.set o process_left system_left x

        -- each is the shadow of as many
        shaded : (m : ℕ) (xs : List (Object F I)) → is_shadow (map f xs) m ≡ is_shadow xs m
        shaded m [] = refl
        shaded m (x ∷ xs) = λ i. option_map_or (λ n. n == m) (closed_object-shadow g s.set o process_left system_left x i) false || shaded m xs i

        same_directory : (x : Object F I) → is_directory_body (f x).body ≡ is_directory_body x.body
        same_directory x = closed_object-is_directory g s.set o process_left system_left x

        permanent : (m : ℕ) → is_permanent t m ≡ is_permanent s m
        permanent m =
            ap (λ (x : Option (Object F I)). option_map_or (λ y. y.permanent) x false) (find_id-map f same_id same_directory m s.objects) ∙ either (find (λ x. x.id == m) s.objects)
          where
            either : (x : Option (Object F I)) → option_map_or (λ y. y.permanent) (option_map f x) false ≡ option_map_or (λ y. y.permanent) x false
            either None = refl
            either (Some x) =
                elim (x.id == o) as (λ b. (if b then record x { body = closed_body g s.set process_left system_left x.body } else x).permanent ≡ x.permanent) [ true ↦ refl | false ↦ refl ]

        go : (m : Option ℕ) → MatchOption m (Unit {0}) (IsDirectory s) → MatchOption m (Unit {0}) (IsDirectory t)
        go None is = tt
        go (Some m) is = is_directory-map f same_id same_directory m s.objects ∙ is

    pub closing_stays : (s : State K T F I) (hs : List Held) → StaysBut s touched directory → StaysBut (closing s hs) touched directory
    closing_stays s [] stays = stays
    closing_stays s (h ∷ hs) stays =
        closing_stays (told_closed s h.object (count_to hs h.object) (count_to hs h.object + count_to s.handles h.object)) hs
        (told_stays s h.object (count_to hs h.object) (count_to hs h.object + count_to s.handles h.object) stays)

-- where a process was in a settled state, what its handles lead to can go, and its map
module _ {K T F I : Type 0} (s : State K T F I) (p : ℕ) (sound : IsSound s) (settled : IsSettled s)
    (rising : AllPairs (λ a b. a.number < b.number) s.processes) (touched : ℕ → Bool) (listed : All (λ h. touched h.object ≡ true) (handles_in s p))
    (directory : Option ℕ) (is_map : directory ≡ option_and_then (λ x. x.map) (process_of s p)) where
  -- a handle of the process leads to a touched object
  own_touched : All (λ h. (h.process == p) ≡ true → touched h.object ≡ true) s.handles
  own_touched = each s.handles listed
    where
      each : (hs : List Held) → All (λ h. touched h.object ≡ true) (filter (λ h. h.process == p) hs) → All (λ h. (h.process == p) ≡ true → touched h.object ≡ true) hs
      each [] all = All-nil (λ h. (h.process == p) ≡ true → touched h.object ≡ true)
      each (h ∷ hs) all = go (h.process == p) refl all (λ rest. each hs rest)
        where
          go : (b : Bool) → (h.process == p) ≡ b → All (λ k. touched k.object ≡ true) (cond b (h ∷ filter (λ k. k.process == p) hs) (filter (λ k. k.process == p) hs))
              → (All (λ k. touched k.object ≡ true) (filter (λ k. k.process == p) hs) → All (λ k. (k.process == p) ≡ true → touched k.object ≡ true) hs)
              → All (λ k. (k.process == p) ≡ true → touched k.object ≡ true) (h ∷ hs)
          go true e all more =
              All-cons (λ k. (k.process == p) ≡ true → touched k.object ≡ true) h hs (λ _. All-head (λ k. touched k.object ≡ true) h (filter (λ k. k.process == p) hs) all)
              (more (All-tail (λ k. touched k.object ≡ true) h (filter (λ k. k.process == p) hs) all))
          go false e all more = All-cons (λ k. (k.process == p) ≡ true → touched k.object ≡ true) h hs (λ own. absurd (false≢true (sym e ∙ own))) (more all)

  still_held : (o : ℕ) → touched o ≡ false → has_handle (parted s p) o ≡ has_handle s o
  still_held o free =
      any_stays (λ h. h.object == o) (λ h. not (h.process == p)) s.handles
      (λ k d below here. ap not (is_false ((get_or s.handles k d).process == p) (λ own.
      false≢true (sym free ∙ ap touched (sym (eqb-true (get_or s.handles k d).object o here)) ∙ own_touched k d below own))))

  -- of the process of a number there is one
  one_process : (xs : List Process) → AllPairs (λ a b. a.number < b.number) xs → All (λ x. (x.number == p) ≡ true → find (λ y. y.number == p) xs ≡ Some x) xs
  one_process [] rising = All-nil (λ x. (x.number == p) ≡ true → find (λ y. y.number == p) [] ≡ Some x)
  one_process (x ∷ xs) rising =
      All-cons (λ z. (z.number == p) ≡ true → find (λ y. y.number == p) (x ∷ xs) ≡ Some z) x xs
      (λ own. ap (λ b. cond b (Some x) (find (λ y. y.number == p) xs)) own)
      (λ k d below own. ap (λ b. cond b (Some x) (find (λ y. y.number == p) xs)) (is_false (x.number == p) (λ same.
      omega (arith, rising 0 (suc k) d (omega arith) (omega (arith, below)), eqb-true x.number p same, eqb-true (get_or xs k d).number p own)))
      ∙ one_process xs (λ i j e less within. rising (suc i) (suc j) e (omega (arith, less)) (omega (arith, within))) k d below own)

  still_mapped : (o : ℕ) → (directory ≡ Some o → ⊥) → is_mapped (parted s p) o ≡ is_mapped s o
  still_mapped o out =
      ap (λ b. (o == global_id) || b)
      (any_stays (λ x. option_map_or (λ d. d == o) x.map false) (λ x. not (x.number == p)) s.processes
      (λ k d below here. ap not (is_false ((get_or s.processes k d).number == p) (λ own.
      out (is_map ∙ ap (option_and_then (λ (x : Process). x.map)) (one_process s.processes rising k d below own) ∙ the_map (get_or s.processes k d).map here)))))
    where
      the_map : (m : Option ℕ) → option_map_or (λ d. d == o) m false ≡ true → m ≡ Some o
      the_map None h = cc
      the_map (Some d) h = ap Some (eqb-true d o h)

  pub parted_stays : StaysBut (parted s p) touched directory
  parted_stays = record {
    names = λ k d below free. ap (λ b. is_permanent s (get_or s.rows k d).object || b) (still_held (get_or s.rows k d).object free) ∙ settled.names k d below;
    objects = λ k x below free out.
        up ((get_or s.objects k x).id == root_id) _ _ _ _ _ _ _ _ _ _ (still_held (get_or s.objects k x).id free) (still_mapped (get_or s.objects k x).id out)
        (list_any_weaker (λ r. (r.directory == (get_or s.objects k x).id) && is_kept s r) (λ r. r.directory == (get_or s.objects k x).id) s.rows
        (λ j y within both. first ((get_or s.rows j y).directory == (get_or s.objects k x).id) (is_kept s (get_or s.rows j y)) both))
        (list_any_weaker (λ y. has_shadow (get_or s.objects k x).id y.body && is_alive_itself s y.id) (λ y. has_shadow (get_or s.objects k x).id y.body) s.objects
        (λ j y within both. first (has_shadow (get_or s.objects k x).id (get_or s.objects j y).body) (is_alive_itself s (get_or s.objects j y).id) both))
        (settled.objects k x below);
    directory = subst (λ o. MatchOption o (Unit {0}) (IsDirectory s)) (sym is_map) (go (process_of s p) refl);
  }
    where
      first : (a b : Bool) → (a && b) ≡ true → a ≡ true
      first true b h = refl
      first false b h = cc

      up : (a b b' pin c c' d e f shade shadow : Bool) → b' ≡ b → c' ≡ c → (e ≡ true → f ≡ true) → (shade ≡ true → shadow ≡ true)
          → (a || b || pin || c || d || e || shade) ≡ true → (a || b' || pin || c' || d || f || shadow) ≡ true
      up a b b' pin c c' d e f shade shadow held mapped holds shades alive =
          (λ i. a || held i || pin || mapped i || d || f || shadow) ∙ go (a || b || pin || c || d) e f shade shadow holds shades alive
        where
          go : (x e f g h : Bool) → (e ≡ true → f ≡ true) → (g ≡ true → h ≡ true) → (x || e || g) ≡ true → (x || f || h) ≡ true
          go true e f g h more others alive = refl
          go false true f g h more others alive = ap (λ b. b || h) (more refl)
          go false false true g h more others alive = refl
          go false false false g h more others alive = others alive

      go : (o : Option Process) → process_of s p ≡ o → MatchOption (option_and_then (λ x. x.map) o) (Unit {0}) (IsDirectory s)
      go None e = tt
      go (Some x) e = all_found (HasSoundMap s) (λ y. y.number == p) s.processes x sound.processes.maps e

-- ---- a namespace

-- a process that isn't live has no handle
pub no_handles : {K T F I : Type 0} (s : State K T F I) (p : ℕ) → IsSound s → is_live s p ≡ false → handles_in s p ≡ []
no_handles s p sound dead =
    filter_none (λ h. h.process == p) s.handles
    (λ k d below. is_false ((get_or s.handles k d).process == p) (λ own. false≢true (sym dead ∙ ap (is_live s) (sym (eqb-true (get_or s.handles k d).process p own)) ∙ sound.handles.live k d below)))

-- and nothing goes with it
pub none_goes : (K : Type 0) {T F I : Type 0} (a : Parts K T F I) (p : ℕ) (running : Running) → IsSound (state_of K a) → is_live (state_of K a) p ≡ false
    → running.handles ≡ others_of a.processes.handles p → running.processes ≡ filter (λ x. not (x.number == p)) a.processes.processes → state_of K (record a { processes = running }) ≡ state_of K a
none_goes K a p running sound dead handles processes = λ i. record (state_of K a) { handles = (handles ∙ same_handles) i; processes = (processes ∙ same_processes) i }
  where
    same_handles : others_of a.processes.handles p ≡ a.processes.handles
    same_handles =
        filter_all (λ h. not (h.process == p)) a.processes.handles
        (λ k d below. ap not (none_passes (λ h. h.process == p) a.processes.handles (no_handles (state_of K a) p sound dead) k d below))

    nothing : (o : Option Process) → is_some o ≡ false → o ≡ None
    nothing None e = refl
    nothing (Some x) e = cc

    same_processes : filter (λ x. not (x.number == p)) a.processes.processes ≡ a.processes.processes
    same_processes =
        filter_all (λ x. not (x.number == p)) a.processes.processes
        (λ k d below. ap not (not_found (λ x. x.number == p) a.processes.processes (nothing (find (λ x. x.number == p) a.processes.processes) dead) k d below))

-- without the process what is still to be closed is all that it had
pub first_closed : (K : Type 0) {T F I : Type 0} (g : Procedures K T F I) (a : Parts K T F I) (p : ℕ) (running : Running) (hs : List Held) → IsSound (state_of K a)
    → running.handles ≡ others_of a.processes.handles p → running.processes ≡ filter (λ x. not (x.number == p)) a.processes.processes → handles_in (state_of K a) p ≡ hs
    → closing g (state_of K (record a { processes = running })) hs ≡ ended g (state_of K a) p
first_closed K g a p running hs sound handles processes own =
    ap (λ u. closing g u hs) (λ i. record (state_of K a) { handles = handles i; processes = processes i })
    ∙ sym (closed_apart g (state_of K a) p hs sound own)
    ∙ ap (λ xs. without_process (closed_in_turn g (state_of K a) xs) p) (sym own)

-- where nothing is still to be closed the process has ended
pub all_closed : {K T F I : Type 0} (g : Procedures K T F I) (s u : State K T F I) (hs : List Held) → hs ≡ [] → closing g s hs ≡ u → s ≡ u
all_closed g s u hs none turn = ap (closing g s) (sym none) ∙ turn

-- what stays when it has ended
pub ended_stays : {K T F I : Type 0} (g : Procedures K T F I) (s t : State K T F I) (p : ℕ) → t ≡ ended g s p → IsSound s → IsSettled s
    → AllPairs (λ a b. a.number < b.number) s.processes → (touched : ℕ → Bool) → All (λ h. touched h.object ≡ true) (handles_in s p)
    → (directory : Option ℕ) → directory ≡ option_and_then (λ x. x.map) (process_of s p) → StaysBut t touched directory
ended_stays {K} {T} {F} {I} g s t p is sound settled rising touched listed directory is_map =
    subst (λ (u : State K T F I). StaysBut u touched directory) (sym (is ∙ closed_apart g s p (handles_in s p) sound refl))
    (closing_stays g touched directory (parted s p) (handles_in s p) (parted_stays s p sound settled rising touched listed directory is_map))

module _ (K : Type 0) {T F I : Type 0} (g : Procedures K T F I) (a : Parts K T F I) (h : Held) (hs : List Held) (process_left system_left : ℕ) (set : T) (store : Entries F I)
    (own : process_left ≡ count_to hs h.object) (all : system_left ≡ count_to hs h.object + count_to a.processes.handles h.object)
    (set_is : set ≡ set_after_close g a.store a.set h.object process_left system_left) (store_is : store ≡ with_closed g a.store a.set h.object process_left system_left) where
  -- one more is closed
  pub next_closed : closing g (state_of K (record a { set = set; store = store })) hs ≡ closing g (state_of K a) (h ∷ hs)
  next_closed = ap (λ u. closing g u hs) is
    where
      is : state_of K (record a { set = set; store = store }) ≡ told_closed g (state_of K a) h.object (count_to hs h.object) (count_to hs h.object + count_to a.processes.handles h.object)
      is =
          let both = closed_is_machines g a.store a.set h.object process_left system_left in
          (λ i. record (state_of K a) {
            objects = (ap objects_of store_is ∙ both.0) i;
            rows = (ap rows_of store_is ∙ both.1) i;
            set = (set_is ∙ set_after_close_is_machines g (state_of K a) a.store (record { objects = refl; rows = refl }) h.object process_left system_left) i;
          })
          ∙ (λ i. told_closed g (state_of K a) h.object (own i) (all i))

-- there are few handles of all processes
pub few_handles : {K T F I : Type 0} (idle : I → Type 0) (s : State K T F I) (p : ℕ) (hs others : List Held) → IsSound s → IsOrderly idle s → hs ≡ handles_in s p → others ≡ others_of s.handles p
    → length hs + length others < 2 ^ 32
few_handles idle s p hs others sound orderly own rest =
    let all : length s.handles ≤ length s.processes * 65535 = few_of_all s.processes s.handles sound.handles.live orderly.few_handles in
    let crowd : length s.processes ≤ 1024 = orderly.few_processes in
    let parts = length-filter_both (λ h. h.process == p) (λ h. not (h.process == p)) (λ h. refl) s.handles in
    let first : length hs ≡ length (handles_in s p) = ap length own in
    let second : length others ≡ length (others_of s.handles p) = ap length rest in
    omega (arith, all, crowd, parts, first, second)

-- one less is left, and few lead to an object
pub few_counts : (hs others : List Held) (o process_left system_left : ℕ) → length hs + length others < 2 ^ 32 → process_left ≡ count_to hs o → system_left ≡ process_left + count_to others o
    → (process_left < 2 ^ 32) × (system_left < 2 ^ 32)
few_counts hs others o process_left system_left few own all =
    let one = count_by-le-length (λ h. h.object == o) hs in
    let two = count_by-le-length (λ h. h.object == o) others in
    (omega (arith, few, own, one), omega (arith, few, own, all, one, two))
