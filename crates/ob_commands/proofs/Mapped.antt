-- A device map that is set, put together of what its parts ensure.
use Rattle.std.proofs.Common.{◌≡◌, ◌∙◌, ℕ, suc, ◌<◌, ◌≤◌, ◌==◌, ◌&&◌, ◌||◌, Bool, true, false, not, cond, List, [], ◌∷◌, find, get_or, map, length, refl, ap, sym, subst, arith, eqb-true}
use Rattle.std.specs.Prelude.{Option, None, Some, option_map, MatchOption}
use Rattle.std.specs.List.{list_any, AllPairs}
use Rattle.std.specs.Option.{option_and_then, option_map_or}
use Rattle.std.proofs.lemmas.Bool.{ne_eqb, or_right}
use Rattle.std.proofs.lemmas.List.Elements.{All-map}
use Rattle.std.proofs.lemmas.List.Folds.{list_any-append}
use Rattle.ob_base.specs.Handle.{key_of}
use Rattle.ob_base.specs.declared.status.Status.TheVariants.{Success, ProcessGone, InvalidHandle, ObjectTypeMismatch}
use Rattle.ob_model.specs.declared.reply.Answer.{Answer}
use Rattle.ob_model.specs.declared.state.Held.{Held}
use Rattle.ob_model.specs.declared.state.Process.{Process}
use Rattle.ob_model.specs.declared.state.Row.{Row}
use Rattle.ob_model.specs.declared.state.Object.{Object}
use Rattle.ob_model.specs.State.{State, root_id, global_id, is_live, is_directory, is_directory_body, object_of, held_of}
use Rattle.ob_model.specs.Grants.{first_refusal}
use Rattle.ob_model.specs.Maps.{with_own_map, map_of, with_map}
use Rattle.ob_model.specs.Procedures.{Procedures}
use Rattle.ob_model.specs.Refusals.{IsRefused, Unless, answers}
use Rattle.ob_model.specs.Settle.{IsSettled, settle, has_handle, has_name, is_kept, is_alive_itself, is_permanent, is_pinned, is_mapped, holds_kept}
use Rattle.ob_model.specs.Step.{SetsMap}
use Rattle.ob_model.proofs.Finds.{find_none}
use Rattle.ob_processes.specs.Running.{Running}
use Rattle.ob_space.specs.Namespace.{Parts, state_of}
use Rattle.ob_space.specs.Orderly.{IsOrderly}
use Rattle.ob_life.specs.Settling.{with_handle_to}
use Rattle.ob_commands.proofs.Alive.{imply_or, alive_too}
use Rattle.ob_space.proofs.Stepping.{is_done}

-- ---- lists of processes

-- a directory is the map of a process
abbrev has_map : ℕ → Process → Bool
has_map o x = option_map_or (λ d. d == o) x.map false

number_stays : (p : ℕ) (m : Option ℕ) (x : Process) → (with_own_map p m x).number ≡ x.number
number_stays p m x = elim (x.number == p) as (λ b. (cond b (record x { map = m }) x).number ≡ x.number) [ true ↦ refl | false ↦ refl ]

-- behind a process of this number, by rising numbers, there is no other
none_behind : (p : ℕ) (x : Process) (ps : List Process) → AllPairs (λ a b. a.number < b.number) (x ∷ ps) → x.number ≡ p → find (λ y. y.number == p) ps ≡ None
none_behind p x ps rising same =
    find_none (λ y. y.number == p) ps
    (λ k d below. ne_eqb (get_or ps k d).number p
    (λ equal. let less : x.number < (get_or ps k d).number = rising 0 (suc k) d (omega arith) (omega (arith, below)) in absurd (omega (arith, less, equal, same))))

or_none : (b : Bool) → (b || false) ≡ b
or_none true = refl
or_none false = refl

-- a map of any process is one still when another map is set, but for the map that its process had
map_stays : (p o d : ℕ) (ps : List Process) → AllPairs (λ a b. a.number < b.number) ps
    → option_map_or (λ n. n == o) (option_and_then (λ x. x.map) (find (λ x. x.number == p) ps)) false ≡ false → list_any (has_map o) ps ≡ true
    → list_any (has_map o) (map (with_own_map p (Some d)) ps) ≡ true
map_stays p o d [] rising other some = some
map_stays p o d (x ∷ ps) rising other some =
    go (x.number == p) refl other some (map_stays p o d ps (λ i j e less below. rising (suc i) (suc j) e (omega (arith, less)) (omega (arith, below))))
  where
    go : (b : Bool) → (x.number == p) ≡ b
        → option_map_or (λ n. n == o) (option_and_then (λ y. y.map) (cond b (Some x) (find (λ y. y.number == p) ps))) false ≡ false
        → (has_map o x || list_any (has_map o) ps) ≡ true
        → (option_map_or (λ n. n == o) (option_and_then (λ y. y.map) (find (λ y. y.number == p) ps)) false ≡ false → list_any (has_map o) ps ≡ true
        → list_any (has_map o) (map (with_own_map p (Some d)) ps) ≡ true)
        → (has_map o (cond b (record x { map = Some d }) x) || list_any (has_map o) (map (with_own_map p (Some d)) ps)) ≡ true
    go true e old any rest =
        ap (λ b. (d == o) || b)
        (rest (ap (λ (f : Option Process). option_map_or (λ n. n == o) (option_and_then (λ y. y.map) f) false) (none_behind p x ps rising (eqb-true x.number p e)))
        (sym (ap (λ b. b || list_any (has_map o) ps) old) ∙ any))
        ∙ or_right (d == o) true refl
    go false e old any rest = either (has_map o x) any
      where
        either : (b : Bool) → (b || list_any (has_map o) ps) ≡ true → (b || list_any (has_map o) (map (with_own_map p (Some d)) ps)) ≡ true
        either true h = refl
        either false h = rest old h

-- ---- settled states

module _ {K T F I : Type 0} (s : State K T F I) (p d : ℕ) where
  -- an orderly state stays orderly
  pub mapped_orderly : (idle : I → Type 0) → IsOrderly idle s → IsOrderly idle (with_map s p d)
  mapped_orderly idle orderly = record {
    root = orderly.root;
    rising = orderly.rising;
    drawn = orderly.drawn;
    standing = orderly.standing;
    descending = orderly.descending;
    stamped = orderly.stamped;
    unheld = orderly.unheld;
    opened = orderly.opened;
    numbered = All-map (λ x. x.number < s.next_process) (with_own_map p (Some d)) s.processes
        (λ k e below. subst (λ (n : ℕ). n < s.next_process) (sym (number_stays p (Some d) (get_or s.processes k e))) (orderly.numbered k e below));
    few_handles = orderly.few_handles;
    few_processes = subst (λ (n : ℕ). n ≤ 1024) (sym (as_many s.processes)) orderly.few_processes;
  }
    where
      as_many : (ps : List Process) → length (map (with_own_map p (Some d)) ps) ≡ length ps
      as_many [] = refl
      as_many (x ∷ ps) = ap suc (as_many ps)

  module _ (rising : AllPairs (λ a b. a.number < b.number) s.processes) (settled : IsSettled s) where
    -- an object that isn't the map that goes is a map still, where it was one
    mapped_still : (o : ℕ) → option_map_or (λ n. n == o) (map_of s p) false ≡ false → is_mapped s o ≡ true → is_mapped (with_map s p d) o ≡ true
    mapped_still o other = imply_or (o == global_id) (o == global_id) _ _ (λ same. same) (map_stays p o d s.processes rising other)

    -- an object stays by itself as it did, where it isn't the map that goes
    still_itself : (o : ℕ) → option_map_or (λ n. n == o) (map_of s p) false ≡ false → is_alive_itself s o ≡ true → is_alive_itself (with_map s p d) o ≡ true
    still_itself o other =
        imply_or (((o == root_id) || has_handle s o || is_pinned s o || is_mapped s o) || (is_permanent s o && has_name s o))
        (((o == root_id) || has_handle s o || is_pinned s o || is_mapped (with_map s p d) o) || (is_permanent s o && has_name s o)) (holds_kept s o) (holds_kept s o)
        (imply_or ((o == root_id) || has_handle s o || is_pinned s o || is_mapped s o) ((o == root_id) || has_handle s o || is_pinned s o || is_mapped (with_map s p d) o)
        (is_permanent s o && has_name s o) (is_permanent s o && has_name s o)
        (imply_or ((o == root_id) || has_handle s o || is_pinned s o) ((o == root_id) || has_handle s o || is_pinned s o) (is_mapped s o) (is_mapped (with_map s p d) o) (λ h. h) (mapped_still o other))
        (λ h. h))
        (λ h. h)

    -- where the process had no map, nothing goes
    pub nothing_goes : map_of s p ≡ None → IsSettled (with_map s p d)
    nothing_goes none = record {
      names = settled.names;
      objects = λ k e below.
          alive_too s (with_map s p d) (λ o keeps some. some)
          (λ o. still_itself o (ap (λ (m : Option ℕ). option_map_or (λ n. n == o) m false) none))
          (get_or s.objects k e).id (settled.objects k e below);
    }

    -- and else nothing would, were there a handle to that directory
    module _ (m : ℕ) (had : map_of s p ≡ Some m) where
      abbrev u : State K T F I
      u = with_handle_to (with_map s p d) m

      held_still : (o : ℕ) → has_handle s o ≡ true → has_handle u o ≡ true
      held_still o held = list_any-append (λ (h : Held). h.object == o) s.handles _ ∙ ap (λ b. b || ((m == o) || false)) held

      held_itself : (o : ℕ) → (m == o) ≡ true → has_handle u o ≡ true
      held_itself o same = list_any-append (λ (h : Held). h.object == o) s.handles _ ∙ ap (λ b. has_handle s o || (b || false)) same ∙ or_right (has_handle s o) true refl

      kept_still : (r : Row) → is_kept s r ≡ true → is_kept u r ≡ true
      kept_still r = imply_or (is_permanent s r.object) (is_permanent s r.object) _ _ (λ h. h) (held_still r.object)

      holds_still : (o : ℕ) (rows : List Row) → list_any (λ r. (r.directory == o) && is_kept s r) rows ≡ true → list_any (λ r. (r.directory == o) && is_kept u r) rows ≡ true
      holds_still o [] h = h
      holds_still o (r ∷ rs) h =
          imply_or ((r.directory == o) && is_kept s r) ((r.directory == o) && is_kept u r) (list_any (λ x. (x.directory == o) && is_kept s x) rs) (list_any (λ x. (x.directory == o) && is_kept u x) rs)
          (both (r.directory == o)) (holds_still o rs) h
        where
          both : (b : Bool) → (b && is_kept s r) ≡ true → (b && is_kept u r) ≡ true
          both true h = kept_still r h
          both false h = h

      itself_more : (o : ℕ) → is_alive_itself s o ≡ true → is_alive_itself u o ≡ true
      itself_more o alive = go (m == o) refl
        where
          go : (b : Bool) → (m == o) ≡ b → is_alive_itself u o ≡ true
          go true same =
              ap (λ b. (o == root_id) || b || is_pinned u o || is_mapped u o || (is_permanent u o && has_name u o) || holds_kept u o) (held_itself o same)
              ∙ ap (λ b. b || is_pinned u o || is_mapped u o || (is_permanent u o && has_name u o) || holds_kept u o) (or_right (o == root_id) true refl)
          go false other =
              imply_or ((o == root_id) || has_handle s o || is_pinned s o || is_mapped s o || (is_permanent s o && has_name s o))
              ((o == root_id) || has_handle u o || is_pinned s o || is_mapped u o || (is_permanent s o && has_name s o)) (holds_kept s o) (holds_kept u o)
              (imply_or ((o == root_id) || has_handle s o || is_pinned s o || is_mapped s o) ((o == root_id) || has_handle u o || is_pinned s o || is_mapped u o)
              (is_permanent s o && has_name s o) (is_permanent s o && has_name s o)
              (imply_or ((o == root_id) || has_handle s o || is_pinned s o) ((o == root_id) || has_handle u o || is_pinned s o) (is_mapped s o) (is_mapped u o)
              (imply_or ((o == root_id) || has_handle s o) ((o == root_id) || has_handle u o) (is_pinned s o) (is_pinned s o)
              (imply_or (o == root_id) (o == root_id) (has_handle s o) (has_handle u o) (λ h. h) (held_still o))
              (λ h. h))
              (mapped_still o (ap (λ (n : Option ℕ). option_map_or (λ x. x == o) n false) had ∙ other)))
              (λ h. h))
              (holds_still o s.rows) alive

      pub was_mapped : IsSettled u
      was_mapped = record {
        names = λ k e below. kept_still (get_or s.rows k e) (settled.names k e below);
        objects = λ k e below. alive_too s u (λ o keeps some. some) itself_more (get_or s.objects k e).id (settled.objects k e below);
      }

-- ---- the parts

-- the processes with another map are the state with it
pub stored_mapped : (K : Type 0) {T F I : Type 0} (a : Parts K T F I) (now : Running) (p d : ℕ) → now.processes ≡ map (with_own_map p (Some d)) a.processes.processes
    → now.handles ≡ a.processes.handles → state_of K (record a { processes = now }) ≡ with_map (state_of K a) p d
stored_mapped K a now p d processes handles = λ i. record (state_of K a) { processes = processes i; handles = handles i }

-- so they are of a state that these parts stand for
pub set_shown : (K : Type 0) {T F I : Type 0} (a : Parts K T F I) {s : State K T F I} → state_of K a ≡ s → (now : Running) (p d : ℕ)
    → now.processes ≡ map (with_own_map p (Some d)) a.processes.processes → now.handles ≡ a.processes.handles → state_of K (record a { processes = now }) ≡ with_map s p d
set_shown K a is now p d processes handles = stored_mapped K a now p d processes handles ∙ ap (λ (u : State _ _ _ _). with_map u p d) is

-- its processes have rising numbers, and a process the map that the parts have for it
pub rising_shown : {K T F I : Type 0} {s t : State K T F I} → s ≡ t → AllPairs (λ a b. a.number < b.number) s.processes → AllPairs (λ a b. a.number < b.number) t.processes
rising_shown is rising = subst (λ (u : State _ _ _ _). AllPairs (λ a b. a.number < b.number) u.processes) is rising

pub map_shown : {K T F I : Type 0} {s t : State K T F I} → s ≡ t → (p : ℕ) (m : Option ℕ) → map_of s p ≡ m → map_of t p ≡ m
map_shown is p m had = sym (ap (λ (u : State _ _ _ _). map_of u p) is) ∙ had

-- an object is a directory where it is found to be one
pub directory_found : {K T F I : Type 0} (s : State K T F I) (o : ℕ) → option_map_or (λ x. is_directory_body x.body) (object_of s o) false ≡ is_directory s o
directory_found {K} {T} {F} {I} s o = go (object_of s o)
  where
    go : (x : Option (Object F I)) → option_map_or (λ y. is_directory_body y.body) x false ≡ option_map_or is_directory_body (option_map (λ y. y.body) x) false
    go None = refl
    go (Some x) = refl

-- so it is with the objects of a state that is this one, as the parts of a namespace show it
pub directory_shown : {K T F I : Type 0} {s t : State K T F I} → s ≡ t → (o : ℕ) (b : Bool) → b ≡ option_map_or (λ x. is_directory_body x.body) (object_of s o) false → is_directory t o ≡ b
directory_shown {s} {t} is o b found = sym (directory_found t o) ∙ sym (found ∙ ap (λ (u : State _ _ _ _). option_map_or (λ x. is_directory_body x.body) (object_of u o) false) is)

-- ---- the step

module _ {K T F I : Type 0} (g : Procedures K T F I) (s t : State K T F I) (p handle : ℕ) (answer : Answer) (h : Held) (live : is_live s p ≡ true) (found : option_and_then (held_of s p) (key_of handle) ≡ Some h) where
  using_it : Unless ((not (is_directory s h.object), ObjectTypeMismatch) ∷ []) s answer t ((answer ≡ answers Success) × (t ≡ settle g (with_map s p h.object))) → SetsMap g s p handle answer t
  using_it done =
      is_done ((not (is_live s p), ProcessGone) ∷ []) s answer t _ (ap (λ (b : Bool). first_refusal ((not b, ProcessGone) ∷ [])) live)
      (subst (λ (o : Option Held). MatchOption o (IsRefused s InvalidHandle answer t)
      (λ x. Unless ((not (is_directory s x.object), ObjectTypeMismatch) ∷ []) s answer t ((answer ≡ answers Success) × (t ≡ settle g (with_map s p x.object))))) (sym found) done)

  -- a map is set
  pub sets_map : is_directory s h.object ≡ true → answer ≡ answers Success → t ≡ settle g (with_map s p h.object) → SetsMap g s p handle answer t
  sets_map is told left =
      using_it
      (is_done ((not (is_directory s h.object), ObjectTypeMismatch) ∷ []) s answer t ((answer ≡ answers Success) × (t ≡ settle g (with_map s p h.object)))
      (ap (λ (b : Bool). first_refusal ((not b, ObjectTypeMismatch) ∷ [])) is) (told, left))

  -- what isn't a directory is refused
  pub no_directory : is_directory s h.object ≡ false → answer ≡ answers ObjectTypeMismatch → t ≡ s → SetsMap g s p handle answer t
  no_directory isnt told same =
      using_it
      (subst (λ (b : Bool). Unless ((not b, ObjectTypeMismatch) ∷ []) s answer t ((answer ≡ answers Success) × (t ≡ settle g (with_map s p h.object)))) (sym isnt) (told, same))
