-- What stays as it is where a process sets its device map.
use Rattle.std.proofs.Common.{◌≡◌, ◌≢◌, ◌∙◌, ℕ, ◌+◌, ◌<◌, ◌==◌, Bool, true, false, ◌||◌, not, cond, if◌then◌else◌, List, [], ◌∷◌, map, find, get_or, Option, None, Some, option_map, MatchOption, is_some, refl, ap, sym, subst, arith, eq-eqb, eqb-true}
use Rattle.std.specs.Option.{option_and_then, option_map_or, option_or}
use Rattle.std.specs.List.{list_any}
use Rattle.std.proofs.lemmas.Bool.{false≢true, ne_eqb}
use Rattle.std.proofs.lemmas.List.Elements.{All-map, All-weaker}
use Rattle.std.proofs.lemmas.List.Folds.{find-append}
use Rattle.ob_base.specs.Handle.{key_of}
use Rattle.ob_base.specs.declared.status.Status.{Status}
use Rattle.ob_base.specs.declared.status.Status.TheVariants.{Success, InvalidHandle, ObjectTypeMismatch, ProcessGone}
use Rattle.ob_model.specs.declared.reply.Answer.{Answer}
use Rattle.ob_model.specs.declared.reply.Answer.TheVariants.{Done, Ticket}
use Rattle.ob_model.specs.declared.state.Held.{Held}
use Rattle.ob_model.specs.declared.state.Process.{Process}
use Rattle.ob_model.specs.State.{State, global_id, object_of, is_directory, is_live, process_of, held_of}
use Rattle.ob_model.specs.declared.terms.Reason.TheVariants.{Inherited}
use Rattle.ob_model.specs.Procedures.{Procedures}
use Rattle.ob_model.specs.Settle.{settle}
use Rattle.ob_model.specs.Grants.{open_refusal, with_open, with_handle}
use Rattle.ob_model.specs.Maps.{with_own_map, map_of, with_map}
use Rattle.ob_model.specs.Processes.{inherited_from, with_child, inherits_one, inherits, begun}
use Rattle.ob_model.specs.Refusals.{answers, IsRefused, Unless}
use Rattle.ob_model.specs.Step.{SetsMap}
use Rattle.ob_model.specs.Sound.{IsSound, IsDirectory, HasSoundMap}
use Rattle.ob_model.proofs.Finds.{find-map, find_none}
use Rattle.ob_model.proofs.SoundPaths.{find_of, of_some}
use Rattle.ob_model.proofs.Soundness.{with_processes_sound}
use Rattle.ob_model.proofs.Settled.{alive_from_map, object_of-settle}

-- a process keeps its number
own_number : (p : ℕ) (m : Option ℕ) (x : Process) → (with_own_map p m x).number ≡ x.number
own_number p m x = elim (x.number == p) as (λ b. (if b then record x { map = m } else x).number ≡ x.number) [ true ↦ refl | false ↦ refl ]

-- and is found under it
found_mapped : (p q : ℕ) (m : Option ℕ) (xs : List Process) → find (λ x. x.number == q) (map (with_own_map p m) xs) ≡ option_map (with_own_map p m) (find (λ x. x.number == q) xs)
found_mapped p q m xs = find-map (λ x. x.number == q) (with_own_map p m) (λ x. ap (λ n. n == q) (own_number p m x)) xs

-- every other process is as it was
found_other : (p q : ℕ) (m : Option ℕ) → (q == p) ≡ false → (xs : List Process) → find (λ x. x.number == q) (map (with_own_map p m) xs) ≡ find (λ x. x.number == q) xs
found_other p q m other [] = refl
found_other p q m other (x ∷ xs) = go (x.number == p) refl (found_other p q m other xs)
  where
    rest : List Process
    rest = map (with_own_map p m) xs

    go : (b : Bool) → (x.number == p) ≡ b → find (λ y. y.number == q) rest ≡ find (λ y. y.number == q) xs
        → find (λ y. y.number == q) ((if b then record x { map = m } else x) ∷ rest) ≡ find (λ y. y.number == q) (x ∷ xs)
    go true same more =
        let another : (x.number == q) ≡ false = ne_eqb x.number q (λ e. false≢true (sym other ∙ eq-eqb q p (sym e ∙ eqb-true x.number p same))) in
        ap (λ b. cond b (Some (record x { map = m })) (find (λ y. y.number == q) rest)) another ∙ more ∙ sym (ap (λ b. cond b (Some x) (find (λ y. y.number == q) xs)) another)
    go false differ more = ap (λ found. cond (x.number == q) (Some x) found) more

-- and the process itself has the map
found_own : (p d : ℕ) (xs : List Process) → is_some (find (λ x. x.number == p) xs) ≡ true → option_and_then (λ x. x.map) (find (λ x. x.number == p) (map (with_own_map p (Some d)) xs)) ≡ Some d
found_own p d [] live = cc
found_own p d (x ∷ xs) live = go (x.number == p) refl live (found_own p d xs)
  where
    rest : List Process
    rest = map (with_own_map p (Some d)) xs

    go : (b : Bool) → (x.number == p) ≡ b → is_some (cond b (Some x) (find (λ y. y.number == p) xs)) ≡ true
        → (is_some (find (λ y. y.number == p) xs) ≡ true → option_and_then (λ y. y.map) (find (λ y. y.number == p) rest) ≡ Some d)
        → option_and_then (λ y. y.map) (find (λ y. y.number == p) ((if b then record x { map = Some d } else x) ∷ rest)) ≡ Some d
    go true same live more = ap (λ b. option_and_then (λ (y : Process). y.map) (cond b (Some (record x { map = Some d })) (find (λ y. y.number == p) rest))) same
    go false differ live more = ap (λ b. option_and_then (λ (y : Process). y.map) (cond b (Some x) (find (λ y. y.number == p) rest))) differ ∙ more live

-- one of two tests passes
here : (b c : Bool) → b ≡ true → (b || c) ≡ true
here true c e = refl
here false c e = cc

later : (b c : Bool) → c ≡ true → (b || c) ≡ true
later true c e = refl
later false c e = e

-- a directory that a process has as its map is one that some process has
mapped_by : (q d : ℕ) (xs : List Process) → option_and_then (λ x. x.map) (find (λ x. x.number == q) xs) ≡ Some d → list_any (λ x. option_map_or (λ e. e == d) x.map false) xs ≡ true
mapped_by q d [] has = cc
mapped_by q d (x ∷ xs) has = go (x.number == q) has (mapped_by q d xs)
  where
    go : (b : Bool) → option_and_then (λ y. y.map) (cond b (Some x) (find (λ y. y.number == q) xs)) ≡ Some d
        → (option_and_then (λ y. y.map) (find (λ y. y.number == q) xs) ≡ Some d → list_any (λ y. option_map_or (λ e. e == d) y.map false) xs ≡ true)
        → list_any (λ y. option_map_or (λ e. e == d) y.map false) (x ∷ xs) ≡ true
    go true has more =
        here (option_map_or (λ e. e == d) x.map false) (list_any (λ y. option_map_or (λ e. e == d) y.map false) xs)
        (ap (λ (m : Option ℕ). option_map_or (λ e. e == d) m false) has ∙ eq-eqb d d refl)
    go false has more = later (option_map_or (λ e. e == d) x.map false) (list_any (λ y. option_map_or (λ e. e == d) y.map false) xs) (more has)

module _ {K T F I : Type 0} where
  -- who is live stays so
  live_mapped : (s : State K T F I) (p d q : ℕ) → is_live (with_map s p d) q ≡ is_live s q
  live_mapped s p d q = ap is_some (found_mapped p q (Some d) s.processes) ∙ go (process_of s q)
    where
      go : (found : Option Process) → is_some (option_map (with_own_map p (Some d)) found) ≡ is_some found
      go None = refl
      go (Some x) = refl

  -- the state stays sound where the map is a directory
  pub mapped_sound : (s : State K T F I) (p d : ℕ) → is_directory s d ≡ true → IsSound s → IsSound (with_map s p d)
  mapped_sound s p d directory sound =
      with_processes_sound s (map (with_own_map p (Some d)) s.processes) s.next_process
      (All-map (HasSoundMap s) (with_own_map p (Some d)) s.processes
      (All-weaker (HasSoundMap s) (λ x. HasSoundMap s (with_own_map p (Some d) x)) own_map s.processes sound.processes.maps))
      (All-map (λ x. x.number < s.next_process) (with_own_map p (Some d)) s.processes
      (All-weaker (λ x. x.number < s.next_process) (λ x. (with_own_map p (Some d) x).number < s.next_process)
      (λ x less. subst (λ (n : ℕ). n < s.next_process) (sym (own_number p (Some d) x)) less) s.processes sound.processes.numbered))
      (All-weaker (λ h. is_live s h.process ≡ true) (λ h. is_live (with_map s p d) h.process ≡ true) (λ h live. live_mapped s p d h.process ∙ live) s.handles sound.handles.live) sound
    where
      own_map : (x : Process) → HasSoundMap s x → HasSoundMap s (with_own_map p (Some d) x)
      own_map x has = elim (x.number == p) as (λ b. HasSoundMap s (if b then record x { map = Some d } else x)) [ true ↦ directory | false ↦ has ]

  -- a process's map directory is one, in a sound state
  pub map_is_directory : (s : State K T F I) (q d : ℕ) → IsSound s → map_of s q ≡ Some d → IsDirectory s d
  map_is_directory s q d sound has = go (process_of s q) (find_of (HasSoundMap s) (λ x. x.number == q) s.processes sound.processes.maps) has
    where
      go : (found : Option Process) → MatchOption found (Unit {0}) (HasSoundMap s) → option_and_then (λ x. x.map) found ≡ Some d → IsDirectory s d
      go None h has = cc
      go (Some x) h has = of_some (IsDirectory s) x.map d has h

  -- a child's map is its parent's
  child_map : (s : State K T F I) (p : ℕ) → IsSound s → map_of (with_child s p) s.next_process ≡ map_of s p
  child_map s p sound =
      ap (option_and_then (λ x. x.map))
      (find-append (λ (x : Process). x.number == s.next_process) s.processes (child ∷ [])
      ∙ ap (λ found. option_or found (find (λ x. x.number == s.next_process) (child ∷ [])))
      (find_none (λ x. x.number == s.next_process) s.processes
      (λ k d within. let less = sound.processes.numbered k d within in ne_eqb (get_or s.processes k d).number s.next_process (λ same. omega (arith, less, same)))))
      ∙ ap (λ b. option_and_then (λ (x : Process). x.map) (cond b (Some child) None)) (eq-eqb s.next_process s.next_process refl)
    where
      child : Process
      child = record { number = s.next_process; map = map_of s p }

-- the status of an answer
abbrev status_of : Answer → Status
status_of (Done reply) = reply.status
status_of (Ticket number) = Success

module _ {K T F I : Type 0} (g : Procedures K T F I) where
  -- what is inherited leaves the processes
  inherits_processes : (s : State K T F I) (child : ℕ) (hs : List Held) → (inherits g s child hs).processes ≡ s.processes
  inherits_processes s child [] = refl
  inherits_processes s child (h ∷ hs) = inherits_processes (inherits_one g s child h) child hs ∙ go (open_refusal g s h.object Inherited)
    where
      go : (o : Option ℕ) → (option_map_or (λ _. record s { next_order = s.next_order + 1 }) o (with_handle (with_open g s h.object Inherited) child h.value h.object true)).processes ≡ s.processes
      go None = refl
      go (Some k) = refl

  pub begun_map : (s : State K T F I) (p : ℕ) (inherit : Bool) → IsSound s → map_of (begun g s p inherit) s.next_process ≡ map_of s p
  begun_map s p inherit sound =
      ap (λ (xs : List Process). option_and_then (λ x. x.map) (find (λ x. x.number == s.next_process) xs)) (inherits_processes (with_child s p) s.next_process (inherited_from s p inherit))
      ∙ child_map s p sound

  -- the directory of a live process's map stays
  pub mapped_stays : (s : State K T F I) (q d : ℕ) → map_of s q ≡ Some d → object_of (settle g s) d ≡ object_of s d
  mapped_stays s q d has =
      object_of-settle g s d (alive_from_map s d (later (d == global_id) (list_any (λ x. option_map_or (λ e. e == d) x.map false) s.processes) (mapped_by q d s.processes has)))

  -- every other process is as it was after the step
  pub others_mapped : (s t : State K T F I) (p handle : ℕ) (answer : Answer) (q : ℕ) → q ≢ p → SetsMap g s p handle answer t → process_of t q ≡ process_of s q
  others_mapped s t p handle answer q other h = live (is_live s p) h
    where
      Sets : Held → Type 0
      Sets x = Unless ((not (is_directory s x.object), ObjectTypeMismatch) ∷ []) s answer t ((answer ≡ answers Success) × (t ≡ settle g (with_map s p x.object)))

      same : {status : Status} → IsRefused s status answer t → process_of t q ≡ process_of s q
      same refused = ap (λ u. process_of u q) refused.1

      set : (x : Held) (b : Bool) → Unless ((not b, ObjectTypeMismatch) ∷ []) s answer t ((answer ≡ answers Success) × (t ≡ settle g (with_map s p x.object))) → process_of t q ≡ process_of s q
      set x true h = ap (λ u. process_of u q) h.1 ∙ found_other p q (Some x.object) (ne_eqb q p other) s.processes
      set x false h = same h

      found : (o : Option Held) → MatchOption o (IsRefused s InvalidHandle answer t) Sets → process_of t q ≡ process_of s q
      found None h = same h
      found (Some x) h = set x (is_directory s x.object) h

      live : (b : Bool) → Unless ((not b, ProcessGone) ∷ []) s answer t (MatchOption (option_and_then (held_of s p) (key_of handle)) (IsRefused s InvalidHandle answer t) Sets)
          → process_of t q ≡ process_of s q
      live true h = found (option_and_then (held_of s p) (key_of handle)) h
      live false h = same h

  -- and the process has the directory of its handle where the step succeeds
  pub map_is_set : (s t : State K T F I) (p handle : ℕ) → SetsMap g s p handle (answers Success) t
      → (h : Held) × (option_and_then (held_of s p) (key_of handle) ≡ Some h) × (is_directory s h.object ≡ true) × (map_of t p ≡ Some h.object)
  map_is_set s t p handle h = live (is_live s p) refl h
    where
      Sets : Held → Type 0
      Sets x = Unless ((not (is_directory s x.object), ObjectTypeMismatch) ∷ []) s (answers Success) t ((answers Success ≡ answers Success) × (t ≡ settle g (with_map s p x.object)))

      Result : Type 0
      Result = (h : Held) × (option_and_then (held_of s p) (key_of handle) ≡ Some h) × (is_directory s h.object ≡ true) × (map_of t p ≡ Some h.object)

      set : (x : Held) (b : Bool) → option_and_then (held_of s p) (key_of handle) ≡ Some x → is_live s p ≡ true → is_directory s x.object ≡ b
          → Unless ((not b, ObjectTypeMismatch) ∷ []) s (answers Success) t ((answers Success ≡ answers Success) × (t ≡ settle g (with_map s p x.object))) → Result
      set x true is lives directory h = (x, is, directory, ap (λ u. map_of u p) h.1 ∙ found_own p x.object s.processes lives)
      set x false is lives directory h = absurd (let e : Success ≡ ObjectTypeMismatch = ap status_of h.0 in cc)

      found : (o : Option Held) → option_and_then (held_of s p) (key_of handle) ≡ o → is_live s p ≡ true → MatchOption o (IsRefused s InvalidHandle (answers Success) t) Sets → Result
      found None is lives h = absurd (let e : Success ≡ InvalidHandle = ap status_of h.0 in cc)
      found (Some x) is lives h = set x (is_directory s x.object) is lives refl h

      live : (b : Bool) → is_live s p ≡ b
          → Unless ((not b, ProcessGone) ∷ []) s (answers Success) t (MatchOption (option_and_then (held_of s p) (key_of handle)) (IsRefused s InvalidHandle (answers Success) t) Sets) → Result
      live true lives h = found (option_and_then (held_of s p) (key_of handle)) refl lives h
      live false lives h = absurd (let e : Success ≡ ProcessGone = ap status_of h.0 in cc)
