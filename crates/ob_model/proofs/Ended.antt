-- A process that begins or ends, or is given a handle, leaves a sound state; and one that has ended holds
-- nothing and is gone.
use Rattle.std.proofs.Common.{◌≡◌, ◌∙◌, ℕ, ◌==◌, Bool, true, false, ◌&&◌, ◌||◌, not, cond, List, [], ◌∷◌, ◌++◌, filter, map, get_or, find, Option, None, Some, MatchOption, All, refl, ap, sym, subst}
use Rattle.std.proofs.Common.{eq-eqb, eqb-true, suc, ◌+◌, ◌<◌, arith}
use Rattle.std.specs.Prelude.{AllPairs}
use Rattle.std.proofs.lemmas.Bool.{ne_eqb}
use Rattle.std.proofs.lemmas.List.Kept.{AllPairs-filter}
use Rattle.std.specs.List.{list_any}
use Rattle.std.specs.Option.{option_and_then, option_or, option_map_or, is_some}
use Rattle.std.proofs.lemmas.List.Folds.{find-append, list_any_at}
use Rattle.std.proofs.lemmas.List.{append-nil, append_assoc, map-append}
use Rattle.std.proofs.lemmas.List.Elements.{filter-append, All-head, All-tail, All-push, All-filter, All-weaker, filter_passes}
use Rattle.ob_base.specs.declared.status.Status.TheVariants.{Success, InvalidHandle, ProcessGone}
use Rattle.ob_base.specs.Handle.{key_of}
use Rattle.ob_model.specs.declared.reply.Answer.{Answer}
use Rattle.ob_model.specs.declared.state.Held.{Held}
use Rattle.ob_model.specs.declared.state.Process.{Process}
use Rattle.ob_model.specs.State.{State, is_live, process_of, held_of}
use Rattle.ob_model.specs.declared.terms.Reason.TheVariants.{Duplicated, Inherited}
use Rattle.ob_model.specs.Procedures.{Procedures}
use Rattle.ob_model.specs.Grants.{first_refusal, open_refusal, with_open, with_handle}
use Rattle.ob_model.specs.Closing.{is_handle, closed_handle}
use Rattle.ob_model.specs.Refusals.{IsRefused}
use Rattle.ob_model.specs.Opens.{GivesHandle}
use Rattle.ob_model.specs.Processes.{handles_in, inherited_from, with_child, without_process, inherits_one, inherits, accepted, begun, closed_in_turn, ended, Duplicates}
use Rattle.ob_model.specs.Laws.{without_order, handed_on}
use Rattle.ob_model.specs.Sound.{IsSound, Stands, HasSoundMap, IsDirectory}
use Rattle.ob_model.proofs.Finds.{find-filter, All-kept, filter_none}
use Rattle.ob_model.proofs.Finds.{find_none}
use Rattle.ob_model.proofs.SoundPaths.{find_of}
use Rattle.ob_model.proofs.Soundness.{with_processes_sound, granted_sound, gives_handle_sound, closed_sound, stands-opened}

-- a test of what another test leaves
pub any_filter : {X : Type 0} (kept test : X → Bool) (xs : List X) → list_any (λ x. kept x && test x) xs ≡ true → list_any test (filter kept xs) ≡ true
any_filter kept test [] some = some
any_filter {X} kept test (x ∷ xs) some = go (kept x) some (any_filter kept test xs)
  where
    go : (k : Bool) → ((k && test x) || list_any (λ y. kept y && test y) xs) ≡ true → (list_any (λ y. kept y && test y) xs ≡ true → list_any test (filter kept xs) ≡ true)
        → list_any test (cond k (x ∷ filter kept xs) (filter kept xs)) ≡ true
    go true some more = first (test x) some
      where
        first : (t : Bool) → (t || list_any (λ y. kept y && test y) xs) ≡ true → (t || list_any test (filter kept xs)) ≡ true
        first true some = refl
        first false some = more some
    go false some more = more some

-- nothing is found where it was taken out
nothing_found : {X : Type 0} (test : X → Bool) (xs : List X) → find test (filter (λ x. not (test x)) xs) ≡ None
nothing_found test [] = refl
nothing_found {X} test (x ∷ xs) = go (test x) refl (nothing_found test xs)
  where
    go : (b : Bool) → test x ≡ b → find test (filter (λ y. not (test y)) xs) ≡ None → find test (cond (not b) (x ∷ filter (λ y. not (test y)) xs) (filter (λ y. not (test y)) xs)) ≡ None
    go true same more = more
    go false other more = ap (λ t. cond t (Some x) (find test (filter (λ y. not (test y)) xs))) other ∙ more

-- who is live was numbered
pub live_numbered : (xs : List Process) (n q : ℕ) → All (λ x. x.number < n) xs → is_some (find (λ x. x.number == q) xs) ≡ true → q < n
live_numbered [] n q all h = cc
live_numbered (x ∷ xs) n q all h = go (x.number == q) refl h (live_numbered xs n q (All-tail (λ y. y.number < n) x xs all))
  where
    go : (b : Bool) → (x.number == q) ≡ b → is_some (cond b (Some x) (find (λ y. y.number == q) xs)) ≡ true → (is_some (find (λ y. y.number == q) xs) ≡ true → q < n) → q < n
    go true e h rest = subst (λ (i : ℕ). i < n) (eqb-true x.number q e) (All-head (λ y. y.number < n) x xs all)
    go false e h rest = rest h

-- of one process's handles that differ the values do
values_differ : (p : ℕ) (a b : Held) → is_handle a.process a.value b ≡ false → (a.process == p) ≡ true → (b.process == p) ≡ true → (a.value == b.value) ≡ false
values_differ p a b differ first second = go (a.value == b.value) refl
  where
    go : (t : Bool) → (a.value == b.value) ≡ t → t ≡ false
    go true e =
        let owned : (b.process == a.process) ≡ true = eq-eqb b.process a.process (eqb-true b.process p second ∙ sym (eqb-true a.process p first)) in
        let valued : (b.value == a.value) ≡ true = eq-eqb b.value a.value (sym (eqb-true a.value b.value e)) in
        cc
    go false e = refl

module _ {K T F I : Type 0} where
  -- a process that is live stays so beside a child, and the child is live
  live_with_child : (s : State K T F I) (p q : ℕ) → is_live s q ≡ true → is_live (with_child s p) q ≡ true
  live_with_child s p q live =
      ap is_some (find-append (λ (x : Process). x.number == q) s.processes (record { number = s.next_process; map = option_and_then (λ x. x.map) (process_of s p) } ∷ []))
      ∙ go (process_of s q) live
    where
      go : (o : Option Process) → is_some o ≡ true → is_some (option_or o (find (λ (x : Process). x.number == q) (record { number = s.next_process; map = option_and_then (λ x. x.map) (process_of s p) } ∷ []))) ≡ true
      go None live = cc
      go (Some x) live = refl

  child_is_live : (s : State K T F I) (p : ℕ) → is_live (with_child s p) s.next_process ≡ true
  child_is_live s p =
      ap is_some (find-append (λ (x : Process). x.number == s.next_process) s.processes (child ∷ [])) ∙ go (process_of s s.next_process) (eq-eqb s.next_process s.next_process refl)
    where
      child : Process
      child = record { number = s.next_process; map = option_and_then (λ x. x.map) (process_of s p) }

      go : (o : Option Process) → (s.next_process == s.next_process) ≡ true → is_some (option_or o (cond (s.next_process == s.next_process) (Some child) None)) ≡ true
      go None e = ap (λ (b : Bool). is_some (cond b (Some child) None)) e
      go (Some x) e = refl

  -- nobody has a handle under the next number
  child_is_empty : (s : State K T F I) (value : ℕ) → IsSound s → held_of s s.next_process value ≡ None
  child_is_empty s value sound =
      find_none (λ h. h.process == s.next_process && h.value == value) s.handles
      (λ k d within.
      let less = live_numbered s.processes s.next_process (get_or s.handles k d).process sound.processes.numbered (sound.handles.live k d within) in
      ap (λ (b : Bool). b && ((get_or s.handles k d).value == value)) (ne_eqb (get_or s.handles k d).process s.next_process (λ same. omega (arith, less, same))))

  -- a child's map is its parent's
  child_sound : (s : State K T F I) (p : ℕ) → IsSound s → IsSound (with_child s p)
  child_sound s p sound =
      with_processes_sound s (with_child s p).processes (s.next_process + 1)
      (All-push (HasSoundMap s) s.processes (record { number = s.next_process; map = option_and_then (λ x. x.map) (process_of s p) }) sound.processes.maps
      (go (process_of s p) (find_of (HasSoundMap s) (λ x. x.number == p) s.processes sound.processes.maps)))
      (All-push (λ x. x.number < s.next_process + 1) s.processes _
      (All-weaker (λ x. x.number < s.next_process) (λ x. x.number < s.next_process + 1) (λ x less. omega (arith, less)) s.processes sound.processes.numbered) (omega arith))
      (All-weaker (λ h. is_live s h.process ≡ true) (λ h. is_live (with_child s p) h.process ≡ true) (λ h live. live_with_child s p h.process live) s.handles sound.handles.live) sound
    where
      go : (o : Option Process) → MatchOption o (Unit {0}) (HasSoundMap s) → MatchOption (option_and_then (λ x. x.map) o) (Unit {0}) (IsDirectory s)
      go None h = tt
      go (Some x) h = h

  -- an order that is drawn for no handle changes nothing else
  order_drawn_sound : (s : State K T F I) → IsSound s → IsSound (record s { next_order = s.next_order + 1 })
  order_drawn_sound s sound = record { objects = sound.objects; processes = sound.processes; rows = sound.rows; handles = sound.handles; pending = sound.pending }

  -- the state without a process that has no handle is sound
  parted_sound : (s : State K T F I) (p : ℕ) → IsSound s → All (λ h. (h.process == p) ≡ false) s.handles → IsSound (without_process s p)
  parted_sound s p sound apart =
      with_processes_sound s (filter (λ x. not (x.number == p)) s.processes) s.next_process (All-filter (λ x. not (x.number == p)) (HasSoundMap s) s.processes sound.processes.maps)
      (All-filter (λ x. not (x.number == p)) (λ x. x.number < s.next_process) s.processes sound.processes.numbered)
      (λ k d within. stays (get_or s.handles k d).process (apart k d within) (sound.handles.live k d within)) sound
    where
      stays : (q : ℕ) → (q == p) ≡ false → is_live s q ≡ true → is_live (without_process s p) q ≡ true
      stays q other live =
          ap is_some (find-filter (λ (x : Process). x.number == q) (λ x. not (x.number == p)) (λ x e. ap (λ (n : ℕ). not (n == p)) (eqb-true x.number q e) ∙ ap not other) s.processes) ∙ live

module _ {K T F I : Type 0} (g : Procedures K T F I) where
  -- what stands goes on to stand when a handle is inherited, and who is live goes on to live
  inherits_one_sound : (s : State K T F I) (child : ℕ) (h : Held)
      → IsSound s → is_live s child ≡ true → held_of s child h.value ≡ None → Stands s h.object → IsSound (inherits_one g s child h)
  inherits_one_sound s child h sound live free stands = go (open_refusal g s h.object Inherited)
    where
      go : (o : Option ℕ) → IsSound (option_map_or (λ _. record s { next_order = s.next_order + 1 }) o (with_handle (with_open g s h.object Inherited) child h.value h.object true))
      go None = granted_sound g s child h.value h.object Inherited true sound live free stands
      go (Some k) = order_drawn_sound s sound

  -- and another value is as unused as it was
  inherits_one_free : (s : State K T F I) (child : ℕ) (h : Held) (value : ℕ)
      → (h.value == value) ≡ false → held_of s child value ≡ None → held_of (inherits_one g s child h) child value ≡ None
  inherits_one_free s child h value other free = go (open_refusal g s h.object Inherited)
    where
      new : Held
      new = record { process = child; value = h.value; object = h.object; inherit = true; order = s.next_order }

      neither : (a b : Bool) → b ≡ false → (a && b) ≡ false
      neither true b e = e
      neither false b e = refl

      go : (o : Option ℕ) → held_of (option_map_or (λ _. record s { next_order = s.next_order + 1 }) o (with_handle (with_open g s h.object Inherited) child h.value h.object true)) child value ≡ None
      go None =
          find-append (λ (x : Held). x.process == child && x.value == value) s.handles (new ∷ [])
          ∙ ap (λ (o : Option Held). option_or o (find (λ (x : Held). x.process == child && x.value == value) (new ∷ []))) free
          ∙ ap (λ (b : Bool). cond b (Some new) None) (neither (child == child) (h.value == value) other)
      go (Some k) = free

  inherits_one_stands : (s : State K T F I) (child : ℕ) (h : Held) (m : ℕ) → Stands s m → Stands (inherits_one g s child h) m
  inherits_one_stands s child h m stands = go (open_refusal g s h.object Inherited)
    where
      go : (o : Option ℕ) → Stands (option_map_or (λ _. record s { next_order = s.next_order + 1 }) o (with_handle (with_open g s h.object Inherited) child h.value h.object true)) m
      go None = stands-opened g s h.object m Inherited ∙ stands
      go (Some k) = stands

  inherits_one_live : (s : State K T F I) (child : ℕ) (h : Held) (q : ℕ) → is_live s q ≡ true → is_live (inherits_one g s child h) q ≡ true
  inherits_one_live s child h q live = go (open_refusal g s h.object Inherited)
    where
      go : (o : Option ℕ) → is_live (option_map_or (λ _. record s { next_order = s.next_order + 1 }) o (with_handle (with_open g s h.object Inherited) child h.value h.object true)) q ≡ true
      go None = live
      go (Some k) = live

  inherits_sound : (s : State K T F I) (child : ℕ) (hs : List Held)
      → IsSound s → is_live s child ≡ true → All (λ h. Stands s h.object) hs → All (λ h. held_of s child h.value ≡ None) hs → AllPairs (λ a b. (a.value == b.value) ≡ false) hs
      → IsSound (inherits g s child hs)
  inherits_sound s child [] sound live stand free differ = sound
  inherits_sound s child (h ∷ hs) sound live stand free differ =
      inherits_sound (inherits_one g s child h) child hs
      (inherits_one_sound s child h sound live (All-head (λ x. held_of s child x.value ≡ None) h hs free) (All-head (λ x. Stands s x.object) h hs stand)) (inherits_one_live s child h child live)
      (All-weaker (λ x. Stands s x.object) (λ x. Stands (inherits_one g s child h) x.object) (λ x there. inherits_one_stands s child h x.object there) hs
      (All-tail (λ x. Stands s x.object) h hs stand))
      (λ k d within. inherits_one_free s child h (get_or hs k d).value (differ 0 (suc k) d (omega arith) (omega (arith, within))) (All-tail (λ x. held_of s child x.value ≡ None) h hs free k d within))
      (λ i j d less within. differ (suc i) (suc j) d (omega (arith, less)) (omega (arith, within)))

  pub begun_sound : (s : State K T F I) (p : ℕ) (inherit : Bool) → IsSound s → IsSound (begun g s p inherit)
  begun_sound s p inherit sound =
      inherits_sound (with_child s p) s.next_process (inherited_from s p inherit) (child_sound s p sound) (child_is_live s p)
      (All-filter (λ h. h.inherit && inherit) (λ h. Stands s h.object) (handles_in s p) (All-filter (λ h. h.process == p) (λ h. Stands s h.object) s.handles sound.handles.standing))
      (λ k d within. child_is_empty s (get_or (inherited_from s p inherit) k d).value sound)
      (λ i j d less within.
      values_differ p (get_or (inherited_from s p inherit) i d) (get_or (inherited_from s p inherit) j d) (pairs i j d less within) (own i d (omega (arith, less, within))) (own j d within))
    where
      pairs : AllPairs (λ a b. is_handle a.process a.value b ≡ false) (inherited_from s p inherit)
      pairs =
          AllPairs-filter (λ a b. is_handle a.process a.value b ≡ false) (λ h. h.inherit && inherit) (handles_in s p)
          (AllPairs-filter (λ a b. is_handle a.process a.value b ≡ false) (λ h. h.process == p) s.handles sound.handles.distinct)

      own : All (λ h. (h.process == p) ≡ true) (inherited_from s p inherit)
      own = All-filter (λ h. h.inherit && inherit) (λ h. (h.process == p) ≡ true) (handles_in s p) (filter_passes (λ h. h.process == p) s.handles)

  closed_in_turn_sound : (s : State K T F I) (hs : List Held) → IsSound s → IsSound (closed_in_turn g s hs)
  closed_in_turn_sound s [] sound = sound
  closed_in_turn_sound s (h ∷ hs) sound = closed_in_turn_sound (closed_handle g s h) hs (closed_sound g s h sound)

  -- a duplicate leaves a sound state
  pub duplicates_sound : (s t : State K T F I) (p handle to : ℕ) (inherit : Bool) (answer : Answer) → IsSound s → Duplicates g s p handle to inherit answer t → IsSound t
  duplicates_sound s t p handle to inherit answer sound h = judged (is_live s p) (is_live s to) refl h
    where
      Does : Held → Type 0
      Does x = GivesHandle g s to x.object (record { inherit = inherit; exclusive = false }) Duplicated Success answer t

      granted : is_live s to ≡ true → (x : Held) → Stands s x.object → Does x → IsSound t
      granted live x stands does =
          gives_handle_sound g s t does.1 to x.object (record { inherit = inherit; exclusive = false }) Duplicated Success answer does.0 sound live stands does.2 does.3

      found : is_live s to ≡ true → (key : Option ℕ) → MatchOption (option_and_then (held_of s p) key) (IsRefused s InvalidHandle answer t) Does → IsSound t
      found live None h = subst IsSound (sym h.1) sound
      found live (Some key) h = go (held_of s p key) (find_of (λ x. Stands s x.object) (λ x. x.process == p && x.value == key) s.handles sound.handles.standing) h
        where
          go : (o : Option Held) → MatchOption o (Unit {0}) (λ x. Stands s x.object) → MatchOption o (IsRefused s InvalidHandle answer t) Does → IsSound t
          go None there h = subst IsSound (sym h.1) sound
          go (Some x) there h = granted live x there h

      judged : (from into : Bool) → is_live s to ≡ into
          → MatchOption (first_refusal ((not from, ProcessGone) ∷ (not into, ProcessGone) ∷ [])) (MatchOption (option_and_then (held_of s p) (key_of handle)) (IsRefused s InvalidHandle answer t) Does) (λ status. IsRefused s status answer t)
          → IsSound t
      judged false into e h = subst IsSound (sym h.1) sound
      judged true false e h = subst IsSound (sym h.1) sound
      judged true true e h = found e (key_of handle) h

  -- ---- one that has ended holds nothing, and is gone

  -- a handle of a process is among some, by its value
  abbrev Covered : ℕ → List Held → Held → Type 0
  Covered p hs x = (x.process == p) ≡ true → list_any (λ h. is_handle h.process h.value x) hs ≡ true

  -- where all of a process are among those that are closed, none of it is left
  none_left : (s : State K T F I) (p : ℕ) (hs : List Held) → All (Covered p hs) s.handles → All (λ x. (x.process == p) ≡ false) (closed_in_turn g s hs).handles
  none_left s p [] covered = All-weaker (Covered p []) (λ x. (x.process == p) ≡ false) (λ x none. go (x.process == p) none) s.handles covered
    where
      go : (b : Bool) → (b ≡ true → false ≡ true) → b ≡ false
      go true none = sym (none refl)
      go false none = refl
  none_left s p (h ∷ hs) covered =
      none_left (closed_handle g s h) p hs
      (All-kept (λ x. not (is_handle h.process h.value x)) (Covered p (h ∷ hs)) (Covered p hs) (λ x kept one own. go (is_handle h.process h.value x) kept _ (one own)) s.handles covered)
    where
      go : (b : Bool) → not b ≡ true → (rest : Bool) → (b || rest) ≡ true → rest ≡ true
      go true kept rest some = cc
      go false kept rest some = some

  ended_apart : (s : State K T F I) (p : ℕ) → All (λ x. (x.process == p) ≡ false) (ended g s p).handles
  ended_apart s p = none_left s p (handles_in s p) (λ k d within own.
      let x : Held = get_or s.handles k d in
      any_filter (λ h. h.process == p) (λ h. is_handle h.process h.value x) s.handles
      (list_any_at (λ h. (h.process == p) && is_handle h.process h.value x) s.handles k d within (itself x own)))
    where
      itself : (x : Held) → (x.process == p) ≡ true → ((x.process == p) && is_handle x.process x.value x) ≡ true
      itself x own = ap (λ b. b && is_handle x.process x.value x) own ∙ ap (λ b. b && (x.value == x.value)) (eq-eqb x.process x.process refl) ∙ eq-eqb x.value x.value refl

  pub ended_sound : (s : State K T F I) (p : ℕ) → IsSound s → IsSound (ended g s p)
  ended_sound s p sound = parted_sound (closed_in_turn g s (handles_in s p)) p (closed_in_turn_sound s (handles_in s p) sound) (ended_apart s p)

  pub ended_holds_nothing : (s : State K T F I) (p : ℕ) → handles_in (ended g s p) p ≡ []
  ended_holds_nothing s p = filter_none (λ h. h.process == p) (ended g s p).handles (ended_apart s p)

  pub ended_is_gone : (s : State K T F I) (p : ℕ) → is_live (ended g s p) p ≡ false
  ended_is_gone s p = ap is_some (nothing_found (λ x. x.number == p) (closed_in_turn g s (handles_in s p)).processes)

  -- a child that inherits nothing begins without a handle
  pub begun_empty : (s : State K T F I) (p : ℕ) → (begun g s p false).handles ≡ s.handles
  begun_empty s p =
      ap (λ hs. (inherits g (with_child s p) s.next_process hs).handles) (filter_none (λ h. h.inherit && false) (handles_in s p) (λ k d within. neither (get_or (handles_in s p) k d).inherit))
    where
      neither : (b : Bool) → (b && false) ≡ false
      neither true = refl
      neither false = refl

  -- ---- a child has the handles that it inherits and no others

  inherits_holds : (s : State K T F I) (child : ℕ) (hs : List Held)
      → map without_order (handles_in (inherits g s child hs) child) ≡ map without_order (handles_in s child) ++ map handed_on (accepted g s child hs)
  inherits_holds s child [] = sym (append-nil (map without_order (handles_in s child)))
  inherits_holds s child (h ∷ hs) = inherits_holds (inherits_one g s child h) child hs ∙ go (open_refusal g s h.object Inherited) (accepted g (inherits_one g s child h) child hs)
    where
      new : Held
      new = record { process = child; value = h.value; object = h.object; inherit = true; order = s.next_order }

      mine : filter (λ (x : Held). x.process == child) (new ∷ []) ≡ new ∷ []
      mine = ap (λ (b : Bool). cond b (new ∷ []) []) (eq-eqb child child refl)

      one_more : map without_order (handles_in (with_handle (with_open g s h.object Inherited) child h.value h.object true) child) ≡ map without_order (handles_in s child) ++ handed_on h ∷ []
      one_more =
          ap (map without_order) (filter-append (λ (x : Held). x.process == child) s.handles (new ∷ []) ∙ ap (λ (xs : List Held). handles_in s child ++ xs) mine)
          ∙ map-append without_order (handles_in s child) (new ∷ [])

      go : (o : Option ℕ) (later : List Held)
          → map without_order (handles_in (option_map_or (λ _. record s { next_order = s.next_order + 1 }) o (with_handle (with_open g s h.object Inherited) child h.value h.object true)) child) ++ map handed_on later
          ≡ map without_order (handles_in s child) ++ map handed_on (option_map_or (λ _. later) o (h ∷ later))
      go None later = ap (λ xs. xs ++ map handed_on later) one_more ∙ append_assoc (map without_order (handles_in s child)) (handed_on h ∷ []) (map handed_on later)
      go (Some k) later = refl

  pub begun_holds : (s : State K T F I) (p : ℕ) (inherit : Bool) → IsSound s
      → map without_order (handles_in (begun g s p inherit) s.next_process) ≡ map handed_on (accepted g (with_child s p) s.next_process (inherited_from s p inherit))
  begun_holds s p inherit sound =
      inherits_holds (with_child s p) s.next_process (inherited_from s p inherit)
      ∙ ap (λ hs. map without_order hs ++ map handed_on (accepted g (with_child s p) s.next_process (inherited_from s p inherit)))
      (filter_none (λ h. h.process == s.next_process) s.handles
      (λ k d within.
      let less = live_numbered s.processes s.next_process (get_or s.handles k d).process sound.processes.numbered (sound.handles.live k d within) in
      ne_eqb (get_or s.handles k d).process s.next_process (λ same. omega (arith, less, same))))
