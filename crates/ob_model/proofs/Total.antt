-- In a sound state every event has an answer.
use Rattle.std.proofs.Common.{◌≡◌, ◌≢◌, ℕ, zero, suc, ◌<◌, ◌==◌, nat_le, nat_lt, Bool, true, false, ◌&&◌, ◌||◌, not, cond, List, [], ◌∷◌, find, Option, None, Some, Ok, Err, MatchOption, All, refl, subst, arith, eqb-true, eq-eqb, inl, inr, ◌⊎◌}
use Rattle.std.specs.Prelude.{MatchBool}
use Rattle.std.specs.Option.{option_and_then, option_map, option_or, is_some}
use Rattle.std.proofs.lemmas.List.Elements.{All-head, All-tail}
use Rattle.std.proofs.lemmas.Bool.Decides.{nat_tests}
use Rattle.ob_base.specs.declared.status.Status.{Status}
use Rattle.ob_base.specs.declared.status.Status.TheVariants.{NoMemory, Success, InvalidHandle, InvalidParameter, AccessDenied, InsufficientResources, ObjectTypeMismatch, ObjectNameExists, ObjectNameCollision, ProcessGone, TypeRefused}
use Rattle.ob_base.specs.Attrs.{has_flag, open_if_flag}
use Rattle.ob_base.specs.Handle.{key_of}
use Rattle.ob_model.specs.declared.command.Place.{Place}
use Rattle.ob_model.specs.declared.command.Place.TheVariants as place
use Rattle.ob_model.specs.declared.command.Command.TheVariants.{CreateDirectory, CreateShadowed, CreateLink, CreateObject, OpenDirectory, OpenLink, OpenObject, Close, QueryLink, QueryName, QueryDirectory, Duplicate, MakeTemporary, MakePermanent, SetDeviceMap, NewProcess, ExitProcess}
use Rattle.ob_model.specs.declared.command.Command.{Command}
use Rattle.ob_model.specs.declared.reply.Answer.{Answer}
use Rattle.ob_model.specs.declared.reply.Answer.TheVariants.{Ticket}
use Rattle.ob_model.specs.declared.reply.ParseRun.{ParseRun}
use Rattle.ob_model.specs.declared.reply.ParseRun.TheVariants as run
use Rattle.ob_model.specs.declared.state.PendingOpen.{PendingOpen}
use Rattle.ob_model.specs.declared.reply.Event.{Event}
use Rattle.ob_model.specs.declared.reply.Event.TheVariants.{Start, Resume, Abandon}
use Rattle.ob_model.specs.declared.reply.Given.TheVariants.{Handle, Text, Process}
use Rattle.ob_model.specs.declared.state.Held.{Held}
use Rattle.ob_model.specs.declared.state.Row.{Row}
use Rattle.ob_model.specs.declared.state.Wanted.{Wanted}
use Rattle.ob_model.specs.declared.state.Wanted.TheVariants as wanted
use Rattle.ob_model.specs.State.{State, root_id, is_live, is_store_full, held_of, body_of, table_size, most_handles, greatest_number, is_directory}
use Rattle.ob_model.specs.Looks.{Look, At, Vacant, Parse, Refused, LooksUp, most_reparses}
use Rattle.ob_model.specs.declared.terms.Reason.{Reason}
use Rattle.ob_model.specs.declared.terms.Reason.TheVariants.{Opened, Created, Duplicated}
use Rattle.ob_model.specs.Procedures.{Procedures, ParseOutcome, EndsItself, EndsMade, EndsReparse, EndsRefused}
use Rattle.ob_model.specs.Settle.{settle}
use Rattle.ob_model.specs.declared.terms.GrantOptions.{GrantOptions}
use Rattle.ob_model.specs.Grants.{first_refusal, IsFreeValue, is_table_full, is_exclusive, has_other_holder, grant_refusal, open_refusal, open_refusal_of, with_open, with_handle}
use Rattle.ob_model.specs.Closing.{closed_handle}
use Rattle.ob_model.specs.Permanence.{turned}
use Rattle.ob_model.specs.Maps.{with_map}
use Rattle.ob_model.specs.Types.{is_wanted_at}
use Rattle.ob_model.specs.Refusals.{gives, answers, IsRefused, Unless, create_refusals, open_refusals}
use Rattle.ob_model.specs.PendingOpens.{pending_of, with_pending}
use Rattle.ob_model.specs.Parses.{parsed_state, IsParsed, IsBrought, EndsOpen, Resumes, Abandons}
use Rattle.ob_model.specs.Opens.{GivesHandle, OpensAt, Begins, Opens, options_by, type_wanted, open_mode}
use Rattle.ob_model.specs.Creates.{Making, MakesDirectory, MakesLink, MakesObject, is_fit, create_mode, type_made, Spot, is_stampless, room_refusals, make_refusal, body_made, created, dropped, Makes, MakesInRoom, Creates}
use Rattle.ob_model.specs.Naming.{IsWayUp, row_of, path_text, path_answer, target_of, TellsName, TellsTarget}
use Rattle.ob_model.specs.Enumeration.{enumerated, context_used, page_answer}
use Rattle.ob_model.specs.Processes.{values_in, is_crowded, begun, ended}
use Rattle.ob_model.specs.Step.{WithHandle, WithRoot, shadow_refusals, WithShadow, CreatesIn, CreatesAt, OpensName, Turns, SetsMap, page_refusals, TellsPage, QueriesDirectory, Step}
use Rattle.ob_model.specs.Sound.{IsSound, Stands}
use Rattle.ob_model.proofs.SoundPaths.{find_of}
use Rattle.ob_model.proofs.Lookup.{looks_up_total, looks_again_total}
use Rattle.ob_model.proofs.OpenEnds.{IsOpenEnd, open_end, again_end}
use Rattle.ob_model.proofs.PendingSound.{parsed_sound, HasTicket, has_ticket}
use Rattle.ob_model.proofs.Vacant.{IsUsableEnd, usable_end}
use Rattle.ob_model.proofs.Free.{free_value}

fewer : (a b : ℕ) → nat_le a b ≡ false → b < a
fewer a b e = grind (arith, nat_tests)

module _ {K T F I : Type 0} where
  -- an answer, and a state that goes with it
  abbrev Has : (Answer → State K T F I → Type 0) → Type 0
  Has Does = (answer : Answer) × (t : State K T F I) × Does answer t

  -- a step that is refused has an answer, and so has one that is refused or else has one
  refused_total : (s : State K T F I) (status : Status) → Has (IsRefused s status)
  refused_total s status = (answers status, s, (refl, refl))

  unless_total : (refusals : List (Bool × Status)) (s : State K T F I) (Does : Answer → State K T F I → Type 0)
      → (first_refusal refusals ≡ None → Has Does) → Has (λ answer t. Unless refusals s answer t (Does answer t))
  unless_total refusals s Does does = go (first_refusal refusals) refl
    where
      go : (refusal : Option Status) → first_refusal refusals ≡ refusal → Has (λ answer t. MatchOption refusal (Does answer t) (λ status. IsRefused s status answer t))
      go None e = does e
      go (Some status) e = (answers status, s, (refl, refl))

  -- a handle of the caller, where there is one, leads to what stands
  held_total : (s : State K T F I) (p handle : ℕ) (Does : Held → Answer → State K T F I → Type 0)
      → IsSound s → ((h : Held) → Stands s h.object → Has (Does h))
      → Has (λ answer t. MatchOption (option_and_then (held_of s p) (key_of handle)) (IsRefused s InvalidHandle answer t) (λ h. Does h answer t))
  held_total s p handle Does sound does = found (key_of handle)
    where
      held : (o : Option Held) → MatchOption o (Unit {0}) (λ h. Stands s h.object) → Has (λ answer t. MatchOption o (IsRefused s InvalidHandle answer t) (λ h. Does h answer t))
      held None there = refused_total s InvalidHandle
      held (Some h) there = does h there

      found : (key : Option ℕ) → Has (λ answer t. MatchOption (option_and_then (held_of s p) key) (IsRefused s InvalidHandle answer t) (λ h. Does h answer t))
      found None = refused_total s InvalidHandle
      found (Some key) = held (held_of s p key) (find_of (λ h. Stands s h.object) (λ h. h.process == p && h.value == key) s.handles sound.handles.standing)

  with_handle_total : (s : State K T F I) (p handle : ℕ) (Does : Held → Answer → State K T F I → Type 0)
      → IsSound s → ((h : Held) → Stands s h.object → Has (Does h)) → Has (λ answer t. WithHandle s p handle answer t (λ h. Does h answer t))
  with_handle_total s p handle Does sound does =
      unless_total ((not (is_live s p), ProcessGone) ∷ []) s
      (λ answer t. MatchOption (option_and_then (held_of s p) (key_of handle)) (IsRefused s InvalidHandle answer t) (λ h. Does h answer t))
      (λ e. held_total s p handle Does sound does)

  with_root_total : (s : State K T F I) (p : ℕ) (root : Option ℕ) (Does : Option ℕ → Answer → State K T F I → Type 0)
      → IsSound s → ((at : Option ℕ) → MatchOption at (Unit {0}) (Stands s) → Has (Does at)) → Has (λ answer t. WithRoot s p root answer t (λ at. Does at answer t))
  with_root_total s p None Does sound does = does None tt
  with_root_total s p (Some handle) Does sound does = held_total s p handle (λ h. Does (Some h.object)) sound (λ h stands. does (Some h.object) stands)

  -- a handle to a shadow, where one is given, leads to what may be one, or the step is refused
  with_shadow_total : (s : State K T F I) (p : ℕ) (shadow : Option ℕ) (Does : Option ℕ → Answer → State K T F I → Type 0)
      → IsSound s → ((d : Option ℕ) → Has (Does d)) → Has (λ answer t. WithShadow s p shadow answer t (λ d. Does d answer t))
  with_shadow_total s p None Does sound does = does None
  with_shadow_total s p (Some handle) Does sound does =
      held_total s p handle (λ h answer t. Unless (shadow_refusals s h.object) s answer t (Does (Some h.object) answer t)) sound
      (λ h stands. unless_total (shadow_refusals s h.object) s (Does (Some h.object)) (λ e. does (Some h.object)))

  -- ---- room for a handle

  -- a table that isn't full has room
  not_full : (s : State K T F I) (p : ℕ) → is_table_full s p ≡ false → table_size s p < most_handles
  not_full s p e = go (nat_le most_handles (table_size s p)) (nat_lt greatest_number s.next_order) refl e
    where
      go : (full ordered : Bool) → nat_le most_handles (table_size s p) ≡ full → (full || ordered) ≡ false → table_size s p < most_handles
      go true ordered f e = cc
      go false ordered f e = fewer most_handles (table_size s p) f

  -- where a create has room, the table isn't full
  room_left : (s : State K T F I) (p : ℕ) (spot : Spot) → first_refusal (room_refusals s p spot) ≡ None → is_table_full s p ≡ false
  room_left s p spot e = go (is_table_full s p) (is_store_full s) (is_some spot && is_stampless s) e
    where
      go : (full stored stamped : Bool) → first_refusal ((full || stored || stamped, InsufficientResources) ∷ []) ≡ None → full ≡ false
      go true stored stamped e = cc
      go false stored stamped e = refl

  -- ---- the way up from an object

  -- it has one, or it has none
  abbrev WayUpOrNone : State K T F I → ℕ → Type 0
  WayUpOrNone s o = ((cs : List (List ℕ)) × IsWayUp s o cs) ⊎ ((cs : List (List ℕ)) → IsWayUp s o cs → ⊥)

  -- an object other than the root, without a row, has none
  no_row : (s : State K T F I) (o : ℕ) (cs : List (List ℕ)) → o ≢ root_id → row_of s o ≡ None → IsWayUp s o cs → ⊥
  no_row s o [] other e way = other way
  no_row s o (c ∷ cs) other e way = let found : row_of s o ≡ Some way.1.0 = way.1.1 in cc

  -- one with a row has what the row's directory has
  by_row : (s : State K T F I) (o : ℕ) (r : Row) → o ≢ root_id → row_of s o ≡ Some r → WayUpOrNone s r.directory → WayUpOrNone s o
  by_row s o r other e (inl way) = inl (r.name ∷ way.0, (other, (r, e, refl, way.1)))
  by_row s o r other e (inr none) = inr (λ cs way. beyond cs way)
    where
      beyond : (cs : List (List ℕ)) → IsWayUp s o cs → ⊥
      beyond [] way = other way
      beyond (c ∷ cs) way =
          let found : row_of s o ≡ Some way.1.0 = way.1.1 in
          let same : way.1.0 ≡ r = cc in
          none cs (subst (λ (x : Row). IsWayUp s x.directory cs) same way.1.3)

-- the directory of the row that is found for an object was made before it
made_before : (rows : List Row) (o : ℕ) (r : Row) → All (λ x. x.directory < x.object) rows → find (λ x. x.object == o) rows ≡ Some r → r.directory < o
made_before [] o r all e = cc
made_before (x ∷ xs) o r all e = go (x.object == o) refl e (made_before xs o r (All-tail (λ y. y.directory < y.object) x xs all))
  where
    go : (b : Bool) → (x.object == o) ≡ b → cond b (Some x) (find (λ y. y.object == o) xs) ≡ Some r → (find (λ y. y.object == o) xs ≡ Some r → r.directory < o) → r.directory < o
    go true is e rest =
        let same : x ≡ r = cc in
        subst (λ (y : Row). y.directory < o) same (subst (λ (n : ℕ). x.directory < n) (eqb-true x.object o is) (All-head (λ y. y.directory < y.object) x xs all))
    go false is e rest = rest e

module _ {K T F I : Type 0} where
  -- so that a way up ends
  way_up : (fuel : ℕ) (s : State K T F I) (o : ℕ) → IsSound s → o < fuel → WayUpOrNone s o
  way_up zero s o sound below = absurd (omega (arith, below))
  way_up (suc n) s o sound below = go (o == root_id) refl (row_of s o) refl (λ d less. way_up n s d sound less)
    where
      go : (root : Bool) → (o == root_id) ≡ root → (row : Option Row) → row_of s o ≡ row → ((d : ℕ) → d < n → WayUpOrNone s d) → WayUpOrNone s o
      go true e row f rest = inl ([], eqb-true o root_id e)
      go false e None f rest = inr (λ cs way. no_row s o cs (λ same. let is : (o == root_id) ≡ true = eq-eqb o root_id same in cc) f way)
      go false e (Some r) f rest =
          let before = made_before s.rows o r sound.rows.descending f in
          by_row s o r (λ same. let is : (o == root_id) ≡ true = eq-eqb o root_id same in cc) f (rest r.directory (omega (arith, before, below)))

  tells_name_total : (s : State K T F I) (o : ℕ) → IsSound s → (answer : Answer) × TellsName s o answer
  tells_name_total s o sound = go (way_up (suc o) s o sound (omega arith))
    where
      go : WayUpOrNone s o → (answer : Answer) × TellsName s o answer
      go (inl way) = (path_answer (path_text way.0), inl (way.0, way.1, refl))
      go (inr none) = (gives Success (Text []), inr (none, refl))

  tells_target_total : (s : State K T F I) (o : ℕ) → (answer : Answer) × TellsTarget s o answer
  tells_target_total s o = go (option_and_then target_of (body_of s o))
    where
      go : (target : Option (List ℕ)) → (answer : Answer) × MatchOption target (answer ≡ answers ObjectTypeMismatch) (λ target. answer ≡ gives Success (Text target))
      go None = (answers ObjectTypeMismatch, refl)
      go (Some target) = (gives Success (Text target), refl)

module _ {K T F I : Type 0} (g : Procedures K T F I) where
  -- a grant that isn't refused has room
  room_granted : (s : State K T F I) (p o : ℕ) (asked : GrantOptions) (reason : Reason) → grant_refusal g s p o asked reason ≡ None → is_table_full s p ≡ false
  room_granted s p o asked reason e =
      go (asked.exclusive && not (is_exclusive s o)) (asked.inherit && is_exclusive s o) (is_exclusive s o && has_other_holder s p o) (is_table_full s p) (option_map TypeRefused (open_refusal g s o reason)) e
    where
      go : (a b c full : Bool) (rest : Option Status)
          → option_or (first_refusal ((a, InvalidParameter) ∷ (b, InvalidParameter) ∷ (c, AccessDenied) ∷ (full, InsufficientResources) ∷ [])) rest ≡ None → full ≡ false
      go true b c full rest e = cc
      go false true c full rest e = cc
      go false false true full rest e = cc
      go false false false true rest e = cc
      go false false false false rest e = refl

  -- a grant is given, or is refused
  gives_handle_total : (s : State K T F I) (p o : ℕ) (asked : GrantOptions) (reason : Reason) (status : Status) → Has (GivesHandle g s p o asked reason status)
  gives_handle_total s p o asked reason status = go (grant_refusal g s p o asked reason) refl
    where
      go : (refusal : Option Status) → grant_refusal g s p o asked reason ≡ refusal → Has (GivesHandle g s p o asked reason status)
      go None e =
          let free = free_value s p (not_full s p (room_granted s p o asked reason e)) in
          let u = with_handle (with_open g s o reason) p free.0 o asked.inherit in
          (gives status (Handle free.0), settle g u, (Ok free.0, u, (e, free.1, refl), (refl, refl)))
      go (Some refusal) e = (answers refusal, s, (Err refusal, s, (e, refl), (refl, refl)))

  opens_at_total : (s : State K T F I) (p attrs : ℕ) (wanted : Wanted K) (status : Status) (o : ℕ) → Has (OpensAt g s p attrs wanted status o)
  opens_at_total s p attrs wanted status o =
      unless_total ((not (is_wanted_at g s o wanted), ObjectTypeMismatch) ∷ []) s (GivesHandle g s p o (options_by attrs) Opened status)
      (λ e. gives_handle_total s p o (options_by attrs) Opened status)

  begins_total : (s : State K T F I) (p attrs : ℕ) (wanted : Wanted K) (o : ℕ) (rest : List ℕ) (n : ℕ) → Has (Begins g s p attrs wanted o rest n)
  begins_total s p attrs wanted o rest n =
      unless_total ((is_store_full s, InsufficientResources) ∷ []) s (λ answer t. (answer ≡ Ticket s.next_id) × (t ≡ settle g (with_pending s p attrs wanted o rest n)))
      (λ e. (Ticket s.next_id, settle g (with_pending s p attrs wanted o rest n), (refl, refl)))

  opens_total : (s : State K T F I) (p attrs : ℕ) (wanted : Wanted K) (look : Look) → IsOpenEnd s look → Has (Opens g s p attrs wanted look)
  opens_total s p attrs wanted (Refused status) end = refused_total s status
  opens_total s p attrs wanted (At o) end = opens_at_total s p attrs wanted Success o
  opens_total s p attrs wanted (Vacant d c) end = absurd end
  opens_total s p attrs wanted (Parse o rest n) end = begins_total s p attrs wanted o rest n

  makes_total : (s : State K T F I) (p attrs : ℕ) (making : Making K) (spot : Spot) → Has (Makes g s p attrs making spot)
  makes_total s p attrs making spot =
      unless_total (room_refusals s p spot) s (MakesInRoom g s p attrs making spot) (λ e. made (make_refusal g making) (free_value s p (not_full s p (room_left s p spot e))))
    where
      Given : Answer → State K T F I → Type 0
      Given answer t = (value : ℕ) × IsFreeValue s p value × (answer ≡ gives Success (Handle value)) × (t ≡ settle g (created g s p spot (body_made g making) attrs value))

      DroppedFor : Answer → State K T F I → ℕ → Type 0
      DroppedFor answer t k = (answer ≡ answers (TypeRefused k)) × (t ≡ dropped g s (body_made g making))

      opened : (refusal : Option ℕ) → (value : ℕ) × IsFreeValue s p value → Has (λ answer t. MatchOption refusal (Given answer t) (DroppedFor answer t))
      opened None free = (gives Success (Handle free.0), settle g (created g s p spot (body_made g making) attrs free.0), (free.0, free.1, refl, refl))
      opened (Some k) free = (answers (TypeRefused k), dropped g s (body_made g making), (refl, refl))

      made : (refusal : Option ℕ) → (value : ℕ) × IsFreeValue s p value
          → Has (λ answer t. MatchOption refusal (MatchOption (open_refusal_of g s.set (body_made g making) Created) (Given answer t) (DroppedFor answer t)) (λ k. IsRefused s (TypeRefused k) answer t))
      made None free = opened (open_refusal_of g s.set (body_made g making) Created) free
      made (Some k) free = refused_total s (TypeRefused k)

  creates_total : (s : State K T F I) (p attrs : ℕ) (making : Making K) (look : Look) → IsUsableEnd g s (create_mode attrs) look → Has (Creates g s p attrs making look)
  creates_total s p attrs making (Refused status) usable = refused_total s status
  creates_total s p attrs making (At o) usable = go (has_flag open_if_flag attrs)
    where
      go : (opens : Bool) → Has (λ answer t. MatchBool opens (OpensAt g s p attrs (type_made making) ObjectNameExists o answer t) (IsRefused s ObjectNameCollision answer t))
      go true = opens_at_total s p attrs (type_made making) ObjectNameExists o
      go false = refused_total s ObjectNameCollision
  creates_total s p attrs making (Parse o rest n) usable = let never : true ≡ false = usable.0 in cc
  creates_total s p attrs making (Vacant d c) usable = makes_total s p attrs making (Some (d, c))

  creates_in_total : (s : State K T F I) (p : ℕ) (where_to : Place) (attrs : ℕ) (shadow : Option ℕ) (making : Option ℕ → Making K) → IsSound s
      → Has (CreatesIn g s p where_to attrs shadow making)
  creates_in_total s p (place.At root name) attrs shadow making sound =
      with_root_total s p root (λ at answer t. WithShadow s p shadow answer t (λ d. Does at d answer t)) sound
      (λ at stands. with_shadow_total s p shadow (Does at) sound (looked at stands))
    where
      Does : Option ℕ → Option ℕ → Answer → State K T F I → Type 0
      Does at d answer t = (look : Look) × LooksUp g s p (create_mode attrs) most_reparses at name look × Creates g s p attrs (making d) look answer t

      looked : (at : Option ℕ) → MatchOption at (Unit {0}) (Stands s) → (d : Option ℕ) → Has (Does at d)
      looked at stands d =
          let look = looks_up_total g s p (create_mode attrs) most_reparses at name sound stands in
          let done = creates_total s p attrs (making d) look.0 (usable_end g s p (create_mode attrs) most_reparses at name look.0 look.1) in
          (done.0, done.1, (look.0, look.1, done.2))
  creates_in_total s p place.Unnamed attrs shadow making sound =
      with_shadow_total s p shadow (λ d. Makes g s p attrs (making d) None) sound (λ d. makes_total s p attrs (making d) None)

  creates_at_total : (s : State K T F I) (p : ℕ) (where_to : Place) (attrs : ℕ) (shadow : Option ℕ) (making : Option ℕ → Making K) → IsSound s
      → Has (CreatesAt g s p where_to attrs shadow making)
  creates_at_total s p where_to attrs shadow making sound =
      unless_total (create_refusals (is_live s p) (is_fit (making None)) where_to attrs) s (CreatesIn g s p where_to attrs shadow making)
      (λ e. creates_in_total s p where_to attrs shadow making sound)

  opens_name_total : (s : State K T F I) (p : ℕ) (root : Option ℕ) (name : List ℕ) (attrs : ℕ) (wanted : Wanted K) → IsSound s → Has (OpensName g s p root name attrs wanted)
  opens_name_total s p root name attrs wanted sound =
      unless_total (open_refusals (is_live s p) name attrs) s (λ answer t. WithRoot s p root answer t (λ at. Does at answer t)) (λ e. with_root_total s p root Does sound looked)
    where
      Does : Option ℕ → Answer → State K T F I → Type 0
      Does at answer t = (look : Look) × LooksUp g s p (open_mode wanted attrs) most_reparses at name look × Opens g s p attrs wanted look answer t

      looked : (at : Option ℕ) → MatchOption at (Unit {0}) (Stands s) → Has (Does at)
      looked at stands =
          let look = looks_up_total g s p (open_mode wanted attrs) most_reparses at name sound stands in
          let done = opens_total s p attrs wanted look.0 (open_end g s p (open_mode wanted attrs) refl most_reparses at name look.0 look.1) in
          (done.0, done.1, (look.0, look.1, done.2))

  turns_total : (s : State K T F I) (p handle : ℕ) (permanent : Bool) → IsSound s → Has (Turns g s p handle permanent)
  turns_total s p handle permanent sound =
      with_handle_total s p handle (λ h answer t. (answer ≡ answers Success) × (t ≡ settle g (turned s h.object permanent))) sound
      (λ h stands. (answers Success, settle g (turned s h.object permanent), (refl, refl)))

  sets_map_total : (s : State K T F I) (p handle : ℕ) → IsSound s → Has (SetsMap g s p handle)
  sets_map_total s p handle sound =
      with_handle_total s p handle
      (λ h answer t. Unless ((not (is_directory s h.object), ObjectTypeMismatch) ∷ []) s answer t ((answer ≡ answers Success) × (t ≡ settle g (with_map s p h.object)))) sound
      (λ h stands.
      unless_total ((not (is_directory s h.object), ObjectTypeMismatch) ∷ []) s (λ answer t. (answer ≡ answers Success) × (t ≡ settle g (with_map s p h.object)))
      (λ e. (answers Success, settle g (with_map s p h.object), (refl, refl))))

  queries_directory_total : (s : State K T F I) (p handle context room : ℕ) (single restart : Bool) → IsSound s → Has (QueriesDirectory g s p handle context room single restart)
  queries_directory_total s p handle context room single restart sound =
      unless_total (page_refusals (is_live s p) room) s
      (λ answer t. MatchOption (option_and_then (held_of s p) (key_of handle)) (IsRefused s InvalidHandle answer t) (λ h. Pages h answer t))
      (λ e.
      held_total s p handle Pages sound
      (λ h stands.
      unless_total ((not (is_directory s h.object), ObjectTypeMismatch) ∷ []) s (λ answer t. (answer ≡ told h) × (t ≡ s)) (λ e. (told h, s, (refl, refl)))))
    where
      told : Held → Answer
      told h = page_answer (enumerated g s h.object (context_used restart context) room single)

      Pages : Held → Answer → State K T F I → Type 0
      Pages h answer t = TellsPage g s h.object (context_used restart context) room single answer t

  -- in a sound state every start has an answer
  pub start_total : (s : State K T F I) (p : ℕ) (command : Command K) → IsSound s → (answer : Answer) × (t : State K T F I) × Step g s (Start p command) answer t
  start_total s p (CreateDirectory where_to attrs) sound = creates_at_total s p where_to attrs None MakesDirectory sound
  start_total s p (CreateShadowed where_to attrs shadow) sound = creates_at_total s p where_to attrs (Some shadow) MakesDirectory sound
  start_total s p (CreateLink where_to attrs target) sound = creates_at_total s p where_to attrs None (λ shadow. MakesLink target) sound
  start_total s p (CreateObject where_to attrs kind args) sound = creates_at_total s p where_to attrs None (λ shadow. MakesObject kind args) sound
  start_total s p (OpenDirectory root name attrs) sound = opens_name_total s p root name attrs wanted.Directory sound
  start_total s p (OpenLink root name attrs) sound = opens_name_total s p root name attrs wanted.Link sound
  start_total s p (OpenObject root name attrs want) sound = opens_name_total s p root name attrs (type_wanted want) sound
  start_total s p (Close handle) sound =
      with_handle_total s p handle (λ h answer t. (answer ≡ answers Success) × (t ≡ settle g (closed_handle g s h))) sound (λ h stands. (answers Success, settle g (closed_handle g s h), (refl, refl)))
  start_total s p (QueryLink handle) sound =
      with_handle_total s p handle (λ h answer t. TellsTarget s h.object answer × (t ≡ s)) sound (λ h stands. let told = tells_target_total s h.object in (told.0, s, (told.1, refl)))
  start_total s p (QueryName handle) sound =
      with_handle_total s p handle (λ h answer t. TellsName s h.object answer × (t ≡ s)) sound (λ h stands. let told = tells_name_total s h.object sound in (told.0, s, (told.1, refl)))
  start_total s p (QueryDirectory handle context room single restart) sound = queries_directory_total s p handle context room single restart sound
  start_total s p (Duplicate handle to inherit) sound =
      unless_total ((not (is_live s p), ProcessGone) ∷ (not (is_live s to), ProcessGone) ∷ []) s
      (λ answer t. MatchOption (option_and_then (held_of s p) (key_of handle)) (IsRefused s InvalidHandle answer t) (λ h. Given h answer t))
      (λ e. held_total s p handle Given sound (λ h stands. gives_handle_total s to h.object (record { inherit = inherit; exclusive = false }) Duplicated Success))
    where
      Given : Held → Answer → State K T F I → Type 0
      Given h answer t = GivesHandle g s to h.object (record { inherit = inherit; exclusive = false }) Duplicated Success answer t
  start_total s p (MakeTemporary handle) sound = turns_total s p handle false sound
  start_total s p (MakePermanent handle) sound = turns_total s p handle true sound
  start_total s p (SetDeviceMap handle) sound = sets_map_total s p handle sound
  start_total s p (NewProcess inherit) sound =
      unless_total ((not (is_live s p), ProcessGone) ∷ (is_crowded s p inherit, InsufficientResources) ∷ []) s
      (λ answer t. let u = begun g s p inherit in (answer ≡ gives Success (Process s.next_process (values_in u s.next_process))) × (t ≡ settle g u))
      (λ e. let u = begun g s p inherit in (gives Success (Process s.next_process (values_in u s.next_process)), settle g u, (refl, refl)))
  start_total s p ExitProcess sound =
      unless_total ((not (is_live s p), ProcessGone) ∷ []) s (λ answer t. (answer ≡ answers Success) × (t ≡ settle g (ended g s p)))
      (λ e. (answers Success, settle g (ended g s p), (refl, refl)))

  -- ---- the end of a pending open

  -- what a parse leads to
  ends_open_total : (s : State K T F I) (x : PendingOpen K) (outcome : Option (ParseOutcome F I)) → IsSound s → Has (EndsOpen g s x outcome)
  ends_open_total s x None sound = refused_total s NoMemory
  ends_open_total s x (Some EndsItself) sound = opens_at_total s x.process x.attrs x.wanted Success x.object
  ends_open_total s x (Some (EndsMade face inner)) sound = opens_at_total s x.process x.attrs x.wanted Success x.ticket
  ends_open_total s x (Some (EndsReparse text)) sound =
      let look = looks_again_total g s x.process (open_mode x.wanted x.attrs) x.left text sound in
      let done = opens_total s x.process x.attrs x.wanted look.0 (again_end g s x.process (open_mode x.wanted x.attrs) refl x.left text look.0 look.1) in
      (done.0, done.1, (look.0, look.1, done.2))
  ends_open_total s x (Some (EndsRefused k)) sound = refused_total s (TypeRefused k)

  resumes_total : (s : State K T F I) (x : PendingOpen K) (outcome : Option (ParseOutcome F I)) → IsSound s → HasTicket s x → Has (Resumes g s x outcome)
  resumes_total s x outcome sound ticket =
      let u = parsed_state s x.ticket outcome in
      let done = unless_total ((not (is_live s x.process), ProcessGone) ∷ []) u (EndsOpen g u x outcome)
      (λ e. ends_open_total u x outcome (parsed_sound s x.ticket outcome ticket.0 ticket.1 sound)) in
      (done.0, settle g done.1, (done.1, done.2, refl))

  abbrev Brings : State K T F I → ParseRun → Option (PendingOpen K) → Option (ParseOutcome F I) → Type 0
  Brings s parse found outcome = MatchOption found ⊥ (λ x. IsParsed g s x parse outcome)

  resumed_total : (s : State K T F I) (parse : ParseRun) (outcome : Option (ParseOutcome F I)) (found : Option (PendingOpen K))
      → IsSound s → MatchOption found (Unit {0}) (HasTicket s) → Brings s parse found outcome → Has (λ answer t. MatchOption found ⊥ (λ x. Resumes g s x outcome answer t))
  resumed_total s parse outcome None sound ticket brought = absurd brought
  resumed_total s parse outcome (Some x) sound ticket brought = resumes_total s x outcome sound ticket

  -- in a sound state every event has an answer, whatever is brought with it
  pub step_total : (s : State K T F I) (event : Event K) (outcome : Option (ParseOutcome F I)) → IsSound s → IsBrought g s event outcome → (answer : Answer) × (t : State K T F I) × Step g s event answer t
  step_total s (Start p command) outcome sound brought = start_total s p command sound
  step_total s (Resume ticket run.Unrun) outcome sound brought = absurd brought
  step_total s (Resume ticket run.Ran) outcome sound brought =
      let done = resumed_total s run.Ran outcome (pending_of s ticket) sound (has_ticket s ticket sound) brought in (done.0, done.1, (outcome, brought, done.2))
  step_total s (Resume ticket run.NoMemory) outcome sound brought =
      let done = resumed_total s run.NoMemory outcome (pending_of s ticket) sound (has_ticket s ticket sound) brought in (done.0, done.1, (outcome, brought, done.2))
  step_total s (Abandon ticket parse) outcome sound brought =
      let done = go (pending_of s ticket) brought in (done.0, done.1, (outcome, brought, done.2))
    where
      go : (found : Option (PendingOpen K)) → Brings s parse found outcome → Has (λ answer t. MatchOption found ⊥ (λ x. Abandons g s x outcome answer t))
      go None brought = absurd brought
      go (Some x) brought = (answers Success, settle g (parsed_state s x.ticket outcome), (refl, refl))
