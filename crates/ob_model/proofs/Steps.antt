-- A step from a sound state leads to a sound one.
use Rattle.std.proofs.Common.{◌≡◌, ℕ, Bool, true, false, not, List, [], ◌∷◌, Option, None, Some, MatchOption, refl, sym, subst}
use Rattle.std.specs.Prelude.{MatchBool}
use Rattle.std.specs.Option.{option_and_then, option_map, option_map_or, is_some}
use Rattle.ob_base.specs.declared.status.Status.{Status}
use Rattle.ob_base.specs.declared.status.Status.TheVariants.{InvalidParameter, NoMemory, Success, InvalidHandle, InsufficientResources, ObjectTypeMismatch, ObjectNameExists, ObjectNameCollision, ProcessGone, TypeRefused}
use Rattle.ob_base.specs.Attrs.{has_flag, open_if_flag}
use Rattle.ob_base.specs.Handle.{key_of}
use Rattle.ob_model.specs.declared.command.Place.{Place}
use Rattle.ob_model.specs.declared.command.Place.TheVariants as place
use Rattle.ob_model.specs.declared.command.Command.TheVariants.{CreateDirectory, CreateShadowed, CreateLink, CreateObject, OpenDirectory, OpenLink, OpenObject, Close, QueryLink, QueryName, QueryDirectory, Duplicate, MakeTemporary, MakePermanent, SetDeviceMap, NewProcess, ExitProcess}
use Rattle.ob_model.specs.declared.reply.Answer.{Answer}
use Rattle.ob_model.specs.declared.reply.Answer.TheVariants.{Ticket}
use Rattle.ob_model.specs.declared.reply.Event.{Event}
use Rattle.ob_model.specs.declared.reply.Event.TheVariants.{Start, Resume, Abandon}
use Rattle.ob_model.specs.declared.reply.Given.TheVariants.{Handle, Process}
use Rattle.ob_model.specs.declared.state.Held.{Held}
use Rattle.ob_model.specs.declared.state.Object.{Object}
use Rattle.ob_model.specs.declared.state.PendingOpen.{PendingOpen}
use Rattle.ob_model.specs.declared.state.Wanted.{Wanted}
use Rattle.ob_model.specs.declared.state.Wanted.TheVariants as wanted
use Rattle.ob_model.specs.State.{State, shadow_of, is_live, is_directory, is_store_full, held_of, object_of}
use Rattle.ob_model.specs.Looks.{Look, At, Vacant, Parse, Refused, LooksUp, most_reparses}
use Rattle.ob_model.specs.declared.terms.Reason.TheVariants.{Opened, Created}
use Rattle.ob_model.specs.Procedures.{Procedures, ParseOutcome, EndsItself, EndsMade, EndsReparse, EndsRefused}
use Rattle.ob_model.specs.Settle.{settle}
use Rattle.ob_model.specs.Grants.{first_refusal, IsFreeValue, open_refusal_of}
use Rattle.ob_model.specs.Closing.{closed_handle}
use Rattle.ob_model.specs.Permanence.{turned}
use Rattle.ob_model.specs.Maps.{with_map}
use Rattle.ob_model.specs.Types.{is_wanted, is_wanted_at}
use Rattle.ob_model.specs.Refusals.{gives, answers, IsRefused, Unless, create_refusals, open_refusals}
use Rattle.ob_model.specs.PendingOpens.{pending_of, with_pending}
use Rattle.ob_model.specs.Parses.{parsed_state, EndsOpen, Resumes, Abandons}
use Rattle.ob_model.specs.Opens.{GivesHandle, OpensAt, Begins, Opens, options_by, type_wanted, open_mode}
use Rattle.ob_model.specs.Creates.{Making, MakesDirectory, MakesLink, MakesObject, is_fit, create_mode, type_made, Spot, room_refusals, make_refusal, body_made, created, dropped, Makes, Creates}
use Rattle.ob_model.specs.Naming.{TellsName, TellsTarget}
use Rattle.ob_model.specs.Enumeration.{enumerated, context_used, page_answer}
use Rattle.ob_model.specs.Processes.{values_in, is_crowded, begun, ended}
use Rattle.ob_model.specs.Step.{WithHandle, WithRoot, shadow_refusals, WithShadow, CreatesIn, CreatesAt, OpensName, Turns, SetsMap, page_refusals, TellsPage, QueriesDirectory, Step}
use Rattle.ob_model.specs.Sound.{IsSound, Stands}
use Rattle.ob_model.proofs.Vacant.{IsUsableEnd, usable_end}
use Rattle.ob_model.proofs.VacantNames.{HasComponent, vacant_name}
use Rattle.ob_model.proofs.Places.{IsPlace}
use Rattle.ob_model.proofs.Earliest.{unmatched}
use Rattle.ob_model.proofs.Soundness.{IsFitShadow, HasFitShadow, settled_sound, created_sound, dropped_sound, gives_handle_sound, closed_sound}
use Rattle.ob_model.proofs.OpenEnds.{IsOpenEnd, open_end, again_end}
use Rattle.ob_model.proofs.PendingSound.{begun_pending_sound, parsed_sound, HasTicket, has_ticket}
use Rattle.ob_model.proofs.Turned.{turned_sound}
use Rattle.ob_model.proofs.Maps.{mapped_sound}
use Rattle.ob_model.proofs.Ended.{begun_sound, ended_sound, duplicates_sound}

-- where a create or an open isn't refused at first, its process is live
live_to_create : (live fit : Bool) (where_to : Place) (attrs : ℕ) → first_refusal (create_refusals live fit where_to attrs) ≡ None → live ≡ true
live_to_create true fit where_to attrs e = refl
live_to_create false fit (place.At root name) attrs e = cc
live_to_create false fit place.Unnamed attrs e = cc

live_to_open : (live : Bool) (name : List ℕ) (attrs : ℕ) → first_refusal (open_refusals live name attrs) ≡ None → live ≡ true
live_to_open true name attrs e = refl
live_to_open false name attrs e = cc

module _ {K T F I : Type 0} where
  -- a step that is refused leaves the state
  refused_sound : (s t : State K T F I) (status : Status) (answer : Answer) → IsSound s → IsRefused s status answer t → IsSound t
  refused_sound s t status answer sound h = subst IsSound (sym h.1) sound

  -- a step that is refused, or else does what leads to a sound state
  unless_sound : (refusals : List (Bool × Status)) (s t : State K T F I) (answer : Answer) (Does : Type 0)
      → IsSound s → (first_refusal refusals ≡ None → Does → IsSound t) → Unless refusals s answer t Does → IsSound t
  unless_sound refusals s t answer Does sound does h = go (first_refusal refusals) refl h
    where
      go : (refusal : Option Status) → first_refusal refusals ≡ refusal → MatchOption refusal Does (λ status. IsRefused s status answer t) → IsSound t
      go None e h = does e h
      go (Some status) e h = refused_sound s t status answer sound h

  -- the same, where what the step does may rest on the test of its one refusal
  tested_sound : (test : Bool) (status : Status) (s t : State K T F I) (answer : Answer) (Does : Type 0)
      → IsSound s → (test ≡ true → Does → IsSound t) → Unless ((not test, status) ∷ []) s answer t Does → IsSound t
  tested_sound true status s t answer Does sound does h = does refl h
  tested_sound false status s t answer Does sound does h = refused_sound s t status answer sound h

  -- a step that uses a handle
  with_handle_sound : (s t : State K T F I) (p handle : ℕ) (answer : Answer) (Does : Held → Type 0)
      → IsSound s → ((h : Held) → Does h → IsSound t) → WithHandle s p handle answer t Does → IsSound t
  with_handle_sound s t p handle answer Does sound does h =
      unless_sound ((not (is_live s p), ProcessGone) ∷ []) s t answer
      (MatchOption (option_and_then (held_of s p) (key_of handle)) (IsRefused s InvalidHandle answer t) Does) sound
      (λ e. go (option_and_then (held_of s p) (key_of handle))) h
    where
      go : (o : Option Held) → MatchOption o (IsRefused s InvalidHandle answer t) Does → IsSound t
      go None h = refused_sound s t InvalidHandle answer sound h
      go (Some x) h = does x h

  -- a step that uses a root handle
  with_root_sound : (s t : State K T F I) (p : ℕ) (root : Option ℕ) (answer : Answer) (Does : Option ℕ → Type 0)
      → IsSound s → ((at : Option ℕ) → Does at → IsSound t) → WithRoot s p root answer t Does → IsSound t
  with_root_sound s t p None answer Does sound does h = does None h
  with_root_sound s t p (Some handle) answer Does sound does h = go (option_and_then (held_of s p) (key_of handle)) h
    where
      go : (o : Option Held) → MatchOption o (IsRefused s InvalidHandle answer t) (λ x. Does (Some x.object)) → IsSound t
      go None h = refused_sound s t InvalidHandle answer sound h
      go (Some x) h = does (Some x.object) h

  -- what isn't refused as a shadow is fit to be one
  fit_as_shadow : (s : State K T F I) (o : ℕ) → first_refusal (shadow_refusals s o) ≡ None → IsFitShadow s (Some o)
  fit_as_shadow s o e = go (is_directory s o) (shadow_of s o) e
    where
      go : (directory : Bool) (shadow : Option ℕ) → first_refusal ((not directory, ObjectTypeMismatch) ∷ (is_some shadow, InvalidParameter) ∷ []) ≡ None → (directory ≡ true) × (shadow ≡ None)
      go false shadow e = cc
      go true (Some n) e = cc
      go true None e = (refl, refl)

  -- a step that uses a handle to a shadow
  with_shadow_sound : (s t : State K T F I) (p : ℕ) (shadow : Option ℕ) (answer : Answer) (Does : Option ℕ → Type 0)
      → IsSound s → ((d : Option ℕ) → IsFitShadow s d → Does d → IsSound t) → WithShadow s p shadow answer t Does → IsSound t
  with_shadow_sound s t p None answer Does sound does h = does None tt h
  with_shadow_sound s t p (Some handle) answer Does sound does h = go (option_and_then (held_of s p) (key_of handle)) h
    where
      go : (o : Option Held) → MatchOption o (IsRefused s InvalidHandle answer t) (λ x. Unless (shadow_refusals s x.object) s answer t (Does (Some x.object))) → IsSound t
      go None h = refused_sound s t InvalidHandle answer sound h
      go (Some x) h = unless_sound (shadow_refusals s x.object) s t answer (Does (Some x.object)) sound (λ e. does (Some x.object) (fit_as_shadow s x.object e)) h

module _ {K T F I : Type 0} (g : Procedures K T F I) where
  -- an object that is of the type that is asked for stands
  stands_where_wanted : (s : State K T F I) (o : ℕ) (wanted : Wanted K) → is_wanted_at g s o wanted ≡ true → Stands s o
  stands_where_wanted s o wanted h = go (object_of s o) h
    where
      go : (x : Option (Object F I)) → option_map_or (is_wanted g wanted) (option_map (λ y. y.body) x) false ≡ true → is_some x ≡ true
      go None h = cc
      go (Some y) h = refl

  opens_at_sound : (s t : State K T F I) (p attrs : ℕ) (wanted : Wanted K) (status : Status) (o : ℕ) (answer : Answer)
      → IsSound s → is_live s p ≡ true → OpensAt g s p attrs wanted status o answer t → IsSound t
  opens_at_sound s t p attrs wanted status o answer sound live h =
      tested_sound (is_wanted_at g s o wanted) ObjectTypeMismatch s t answer
      (GivesHandle g s p o (options_by attrs) Opened status answer t) sound
      (λ is does. gives_handle_sound g s t does.1 p o (options_by attrs) Opened status answer does.0 sound live (stands_where_wanted s o wanted is) does.2 does.3) h

  begins_sound : (s t : State K T F I) (p attrs : ℕ) (wanted : Wanted K) (o : ℕ) (rest : List ℕ) (n : ℕ) (answer : Answer)
      → IsSound s → Stands s o → Begins g s p attrs wanted o rest n answer t → IsSound t
  begins_sound s t p attrs wanted o rest n answer sound stands h =
      unless_sound ((is_store_full s, InsufficientResources) ∷ []) s t answer ((answer ≡ Ticket s.next_id) × (t ≡ settle g (with_pending s p attrs wanted o rest n))) sound
      (λ e does. subst IsSound (sym does.1) (settled_sound g (with_pending s p attrs wanted o rest n) (begun_pending_sound s p attrs wanted o rest n sound stands))) h

  opens_sound : (s t : State K T F I) (p attrs : ℕ) (wanted : Wanted K) (look : Look) (answer : Answer)
      → IsSound s → is_live s p ≡ true → IsOpenEnd s look → Opens g s p attrs wanted look answer t → IsSound t
  opens_sound s t p attrs wanted (Refused status) answer sound live end h = refused_sound s t status answer sound h
  opens_sound s t p attrs wanted (Vacant d c) answer sound live end h = absurd h
  opens_sound s t p attrs wanted (Parse o rest n) answer sound live end h = begins_sound s t p attrs wanted o rest n answer sound end h
  opens_sound s t p attrs wanted (At o) answer sound live end h = opens_at_sound s t p attrs wanted Success o answer sound live h

  makes_sound : (s t : State K T F I) (p attrs : ℕ) (making : Making K) (spot : Spot) (answer : Answer)
      → IsSound s → is_live s p ≡ true → HasFitShadow s (body_made g making) → MatchOption spot (Unit {0}) (IsPlace s) → Makes g s p attrs making spot answer t → IsSound t
  makes_sound s t p attrs making spot answer sound live fit inside h =
      unless_sound (room_refusals s p spot) s t answer _ sound (λ e. go (make_refusal g making)) h
    where
      Given : Type 0
      Given = (value : ℕ) × IsFreeValue s p value × (answer ≡ gives Success (Handle value)) × (t ≡ settle g (created g s p spot (body_made g making) attrs value))

      DroppedFor : ℕ → Type 0
      DroppedFor k = (answer ≡ answers (TypeRefused k)) × (t ≡ dropped g s (body_made g making))

      opened : (refusal : Option ℕ) → MatchOption refusal Given DroppedFor → IsSound t
      opened None h =
          subst IsSound (sym h.3)
          (settled_sound g (created g s p spot (body_made g making) attrs h.0) (created_sound g s p spot (body_made g making) attrs h.0 sound live h.1.1 fit inside))
      opened (Some k) h = subst IsSound (sym h.1) (dropped_sound g s (body_made g making) sound)

      go : (refusal : Option ℕ)
          → MatchOption refusal (MatchOption (open_refusal_of g s.set (body_made g making) Created) Given DroppedFor) (λ k. IsRefused s (TypeRefused k) answer t) → IsSound t
      go None h = opened (open_refusal_of g s.set (body_made g making) Created) h
      go (Some k) h = refused_sound s t (TypeRefused k) answer sound h

  creates_sound : (s t : State K T F I) (p attrs : ℕ) (making : Making K) (look : Look) (answer : Answer)
      → IsSound s → is_live s p ≡ true → HasFitShadow s (body_made g making) → IsUsableEnd g s (create_mode attrs) look → HasComponent look
      → Creates g s p attrs making look answer t → IsSound t
  creates_sound s t p attrs making (Refused status) answer sound live fit usable has h = refused_sound s t status answer sound h
  creates_sound s t p attrs making (At o) answer sound live fit usable has h = go (has_flag open_if_flag attrs) h
    where
      go : (opens : Bool) → MatchBool opens (OpensAt g s p attrs (type_made making) ObjectNameExists o answer t) (IsRefused s ObjectNameCollision answer t) → IsSound t
      go true h = opens_at_sound s t p attrs (type_made making) ObjectNameExists o answer sound live h
      go false h = refused_sound s t ObjectNameCollision answer sound h
  creates_sound s t p attrs making (Parse o rest n) answer sound live fit usable has h = absurd h
  creates_sound s t p attrs making (Vacant d c) answer sound live fit usable has h =
      makes_sound s t p attrs making (Some (d, c)) answer sound live fit (usable.1, usable.3, has, unmatched s d c (create_mode attrs).fold usable.2) h

  creates_in_sound : (s t : State K T F I) (p : ℕ) (where_to : Place) (attrs : ℕ) (shadow : Option ℕ) (making : Option ℕ → Making K) (answer : Answer)
      → ((d : Option ℕ) → IsFitShadow s d → HasFitShadow s (body_made g (making d)))
      → IsSound s → is_live s p ≡ true → CreatesIn g s p where_to attrs shadow making answer t → IsSound t
  creates_in_sound s t p (place.At root name) attrs shadow making answer fits sound live h =
      with_root_sound s t p root answer (λ at. WithShadow s p shadow answer t (Does at)) sound
      (λ at.
      with_shadow_sound s t p shadow answer (Does at) sound
      (λ d fit does.
      creates_sound s t p attrs (making d) does.0 answer sound live (fits d fit) (usable_end g s p (create_mode attrs) most_reparses at name does.0 does.1)
      (vacant_name g s p (create_mode attrs) most_reparses at name does.0 does.1) does.2)) h
    where
      Does : Option ℕ → Option ℕ → Type 0
      Does at d = (look : Look) × LooksUp g s p (create_mode attrs) most_reparses at name look × Creates g s p attrs (making d) look answer t
  creates_in_sound s t p place.Unnamed attrs shadow making answer fits sound live h =
      with_shadow_sound s t p shadow answer (λ d. Makes g s p attrs (making d) None answer t) sound
      (λ d fit. makes_sound s t p attrs (making d) None answer sound live (fits d fit) tt) h

  creates_at_sound : (s t : State K T F I) (p : ℕ) (where_to : Place) (attrs : ℕ) (shadow : Option ℕ) (making : Option ℕ → Making K) (answer : Answer)
      → ((d : Option ℕ) → IsFitShadow s d → HasFitShadow s (body_made g (making d))) → IsSound s → CreatesAt g s p where_to attrs shadow making answer t → IsSound t
  creates_at_sound s t p where_to attrs shadow making answer fits sound h =
      unless_sound (create_refusals (is_live s p) (is_fit (making None)) where_to attrs) s t answer (CreatesIn g s p where_to attrs shadow making answer t) sound
      (λ e. creates_in_sound s t p where_to attrs shadow making answer fits sound (live_to_create (is_live s p) (is_fit (making None)) where_to attrs e)) h

  opens_name_sound : (s t : State K T F I) (p : ℕ) (root : Option ℕ) (name : List ℕ) (attrs : ℕ) (wanted : Wanted K) (answer : Answer)
      → IsSound s → OpensName g s p root name attrs wanted answer t → IsSound t
  opens_name_sound s t p root name attrs wanted answer sound h =
      unless_sound (open_refusals (is_live s p) name attrs) s t answer (WithRoot s p root answer t Does) sound
      (λ e. with_root_sound s t p root answer Does sound (λ at does.
      opens_sound s t p attrs wanted does.0 answer sound (live_to_open (is_live s p) name attrs e)
      (open_end g s p (open_mode wanted attrs) refl most_reparses at name does.0 does.1) does.2)) h
    where
      Does : Option ℕ → Type 0
      Does at = (look : Look) × LooksUp g s p (open_mode wanted attrs) most_reparses at name look × Opens g s p attrs wanted look answer t

  turns_sound : (s t : State K T F I) (p handle : ℕ) (permanent : Bool) (answer : Answer) → IsSound s → Turns g s p handle permanent answer t → IsSound t
  turns_sound s t p handle permanent answer sound h =
      with_handle_sound s t p handle answer (λ x. (answer ≡ answers Success) × (t ≡ settle g (turned s x.object permanent))) sound
      (λ x does. subst IsSound (sym does.1) (settled_sound g (turned s x.object permanent) (turned_sound s x.object permanent sound))) h

  sets_map_sound : (s t : State K T F I) (p handle : ℕ) (answer : Answer) → IsSound s → SetsMap g s p handle answer t → IsSound t
  sets_map_sound s t p handle answer sound h =
      with_handle_sound s t p handle answer
      (λ x. Unless ((not (is_directory s x.object), ObjectTypeMismatch) ∷ []) s answer t ((answer ≡ answers Success) × (t ≡ settle g (with_map s p x.object)))) sound
      (λ x.
      tested_sound (is_directory s x.object) ObjectTypeMismatch s t answer ((answer ≡ answers Success) × (t ≡ settle g (with_map s p x.object))) sound
      (λ directory does. subst IsSound (sym does.1) (settled_sound g (with_map s p x.object) (mapped_sound s p x.object directory sound)))) h

  queries_directory_sound : (s t : State K T F I) (p handle context room : ℕ) (single restart : Bool) (answer : Answer)
      → IsSound s → QueriesDirectory g s p handle context room single restart answer t → IsSound t
  queries_directory_sound s t p handle context room single restart answer sound h =
      unless_sound (page_refusals (is_live s p) room) s t answer
      (MatchOption (option_and_then (held_of s p) (key_of handle)) (IsRefused s InvalidHandle answer t) Pages) sound (λ e. go (option_and_then (held_of s p) (key_of handle))) h
    where
      Pages : Held → Type 0
      Pages x = TellsPage g s x.object (context_used restart context) room single answer t

      go : (o : Option Held) → MatchOption o (IsRefused s InvalidHandle answer t) Pages → IsSound t
      go None h = refused_sound s t InvalidHandle answer sound h
      go (Some x) h =
          unless_sound ((not (is_directory s x.object), ObjectTypeMismatch) ∷ []) s t answer
          ((answer ≡ page_answer (enumerated g s x.object (context_used restart context) room single)) × (t ≡ s)) sound (λ e does. subst IsSound (sym does.1) sound) h

  -- ---- the end of a pending open

  -- what a parse leads to, in the state in which it is judged
  ends_open_sound : (s t : State K T F I) (x : PendingOpen K) (outcome : Option (ParseOutcome F I)) (answer : Answer)
      → IsSound s → is_live s x.process ≡ true → EndsOpen g s x outcome answer t → IsSound t
  ends_open_sound s t x None answer sound live h = refused_sound s t NoMemory answer sound h
  ends_open_sound s t x (Some EndsItself) answer sound live h = opens_at_sound s t x.process x.attrs x.wanted Success x.object answer sound live h
  ends_open_sound s t x (Some (EndsMade face inner)) answer sound live h = opens_at_sound s t x.process x.attrs x.wanted Success x.ticket answer sound live h
  ends_open_sound s t x (Some (EndsReparse text)) answer sound live h =
      opens_sound s t x.process x.attrs x.wanted h.0 answer sound live (again_end g s x.process (open_mode x.wanted x.attrs) refl x.left text h.0 h.1) h.2
  ends_open_sound s t x (Some (EndsRefused k)) answer sound live h = refused_sound s t (TypeRefused k) answer sound h

  resumes_sound : (s t : State K T F I) (x : PendingOpen K) (outcome : Option (ParseOutcome F I)) (answer : Answer)
      → IsSound s → HasTicket s x → Resumes g s x outcome answer t → IsSound t
  resumes_sound s t x outcome answer sound ticket h =
      let u = parsed_state s x.ticket outcome in
      let u_sound = parsed_sound s x.ticket outcome ticket.0 ticket.1 sound in
      subst IsSound (sym h.2)
      (settled_sound g h.0
      (tested_sound (is_live s x.process) ProcessGone u h.0 answer (EndsOpen g u x outcome answer h.0) u_sound
      (λ live does. ends_open_sound u h.0 x outcome answer u_sound (live_then outcome live) does) h.1))
    where
      live_then : (outcome : Option (ParseOutcome F I)) → is_live s x.process ≡ true → is_live (parsed_state s x.ticket outcome) x.process ≡ true
      live_then None live = live
      live_then (Some EndsItself) live = live
      live_then (Some (EndsMade face inner)) live = live
      live_then (Some (EndsReparse text)) live = live
      live_then (Some (EndsRefused k)) live = live

  -- a step from a sound state leads to a sound one
  pub step_sound : (s t : State K T F I) (event : Event K) (answer : Answer) → IsSound s → Step g s event answer t → IsSound t
  step_sound s t (Start p (CreateDirectory where_to attrs)) answer sound h = creates_at_sound s t p where_to attrs None MakesDirectory answer (λ d fit. fit) sound h
  step_sound s t (Start p (CreateShadowed where_to attrs shadow)) answer sound h = creates_at_sound s t p where_to attrs (Some shadow) MakesDirectory answer (λ d fit. fit) sound h
  step_sound s t (Start p (CreateLink where_to attrs target)) answer sound h = creates_at_sound s t p where_to attrs None (λ shadow. MakesLink target) answer (λ d fit. tt) sound h
  step_sound s t (Start p (CreateObject where_to attrs kind args)) answer sound h = creates_at_sound s t p where_to attrs None (λ shadow. MakesObject kind args) answer (λ d fit. tt) sound h
  step_sound s t (Start p (OpenDirectory root name attrs)) answer sound h = opens_name_sound s t p root name attrs wanted.Directory answer sound h
  step_sound s t (Start p (OpenLink root name attrs)) answer sound h = opens_name_sound s t p root name attrs wanted.Link answer sound h
  step_sound s t (Start p (OpenObject root name attrs want)) answer sound h = opens_name_sound s t p root name attrs (type_wanted want) answer sound h
  step_sound s t (Start p (Close handle)) answer sound h =
      with_handle_sound s t p handle answer (λ x. (answer ≡ answers Success) × (t ≡ settle g (closed_handle g s x))) sound
      (λ x does. subst IsSound (sym does.1) (settled_sound g (closed_handle g s x) (closed_sound g s x sound))) h
  step_sound s t (Start p (QueryLink handle)) answer sound h =
      with_handle_sound s t p handle answer (λ x. TellsTarget s x.object answer × (t ≡ s)) sound (λ x does. subst IsSound (sym does.1) sound) h
  step_sound s t (Start p (QueryName handle)) answer sound h =
      with_handle_sound s t p handle answer (λ x. TellsName s x.object answer × (t ≡ s)) sound (λ x does. subst IsSound (sym does.1) sound) h
  step_sound s t (Start p (QueryDirectory handle context room single restart)) answer sound h = queries_directory_sound s t p handle context room single restart answer sound h
  step_sound s t (Start p (Duplicate handle to inherit)) answer sound h = duplicates_sound g s t p handle to inherit answer sound h
  step_sound s t (Start p (MakeTemporary handle)) answer sound h = turns_sound s t p handle false answer sound h
  step_sound s t (Start p (MakePermanent handle)) answer sound h = turns_sound s t p handle true answer sound h
  step_sound s t (Start p (SetDeviceMap handle)) answer sound h = sets_map_sound s t p handle answer sound h
  step_sound s t (Start p (NewProcess inherit)) answer sound h =
      unless_sound ((not (is_live s p), ProcessGone) ∷ (is_crowded s p inherit, InsufficientResources) ∷ []) s t answer
      (let u = begun g s p inherit in (answer ≡ gives Success (Process s.next_process (values_in u s.next_process))) × (t ≡ settle g u)) sound
      (λ e does. subst IsSound (sym does.1) (settled_sound g (begun g s p inherit) (begun_sound g s p inherit sound))) h
  step_sound s t (Start p ExitProcess) answer sound h =
      unless_sound ((not (is_live s p), ProcessGone) ∷ []) s t answer ((answer ≡ answers Success) × (t ≡ settle g (ended g s p))) sound
      (λ e does. subst IsSound (sym does.1) (settled_sound g (ended g s p) (ended_sound g s p sound))) h
  step_sound s t (Resume ticket parse) answer sound h = go (pending_of s ticket) (has_ticket s ticket sound) h.2
    where
      go : (found : Option (PendingOpen K)) → MatchOption found (Unit {0}) (HasTicket s) → MatchOption found ⊥ (λ x. Resumes g s x h.0 answer t) → IsSound t
      go None has does = absurd does
      go (Some x) has does = resumes_sound s t x h.0 answer sound has does
  step_sound s t (Abandon ticket parse) answer sound h = go (pending_of s ticket) (has_ticket s ticket sound) h.2
    where
      go : (found : Option (PendingOpen K)) → MatchOption found (Unit {0}) (HasTicket s) → MatchOption found ⊥ (λ x. Abandons g s x h.0 answer t) → IsSound t
      go None has does = absurd does
      go (Some x) has does =
          subst IsSound (sym does.1) (settled_sound g (parsed_state s x.ticket h.0) (parsed_sound s x.ticket h.0 has.0 has.1 sound))
