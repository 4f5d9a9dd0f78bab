-- The handles of a state that a run leads to have handle values: multiples of four up to 262,140.
use Rattle.std.proofs.Common.{◌≡◌, ℕ, ◌+◌, ◌&&◌, ◌==◌, Bool, true, false, not, cond, List, [], ◌∷◌, All, Option, None, Some, Result, Ok, Err, MatchOption, MatchResult, sym, subst}
use Rattle.std.specs.Prelude.{MatchBool}
use Rattle.std.specs.Option.{option_and_then, option_map_or}
use Rattle.std.proofs.lemmas.List.Elements.{All-filter, All-head, All-nil, All-push, All-tail}
use Rattle.ob_base.specs.declared.status.Status.{Status}
use Rattle.ob_base.specs.declared.status.Status.TheVariants.{NoMemory, Success, InvalidHandle, InsufficientResources, ObjectTypeMismatch, ObjectNameExists, ObjectNameCollision, ProcessGone, TypeRefused}
use Rattle.ob_base.specs.Attrs.{has_flag, open_if_flag}
use Rattle.ob_base.specs.Handle.{key_of}
use Rattle.ob_core.specs.Reached.{IsReached}
use Rattle.ob_model.specs.Closing.{closed_handle, is_handle}
use Rattle.ob_model.specs.Creates.{Making, MakesDirectory, MakesLink, MakesObject, is_fit, create_mode, type_made, Spot, room_refusals, make_refusal, body_made, created, dropped, Makes, Creates}
use Rattle.ob_model.specs.Enumeration.{enumerated, context_used, page_answer}
use Rattle.ob_model.specs.Grants.{first_refusal, Grants, IsFreeValue, IsHandleValue, open_refusal, open_refusal_of, with_handle, with_open}
use Rattle.ob_model.specs.Looks.{Look, At, Vacant, Parse, Refused, LooksUp, most_reparses}
use Rattle.ob_model.specs.Maps.{with_map}
use Rattle.ob_model.specs.Naming.{TellsName, TellsTarget}
use Rattle.ob_model.specs.Opening.{opening}
use Rattle.ob_model.specs.Opens.{GivesHandle, OpensAt, Opens, options_by, type_wanted, open_mode}
use Rattle.ob_model.specs.Parses.{parsed_state, EndsOpen, Resumes, Abandons}
use Rattle.ob_model.specs.PendingOpens.{pending_of, with_pending}
use Rattle.ob_model.specs.Permanence.{turned, with_permanence}
use Rattle.ob_model.specs.Procedures.{Procedures, ParseOutcome, EndsItself, EndsMade, EndsReparse, EndsRefused}
use Rattle.ob_model.specs.Processes.{values_in, handles_in, inherited_from, inherits, inherits_one, closed_in_turn, is_crowded, begun, ended, with_child}
use Rattle.ob_model.specs.Refusals.{gives, answers, IsRefused, Unless, create_refusals, open_refusals}
use Rattle.ob_model.specs.Run.{Entry, RunFrom}
use Rattle.ob_model.specs.Settle.{has_name, settle}
use Rattle.ob_model.specs.State.{State, is_live, is_directory, is_store_full, held_of}
use Rattle.ob_model.specs.Step.{WithHandle, WithRoot, shadow_refusals, WithShadow, CreatesIn, CreatesAt, OpensName, page_refusals, TellsPage, Step}
use Rattle.ob_model.specs.Types.{is_wanted_at}
use Rattle.ob_model.specs.declared.command.Place.{Place}
use Rattle.ob_model.specs.declared.command.Place.TheVariants as place
use Rattle.ob_model.specs.declared.command.Command.{Command}
use Rattle.ob_model.specs.declared.command.Command.TheVariants.{CreateDirectory, CreateShadowed, CreateLink, CreateObject, OpenDirectory, OpenLink, OpenObject, Close, QueryLink, QueryName, QueryDirectory, Duplicate, MakeTemporary, MakePermanent, SetDeviceMap, NewProcess, ExitProcess}
use Rattle.ob_model.specs.declared.reply.Answer.{Answer}
use Rattle.ob_model.specs.declared.reply.Answer.TheVariants.{Ticket}
use Rattle.ob_model.specs.declared.reply.Event.{Event}
use Rattle.ob_model.specs.declared.reply.Event.TheVariants.{Start, Resume, Abandon}
use Rattle.ob_model.specs.declared.reply.Given.TheVariants.{Handle, Process}
use Rattle.ob_model.specs.declared.state.Held.{Held}
use Rattle.ob_model.specs.declared.state.PendingOpen.{PendingOpen}
use Rattle.ob_model.specs.declared.state.Wanted.{Wanted}
use Rattle.ob_model.specs.declared.state.Wanted.TheVariants as wanted
use Rattle.ob_model.specs.declared.terms.GrantOptions.{GrantOptions}
use Rattle.ob_model.specs.declared.terms.Reason.{Reason}
use Rattle.ob_model.specs.declared.terms.Reason.TheVariants.{Opened, Created, Duplicated, Inherited}

abbrev AreValues : List Held → Type 0
AreValues hs = All (λ h. IsHandleValue h.value) hs

module _ {K T F I : Type 0} where
  abbrev pub HasValues : State K T F I → Type 0
  HasValues s = All (λ h. IsHandleValue h.value) s.handles

  refused_values : (s t : State K T F I) (status : Status) (answer : Answer) → HasValues s → IsRefused s status answer t → HasValues t
  refused_values s t status answer has h = subst HasValues (sym h.1) has

  unless_values : (refusals : List (Bool × Status)) (s t : State K T F I) (answer : Answer) (Does : Type 0) → HasValues s → (Does → HasValues t) → Unless refusals s answer t Does → HasValues t
  unless_values refusals s t answer Does has does h = go (first_refusal refusals) h
    where
      go : (refusal : Option Status) → MatchOption refusal Does (λ status. IsRefused s status answer t) → HasValues t
      go None h = does h
      go (Some status) h = refused_values s t status answer has h

  found_values : (found : Option Held) (s t : State K T F I) (answer : Answer) (Does : Held → Type 0) → HasValues s → ((h : Held) → Does h → HasValues t)
      → MatchOption found (IsRefused s InvalidHandle answer t) Does → HasValues t
  found_values None s t answer Does has does h = refused_values s t InvalidHandle answer has h
  found_values (Some x) s t answer Does has does h = does x h

  with_handle_values : (s t : State K T F I) (p handle : ℕ) (answer : Answer) (Does : Held → Type 0) → HasValues s → ((h : Held) → Does h → HasValues t) → WithHandle s p handle answer t Does
      → HasValues t
  with_handle_values s t p handle answer Does has does h =
      unless_values ((not (is_live s p), ProcessGone) ∷ []) s t answer (MatchOption (option_and_then (held_of s p) (key_of handle)) (IsRefused s InvalidHandle answer t) Does) has
      (found_values (option_and_then (held_of s p) (key_of handle)) s t answer Does has does) h

  with_root_values : (s t : State K T F I) (p : ℕ) (root : Option ℕ) (answer : Answer) (Does : Option ℕ → Type 0) → HasValues s → ((at : Option ℕ) → Does at → HasValues t)
      → WithRoot s p root answer t Does → HasValues t
  with_root_values s t p None answer Does has does h = does None h
  with_root_values s t p (Some handle) answer Does has does h =
      found_values (option_and_then (held_of s p) (key_of handle)) s t answer (λ x. Does (Some x.object)) has (λ x. does (Some x.object)) h

  with_shadow_values : (s t : State K T F I) (p : ℕ) (shadow : Option ℕ) (answer : Answer) (Does : Option ℕ → Type 0) → HasValues s → ((d : Option ℕ) → Does d → HasValues t)
      → WithShadow s p shadow answer t Does → HasValues t
  with_shadow_values s t p None answer Does has does h = does None h
  with_shadow_values s t p (Some handle) answer Does has does h =
      found_values (option_and_then (held_of s p) (key_of handle)) s t answer (λ x. Unless (shadow_refusals s x.object) s answer t (Does (Some x.object))) has
      (λ x. unless_values (shadow_refusals s x.object) s t answer (Does (Some x.object)) has (does (Some x.object))) h

  one_more : (s : State K T F I) (p value o : ℕ) (inherit : Bool) → IsHandleValue value → HasValues s → HasValues (with_handle s p value o inherit)
  one_more s p value o inherit valid has =
      All-push (λ h. IsHandleValue h.value) s.handles (record { process = p; value = value; object = o; inherit = inherit; order = s.next_order }) has valid

module _ {K T F I : Type 0} (g : Procedures K T F I) where
  -- ---- grants, opens and creates

  gives_handle_values : (s t : State K T F I) (p o : ℕ) (asked : GrantOptions) (reason : Reason) (status : Status) (answer : Answer) → HasValues s
      → GivesHandle g s p o asked reason status answer t → HasValues t
  gives_handle_values s t p o asked reason status answer has h = go h.0 h.1 h.2 h.3
    where
      go : (result : Result ℕ Status) (u : State K T F I) → Grants g s p o asked reason result u
          → MatchResult result (λ value. (answer ≡ gives status (Handle value)) × (t ≡ settle g u)) (λ refusal. IsRefused s refusal answer t) → HasValues t
      go (Ok value) u granted does =
          subst HasValues (sym does.1) (subst (λ (w : State K T F I). HasValues (settle g w)) (sym granted.2) (one_more (with_open g s o reason) p value o asked.inherit granted.1.0 has))
      go (Err refusal) u granted does = refused_values s t refusal answer has does

  opens_at_values : (s t : State K T F I) (p attrs : ℕ) (wanted : Wanted K) (status : Status) (o : ℕ) (answer : Answer) → HasValues s → OpensAt g s p attrs wanted status o answer t → HasValues t
  opens_at_values s t p attrs wanted status o answer has h =
      unless_values ((not (is_wanted_at g s o wanted), ObjectTypeMismatch) ∷ []) s t answer (GivesHandle g s p o (options_by attrs) Opened status answer t) has
      (gives_handle_values s t p o (options_by attrs) Opened status answer has) h

  opens_values : (s t : State K T F I) (p attrs : ℕ) (wanted : Wanted K) (look : Look) (answer : Answer) → HasValues s → Opens g s p attrs wanted look answer t → HasValues t
  opens_values s t p attrs wanted (Refused status) answer has h = refused_values s t status answer has h
  opens_values s t p attrs wanted (Vacant d c) answer has h = absurd h
  opens_values s t p attrs wanted (Parse o rest n) answer has h =
      unless_values ((is_store_full s, InsufficientResources) ∷ []) s t answer ((answer ≡ Ticket s.next_id) × (t ≡ settle g (with_pending s p attrs wanted o rest n))) has
      (λ does. subst HasValues (sym does.1) has) h
  opens_values s t p attrs wanted (At o) answer has h = opens_at_values s t p attrs wanted Success o answer has h

  makes_values : (s t : State K T F I) (p attrs : ℕ) (making : Making K) (spot : Spot) (answer : Answer) → HasValues s → Makes g s p attrs making spot answer t → HasValues t
  makes_values s t p attrs making spot answer has h = unless_values (room_refusals s p spot) s t answer _ has (go (make_refusal g making)) h
    where
      Made : Type 0
      Made = (value : ℕ) × IsFreeValue s p value × (answer ≡ gives Success (Handle value)) × (t ≡ settle g (created g s p spot (body_made g making) attrs value))

      DroppedFor : ℕ → Type 0
      DroppedFor k = (answer ≡ answers (TypeRefused k)) × (t ≡ dropped g s (body_made g making))

      opened : (refusal : Option ℕ) → MatchOption refusal Made DroppedFor → HasValues t
      opened None h =
          subst HasValues (sym h.3) (All-push (λ x. IsHandleValue x.value) s.handles (record { process = p; value = h.0; object = s.next_id; inherit = _; order = s.next_order }) has h.1.0)
      opened (Some k) h = subst HasValues (sym h.1) has

      go : (refusal : Option ℕ) → MatchOption refusal (MatchOption (open_refusal_of g s.set (body_made g making) Created) Made DroppedFor) (λ k. IsRefused s (TypeRefused k) answer t) → HasValues t
      go None h = opened (open_refusal_of g s.set (body_made g making) Created) h
      go (Some k) h = refused_values s t (TypeRefused k) answer has h

  creates_values : (s t : State K T F I) (p attrs : ℕ) (making : Making K) (look : Look) (answer : Answer) → HasValues s → Creates g s p attrs making look answer t → HasValues t
  creates_values s t p attrs making (Refused status) answer has h = refused_values s t status answer has h
  creates_values s t p attrs making (At o) answer has h = go (has_flag open_if_flag attrs) h
    where
      go : (opens : Bool) → MatchBool opens (OpensAt g s p attrs (type_made making) ObjectNameExists o answer t) (IsRefused s ObjectNameCollision answer t) → HasValues t
      go true h = opens_at_values s t p attrs (type_made making) ObjectNameExists o answer has h
      go false h = refused_values s t ObjectNameCollision answer has h
  creates_values s t p attrs making (Parse o rest n) answer has h = absurd h
  creates_values s t p attrs making (Vacant d c) answer has h = makes_values s t p attrs making (Some (d, c)) answer has h

  creates_in_values : (s t : State K T F I) (p : ℕ) (where_to : Place) (attrs : ℕ) (shadow : Option ℕ) (making : Option ℕ → Making K) (answer : Answer) → HasValues s
      → CreatesIn g s p where_to attrs shadow making answer t → HasValues t
  creates_in_values s t p (place.At root name) attrs shadow making answer has h =
      with_root_values s t p root answer (λ at. WithShadow s p shadow answer t (Does at)) has
      (λ at. with_shadow_values s t p shadow answer (Does at) has (λ d does. creates_values s t p attrs (making d) does.0 answer has does.2)) h
    where
      Does : Option ℕ → Option ℕ → Type 0
      Does at d = (look : Look) × LooksUp g s p (create_mode attrs) most_reparses at name look × Creates g s p attrs (making d) look answer t
  creates_in_values s t p place.Unnamed attrs shadow making answer has h =
      with_shadow_values s t p shadow answer (λ d. Makes g s p attrs (making d) None answer t) has (λ d. makes_values s t p attrs (making d) None answer has) h

  creates_at_values : (s t : State K T F I) (p : ℕ) (where_to : Place) (attrs : ℕ) (shadow : Option ℕ) (making : Option ℕ → Making K) (answer : Answer) → HasValues s
      → CreatesAt g s p where_to attrs shadow making answer t → HasValues t
  creates_at_values s t p where_to attrs shadow making answer has h =
      unless_values (create_refusals (is_live s p) (is_fit (making None)) where_to attrs) s t answer (CreatesIn g s p where_to attrs shadow making answer t) has
      (creates_in_values s t p where_to attrs shadow making answer has) h

  opens_name_values : (s t : State K T F I) (p : ℕ) (root : Option ℕ) (name : List ℕ) (attrs : ℕ) (wanted : Wanted K) (answer : Answer) → HasValues s
      → OpensName g s p root name attrs wanted answer t → HasValues t
  opens_name_values s t p root name attrs wanted answer has h =
      unless_values (open_refusals (is_live s p) name attrs) s t answer (WithRoot s p root answer t Does) has
      (with_root_values s t p root answer Does has (λ at does. opens_values s t p attrs wanted does.0 answer has does.2)) h
    where
      Does : Option ℕ → Type 0
      Does at = (look : Look) × LooksUp g s p (open_mode wanted attrs) most_reparses at name look × Opens g s p attrs wanted look answer t

  queries_directory_values : (s t : State K T F I) (p handle context room : ℕ) (single restart : Bool) (answer : Answer) → HasValues s
      → Step g s (Start p (QueryDirectory handle context room single restart)) answer t → HasValues t
  queries_directory_values s t p handle context room single restart answer has h =
      unless_values (page_refusals (is_live s p) room) s t answer
      (MatchOption (option_and_then (held_of s p) (key_of handle)) (IsRefused s InvalidHandle answer t) (λ x. TellsPage g s x.object (context_used restart context) room single answer t)) has
      (found_values (option_and_then (held_of s p) (key_of handle)) s t answer (λ x. TellsPage g s x.object (context_used restart context) room single answer t) has
      (λ x.
      unless_values ((not (is_directory s x.object), ObjectTypeMismatch) ∷ []) s t answer
      ((answer ≡ page_answer (enumerated g s x.object (context_used restart context) room single)) × (t ≡ s)) has (λ does. subst HasValues (sym does.1) has))) h

  -- ---- processes

  inherits_values : (s : State K T F I) (child : ℕ) (hs : List Held) → AreValues hs → HasValues s → HasValues (inherits g s child hs)
  inherits_values s child [] are has = has
  inherits_values s child (h ∷ hs) are has =
      inherits_values (inherits_one g s child h) child hs (All-tail (λ x. IsHandleValue x.value) h hs are) (go (open_refusal g s h.object Inherited))
    where
      go : (refusal : Option ℕ) → HasValues (option_map_or (λ _. record s { next_order = s.next_order + 1 }) refusal (with_handle (with_open g s h.object Inherited) child h.value h.object true))
      go None = one_more (with_open g s h.object Inherited) child h.value h.object true (All-head (λ x. IsHandleValue x.value) h hs are) has
      go (Some k) = has

  begun_values : (s : State K T F I) (p : ℕ) (inherit : Bool) → HasValues s → HasValues (begun g s p inherit)
  begun_values s p inherit has =
      inherits_values (with_child s p) s.next_process (inherited_from s p inherit)
      (All-filter (λ h. h.inherit && inherit) (λ h. IsHandleValue h.value) (handles_in s p) (All-filter (λ h. h.process == p) (λ h. IsHandleValue h.value) s.handles has)) has

  closed_values : (s : State K T F I) (h : Held) → HasValues s → HasValues (closed_handle g s h)
  closed_values s h has = All-filter (λ k. not (is_handle h.process h.value k)) (λ k. IsHandleValue k.value) s.handles has

  in_turn_values : (s : State K T F I) (hs : List Held) → HasValues s → HasValues (closed_in_turn g s hs)
  in_turn_values s [] has = has
  in_turn_values s (h ∷ hs) has = in_turn_values (closed_handle g s h) hs (closed_values s h has)

  turned_values : (s : State K T F I) (o : ℕ) (permanent : Bool) → HasValues s → HasValues (turned s o permanent)
  turned_values s o permanent has = go (permanent && not (has_name s o))
    where
      go : (unnamed : Bool) → HasValues (cond unnamed s (with_permanence s o permanent))
      go true = has
      go false = has

  -- ---- the ends of pending opens

  parsed_values : (s : State K T F I) (ticket : ℕ) (outcome : Option (ParseOutcome F I)) → HasValues s → HasValues (parsed_state s ticket outcome)
  parsed_values s ticket None has = has
  parsed_values s ticket (Some EndsItself) has = has
  parsed_values s ticket (Some (EndsMade face inner)) has = has
  parsed_values s ticket (Some (EndsReparse text)) has = has
  parsed_values s ticket (Some (EndsRefused k)) has = has

  ends_open_values : (s t : State K T F I) (x : PendingOpen K) (outcome : Option (ParseOutcome F I)) (answer : Answer) → HasValues s → EndsOpen g s x outcome answer t → HasValues t
  ends_open_values s t x None answer has h = refused_values s t NoMemory answer has h
  ends_open_values s t x (Some EndsItself) answer has h = opens_at_values s t x.process x.attrs x.wanted Success x.object answer has h
  ends_open_values s t x (Some (EndsMade face inner)) answer has h = opens_at_values s t x.process x.attrs x.wanted Success x.ticket answer has h
  ends_open_values s t x (Some (EndsReparse text)) answer has h = opens_values s t x.process x.attrs x.wanted h.0 answer has h.2
  ends_open_values s t x (Some (EndsRefused k)) answer has h = refused_values s t (TypeRefused k) answer has h

  resumes_values : (s t : State K T F I) (x : PendingOpen K) (outcome : Option (ParseOutcome F I)) (answer : Answer) → HasValues s → Resumes g s x outcome answer t → HasValues t
  resumes_values s t x outcome answer has h =
      let u = parsed_state s x.ticket outcome in
      let u_has = parsed_values s x.ticket outcome has in
      subst HasValues (sym h.2)
      (unless_values ((not (is_live s x.process), ProcessGone) ∷ []) u h.0 answer (EndsOpen g u x outcome answer h.0) u_has (ends_open_values u h.0 x outcome answer u_has) h.1)

  -- ---- runs

  start_values : (s t : State K T F I) (p : ℕ) (command : Command K) (answer : Answer) → HasValues s → Step g s (Start p command) answer t → HasValues t
  start_values s t p (CreateDirectory where_to attrs) answer has h = creates_at_values s t p where_to attrs None MakesDirectory answer has h
  start_values s t p (CreateShadowed where_to attrs shadow) answer has h = creates_at_values s t p where_to attrs (Some shadow) MakesDirectory answer has h
  start_values s t p (CreateLink where_to attrs target) answer has h = creates_at_values s t p where_to attrs None (λ shadow. MakesLink target) answer has h
  start_values s t p (CreateObject where_to attrs kind args) answer has h = creates_at_values s t p where_to attrs None (λ shadow. MakesObject kind args) answer has h
  start_values s t p (OpenDirectory root name attrs) answer has h = opens_name_values s t p root name attrs wanted.Directory answer has h
  start_values s t p (OpenLink root name attrs) answer has h = opens_name_values s t p root name attrs wanted.Link answer has h
  start_values s t p (OpenObject root name attrs want) answer has h = opens_name_values s t p root name attrs (type_wanted want) answer has h
  start_values s t p (Close handle) answer has h =
      with_handle_values s t p handle answer (λ x. (answer ≡ answers Success) × (t ≡ settle g (closed_handle g s x))) has (λ x does. subst HasValues (sym does.1) (closed_values s x has)) h
  start_values s t p (QueryLink handle) answer has h =
      with_handle_values s t p handle answer (λ x. TellsTarget s x.object answer × (t ≡ s)) has (λ x does. subst HasValues (sym does.1) has) h
  start_values s t p (QueryName handle) answer has h =
      with_handle_values s t p handle answer (λ x. TellsName s x.object answer × (t ≡ s)) has (λ x does. subst HasValues (sym does.1) has) h
  start_values s t p (QueryDirectory handle context room single restart) answer has h = queries_directory_values s t p handle context room single restart answer has h
  start_values s t p (Duplicate handle to inherit) answer has h =
      unless_values ((not (is_live s p), ProcessGone) ∷ (not (is_live s to), ProcessGone) ∷ []) s t answer
      (MatchOption (option_and_then (held_of s p) (key_of handle)) (IsRefused s InvalidHandle answer t) (Gives)) has
      (found_values (option_and_then (held_of s p) (key_of handle)) s t answer Gives has
      (λ x. gives_handle_values s t to x.object (record { inherit = inherit; exclusive = false }) Duplicated Success answer has)) h
    where
      Gives : Held → Type 0
      Gives x = GivesHandle g s to x.object (record { inherit = inherit; exclusive = false }) Duplicated Success answer t
  start_values s t p (MakeTemporary handle) answer has h =
      with_handle_values s t p handle answer (λ x. (answer ≡ answers Success) × (t ≡ settle g (turned s x.object false))) has
      (λ x does. subst HasValues (sym does.1) (turned_values s x.object false has)) h
  start_values s t p (MakePermanent handle) answer has h =
      with_handle_values s t p handle answer (λ x. (answer ≡ answers Success) × (t ≡ settle g (turned s x.object true))) has
      (λ x does. subst HasValues (sym does.1) (turned_values s x.object true has)) h
  start_values s t p (SetDeviceMap handle) answer has h =
      with_handle_values s t p handle answer
      (λ x. Unless ((not (is_directory s x.object), ObjectTypeMismatch) ∷ []) s answer t ((answer ≡ answers Success) × (t ≡ settle g (with_map s p x.object)))) has
      (λ x.
      unless_values ((not (is_directory s x.object), ObjectTypeMismatch) ∷ []) s t answer ((answer ≡ answers Success) × (t ≡ settle g (with_map s p x.object))) has
      (λ does. subst HasValues (sym does.1) has)) h
  start_values s t p (NewProcess inherit) answer has h =
      unless_values ((not (is_live s p), ProcessGone) ∷ (is_crowded s p inherit, InsufficientResources) ∷ []) s t answer
      (let u = begun g s p inherit in (answer ≡ gives Success (Process s.next_process (values_in u s.next_process))) × (t ≡ settle g u)) has
      (λ does. subst HasValues (sym does.1) (begun_values s p inherit has)) h
  start_values s t p ExitProcess answer has h =
      unless_values ((not (is_live s p), ProcessGone) ∷ []) s t answer ((answer ≡ answers Success) × (t ≡ settle g (ended g s p))) has
      (λ does. subst HasValues (sym does.1) (in_turn_values s (handles_in s p) has)) h

  step_values : (s t : State K T F I) (event : Event K) (answer : Answer) → HasValues s → Step g s event answer t → HasValues t
  step_values s t (Start p command) answer has h = start_values s t p command answer has h
  step_values s t (Resume ticket parse) answer has h = go (pending_of s ticket) h.2
    where
      go : (found : Option (PendingOpen K)) → MatchOption found ⊥ (λ x. Resumes g s x h.0 answer t) → HasValues t
      go None does = absurd does
      go (Some x) does = resumes_values s t x h.0 answer has does
  step_values s t (Abandon ticket parse) answer has h = go (pending_of s ticket) h.2
    where
      go : (found : Option (PendingOpen K)) → MatchOption found ⊥ (λ x. Abandons g s x h.0 answer t) → HasValues t
      go None does = absurd does
      go (Some x) does = subst HasValues (sym does.1) (parsed_values s x.ticket h.0 has)

  run_values : (s : State K T F I) (n : ℕ) (entries : List (Entry K)) (t : State K T F I) → HasValues s → RunFrom g s n entries t → HasValues t
  run_values s n [] t has run = subst HasValues (sym run) has
  run_values s n (e ∷ entries) t has run = run_values run.0 (n + 1) entries t (step_values s run.0 e.event e.answer has run.2) run.3

  pub reached_values : (s : State K T F I) → IsReached g s → HasValues s
  reached_values s reached = run_values (opening reached.0) 0 reached.1 s (All-nil (λ h. IsHandleValue h.value)) reached.2
