-- What a start leads to: the state as it was, one whose new object was dropped, or one that settled after a
-- handle was granted, an object made, a handle closed, an object made permanent or temporary, a device map
-- set, a process begun or ended, or an open begun that is pending; and what the end of a pending open leads to.
use Rattle.std.proofs.Common.{◌≡◌, ℕ, Bool, true, false, ◌||◌, not, refl, List, [], ◌∷◌, Option, None, Some, Result, Ok, Err, MatchOption, MatchResult, sym, subst}
use Rattle.std.specs.Prelude.{MatchBool}
use Rattle.std.specs.Option.{option_and_then}
use Rattle.ob_base.specs.declared.status.Status.{Status}
use Rattle.ob_base.specs.declared.status.Status.TheVariants.{NoMemory, Success, InvalidHandle, InvalidParameter, InsufficientResources, ObjectTypeMismatch, ObjectNameExists, ObjectNameCollision, ProcessGone, TypeRefused}
use Rattle.ob_base.specs.Attrs.{has_flag, open_if_flag, are_lawful}
use Rattle.ob_base.specs.Handle.{key_of}
use Rattle.ob_model.specs.declared.command.Place.{Place}
use Rattle.ob_model.specs.declared.command.Place.TheVariants as place
use Rattle.ob_model.specs.declared.command.Command.TheVariants.{CreateDirectory, CreateShadowed, CreateLink, CreateObject, OpenDirectory, OpenLink, OpenObject, Close, QueryLink, QueryName, QueryDirectory, Duplicate, MakeTemporary, MakePermanent, SetDeviceMap, NewProcess, ExitProcess}
use Rattle.ob_model.specs.declared.command.Command.{Command}
use Rattle.ob_model.specs.declared.reply.Answer.{Answer}
use Rattle.ob_model.specs.declared.reply.Answer.TheVariants.{Ticket}
use Rattle.ob_model.specs.declared.reply.Event.TheVariants.{Start}
use Rattle.ob_model.specs.declared.reply.Given.TheVariants.{Handle, Process}
use Rattle.ob_model.specs.declared.state.Held.{Held}
use Rattle.ob_model.specs.declared.state.Body.{Body}
use Rattle.ob_model.specs.declared.state.PendingOpen.{PendingOpen}
use Rattle.ob_model.specs.declared.state.Wanted.{Wanted}
use Rattle.ob_model.specs.declared.state.Wanted.TheVariants as wanted
use Rattle.ob_model.specs.State.{State, is_live, is_directory, is_store_full, held_of}
use Rattle.ob_model.specs.Looks.{Look, At, Vacant, Parse, Refused, LooksUp, most_reparses}
use Rattle.ob_model.specs.declared.terms.Reason.{Reason}
use Rattle.ob_model.specs.declared.terms.Reason.TheVariants.{Opened, Created, Duplicated}
use Rattle.ob_model.specs.Procedures.{Procedures, ParseOutcome, EndsItself, EndsMade, EndsReparse, EndsRefused}
use Rattle.ob_model.specs.Settle.{settle}
use Rattle.ob_model.specs.declared.terms.GrantOptions.{GrantOptions}
use Rattle.ob_model.specs.Grants.{first_refusal, Grants, grant_refusal, IsFreeValue, open_refusal_of, with_open, with_handle}
use Rattle.ob_model.specs.Closing.{closed_handle}
use Rattle.ob_model.specs.Permanence.{turned}
use Rattle.ob_model.specs.Maps.{with_map}
use Rattle.ob_model.specs.Types.{is_wanted_at}
use Rattle.ob_model.specs.Refusals.{gives, answers, IsRefused, Unless, name_refusals, create_refusals, open_refusals}
use Rattle.ob_model.specs.PendingOpens.{with_pending}
use Rattle.ob_model.specs.Parses.{EndsOpen}
use Rattle.ob_model.specs.Opens.{GivesHandle, OpensAt, Opens, options_by, type_wanted, open_mode}
use Rattle.ob_model.specs.Creates.{Making, MakesDirectory, MakesLink, MakesObject, is_fit, create_mode, type_made, Spot, room_refusals, make_refusal, body_made, created, dropped, Makes, Creates}
use Rattle.ob_model.specs.Naming.{TellsName, TellsTarget}
use Rattle.ob_model.specs.Enumeration.{enumerated, context_used, page_answer}
use Rattle.ob_model.specs.Processes.{values_in, is_crowded, begun, ended}
use Rattle.ob_model.specs.Step.{WithHandle, WithRoot, shadow_refusals, WithShadow, CreatesIn, CreatesAt, OpensName, Turns, SetsMap, page_refusals, TellsPage, QueriesDirectory, Step}

-- where a create isn't refused at first, its flags are lawful
lawful_to_create : (live fit : Bool) (where_to : Place) (attrs : ℕ) → first_refusal (create_refusals live fit where_to attrs) ≡ None → are_lawful attrs ≡ true
lawful_to_create false fit (place.At root name) attrs e = cc
lawful_to_create false fit place.Unnamed attrs e = cc
lawful_to_create true fit (place.At root name) attrs e = go (are_lawful attrs) e
  where
    go : (lawful : Bool) → first_refusal ((false, ProcessGone) ∷ (not lawful || not fit, InvalidParameter) ∷ name_refusals name) ≡ None → lawful ≡ true
    go true e = refl
    go false e = cc
lawful_to_create true fit place.Unnamed attrs e = go (are_lawful attrs) e
  where
    go : (lawful : Bool) → first_refusal ((false, ProcessGone) ∷ (not lawful || not fit, InvalidParameter) ∷ []) ≡ None → lawful ≡ true
    go true e = refl
    go false e = cc

-- how a state comes from one: by a start, or by what a parse leads to in the state in which it is judged
pub data Came {K T F I : Type 0} (g : Procedures K T F I) (s t : State K T F I) : Type 0 where
  started : (p : ℕ) (command : Command K) (answer : Answer) → Step g s (Start p command) answer t → Came g s t
  judged : (refusals : List (Bool × Status)) (x : PendingOpen K) (outcome : Option (ParseOutcome F I)) (answer : Answer) → Unless refusals s answer t (EndsOpen g s x outcome answer t) → Came g s t

module _ {K T F I : Type 0} (g : Procedures K T F I) (s : State K T F I) (P : State K T F I → Type 0) (same : P s)
    (drops : (body : Body F I) → P (dropped g s body))
    (grants : (p value o : ℕ) (asked : GrantOptions) (reason : Reason) → grant_refusal g s p o asked reason ≡ None → P (settle g (with_handle (with_open g s o reason) p value o asked.inherit)))
    (makes : (p : ℕ) (spot : Spot) (body : Body F I) (attrs value : ℕ) → are_lawful attrs ≡ true → P (settle g (created g s p spot body attrs value)))
    (closes : (h : Held) → P (settle g (closed_handle g s h)))
    (turns : (o : ℕ) (permanent : Bool) → P (settle g (turned s o permanent)))
    (sets_map : (p d : ℕ) → P (settle g (with_map s p d)))
    (begins : (p : ℕ) (inherit : Bool) → P (settle g (begun g s p inherit)))
    (ends : (p : ℕ) → P (settle g (ended g s p)))
    (waits : (p attrs : ℕ) (wanted : Wanted K) (o : ℕ) (rest : List ℕ) (n : ℕ) → P (settle g (with_pending s p attrs wanted o rest n))) where
  -- a step that is refused leaves the state
  refused_leads : (t : State K T F I) (status : Status) (answer : Answer) → IsRefused s status answer t → P t
  refused_leads t status answer h = subst P (sym h.1) same

  -- a step that is refused, or else does what leads there
  unless_leads : (refusals : List (Bool × Status)) (t : State K T F I) (answer : Answer) (Does : Type 0)
      → (first_refusal refusals ≡ None → Does → P t) → Unless refusals s answer t Does → P t
  unless_leads refusals t answer Does does h = go (first_refusal refusals) refl h
    where
      go : (refusal : Option Status) → first_refusal refusals ≡ refusal → MatchOption refusal Does (λ status. IsRefused s status answer t) → P t
      go None e h = does e h
      go (Some status) e h = refused_leads t status answer h

  -- a step that uses a handle
  with_handle_leads : (t : State K T F I) (p handle : ℕ) (answer : Answer) (Does : Held → Type 0) → ((h : Held) → Does h → P t) → WithHandle s p handle answer t Does → P t
  with_handle_leads t p handle answer Does does h =
      unless_leads ((not (is_live s p), ProcessGone) ∷ []) t answer (MatchOption (option_and_then (held_of s p) (key_of handle)) (IsRefused s InvalidHandle answer t) Does)
      (λ e. go (option_and_then (held_of s p) (key_of handle))) h
    where
      go : (o : Option Held) → MatchOption o (IsRefused s InvalidHandle answer t) Does → P t
      go None h = refused_leads t InvalidHandle answer h
      go (Some x) h = does x h

  -- a step that uses a root handle
  with_root_leads : (t : State K T F I) (p : ℕ) (root : Option ℕ) (answer : Answer) (Does : Option ℕ → Type 0)
      → ((at : Option ℕ) → Does at → P t) → WithRoot s p root answer t Does → P t
  with_root_leads t p None answer Does does h = does None h
  with_root_leads t p (Some handle) answer Does does h = go (option_and_then (held_of s p) (key_of handle)) h
    where
      go : (o : Option Held) → MatchOption o (IsRefused s InvalidHandle answer t) (λ x. Does (Some x.object)) → P t
      go None h = refused_leads t InvalidHandle answer h
      go (Some x) h = does (Some x.object) h

  -- a step that uses a handle to a shadow
  with_shadow_leads : (t : State K T F I) (p : ℕ) (shadow : Option ℕ) (answer : Answer) (Does : Option ℕ → Type 0)
      → ((d : Option ℕ) → Does d → P t) → WithShadow s p shadow answer t Does → P t
  with_shadow_leads t p None answer Does does h = does None h
  with_shadow_leads t p (Some handle) answer Does does h = go (option_and_then (held_of s p) (key_of handle)) h
    where
      go : (o : Option Held) → MatchOption o (IsRefused s InvalidHandle answer t) (λ x. Unless (shadow_refusals s x.object) s answer t (Does (Some x.object))) → P t
      go None h = refused_leads t InvalidHandle answer h
      go (Some x) h = unless_leads (shadow_refusals s x.object) t answer (Does (Some x.object)) (λ e. does (Some x.object)) h

  -- what a grant answers
  granted_or_refused_leads : (t u : State K T F I) (p o : ℕ) (asked : GrantOptions) (reason : Reason) (status : Status) (answer : Answer) (result : Result ℕ Status) → Grants g s p o asked reason result u
      → MatchResult result (λ value. (answer ≡ gives status (Handle value)) × (t ≡ settle g u)) (λ refusal. IsRefused s refusal answer t) → P t
  granted_or_refused_leads t u p o asked reason status answer (Ok value) granted h =
      subst P (sym h.1) (subst (λ v. P (settle g v)) (sym granted.2) (grants p value o asked reason granted.0))
  granted_or_refused_leads t u p o asked reason status answer (Err refusal) granted h = refused_leads t refusal answer h

  opens_at_leads : (t : State K T F I) (p attrs : ℕ) (wanted : Wanted K) (status : Status) (o : ℕ) (answer : Answer) → OpensAt g s p attrs wanted status o answer t → P t
  opens_at_leads t p attrs wanted status o answer h =
      unless_leads ((not (is_wanted_at g s o wanted), ObjectTypeMismatch) ∷ []) t answer
      (GivesHandle g s p o (options_by attrs) Opened status answer t)
      (λ e does. granted_or_refused_leads t does.1 p o (options_by attrs) Opened status answer does.0 does.2 does.3) h

  opens_leads : (t : State K T F I) (p attrs : ℕ) (wanted : Wanted K) (look : Look) (answer : Answer) → Opens g s p attrs wanted look answer t → P t
  opens_leads t p attrs wanted (Refused status) answer h = refused_leads t status answer h
  opens_leads t p attrs wanted (Vacant d c) answer h = absurd h
  opens_leads t p attrs wanted (Parse o rest n) answer h =
      unless_leads ((is_store_full s, InsufficientResources) ∷ []) t answer ((answer ≡ Ticket s.next_id) × (t ≡ settle g (with_pending s p attrs wanted o rest n)))
      (λ e does. subst P (sym does.1) (waits p attrs wanted o rest n)) h
  opens_leads t p attrs wanted (At o) answer h = opens_at_leads t p attrs wanted Success o answer h

  makes_leads : (t : State K T F I) (p attrs : ℕ) (making : Making K) (spot : Spot) (answer : Answer) → are_lawful attrs ≡ true → Makes g s p attrs making spot answer t → P t
  makes_leads t p attrs making spot answer lawful h = unless_leads (room_refusals s p spot) t answer _ (λ e. go (make_refusal g making)) h
    where
      Made : Type 0
      Made = (value : ℕ) × IsFreeValue s p value × (answer ≡ gives Success (Handle value)) × (t ≡ settle g (created g s p spot (body_made g making) attrs value))

      DroppedFor : ℕ → Type 0
      DroppedFor k = (answer ≡ answers (TypeRefused k)) × (t ≡ dropped g s (body_made g making))

      opened : (refusal : Option ℕ) → MatchOption refusal Made DroppedFor → P t
      opened None h = subst P (sym h.3) (makes p spot (body_made g making) attrs h.0 lawful)
      opened (Some k) h = subst P (sym h.1) (drops (body_made g making))

      go : (refusal : Option ℕ)
          → MatchOption refusal (MatchOption (open_refusal_of g s.set (body_made g making) Created) Made DroppedFor) (λ k. IsRefused s (TypeRefused k) answer t) → P t
      go None h = opened (open_refusal_of g s.set (body_made g making) Created) h
      go (Some k) h = refused_leads t (TypeRefused k) answer h

  creates_leads : (t : State K T F I) (p attrs : ℕ) (making : Making K) (look : Look) (answer : Answer) → are_lawful attrs ≡ true → Creates g s p attrs making look answer t → P t
  creates_leads t p attrs making (Refused status) answer lawful h = refused_leads t status answer h
  creates_leads t p attrs making (At o) answer lawful h = go (has_flag open_if_flag attrs) h
    where
      go : (opens : Bool) → MatchBool opens (OpensAt g s p attrs (type_made making) ObjectNameExists o answer t) (IsRefused s ObjectNameCollision answer t) → P t
      go true h = opens_at_leads t p attrs (type_made making) ObjectNameExists o answer h
      go false h = refused_leads t ObjectNameCollision answer h
  creates_leads t p attrs making (Parse o rest n) answer lawful h = absurd h
  creates_leads t p attrs making (Vacant d c) answer lawful h = makes_leads t p attrs making (Some (d, c)) answer lawful h

  creates_in_leads : (t : State K T F I) (p : ℕ) (where_to : Place) (attrs : ℕ) (shadow : Option ℕ) (making : Option ℕ → Making K) (answer : Answer) → are_lawful attrs ≡ true
      → CreatesIn g s p where_to attrs shadow making answer t → P t
  creates_in_leads t p (place.At root name) attrs shadow making answer lawful h =
      with_root_leads t p root answer (λ at. WithShadow s p shadow answer t (Does at))
      (λ at. with_shadow_leads t p shadow answer (Does at) (λ d does. creates_leads t p attrs (making d) does.0 answer lawful does.2)) h
    where
      Does : Option ℕ → Option ℕ → Type 0
      Does at d = (look : Look) × LooksUp g s p (create_mode attrs) most_reparses at name look × Creates g s p attrs (making d) look answer t
  creates_in_leads t p place.Unnamed attrs shadow making answer lawful h =
      with_shadow_leads t p shadow answer (λ d. Makes g s p attrs (making d) None answer t) (λ d. makes_leads t p attrs (making d) None answer lawful) h

  creates_at_leads : (t : State K T F I) (p : ℕ) (where_to : Place) (attrs : ℕ) (shadow : Option ℕ) (making : Option ℕ → Making K) (answer : Answer)
      → CreatesAt g s p where_to attrs shadow making answer t → P t
  creates_at_leads t p where_to attrs shadow making answer h =
      unless_leads (create_refusals (is_live s p) (is_fit (making None)) where_to attrs) t answer (CreatesIn g s p where_to attrs shadow making answer t)
      (λ e. creates_in_leads t p where_to attrs shadow making answer (lawful_to_create (is_live s p) (is_fit (making None)) where_to attrs e)) h

  opens_name_leads : (t : State K T F I) (p : ℕ) (root : Option ℕ) (name : List ℕ) (attrs : ℕ) (wanted : Wanted K) (answer : Answer) → OpensName g s p root name attrs wanted answer t → P t
  opens_name_leads t p root name attrs wanted answer h =
      unless_leads (open_refusals (is_live s p) name attrs) t answer (WithRoot s p root answer t Does)
      (λ e. with_root_leads t p root answer Does (λ at does. opens_leads t p attrs wanted does.0 answer does.2)) h
    where
      Does : Option ℕ → Type 0
      Does at = (look : Look) × LooksUp g s p (open_mode wanted attrs) most_reparses at name look × Opens g s p attrs wanted look answer t

  turns_leads : (t : State K T F I) (p handle : ℕ) (permanent : Bool) (answer : Answer) → Turns g s p handle permanent answer t → P t
  turns_leads t p handle permanent answer h =
      with_handle_leads t p handle answer (λ x. (answer ≡ answers Success) × (t ≡ settle g (turned s x.object permanent)))
      (λ x does. subst P (sym does.1) (turns x.object permanent)) h

  sets_map_leads : (t : State K T F I) (p handle : ℕ) (answer : Answer) → SetsMap g s p handle answer t → P t
  sets_map_leads t p handle answer h =
      with_handle_leads t p handle answer
      (λ x. Unless ((not (is_directory s x.object), ObjectTypeMismatch) ∷ []) s answer t ((answer ≡ answers Success) × (t ≡ settle g (with_map s p x.object))))
      (λ x.
      unless_leads ((not (is_directory s x.object), ObjectTypeMismatch) ∷ []) t answer ((answer ≡ answers Success) × (t ≡ settle g (with_map s p x.object)))
      (λ e does. subst P (sym does.1) (sets_map p x.object))) h

  queries_directory_leads : (t : State K T F I) (p handle context room : ℕ) (single restart : Bool) (answer : Answer) → QueriesDirectory g s p handle context room single restart answer t → P t
  queries_directory_leads t p handle context room single restart answer h =
      unless_leads (page_refusals (is_live s p) room) t answer
      (MatchOption (option_and_then (held_of s p) (key_of handle)) (IsRefused s InvalidHandle answer t) (λ x. TellsPage g s x.object (context_used restart context) room single answer t))
      (λ e. go (option_and_then (held_of s p) (key_of handle))) h
    where
      go : (o : Option Held) → MatchOption o (IsRefused s InvalidHandle answer t) (λ x. TellsPage g s x.object (context_used restart context) room single answer t) → P t
      go None h = refused_leads t InvalidHandle answer h
      go (Some x) h =
          unless_leads ((not (is_directory s x.object), ObjectTypeMismatch) ∷ []) t answer
          ((answer ≡ page_answer (enumerated g s x.object (context_used restart context) room single)) × (t ≡ s)) (λ e does. subst P (sym does.1) same) h

  -- a start leads there
  start_leads : (t : State K T F I) (p : ℕ) (command : Command K) (answer : Answer) → Step g s (Start p command) answer t → P t
  start_leads t p (CreateDirectory where_to attrs) answer h = creates_at_leads t p where_to attrs None MakesDirectory answer h
  start_leads t p (CreateShadowed where_to attrs shadow) answer h = creates_at_leads t p where_to attrs (Some shadow) MakesDirectory answer h
  start_leads t p (CreateLink where_to attrs target) answer h = creates_at_leads t p where_to attrs None (λ shadow. MakesLink target) answer h
  start_leads t p (CreateObject where_to attrs kind args) answer h = creates_at_leads t p where_to attrs None (λ shadow. MakesObject kind args) answer h
  start_leads t p (OpenDirectory root name attrs) answer h = opens_name_leads t p root name attrs wanted.Directory answer h
  start_leads t p (OpenLink root name attrs) answer h = opens_name_leads t p root name attrs wanted.Link answer h
  start_leads t p (OpenObject root name attrs want) answer h = opens_name_leads t p root name attrs (type_wanted want) answer h
  start_leads t p (Close handle) answer h =
      with_handle_leads t p handle answer (λ x. (answer ≡ answers Success) × (t ≡ settle g (closed_handle g s x))) (λ x does. subst P (sym does.1) (closes x)) h
  start_leads t p (QueryLink handle) answer h =
      with_handle_leads t p handle answer (λ x. TellsTarget s x.object answer × (t ≡ s)) (λ x does. subst P (sym does.1) same) h
  start_leads t p (QueryName handle) answer h =
      with_handle_leads t p handle answer (λ x. TellsName s x.object answer × (t ≡ s)) (λ x does. subst P (sym does.1) same) h
  start_leads t p (QueryDirectory handle context room single restart) answer h = queries_directory_leads t p handle context room single restart answer h
  start_leads t p (Duplicate handle to inherit) answer h =
      unless_leads ((not (is_live s p), ProcessGone) ∷ (not (is_live s to), ProcessGone) ∷ []) t answer
      (MatchOption (option_and_then (held_of s p) (key_of handle)) (IsRefused s InvalidHandle answer t) Given) (λ e. go (option_and_then (held_of s p) (key_of handle))) h
    where
      Given : Held → Type 0
      Given x = GivesHandle g s to x.object (record { inherit = inherit; exclusive = false }) Duplicated Success answer t

      go : (o : Option Held) → MatchOption o (IsRefused s InvalidHandle answer t) Given → P t
      go None h = refused_leads t InvalidHandle answer h
      go (Some x) h = granted_or_refused_leads t h.1 to x.object (record { inherit = inherit; exclusive = false }) Duplicated Success answer h.0 h.2 h.3
  start_leads t p (MakeTemporary handle) answer h = turns_leads t p handle false answer h
  start_leads t p (MakePermanent handle) answer h = turns_leads t p handle true answer h
  start_leads t p (SetDeviceMap handle) answer h = sets_map_leads t p handle answer h
  start_leads t p (NewProcess inherit) answer h =
      unless_leads ((not (is_live s p), ProcessGone) ∷ (is_crowded s p inherit, InsufficientResources) ∷ []) t answer
      (let u = begun g s p inherit in (answer ≡ gives Success (Process s.next_process (values_in u s.next_process))) × (t ≡ settle g u))
      (λ e does. subst P (sym does.1) (begins p inherit)) h
  start_leads t p ExitProcess answer h =
      unless_leads ((not (is_live s p), ProcessGone) ∷ []) t answer ((answer ≡ answers Success) × (t ≡ settle g (ended g s p)))
      (λ e does. subst P (sym does.1) (ends p)) h

  -- what a parse leads to, in the state in which it is judged
  ends_open_leads : (t : State K T F I) (x : PendingOpen K) (outcome : Option (ParseOutcome F I)) (answer : Answer) → EndsOpen g s x outcome answer t → P t
  ends_open_leads t x None answer h = refused_leads t NoMemory answer h
  ends_open_leads t x (Some EndsItself) answer h = opens_at_leads t x.process x.attrs x.wanted Success x.object answer h
  ends_open_leads t x (Some (EndsMade face inner)) answer h = opens_at_leads t x.process x.attrs x.wanted Success x.ticket answer h
  ends_open_leads t x (Some (EndsReparse text)) answer h = opens_leads t x.process x.attrs x.wanted h.0 answer h.2
  ends_open_leads t x (Some (EndsRefused k)) answer h = refused_leads t (TypeRefused k) answer h

  -- a start, or the end of a pending open in the state in which it is judged, leads there
  pub came_leads : (t : State K T F I) → Came g s t → P t
  came_leads t (started p command answer h) = start_leads t p command answer h
  came_leads t (judged refusals x outcome answer h) =
      unless_leads refusals t answer (EndsOpen g s x outcome answer t) (λ e does. ends_open_leads t x outcome answer does) h
