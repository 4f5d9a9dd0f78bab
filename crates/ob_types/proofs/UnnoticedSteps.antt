-- A step, made of the state with a change that no procedure notices made of its set's value.
use Rattle.std.proofs.Common.{◌≡◌, ◌∙◌, ℕ, Bool, true, false, not, List, [], ◌∷◌, Option, None, Some, Result, Ok, Err, MatchOption, MatchResult, refl, ap, sym, subst}
use Rattle.std.specs.Prelude.{MatchBool}
use Rattle.std.specs.Option.{option_and_then}
use Rattle.ob_base.specs.declared.status.Status.{Status}
use Rattle.ob_base.specs.declared.status.Status.TheVariants.{NoMemory, Success, InvalidHandle, InsufficientResources, ObjectTypeMismatch, ObjectNameExists, ObjectNameCollision, ProcessGone, TypeRefused}
use Rattle.ob_base.specs.Attrs.{has_flag, open_if_flag}
use Rattle.ob_base.specs.Handle.{key_of}
use Rattle.ob_model.specs.declared.command.Place.{Place}
use Rattle.ob_model.specs.declared.command.Place.TheVariants as place
use Rattle.ob_model.specs.declared.command.Command.{Command}
use Rattle.ob_model.specs.declared.command.Command.TheVariants.{CreateDirectory, CreateShadowed, CreateLink, CreateObject, OpenDirectory, OpenLink, OpenObject, Close, QueryLink, QueryName, QueryDirectory, Duplicate, MakeTemporary, MakePermanent, SetDeviceMap, NewProcess, ExitProcess}
use Rattle.ob_model.specs.declared.reply.Answer.{Answer}
use Rattle.ob_model.specs.declared.reply.Answer.TheVariants.{Ticket}
use Rattle.ob_model.specs.declared.reply.Event.{Event}
use Rattle.ob_model.specs.declared.reply.Event.TheVariants.{Start, Resume, Abandon}
use Rattle.ob_model.specs.declared.reply.Given.TheVariants.{Handle, Process}
use Rattle.ob_model.specs.declared.state.Held.{Held}
use Rattle.ob_model.specs.declared.state.PendingOpen.{PendingOpen}
use Rattle.ob_model.specs.declared.state.Wanted.{Wanted}
use Rattle.ob_model.specs.declared.state.Wanted.TheVariants as wanted
use Rattle.ob_model.specs.declared.terms.GrantOptions.{GrantOptions}
use Rattle.ob_model.specs.declared.terms.Reason.{Reason}
use Rattle.ob_model.specs.declared.terms.Reason.TheVariants.{Opened, Created, Duplicated}
use Rattle.ob_model.specs.State.{State, is_live, is_directory, is_store_full, held_of}
use Rattle.ob_model.specs.Looks.{Look, At, Vacant, Parse, Refused, LooksUp, most_reparses}
use Rattle.ob_model.specs.Procedures.{Procedures, ParseOutcome, EndsItself, EndsMade, EndsReparse, EndsRefused}
use Rattle.ob_model.specs.PendingOpens.{pending_of, with_pending}
use Rattle.ob_model.specs.Settle.{settle}
use Rattle.ob_model.specs.Grants.{first_refusal, Grants, IsFreeValue, open_refusal_of, with_handle}
use Rattle.ob_model.specs.Closing.{closed_handle}
use Rattle.ob_model.specs.Permanence.{turned}
use Rattle.ob_model.specs.Maps.{with_map}
use Rattle.ob_model.specs.Types.{is_wanted_at}
use Rattle.ob_model.specs.Refusals.{gives, answers, IsRefused, Unless, create_refusals, open_refusals}
use Rattle.ob_model.specs.Parses.{parsed_state, EndsOpen, Resumes, Abandons}
use Rattle.ob_model.specs.Opens.{GivesHandle, OpensAt, Opens, options_by, type_wanted, open_mode}
use Rattle.ob_model.specs.Creates.{Making, MakesDirectory, MakesLink, MakesObject, is_fit, create_mode, type_made, Spot, room_refusals, make_refusal, body_made, created, dropped, Makes, Creates}
use Rattle.ob_model.specs.Naming.{TellsName, TellsTarget}
use Rattle.ob_model.specs.Enumeration.{enumerated, context_used, page_answer}
use Rattle.ob_model.specs.Processes.{values_in, is_crowded, begun, ended, Duplicates}
use Rattle.ob_model.specs.Step.{WithHandle, WithRoot, shadow_refusals, WithShadow, CreatesIn, CreatesAt, OpensName, Turns, SetsMap, page_refusals, TellsPage, QueriesDirectory, Starts, Step}
use Rattle.ob_types.specs.Unnoticed.{IsUnnoticed, with_change}
use Rattle.ob_types.proofs.UnnoticedParts.{grant_refusal-changed, with_open-changed, closed_handle-changed, settle-changed, created-changed, dropped-changed, open_refusal_made-changed, turned-changed, parsed_state-changed, begun-changed, ended-changed}

module _ {K T F I : Type 0} (g : Procedures K T F I) (change : T → T) (unnoticed : IsUnnoticed g change) where
  -- a state with the change
  abbrev on : State K T F I → State K T F I
  on s = with_change change s

  -- what settles
  settled : (t u v : State K T F I) → v ≡ on u → t ≡ settle g u → on t ≡ settle g v
  settled t u v same e = ap (with_change change) e ∙ sym (settle-changed g change unnoticed u) ∙ ap (settle g) (sym same)

  -- ---- refusals, and what is behind them

  refused : (s t : State K T F I) (status : Status) (answer : Answer) → IsRefused s status answer t → IsRefused (on s) status answer (on t)
  refused s t status answer h = (h.0, ap (with_change change) h.1)

  unless : (refusals : List (Bool × Status)) (s t : State K T F I) (answer : Answer) (Does Now : Type 0) → (Does → Now) → Unless refusals s answer t Does → Unless refusals (on s) answer (on t) Now
  unless refusals s t answer Does Now does h = go (first_refusal refusals) h
    where
      go : (refusal : Option Status) → MatchOption refusal Does (λ status. IsRefused s status answer t) → MatchOption refusal Now (λ status. IsRefused (on s) status answer (on t))
      go None h = does h
      go (Some status) h = refused s t status answer h

  held : (s t : State K T F I) (found : Option Held) (answer : Answer) (Does Now : Held → Type 0) → ((h : Held) → Does h → Now h)
      → MatchOption found (IsRefused s InvalidHandle answer t) Does → MatchOption found (IsRefused (on s) InvalidHandle answer (on t)) Now
  held s t None answer Does Now does h = refused s t InvalidHandle answer h
  held s t (Some x) answer Does Now does h = does x h

  with_handle_changed : (s t : State K T F I) (p handle : ℕ) (answer : Answer) (Does Now : Held → Type 0) → ((h : Held) → Does h → Now h)
      → WithHandle s p handle answer t Does → WithHandle (on s) p handle answer (on t) Now
  with_handle_changed s t p handle answer Does Now does h =
      unless ((not (is_live s p), ProcessGone) ∷ []) s t answer
      (MatchOption (option_and_then (held_of s p) (key_of handle)) (IsRefused s InvalidHandle answer t) Does)
      (MatchOption (option_and_then (held_of s p) (key_of handle)) (IsRefused (on s) InvalidHandle answer (on t)) Now)
      (held s t (option_and_then (held_of s p) (key_of handle)) answer Does Now does) h

  with_root_changed : (s t : State K T F I) (p : ℕ) (root : Option ℕ) (answer : Answer) (Does Now : Option ℕ → Type 0) → ((at : Option ℕ) → Does at → Now at)
      → WithRoot s p root answer t Does → WithRoot (on s) p root answer (on t) Now
  with_root_changed s t p None answer Does Now does h = does None h
  with_root_changed s t p (Some handle) answer Does Now does h =
      held s t (option_and_then (held_of s p) (key_of handle)) answer (λ x. Does (Some x.object)) (λ x. Now (Some x.object)) (λ x. does (Some x.object)) h

  with_shadow_changed : (s t : State K T F I) (p : ℕ) (shadow : Option ℕ) (answer : Answer) (Does Now : Option ℕ → Type 0) → ((d : Option ℕ) → Does d → Now d)
      → WithShadow s p shadow answer t Does → WithShadow (on s) p shadow answer (on t) Now
  with_shadow_changed s t p None answer Does Now does h = does None h
  with_shadow_changed s t p (Some handle) answer Does Now does h =
      held s t (option_and_then (held_of s p) (key_of handle)) answer (λ x. Unless (shadow_refusals s x.object) s answer t (Does (Some x.object)))
      (λ x. Unless (shadow_refusals (on s) x.object) (on s) answer (on t) (Now (Some x.object)))
      (λ x. unless (shadow_refusals s x.object) s t answer (Does (Some x.object)) (Now (Some x.object)) (does (Some x.object))) h

  -- ---- opens

  grants : (s u : State K T F I) (p o : ℕ) (asked : GrantOptions) (reason : Reason) (result : Result ℕ Status) → Grants g s p o asked reason result u → Grants g (on s) p o asked reason result (on u)
  grants s u p o asked reason (Ok value) h = (
    grant_refusal-changed g change unnoticed s p o asked reason ∙ h.0,
    h.1,
    ap (with_change change) h.2 ∙ ap (λ v. with_handle v p value o asked.inherit) (sym (with_open-changed g change unnoticed s o reason)),
  )
  grants s u p o asked reason (Err status) h = (grant_refusal-changed g change unnoticed s p o asked reason ∙ h.0, ap (with_change change) h.1)

  gives_handle : (s t : State K T F I) (p o : ℕ) (asked : GrantOptions) (reason : Reason) (status : Status) (answer : Answer)
      → GivesHandle g s p o asked reason status answer t → GivesHandle g (on s) p o asked reason status answer (on t)
  gives_handle s t p o asked reason status answer (result, u, granted, h) = (result, on u, grants s u p o asked reason result granted, go result h)
    where
      go : (result : Result ℕ Status)
          → MatchResult result (λ value. (answer ≡ gives status (Handle value)) × (t ≡ settle g u)) (λ refusal. IsRefused s refusal answer t)
          → MatchResult result (λ value. (answer ≡ gives status (Handle value)) × (on t ≡ settle g (on u))) (λ refusal. IsRefused (on s) refusal answer (on t))
      go (Ok value) h = (h.0, settled t u (on u) refl h.1)
      go (Err refusal) h = refused s t refusal answer h

  opens_at : (s t : State K T F I) (p attrs : ℕ) (wanted : Wanted K) (status : Status) (o : ℕ) (answer : Answer)
      → OpensAt g s p attrs wanted status o answer t → OpensAt g (on s) p attrs wanted status o answer (on t)
  opens_at s t p attrs wanted status o answer h =
      unless ((not (is_wanted_at g s o wanted), ObjectTypeMismatch) ∷ []) s t answer
      (GivesHandle g s p o (options_by attrs) Opened status answer t)
      (GivesHandle g (on s) p o (options_by attrs) Opened status answer (on t))
      (gives_handle s t p o (options_by attrs) Opened status answer) h

  opens : (s t : State K T F I) (p attrs : ℕ) (wanted : Wanted K) (look : Look) (answer : Answer) → Opens g s p attrs wanted look answer t → Opens g (on s) p attrs wanted look answer (on t)
  opens s t p attrs wanted (Refused status) answer h = refused s t status answer h
  opens s t p attrs wanted (Vacant d c) answer h = h
  opens s t p attrs wanted (Parse o rest n) answer h =
      unless ((is_store_full s, InsufficientResources) ∷ []) s t answer
      ((answer ≡ Ticket s.next_id) × (t ≡ settle g (with_pending s p attrs wanted o rest n)))
      ((answer ≡ Ticket s.next_id) × (on t ≡ settle g (with_pending (on s) p attrs wanted o rest n)))
      (λ does. (does.0, settled t (with_pending s p attrs wanted o rest n) (with_pending (on s) p attrs wanted o rest n) refl does.1)) h
  opens s t p attrs wanted (At o) answer h = opens_at s t p attrs wanted Success o answer h

  opens_name : (s t : State K T F I) (p : ℕ) (root : Option ℕ) (name : List ℕ) (attrs : ℕ) (wanted : Wanted K) (answer : Answer)
      → OpensName g s p root name attrs wanted answer t → OpensName g (on s) p root name attrs wanted answer (on t)
  opens_name s t p root name attrs wanted answer h =
      unless (open_refusals (is_live s p) name attrs) s t answer (WithRoot s p root answer t Does) (WithRoot (on s) p root answer (on t) Now)
      (with_root_changed s t p root answer Does Now (λ at does. (does.0, does.1, opens s t p attrs wanted does.0 answer does.2))) h
    where
      Does : Option ℕ → Type 0
      Does at = (look : Look) × LooksUp g s p (open_mode wanted attrs) most_reparses at name look × Opens g s p attrs wanted look answer t

      Now : Option ℕ → Type 0
      Now at = (look : Look) × LooksUp g (on s) p (open_mode wanted attrs) most_reparses at name look × Opens g (on s) p attrs wanted look answer (on t)

  -- ---- creates

  makes : (s t : State K T F I) (p attrs : ℕ) (making : Making K) (spot : Spot) (answer : Answer) → Makes g s p attrs making spot answer t → Makes g (on s) p attrs making spot answer (on t)
  makes s t p attrs making spot answer h =
      unless (room_refusals s p spot) s t answer
      (MatchOption (make_refusal g making) (MatchOption (open_refusal_of g s.set (body_made g making) Created) Made Dropped) (λ k. IsRefused s (TypeRefused k) answer t))
      (MatchOption (make_refusal g making) (MatchOption (open_refusal_of g (change s.set) (body_made g making) Created) NowMade NowDropped) (λ k. IsRefused (on s) (TypeRefused k) answer (on t)))
      (made (make_refusal g making)) h
    where
      Made : Type 0
      Made = (value : ℕ) × IsFreeValue s p value × (answer ≡ gives Success (Handle value)) × (t ≡ settle g (created g s p spot (body_made g making) attrs value))

      NowMade : Type 0
      NowMade = (value : ℕ) × IsFreeValue (on s) p value × (answer ≡ gives Success (Handle value)) × (on t ≡ settle g (created g (on s) p spot (body_made g making) attrs value))

      Dropped : ℕ → Type 0
      Dropped k = (answer ≡ answers (TypeRefused k)) × (t ≡ dropped g s (body_made g making))

      NowDropped : ℕ → Type 0
      NowDropped k = (answer ≡ answers (TypeRefused k)) × (on t ≡ dropped g (on s) (body_made g making))

      opened : (refusal : Option ℕ) → MatchOption refusal Made Dropped → MatchOption refusal NowMade NowDropped
      opened None (value, free, told, is) = (
        value,
        free,
        told,
        settled t (created g s p spot (body_made g making) attrs value) (created g (on s) p spot (body_made g making) attrs value)
            (created-changed g change unnoticed s p spot (body_made g making) attrs value) is,
      )
      opened (Some k) h = (h.0, ap (with_change change) h.1 ∙ sym (dropped-changed g change unnoticed s (body_made g making)))

      made : (refusal : Option ℕ)
          → MatchOption refusal (MatchOption (open_refusal_of g s.set (body_made g making) Created) Made Dropped) (λ k. IsRefused s (TypeRefused k) answer t)
          → MatchOption refusal (MatchOption (open_refusal_of g (change s.set) (body_made g making) Created) NowMade NowDropped) (λ k. IsRefused (on s) (TypeRefused k) answer (on t))
      made None h =
          subst (λ refusal. MatchOption refusal NowMade NowDropped) (sym (open_refusal_made-changed g change unnoticed s (body_made g making)))
          (opened (open_refusal_of g s.set (body_made g making) Created) h)
      made (Some k) h = refused s t (TypeRefused k) answer h

  creates : (s t : State K T F I) (p attrs : ℕ) (making : Making K) (look : Look) (answer : Answer) → Creates g s p attrs making look answer t → Creates g (on s) p attrs making look answer (on t)
  creates s t p attrs making (Refused status) answer h = refused s t status answer h
  creates s t p attrs making (At o) answer h = go (has_flag open_if_flag attrs) h
    where
      go : (opens : Bool) → MatchBool opens (OpensAt g s p attrs (type_made making) ObjectNameExists o answer t) (IsRefused s ObjectNameCollision answer t)
          → MatchBool opens (OpensAt g (on s) p attrs (type_made making) ObjectNameExists o answer (on t)) (IsRefused (on s) ObjectNameCollision answer (on t))
      go true h = opens_at s t p attrs (type_made making) ObjectNameExists o answer h
      go false h = refused s t ObjectNameCollision answer h
  creates s t p attrs making (Parse o rest n) answer h = h
  creates s t p attrs making (Vacant d c) answer h = makes s t p attrs making (Some (d, c)) answer h

  creates_in : (s t : State K T F I) (p : ℕ) (where_to : Place) (attrs : ℕ) (shadow : Option ℕ) (making : Option ℕ → Making K) (answer : Answer)
      → CreatesIn g s p where_to attrs shadow making answer t → CreatesIn g (on s) p where_to attrs shadow making answer (on t)
  creates_in s t p (place.At root name) attrs shadow making answer h =
      with_root_changed s t p root answer (λ at. WithShadow s p shadow answer t (Does at)) (λ at. WithShadow (on s) p shadow answer (on t) (Now at))
      (λ at. with_shadow_changed s t p shadow answer (Does at) (Now at) (λ d does. (does.0, does.1, creates s t p attrs (making d) does.0 answer does.2))) h
    where
      Does : Option ℕ → Option ℕ → Type 0
      Does at d = (look : Look) × LooksUp g s p (create_mode attrs) most_reparses at name look × Creates g s p attrs (making d) look answer t

      Now : Option ℕ → Option ℕ → Type 0
      Now at d = (look : Look) × LooksUp g (on s) p (create_mode attrs) most_reparses at name look × Creates g (on s) p attrs (making d) look answer (on t)
  creates_in s t p place.Unnamed attrs shadow making answer h =
      with_shadow_changed s t p shadow answer (λ d. Makes g s p attrs (making d) None answer t) (λ d. Makes g (on s) p attrs (making d) None answer (on t))
      (λ d. makes s t p attrs (making d) None answer) h

  creates_at : (s t : State K T F I) (p : ℕ) (where_to : Place) (attrs : ℕ) (shadow : Option ℕ) (making : Option ℕ → Making K) (answer : Answer)
      → CreatesAt g s p where_to attrs shadow making answer t → CreatesAt g (on s) p where_to attrs shadow making answer (on t)
  creates_at s t p where_to attrs shadow making answer h =
      unless (create_refusals (is_live s p) (is_fit (making None)) where_to attrs) s t answer (CreatesIn g s p where_to attrs shadow making answer t)
      (CreatesIn g (on s) p where_to attrs shadow making answer (on t)) (creates_in s t p where_to attrs shadow making answer) h

  -- ---- commands that change by handles, and queries

  turns : (s t : State K T F I) (p handle : ℕ) (permanent : Bool) (answer : Answer) → Turns g s p handle permanent answer t → Turns g (on s) p handle permanent answer (on t)
  turns s t p handle permanent answer h =
      with_handle_changed s t p handle answer
      (λ x. (answer ≡ answers Success) × (t ≡ settle g (turned s x.object permanent)))
      (λ x. (answer ≡ answers Success) × (on t ≡ settle g (turned (on s) x.object permanent)))
      (λ x does. (does.0, settled t (turned s x.object permanent) (turned (on s) x.object permanent) (turned-changed g change unnoticed s x.object permanent) does.1)) h

  closes : (s t : State K T F I) (p handle : ℕ) (answer : Answer) → Starts g s p (Close handle) answer t → Starts g (on s) p (Close handle) answer (on t)
  closes s t p handle answer h =
      with_handle_changed s t p handle answer
      (λ x. (answer ≡ answers Success) × (t ≡ settle g (closed_handle g s x)))
      (λ x. (answer ≡ answers Success) × (on t ≡ settle g (closed_handle g (on s) x)))
      (λ x does. (does.0, settled t (closed_handle g s x) (closed_handle g (on s) x) (closed_handle-changed g change unnoticed s x) does.1)) h

  sets_map : (s t : State K T F I) (p handle : ℕ) (answer : Answer) → SetsMap g s p handle answer t → SetsMap g (on s) p handle answer (on t)
  sets_map s t p handle answer h =
      with_handle_changed s t p handle answer
      (λ x. Unless ((not (is_directory s x.object), ObjectTypeMismatch) ∷ []) s answer t ((answer ≡ answers Success) × (t ≡ settle g (with_map s p x.object))))
      (λ x. Unless ((not (is_directory s x.object), ObjectTypeMismatch) ∷ []) (on s) answer (on t) ((answer ≡ answers Success) × (on t ≡ settle g (with_map (on s) p x.object))))
      (λ x.
      unless ((not (is_directory s x.object), ObjectTypeMismatch) ∷ []) s t answer
      ((answer ≡ answers Success) × (t ≡ settle g (with_map s p x.object)))
      ((answer ≡ answers Success) × (on t ≡ settle g (with_map (on s) p x.object)))
      (λ does. (does.0, settled t (with_map s p x.object) (with_map (on s) p x.object) refl does.1))) h

  queries_link : (s t : State K T F I) (p handle : ℕ) (answer : Answer) → Starts g s p (QueryLink handle) answer t → Starts g (on s) p (QueryLink handle) answer (on t)
  queries_link s t p handle answer h =
      with_handle_changed s t p handle answer (λ x. TellsTarget s x.object answer × (t ≡ s)) (λ x. TellsTarget (on s) x.object answer × (on t ≡ on s))
      (λ x does. (does.0, ap (with_change change) does.1)) h

  queries_name : (s t : State K T F I) (p handle : ℕ) (answer : Answer) → Starts g s p (QueryName handle) answer t → Starts g (on s) p (QueryName handle) answer (on t)
  queries_name s t p handle answer h =
      with_handle_changed s t p handle answer (λ x. TellsName s x.object answer × (t ≡ s)) (λ x. TellsName (on s) x.object answer × (on t ≡ on s))
      (λ x does. (does.0, ap (with_change change) does.1)) h

  queries_directory : (s t : State K T F I) (p handle context room : ℕ) (single restart : Bool) (answer : Answer)
      → QueriesDirectory g s p handle context room single restart answer t → QueriesDirectory g (on s) p handle context room single restart answer (on t)
  queries_directory s t p handle context room single restart answer h =
      unless (page_refusals (is_live s p) room) s t answer
      (MatchOption (option_and_then (held_of s p) (key_of handle)) (IsRefused s InvalidHandle answer t) Does)
      (MatchOption (option_and_then (held_of s p) (key_of handle)) (IsRefused (on s) InvalidHandle answer (on t)) Now)
      (held s t (option_and_then (held_of s p) (key_of handle)) answer Does Now
      (λ x.
      unless ((not (is_directory s x.object), ObjectTypeMismatch) ∷ []) s t answer
      ((answer ≡ page_answer (enumerated g s x.object (context_used restart context) room single)) × (t ≡ s))
      ((answer ≡ page_answer (enumerated g (on s) x.object (context_used restart context) room single)) × (on t ≡ on s))
      (λ does. (does.0, ap (with_change change) does.1)))) h
    where
      Does : Held → Type 0
      Does x = TellsPage g s x.object (context_used restart context) room single answer t

      Now : Held → Type 0
      Now x = TellsPage g (on s) x.object (context_used restart context) room single answer (on t)

  -- ---- processes

  duplicates : (s t : State K T F I) (p handle to : ℕ) (inherit : Bool) (answer : Answer) → Duplicates g s p handle to inherit answer t → Duplicates g (on s) p handle to inherit answer (on t)
  duplicates s t p handle to inherit answer h =
      unless ((not (is_live s p), ProcessGone) ∷ (not (is_live s to), ProcessGone) ∷ []) s t answer
      (MatchOption (option_and_then (held_of s p) (key_of handle)) (IsRefused s InvalidHandle answer t) Does)
      (MatchOption (option_and_then (held_of s p) (key_of handle)) (IsRefused (on s) InvalidHandle answer (on t)) Now)
      (held s t (option_and_then (held_of s p) (key_of handle)) answer Does Now
      (λ x. gives_handle s t to x.object (record { inherit = inherit; exclusive = false }) Duplicated Success answer)) h
    where
      Does : Held → Type 0
      Does x = GivesHandle g s to x.object (record { inherit = inherit; exclusive = false }) Duplicated Success answer t

      Now : Held → Type 0
      Now x = GivesHandle g (on s) to x.object (record { inherit = inherit; exclusive = false }) Duplicated Success answer (on t)

  makes_child : (s t : State K T F I) (p : ℕ) (inherit : Bool) (answer : Answer) → Starts g s p (NewProcess inherit) answer t → Starts g (on s) p (NewProcess inherit) answer (on t)
  makes_child s t p inherit answer h =
      unless ((not (is_live s p), ProcessGone) ∷ (is_crowded s p inherit, InsufficientResources) ∷ []) s t answer
      ((answer ≡ gives Success (Process s.next_process (values_in (begun g s p inherit) s.next_process))) × (t ≡ settle g (begun g s p inherit)))
      ((answer ≡ gives Success (Process s.next_process (values_in (begun g (on s) p inherit) s.next_process))) × (on t ≡ settle g (begun g (on s) p inherit)))
      (λ does. (
        does.0 ∙ ap (λ (u : State K T F I). gives Success (Process s.next_process (values_in u s.next_process))) (sym (begun-changed g change unnoticed s p inherit)),
        settled t (begun g s p inherit) (begun g (on s) p inherit) (begun-changed g change unnoticed s p inherit) does.1,
      )) h

  exits : (s t : State K T F I) (p : ℕ) (answer : Answer) → Starts g s p ExitProcess answer t → Starts g (on s) p ExitProcess answer (on t)
  exits s t p answer h =
      unless ((not (is_live s p), ProcessGone) ∷ []) s t answer
      ((answer ≡ answers Success) × (t ≡ settle g (ended g s p))) ((answer ≡ answers Success) × (on t ≡ settle g (ended g (on s) p)))
      (λ does. (does.0, settled t (ended g s p) (ended g (on s) p) (ended-changed g change unnoticed s p) does.1)) h

  -- ---- the end of an open that is pending

  ends_open : (s t : State K T F I) (x : PendingOpen K) (outcome : Option (ParseOutcome F I)) (answer : Answer) → EndsOpen g s x outcome answer t → EndsOpen g (on s) x outcome answer (on t)
  ends_open s t x None answer h = refused s t NoMemory answer h
  ends_open s t x (Some EndsItself) answer h = opens_at s t x.process x.attrs x.wanted Success x.object answer h
  ends_open s t x (Some (EndsMade face inner)) answer h = opens_at s t x.process x.attrs x.wanted Success x.ticket answer h
  ends_open s t x (Some (EndsReparse text)) answer h = (h.0, h.1, opens s t x.process x.attrs x.wanted h.0 answer h.2)
  ends_open s t x (Some (EndsRefused k)) answer h = refused s t (TypeRefused k) answer h

  resumes : (s t : State K T F I) (x : PendingOpen K) (outcome : Option (ParseOutcome F I)) (answer : Answer) → Resumes g s x outcome answer t → Resumes g (on s) x outcome answer (on t)
  resumes s t x outcome answer (v, ends, settles) = (
    on v,
    subst (λ u. Unless ((not (is_live s x.process), ProcessGone) ∷ []) u answer (on v) (EndsOpen g u x outcome answer (on v))) (sym (parsed_state-changed g change unnoticed s x.ticket outcome))
        (unless ((not (is_live s x.process), ProcessGone) ∷ []) (parsed_state s x.ticket outcome) v answer
        (EndsOpen g (parsed_state s x.ticket outcome) x outcome answer v)
        (EndsOpen g (on (parsed_state s x.ticket outcome)) x outcome answer (on v))
        (ends_open (parsed_state s x.ticket outcome) v x outcome answer) ends),
    settled t v (on v) refl settles,
  )

  abandons : (s t : State K T F I) (x : PendingOpen K) (outcome : Option (ParseOutcome F I)) (answer : Answer) → Abandons g s x outcome answer t → Abandons g (on s) x outcome answer (on t)
  abandons s t x outcome answer h =
      (h.0, settled t (parsed_state s x.ticket outcome) (parsed_state (on s) x.ticket outcome) (parsed_state-changed g change unnoticed s x.ticket outcome) h.1)

  ended_pending : (found : Option (PendingOpen K)) (Does Now : PendingOpen K → Type 0) → ((x : PendingOpen K) → Does x → Now x) → MatchOption found ⊥ Does → MatchOption found ⊥ Now
  ended_pending None Does Now does h = h
  ended_pending (Some x) Does Now does h = does x h

  -- ---- a step

  starts : (s t : State K T F I) (p : ℕ) (command : Command K) (answer : Answer) → Starts g s p command answer t → Starts g (on s) p command answer (on t)
  starts s t p (CreateDirectory where_to attrs) answer h = creates_at s t p where_to attrs None MakesDirectory answer h
  starts s t p (CreateShadowed where_to attrs shadow) answer h = creates_at s t p where_to attrs (Some shadow) MakesDirectory answer h
  starts s t p (CreateLink where_to attrs target) answer h = creates_at s t p where_to attrs None (λ shadow. MakesLink target) answer h
  starts s t p (CreateObject where_to attrs kind args) answer h = creates_at s t p where_to attrs None (λ shadow. MakesObject kind args) answer h
  starts s t p (OpenDirectory root name attrs) answer h = opens_name s t p root name attrs wanted.Directory answer h
  starts s t p (OpenLink root name attrs) answer h = opens_name s t p root name attrs wanted.Link answer h
  starts s t p (OpenObject root name attrs want) answer h = opens_name s t p root name attrs (type_wanted want) answer h
  starts s t p (Close handle) answer h = closes s t p handle answer h
  starts s t p (QueryLink handle) answer h = queries_link s t p handle answer h
  starts s t p (QueryName handle) answer h = queries_name s t p handle answer h
  starts s t p (QueryDirectory handle context room single restart) answer h = queries_directory s t p handle context room single restart answer h
  starts s t p (Duplicate handle to inherit) answer h = duplicates s t p handle to inherit answer h
  starts s t p (MakeTemporary handle) answer h = turns s t p handle false answer h
  starts s t p (MakePermanent handle) answer h = turns s t p handle true answer h
  starts s t p (SetDeviceMap handle) answer h = sets_map s t p handle answer h
  starts s t p (NewProcess inherit) answer h = makes_child s t p inherit answer h
  starts s t p ExitProcess answer h = exits s t p answer h

  pub step-changed : (s t : State K T F I) (e : Event K) (answer : Answer) → Step g s e answer t → Step g (on s) e answer (on t)
  step-changed s t (Start p command) answer h = starts s t p command answer h
  step-changed s t (Resume ticket parse) answer (outcome, brought, h) = (
    outcome,
    brought,
    ended_pending (pending_of s ticket) (λ x. Resumes g s x outcome answer t) (λ x. Resumes g (on s) x outcome answer (on t)) (λ x. resumes s t x outcome answer) h,
  )
  step-changed s t (Abandon ticket parse) answer (outcome, brought, h) = (
    outcome,
    brought,
    ended_pending (pending_of s ticket) (λ x. Abandons g s x outcome answer t) (λ x. Abandons g (on s) x outcome answer (on t)) (λ x. abandons s t x outcome answer) h,
  )
