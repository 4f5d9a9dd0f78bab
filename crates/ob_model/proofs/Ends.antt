-- A step with its answer leads to one state alone.
use Rattle.std.proofs.Common.{◌≡◌, ℕ, zero, suc, ◌+◌, Bool, true, false, not, List, [], ◌∷◌, Option, None, Some, Result, Ok, Err, MatchOption, MatchResult, ap, ◌∙◌, sym, subst}
use Rattle.std.specs.Prelude.{MatchBool}
use Rattle.std.specs.Option.{option_and_then}
use Rattle.ob_base.specs.declared.status.Status.{Status}
use Rattle.ob_base.specs.declared.status.Status.TheVariants.{NoMemory, Success, InvalidHandle, InsufficientResources, ObjectTypeMismatch, ObjectNameExists, ObjectNameCollision, ProcessGone, TypeRefused}
use Rattle.ob_base.specs.Attrs.{has_flag, open_if_flag}
use Rattle.ob_base.specs.Handle.{key_of}
use Rattle.ob_model.specs.declared.command.Place.{Place}
use Rattle.ob_model.specs.declared.command.Place.TheVariants as place
use Rattle.ob_model.specs.declared.command.Command.TheVariants.{CreateDirectory, CreateShadowed, CreateLink, CreateObject, OpenDirectory, OpenLink, OpenObject, Close, QueryLink, QueryName, QueryDirectory, Duplicate, MakeTemporary, MakePermanent, SetDeviceMap, NewProcess, ExitProcess}
use Rattle.ob_model.specs.declared.reply.Answer.{Answer}
use Rattle.ob_model.specs.declared.reply.Event.{Event}
use Rattle.ob_model.specs.declared.reply.Event.TheVariants.{Start, Resume, Abandon}
use Rattle.ob_model.specs.declared.reply.Answer.TheVariants.{Done, Ticket}
use Rattle.ob_model.specs.declared.reply.Given.{Given}
use Rattle.ob_model.specs.declared.reply.Given.TheVariants.{Handle, Nothing, Process}
use Rattle.ob_model.specs.declared.reply.ParseRun.{ParseRun}
use Rattle.ob_model.specs.declared.reply.ParseRun.TheVariants as run
use Rattle.ob_model.specs.declared.state.Held.{Held}
use Rattle.ob_model.specs.declared.state.PendingOpen.{PendingOpen}
use Rattle.ob_model.specs.declared.state.Wanted.{Wanted}
use Rattle.ob_model.specs.declared.state.Wanted.TheVariants as wanted
use Rattle.ob_model.specs.State.{State, is_live, is_directory, is_store_full, held_of}
use Rattle.ob_model.specs.declared.terms.Mode.{Mode}
use Rattle.ob_model.specs.Looks.{Look, At, Vacant, Parse, Refused, Looks, LooksUp, most_reparses}
use Rattle.ob_model.specs.declared.terms.Reason.{Reason}
use Rattle.ob_model.specs.declared.terms.Reason.TheVariants.{Opened, Created, Duplicated}
use Rattle.ob_model.specs.Procedures.{Procedures, ParseOutcome, EndsItself, EndsMade, EndsReparse, EndsRefused, ParseEnds}
use Rattle.ob_model.specs.Settle.{settle}
use Rattle.ob_model.specs.declared.terms.GrantOptions.{GrantOptions}
use Rattle.ob_model.specs.Grants.{first_refusal, Grants, IsFreeValue, open_refusal_of, with_handle, with_open}
use Rattle.ob_model.specs.Closing.{closed_handle}
use Rattle.ob_model.specs.Permanence.{turned}
use Rattle.ob_model.specs.Maps.{with_map}
use Rattle.ob_model.specs.Types.{is_wanted_at}
use Rattle.ob_model.specs.Refusals.{gives, answers, IsRefused, Unless, create_refusals, open_refusals}
use Rattle.ob_model.specs.PendingOpens.{face_of, pending_of, with_pending}
use Rattle.ob_model.specs.Parses.{parsed_state, IsParsed, IsBrought, LooksAgain, EndsOpen, Resumes, Abandons}
use Rattle.ob_model.specs.Opens.{GivesHandle, OpensAt, Opens, options_by, type_wanted, open_mode}
use Rattle.ob_model.specs.Creates.{Making, MakesDirectory, MakesLink, MakesObject, is_fit, create_mode, type_made, Spot, room_refusals, make_refusal, body_made, created, dropped, Makes, Creates}
use Rattle.ob_model.specs.Naming.{TellsName, TellsTarget}
use Rattle.ob_model.specs.Enumeration.{enumerated, context_used, page_answer}
use Rattle.ob_model.specs.Processes.{values_in, is_crowded, begun, ended}
use Rattle.ob_model.specs.Step.{WithHandle, WithRoot, shadow_refusals, WithShadow, CreatesIn, CreatesAt, OpensName, Turns, SetsMap, page_refusals, TellsPage, QueriesDirectory, Step}
use Rattle.ob_model.specs.Run.{Entry, RunFrom}
use Rattle.ob_model.proofs.Lookup.{Again-unique, looks_unique, looks_up_unique}
use Rattle.ob_model.proofs.ParseRuns.{parse_unique}

module _ {K T F I : Type 0} where
  -- a step that is refused leaves the state
  refused_end : (s t u : State K T F I) (one other : Status) (answer : Answer) → IsRefused s one answer t → IsRefused s other answer u → t ≡ u
  refused_end s t u one other answer h k = h.1 ∙ sym k.1

  -- a step that is refused, or else does what leads to one state
  unless_end : (refusals : List (Bool × Status)) (s t u : State K T F I) (answer : Answer) (DoesT DoesU : Type 0)
      → (DoesT → DoesU → t ≡ u) → Unless refusals s answer t DoesT → Unless refusals s answer u DoesU → t ≡ u
  unless_end refusals s t u answer DoesT DoesU does h k = go (first_refusal refusals) h k
    where
      go : (refusal : Option Status) → MatchOption refusal DoesT (λ status. IsRefused s status answer t) → MatchOption refusal DoesU (λ status. IsRefused s status answer u) → t ≡ u
      go None h k = does h k
      go (Some status) h k = refused_end s t u status status answer h k

  -- a step that uses a handle
  with_handle_end : (s t u : State K T F I) (p handle : ℕ) (answer : Answer) (DoesT DoesU : Held → Type 0)
      → ((h : Held) → DoesT h → DoesU h → t ≡ u) → WithHandle s p handle answer t DoesT → WithHandle s p handle answer u DoesU → t ≡ u
  with_handle_end s t u p handle answer DoesT DoesU does h k =
      unless_end ((not (is_live s p), ProcessGone) ∷ []) s t u answer
      (MatchOption (option_and_then (held_of s p) (key_of handle)) (IsRefused s InvalidHandle answer t) DoesT)
      (MatchOption (option_and_then (held_of s p) (key_of handle)) (IsRefused s InvalidHandle answer u) DoesU)
      (go (option_and_then (held_of s p) (key_of handle))) h k
    where
      go : (o : Option Held) → MatchOption o (IsRefused s InvalidHandle answer t) DoesT → MatchOption o (IsRefused s InvalidHandle answer u) DoesU → t ≡ u
      go None h k = refused_end s t u InvalidHandle InvalidHandle answer h k
      go (Some x) h k = does x h k

  -- a step that uses a root handle
  with_root_end : (s t u : State K T F I) (p : ℕ) (root : Option ℕ) (answer : Answer) (DoesT DoesU : Option ℕ → Type 0)
      → ((at : Option ℕ) → DoesT at → DoesU at → t ≡ u) → WithRoot s p root answer t DoesT → WithRoot s p root answer u DoesU → t ≡ u
  with_root_end s t u p None answer DoesT DoesU does h k = does None h k
  with_root_end s t u p (Some handle) answer DoesT DoesU does h k = go (option_and_then (held_of s p) (key_of handle)) h k
    where
      go : (o : Option Held) → MatchOption o (IsRefused s InvalidHandle answer t) (λ x. DoesT (Some x.object))
          → MatchOption o (IsRefused s InvalidHandle answer u) (λ x. DoesU (Some x.object)) → t ≡ u
      go None h k = refused_end s t u InvalidHandle InvalidHandle answer h k
      go (Some x) h k = does (Some x.object) h k

  -- a step that uses a handle to a shadow
  with_shadow_end : (s t u : State K T F I) (p : ℕ) (shadow : Option ℕ) (answer : Answer) (DoesT DoesU : Option ℕ → Type 0)
      → ((d : Option ℕ) → DoesT d → DoesU d → t ≡ u) → WithShadow s p shadow answer t DoesT → WithShadow s p shadow answer u DoesU → t ≡ u
  with_shadow_end s t u p None answer DoesT DoesU does h k = does None h k
  with_shadow_end s t u p (Some handle) answer DoesT DoesU does h k = go (option_and_then (held_of s p) (key_of handle)) h k
    where
      go : (o : Option Held) → MatchOption o (IsRefused s InvalidHandle answer t) (λ x. Unless (shadow_refusals s x.object) s answer t (DoesT (Some x.object)))
          → MatchOption o (IsRefused s InvalidHandle answer u) (λ x. Unless (shadow_refusals s x.object) s answer u (DoesU (Some x.object))) → t ≡ u
      go None h k = refused_end s t u InvalidHandle InvalidHandle answer h k
      go (Some x) h k = unless_end (shadow_refusals s x.object) s t u answer (DoesT (Some x.object)) (DoesU (Some x.object)) (does (Some x.object)) h k

-- what an answer gives
abbrev given_in : Answer → Given
given_in (Done reply) = reply.given
given_in (Ticket number) = Nothing

-- an answer gives one handle
one_handle : (status other : Status) (v w : ℕ) (answer : Answer) → answer ≡ gives status (Handle v) → answer ≡ gives other (Handle w) → v ≡ w
one_handle status other v w answer e f = let same : Handle v ≡ Handle w = ap given_in (sym e ∙ f) in cc

-- and a status with a handle is none alone
no_handle : {Goal : Type 0} (status other : Status) (v : ℕ) (answer : Answer) → answer ≡ gives status (Handle v) → answer ≡ answers other → Goal
no_handle status other v answer e f = absurd (apart (sym e ∙ f))
  where
    apart : gives status (Handle v) ≡ answers other → ⊥
    apart same = let nothing : Handle v ≡ Nothing = ap given_in same in cc

module _ {K T F I : Type 0} (g : Procedures K T F I) where
  -- what a grant answers
  granted_end : (s t u t_granted u_granted : State K T F I) (p o : ℕ) (asked : GrantOptions) (reason : Reason) (status : Status) (answer : Answer) (one other : Result ℕ Status)
      → Grants g s p o asked reason one t_granted
      → MatchResult one (λ value. (answer ≡ gives status (Handle value)) × (t ≡ settle g t_granted)) (λ refusal. IsRefused s refusal answer t)
      → Grants g s p o asked reason other u_granted
      → MatchResult other (λ value. (answer ≡ gives status (Handle value)) × (u ≡ settle g u_granted)) (λ refusal. IsRefused s refusal answer u)
      → t ≡ u
  granted_end s t u t_granted u_granted p o asked reason status answer (Ok v) (Ok w) grants h grants_too k =
      h.1 ∙ ap (settle g) (grants.2 ∙ ap (λ value. with_handle (with_open g s o reason) p value o asked.inherit) (one_handle status status v w answer h.0 k.0) ∙ sym grants_too.2) ∙ sym k.1
  granted_end s t u t_granted u_granted p o asked reason status answer (Ok v) (Err refusal) grants h grants_too k = no_handle status refusal v answer h.0 k.0
  granted_end s t u t_granted u_granted p o asked reason status answer (Err refusal) (Ok w) grants h grants_too k = no_handle status refusal w answer k.0 h.0
  granted_end s t u t_granted u_granted p o asked reason status answer (Err one) (Err other) grants h grants_too k = refused_end s t u one other answer h k

  gives_handle_end : (s t u : State K T F I) (p o : ℕ) (asked : GrantOptions) (reason : Reason) (status : Status) (answer : Answer)
      → GivesHandle g s p o asked reason status answer t → GivesHandle g s p o asked reason status answer u → t ≡ u
  gives_handle_end s t u p o asked reason status answer a b = granted_end s t u a.1 b.1 p o asked reason status answer a.0 b.0 a.2 a.3 b.2 b.3

  opens_at_end : (s t u : State K T F I) (p attrs : ℕ) (wanted : Wanted K) (status : Status) (o : ℕ) (answer : Answer)
      → OpensAt g s p attrs wanted status o answer t → OpensAt g s p attrs wanted status o answer u → t ≡ u
  opens_at_end s t u p attrs wanted status o answer h k =
      unless_end ((not (is_wanted_at g s o wanted), ObjectTypeMismatch) ∷ []) s t u answer (GivesHandle g s p o (options_by attrs) Opened status answer t) (GivesHandle g s p o (options_by attrs) Opened status answer u)
      (gives_handle_end s t u p o (options_by attrs) Opened status answer) h k

  opens_end : (s t u : State K T F I) (p attrs : ℕ) (wanted : Wanted K) (look : Look) (answer : Answer)
      → Opens g s p attrs wanted look answer t → Opens g s p attrs wanted look answer u → t ≡ u
  opens_end s t u p attrs wanted (Refused status) answer h k = refused_end s t u status status answer h k
  opens_end s t u p attrs wanted (Vacant d c) answer h k = absurd h
  opens_end s t u p attrs wanted (Parse o rest n) answer h k =
      unless_end ((is_store_full s, InsufficientResources) ∷ []) s t u answer ((answer ≡ Ticket s.next_id) × (t ≡ settle g (with_pending s p attrs wanted o rest n)))
      ((answer ≡ Ticket s.next_id) × (u ≡ settle g (with_pending s p attrs wanted o rest n))) (λ a b. a.1 ∙ sym b.1) h k
  opens_end s t u p attrs wanted (At o) answer h k = opens_at_end s t u p attrs wanted Success o answer h k

  makes_end : (s t u : State K T F I) (p attrs : ℕ) (making : Making K) (spot : Spot) (answer : Answer)
      → Makes g s p attrs making spot answer t → Makes g s p attrs making spot answer u → t ≡ u
  makes_end s t u p attrs making spot answer h k = unless_end (room_refusals s p spot) s t u answer _ _ (go (make_refusal g making)) h k
    where
      Made : State K T F I → Type 0
      Made end = (value : ℕ) × IsFreeValue s p value × (answer ≡ gives Success (Handle value)) × (end ≡ settle g (created g s p spot (body_made g making) attrs value))

      DroppedFor : State K T F I → ℕ → Type 0
      DroppedFor end k = (answer ≡ answers (TypeRefused k)) × (end ≡ dropped g s (body_made g making))

      opened : (refusal : Option ℕ) → MatchOption refusal (Made t) (DroppedFor t) → MatchOption refusal (Made u) (DroppedFor u) → t ≡ u
      opened None h k =
          h.3 ∙ ap (λ value. settle g (created g s p spot (body_made g making) attrs value)) (one_handle Success Success h.0 k.0 answer h.2 k.2) ∙ sym k.3
      opened (Some n) h k = h.1 ∙ sym k.1

      go : (refusal : Option ℕ)
          → MatchOption refusal (MatchOption (open_refusal_of g s.set (body_made g making) Created) (Made t) (DroppedFor t)) (λ k. IsRefused s (TypeRefused k) answer t)
          → MatchOption refusal (MatchOption (open_refusal_of g s.set (body_made g making) Created) (Made u) (DroppedFor u)) (λ k. IsRefused s (TypeRefused k) answer u) → t ≡ u
      go None h k = opened (open_refusal_of g s.set (body_made g making) Created) h k
      go (Some n) h k = refused_end s t u (TypeRefused n) (TypeRefused n) answer h k

  creates_end : (s t u : State K T F I) (p attrs : ℕ) (making : Making K) (look : Look) (answer : Answer)
      → Creates g s p attrs making look answer t → Creates g s p attrs making look answer u → t ≡ u
  creates_end s t u p attrs making (Refused status) answer h k = refused_end s t u status status answer h k
  creates_end s t u p attrs making (At o) answer h k = go (has_flag open_if_flag attrs) h k
    where
      go : (opens : Bool) → MatchBool opens (OpensAt g s p attrs (type_made making) ObjectNameExists o answer t) (IsRefused s ObjectNameCollision answer t)
          → MatchBool opens (OpensAt g s p attrs (type_made making) ObjectNameExists o answer u) (IsRefused s ObjectNameCollision answer u) → t ≡ u
      go true h k = opens_at_end s t u p attrs (type_made making) ObjectNameExists o answer h k
      go false h k = refused_end s t u ObjectNameCollision ObjectNameCollision answer h k
  creates_end s t u p attrs making (Parse o rest n) answer h k = absurd h
  creates_end s t u p attrs making (Vacant d c) answer h k = makes_end s t u p attrs making (Some (d, c)) answer h k

  -- what the end of a create's name leads to, and that of an open's
  abbrev CreatesLooking : State K T F I → ℕ → List ℕ → ℕ → Making K → Answer → State K T F I → Option ℕ → Type 0
  CreatesLooking s p name attrs making answer t at =
      (look : Look) × LooksUp g s p (create_mode attrs) most_reparses at name look × Creates g s p attrs making look answer t

  abbrev OpensLooking : State K T F I → ℕ → List ℕ → ℕ → Wanted K → Answer → State K T F I → Option ℕ → Type 0
  OpensLooking s p name attrs wanted answer t at =
      (look : Look) × LooksUp g s p (open_mode wanted attrs) most_reparses at name look × Opens g s p attrs wanted look answer t

  creates_in_end : (s t u : State K T F I) (p : ℕ) (where_to : Place) (attrs : ℕ) (shadow : Option ℕ) (making : Option ℕ → Making K) (answer : Answer)
      → CreatesIn g s p where_to attrs shadow making answer t → CreatesIn g s p where_to attrs shadow making answer u → t ≡ u
  creates_in_end s t u p (place.At root name) attrs shadow making answer h k =
      with_root_end s t u p root answer (λ at. WithShadow s p shadow answer t (λ d. CreatesLooking s p name attrs (making d) answer t at))
      (λ at. WithShadow s p shadow answer u (λ d. CreatesLooking s p name attrs (making d) answer u at))
      (λ at.
      with_shadow_end s t u p shadow answer (λ d. CreatesLooking s p name attrs (making d) answer t at) (λ d. CreatesLooking s p name attrs (making d) answer u at)
      (λ d a b.
      let same : b.0 ≡ a.0 = looks_up_unique g s p (create_mode attrs) most_reparses at name b.0 a.0 b.1 a.1 in
      creates_end s t u p attrs (making d) a.0 answer a.2 (subst (λ look. Creates g s p attrs (making d) look answer u) same b.2))) h k
  creates_in_end s t u p place.Unnamed attrs shadow making answer h k =
      with_shadow_end s t u p shadow answer (λ d. Makes g s p attrs (making d) None answer t) (λ d. Makes g s p attrs (making d) None answer u)
      (λ d. makes_end s t u p attrs (making d) None answer) h k

  creates_at_end : (s t u : State K T F I) (p : ℕ) (where_to : Place) (attrs : ℕ) (shadow : Option ℕ) (making : Option ℕ → Making K) (answer : Answer)
      → CreatesAt g s p where_to attrs shadow making answer t → CreatesAt g s p where_to attrs shadow making answer u → t ≡ u
  creates_at_end s t u p where_to attrs shadow making answer h k =
      unless_end (create_refusals (is_live s p) (is_fit (making None)) where_to attrs) s t u answer
      (CreatesIn g s p where_to attrs shadow making answer t) (CreatesIn g s p where_to attrs shadow making answer u) (creates_in_end s t u p where_to attrs shadow making answer) h k

  opens_name_end : (s t u : State K T F I) (p : ℕ) (root : Option ℕ) (name : List ℕ) (attrs : ℕ) (wanted : Wanted K) (answer : Answer)
      → OpensName g s p root name attrs wanted answer t → OpensName g s p root name attrs wanted answer u → t ≡ u
  opens_name_end s t u p root name attrs wanted answer h k =
      unless_end (open_refusals (is_live s p) name attrs) s t u answer
      (WithRoot s p root answer t (OpensLooking s p name attrs wanted answer t)) (WithRoot s p root answer u (OpensLooking s p name attrs wanted answer u))
      (with_root_end s t u p root answer (OpensLooking s p name attrs wanted answer t) (OpensLooking s p name attrs wanted answer u)
      (λ at a b.
      let same : b.0 ≡ a.0 = looks_up_unique g s p (open_mode wanted attrs) most_reparses at name b.0 a.0 b.1 a.1 in
      opens_end s t u p attrs wanted a.0 answer a.2 (subst (λ look. Opens g s p attrs wanted look answer u) same b.2))) h k

  turns_end : (s t u : State K T F I) (p handle : ℕ) (permanent : Bool) (answer : Answer) → Turns g s p handle permanent answer t → Turns g s p handle permanent answer u → t ≡ u
  turns_end s t u p handle permanent answer h k =
      with_handle_end s t u p handle answer (λ x. (answer ≡ answers Success) × (t ≡ settle g (turned s x.object permanent)))
      (λ x. (answer ≡ answers Success) × (u ≡ settle g (turned s x.object permanent))) (λ x a b. a.1 ∙ sym b.1) h k

  sets_map_end : (s t u : State K T F I) (p handle : ℕ) (answer : Answer) → SetsMap g s p handle answer t → SetsMap g s p handle answer u → t ≡ u
  sets_map_end s t u p handle answer h k =
      with_handle_end s t u p handle answer (Sets t) (Sets u)
      (λ x a b.
      unless_end ((not (is_directory s x.object), ObjectTypeMismatch) ∷ []) s t u answer
      ((answer ≡ answers Success) × (t ≡ settle g (with_map s p x.object))) ((answer ≡ answers Success) × (u ≡ settle g (with_map s p x.object))) (λ a b. a.1 ∙ sym b.1) a b) h k
    where
      Sets : State K T F I → Held → Type 0
      Sets end x = Unless ((not (is_directory s x.object), ObjectTypeMismatch) ∷ []) s answer end ((answer ≡ answers Success) × (end ≡ settle g (with_map s p x.object)))

  queries_directory_end : (s t u : State K T F I) (p handle context room : ℕ) (single restart : Bool) (answer : Answer)
      → QueriesDirectory g s p handle context room single restart answer t → QueriesDirectory g s p handle context room single restart answer u → t ≡ u
  queries_directory_end s t u p handle context room single restart answer h k =
      unless_end (page_refusals (is_live s p) room) s t u answer
      (MatchOption (option_and_then (held_of s p) (key_of handle)) (IsRefused s InvalidHandle answer t) (Pages t))
      (MatchOption (option_and_then (held_of s p) (key_of handle)) (IsRefused s InvalidHandle answer u) (Pages u))
      (go (option_and_then (held_of s p) (key_of handle))) h k
    where
      Pages : State K T F I → Held → Type 0
      Pages end x = TellsPage g s x.object (context_used restart context) room single answer end

      Told : State K T F I → Held → Type 0
      Told end x = (answer ≡ page_answer (enumerated g s x.object (context_used restart context) room single)) × (end ≡ s)

      go : (o : Option Held) → MatchOption o (IsRefused s InvalidHandle answer t) (Pages t) → MatchOption o (IsRefused s InvalidHandle answer u) (Pages u) → t ≡ u
      go None h k = refused_end s t u InvalidHandle InvalidHandle answer h k
      go (Some x) h k = unless_end ((not (is_directory s x.object), ObjectTypeMismatch) ∷ []) s t u answer (Told t x) (Told u x) (λ a b. a.1 ∙ sym b.1) h k

  -- ---- the end of a pending open

  -- one thing is brought of its parse
  parsed_unique : (s : State K T F I) (x : PendingOpen K) (parse : ParseRun) (a b : Option (ParseOutcome F I)) → IsParsed g s x parse a → IsParsed g s x parse b → a ≡ b
  parsed_unique s x run.Unrun a b h k = h ∙ sym k
  parsed_unique s x run.NoMemory a b h k = h ∙ sym k
  parsed_unique s x run.Ran None b h k = absurd h
  parsed_unique s x run.Ran (Some a) None h k = absurd k
  parsed_unique s x run.Ran (Some a) (Some b) h k = go (face_of s x.object) h k
    where
      go : (face : Option F) → MatchOption face ⊥ (λ f. ParseEnds g f x.rest a) → MatchOption face ⊥ (λ f. ParseEnds g f x.rest b) → Some a ≡ Some b
      go None h k = absurd h
      go (Some face) h k = ap (λ (outcome : ParseOutcome F I). Some outcome) (parse_unique g h k)

  brought_for : (s : State K T F I) (parse : ParseRun) (found : Option (PendingOpen K)) (a b : Option (ParseOutcome F I))
      → MatchOption found ⊥ (λ x. IsParsed g s x parse a) → MatchOption found ⊥ (λ x. IsParsed g s x parse b) → a ≡ b
  brought_for s parse None a b h k = absurd h
  brought_for s parse (Some x) a b h k = parsed_unique s x parse a b h k

  brought_unique : (s : State K T F I) (event : Event K) (a b : Option (ParseOutcome F I)) → IsBrought g s event a → IsBrought g s event b → a ≡ b
  brought_unique s (Start p command) a b h k = h ∙ sym k
  brought_unique s (Resume ticket run.Unrun) a b h k = absurd h
  brought_unique s (Resume ticket run.Ran) a b h k = brought_for s run.Ran (pending_of s ticket) a b h k
  brought_unique s (Resume ticket run.NoMemory) a b h k = brought_for s run.NoMemory (pending_of s ticket) a b h k
  brought_unique s (Abandon ticket parse) a b h k = brought_for s parse (pending_of s ticket) a b h k

  -- a text that is looked up again has one end
  again_unique : (s : State K T F I) (p : ℕ) (mode : Mode) (n : ℕ) (text : List ℕ) (a b : Look) → LooksAgain g s p mode n text a → LooksAgain g s p mode n text b → a ≡ b
  again_unique s p mode zero text a b h k = h ∙ sym k
  again_unique s p mode (suc n) text a b h k =
      Again-unique s p mode text (λ look place rest. Looks g s p mode n place rest look) a b (λ place rest h' k'. looks_unique g s p mode n place rest a b h' k') h k

  -- what a parse leads to
  ends_open_end : (s t u : State K T F I) (x : PendingOpen K) (outcome : Option (ParseOutcome F I)) (answer : Answer)
      → EndsOpen g s x outcome answer t → EndsOpen g s x outcome answer u → t ≡ u
  ends_open_end s t u x None answer h k = refused_end s t u NoMemory NoMemory answer h k
  ends_open_end s t u x (Some EndsItself) answer h k = opens_at_end s t u x.process x.attrs x.wanted Success x.object answer h k
  ends_open_end s t u x (Some (EndsMade face inner)) answer h k = opens_at_end s t u x.process x.attrs x.wanted Success x.ticket answer h k
  ends_open_end s t u x (Some (EndsReparse text)) answer h k =
      let same : k.0 ≡ h.0 = again_unique s x.process (open_mode x.wanted x.attrs) x.left text k.0 h.0 k.1 h.1 in
      opens_end s t u x.process x.attrs x.wanted h.0 answer h.2 (subst (λ look. Opens g s x.process x.attrs x.wanted look answer u) same k.2)
  ends_open_end s t u x (Some (EndsRefused n)) answer h k = refused_end s t u (TypeRefused n) (TypeRefused n) answer h k

  resumes_end : (s t u : State K T F I) (x : PendingOpen K) (outcome : Option (ParseOutcome F I)) (answer : Answer) → Resumes g s x outcome answer t → Resumes g s x outcome answer u → t ≡ u
  resumes_end s t u x outcome answer h k =
      let v = parsed_state s x.ticket outcome in
      h.2
      ∙ ap (settle g)
      (unless_end ((not (is_live s x.process), ProcessGone) ∷ []) v h.0 k.0 answer (EndsOpen g v x outcome answer h.0) (EndsOpen g v x outcome answer k.0)
      (ends_open_end v h.0 k.0 x outcome answer) h.1 k.1)
      ∙ sym k.2

  -- a step with its answer leads to one state alone
  pub step_end : (s t u : State K T F I) (event : Event K) (answer : Answer) → Step g s event answer t → Step g s event answer u → t ≡ u
  step_end s t u (Start p (CreateDirectory where_to attrs)) answer h k = creates_at_end s t u p where_to attrs None MakesDirectory answer h k
  step_end s t u (Start p (CreateShadowed where_to attrs shadow)) answer h k = creates_at_end s t u p where_to attrs (Some shadow) MakesDirectory answer h k
  step_end s t u (Start p (CreateLink where_to attrs target)) answer h k = creates_at_end s t u p where_to attrs None (λ shadow. MakesLink target) answer h k
  step_end s t u (Start p (CreateObject where_to attrs kind args)) answer h k = creates_at_end s t u p where_to attrs None (λ shadow. MakesObject kind args) answer h k
  step_end s t u (Start p (OpenDirectory root name attrs)) answer h k = opens_name_end s t u p root name attrs wanted.Directory answer h k
  step_end s t u (Start p (OpenLink root name attrs)) answer h k = opens_name_end s t u p root name attrs wanted.Link answer h k
  step_end s t u (Start p (OpenObject root name attrs want)) answer h k = opens_name_end s t u p root name attrs (type_wanted want) answer h k
  step_end s t u (Start p (Close handle)) answer h k =
      with_handle_end s t u p handle answer (λ x. (answer ≡ answers Success) × (t ≡ settle g (closed_handle g s x)))
      (λ x. (answer ≡ answers Success) × (u ≡ settle g (closed_handle g s x))) (λ x a b. a.1 ∙ sym b.1) h k
  step_end s t u (Start p (QueryLink handle)) answer h k =
      with_handle_end s t u p handle answer (λ x. TellsTarget s x.object answer × (t ≡ s)) (λ x. TellsTarget s x.object answer × (u ≡ s)) (λ x a b. a.1 ∙ sym b.1) h k
  step_end s t u (Start p (QueryName handle)) answer h k =
      with_handle_end s t u p handle answer (λ x. TellsName s x.object answer × (t ≡ s)) (λ x. TellsName s x.object answer × (u ≡ s)) (λ x a b. a.1 ∙ sym b.1) h k
  step_end s t u (Start p (QueryDirectory handle context room single restart)) answer h k = queries_directory_end s t u p handle context room single restart answer h k
  step_end s t u (Start p (Duplicate handle to inherit)) answer h k =
      unless_end ((not (is_live s p), ProcessGone) ∷ (not (is_live s to), ProcessGone) ∷ []) s t u answer
      (MatchOption (option_and_then (held_of s p) (key_of handle)) (IsRefused s InvalidHandle answer t) (Given t))
      (MatchOption (option_and_then (held_of s p) (key_of handle)) (IsRefused s InvalidHandle answer u) (Given u))
      (go (option_and_then (held_of s p) (key_of handle))) h k
    where
      Given : State K T F I → Held → Type 0
      Given end x = GivesHandle g s to x.object (record { inherit = inherit; exclusive = false }) Duplicated Success answer end

      go : (o : Option Held) → MatchOption o (IsRefused s InvalidHandle answer t) (Given t) → MatchOption o (IsRefused s InvalidHandle answer u) (Given u) → t ≡ u
      go None h k = refused_end s t u InvalidHandle InvalidHandle answer h k
      go (Some x) h k = gives_handle_end s t u to x.object (record { inherit = inherit; exclusive = false }) Duplicated Success answer h k
  step_end s t u (Start p (MakeTemporary handle)) answer h k = turns_end s t u p handle false answer h k
  step_end s t u (Start p (MakePermanent handle)) answer h k = turns_end s t u p handle true answer h k
  step_end s t u (Start p (SetDeviceMap handle)) answer h k = sets_map_end s t u p handle answer h k
  step_end s t u (Start p (NewProcess inherit)) answer h k =
      unless_end ((not (is_live s p), ProcessGone) ∷ (is_crowded s p inherit, InsufficientResources) ∷ []) s t u answer (Child t) (Child u) (λ a b. a.1 ∙ sym b.1) h k
    where
      Child : State K T F I → Type 0
      Child end = let v = begun g s p inherit in (answer ≡ gives Success (Process s.next_process (values_in v s.next_process))) × (end ≡ settle g v)
  step_end s t u (Start p ExitProcess) answer h k =
      unless_end ((not (is_live s p), ProcessGone) ∷ []) s t u answer ((answer ≡ answers Success) × (t ≡ settle g (ended g s p)))
      ((answer ≡ answers Success) × (u ≡ settle g (ended g s p))) (λ a b. a.1 ∙ sym b.1) h k
  step_end s t u (Resume ticket parse) answer h k =
      let same : k.0 ≡ h.0 = brought_unique s (Resume ticket parse) k.0 h.0 k.1 h.1 in
      go (pending_of s ticket) h.2 (subst (λ (outcome : Option (ParseOutcome F I)). MatchOption (pending_of s ticket) ⊥ (λ x. Resumes g s x outcome answer u)) same k.2)
    where
      go : (found : Option (PendingOpen K)) → MatchOption found ⊥ (λ x. Resumes g s x h.0 answer t) → MatchOption found ⊥ (λ x. Resumes g s x h.0 answer u) → t ≡ u
      go None h k = absurd h
      go (Some x) does also = resumes_end s t u x h.0 answer does also
  step_end s t u (Abandon ticket parse) answer h k =
      let same : k.0 ≡ h.0 = brought_unique s (Abandon ticket parse) k.0 h.0 k.1 h.1 in
      go (pending_of s ticket) h.2 (subst (λ (outcome : Option (ParseOutcome F I)). MatchOption (pending_of s ticket) ⊥ (λ x. Abandons g s x outcome answer u)) same k.2)
    where
      go : (found : Option (PendingOpen K)) → MatchOption found ⊥ (λ x. Abandons g s x h.0 answer t) → MatchOption found ⊥ (λ x. Abandons g s x h.0 answer u) → t ≡ u
      go None h k = absurd h
      go (Some x) does also = does.1 ∙ sym also.1

  -- and so does a list of entries, from one state
  pub run_end : (s : State K T F I) (n : ℕ) (entries : List (Entry K)) (t u : State K T F I) → RunFrom g s n entries t → RunFrom g s n entries u → t ≡ u
  run_end s n [] t u h k = h ∙ sym k
  run_end s n (e ∷ es) t u h k =
      let same : k.0 ≡ h.0 = step_end s k.0 h.0 e.event e.answer k.2 h.2 in
      run_end h.0 (n + 1) es t u h.3 (subst (λ v. RunFrom g v (n + 1) es u) same k.3)
