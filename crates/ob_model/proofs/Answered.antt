-- What a step answers with the state that it leads to: a reply with the state as it was, or with one whose new object was
-- dropped, or with one that settled after a change; or a ticket, with an open that is pending under it.
use Rattle.std.proofs.Common.{◌≡◌, ℕ, length, Bool, true, false, not, refl, List, [], ◌∷◌, Option, None, Some, Result, Ok, Err, MatchOption, MatchResult, inl, inr, sym, ap, ◌∙◌, subst}
use Rattle.std.specs.Prelude.{MatchBool, nat_lt, if◌then◌else◌}
use Rattle.std.specs.Option.{option_and_then}
use Rattle.ob_base.specs.declared.status.Status.{Status}
use Rattle.ob_base.specs.declared.status.Status.TheVariants.{NoMemory, Success, InvalidHandle, InsufficientResources, ObjectTypeMismatch, ObjectNameExists, ObjectNameCollision, NameTooLong, ProcessGone, TypeRefused}
use Rattle.ob_base.specs.Attrs.{has_flag, open_if_flag}
use Rattle.ob_base.specs.Handle.{key_of}
use Rattle.ob_model.specs.declared.command.Place.{Place}
use Rattle.ob_model.specs.declared.command.Place.TheVariants as place
use Rattle.ob_model.specs.declared.command.Command.TheVariants.{CreateDirectory, CreateShadowed, CreateLink, CreateObject, OpenDirectory, OpenLink, OpenObject, Close, QueryLink, QueryName, QueryDirectory, Duplicate, MakeTemporary, MakePermanent, SetDeviceMap, NewProcess, ExitProcess}
use Rattle.ob_model.specs.declared.command.Command.{Command}
use Rattle.ob_model.specs.declared.reply.Answer.{Answer}
use Rattle.ob_model.specs.declared.reply.Answer.TheVariants.{Done, Ticket}
use Rattle.ob_model.specs.declared.reply.Event.TheVariants.{Start}
use Rattle.ob_model.specs.declared.reply.Given.{Given}
use Rattle.ob_model.specs.declared.reply.Given.TheVariants.{Nothing, Handle, Text, Process, Page}
use Rattle.ob_model.specs.declared.reply.Reply.{Reply}
use Rattle.ob_model.specs.declared.state.Held.{Held}
use Rattle.ob_model.specs.declared.state.Body.{Body}
use Rattle.ob_model.specs.declared.state.PendingOpen.{PendingOpen}
use Rattle.ob_model.specs.declared.state.Wanted.{Wanted}
use Rattle.ob_model.specs.declared.state.Wanted.TheVariants as wanted
use Rattle.ob_model.specs.Names.{longest_name}
use Rattle.ob_model.specs.State.{State, body_of, is_live, is_directory, is_store_full, held_of}
use Rattle.ob_model.specs.declared.terms.Mode.{Mode}
use Rattle.ob_model.specs.Looks.{Look, At, Vacant, Parse, Refused, LooksUp, most_reparses}
use Rattle.ob_model.specs.declared.terms.Reason.{Reason}
use Rattle.ob_model.specs.declared.terms.Reason.TheVariants.{Opened, Created, Duplicated}
use Rattle.ob_model.specs.Procedures.{Procedures, ParseOutcome, EndsItself, EndsMade, EndsReparse, EndsRefused}
use Rattle.ob_model.specs.Settle.{settle}
use Rattle.ob_model.specs.declared.terms.GrantOptions.{GrantOptions}
use Rattle.ob_model.specs.Grants.{first_refusal, Grants, IsFreeValue, open_refusal_of, with_open, with_handle}
use Rattle.ob_model.specs.Closing.{closed_handle}
use Rattle.ob_model.specs.Permanence.{turned}
use Rattle.ob_model.specs.Maps.{with_map}
use Rattle.ob_model.specs.Types.{is_wanted_at}
use Rattle.ob_model.specs.Refusals.{gives, answers, IsRefused, Unless, create_refusals, open_refusals}
use Rattle.ob_model.specs.PendingOpens.{with_pending}
use Rattle.ob_model.specs.Parses.{LooksAgain, EndsOpen}
use Rattle.ob_model.specs.Opens.{GivesHandle, OpensAt, Opens, options_by, type_wanted, open_mode}
use Rattle.ob_model.specs.Creates.{Making, MakesDirectory, MakesLink, MakesObject, is_fit, create_mode, type_made, Spot, room_refusals, make_refusal, body_made, created, dropped, Makes, Creates}
use Rattle.ob_model.specs.Naming.{path_text, target_of, TellsName, TellsTarget}
use Rattle.ob_model.specs.Enumeration.{enumerated, context_used, page_answer}
use Rattle.ob_model.specs.Processes.{values_in, is_crowded, begun, ended}
use Rattle.ob_model.specs.Step.{WithHandle, WithRoot, shadow_refusals, WithShadow, CreatesIn, CreatesAt, OpensName, Turns, SetsMap, page_refusals, TellsPage, QueriesDirectory, Step}

-- what is given is no child
abbrev pub IsNoChild : Given → Type 0
IsNoChild Nothing = Unit {0}
IsNoChild (Handle handle) = Unit {0}
IsNoChild (Text text) = Unit {0}
IsNoChild (Process process values) = ⊥
IsNoChild (Page entries context) = Unit {0}

-- what a lookup hands on to a parse has few reparses
abbrev pub HandsFew : (ℕ → Type 0) → Look → Type 0
HandsFew Few (At o) = Unit {0}
HandsFew Few (Vacant d c) = Unit {0}
HandsFew Few (Parse o rest n) = Few n
HandsFew Few (Refused status) = Unit {0}

module _ {K T F I : Type 0} (g : Procedures K T F I) (s : State K T F I) (P : Answer → State K T F I → Type 0) (Few : ℕ → Type 0)
    (refused : (status : Status) → P (answers status) s)
    (drops : (k : ℕ) (body : Body F I) → P (answers (TypeRefused k)) (dropped g s body))
    (grants : (status : Status) (p value o : ℕ) (asked : GrantOptions) (reason : Reason) → P (gives status (Handle value)) (settle g (with_handle (with_open g s o reason) p value o asked.inherit)))
    (makes : (p : ℕ) (spot : Spot) (body : Body F I) (attrs value : ℕ) → P (gives Success (Handle value)) (settle g (created g s p spot body attrs value)))
    (closes : (h : Held) → P (answers Success) (settle g (closed_handle g s h)))
    (turns : (o : ℕ) (permanent : Bool) → P (answers Success) (settle g (turned s o permanent)))
    (sets_map : (p d : ℕ) → P (answers Success) (settle g (with_map s p d)))
    (ends : (p : ℕ) → P (answers Success) (settle g (ended g s p)))
    (waits : (p attrs : ℕ) (wanted : Wanted K) (o : ℕ) (rest : List ℕ) (n : ℕ) → Few n → P (Ticket s.next_id) (settle g (with_pending s p attrs wanted o rest n))) where
  -- an answer and a state that are these
  lands : {answer a : Answer} {t u : State K T F I} → answer ≡ a → t ≡ u → P a u → P answer t
  lands {answer} {a} {t} {u} e same h = subst (λ x. P x t) (sym e) (subst (λ v. P a v) (sym same) h)

  refused_told : (t : State K T F I) (status : Status) (answer : Answer) → IsRefused s status answer t → P answer t
  refused_told t status answer h = lands h.0 h.1 (refused status)

  unless_told : (refusals : List (Bool × Status)) (t : State K T F I) (answer : Answer) (Does : Type 0)
      → (first_refusal refusals ≡ None → Does → P answer t) → Unless refusals s answer t Does → P answer t
  unless_told refusals t answer Does does h = go (first_refusal refusals) refl h
    where
      go : (refusal : Option Status) → first_refusal refusals ≡ refusal → MatchOption refusal Does (λ status. IsRefused s status answer t) → P answer t
      go None e h = does e h
      go (Some status) e h = refused_told t status answer h

  held_told : (t : State K T F I) (held : Option Held) (answer : Answer) (Does : Held → Type 0) → ((h : Held) → Does h → P answer t)
      → MatchOption held (IsRefused s InvalidHandle answer t) Does → P answer t
  held_told t None answer Does does h = refused_told t InvalidHandle answer h
  held_told t (Some x) answer Does does h = does x h

  with_handle_told : (t : State K T F I) (p handle : ℕ) (answer : Answer) (Does : Held → Type 0) → ((h : Held) → Does h → P answer t) → WithHandle s p handle answer t Does → P answer t
  with_handle_told t p handle answer Does does h =
      unless_told ((not (is_live s p), ProcessGone) ∷ []) t answer (MatchOption (option_and_then (held_of s p) (key_of handle)) (IsRefused s InvalidHandle answer t) Does)
      (λ e. held_told t (option_and_then (held_of s p) (key_of handle)) answer Does does) h

  with_root_told : (t : State K T F I) (p : ℕ) (root : Option ℕ) (answer : Answer) (Does : Option ℕ → Type 0)
      → ((at : Option ℕ) → Does at → P answer t) → WithRoot s p root answer t Does → P answer t
  with_root_told t p None answer Does does h = does None h
  with_root_told t p (Some handle) answer Does does h =
      held_told t (option_and_then (held_of s p) (key_of handle)) answer (λ x. Does (Some x.object)) (λ x. does (Some x.object)) h

  with_shadow_told : (t : State K T F I) (p : ℕ) (shadow : Option ℕ) (answer : Answer) (Does : Option ℕ → Type 0)
      → ((d : Option ℕ) → Does d → P answer t) → WithShadow s p shadow answer t Does → P answer t
  with_shadow_told t p None answer Does does h = does None h
  with_shadow_told t p (Some handle) answer Does does h =
      held_told t (option_and_then (held_of s p) (key_of handle)) answer (λ x. Unless (shadow_refusals s x.object) s answer t (Does (Some x.object)))
      (λ x. unless_told (shadow_refusals s x.object) t answer (Does (Some x.object)) (λ e. does (Some x.object))) h

  granted_told : (t u : State K T F I) (p o : ℕ) (asked : GrantOptions) (reason : Reason) (status : Status) (answer : Answer) (result : Result ℕ Status) → Grants g s p o asked reason result u
      → MatchResult result (λ value. (answer ≡ gives status (Handle value)) × (t ≡ settle g u)) (λ refusal. IsRefused s refusal answer t) → P answer t
  granted_told t u p o asked reason status answer (Ok value) granted h =
      lands h.0 (h.1 ∙ ap (settle g) granted.2) (grants status p value o asked reason)
  granted_told t u p o asked reason status answer (Err refusal) granted h = refused_told t refusal answer h

  opens_at_told : (t : State K T F I) (p attrs : ℕ) (wanted : Wanted K) (status : Status) (o : ℕ) (answer : Answer) → OpensAt g s p attrs wanted status o answer t → P answer t
  opens_at_told t p attrs wanted status o answer h =
      unless_told ((not (is_wanted_at g s o wanted), ObjectTypeMismatch) ∷ []) t answer
      (GivesHandle g s p o (options_by attrs) Opened status answer t)
      (λ e does. granted_told t does.1 p o (options_by attrs) Opened status answer does.0 does.2 does.3) h

  opens_told : (t : State K T F I) (p attrs : ℕ) (wanted : Wanted K) (look : Look) (answer : Answer) → HandsFew Few look → Opens g s p attrs wanted look answer t → P answer t
  opens_told t p attrs wanted (Refused status) answer few h = refused_told t status answer h
  opens_told t p attrs wanted (Vacant d c) answer few h = absurd h
  opens_told t p attrs wanted (Parse o rest n) answer few h =
      unless_told ((is_store_full s, InsufficientResources) ∷ []) t answer ((answer ≡ Ticket s.next_id) × (t ≡ settle g (with_pending s p attrs wanted o rest n)))
      (λ e does. lands does.0 does.1 (waits p attrs wanted o rest n few)) h
  opens_told t p attrs wanted (At o) answer few h = opens_at_told t p attrs wanted Success o answer h

  makes_told : (t : State K T F I) (p attrs : ℕ) (making : Making K) (spot : Spot) (answer : Answer) → Makes g s p attrs making spot answer t → P answer t
  makes_told t p attrs making spot answer h = unless_told (room_refusals s p spot) t answer _ (λ e. go (make_refusal g making)) h
    where
      Made : Type 0
      Made = (value : ℕ) × IsFreeValue s p value × (answer ≡ gives Success (Handle value)) × (t ≡ settle g (created g s p spot (body_made g making) attrs value))

      DroppedFor : ℕ → Type 0
      DroppedFor k = (answer ≡ answers (TypeRefused k)) × (t ≡ dropped g s (body_made g making))

      opened : (refusal : Option ℕ) → MatchOption refusal Made DroppedFor → P answer t
      opened None h = lands h.2 h.3 (makes p spot (body_made g making) attrs h.0)
      opened (Some k) h = lands h.0 h.1 (drops k (body_made g making))

      go : (refusal : Option ℕ)
          → MatchOption refusal (MatchOption (open_refusal_of g s.set (body_made g making) Created) Made DroppedFor) (λ k. IsRefused s (TypeRefused k) answer t) → P answer t
      go None h = opened (open_refusal_of g s.set (body_made g making) Created) h
      go (Some k) h = refused_told t (TypeRefused k) answer h

  creates_told : (t : State K T F I) (p attrs : ℕ) (making : Making K) (look : Look) (answer : Answer) → Creates g s p attrs making look answer t → P answer t
  creates_told t p attrs making (Refused status) answer h = refused_told t status answer h
  creates_told t p attrs making (At o) answer h = go (has_flag open_if_flag attrs) h
    where
      go : (opens : Bool) → MatchBool opens (OpensAt g s p attrs (type_made making) ObjectNameExists o answer t) (IsRefused s ObjectNameCollision answer t) → P answer t
      go true h = opens_at_told t p attrs (type_made making) ObjectNameExists o answer h
      go false h = refused_told t ObjectNameCollision answer h
  creates_told t p attrs making (Parse o rest n) answer h = absurd h
  creates_told t p attrs making (Vacant d c) answer h = makes_told t p attrs making (Some (d, c)) answer h

  creates_in_told : (t : State K T F I) (p : ℕ) (where_to : Place) (attrs : ℕ) (shadow : Option ℕ) (making : Option ℕ → Making K) (answer : Answer)
      → CreatesIn g s p where_to attrs shadow making answer t → P answer t
  creates_in_told t p (place.At root name) attrs shadow making answer h =
      with_root_told t p root answer (λ at. WithShadow s p shadow answer t (Does at))
      (λ at. with_shadow_told t p shadow answer (Does at) (λ d does. creates_told t p attrs (making d) does.0 answer does.2)) h
    where
      Does : Option ℕ → Option ℕ → Type 0
      Does at d = (look : Look) × LooksUp g s p (create_mode attrs) most_reparses at name look × Creates g s p attrs (making d) look answer t
  creates_in_told t p place.Unnamed attrs shadow making answer h =
      with_shadow_told t p shadow answer (λ d. Makes g s p attrs (making d) None answer t) (λ d. makes_told t p attrs (making d) None answer) h

  creates_at_told : (t : State K T F I) (p : ℕ) (where_to : Place) (attrs : ℕ) (shadow : Option ℕ) (making : Option ℕ → Making K) (answer : Answer)
      → CreatesAt g s p where_to attrs shadow making answer t → P answer t
  creates_at_told t p where_to attrs shadow making answer h =
      unless_told (create_refusals (is_live s p) (is_fit (making None)) where_to attrs) t answer (CreatesIn g s p where_to attrs shadow making answer t)
      (λ e. creates_in_told t p where_to attrs shadow making answer) h

  turns_told : (t : State K T F I) (p handle : ℕ) (permanent : Bool) (answer : Answer) → Turns g s p handle permanent answer t → P answer t
  turns_told t p handle permanent answer h =
      with_handle_told t p handle answer (λ x. (answer ≡ answers Success) × (t ≡ settle g (turned s x.object permanent)))
      (λ x does. lands does.0 does.1 (turns x.object permanent)) h

  sets_map_told : (t : State K T F I) (p handle : ℕ) (answer : Answer) → SetsMap g s p handle answer t → P answer t
  sets_map_told t p handle answer h =
      with_handle_told t p handle answer
      (λ x. Unless ((not (is_directory s x.object), ObjectTypeMismatch) ∷ []) s answer t ((answer ≡ answers Success) × (t ≡ settle g (with_map s p x.object))))
      (λ x.
      unless_told ((not (is_directory s x.object), ObjectTypeMismatch) ∷ []) t answer ((answer ≡ answers Success) × (t ≡ settle g (with_map s p x.object)))
      (λ e does. lands does.0 does.1 (sets_map p x.object))) h

  duplicates_told : (t : State K T F I) (p handle to : ℕ) (inherit : Bool) (answer : Answer) → Step g s (Start p (Duplicate handle to inherit)) answer t → P answer t
  duplicates_told t p handle to inherit answer h =
      unless_told ((not (is_live s p), ProcessGone) ∷ (not (is_live s to), ProcessGone) ∷ []) t answer
      (MatchOption (option_and_then (held_of s p) (key_of handle)) (IsRefused s InvalidHandle answer t) Given)
      (λ e. held_told t (option_and_then (held_of s p) (key_of handle)) answer Given
      (λ x does. granted_told t does.1 to x.object (record { inherit = inherit; exclusive = false }) Duplicated Success answer does.0 does.2 does.3)) h
    where
      Given : Held → Type 0
      Given x = GivesHandle g s to x.object (record { inherit = inherit; exclusive = false }) Duplicated Success answer t

  -- what a parse leads to, in the state in which it is judged
  pub ends_open_told : (t : State K T F I) (x : PendingOpen K) (outcome : Option (ParseOutcome F I)) (answer : Answer)
      → ((text : List ℕ) (look : Look) → LooksAgain g s x.process (open_mode x.wanted x.attrs) x.left text look → HandsFew Few look) → EndsOpen g s x outcome answer t → P answer t
  ends_open_told t x None answer few h = refused_told t NoMemory answer h
  ends_open_told t x (Some EndsItself) answer few h = opens_at_told t x.process x.attrs x.wanted Success x.object answer h
  ends_open_told t x (Some (EndsMade face inner)) answer few h = opens_at_told t x.process x.attrs x.wanted Success x.ticket answer h
  ends_open_told t x (Some (EndsReparse text)) answer few h = opens_told t x.process x.attrs x.wanted h.0 answer (few text h.0 h.1) h.2
  ends_open_told t x (Some (EndsRefused k)) answer few h = refused_told t (TypeRefused k) answer h

  pub unless_ends_told : (t : State K T F I) (refusals : List (Bool × Status)) (x : PendingOpen K) (outcome : Option (ParseOutcome F I)) (answer : Answer)
      → ((text : List ℕ) (look : Look) → LooksAgain g s x.process (open_mode x.wanted x.attrs) x.left text look → HandsFew Few look)
      → Unless refusals s answer t (EndsOpen g s x outcome answer t) → P answer t
  unless_ends_told t refusals x outcome answer few h =
      unless_told refusals t answer (EndsOpen g s x outcome answer t) (λ e does. ends_open_told t x outcome answer few does) h

  -- a start of a process, where what a lookup hands on has few reparses
  module _ (p : ℕ) (asked : Command K) (begins : (inherit : Bool) → asked ≡ NewProcess inherit → P (gives Success (Process s.next_process (values_in (begun g s p inherit) s.next_process))) (settle g (begun g s p inherit)))
      (told : (reply : Reply) → IsNoChild reply.given → P (Done reply) s)
      (few : (mode : Mode) (at : Option ℕ) (name : List ℕ) (look : Look) → LooksUp g s p mode most_reparses at name look → HandsFew Few look) where
    -- the text of a link or the path of an object
    target_told : (t : State K T F I) (o : ℕ) (answer : Answer) → TellsTarget s o answer → t ≡ s → P answer t
    target_told t o answer h same = go (option_and_then target_of (body_of s o)) h
      where
        go : (target : Option (List ℕ)) → MatchOption target (answer ≡ answers ObjectTypeMismatch) (λ text. answer ≡ gives Success (Text text)) → P answer t
        go None e = lands e same (refused ObjectTypeMismatch)
        go (Some text) e = lands e same (told (record { status = Success; given = Text text }) tt)

    name_told : (t : State K T F I) (o : ℕ) (answer : Answer) → TellsName s o answer → t ≡ s → P answer t
    name_told t o answer (inl (cs, up, tells)) same = go (nat_lt longest_name (length (path_text cs))) tells
      where
        go : (long : Bool) → answer ≡ (if long then answers NameTooLong else gives Success (Text (path_text cs))) → P answer t
        go true e = lands e same (refused NameTooLong)
        go false e = lands e same (told (record { status = Success; given = Text (path_text cs) }) tt)
    name_told t o answer (inr h) same = lands h.1 same (told (record { status = Success; given = Text [] }) tt)

    queries_directory_told : (t : State K T F I) (handle context room : ℕ) (single restart : Bool) (answer : Answer) → QueriesDirectory g s p handle context room single restart answer t → P answer t
    queries_directory_told t handle context room single restart answer h =
        unless_told (page_refusals (is_live s p) room) t answer
        (MatchOption (option_and_then (held_of s p) (key_of handle)) (IsRefused s InvalidHandle answer t) Pages)
        (λ e. held_told t (option_and_then (held_of s p) (key_of handle)) answer Pages
        (λ x. unless_told ((not (is_directory s x.object), ObjectTypeMismatch) ∷ []) t answer (Tells x) (λ f does. lands does.0 does.1 (told _ tt)))) h
      where
        Tells : Held → Type 0
        Tells x = (answer ≡ page_answer (enumerated g s x.object (context_used restart context) room single)) × (t ≡ s)

        Pages : Held → Type 0
        Pages x = TellsPage g s x.object (context_used restart context) room single answer t

    opens_name_told : (t : State K T F I) (root : Option ℕ) (name : List ℕ) (attrs : ℕ) (wanted : Wanted K) (answer : Answer) → OpensName g s p root name attrs wanted answer t → P answer t
    opens_name_told t root name attrs wanted answer h =
        unless_told (open_refusals (is_live s p) name attrs) t answer (WithRoot s p root answer t Does)
        (λ e. with_root_told t p root answer Does
        (λ at does. opens_told t p attrs wanted does.0 answer (few (open_mode wanted attrs) at name does.0 does.1) does.2)) h
      where
        Does : Option ℕ → Type 0
        Does at = (look : Look) × LooksUp g s p (open_mode wanted attrs) most_reparses at name look × Opens g s p attrs wanted look answer t

    pub start_told : (t : State K T F I) (command : Command K) → asked ≡ command → (answer : Answer) → Step g s (Start p command) answer t → P answer t
    start_told t (CreateDirectory where_to attrs) is answer h = creates_at_told t p where_to attrs None MakesDirectory answer h
    start_told t (CreateShadowed where_to attrs shadow) is answer h = creates_at_told t p where_to attrs (Some shadow) MakesDirectory answer h
    start_told t (CreateLink where_to attrs target) is answer h = creates_at_told t p where_to attrs None (λ shadow. MakesLink target) answer h
    start_told t (CreateObject where_to attrs kind args) is answer h = creates_at_told t p where_to attrs None (λ shadow. MakesObject kind args) answer h
    start_told t (OpenDirectory root name attrs) is answer h = opens_name_told t root name attrs wanted.Directory answer h
    start_told t (OpenLink root name attrs) is answer h = opens_name_told t root name attrs wanted.Link answer h
    start_told t (OpenObject root name attrs want) is answer h = opens_name_told t root name attrs (type_wanted want) answer h
    start_told t (Close handle) is answer h =
        with_handle_told t p handle answer (λ x. (answer ≡ answers Success) × (t ≡ settle g (closed_handle g s x))) (λ x does. lands does.0 does.1 (closes x)) h
    start_told t (QueryLink handle) is answer h =
        with_handle_told t p handle answer (λ x. TellsTarget s x.object answer × (t ≡ s)) (λ x does. target_told t x.object answer does.0 does.1) h
    start_told t (QueryName handle) is answer h =
        with_handle_told t p handle answer (λ x. TellsName s x.object answer × (t ≡ s)) (λ x does. name_told t x.object answer does.0 does.1) h
    start_told t (QueryDirectory handle context room single restart) is answer h = queries_directory_told t handle context room single restart answer h
    start_told t (Duplicate handle to inherit) is answer h = duplicates_told t p handle to inherit answer h
    start_told t (MakeTemporary handle) is answer h = turns_told t p handle false answer h
    start_told t (MakePermanent handle) is answer h = turns_told t p handle true answer h
    start_told t (SetDeviceMap handle) is answer h = sets_map_told t p handle answer h
    start_told t (NewProcess inherit) is answer h =
        unless_told ((not (is_live s p), ProcessGone) ∷ (is_crowded s p inherit, InsufficientResources) ∷ []) t answer
        (let u = begun g s p inherit in (answer ≡ gives Success (Process s.next_process (values_in u s.next_process))) × (t ≡ settle g u))
        (λ e does. lands does.0 does.1 (begins inherit is)) h
    start_told t ExitProcess is answer h =
        unless_told ((not (is_live s p), ProcessGone) ∷ []) t answer ((answer ≡ answers Success) × (t ≡ settle g (ended g s p)))
        (λ e does. lands does.0 does.1 (ends p)) h
