-- A command that isn't an open is answered with a reply, and not with a ticket.
use Rattle.std.proofs.Common.{◌≡◌, ℕ, Bool, true, false, not, List, [], ◌∷◌, length, Option, None, Some, Result, Ok, Err, MatchOption, MatchResult, inl, inr}
use Rattle.std.specs.Prelude.{MatchBool, nat_lt, if◌then◌else◌}
use Rattle.std.specs.Option.{option_and_then}
use Rattle.ob_base.specs.declared.status.Status.{Status}
use Rattle.ob_base.specs.declared.status.Status.TheVariants.{Success, InvalidHandle, InsufficientResources, ObjectTypeMismatch, ObjectNameExists, ObjectNameCollision, NameTooLong, ProcessGone, TypeRefused}
use Rattle.ob_base.specs.Attrs.{has_flag, open_if_flag}
use Rattle.ob_base.specs.Handle.{key_of}
use Rattle.ob_model.specs.declared.command.Command.{Command}
use Rattle.ob_model.specs.declared.command.Command.TheVariants.{CreateDirectory, CreateShadowed, CreateLink, CreateObject, OpenDirectory, OpenLink, OpenObject, Close, QueryLink, QueryName, QueryDirectory, Duplicate, MakeTemporary, MakePermanent, SetDeviceMap, NewProcess, ExitProcess}
use Rattle.ob_model.specs.declared.command.Place.{Place}
use Rattle.ob_model.specs.declared.command.Place.TheVariants as place
use Rattle.ob_model.specs.declared.reply.Answer.{Answer}
use Rattle.ob_model.specs.declared.reply.Answer.TheVariants.{Done}
use Rattle.ob_model.specs.declared.reply.Event.TheVariants.{Start}
use Rattle.ob_model.specs.declared.reply.Given.TheVariants.{Handle, Text, Process}
use Rattle.ob_model.specs.declared.reply.Reply.{Reply}
use Rattle.ob_model.specs.declared.state.Held.{Held}
use Rattle.ob_model.specs.declared.state.Wanted.{Wanted}
use Rattle.ob_model.specs.Names.{longest_name}
use Rattle.ob_model.specs.State.{State, is_live, is_directory, held_of}
use Rattle.ob_model.specs.Looks.{Look, At, Vacant, Parse, Refused, LooksUp, most_reparses}
use Rattle.ob_model.specs.declared.terms.Reason.{Reason}
use Rattle.ob_model.specs.declared.terms.Reason.TheVariants.{Opened, Created, Duplicated}
use Rattle.ob_model.specs.Procedures.{Procedures}
use Rattle.ob_model.specs.Settle.{settle}
use Rattle.ob_model.specs.declared.terms.GrantOptions.{GrantOptions}
use Rattle.ob_model.specs.Grants.{first_refusal, IsFreeValue, open_refusal_of}
use Rattle.ob_model.specs.Closing.{closed_handle}
use Rattle.ob_model.specs.Permanence.{turned}
use Rattle.ob_model.specs.Maps.{with_map}
use Rattle.ob_model.specs.Types.{is_wanted_at}
use Rattle.ob_model.specs.Refusals.{gives, answers, IsRefused, Unless, create_refusals}
use Rattle.ob_model.specs.Opens.{GivesHandle, OpensAt, options_by}
use Rattle.ob_model.specs.Creates.{Making, MakesDirectory, MakesLink, MakesObject, is_fit, create_mode, type_made, Spot, room_refusals, make_refusal, body_made, created, dropped, Makes, Creates}
use Rattle.ob_model.specs.Naming.{path_text, TellsName, TellsTarget}
use Rattle.ob_model.specs.Enumeration.{enumerated, context_used, page_answer}
use Rattle.ob_model.specs.Processes.{values_in, is_crowded, begun, ended}
use Rattle.ob_runner.specs.Opens.{is_open}
use Rattle.ob_model.specs.Step.{WithHandle, WithRoot, shadow_refusals, WithShadow, CreatesIn, CreatesAt, Turns, page_refusals, TellsPage, Step}

abbrev pub IsReply : Answer → Type 0
IsReply answer = (reply : Reply) × (answer ≡ Done reply)

module _ {K T F I : Type 0} (s t : State K T F I) (answer : Answer) where
  refused_reply : (status : Status) → IsRefused s status answer t → IsReply answer
  refused_reply status h = (_, h.0)

  unless_reply : (refusals : List (Bool × Status)) (Does : Type 0) → (Does → IsReply answer) → Unless refusals s answer t Does → IsReply answer
  unless_reply refusals Does does h = go (first_refusal refusals) h
    where
      go : (refusal : Option Status) → MatchOption refusal Does (λ status. IsRefused s status answer t) → IsReply answer
      go None h = does h
      go (Some status) h = refused_reply status h

  held_reply : (held : Option Held) (Does : Held → Type 0) → ((h : Held) → Does h → IsReply answer) → MatchOption held (IsRefused s InvalidHandle answer t) Does → IsReply answer
  held_reply None Does does h = refused_reply InvalidHandle h
  held_reply (Some x) Does does h = does x h

  with_handle_reply : (p handle : ℕ) (Does : Held → Type 0) → ((h : Held) → Does h → IsReply answer) → WithHandle s p handle answer t Does → IsReply answer
  with_handle_reply p handle Does does h =
      unless_reply ((not (is_live s p), ProcessGone) ∷ []) (MatchOption (option_and_then (held_of s p) (key_of handle)) (IsRefused s InvalidHandle answer t) Does)
      (held_reply (option_and_then (held_of s p) (key_of handle)) Does does) h

  with_root_reply : (p : ℕ) (root : Option ℕ) (Does : Option ℕ → Type 0) → ((at : Option ℕ) → Does at → IsReply answer) → WithRoot s p root answer t Does → IsReply answer
  with_root_reply p None Does does h = does None h
  with_root_reply p (Some handle) Does does h = held_reply (option_and_then (held_of s p) (key_of handle)) (λ x. Does (Some x.object)) (λ x. does (Some x.object)) h

  with_shadow_reply : (p : ℕ) (shadow : Option ℕ) (Does : Option ℕ → Type 0) → ((d : Option ℕ) → Does d → IsReply answer) → WithShadow s p shadow answer t Does → IsReply answer
  with_shadow_reply p None Does does h = does None h
  with_shadow_reply p (Some handle) Does does h =
      held_reply (option_and_then (held_of s p) (key_of handle)) (λ x. Unless (shadow_refusals s x.object) s answer t (Does (Some x.object)))
      (λ x. unless_reply (shadow_refusals s x.object) (Does (Some x.object)) (does (Some x.object))) h

  target_reply : (o : ℕ) → TellsTarget s o answer → IsReply answer
  target_reply o h = go _ h
    where
      go : (target : Option (List ℕ)) → MatchOption target (answer ≡ answers ObjectTypeMismatch) (λ text. answer ≡ gives Success (Text text)) → IsReply answer
      go None e = (_, e)
      go (Some text) e = (_, e)

  name_reply : (o : ℕ) → TellsName s o answer → IsReply answer
  name_reply o (inl (cs, up, told)) = go (nat_lt longest_name (length (path_text cs))) told
    where
      go : (long : Bool) → answer ≡ (if long then answers NameTooLong else gives Success (Text (path_text cs))) → IsReply answer
      go true e = (_, e)
      go false e = (_, e)
  name_reply o (inr h) = (_, h.1)

module _ {K T F I : Type 0} (g : Procedures K T F I) (s t : State K T F I) (answer : Answer) where
  gives_handle_reply : (p o : ℕ) (asked : GrantOptions) (reason : Reason) (status : Status) → GivesHandle g s p o asked reason status answer t → IsReply answer
  gives_handle_reply p o asked reason status h = go h.0 h.3
    where
      go : (result : Result ℕ Status) → MatchResult result (λ value. (answer ≡ gives status (Handle value)) × (t ≡ settle g h.1)) (λ refusal. IsRefused s refusal answer t) → IsReply answer
      go (Ok value) told = (_, told.0)
      go (Err refusal) told = (_, told.0)

  opens_at_reply : (p attrs : ℕ) (wanted : Wanted K) (status : Status) (o : ℕ) → OpensAt g s p attrs wanted status o answer t → IsReply answer
  opens_at_reply p attrs wanted status o h =
      unless_reply s t answer ((not (is_wanted_at g s o wanted), ObjectTypeMismatch) ∷ []) (GivesHandle g s p o (options_by attrs) Opened status answer t)
      (gives_handle_reply p o (options_by attrs) Opened status) h

  makes_reply : (p attrs : ℕ) (making : Making K) (spot : Spot) → Makes g s p attrs making spot answer t → IsReply answer
  makes_reply p attrs making spot h = unless_reply s t answer (room_refusals s p spot) _ (go (make_refusal g making)) h
    where
      Given : Type 0
      Given = (value : ℕ) × IsFreeValue s p value × (answer ≡ gives Success (Handle value)) × (t ≡ settle g (created g s p spot (body_made g making) attrs value))

      DroppedFor : ℕ → Type 0
      DroppedFor k = (answer ≡ answers (TypeRefused k)) × (t ≡ dropped g s (body_made g making))

      opened : (refusal : Option ℕ) → MatchOption refusal Given DroppedFor → IsReply answer
      opened None h = (_, h.2)
      opened (Some k) h = (_, h.0)

      go : (refusal : Option ℕ)
          → MatchOption refusal (MatchOption (open_refusal_of g s.set (body_made g making) Created) Given DroppedFor) (λ k. IsRefused s (TypeRefused k) answer t) → IsReply answer
      go None h = opened (open_refusal_of g s.set (body_made g making) Created) h
      go (Some k) h = refused_reply s t answer (TypeRefused k) h

  creates_reply : (p attrs : ℕ) (making : Making K) (look : Look) → Creates g s p attrs making look answer t → IsReply answer
  creates_reply p attrs making (Refused status) h = refused_reply s t answer status h
  creates_reply p attrs making (At o) h = go (has_flag open_if_flag attrs) h
    where
      go : (opens : Bool) → MatchBool opens (OpensAt g s p attrs (type_made making) ObjectNameExists o answer t) (IsRefused s ObjectNameCollision answer t) → IsReply answer
      go true h = opens_at_reply p attrs (type_made making) ObjectNameExists o h
      go false h = refused_reply s t answer ObjectNameCollision h
  creates_reply p attrs making (Parse o rest n) h = absurd h
  creates_reply p attrs making (Vacant d c) h = makes_reply p attrs making (Some (d, c)) h

  creates_in_reply : (p : ℕ) (where_to : Place) (attrs : ℕ) (shadow : Option ℕ) (making : Option ℕ → Making K) → CreatesIn g s p where_to attrs shadow making answer t → IsReply answer
  creates_in_reply p (place.At root name) attrs shadow making h =
      with_root_reply s t answer p root (λ at. WithShadow s p shadow answer t (Does at))
      (λ at. with_shadow_reply s t answer p shadow (Does at) (λ d does. creates_reply p attrs (making d) does.0 does.2)) h
    where
      Does : Option ℕ → Option ℕ → Type 0
      Does at d = (look : Look) × LooksUp g s p (create_mode attrs) most_reparses at name look × Creates g s p attrs (making d) look answer t
  creates_in_reply p place.Unnamed attrs shadow making h =
      with_shadow_reply s t answer p shadow (λ d. Makes g s p attrs (making d) None answer t) (λ d. makes_reply p attrs (making d) None) h

  creates_at_reply : (p : ℕ) (where_to : Place) (attrs : ℕ) (shadow : Option ℕ) (making : Option ℕ → Making K) → CreatesAt g s p where_to attrs shadow making answer t → IsReply answer
  creates_at_reply p where_to attrs shadow making h =
      unless_reply s t answer (create_refusals (is_live s p) (is_fit (making None)) where_to attrs) (CreatesIn g s p where_to attrs shadow making answer t)
      (creates_in_reply p where_to attrs shadow making) h

  turns_reply : (p handle : ℕ) (permanent : Bool) → Turns g s p handle permanent answer t → IsReply answer
  turns_reply p handle permanent h =
      with_handle_reply s t answer p handle (λ x. (answer ≡ answers Success) × (t ≡ settle g (turned s x.object permanent))) (λ x does. (_, does.0)) h

  -- a command that isn't an open is answered with a reply
  pub start_replies : (p : ℕ) (command : Command K) → is_open command ≡ false → Step g s (Start p command) answer t → IsReply answer
  start_replies p (CreateDirectory where_to attrs) none h = creates_at_reply p where_to attrs None MakesDirectory h
  start_replies p (CreateShadowed where_to attrs shadow) none h = creates_at_reply p where_to attrs (Some shadow) MakesDirectory h
  start_replies p (CreateLink where_to attrs target) none h = creates_at_reply p where_to attrs None (λ shadow. MakesLink target) h
  start_replies p (CreateObject where_to attrs kind args) none h = creates_at_reply p where_to attrs None (λ shadow. MakesObject kind args) h
  start_replies p (OpenDirectory root name attrs) none h = cc
  start_replies p (OpenLink root name attrs) none h = cc
  start_replies p (OpenObject root name attrs want) none h = cc
  start_replies p (Close handle) none h =
      with_handle_reply s t answer p handle (λ x. (answer ≡ answers Success) × (t ≡ settle g (closed_handle g s x))) (λ x does. (_, does.0)) h
  start_replies p (QueryLink handle) none h =
      with_handle_reply s t answer p handle (λ x. TellsTarget s x.object answer × (t ≡ s)) (λ x does. target_reply s t answer x.object does.0) h
  start_replies p (QueryName handle) none h =
      with_handle_reply s t answer p handle (λ x. TellsName s x.object answer × (t ≡ s)) (λ x does. name_reply s t answer x.object does.0) h
  start_replies p (QueryDirectory handle context room single restart) none h =
      unless_reply s t answer (page_refusals (is_live s p) room)
      (MatchOption (option_and_then (held_of s p) (key_of handle)) (IsRefused s InvalidHandle answer t) Pages)
      (held_reply s t answer (option_and_then (held_of s p) (key_of handle)) Pages
      (λ x. unless_reply s t answer ((not (is_directory s x.object), ObjectTypeMismatch) ∷ []) (Told x) (λ does. (_, does.0)))) h
    where
      Told : Held → Type 0
      Told x = (answer ≡ page_answer (enumerated g s x.object (context_used restart context) room single)) × (t ≡ s)

      Pages : Held → Type 0
      Pages x = TellsPage g s x.object (context_used restart context) room single answer t
  start_replies p (Duplicate handle to inherit) none h =
      unless_reply s t answer ((not (is_live s p), ProcessGone) ∷ (not (is_live s to), ProcessGone) ∷ [])
      (MatchOption (option_and_then (held_of s p) (key_of handle)) (IsRefused s InvalidHandle answer t) Given)
      (held_reply s t answer (option_and_then (held_of s p) (key_of handle)) Given
      (λ x. gives_handle_reply to x.object (record { inherit = inherit; exclusive = false }) Duplicated Success)) h
    where
      Given : Held → Type 0
      Given x = GivesHandle g s to x.object (record { inherit = inherit; exclusive = false }) Duplicated Success answer t
  start_replies p (MakeTemporary handle) none h = turns_reply p handle false h
  start_replies p (MakePermanent handle) none h = turns_reply p handle true h
  start_replies p (SetDeviceMap handle) none h =
      with_handle_reply s t answer p handle
      (λ x. Unless ((not (is_directory s x.object), ObjectTypeMismatch) ∷ []) s answer t ((answer ≡ answers Success) × (t ≡ settle g (with_map s p x.object))))
      (λ x. unless_reply s t answer ((not (is_directory s x.object), ObjectTypeMismatch) ∷ []) ((answer ≡ answers Success) × (t ≡ settle g (with_map s p x.object))) (λ does. (_, does.0))) h
  start_replies p (NewProcess inherit) none h =
      unless_reply s t answer ((not (is_live s p), ProcessGone) ∷ (is_crowded s p inherit, InsufficientResources) ∷ [])
      (let u = begun g s p inherit in (answer ≡ gives Success (Process s.next_process (values_in u s.next_process))) × (t ≡ settle g u)) (λ does. (_, does.0)) h
  start_replies p ExitProcess none h =
      unless_reply s t answer ((not (is_live s p), ProcessGone) ∷ []) ((answer ≡ answers Success) × (t ≡ settle g (ended g s p))) (λ does. (_, does.0)) h
