-- The handles that steps give, and the variables that hold them.
use Rattle.std.proofs.Common.{◌≡◌, ℕ, ◌+◌, ◌≤◌, min, Bool, true, false, cond, eqb, ◌&&◌, not, List, [], ◌∷◌, Option, None, Some, Result, Ok, Err, MatchOption, MatchResult, inl, inr, sym, subst, arith}
use Rattle.std.specs.Prelude.{MatchBool, nat_lt, length}
use Rattle.std.specs.Str.{bytes_eq}
use Rattle.std.specs.Option.{option_and_then}
use Rattle.ob_base.specs.declared.status.Status.{Status}
use Rattle.ob_base.specs.declared.status.Status.TheVariants.{Success, InvalidHandle, InsufficientResources, NameTooLong, ObjectTypeMismatch, ObjectNameExists, ObjectNameCollision, ProcessGone, TypeRefused, NoMemory}
use Rattle.ob_base.specs.Attrs.{has_flag, open_if_flag}
use Rattle.ob_base.specs.Handle.{key_of}
use Rattle.ob_model.specs.declared.command.Command.{Command}
use Rattle.ob_model.specs.declared.command.Command.TheVariants as command
use Rattle.ob_model.specs.declared.command.Place.{Place}
use Rattle.ob_model.specs.declared.command.Place.TheVariants as place
use Rattle.ob_model.specs.declared.reply.Answer.{Answer}
use Rattle.ob_model.specs.declared.reply.Answer.TheVariants.{Done, Ticket}
use Rattle.ob_model.specs.declared.reply.Event.TheVariants.{Start, Resume}
use Rattle.ob_model.specs.declared.reply.ParseRun.{ParseRun}
use Rattle.ob_model.specs.declared.reply.Given.{Given}
use Rattle.ob_model.specs.declared.reply.Given.TheVariants.{Nothing, Handle, Text, Process, Page}
use Rattle.ob_model.specs.declared.reply.Reply.{Reply}
use Rattle.ob_model.specs.declared.state.Held.{Held}
use Rattle.ob_model.specs.declared.state.PendingOpen.{PendingOpen}
use Rattle.ob_model.specs.declared.state.Wanted.{Wanted}
use Rattle.ob_model.specs.declared.state.Wanted.TheVariants as wanted
use Rattle.ob_model.specs.State.{State, is_live, is_directory, held_of, body_of, is_store_full}
use Rattle.ob_model.specs.PendingOpens.{pending_of, with_pending}
use Rattle.ob_model.specs.Parses.{EndsOpen, Resumes, parsed_state}
use Rattle.ob_model.specs.Names.{longest_name}
use Rattle.ob_model.specs.Looks.{Look, At, Vacant, Parse, Refused, LooksUp, most_reparses}
use Rattle.ob_model.specs.declared.terms.Reason.{Reason}
use Rattle.ob_model.specs.declared.terms.Reason.TheVariants.{Opened, Created, Duplicated}
use Rattle.ob_model.specs.Procedures.{Procedures, ParseOutcome, EndsItself, EndsMade, EndsReparse, EndsRefused}
use Rattle.ob_model.specs.Settle.{settle}
use Rattle.ob_model.specs.declared.terms.GrantOptions.{GrantOptions}
use Rattle.ob_model.specs.Grants.{first_refusal, Grants, IsFreeValue, open_refusal_of, greatest_handle}
use Rattle.ob_model.specs.Closing.{closed_handle}
use Rattle.ob_model.specs.Types.{is_wanted_at}
use Rattle.ob_model.specs.Refusals.{gives, answers, IsRefused, Unless, create_refusals, open_refusals}
use Rattle.ob_model.specs.Opens.{GivesHandle as GivesHandleAt, OpensAt, Opens, options_by, type_wanted, open_mode}
use Rattle.ob_model.specs.Creates.{Making, MakesDirectory, MakesLink, MakesObject, is_fit, create_mode, type_made, Spot, room_refusals, make_refusal, body_made, created, dropped, Makes, Creates}
use Rattle.ob_model.specs.Processes.{values_in, is_crowded, begun, ended}
use Rattle.ob_model.specs.Permanence.{turned}
use Rattle.ob_model.specs.Maps.{with_map}
use Rattle.ob_model.specs.Naming.{TellsName, TellsTarget, target_of, path_text}
use Rattle.ob_model.specs.Enumeration.{enumerated, context_used, page_answer}
use Rattle.ob_model.specs.Step.{WithHandle, WithRoot, shadow_refusals, WithShadow, CreatesIn, CreatesAt, OpensName, page_refusals, TellsPage, Step}
use Rattle.ob_parts.specs.declared.handle.Offset.{Offset}
use Rattle.ob_parts.specs.declared.handle.Offset.TheVariants.{Zero, One, Two, Three}
use Rattle.ob_requests.specs.Variables.{Variables, with_number, with_process, with_variables, with_variable, without_variables, is_among}
use Rattle.ob_runner.specs.Completes.{Made, Leads, HasRun, Completes}
use Rattle.ob_standard.specs.Standard.{standard}
use Rattle.ob_requests.specs.Commands.{is_success, given_handle, with_child, with_page, changed}
use Rattle.ob_lines.specs.declared.change.Change.{Change}
use Rattle.ob_lines.specs.declared.change.Change.TheVariants as change
use Rattle.ob_lines.specs.Changes.{change_of}
use Rattle.ob_parts.specs.Parts.{offset_value}
use Rattle.ob_scripts.specs.Offsets.{HoldHandles, OffsetsAreAddedInFull}

-- an answer gives no more than the greatest handle value
abbrev GivesHandle : Answer → Type 0
GivesHandle (Done reply) = given_handle reply.given ≤ greatest_handle
GivesHandle (Ticket number) = Unit {0}

module _ {K T F I : Type 0} where
  refused_gives : (s t : State K T F I) (status : Status) (answer : Answer) → IsRefused s status answer t → GivesHandle answer
  refused_gives s t status answer h = subst GivesHandle (sym h.0) (omega arith)

  unless_gives : (refusals : List (Bool × Status)) (s t : State K T F I) (answer : Answer) (Does : Type 0)
      → (Does → GivesHandle answer) → Unless refusals s answer t Does → GivesHandle answer
  unless_gives refusals s t answer Does does h = go (first_refusal refusals) h
    where
      go : (refusal : Option Status) → MatchOption refusal Does (λ status. IsRefused s status answer t) → GivesHandle answer
      go None h = does h
      go (Some status) h = refused_gives s t status answer h

  with_handle_gives : (s t : State K T F I) (p handle : ℕ) (answer : Answer) (Does : Held → Type 0)
      → ((h : Held) → Does h → GivesHandle answer) → WithHandle s p handle answer t Does → GivesHandle answer
  with_handle_gives s t p handle answer Does does h =
      unless_gives ((not (is_live s p), ProcessGone) ∷ []) s t answer
      (MatchOption (option_and_then (held_of s p) (key_of handle)) (IsRefused s InvalidHandle answer t) Does)
      (go (option_and_then (held_of s p) (key_of handle))) h
    where
      go : (o : Option Held) → MatchOption o (IsRefused s InvalidHandle answer t) Does → GivesHandle answer
      go None h = refused_gives s t InvalidHandle answer h
      go (Some x) h = does x h

  with_root_gives : (s t : State K T F I) (p : ℕ) (root : Option ℕ) (answer : Answer) (Does : Option ℕ → Type 0)
      → ((at : Option ℕ) → Does at → GivesHandle answer) → WithRoot s p root answer t Does → GivesHandle answer
  with_root_gives s t p None answer Does does h = does None h
  with_root_gives s t p (Some handle) answer Does does h = go (option_and_then (held_of s p) (key_of handle)) h
    where
      go : (o : Option Held) → MatchOption o (IsRefused s InvalidHandle answer t) (λ x. Does (Some x.object)) → GivesHandle answer
      go None h = refused_gives s t InvalidHandle answer h
      go (Some x) h = does (Some x.object) h

  with_shadow_gives : (s t : State K T F I) (p : ℕ) (shadow : Option ℕ) (answer : Answer) (Does : Option ℕ → Type 0)
      → ((d : Option ℕ) → Does d → GivesHandle answer) → WithShadow s p shadow answer t Does → GivesHandle answer
  with_shadow_gives s t p None answer Does does h = does None h
  with_shadow_gives s t p (Some handle) answer Does does h = go (option_and_then (held_of s p) (key_of handle)) h
    where
      go : (o : Option Held) → MatchOption o (IsRefused s InvalidHandle answer t) (λ x. Unless (shadow_refusals s x.object) s answer t (Does (Some x.object))) → GivesHandle answer
      go None h = refused_gives s t InvalidHandle answer h
      go (Some x) h = unless_gives (shadow_refusals s x.object) s t answer (Does (Some x.object)) (does (Some x.object)) h

  value_gives : (s : State K T F I) (p value : ℕ) (status : Status) (answer : Answer) → IsFreeValue s p value → answer ≡ gives status (Handle value) → GivesHandle answer
  value_gives s p value status answer free e = subst GivesHandle (sym e) free.0.3

  target_gives : (s : State K T F I) (o : ℕ) (answer : Answer) → TellsTarget s o answer → GivesHandle answer
  target_gives s o answer h = go (option_and_then target_of (body_of s o)) h
    where
      go : (target : Option (List ℕ)) → MatchOption target (answer ≡ answers ObjectTypeMismatch) (λ target. answer ≡ gives Success (Text target)) → GivesHandle answer
      go None e = subst GivesHandle (sym e) (omega arith)
      go (Some target) e = subst GivesHandle (sym e) (omega arith)

  name_gives : (s : State K T F I) (o : ℕ) (answer : Answer) → TellsName s o answer → GivesHandle answer
  name_gives s o answer (inr h) = subst GivesHandle (sym h.1) (omega arith)
  name_gives s o answer (inl (cs, way, e)) = go (nat_lt longest_name (length (path_text cs))) e
    where
      go : (long : Bool) → answer ≡ cond long (answers NameTooLong) (gives Success (Text (path_text cs))) → GivesHandle answer
      go true e = subst GivesHandle (sym e) (omega arith)
      go false e = subst GivesHandle (sym e) (omega arith)

module _ {K T F I : Type 0} (g : Procedures K T F I) where
  gives_handle_gives : (s t : State K T F I) (p o : ℕ) (asked : GrantOptions) (reason : Reason) (status : Status) (answer : Answer)
      → GivesHandleAt g s p o asked reason status answer t → GivesHandle answer
  gives_handle_gives s t p o asked reason status answer h = go h.0 h.2 h.3
    where
      go : (result : Result ℕ Status) → Grants g s p o asked reason result h.1
          → MatchResult result (λ value. (answer ≡ gives status (Handle value)) × (t ≡ settle g h.1)) (λ refusal. IsRefused s refusal answer t) → GivesHandle answer
      go (Ok value) grants told = value_gives s p value status answer grants.1 told.0
      go (Err refusal) grants told = refused_gives s t refusal answer told

  opens_at_gives : (s t : State K T F I) (p attrs : ℕ) (wanted : Wanted K) (status : Status) (o : ℕ) (answer : Answer)
      → OpensAt g s p attrs wanted status o answer t → GivesHandle answer
  opens_at_gives s t p attrs wanted status o answer h =
      unless_gives ((not (is_wanted_at g s o wanted), ObjectTypeMismatch) ∷ []) s t answer (GivesHandleAt g s p o (options_by attrs) Opened status answer t)
      (gives_handle_gives s t p o (options_by attrs) Opened status answer) h

  opens_gives : (s t : State K T F I) (p attrs : ℕ) (wanted : Wanted K) (look : Look) (answer : Answer)
      → Opens g s p attrs wanted look answer t → GivesHandle answer
  opens_gives s t p attrs wanted (Refused status) answer h = refused_gives s t status answer h
  opens_gives s t p attrs wanted (Vacant d c) answer h = absurd h
  opens_gives s t p attrs wanted (Parse o rest n) answer h =
      unless_gives ((is_store_full s, InsufficientResources) ∷ []) s t answer ((answer ≡ Ticket s.next_id) × (t ≡ settle g (with_pending s p attrs wanted o rest n)))
      (λ does. subst GivesHandle (sym does.0) tt) h
  opens_gives s t p attrs wanted (At o) answer h = opens_at_gives s t p attrs wanted Success o answer h

  makes_gives : (s t : State K T F I) (p attrs : ℕ) (making : Making K) (spot : Spot) (answer : Answer)
      → Makes g s p attrs making spot answer t → GivesHandle answer
  makes_gives s t p attrs making spot answer h =
      unless_gives (room_refusals s p spot) s t answer _ (go (make_refusal g making)) h
    where
      Given : Type 0
      Given = (value : ℕ) × IsFreeValue s p value × (answer ≡ gives Success (Handle value)) × (t ≡ settle g (created g s p spot (body_made g making) attrs value))

      DroppedFor : ℕ → Type 0
      DroppedFor k = (answer ≡ answers (TypeRefused k)) × (t ≡ dropped g s (body_made g making))

      opened : (refusal : Option ℕ) → MatchOption refusal Given DroppedFor → GivesHandle answer
      opened None h = value_gives s p h.0 Success answer h.1 h.2
      opened (Some k) h = subst GivesHandle (sym h.0) (omega arith)

      go : (refusal : Option ℕ)
          → MatchOption refusal (MatchOption (open_refusal_of g s.set (body_made g making) Created) Given DroppedFor) (λ k. IsRefused s (TypeRefused k) answer t) → GivesHandle answer
      go None h = opened (open_refusal_of g s.set (body_made g making) Created) h
      go (Some k) h = refused_gives s t (TypeRefused k) answer h

  creates_gives : (s t : State K T F I) (p attrs : ℕ) (making : Making K) (look : Look) (answer : Answer)
      → Creates g s p attrs making look answer t → GivesHandle answer
  creates_gives s t p attrs making (Refused status) answer h = refused_gives s t status answer h
  creates_gives s t p attrs making (At o) answer h = go (has_flag open_if_flag attrs) h
    where
      go : (opens : Bool) → MatchBool opens (OpensAt g s p attrs (type_made making) ObjectNameExists o answer t) (IsRefused s ObjectNameCollision answer t) → GivesHandle answer
      go true h = opens_at_gives s t p attrs (type_made making) ObjectNameExists o answer h
      go false h = refused_gives s t ObjectNameCollision answer h
  creates_gives s t p attrs making (Parse o rest n) answer h = absurd h
  creates_gives s t p attrs making (Vacant d c) answer h = makes_gives s t p attrs making (Some (d, c)) answer h

  creates_in_gives : (s t : State K T F I) (p : ℕ) (where_to : Place) (attrs : ℕ) (shadow : Option ℕ) (making : Option ℕ → Making K) (answer : Answer)
      → CreatesIn g s p where_to attrs shadow making answer t → GivesHandle answer
  creates_in_gives s t p (place.At root name) attrs shadow making answer h =
      with_root_gives s t p root answer (λ at. WithShadow s p shadow answer t (Does at))
      (λ at. with_shadow_gives s t p shadow answer (Does at) (λ d does. creates_gives s t p attrs (making d) does.0 answer does.2)) h
    where
      Does : Option ℕ → Option ℕ → Type 0
      Does at d = (look : Look) × LooksUp g s p (create_mode attrs) most_reparses at name look × Creates g s p attrs (making d) look answer t
  creates_in_gives s t p place.Unnamed attrs shadow making answer h =
      with_shadow_gives s t p shadow answer (λ d. Makes g s p attrs (making d) None answer t) (λ d. makes_gives s t p attrs (making d) None answer) h

  creates_at_gives : (s t : State K T F I) (p : ℕ) (where_to : Place) (attrs : ℕ) (shadow : Option ℕ) (making : Option ℕ → Making K) (answer : Answer)
      → CreatesAt g s p where_to attrs shadow making answer t → GivesHandle answer
  creates_at_gives s t p where_to attrs shadow making answer h =
      unless_gives (create_refusals (is_live s p) (is_fit (making None)) where_to attrs) s t answer (CreatesIn g s p where_to attrs shadow making answer t)
      (creates_in_gives s t p where_to attrs shadow making answer) h

  opens_name_gives : (s t : State K T F I) (p : ℕ) (root : Option ℕ) (name : List ℕ) (attrs : ℕ) (wanted : Wanted K) (answer : Answer)
      → OpensName g s p root name attrs wanted answer t → GivesHandle answer
  opens_name_gives s t p root name attrs wanted answer h =
      unless_gives (open_refusals (is_live s p) name attrs) s t answer (WithRoot s p root answer t Does)
      (with_root_gives s t p root answer Does (λ at does. opens_gives s t p attrs wanted does.0 answer does.2)) h
    where
      Does : Option ℕ → Type 0
      Does at = (look : Look) × LooksUp g s p (open_mode wanted attrs) most_reparses at name look × Opens g s p attrs wanted look answer t

  -- so does each start
  start_gives : (s t : State K T F I) (p : ℕ) (c : Command K) (answer : Answer) → Step g s (Start p c) answer t → GivesHandle answer
  start_gives s t p (command.CreateDirectory where_to attrs) answer h = creates_at_gives s t p where_to attrs None MakesDirectory answer h
  start_gives s t p (command.CreateShadowed where_to attrs shadow) answer h = creates_at_gives s t p where_to attrs (Some shadow) MakesDirectory answer h
  start_gives s t p (command.CreateLink where_to attrs target) answer h = creates_at_gives s t p where_to attrs None (λ shadow. MakesLink target) answer h
  start_gives s t p (command.CreateObject where_to attrs kind args) answer h = creates_at_gives s t p where_to attrs None (λ shadow. MakesObject kind args) answer h
  start_gives s t p (command.OpenDirectory root name attrs) answer h = opens_name_gives s t p root name attrs wanted.Directory answer h
  start_gives s t p (command.OpenLink root name attrs) answer h = opens_name_gives s t p root name attrs wanted.Link answer h
  start_gives s t p (command.OpenObject root name attrs want) answer h = opens_name_gives s t p root name attrs (type_wanted want) answer h
  start_gives s t p (command.Close handle) answer h =
      with_handle_gives s t p handle answer (λ x. (answer ≡ answers Success) × (t ≡ settle g (closed_handle g s x)))
      (λ x does. subst GivesHandle (sym does.0) (omega arith)) h
  start_gives s t p (command.QueryLink handle) answer h =
      with_handle_gives s t p handle answer (λ x. TellsTarget s x.object answer × (t ≡ s)) (λ x does. target_gives s x.object answer does.0) h
  start_gives s t p (command.QueryName handle) answer h =
      with_handle_gives s t p handle answer (λ x. TellsName s x.object answer × (t ≡ s)) (λ x does. name_gives s x.object answer does.0) h
  start_gives s t p (command.QueryDirectory handle context room single restart) answer h =
      unless_gives (page_refusals (is_live s p) room) s t answer
      (MatchOption (option_and_then (held_of s p) (key_of handle)) (IsRefused s InvalidHandle answer t) Pages) (go (option_and_then (held_of s p) (key_of handle))) h
    where
      Pages : Held → Type 0
      Pages x = TellsPage g s x.object (context_used restart context) room single answer t

      go : (o : Option Held) → MatchOption o (IsRefused s InvalidHandle answer t) Pages → GivesHandle answer
      go None h = refused_gives s t InvalidHandle answer h
      go (Some x) h =
          unless_gives ((not (is_directory s x.object), ObjectTypeMismatch) ∷ []) s t answer
          ((answer ≡ page_answer (enumerated g s x.object (context_used restart context) room single)) × (t ≡ s)) (λ told. subst GivesHandle (sym told.0) (omega arith)) h
  start_gives s t p (command.Duplicate handle to inherit) answer h =
      unless_gives ((not (is_live s p), ProcessGone) ∷ (not (is_live s to), ProcessGone) ∷ []) s t answer
      (MatchOption (option_and_then (held_of s p) (key_of handle)) (IsRefused s InvalidHandle answer t) Given) (go (option_and_then (held_of s p) (key_of handle))) h
    where
      Given : Held → Type 0
      Given x = GivesHandleAt g s to x.object (record { inherit = inherit; exclusive = false }) Duplicated Success answer t

      go : (o : Option Held) → MatchOption o (IsRefused s InvalidHandle answer t) Given → GivesHandle answer
      go None h = refused_gives s t InvalidHandle answer h
      go (Some x) h = gives_handle_gives s t to x.object (record { inherit = inherit; exclusive = false }) Duplicated Success answer h
  start_gives s t p (command.MakeTemporary handle) answer h =
      with_handle_gives s t p handle answer (λ x. (answer ≡ answers Success) × (t ≡ settle g (turned s x.object false)))
      (λ x does. subst GivesHandle (sym does.0) (omega arith)) h
  start_gives s t p (command.MakePermanent handle) answer h =
      with_handle_gives s t p handle answer (λ x. (answer ≡ answers Success) × (t ≡ settle g (turned s x.object true)))
      (λ x does. subst GivesHandle (sym does.0) (omega arith)) h
  start_gives s t p (command.SetDeviceMap handle) answer h =
      with_handle_gives s t p handle answer
      (λ x. Unless ((not (is_directory s x.object), ObjectTypeMismatch) ∷ []) s answer t ((answer ≡ answers Success) × (t ≡ settle g (with_map s p x.object))))
      (λ x does. unless_gives ((not (is_directory s x.object), ObjectTypeMismatch) ∷ []) s t answer ((answer ≡ answers Success) × (t ≡ settle g (with_map s p x.object)))
      (λ done. subst GivesHandle (sym done.0) (omega arith)) does) h
  start_gives s t p (command.NewProcess inherit) answer h =
      unless_gives ((not (is_live s p), ProcessGone) ∷ (is_crowded s p inherit, InsufficientResources) ∷ []) s t answer
      (let u = begun g s p inherit in (answer ≡ gives Success (Process s.next_process (values_in u s.next_process))) × (t ≡ settle g u))
      (λ does. subst GivesHandle (sym does.0) (omega arith)) h
  start_gives s t p command.ExitProcess answer h =
      unless_gives ((not (is_live s p), ProcessGone) ∷ []) s t answer ((answer ≡ answers Success) × (t ≡ settle g (ended g s p))) (λ does. subst GivesHandle (sym does.0) (omega arith)) h

  -- so does each resume
  ends_open_gives : (s t : State K T F I) (x : PendingOpen K) (outcome : Option (ParseOutcome F I)) (answer : Answer) → EndsOpen g s x outcome answer t → GivesHandle answer
  ends_open_gives s t x None answer h = refused_gives s t NoMemory answer h
  ends_open_gives s t x (Some EndsItself) answer h = opens_at_gives s t x.process x.attrs x.wanted Success x.object answer h
  ends_open_gives s t x (Some (EndsMade face inner)) answer h = opens_at_gives s t x.process x.attrs x.wanted Success x.ticket answer h
  ends_open_gives s t x (Some (EndsReparse text)) answer h = opens_gives s t x.process x.attrs x.wanted h.0 answer h.2
  ends_open_gives s t x (Some (EndsRefused k)) answer h = refused_gives s t (TypeRefused k) answer h

  resume_gives : (s t : State K T F I) (n : ℕ) (parse : ParseRun) (answer : Answer) → Step g s (Resume n parse) answer t → GivesHandle answer
  resume_gives s t n parse answer (outcome, brought, h) = go (pending_of s n) h
    where
      go : (found : Option (PendingOpen K)) → MatchOption found ⊥ (λ x. Resumes g s x outcome answer t) → GivesHandle answer
      go None h = absurd h
      go (Some x) (v, h, left) =
          let u = parsed_state s x.ticket outcome in
          unless_gives ((not (is_live s x.process), ProcessGone) ∷ []) u v answer (EndsOpen g u x outcome answer v) (ends_open_gives u v x outcome answer) h

  -- and so do the steps that run a command to its reply
  resumed_gives : (n : ℕ) (parse : ParseRun) (steps : List (Made K)) (s t : State K T F I) (reply : Reply) → Completes g (Resume n parse) steps s reply t → given_handle reply.given ≤ greatest_handle
  resumed_gives n parse [] s t reply h = absurd h
  resumed_gives n parse (step ∷ steps) s t reply (u, asked, made, h) = go step.1 (resume_gives s u n parse step.1 made) (λ m again more. resumed_gives m again steps u t reply more) h
    where
      go : (answer : Answer) → GivesHandle answer → ((m : ℕ) (again : ParseRun) → Completes g (Resume m again) steps u reply t → given_handle reply.given ≤ greatest_handle)
          → Leads answer (λ given. (given ≡ reply) × (steps ≡ []) × (t ≡ u)) (λ m. (again : ParseRun) × HasRun again × Completes g (Resume m again) steps u reply t)
          → given_handle reply.given ≤ greatest_handle
      go (Done given) gives on (same, none, is) = subst (λ r. given_handle r.given ≤ greatest_handle) same gives
      go (Ticket m) gives on (again, ran, h) = on m again h

  completes_gives : (p : ℕ) (c : Command K) (steps : List (Made K)) (s t : State K T F I) (reply : Reply) → Completes g (Start p c) steps s reply t → given_handle reply.given ≤ greatest_handle
  completes_gives p c [] s t reply h = absurd h
  completes_gives p c (step ∷ steps) s t reply (u, asked, made, h) = go step.1 (start_gives s u p c step.1 made) h
    where
      go : (answer : Answer) → GivesHandle answer
          → Leads answer (λ given. (given ≡ reply) × (steps ≡ []) × (t ≡ u)) (λ m. (again : ParseRun) × HasRun again × Completes g (Resume m again) steps u reply t)
          → given_handle reply.given ≤ greatest_handle
      go (Done given) gives (same, none, is) = subst (λ r. given_handle r.given ≤ greatest_handle) same gives
      go (Ticket m) gives (again, ran, h) = resumed_gives m again steps u t reply h

-- all variables of a process are set to handles, and one of them is
with_variables_kept : (variables : Variables) (process : ℕ) (values : List ℕ → ℕ) → HoldHandles variables → ((variable : List ℕ) → values variable ≤ greatest_handle)
    → HoldHandles (with_variables variables process values)
with_variables_kept variables process values had small p w = go (eqb process p)
  where
    go : (here : Bool) → cond here values (variables.values p) w ≤ greatest_handle
    go true = small w
    go false = had p w

with_variable_kept : (variables : Variables) (process : ℕ) (variable : List ℕ) (value : ℕ) → HoldHandles variables → value ≤ greatest_handle → HoldHandles (with_variable variables process variable value)
with_variable_kept variables process variable value had small =
    with_variables_kept variables process (with_number (variables.values process) variable value) had (λ w. go w (bytes_eq variable w))
  where
    go : (w : List ℕ) (here : Bool) → cond here value (variables.values process w) ≤ greatest_handle
    go w true = small
    go w false = had process w

without_variables_kept : (variables : Variables) (process : ℕ) → HoldHandles variables → HoldHandles (without_variables variables process)
without_variables_kept variables process had = with_variables_kept variables process _ had (λ w. omega arith)

-- so are those of a child
with_child_kept : (variables : Variables) (parent : ℕ) (variable : List ℕ) (inherit : Bool) (given : Given) → HoldHandles variables → HoldHandles (with_child variables parent variable inherit given)
with_child_kept variables parent variable inherit (Process process handles) had =
    with_variables_kept (with_process variables variable process) process _ had (λ w. go w (inherit && is_among handles (variables.values parent w)))
  where
    go : (w : List ℕ) (here : Bool) → cond here (variables.values parent w) 0 ≤ greatest_handle
    go w true = had parent w
    go w false = omega arith
with_child_kept variables parent variable inherit Nothing had = had
with_child_kept variables parent variable inherit (Handle handle) had = had
with_child_kept variables parent variable inherit (Text text) had = had
with_child_kept variables parent variable inherit (Page entries context) had = had

-- the context of a page is no handle
with_page_kept : (variables : Variables) (process : ℕ) (variable : List ℕ) (given : Given) → HoldHandles variables → HoldHandles (with_page variables process variable given)
with_page_kept variables process variable Nothing had = had
with_page_kept variables process variable (Handle handle) had = had
with_page_kept variables process variable (Text text) had = had
with_page_kept variables process variable (Process child handles) had = had
with_page_kept variables process variable (Page entries context) had = had

-- a reply that gives a handle leaves handles
changed_kept : (change : Change (List ℕ)) (process : ℕ) (reply : Reply) (variables : Variables) → HoldHandles variables → given_handle reply.given ≤ greatest_handle
    → HoldHandles (changed change process reply variables)
changed_kept change.Nothing process reply variables had given = had
changed_kept (change.Sets variable) process reply variables had given = with_variable_kept variables process variable _ had given
changed_kept (change.SetsFor to variable) process reply variables had given = with_variable_kept variables (variables.processes to) variable _ had given
changed_kept (change.GivesUp variable) process reply variables had given = go (is_success reply.status)
  where
    go : (done : Bool) → HoldHandles (cond done (with_variable variables process variable 0) variables)
    go true = with_variable_kept variables process variable 0 had (omega arith)
    go false = had
changed_kept (change.TurnsPage variable) process reply variables had given = with_page_kept variables process variable reply.given had
changed_kept change.GivesAllUp process reply variables had given = go (is_success reply.status)
  where
    go : (done : Bool) → HoldHandles (cond done (without_variables variables process) variables)
    go true = without_variables_kept variables process had
    go false = had
changed_kept (change.SetsProcess variable inherit) process reply variables had given = with_child_kept variables process variable inherit reply.given had

-- a sum of such a value and an offset is below the bound
sum_exact : (value : ℕ) (offset : Offset) → value ≤ greatest_handle → min (value + offset_value offset) 4294967295 ≡ value + offset_value offset
sum_exact value Zero small = omega arith
sum_exact value One small = omega arith
sum_exact value Two small = omega arith
sum_exact value Three small = omega arith

pub added_in_full : OffsetsAreAddedInFull
added_in_full = record {
  first = λ process variable. omega arith;
  kept = λ request process c steps reply variables s s' had chain.
      changed_kept (change_of request) process reply variables had (completes_gives standard process c steps s s' reply chain);
  exact = λ handle process variables had. sum_exact (variables.values process handle.variable) handle.offset (had process handle.variable);
}
