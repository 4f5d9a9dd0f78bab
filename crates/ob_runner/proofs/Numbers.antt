-- The ticket that a step gives is the next number: above those of all objects and of all tickets.
use Rattle.std.proofs.Common.{◌≡◌, ℕ, Bool, true, false, not, List, [], ◌∷◌, Option, None, Some, Ok, Err, MatchOption, refl}
use Rattle.std.specs.Option.{option_and_then}
use Rattle.ob_base.specs.declared.status.Status.{Status}
use Rattle.ob_base.specs.declared.status.Status.TheVariants.{InsufficientResources, InvalidHandle, NoMemory, ObjectTypeMismatch, ProcessGone, Success, TypeRefused}
use Rattle.ob_base.specs.Handle.{key_of}
use Rattle.ob_model.specs.declared.command.Command.{Command}
use Rattle.ob_model.specs.declared.command.Command.TheVariants.{CreateDirectory, CreateShadowed, CreateLink, CreateObject, OpenDirectory, OpenLink, OpenObject, Close, QueryLink, QueryName, QueryDirectory, Duplicate, MakeTemporary, MakePermanent, SetDeviceMap, NewProcess, ExitProcess}
use Rattle.ob_model.specs.declared.reply.Answer.TheVariants.{Done, Ticket}
use Rattle.ob_model.specs.declared.reply.Event.{Event}
use Rattle.ob_model.specs.declared.reply.Event.TheVariants.{Start, Resume, Abandon}
use Rattle.ob_model.specs.declared.reply.Given.TheVariants.{Handle}
use Rattle.ob_model.specs.declared.state.Held.{Held}
use Rattle.ob_model.specs.declared.state.PendingOpen.{PendingOpen}
use Rattle.ob_model.specs.declared.state.Wanted.{Wanted}
use Rattle.ob_model.specs.declared.state.Wanted.TheVariants as wanted
use Rattle.ob_model.specs.declared.terms.GrantOptions.{GrantOptions}
use Rattle.ob_model.specs.Grants.{first_refusal}
use Rattle.ob_model.specs.Looks.{Look, At, Vacant, Parse, Refused, LooksUp, most_reparses}
use Rattle.ob_model.specs.Opens.{options_by, GivesHandle, OpensAt, Begins, Opens, open_mode, type_wanted}
use Rattle.ob_model.specs.Parses.{EndsOpen, Resumes, Abandons, parsed_state}
use Rattle.ob_model.specs.PendingOpens.{pending_of, with_pending}
use Rattle.ob_model.specs.declared.terms.Reason.{Reason}
use Rattle.ob_model.specs.declared.terms.Reason.TheVariants.{Opened}
use Rattle.ob_model.specs.Procedures.{Procedures, ParseOutcome, EndsItself, EndsMade, EndsReparse, EndsRefused}
use Rattle.ob_model.specs.Refusals.{answers, gives, IsRefused, open_refusals}
use Rattle.ob_model.specs.Settle.{settle}
use Rattle.ob_model.specs.State.{State, is_live, is_store_full, held_of}
use Rattle.ob_model.specs.Step.{WithRoot, OpensName, Step}
use Rattle.ob_model.specs.Types.{is_wanted_at}
use Rattle.ob_runner.proofs.Replies.{IsReply, start_replies}

module _ {K T F I : Type 0} (g : Procedures K T F I) (t : State K T F I) (m : ℕ) where
  -- a handle that is granted or refused is no ticket
  no_grant : (u : State K T F I) (p o : ℕ) (asked : GrantOptions) (reason : Reason) (status : Status) → GivesHandle g u p o asked reason status (Ticket m) t → ⊥
  no_grant u p o asked reason status (Ok value, v, granted, h) = let e : Ticket m ≡ gives status (Handle value) = h.0 in cc
  no_grant u p o asked reason status (Err refusal, v, granted, h) = let e : Ticket m ≡ answers refusal = h.0 in cc

  no_open : (u : State K T F I) (p attrs : ℕ) (wanted : Wanted K) (status : Status) (o : ℕ) → OpensAt g u p attrs wanted status o (Ticket m) t → ⊥
  no_open u p attrs wanted status o h = go (is_wanted_at g u o wanted) h
    where
      go : (is : Bool) → MatchOption (first_refusal ((not is, ObjectTypeMismatch) ∷ [])) (GivesHandle g u p o (options_by attrs) Opened status (Ticket m) t) (λ refusal. IsRefused u refusal (Ticket m) t) → ⊥
      go true h = no_grant u p o (options_by attrs) Opened status h
      go false h = let e : Ticket m ≡ answers ObjectTypeMismatch = h.0 in cc

  -- an open that begins to wait has the next number
  begins_next : (u : State K T F I) (p attrs : ℕ) (wanted : Wanted K) (o : ℕ) (rest : List ℕ) (n : ℕ) → Begins g u p attrs wanted o rest n (Ticket m) t → m ≡ u.next_id
  begins_next u p attrs wanted o rest n h = go (is_store_full u) h
    where
      go : (full : Bool) → MatchOption (first_refusal ((full, InsufficientResources) ∷ [])) ((Ticket m ≡ Ticket u.next_id) × (t ≡ settle g (with_pending u p attrs wanted o rest n))) (λ status. IsRefused u status (Ticket m) t) → m ≡ u.next_id
      go true h = let e : Ticket m ≡ answers InsufficientResources = h.0 in cc
      go false h = let e : Ticket m ≡ Ticket u.next_id = h.0 in cc

  opens_next : (u : State K T F I) (p attrs : ℕ) (wanted : Wanted K) (look : Look) → Opens g u p attrs wanted look (Ticket m) t → m ≡ u.next_id
  opens_next u p attrs wanted (Refused status) h = let e : Ticket m ≡ answers status = h.0 in cc
  opens_next u p attrs wanted (At o) h = absurd (no_open u p attrs wanted Success o h)
  opens_next u p attrs wanted (Vacant d c) h = absurd h
  opens_next u p attrs wanted (Parse o rest n) h = begins_next u p attrs wanted o rest n h

  opens_name_next : (s : State K T F I) (p : ℕ) (root : Option ℕ) (name : List ℕ) (attrs : ℕ) (wanted : Wanted K) → OpensName g s p root name attrs wanted (Ticket m) t → m ≡ s.next_id
  opens_name_next s p root name attrs wanted h = go (first_refusal (open_refusals (is_live s p) name attrs)) h
    where
      Does : Option ℕ → Type 0
      Does at = (look : Look) × LooksUp g s p (open_mode wanted attrs) most_reparses at name look × Opens g s p attrs wanted look (Ticket m) t

      at_root : (held : Option Held) → MatchOption held (IsRefused s InvalidHandle (Ticket m) t) (λ h. Does (Some h.object)) → m ≡ s.next_id
      at_root None h = let e : Ticket m ≡ answers InvalidHandle = h.0 in cc
      at_root (Some x) h = opens_next s p attrs wanted h.0 h.2

      from : (root : Option ℕ) → WithRoot s p root (Ticket m) t Does → m ≡ s.next_id
      from None h = opens_next s p attrs wanted h.0 h.2
      from (Some handle) h = at_root (option_and_then (held_of s p) (key_of handle)) h

      go : (refusal : Option Status) → MatchOption refusal (WithRoot s p root (Ticket m) t Does) (λ status. IsRefused s status (Ticket m) t) → m ≡ s.next_id
      go None h = from root h
      go (Some status) h = let e : Ticket m ≡ answers status = h.0 in cc

  no_reply : {Goal : Type 0} → IsReply (Ticket m) → Goal
  no_reply (reply, e) = let same : Ticket m ≡ Done reply = e in cc

  start_next : (s : State K T F I) (p : ℕ) (c : Command K) → Step g s (Start p c) (Ticket m) t → m ≡ s.next_id
  start_next s p (OpenDirectory root name attrs) h = opens_name_next s p root name attrs wanted.Directory h
  start_next s p (OpenLink root name attrs) h = opens_name_next s p root name attrs wanted.Link h
  start_next s p (OpenObject root name attrs want) h = opens_name_next s p root name attrs (type_wanted want) h
  start_next s p (CreateDirectory where_to attrs) h = no_reply (start_replies g s t (Ticket m) p (CreateDirectory where_to attrs) refl h)
  start_next s p (CreateShadowed where_to attrs shadow) h = no_reply (start_replies g s t (Ticket m) p (CreateShadowed where_to attrs shadow) refl h)
  start_next s p (CreateLink where_to attrs target) h = no_reply (start_replies g s t (Ticket m) p (CreateLink where_to attrs target) refl h)
  start_next s p (CreateObject where_to attrs kind args) h = no_reply (start_replies g s t (Ticket m) p (CreateObject where_to attrs kind args) refl h)
  start_next s p (Close handle) h = no_reply (start_replies g s t (Ticket m) p (Close handle) refl h)
  start_next s p (QueryLink handle) h = no_reply (start_replies g s t (Ticket m) p (QueryLink handle) refl h)
  start_next s p (QueryName handle) h = no_reply (start_replies g s t (Ticket m) p (QueryName handle) refl h)
  start_next s p (QueryDirectory handle context room single restart) h = no_reply (start_replies g s t (Ticket m) p (QueryDirectory handle context room single restart) refl h)
  start_next s p (Duplicate handle to inherit) h = no_reply (start_replies g s t (Ticket m) p (Duplicate handle to inherit) refl h)
  start_next s p (MakeTemporary handle) h = no_reply (start_replies g s t (Ticket m) p (MakeTemporary handle) refl h)
  start_next s p (MakePermanent handle) h = no_reply (start_replies g s t (Ticket m) p (MakePermanent handle) refl h)
  start_next s p (SetDeviceMap handle) h = no_reply (start_replies g s t (Ticket m) p (SetDeviceMap handle) refl h)
  start_next s p (NewProcess inherit) h = no_reply (start_replies g s t (Ticket m) p (NewProcess inherit) refl h)
  start_next s p ExitProcess h = no_reply (start_replies g s t (Ticket m) p ExitProcess refl h)

  -- what a parse leads to, in the state in which it is judged
  ends_next : (s : State K T F I) (x : PendingOpen K) (outcome : Option (ParseOutcome F I)) → EndsOpen g (parsed_state s x.ticket outcome) x outcome (Ticket m) t → m ≡ s.next_id
  ends_next s x None h = let e : Ticket m ≡ answers NoMemory = h.0 in cc
  ends_next s x (Some EndsItself) h = absurd (no_open (parsed_state s x.ticket (Some EndsItself)) x.process x.attrs x.wanted Success x.object h)
  ends_next s x (Some (EndsMade face inner)) h = absurd (no_open (parsed_state s x.ticket (Some (EndsMade face inner))) x.process x.attrs x.wanted Success x.ticket h)
  ends_next s x (Some (EndsReparse text)) (look, again, h) = opens_next (parsed_state s x.ticket (Some (EndsReparse text))) x.process x.attrs x.wanted look h
  ends_next s x (Some (EndsRefused k)) h = let e : Ticket m ≡ answers (TypeRefused k) = h.0 in cc

module _ {K T F I : Type 0} (g : Procedures K T F I) (m : ℕ) where
  resumes_next : (s t : State K T F I) (x : PendingOpen K) (outcome : Option (ParseOutcome F I)) → Resumes g s x outcome (Ticket m) t → m ≡ s.next_id
  resumes_next s t x outcome (v, h, settles) = go (is_live s x.process) h
    where
      u : State K T F I
      u = parsed_state s x.ticket outcome

      go : (live : Bool) → MatchOption (first_refusal ((not live, ProcessGone) ∷ [])) (EndsOpen g u x outcome (Ticket m) v) (λ status. IsRefused u status (Ticket m) v) → m ≡ s.next_id
      go true h = ends_next g v m s x outcome h
      go false h = let e : Ticket m ≡ answers ProcessGone = h.0 in cc

  -- the ticket that a step gives
  pub ticket_is_next : (s t : State K T F I) (event : Event K) → Step g s event (Ticket m) t → m ≡ s.next_id
  ticket_is_next s t (Start p c) h = start_next g t m s p c h
  ticket_is_next s t (Resume n parse) (outcome, brought, h) = go (pending_of s n) h
    where
      go : (found : Option (PendingOpen K)) → MatchOption found ⊥ (λ x. Resumes g s x outcome (Ticket m) t) → m ≡ s.next_id
      go None h = absurd h
      go (Some x) h = resumes_next s t x outcome h
  ticket_is_next s t (Abandon n parse) (outcome, brought, h) = go (pending_of s n) h
    where
      go : (found : Option (PendingOpen K)) → MatchOption found ⊥ (λ x. Abandons g s x outcome (Ticket m) t) → m ≡ s.next_id
      go None h = absurd h
      go (Some x) h = let e : Ticket m ≡ answers Success = h.0 in cc
