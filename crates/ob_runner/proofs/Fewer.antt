-- An open that is resumed and waits again has fewer reparses left: a text that is looked up again takes one, and a
-- lookup hands on no more than it has.
use Rattle.std.proofs.Common.{◌≡◌, ℕ, zero, suc, ◌<◌, ◌==◌, Bool, true, false, not, List, [], ◌∷◌, ◌++◌, length, All, Ok, Err, sym, ap, ◌∙◌, subst, refl}
use Rattle.std.specs.Prelude.{nat_lt, Option, None, Some, MatchOption, MatchBool}
use Rattle.std.specs.List.{list_any}
use Rattle.std.specs.Option.{option_map, option_map_or, option_and_then}
use Rattle.std.proofs.lemmas.List.Elements.{All-filter}
use Rattle.std.proofs.lemmas.List.Folds.{list_any-from_Any}
use Rattle.std.proofs.lemmas.List.Quantifiers.{Any-push}
use Rattle.ob_base.specs.declared.status.Status.{Status}
use Rattle.ob_base.specs.declared.status.Status.TheVariants.{ObjectPathSyntaxBad, ObjectTypeMismatch, NameTooLong, Success, InsufficientResources, NoMemory, TypeRefused, ProcessGone, InvalidHandle}
use Rattle.ob_model.specs.declared.command.Command.{Command}
use Rattle.ob_model.specs.declared.command.Command.TheVariants.{CreateDirectory, CreateShadowed, CreateLink, CreateObject, OpenDirectory, OpenLink, OpenObject, Close, QueryLink, QueryName, QueryDirectory, Duplicate, MakeTemporary, MakePermanent, SetDeviceMap, NewProcess, ExitProcess}
use Rattle.ob_model.specs.declared.reply.Answer.TheVariants.{Done, Ticket}
use Rattle.ob_model.specs.declared.reply.Event.TheVariants.{Start, Resume}
use Rattle.ob_model.specs.declared.reply.Given.TheVariants.{Handle}
use Rattle.ob_model.specs.declared.reply.ParseRun.{ParseRun}
use Rattle.ob_model.specs.declared.state.Object.{Object}
use Rattle.ob_model.specs.declared.state.PendingOpen.{PendingOpen}
use Rattle.ob_model.specs.declared.state.Held.{Held}
use Rattle.ob_model.specs.declared.state.Wanted.{Wanted}
use Rattle.ob_model.specs.declared.state.Wanted.TheVariants as wanted
use Rattle.ob_model.specs.declared.terms.GrantOptions.{GrantOptions}
use Rattle.ob_model.specs.Grants.{first_refusal}
use Rattle.ob_model.specs.declared.terms.Mode.{Mode}
use Rattle.ob_model.specs.Looks.{Look, At, Vacant, Parse, Refused, Looks, LooksUp, most_reparses}
use Rattle.ob_model.specs.Names.{longest_name}
use Rattle.ob_model.specs.Opens.{options_by, GivesHandle, OpensAt, Begins, Opens, open_mode, type_wanted}
use Rattle.ob_model.specs.Parses.{LooksAgain, EndsOpen, Resumes, parsed_state}
use Rattle.ob_model.specs.Paths.{origin_of}
use Rattle.ob_model.specs.PendingOpens.{face_in, pending_of, with_pending, without_pending}
use Rattle.ob_model.specs.declared.terms.Reason.{Reason}
use Rattle.ob_model.specs.declared.terms.Reason.TheVariants.{Opened}
use Rattle.ob_model.specs.Procedures.{Procedures, ParseOutcome, EndsItself, EndsMade, EndsReparse, EndsRefused}
use Rattle.ob_model.specs.Refusals.{answers, gives, IsRefused, open_refusals}
use Rattle.ob_model.specs.Settle.{settle}
use Rattle.ob_model.specs.Sound.{IsSound}
use Rattle.ob_model.specs.State.{State, object_of, is_live, is_store_full, held_of}
use Rattle.ob_base.specs.Handle.{key_of}
use Rattle.ob_model.proofs.Settled.{alive_from_pin, object_of-settle, settle-settle}
use Rattle.ob_model.proofs.Vacant.{IsParsing, IsUsableEnd, usable_end}
use Rattle.ob_runner.proofs.Replies.{IsReply, start_replies}
use Rattle.ob_runner.specs.Opens.{is_open}
use Rattle.ob_model.specs.Step.{WithRoot, OpensName, Step}
use Rattle.ob_model.specs.Types.{is_wanted_at}
use Rattle.ob_opens.proofs.BegunAgain.{last_found}
use Rattle.std.proofs.Common.{eq-eqb}
use Rattle.ob_opens.proofs.HandedOn.{again_hands_on_fewer}

-- a text that is looked up again ends as it may end
again_usable : {K T F I : Type 0} (g : Procedures K T F I) (s : State K T F I) (p : ℕ) (mode : Mode) (left : ℕ) (text : List ℕ) (look : Look)
    → LooksAgain g s p mode left text look → IsUsableEnd g s mode look
again_usable g s p mode zero text look h = subst (IsUsableEnd g s mode) (sym h) tt
again_usable {K} {T} {F} {I} g s p mode (suc n) text look h = go (nat_lt longest_name (length text)) h
  where
    go : (long : Bool)
        → MatchBool long (look ≡ Refused NameTooLong) (MatchOption (origin_of s p mode.create text) (look ≡ Refused ObjectPathSyntaxBad) (λ at. Looks g s p mode n at.0 at.1 look))
        → IsUsableEnd g s mode look
    go true h = subst (IsUsableEnd g s mode) (sym h) tt
    go false h = usable_end g s p mode n None text look h

-- the reparses that are left to an open that waits under a ticket, and none where none does
abbrev pub left_to : {K T F I : Type 0} → State K T F I → ℕ → ℕ
left_to s ticket = option_map_or (λ x. x.left) (pending_of s ticket) 0

-- under the ticket waits this open, whose object parses; the handles are those of the state before
abbrev pub IsBegun : {K T F I : Type 0} → Procedures K T F I → State K T F I → State K T F I → ℕ → PendingOpen K → Type 0
IsBegun g s t ticket y = (pending_of t ticket ≡ Some y) × IsParsing g t y.object × (t.handles ≡ s.handles)

module _ {K T F I : Type 0} (g : Procedures K T F I) (t : State K T F I) (m : ℕ) where
  -- a handle that is granted or refused is no ticket
  gives_no_ticket : (u : State K T F I) (p o : ℕ) (asked : GrantOptions) (reason : Reason) (status : Status) → GivesHandle g u p o asked reason status (Ticket m) t → ⊥
  gives_no_ticket u p o asked reason status (Ok value, v, granted, h) = let e : Ticket m ≡ gives status (Handle value) = h.0 in cc
  gives_no_ticket u p o asked reason status (Err refusal, v, granted, h) = let e : Ticket m ≡ answers refusal = h.0 in cc

  opens_no_ticket : (u : State K T F I) (p attrs : ℕ) (wanted : Wanted K) (status : Status) (o : ℕ) → OpensAt g u p attrs wanted status o (Ticket m) t → ⊥
  opens_no_ticket u p attrs wanted status o h = go (is_wanted_at g u o wanted) h
    where
      go : (is : Bool) → MatchOption (first_refusal ((not is, ObjectTypeMismatch) ∷ [])) (GivesHandle g u p o (options_by attrs) Opened status (Ticket m) t) (λ refusal. IsRefused u refusal (Ticket m) t) → ⊥
      go true h = gives_no_ticket u p o (options_by attrs) Opened status h
      go false h = let e : Ticket m ≡ answers ObjectTypeMismatch = h.0 in cc

  -- an open that begins to wait is found under its ticket, and has these reparses; its object stays, so that the state is settled
  begins_with : (u : State K T F I) (p attrs : ℕ) (wanted : Wanted K) (o : ℕ) (rest : List ℕ) (n : ℕ) → All (λ x. x.ticket < u.next_id) u.pending → IsParsing g u o
      → Begins g u p attrs wanted o rest n (Ticket m) t
      → IsBegun g u t m (record { ticket = u.next_id; process = p; object = o; rest = rest; left = n; attrs = attrs; wanted = wanted }) × (settle g t ≡ t)
  begins_with u p attrs wanted o rest n below parsing h = go (is_store_full u) h
    where
      new : PendingOpen K
      new = record { ticket = u.next_id; process = p; object = o; rest = rest; left = n; attrs = attrs; wanted = wanted }

      w : State K T F I
      w = with_pending u p attrs wanted o rest n

      pinned : list_any (λ (x : PendingOpen K). x.object == o) w.pending ≡ true
      pinned = list_any-from_Any (λ x. x.object == o) w.pending (Any-push (λ x. (x.object == o) ≡ true) u.pending new (eq-eqb o o refl))

      stays : object_of (settle g w) o ≡ object_of u o
      stays = object_of-settle g w o (alive_from_pin w o pinned)

      kept : IsParsing g (settle g w) o
      kept = subst (λ (x : Option (Object F I)). MatchOption (option_and_then face_in (option_map (λ y. y.body) x)) ⊥ (λ face. g.parses (g.kind_of face) ≡ true)) (sym stays) parsing

      found : pending_of (settle g w) u.next_id ≡ Some new
      found = last_found u.next_id new u.pending below refl

      go : (full : Bool) → MatchOption (first_refusal ((full, InsufficientResources) ∷ [])) ((Ticket m ≡ Ticket u.next_id) × (t ≡ settle g w)) (λ status. IsRefused u status (Ticket m) t)
          → IsBegun g u t m new × (settle g t ≡ t)
      go true h = let e : Ticket m ≡ answers InsufficientResources = h.0 in cc
      go false h =
          let number : u.next_id ≡ m = let e : Ticket m ≡ Ticket u.next_id = h.0 in cc in
          subst (λ (v : State K T F I). IsBegun g u v m new × (settle g v ≡ v)) (sym h.1)
          ((subst (λ (k : ℕ). pending_of (settle g w) k ≡ Some new) number found, kept, refl), settle-settle g w)

-- under the ticket waits an open of this process
abbrev pub WaitsFor : {K T F I : Type 0} → State K T F I → ℕ → ℕ → Type 0
WaitsFor s ticket p = MatchOption (pending_of s ticket) ⊥ (λ x. x.process ≡ p)

module _ {K T F I : Type 0} (g : Procedures K T F I) (s t : State K T F I) (m : ℕ) where
  -- what waits under the new ticket: an open of this process
  abbrev pub BeginsFor : ℕ → Type 0
  BeginsFor p = (y : PendingOpen K) × IsBegun g s t m y × (y.process ≡ p)

  pub waits_for : (p : ℕ) → BeginsFor p → WaitsFor t m p
  waits_for p (y, begun, same) = subst (λ z. MatchOption z ⊥ (λ x. x.process ≡ p)) (sym begun.0) same

module _ {K T F I : Type 0} (g : Procedures K T F I) (s t : State K T F I) (m : ℕ) (sound : IsSound s) where
  -- an open that waits again, under another ticket, has fewer reparses
  abbrev WaitsOn : State K T F I → ℕ → ℕ → Type 0
  WaitsOn u p left = (y : PendingOpen K) × IsBegun g s u m y × (y.process ≡ p) × (y.left < left)

  waits_with_fewer : (x : PendingOpen K) (outcome : Option (ParseOutcome F I)) (v : State K T F I) → EndsOpen g (parsed_state s x.ticket outcome) x outcome (Ticket m) v → WaitsOn (settle g v) x.process x.left
  waits_with_fewer x None v h = let e : Ticket m ≡ answers NoMemory = h.0 in cc
  waits_with_fewer x (Some EndsItself) v h = absurd (opens_no_ticket g v m (parsed_state s x.ticket (Some EndsItself)) x.process x.attrs x.wanted Success x.object h)
  waits_with_fewer x (Some (EndsMade face inner)) v h = absurd (opens_no_ticket g v m (parsed_state s x.ticket (Some (EndsMade face inner))) x.process x.attrs x.wanted Success x.ticket h)
  waits_with_fewer x (Some (EndsRefused k)) v h = let e : Ticket m ≡ answers (TypeRefused k) = h.0 in cc
  waits_with_fewer x (Some (EndsReparse text)) v (Refused status, again, h) = let e : Ticket m ≡ answers status = h.0 in cc
  waits_with_fewer x (Some (EndsReparse text)) v (At o, again, h) = absurd (opens_no_ticket g v m (without_pending s x.ticket) x.process x.attrs x.wanted Success o h)
  waits_with_fewer x (Some (EndsReparse text)) v (Vacant d c, again, h) = absurd h
  waits_with_fewer x (Some (EndsReparse text)) v (Parse o rest n, again, h) =
      let u = without_pending s x.ticket in
      let fewer : n < x.left = again_hands_on_fewer g u x.process (open_mode x.wanted x.attrs) x.left text o rest n again in
      let begun =
      begins_with g v m u x.process x.attrs x.wanted o rest n (All-filter (λ y. not (y.ticket == x.ticket)) (λ y. y.ticket < s.next_id) s.pending sound.pending.ticketed)
      (again_usable g u x.process (open_mode x.wanted x.attrs) x.left text (Parse o rest n) again).1 h in
      subst (λ (w : State K T F I). WaitsOn w x.process x.left) (sym begun.1) (_, begun.0, refl, fewer)

  resumes_with_fewer : (x : PendingOpen K) (outcome : Option (ParseOutcome F I)) → Resumes g s x outcome (Ticket m) t → WaitsOn t x.process x.left
  resumes_with_fewer x outcome (v, h, left) = subst (λ (w : State K T F I). WaitsOn w x.process x.left) (sym left) (go (is_live s x.process) h)
    where
      u : State K T F I
      u = parsed_state s x.ticket outcome

      go : (live : Bool) → MatchOption (first_refusal ((not live, ProcessGone) ∷ [])) (EndsOpen g u x outcome (Ticket m) v) (λ status. IsRefused u status (Ticket m) v) → WaitsOn (settle g v) x.process x.left
      go true h = waits_with_fewer x outcome v h
      go false h = let e : Ticket m ≡ answers ProcessGone = h.0 in cc

  -- the step of a resume whose open waits again
  pub step_leaves_fewer : (ticket : ℕ) (parse : ParseRun) → Step g s (Resume ticket parse) (Ticket m) t → left_to t m < left_to s ticket
  step_leaves_fewer ticket parse (outcome, brought, h) = go (pending_of s ticket) h
    where
      left_behind : (left : ℕ) (p : ℕ) → WaitsOn t p left → left_to t m < left
      left_behind left p (y, begun, same, fewer) = subst (λ (k : ℕ). k < left) (sym (ap (λ z. option_map_or (λ x. x.left) z 0) begun.0)) fewer

      go : (found : Option (PendingOpen K)) → MatchOption found ⊥ (λ x. Resumes g s x outcome (Ticket m) t) → left_to t m < option_map_or (λ x. x.left) found 0
      go None h = absurd h
      go (Some x) h = left_behind x.left x.process (resumes_with_fewer x outcome h)

  -- it waits for the same process
  pub step_begins : (ticket : ℕ) (parse : ParseRun) (p : ℕ) → WaitsFor s ticket p → Step g s (Resume ticket parse) (Ticket m) t → BeginsFor g s t m p
  step_begins ticket parse p waits (outcome, brought, h) = go (pending_of s ticket) waits h
    where
      led : (q left : ℕ) → q ≡ p → WaitsOn t q left → BeginsFor g s t m p
      led q left is (y, begun, same, fewer) = (y, begun, same ∙ is)

      go : (found : Option (PendingOpen K)) → MatchOption found ⊥ (λ x. x.process ≡ p) → MatchOption found ⊥ (λ x. Resumes g s x outcome (Ticket m) t) → BeginsFor g s t m p
      go None waits h = absurd h
      go (Some x) waits h = led x.process x.left waits (resumes_with_fewer x outcome h)

  pub step_waits_on : (ticket : ℕ) (parse : ParseRun) (p : ℕ) → WaitsFor s ticket p → Step g s (Resume ticket parse) (Ticket m) t → WaitsFor t m p
  step_waits_on ticket parse p waits h = waits_for g s t m p (step_begins ticket parse p waits h)

  -- the step of an open that waits
  opens_waits : (p attrs : ℕ) (wanted : Wanted K) (look : Look) → IsUsableEnd g s (open_mode wanted attrs) look → Opens g s p attrs wanted look (Ticket m) t → BeginsFor g s t m p
  opens_waits p attrs wanted (Refused status) usable h = let e : Ticket m ≡ answers status = h.0 in cc
  opens_waits p attrs wanted (At o) usable h = absurd (opens_no_ticket g t m s p attrs wanted Success o h)
  opens_waits p attrs wanted (Vacant d c) usable h = absurd h
  opens_waits p attrs wanted (Parse o rest n) usable h = (_, (begins_with g t m s p attrs wanted o rest n sound.pending.ticketed usable.1 h).0, refl)

  opens_name_waits : (p : ℕ) (root : Option ℕ) (name : List ℕ) (attrs : ℕ) (wanted : Wanted K) → OpensName g s p root name attrs wanted (Ticket m) t → BeginsFor g s t m p
  opens_name_waits p root name attrs wanted h = go (first_refusal (open_refusals (is_live s p) name attrs)) h
    where
      Does : Option ℕ → Type 0
      Does at = (look : Look) × LooksUp g s p (open_mode wanted attrs) most_reparses at name look × Opens g s p attrs wanted look (Ticket m) t

      does : (at : Option ℕ) → Does at → BeginsFor g s t m p
      does at h = opens_waits p attrs wanted h.0 (usable_end g s p (open_mode wanted attrs) most_reparses at name h.0 h.1) h.2

      at_root : (held : Option Held) → MatchOption held (IsRefused s InvalidHandle (Ticket m) t) (λ h. Does (Some h.object)) → BeginsFor g s t m p
      at_root None h = let e : Ticket m ≡ answers InvalidHandle = h.0 in cc
      at_root (Some x) h = does (Some x.object) h

      from : (root : Option ℕ) → WithRoot s p root (Ticket m) t Does → BeginsFor g s t m p
      from None h = does None h
      from (Some handle) h = at_root (option_and_then (held_of s p) (key_of handle)) h

      go : (refusal : Option Status) → MatchOption refusal (WithRoot s p root (Ticket m) t Does) (λ status. IsRefused s status (Ticket m) t) → BeginsFor g s t m p
      go None h = from root h
      go (Some status) h = let e : Ticket m ≡ answers status = h.0 in cc

  no_reply : {Goal : Type 0} → IsReply (Ticket m) → Goal
  no_reply (reply, e) = let same : Ticket m ≡ Done reply = e in cc

  -- the step of a command whose open waits: it waits for the process that asked, and the command is an open
  pub start_begins : (p : ℕ) (c : Command K) → Step g s (Start p c) (Ticket m) t → BeginsFor g s t m p × (is_open c ≡ true)
  start_begins p (OpenDirectory root name attrs) h = (opens_name_waits p root name attrs wanted.Directory h, refl)
  start_begins p (OpenLink root name attrs) h = (opens_name_waits p root name attrs wanted.Link h, refl)
  start_begins p (OpenObject root name attrs want) h = (opens_name_waits p root name attrs (type_wanted want) h, refl)
  start_begins p (CreateDirectory where_to attrs) h = no_reply (start_replies g s t (Ticket m) p (CreateDirectory where_to attrs) refl h)
  start_begins p (CreateShadowed where_to attrs shadow) h = no_reply (start_replies g s t (Ticket m) p (CreateShadowed where_to attrs shadow) refl h)
  start_begins p (CreateLink where_to attrs target) h = no_reply (start_replies g s t (Ticket m) p (CreateLink where_to attrs target) refl h)
  start_begins p (CreateObject where_to attrs kind args) h = no_reply (start_replies g s t (Ticket m) p (CreateObject where_to attrs kind args) refl h)
  start_begins p (Close handle) h = no_reply (start_replies g s t (Ticket m) p (Close handle) refl h)
  start_begins p (QueryLink handle) h = no_reply (start_replies g s t (Ticket m) p (QueryLink handle) refl h)
  start_begins p (QueryName handle) h = no_reply (start_replies g s t (Ticket m) p (QueryName handle) refl h)
  start_begins p (QueryDirectory handle context room single restart) h = no_reply (start_replies g s t (Ticket m) p (QueryDirectory handle context room single restart) refl h)
  start_begins p (Duplicate handle to inherit) h = no_reply (start_replies g s t (Ticket m) p (Duplicate handle to inherit) refl h)
  start_begins p (MakeTemporary handle) h = no_reply (start_replies g s t (Ticket m) p (MakeTemporary handle) refl h)
  start_begins p (MakePermanent handle) h = no_reply (start_replies g s t (Ticket m) p (MakePermanent handle) refl h)
  start_begins p (SetDeviceMap handle) h = no_reply (start_replies g s t (Ticket m) p (SetDeviceMap handle) refl h)
  start_begins p (NewProcess inherit) h = no_reply (start_replies g s t (Ticket m) p (NewProcess inherit) refl h)
  start_begins p ExitProcess h = no_reply (start_replies g s t (Ticket m) p ExitProcess refl h)

  pub start_waits : (p : ℕ) (c : Command K) → Step g s (Start p c) (Ticket m) t → WaitsFor t m p × (is_open c ≡ true)
  start_waits p c h = let begins = start_begins p c h in (waits_for g s t m p begins.0, begins.1)
