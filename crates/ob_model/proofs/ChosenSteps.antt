-- What each step gives: the last handle of its state, under a value that was free and may be any other.
use Rattle.std.proofs.Common.{◌≡◌, ◌∙◌, ℕ, Bool, true, false, cond, not, nat_lt, List, [], ◌∷◌, ◌++◌, length, find, Option, None, Some, MatchOption, inl, inr, refl, ap, sym, subst}
use Rattle.std.specs.Option.{option_and_then, option_map}
use Rattle.ob_base.specs.declared.status.Status.{Status}
use Rattle.ob_base.specs.declared.status.Status.TheVariants.{Success, InvalidHandle, InsufficientResources, NameTooLong, ObjectTypeMismatch, ProcessGone}
use Rattle.ob_base.specs.Handle.{key_of}
use Rattle.ob_model.specs.declared.command.Command.{Command}
use Rattle.ob_model.specs.declared.command.Command.TheVariants.{CreateDirectory, CreateShadowed, CreateLink, CreateObject, OpenDirectory, OpenLink, OpenObject, Close, QueryLink, QueryName, QueryDirectory, Duplicate, MakeTemporary, MakePermanent, SetDeviceMap, NewProcess, ExitProcess}
use Rattle.ob_model.specs.declared.reply.Answer.{Answer}
use Rattle.ob_model.specs.declared.reply.Event.{Event}
use Rattle.ob_model.specs.declared.reply.Event.TheVariants.{Start, Resume, Abandon}
use Rattle.ob_model.specs.declared.reply.Given.TheVariants.{Process, Text}
use Rattle.ob_model.specs.declared.state.Held.{Held}
use Rattle.ob_model.specs.declared.state.PendingOpen.{PendingOpen}
use Rattle.ob_model.specs.declared.state.Wanted.TheVariants as wanted
use Rattle.ob_model.specs.Names.{longest_name}
use Rattle.ob_model.specs.State.{State, is_live, is_directory, held_of, body_of}
use Rattle.ob_model.specs.Procedures.{Procedures, ParseOutcome, EndsItself, EndsMade, EndsReparse, EndsRefused}
use Rattle.ob_model.specs.PendingOpens.{pending_of}
use Rattle.ob_model.specs.Parses.{EndsOpen, Resumes, parsed_state}
use Rattle.ob_model.specs.Settle.{settle}
use Rattle.ob_model.specs.Closing.{is_handle, closed_handle}
use Rattle.ob_model.specs.Permanence.{turned}
use Rattle.ob_model.specs.Maps.{with_map}
use Rattle.ob_model.specs.Naming.{TellsName, TellsTarget, path_answer, path_text, target_of}
use Rattle.ob_model.specs.Enumeration.{enumerated, context_used, page_answer}
use Rattle.ob_model.specs.Grants.{IsFreeValue, first_refusal}
use Rattle.ob_model.specs.Refusals.{gives, answers, IsRefused, Unless}
use Rattle.ob_model.specs.Opens.{type_wanted}
use Rattle.ob_model.specs.Creates.{MakesDirectory, MakesLink, MakesObject}
use Rattle.ob_model.specs.Processes.{is_crowded, begun, ended, values_in, MakesChild, Exits}
use Rattle.ob_model.specs.Step.{WithHandle, Closes, QueriesLink, QueriesName, QueriesDirectory, TellsPage, Turns, SetsMap, page_refusals, Starts, Step}
use Rattle.ob_model.specs.Alike.{handle_given, process_given, receiver}
use Rattle.ob_model.specs.Choice.{answer_under, revalued, receiver_of}
use Rattle.ob_model.proofs.Revalued.{settle-revalued}
use Rattle.ob_model.proofs.Chosen.{Chooses, silent, says_nothing, onward, unless_chooses, found_chooses, creates_at_chooses, duplicates_chooses, opens_name_chooses, ends_open_chooses}

-- an answer gives no handle and tells of no process
abbrev IsMute : Answer → Type 0
IsMute a = (handle_given a ≡ None) × (process_given a ≡ None)

path_mute : (text : List ℕ) → IsMute (path_answer text)
path_mute text = go (nat_lt longest_name (length text))
  where
    go : (long : Bool) → IsMute (cond long (answers NameTooLong) (gives Success (Text text)))
    go true = (refl, refl)
    go false = (refl, refl)

module _ {K T F I : Type 0} where
  target_mute : (s : State K T F I) (o : ℕ) (a : Answer) → TellsTarget s o a → IsMute a
  target_mute s o a h = go (option_and_then target_of (body_of s o)) h
    where
      go : (target : Option (List ℕ)) → MatchOption target (a ≡ answers ObjectTypeMismatch) (λ text. a ≡ gives Success (Text text)) → IsMute a
      go None h = (ap handle_given h, ap process_given h)
      go (Some text) h = (ap handle_given h, ap process_given h)

  name_mute : (s : State K T F I) (o : ℕ) (a : Answer) → TellsName s o a → IsMute a
  name_mute s o a (inl h) = let mute = path_mute (path_text h.0) in (ap handle_given h.2 ∙ mute.0, ap process_given h.2 ∙ mute.1)
  name_mute s o a (inr h) = (ap handle_given h.1, ap process_given h.1)

  mute_chooses : (s : State K T F I) (p : ℕ) (Sole : Type 0) (R : Answer → State K T F I → Type 0) (a : Answer) (u : State K T F I) → IsMute a → Chooses s p Sole R a u
  mute_chooses s p Sole R a u mute = silent s p Sole R a u mute.0 (λ child given. let both : None ≡ Some child = sym mute.1 ∙ given in cc)

module _ {K T F I : Type 0} (g : Procedures K T F I) (s : State K T F I) (p : ℕ) (Sole : Type 0) where
  -- a command that uses a handle of the caller
  with_handle_chooses : (handle : ℕ) (R : Held → Answer → State K T F I → Type 0) (a : Answer) (u : State K T F I) → ((h : Held) → R h a u → Chooses s p Sole (R h) a u)
      → WithHandle s p handle a u (λ h. R h a u) → Chooses s p Sole (λ b v. WithHandle s p handle b v (λ h. R h b v)) a u
  with_handle_chooses handle R a u does h =
      unless_chooses s p Sole ((not (is_live s p), ProcessGone) ∷ [])
      (λ b v. MatchOption (option_and_then (held_of s p) (key_of handle)) (IsRefused s InvalidHandle b v) (λ x. R x b v)) a u
      (found_chooses s p Sole (option_and_then (held_of s p) (key_of handle)) R a u does) h

  -- the answer is a status alone
  done_chooses : (status : Status) (left : State K T F I) (a : Answer) (u : State K T F I) → (a ≡ answers status) × (u ≡ left) → Chooses s p Sole (λ b v. (b ≡ answers status) × (v ≡ left)) a u
  done_chooses status left a u h = says_nothing s p Sole (λ b v. (b ≡ answers status) × (v ≡ left)) a (answers status) u h.0 refl refl

  closes_chooses : (handle : ℕ) (a : Answer) (u : State K T F I) → Closes g s p handle a u → Chooses s p Sole (Closes g s p handle) a u
  closes_chooses handle a u h =
      with_handle_chooses handle (λ x b v. (b ≡ answers Success) × (v ≡ settle g (closed_handle g s x))) a u (λ x. done_chooses Success (settle g (closed_handle g s x)) a u) h

  turns_chooses : (handle : ℕ) (permanent : Bool) (a : Answer) (u : State K T F I) → Turns g s p handle permanent a u → Chooses s p Sole (Turns g s p handle permanent) a u
  turns_chooses handle permanent a u h =
      with_handle_chooses handle (λ x b v. (b ≡ answers Success) × (v ≡ settle g (turned s x.object permanent))) a u (λ x. done_chooses Success (settle g (turned s x.object permanent)) a u) h

  sets_map_chooses : (handle : ℕ) (a : Answer) (u : State K T F I) → SetsMap g s p handle a u → Chooses s p Sole (SetsMap g s p handle) a u
  sets_map_chooses handle a u h =
      with_handle_chooses handle
      (λ x b v. Unless ((not (is_directory s x.object), ObjectTypeMismatch) ∷ []) s b v ((b ≡ answers Success) × (v ≡ settle g (with_map s p x.object)))) a u
      (λ x. unless_chooses s p Sole ((not (is_directory s x.object), ObjectTypeMismatch) ∷ []) (λ b v. (b ≡ answers Success) × (v ≡ settle g (with_map s p x.object))) a u
      (done_chooses Success (settle g (with_map s p x.object)) a u)) h

  queries_link_chooses : (handle : ℕ) (a : Answer) (u : State K T F I) → QueriesLink s p handle a u → Chooses s p Sole (QueriesLink s p handle) a u
  queries_link_chooses handle a u h =
      with_handle_chooses handle (λ x b v. TellsTarget s x.object b × (v ≡ s)) a u
      (λ x does. mute_chooses s p Sole (λ b v. TellsTarget s x.object b × (v ≡ s)) a u (target_mute s x.object a does.0)) h

  queries_name_chooses : (handle : ℕ) (a : Answer) (u : State K T F I) → QueriesName s p handle a u → Chooses s p Sole (QueriesName s p handle) a u
  queries_name_chooses handle a u h =
      with_handle_chooses handle (λ x b v. TellsName s x.object b × (v ≡ s)) a u
      (λ x does. mute_chooses s p Sole (λ b v. TellsName s x.object b × (v ≡ s)) a u (name_mute s x.object a does.0)) h

  queries_directory_chooses : (handle context room : ℕ) (single restart : Bool) (a : Answer) (u : State K T F I)
      → QueriesDirectory g s p handle context room single restart a u → Chooses s p Sole (QueriesDirectory g s p handle context room single restart) a u
  queries_directory_chooses handle context room single restart a u h =
      unless_chooses s p Sole (page_refusals (is_live s p) room)
      (λ b v. MatchOption (option_and_then (held_of s p) (key_of handle)) (IsRefused s InvalidHandle b v) (λ x. Pages x b v)) a u
      (found_chooses s p Sole (option_and_then (held_of s p) (key_of handle)) Pages a u
      (λ x.
      unless_chooses s p Sole ((not (is_directory s x.object), ObjectTypeMismatch) ∷ []) (Shows x) a u
      (λ does.
      says_nothing s p Sole (Shows x) a (page_answer (enumerated g s x.object (context_used restart context) room single)) u does.0 refl refl))) h
    where
      Pages : Held → Answer → State K T F I → Type 0
      Pages x = TellsPage g s x.object (context_used restart context) room single

      Shows : Held → Answer → State K T F I → Type 0
      Shows x b v = (b ≡ page_answer (enumerated g s x.object (context_used restart context) room single)) × (v ≡ s)

  exits_chooses : (a : Answer) (u : State K T F I) → Exits g s p a u → Chooses s p Sole (Exits g s p) a u
  exits_chooses a u h =
      unless_chooses s p Sole ((not (is_live s p), ProcessGone) ∷ []) (λ b v. (b ≡ answers Success) × (v ≡ settle g (ended g s p))) a u (done_chooses Success (settle g (ended g s p)) a u) h

  -- a process that begins, where the answer that tells of it is the only one
  child_chooses : (inherit : Bool) (a : Answer) (u : State K T F I) → (MakesChild g s p inherit a u → Sole) → MakesChild g s p inherit a u → Chooses s p Sole (MakesChild g s p inherit) a u
  child_chooses inherit a u sole h =
      unless_chooses s p Sole ((not (is_live s p), ProcessGone) ∷ (is_crowded s p inherit, InsufficientResources) ∷ []) Begins a u
      (λ does. silent s p Sole Begins a u (ap handle_given does.0) (λ child given. sole h)) h
    where
      Begins : Answer → State K T F I → Type 0
      Begins b v = (b ≡ gives Success (Process s.next_process (values_in (begun g s p inherit) s.next_process))) × (v ≡ settle g (begun g s p inherit))

module _ {K T F I : Type 0} (g : Procedures K T F I) (s : State K T F I) where
  -- the answers of two steps in which a process makes a child are one
  one_child : (p : ℕ) (inherit : Bool) (a b : Answer) (u v : State K T F I) → MakesChild g s p inherit a u → MakesChild g s p inherit b v → b ≡ a
  one_child p inherit a b u v h k = go (first_refusal ((not (is_live s p), ProcessGone) ∷ (is_crowded s p inherit, InsufficientResources) ∷ [])) h k
    where
      Begins : Answer → State K T F I → Type 0
      Begins b v = (b ≡ gives Success (Process s.next_process (values_in (begun g s p inherit) s.next_process))) × (v ≡ settle g (begun g s p inherit))

      go : (refusal : Option Status) → MatchOption refusal (Begins a u) (λ status. IsRefused s status a u) → MatchOption refusal (Begins b v) (λ status. IsRefused s status b v) → b ≡ a
      go None h k = k.0 ∙ sym h.0
      go (Some status) h k = k.0 ∙ sym h.0

  -- no other answer comes from an event
  abbrev IsSole : Event K → Answer → Type 0
  IsSole e a = (b : Answer) (v : State K T F I) → Step g s e b v → b ≡ a

  -- a command
  start_chooses : (p : ℕ) (c : Command K) (a : Answer) (u : State K T F I) → Starts g s p c a u → Chooses s (receiver p c) (IsSole (Start p c) a) (Starts g s p c) a u
  start_chooses p (CreateDirectory where_to attrs) a u h = creates_at_chooses g s p (IsSole (Start p (CreateDirectory where_to attrs)) a) where_to attrs None MakesDirectory a u h
  start_chooses p (CreateShadowed where_to attrs shadow) a u h =
      creates_at_chooses g s p (IsSole (Start p (CreateShadowed where_to attrs shadow)) a) where_to attrs (Some shadow) MakesDirectory a u h
  start_chooses p (CreateLink where_to attrs target) a u h = creates_at_chooses g s p (IsSole (Start p (CreateLink where_to attrs target)) a) where_to attrs None (λ shadow. MakesLink target) a u h
  start_chooses p (CreateObject where_to attrs kind args) a u h =
      creates_at_chooses g s p (IsSole (Start p (CreateObject where_to attrs kind args)) a) where_to attrs None (λ shadow. MakesObject kind args) a u h
  start_chooses p (OpenDirectory root name attrs) a u h = opens_name_chooses g s p (IsSole (Start p (OpenDirectory root name attrs)) a) root name attrs wanted.Directory a u h
  start_chooses p (OpenLink root name attrs) a u h = opens_name_chooses g s p (IsSole (Start p (OpenLink root name attrs)) a) root name attrs wanted.Link a u h
  start_chooses p (OpenObject root name attrs want) a u h = opens_name_chooses g s p (IsSole (Start p (OpenObject root name attrs want)) a) root name attrs (type_wanted want) a u h
  start_chooses p (Close handle) a u h = closes_chooses g s p (IsSole (Start p (Close handle)) a) handle a u h
  start_chooses p (QueryLink handle) a u h = queries_link_chooses g s p (IsSole (Start p (QueryLink handle)) a) handle a u h
  start_chooses p (QueryName handle) a u h = queries_name_chooses g s p (IsSole (Start p (QueryName handle)) a) handle a u h
  start_chooses p (QueryDirectory handle context room single restart) a u h =
      queries_directory_chooses g s p (IsSole (Start p (QueryDirectory handle context room single restart)) a) handle context room single restart a u h
  start_chooses p (Duplicate handle to inherit) a u h = duplicates_chooses g s to (IsSole (Start p (Duplicate handle to inherit)) a) p handle inherit a u h
  start_chooses p (MakeTemporary handle) a u h = turns_chooses g s p (IsSole (Start p (MakeTemporary handle)) a) handle false a u h
  start_chooses p (MakePermanent handle) a u h = turns_chooses g s p (IsSole (Start p (MakePermanent handle)) a) handle true a u h
  start_chooses p (SetDeviceMap handle) a u h = sets_map_chooses g s p (IsSole (Start p (SetDeviceMap handle)) a) handle a u h
  start_chooses p (NewProcess inherit) a u h = child_chooses g s p (IsSole (Start p (NewProcess inherit)) a) inherit a u (λ made b v k. one_child p inherit a b u v made k) h
  start_chooses p ExitProcess a u h = exits_chooses g s p (IsSole (Start p ExitProcess) a) a u h

  -- the end of a pending open
  parsed_handles : (ticket : ℕ) (outcome : Option (ParseOutcome F I)) → (parsed_state s ticket outcome).handles ≡ s.handles
  parsed_handles ticket None = refl
  parsed_handles ticket (Some EndsItself) = refl
  parsed_handles ticket (Some (EndsMade face inner)) = refl
  parsed_handles ticket (Some (EndsReparse text)) = refl
  parsed_handles ticket (Some (EndsRefused k)) = refl

  resumes_chooses : (Sole : Type 0) (x : PendingOpen K) (outcome : Option (ParseOutcome F I)) (a : Answer) (u : State K T F I)
      → Resumes g s x outcome a u → Chooses s x.process Sole (Resumes g s x outcome) a u
  resumes_chooses Sole x outcome a u h = record {
    last = λ chosen given. let c = inner.last chosen given in (c.0, ap (λ y. y.handles) h.2 ∙ c.1 ∙ ap (λ hs. hs ++ c.0 ∷ []) same, c.2, c.3);
    free = λ chosen given. let f = inner.free chosen given in (f.0, ap (find (is_handle x.process chosen)) (sym same) ∙ f.1);
    under = λ chosen value given free. (
      revalued value h.0,
      inner.under chosen value given (free.0, ap (find (is_handle x.process value)) same ∙ free.1),
      ap (revalued value) h.2 ∙ sym (settle-revalued g value h.0),
    );
    told = inner.told;
  }
    where
      w : State K T F I
      w = parsed_state s x.ticket outcome

      same : w.handles ≡ s.handles
      same = parsed_handles x.ticket outcome

      inner : Chooses w x.process Sole (λ b v. Unless ((not (is_live s x.process), ProcessGone) ∷ []) w b v (EndsOpen g w x outcome b v)) a h.0
      inner =
          unless_chooses w x.process Sole ((not (is_live s x.process), ProcessGone) ∷ []) (EndsOpen g w x outcome) a h.0 (ends_open_chooses g w Sole x outcome a h.0) h.1

  -- a step
  pub step_chooses : (e : Event K) (p : ℕ) (a : Answer) (u : State K T F I) → receiver_of s e ≡ Some p → Step g s e a u → Chooses s p (IsSole e a) (Step g s e) a u
  step_chooses (Start q c) p a u gets h =
      let is : receiver q c ≡ p = cc in subst (λ (r : ℕ). Chooses s r (IsSole (Start q c) a) (Step g s (Start q c)) a u) is (start_chooses q c a u h)
  step_chooses (Resume ticket parse) p a u gets h =
      onward s p (IsSole (Resume ticket parse) a) (λ b v. MatchOption (pending_of s ticket) ⊥ (λ x. Resumes g s x h.0 b v)) (Step g s (Resume ticket parse)) a u (λ b v k. (h.0, h.1, k))
      (go (pending_of s ticket) gets h.2)
    where
      go : (found : Option (PendingOpen K)) → option_map (λ x. x.process) found ≡ Some p → MatchOption found ⊥ (λ x. Resumes g s x h.0 a u)
          → Chooses s p (IsSole (Resume ticket parse) a) (λ b v. MatchOption found ⊥ (λ x. Resumes g s x h.0 b v)) a u
      go None gets does = absurd does
      go (Some x) gets does =
          let is : x.process ≡ p = cc in
          subst (λ (r : ℕ). Chooses s r (IsSole (Resume ticket parse) a) (Resumes g s x h.0) a u) is (resumes_chooses (IsSole (Resume ticket parse) a) x h.0 a u does)
  step_chooses (Abandon ticket parse) p a u gets h = cc

module _ {K T F I : Type 0} where
  -- the handle that a step gives is its state's last
  pub step_last : (g : Procedures K T F I) (s u : State K T F I) (e : Event K) (a : Answer) (p chosen : ℕ)
      → Step g s e a u → handle_given a ≡ Some chosen → receiver_of s e ≡ Some p
      → (h : Held) × (u.handles ≡ s.handles ++ h ∷ []) × (h.process ≡ p) × (h.value ≡ chosen)
  step_last g s u e a p chosen h given gets = (step_chooses g s e p a u gets h).last chosen given

  -- each other free value will do
  pub step_under : (g : Procedures K T F I) (s u : State K T F I) (e : Event K) (a : Answer) (p chosen value : ℕ)
      → Step g s e a u → handle_given a ≡ Some chosen → receiver_of s e ≡ Some p → IsFreeValue s p value
      → Step g s e (answer_under value a) (revalued value u)
  step_under g s u e a p chosen value h given gets free = (step_chooses g s e p a u gets h).under chosen value given free
