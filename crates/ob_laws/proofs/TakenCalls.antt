-- The objects of which calls are told in a step have numbers that are taken behind it, under which no object comes to be again.
use Rattle.std.proofs.Common.{◌≡◌, ◌≢◌, ◌∙◌, ℕ, ◌<◌, ◌==◌, Bool, true, false, not, ◌&&◌, ◌||◌, nat_lt, if◌then◌else◌, List, [], ◌∷◌, ◌++◌, filter, map, Option, None, Some, is_some, MatchOption, refl, ap, sym, subst, arith, eqb-true}
use Rattle.std.specs.Option.{option_and_then, option_map_or}
use Rattle.std.proofs.lemmas.Bool.{false≢true, ne_eqb}
use Rattle.ob_base.specs.Handle.{key_of}
use Rattle.ob_model.specs.declared.command.Command.{Command}
use Rattle.ob_model.specs.declared.command.Command.TheVariants.{CreateDirectory, CreateShadowed, CreateLink, CreateObject, OpenDirectory, OpenLink, OpenObject, Close, QueryLink, QueryName, QueryDirectory, Duplicate, MakeTemporary, MakePermanent, SetDeviceMap, NewProcess, ExitProcess}
use Rattle.ob_model.specs.declared.reply.Answer.{Answer}
use Rattle.ob_model.specs.declared.reply.Event.{Event}
use Rattle.ob_model.specs.declared.reply.Event.TheVariants.{Start, Resume, Abandon}
use Rattle.ob_model.specs.declared.state.PendingOpen.{PendingOpen}
use Rattle.ob_model.specs.declared.terms.Reason.{Reason}
use Rattle.ob_model.specs.declared.terms.Reason.TheVariants.{Opened as ForOpen, Duplicated as ForDuplicate, Inherited as ForChild}
use Rattle.ob_model.specs.State.{State, object_of, is_live, held_of, handle_count, handle_count_in}
use Rattle.ob_model.specs.Procedures.{Procedures, ParseOutcome}
use Rattle.ob_model.specs.PendingOpens.{pending_of}
use Rattle.ob_model.specs.Parses.{Resumes, Abandons}
use Rattle.ob_model.specs.Sound.{IsSound}
use Rattle.ob_model.specs.Step.{Step}
use Rattle.ob_model.specs.Calls.{Call, Opened, Closed, Deleted, handle_given, leads_to, is_made, is_of_set, handles_to, open_reason, calls_of_grant, calls_of_close, closes_at_end, calls_of_resume, calls_of_command, is_drawn, calls_of_end, calls_of_step}
use Rattle.ob_model.proofs.PendingSound.{HasTicket, has_ticket}
use Rattle.ob_model.proofs.SoundPaths.{find_of}
use Rattle.ob_model.proofs.Steps.{step_sound}
use Rattle.ob_laws.specs.CallsMade.{made_by_parse, made_by_event}
use Rattle.ob_laws.proofs.LifeOf.{IsTaken}
use Rattle.ob_laws.proofs.TakenNumbers.{GoesOn, started_on, resumed_on, abandoned_on, found_is}
use Rattle.ob_laws.proofs.StepCalls.{standing_is_taken, stands_of_set, drawn_is_taken, made_is_taken, pending_on}

-- ---- where no object of the set is before and after, and none comes, nothing is told

module _ {K T F I : Type 0} (s t : State K T F I) (o : ℕ) (before : is_of_set s o ≡ false) (after : is_of_set t o ≡ false) where
  no_grant : (reason : Reason) (p : ℕ) (given : Option ℕ) → calls_of_grant reason t p given o ≡ []
  no_grant reason p given = ap (λ b. if b && leads_to (option_and_then (held_of t p) given) o then Opened reason ∷ [] else []) after

  no_close : (p handle : ℕ) → calls_of_close s t p handle o ≡ []
  no_close p handle =
      ap (λ b. if is_live s p && b && leads_to (option_and_then (held_of s p) (key_of handle)) o then Closed (handle_count_in t p o) (handle_count t o) ∷ [] else []) before
      ∙ elim (is_live s p) as (λ b. ◌≡◌ {A = List Call} (if b && false && leads_to (option_and_then (held_of s p) (key_of handle)) o then Closed (handle_count_in t p o) (handle_count t o) ∷ [] else []) [])
      [ true ↦ refl | false ↦ refl ]

  no_end : (came : Bool) → came ≡ false → calls_of_end s t came o ≡ []
  no_end came none = λ i. if (before i || none i) && not (is_some (object_of t o)) then Deleted ∷ [] else []

  no_command : (p : ℕ) (command : Command K) (given : Option ℕ) → calls_of_command s t p command given o ≡ []
  no_command p (CreateDirectory where_to attrs) given = no_grant (open_reason s o) p given
  no_command p (CreateShadowed where_to attrs shadow) given = no_grant (open_reason s o) p given
  no_command p (CreateLink where_to attrs target) given = no_grant (open_reason s o) p given
  no_command p (CreateObject where_to attrs kind args) given = no_grant (open_reason s o) p given
  no_command p (OpenDirectory root name attrs) given = no_grant (open_reason s o) p given
  no_command p (OpenLink root name attrs) given = no_grant (open_reason s o) p given
  no_command p (OpenObject root name attrs want) given = no_grant (open_reason s o) p given
  no_command p (Close handle) given = no_close p handle
  no_command p (QueryLink handle) given = refl
  no_command p (QueryName handle) given = refl
  no_command p (QueryDirectory handle context room single restart) given = refl
  no_command p (Duplicate handle to inherit) given = no_grant ForDuplicate to given
  no_command p (MakeTemporary handle) given = refl
  no_command p (MakePermanent handle) given = refl
  no_command p (SetDeviceMap handle) given = refl
  no_command p (NewProcess inherit) given = ap (λ b. if b then map (λ _. Opened ForChild) (filter (λ h. h.process == s.next_process) (handles_to t o)) else []) after
  no_command p ExitProcess given =
      ap (λ b. if is_live s p && b then closes_at_end s p o else []) before
      ∙ elim (is_live s p) as (λ b. ◌≡◌ {A = List Call} (if b && false then closes_at_end s p o else []) []) [ true ↦ refl | false ↦ refl ]

  no_resume : (ticket : ℕ) (given : Option ℕ) → calls_of_resume s t ticket given o ≡ []
  no_resume ticket given = go (pending_of s ticket)
    where
      go : (found : Option (PendingOpen K)) → option_map_or (λ x. calls_of_grant ForOpen t x.process given o) found [] ≡ []
      go None = refl
      go (Some x) = no_grant ForOpen x.process given

module _ {K T F I : Type 0} where
  -- an object comes in a step under this number
  abbrev comes : State K T F I → State K T F I → Event K → Option (ParseOutcome F I) → ℕ → Bool
  comes s t (Start p command) outcome o = is_drawn s t command o
  comes s t (Resume ticket parse) outcome o = is_made outcome && (o == ticket)
  comes s t (Abandon ticket parse) outcome o = is_made outcome && (o == ticket)

  no_calls : (s t : State K T F I) (event : Event K) (outcome : Option (ParseOutcome F I)) (answer : Answer) (o : ℕ)
      → is_of_set s o ≡ false → is_of_set t o ≡ false → comes s t event outcome o ≡ false → calls_of_step s event outcome answer t o ≡ []
  no_calls s t (Start p command) outcome answer o before after none =
      λ i. no_command s t o before after p command (handle_given answer) i ++ no_end s t o before after (is_drawn s t command o) none i
  no_calls s t (Resume ticket parse) outcome answer o before after none =
      λ i. no_resume s t o before after ticket (handle_given answer) i ++ no_end s t o before after (is_made outcome && (o == ticket)) none i
  no_calls s t (Abandon ticket parse) outcome answer o before after none = no_end s t o before after (is_made outcome && (o == ticket)) none

module _ {K T F I : Type 0} (g : Procedures K T F I) (s t : State K T F I) (o : ℕ) (sound : IsSound s) where
  -- ---- what is taken stays so, and nothing comes to be under it

  step_on : (event : Event K) (answer : Answer) → Step g s event answer t → GoesOn o s t
  step_on (Start p command) answer h = started_on g o s t p command answer h
  step_on (Resume ticket parse) answer h = go (pending_of s ticket) refl (has_ticket s ticket sound) h.2
    where
      go : (found : Option (PendingOpen K)) → pending_of s ticket ≡ found → MatchOption found (Unit {0}) (HasTicket s) → MatchOption found ⊥ (λ x. Resumes g s x h.0 answer t) → GoesOn o s t
      go None e has does = absurd does
      go (Some x) e has does = pending_on g s t o sound ticket x h.0 e has (resumed_on g o s t x h.0 answer does)
  step_on (Abandon ticket parse) answer h = go (pending_of s ticket) refl (has_ticket s ticket sound) h.2
    where
      go : (found : Option (PendingOpen K)) → pending_of s ticket ≡ found → MatchOption found (Unit {0}) (HasTicket s) → MatchOption found ⊥ (λ x. Abandons g s x h.0 answer t) → GoesOn o s t
      go None e has does = absurd does
      go (Some x) e has does = pending_on g s t o sound ticket x h.0 e has (abandoned_on g o s t x h.0 answer does)

  pub stays_taken : (event : Event K) (answer : Answer) → Step g s event answer t → IsTaken s o → IsTaken t o
  stays_taken event answer h taken = (step_on event answer h).taken taken

  -- a taken number is no pending open's ticket
  no_ticket : (ticket : ℕ) (x : PendingOpen K) → pending_of s ticket ≡ Some x → IsTaken s o → (o == ticket) ≡ false
  no_ticket ticket x found taken =
      ne_eqb o ticket
      (λ same.
      subst (λ f. MatchOption f (Unit {0}) (λ y. y.ticket ≢ o)) found (find_of (λ y. y.ticket ≢ o) (λ y. y.ticket == ticket) s.pending taken.unawaited)
      (eqb-true x.ticket ticket (found_is (λ y. y.ticket == ticket) s.pending x found) ∙ sym same))

  pub none_made : (event : Event K) (outcome : Option (ParseOutcome F I)) (answer : Answer) → Step g s event answer t → IsTaken s o → made_by_event g s t event outcome o ≡ None
  none_made (Start p (CreateObject where_to attrs kind args)) outcome answer h taken =
      ap (λ b. if b && nat_lt s.next_id t.next_id then Some ((g.made kind args).1) else None) (let less : o < s.next_id = taken.drawn in ne_eqb o s.next_id (λ same. omega (arith, less, same)))
  none_made (Start p command) outcome answer h taken = refl
  none_made (Resume ticket parse) outcome answer h taken = go (pending_of s ticket) refl h.2
    where
      go : (found : Option (PendingOpen K)) → pending_of s ticket ≡ found → MatchOption found ⊥ (λ x. Resumes g s x h.0 answer t) → (if o == ticket then made_by_parse outcome else None) ≡ None
      go None e does = absurd does
      go (Some x) e does = ap (λ b. if b then made_by_parse outcome else None) (no_ticket ticket x e taken)
  none_made (Abandon ticket parse) outcome answer h taken = go (pending_of s ticket) refl h.2
    where
      go : (found : Option (PendingOpen K)) → pending_of s ticket ≡ found → MatchOption found ⊥ (λ x. Abandons g s x h.0 answer t) → (if o == ticket then made_by_parse outcome else None) ≡ None
      go None e does = absurd does
      go (Some x) e does = ap (λ b. if b then made_by_parse outcome else None) (no_ticket ticket x e taken)

  -- ---- where something is told, the number is taken behind the step

  came_taken : (event : Event K) (outcome : Option (ParseOutcome F I)) (answer : Answer) → Step g s event answer t → comes s t event outcome o ≡ true → IsTaken t o
  came_taken (Start p (CreateObject where_to attrs kind args)) outcome answer h e = drawn_is_taken g s t o sound p where_to attrs kind args answer h e
  came_taken (Start p command) outcome answer h e = absurd (false≢true e)
  came_taken (Resume ticket parse) outcome answer h e = go (pending_of s ticket) refl (has_ticket s ticket sound) h.2
    where
      go : (found : Option (PendingOpen K)) → pending_of s ticket ≡ found → MatchOption found (Unit {0}) (HasTicket s) → MatchOption found ⊥ (λ x. Resumes g s x h.0 answer t) → IsTaken t o
      go None found has does = absurd does
      go (Some x) found has does = made_is_taken g s t o sound ticket x h.0 found has (resumed_on g o s t x h.0 answer does) (is_made outcome) e
  came_taken (Abandon ticket parse) outcome answer h e = go (pending_of s ticket) refl (has_ticket s ticket sound) h.2
    where
      go : (found : Option (PendingOpen K)) → pending_of s ticket ≡ found → MatchOption found (Unit {0}) (HasTicket s) → MatchOption found ⊥ (λ x. Abandons g s x h.0 answer t) → IsTaken t o
      go None found has does = absurd does
      go (Some x) found has does = made_is_taken g s t o sound ticket x h.0 found has (abandoned_on g o s t x h.0 answer does) (is_made outcome) e

  pub called_taken : (event : Event K) (outcome : Option (ParseOutcome F I)) (answer : Answer) → Step g s event answer t → calls_of_step s event outcome answer t o ≢ [] → IsTaken t o
  called_taken event outcome answer h some = go (is_of_set s o) (is_of_set t o) (comes s t event outcome o) refl refl refl
    where
      go : (a b c : Bool) → is_of_set s o ≡ a → is_of_set t o ≡ b → comes s t event outcome o ≡ c → IsTaken t o
      go true b c before after came = stays_taken event answer h (standing_is_taken s t o 0 sound (step_on event answer h) (stands_of_set s t o 0 sound (step_on event answer h) before))
      go false true c before after came =
          let next = step_sound g s t event answer sound h in
          let on : GoesOn o t t = record { taken = λ x. x; vacant = λ x e. e } in
          standing_is_taken t t o 0 next on (stands_of_set t t o 0 next on after)
      go false false true before after came = came_taken event outcome answer h came
      go false false false before after came = absurd (some (no_calls s t event outcome answer o before after came))
