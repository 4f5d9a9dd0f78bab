-- The set's value and the inner values after each step, by its calls.
use Rattle.std.proofs.Common.{◌≡◌, ◌≢◌, ◌∙◌, ℕ, ◌+◌, ◌==◌, Bool, true, false, not, ◌&&◌, nat_lt, if◌then◌else◌, List, [], ◌∷◌, ◌++◌, All, Option, None, Some, is_some, option_map, MatchOption, refl, ap, sym, subst, arith, eqb-true}
use Rattle.std.specs.Option.{option_and_then, option_map_or}
use Rattle.std.proofs.lemmas.Bool.Decides.{nat_tests}
use Rattle.ob_base.specs.Handle.{key_of}
use Rattle.ob_base.specs.declared.status.Status.TheVariants.{Success, InvalidHandle, InsufficientResources, ObjectTypeMismatch, ProcessGone}
use Rattle.ob_model.specs.declared.command.Command.TheVariants.{CreateDirectory, CreateShadowed, CreateLink, CreateObject, OpenDirectory, OpenLink, OpenObject, Close, QueryLink, QueryName, QueryDirectory, Duplicate, MakeTemporary, MakePermanent, SetDeviceMap, NewProcess, ExitProcess}
use Rattle.ob_model.specs.declared.command.Place.{Place}
use Rattle.ob_model.specs.declared.reply.Answer.{Answer}
use Rattle.ob_model.specs.declared.reply.Event.{Event}
use Rattle.ob_model.specs.declared.reply.Event.TheVariants.{Start, Resume, Abandon}
use Rattle.ob_model.specs.declared.reply.Given.TheVariants.{Process}
use Rattle.ob_model.specs.declared.reply.ParseRun.{ParseRun}
use Rattle.ob_model.specs.declared.reply.ParseRun.TheVariants as run
use Rattle.ob_model.specs.declared.state.Body.{Body}
use Rattle.ob_model.specs.declared.state.Held.{Held}
use Rattle.ob_model.specs.declared.state.Object.{Object}
use Rattle.ob_model.specs.declared.state.PendingOpen.{PendingOpen}
use Rattle.ob_model.specs.declared.state.Wanted.TheVariants as wanted
use Rattle.ob_model.specs.State.{State, object_of, is_live, is_directory, held_of, handle_count, handle_count_in}
use Rattle.ob_model.specs.declared.terms.Reason.TheVariants.{Opened as ForOpen, Duplicated as ForDuplicate}
use Rattle.ob_model.specs.Procedures.{Procedures, ParseOutcome, ParseEnds}
use Rattle.ob_model.specs.Settle.{settle}
use Rattle.ob_model.specs.Grants.{first_refusal}
use Rattle.ob_model.specs.Closing.{closed_handle}
use Rattle.ob_model.specs.Permanence.{turned_object, with_permanence, turned}
use Rattle.ob_model.specs.Maps.{with_map}
use Rattle.ob_model.specs.Refusals.{gives, answers, IsRefused, Unless}
use Rattle.ob_model.specs.PendingOpens.{face_of, pending_of}
use Rattle.ob_model.specs.Parses.{IsParsed, IsBrought, Resumes, Abandons}
use Rattle.ob_model.specs.Opens.{type_wanted}
use Rattle.ob_model.specs.Creates.{Making, MakesDirectory, MakesLink, MakesObject, body_made}
use Rattle.ob_model.specs.Naming.{TellsName, TellsTarget}
use Rattle.ob_model.specs.Enumeration.{enumerated, context_used, page_answer}
use Rattle.ob_model.specs.Processes.{values_in, is_crowded, begun, ended, MakesChild, Exits}
use Rattle.ob_model.specs.Sound.{IsSound}
use Rattle.ob_model.specs.Step.{WithHandle, CreatesAt, Closes, Turns, SetsMap, page_refusals, TellsPage, QueriesDirectory, Step}
use Rattle.ob_model.specs.Calls.{Call, Closed, handle_given, leads_to, is_made, is_set_body, is_of_set, open_reason, calls_of_grant, calls_of_child, calls_of_close, closes_at_end, is_drawn, calls_of_end, calls_of_step}
use Rattle.ob_model.proofs.ParseRuns.{parse_unique}
use Rattle.ob_model.proofs.PendingSound.{HasTicket, has_ticket}
use Rattle.ob_model.proofs.Soundness.{find_id-map}
use Rattle.ob_model.proofs.Turned.{turned_object-id, turned_object-is_directory, turned_either}
use Rattle.ob_laws.specs.CallsMade.{inner_of, inside, made_by_parse, made_by_event}
use Rattle.ob_laws.proofs.StepCalls.{unless_holds, handle_holds, with_handle_holds, unborn}
use Rattle.ob_laws.proofs.TakenNumbers.{found_is}
use Rattle.ob_laws.proofs.Follows.{Follows, follows_still, follows_told}
use Rattle.ob_laws.proofs.NewValues.{joined}
use Rattle.ob_laws.proofs.RisingNumbers.{Rises, rises_turned}
use Rattle.ob_laws.proofs.MovedSteps.{Moves, moves_told, unmade_moves, still_moves, newly, newly_none}
use Rattle.ob_laws.proofs.GrantMoves.{there_for_open, create_moves, duplicate_moves, open_moves, parsed, parsed_came, resume_moves, abandon_moves}
use Rattle.ob_laws.proofs.HandleMoves.{close_moves, ended_moves, begun_moves}

not_below : (n : ℕ) → nat_lt n n ≡ false
not_below n = grind (arith, nat_tests)

is_below : (n : ℕ) → nat_lt n (n + 1) ≡ true
is_below n = grind (arith, nat_tests)

module _ {K T F I : Type 0} (g : Procedures K T F I) (s t : State K T F I) (sound : IsSound s) (rises : Rises s) where
  -- nothing comes to be, and nothing is opened or closed
  abbrev Still : Type 0
  Still = Moves g s t (λ o. None) (λ o. [])

  still_same : t ≡ s → Still
  still_same same = subst (λ u. Moves g s u (λ o. None) (λ o. [])) (sym same) (still_moves g s)

  still_settled : (u : State K T F I) → Rises u → inside u ≡ inside s → ((o : ℕ) → is_of_set s o ≡ is_of_set u o) → t ≡ settle g u → Still
  still_settled u rise same of e = subst (λ v. Moves g s v (λ o. None) (λ o. [])) (sym e) (unmade_moves g s u (λ o. []) rise of (follows_still g (inside s) (inside u) same))

  -- ---- the commands that open and close nothing

  turned_bodies : (m : ℕ) (permanent : Bool) (found : Option (Object F I))
      → option_map (λ x. x.body) (option_map (turned_object m permanent) found) ≡ option_map (λ x. x.body) found
  turned_bodies m permanent None = refl
  turned_bodies m permanent (Some x) =
      elim (x.id == m) as (λ b. ◌≡◌ {A = Option (Body F I)} (Some ((if b then record x { permanent = permanent } else x).body)) (Some x.body)) [ true ↦ refl | false ↦ refl ]

  turn_still : (p handle : ℕ) (permanent : Bool) (answer : Answer) → Turns g s p handle permanent answer t → Still
  turn_still p handle permanent answer h =
      with_handle_holds Still s t p handle answer (λ x. (answer ≡ answers Success) × (t ≡ settle g (turned s x.object permanent))) still_same
      (λ x does.
      still_settled (turned s x.object permanent) (rises_turned g s x.object permanent rises)
      (turned_either (λ u. inside u ≡ inside s) s x.object permanent refl (λ i. record { set = s.set; inner = λ o. option_and_then inner_of (bodies x.object o i) }))
      (λ o. turned_either (λ u. is_of_set s o ≡ is_of_set u o) s x.object permanent refl (sym (ap (λ body. option_map_or is_set_body body false) (bodies x.object o)))) does.1) h
    where
      bodies : (m o : ℕ) → option_map (λ x. x.body) (object_of (with_permanence s m permanent) o) ≡ option_map (λ x. x.body) (object_of s o)
      bodies m o =
          ap (option_map (λ x. x.body)) (find_id-map (turned_object m permanent) (turned_object-id m permanent) (turned_object-is_directory m permanent) o s.objects)
          ∙ turned_bodies m permanent (object_of s o)

  map_still : (p handle : ℕ) (answer : Answer) → SetsMap g s p handle answer t → Still
  map_still p handle answer h =
      with_handle_holds Still s t p handle answer
      (λ x. Unless ((not (is_directory s x.object), ObjectTypeMismatch) ∷ []) s answer t ((answer ≡ answers Success) × (t ≡ settle g (with_map s p x.object)))) still_same
      (λ x. unless_holds Still ((not (is_directory s x.object), ObjectTypeMismatch) ∷ []) s t answer
      ((answer ≡ answers Success) × (t ≡ settle g (with_map s p x.object))) still_same (λ does. still_settled (with_map s p x.object) rises refl (λ o. refl) does.1)) h

  target_still : (p handle : ℕ) (answer : Answer) → WithHandle s p handle answer t (λ x. TellsTarget s x.object answer × (t ≡ s)) → Still
  target_still p handle answer h =
      with_handle_holds Still s t p handle answer (λ x. TellsTarget s x.object answer × (t ≡ s)) still_same (λ x does. still_same does.1) h

  name_still : (p handle : ℕ) (answer : Answer) → WithHandle s p handle answer t (λ x. TellsName s x.object answer × (t ≡ s)) → Still
  name_still p handle answer h =
      with_handle_holds Still s t p handle answer (λ x. TellsName s x.object answer × (t ≡ s)) still_same (λ x does. still_same does.1) h

  page_still : (p handle context room : ℕ) (single restart : Bool) (answer : Answer) → QueriesDirectory g s p handle context room single restart answer t → Still
  page_still p handle context room single restart answer h =
      unless_holds Still (page_refusals (is_live s p) room) s t answer
      (MatchOption (option_and_then (held_of s p) (key_of handle)) (IsRefused s InvalidHandle answer t) Pages) still_same
      (handle_holds Still s t p handle answer Pages still_same
      (λ x. unless_holds Still ((not (is_directory s x.object), ObjectTypeMismatch) ∷ []) s t answer
      ((answer ≡ page_answer (enumerated g s x.object (context_used restart context) room single)) × (t ≡ s)) still_same (λ does. still_same does.1))) h
    where
      Pages : Held → Type 0
      Pages x = TellsPage g s x.object (context_used restart context) room single answer t

  -- ---- a close

  close_step : (p handle : ℕ) (answer : Answer) → Closes g s p handle answer t → Moves g s t (λ o. None) (λ o. calls_of_close s t p handle o)
  close_step p handle answer h = live (is_live s p) h
    where
      Does : Held → Type 0
      Does x = (answer ≡ answers Success) × (t ≡ settle g (closed_handle g s x))

      Told : Option Held → Type 0
      Told x = Moves g s t (λ o. None) (λ o. if is_of_set s o && leads_to x o then Closed (handle_count_in t p o) (handle_count t o) ∷ [] else [])

      unled : t ≡ s → Told None
      unled same = moves_told g s t (λ o. None) (λ o. []) (λ o. if is_of_set s o && false then Closed (handle_count_in t p o) (handle_count t o) ∷ [] else []) (λ o. none (is_of_set s o) o) (still_same same)
        where
          none : (b : Bool) (o : ℕ) → ◌≡◌ {A = List Call} [] (if b && false then Closed (handle_count_in t p o) (handle_count t o) ∷ [] else [])
          none true o = refl
          none false o = refl

      held : (key : ℕ) (x : Option Held) → held_of s p key ≡ x → MatchOption x (IsRefused s InvalidHandle answer t) Does → Told x
      held key None e h = unled h.1
      held key (Some x) e h =
          subst (λ v. Moves g s v (λ o. None) (λ o. if is_of_set s o && (x.object == o) then Closed (handle_count_in v p o) (handle_count v o) ∷ [] else [])) (sym h.1)
          (close_moves g s p key x rises e)

      found : (key : Option ℕ) → MatchOption (option_and_then (held_of s p) key) (IsRefused s InvalidHandle answer t) Does → Told (option_and_then (held_of s p) key)
      found None h = unled h.1
      found (Some key) h = held key (held_of s p key) refl h

      live : (b : Bool)
          → MatchOption (first_refusal ((not b, ProcessGone) ∷ [])) (MatchOption (option_and_then (held_of s p) (key_of handle)) (IsRefused s InvalidHandle answer t) Does) (λ status. IsRefused s status answer t)
          → Moves g s t (λ o. None) (λ o. if b && is_of_set s o && leads_to (option_and_then (held_of s p) (key_of handle)) o then Closed (handle_count_in t p o) (handle_count t o) ∷ [] else [])
      live false h = still_same h.1
      live true h = found (key_of handle) h

  -- ---- a process that ends, and one that begins

  exit_step : (p : ℕ) (answer : Answer) → Exits g s p answer t → Moves g s t (λ o. None) (λ o. if is_live s p && is_of_set s o then closes_at_end s p o else [])
  exit_step p answer h = live (is_live s p) h
    where
      live : (b : Bool)
          → MatchOption (first_refusal ((not b, ProcessGone) ∷ [])) ((answer ≡ answers Success) × (t ≡ settle g (ended g s p))) (λ status. IsRefused s status answer t)
          → Moves g s t (λ o. None) (λ o. if b && is_of_set s o then closes_at_end s p o else [])
      live false h = still_same h.1
      live true h = subst (λ v. Moves g s v (λ o. None) (λ o. if is_of_set s o then closes_at_end s p o else [])) (sym h.1) (ended_moves g p s sound rises)

  child_step : (p : ℕ) (inherit : Bool) (answer : Answer) → MakesChild g s p inherit answer t → Moves g s t (λ o. None) (calls_of_child t s.next_process)
  child_step p inherit answer h =
      unless_holds (Told t) ((not (is_live s p), ProcessGone) ∷ (is_crowded s p inherit, InsufficientResources) ∷ []) s t answer
      (let u = begun g s p inherit in (answer ≡ gives Success (Process s.next_process (values_in u s.next_process))) × (t ≡ settle g u))
      (λ same. subst Told (sym same) (moves_told g s s (λ o. None) (λ o. []) (calls_of_child s s.next_process) (λ o. sym (unborn g s s o sound)) (still_moves g s)))
      (λ does. subst Told (sym does.1) (begun_moves g s p inherit sound rises)) h
    where
      Told : State K T F I → Type 0
      Told v = Moves g s v (λ o. None) (calls_of_child v s.next_process)

  -- ---- a create

  -- of no object of the set
  plain_create : (p : ℕ) (where_to : Place) (attrs : ℕ) (shadow : Option ℕ) (making : Option ℕ → Making K) (answer : Answer)
      → ((d : Option ℕ) → inner_of (body_made g (making d)) ≡ None) → CreatesAt g s p where_to attrs shadow making answer t
      → Moves g s t (λ o. None) (λ o. calls_of_grant (open_reason s o) t p (handle_given answer) o)
  plain_create p where_to attrs shadow making answer none h =
      create_moves g s p sound rises (λ u o. None) (λ body. inner_of body ≡ None) (λ u o e. refl) (λ u o body is e. sym (newly_none g s sound body is o)) t where_to attrs shadow making answer none h

  -- and of one of the set, under the number that it draws
  module _ (where_to : Place) (attrs : ℕ) (kind : K) (args : List ℕ) where
    abbrev drawn_in : State K T F I → ℕ → Option I
    drawn_in u o = if is_drawn s u (CreateObject where_to attrs kind args) o then Some ((g.made kind args).1) else None

    undrawn_in : (u : State K T F I) (o : ℕ) → u.next_id ≡ s.next_id → drawn_in u o ≡ None
    undrawn_in u o same =
        (λ i. if (o == s.next_id) && (ap (nat_lt s.next_id) same ∙ not_below s.next_id) i then Some ((g.made kind args).1) else None)
        ∙ elim (o == s.next_id) as (λ b. ◌≡◌ {A = Option I} (if b && false then Some ((g.made kind args).1) else None) None) [ true ↦ refl | false ↦ refl ]

    newly_drawn : (u : State K T F I) (o : ℕ) (body : Body F I) → inner_of body ≡ Some ((g.made kind args).1) → u.next_id ≡ s.next_id + 1 → drawn_in u o ≡ newly g s sound body o
    newly_drawn u o body is next =
        (λ i. if (o == s.next_id) && (ap (nat_lt s.next_id) next ∙ is_below s.next_id) i then sym is i else None)
        ∙ elim (o == s.next_id) as (λ b. (if b && true then inner_of body else None) ≡ (if b then inner_of body else None)) [ true ↦ refl | false ↦ refl ]

    set_create : (p : ℕ) (answer : Answer) → CreatesAt g s p where_to attrs None (λ shadow. MakesObject kind args) answer t
        → Moves g s t (drawn_in t) (λ o. calls_of_grant (open_reason s o) t p (handle_given answer) o)
    set_create p answer h =
        create_moves g s p sound rises drawn_in (λ body. inner_of body ≡ Some ((g.made kind args).1)) undrawn_in newly_drawn t where_to attrs None (λ shadow. MakesObject kind args) answer (λ d. refl) h

-- ---- what is brought

module _ {K T F I : Type 0} (g : Procedures K T F I) (s : State K T F I) where
  parsed_once : (x : PendingOpen K) (parse : ParseRun) (a b : Option (ParseOutcome F I)) → IsParsed g s x parse a → IsParsed g s x parse b → a ≡ b
  parsed_once x run.Unrun a b h k = h ∙ sym k
  parsed_once x run.NoMemory a b h k = h ∙ sym k
  parsed_once x run.Ran None b h k = absurd h
  parsed_once x run.Ran (Some a) None h k = absurd k
  parsed_once x run.Ran (Some a) (Some b) h k = go (face_of s x.object) h k
    where
      go : (face : Option F) → MatchOption face ⊥ (λ f. ParseEnds g f x.rest a) → MatchOption face ⊥ (λ f. ParseEnds g f x.rest b) → Some a ≡ Some b
      go None h k = absurd h
      go (Some face) h k = ap (λ (outcome : ParseOutcome F I). Some outcome) (parse_unique g h k)

  brought_for : (parse : ParseRun) (found : Option (PendingOpen K)) (a b : Option (ParseOutcome F I)) → MatchOption found ⊥ (λ x. IsParsed g s x parse a) → MatchOption found ⊥ (λ x. IsParsed g s x parse b) → a ≡ b
  brought_for parse None a b h k = absurd h
  brought_for parse (Some x) a b h k = parsed_once x parse a b h k

  -- with each event one thing comes
  brought_once : (event : Event K) (a b : Option (ParseOutcome F I)) → IsBrought g s event a → IsBrought g s event b → a ≡ b
  brought_once (Start p command) a b h k = h ∙ sym k
  brought_once (Resume ticket run.Unrun) a b h k = absurd h
  brought_once (Resume ticket run.Ran) a b h k = brought_for run.Ran (pending_of s ticket) a b h k
  brought_once (Resume ticket run.NoMemory) a b h k = brought_for run.NoMemory (pending_of s ticket) a b h k
  brought_once (Abandon ticket parse) a b h k = brought_for parse (pending_of s ticket) a b h k

-- ---- a step

module _ {K T F I : Type 0} (g : Procedures K T F I) where
  -- the end of the pending open of a ticket
  under_ticket : (s t : State K T F I) (ticket : ℕ) (x : PendingOpen K) (outcome : Option (ParseOutcome F I)) → pending_of s ticket ≡ Some x → (free : All (λ y. y.id ≢ x.ticket) s.objects)
      → (moves : ℕ → List Call) → Moves g s t (parsed g s x.ticket outcome free) moves
      → Follows g (joined (inside s) (λ o. if o == ticket then made_by_parse outcome else None)) (inside t) (λ o. moves o ++ calls_of_end s t (is_made outcome && (o == ticket)) o)
  under_ticket s t ticket x outcome found free moves h =
      subst (λ n. Follows g (joined (inside s) (λ o. if o == n then made_by_parse outcome else None)) (inside t) (λ o. moves o ++ calls_of_end s t (is_made outcome && (o == n)) o))
      (eqb-true x.ticket ticket (found_is (λ y. y.ticket == ticket) s.pending x found))
      (follows_told g (joined (inside s) (parsed g s x.ticket outcome free)) (inside t) (λ o. moves o ++ calls_of_end s t (is_some (parsed g s x.ticket outcome free o)) o)
      (λ o. moves o ++ calls_of_end s t (is_made outcome && (o == x.ticket)) o) (λ o. ap (λ b. moves o ++ calls_of_end s t b o) (parsed_came g s x.ticket outcome free o)) h)

module _ {K T F I : Type 0} (g : Procedures K T F I) where
  -- from the state before, with the inner values of objects that come to be, by the calls that are told
  abbrev pub StepFollows : State K T F I → State K T F I → Event K → Option (ParseOutcome F I) → Answer → Type 0
  StepFollows s t event outcome answer = Follows g (joined (inside s) (made_by_event g s t event outcome)) (inside t) (calls_of_step s event outcome answer t)

  pub step_follows : (s t : State K T F I) (event : Event K) (outcome : Option (ParseOutcome F I)) (answer : Answer)
      → IsSound s → Rises s → IsBrought g s event outcome → Step g s event answer t → StepFollows s t event outcome answer
  step_follows s t (Start p (CreateDirectory where_to attrs)) outcome answer sound rises brought h = plain_create g s t sound rises p where_to attrs None MakesDirectory answer (λ d. refl) h
  step_follows s t (Start p (CreateShadowed where_to attrs shadow)) outcome answer sound rises brought h =
      plain_create g s t sound rises p where_to attrs (Some shadow) MakesDirectory answer (λ d. refl) h
  step_follows s t (Start p (CreateLink where_to attrs target)) outcome answer sound rises brought h = plain_create g s t sound rises p where_to attrs None (λ shadow. MakesLink target) answer (λ d. refl) h
  step_follows s t (Start p (CreateObject where_to attrs kind args)) outcome answer sound rises brought h =
      follows_told g (joined (inside s) made) (inside t) (λ o. calls_of_grant (open_reason s o) t p (handle_given answer) o ++ calls_of_end s t (is_some (made o)) o)
      (calls_of_step s (Start p (CreateObject where_to attrs kind args)) outcome answer t)
      (λ o. ap (λ b. calls_of_grant (open_reason s o) t p (handle_given answer) o ++ calls_of_end s t b o) (came (is_drawn s t (CreateObject where_to attrs kind args) o)))
      (set_create g s t sound rises where_to attrs kind args p answer h)
    where
      made : ℕ → Option I
      made o = if is_drawn s t (CreateObject where_to attrs kind args) o then Some ((g.made kind args).1) else None

      came : (b : Bool) → is_some (if b then Some ((g.made kind args).1) else None) ≡ b
      came true = refl
      came false = refl
  step_follows s t (Start p (OpenDirectory root name attrs)) outcome answer sound rises brought h =
      open_moves g s p sound rises (open_reason s) (there_for_open g s p sound rises) t root name attrs wanted.Directory answer h
  step_follows s t (Start p (OpenLink root name attrs)) outcome answer sound rises brought h =
      open_moves g s p sound rises (open_reason s) (there_for_open g s p sound rises) t root name attrs wanted.Link answer h
  step_follows s t (Start p (OpenObject root name attrs want)) outcome answer sound rises brought h =
      open_moves g s p sound rises (open_reason s) (there_for_open g s p sound rises) t root name attrs (type_wanted want) answer h
  step_follows s t (Start p (Close handle)) outcome answer sound rises brought h = close_step g s t sound rises p handle answer h
  step_follows s t (Start p (QueryLink handle)) outcome answer sound rises brought h = target_still g s t sound rises p handle answer h
  step_follows s t (Start p (QueryName handle)) outcome answer sound rises brought h = name_still g s t sound rises p handle answer h
  step_follows s t (Start p (QueryDirectory handle context room single restart)) outcome answer sound rises brought h = page_still g s t sound rises p handle context room single restart answer h
  step_follows s t (Start p (Duplicate handle to inherit)) outcome answer sound rises brought h = duplicate_moves g s to sound rises (λ o. ForDuplicate) t p handle inherit answer (λ o. refl) h
  step_follows s t (Start p (MakeTemporary handle)) outcome answer sound rises brought h = turn_still g s t sound rises p handle false answer h
  step_follows s t (Start p (MakePermanent handle)) outcome answer sound rises brought h = turn_still g s t sound rises p handle true answer h
  step_follows s t (Start p (SetDeviceMap handle)) outcome answer sound rises brought h = map_still g s t sound rises p handle answer h
  step_follows s t (Start p (NewProcess inherit)) outcome answer sound rises brought h = child_step g s t sound rises p inherit answer h
  step_follows s t (Start p ExitProcess) outcome answer sound rises brought h = exit_step g s t sound rises p answer h
  step_follows s t (Resume ticket parse) outcome answer sound rises brought h =
      subst (λ a. StepFollows s t (Resume ticket parse) a answer) (brought_once g s (Resume ticket parse) h.0 outcome h.1 brought) (go (pending_of s ticket) refl (has_ticket s ticket sound) h.2)
    where
      go : (found : Option (PendingOpen K)) → pending_of s ticket ≡ found → MatchOption found (Unit {0}) (HasTicket s) → MatchOption found ⊥ (λ x. Resumes g s x h.0 answer t)
          → Follows g (joined (inside s) (λ o. if o == ticket then made_by_parse h.0 else None)) (inside t)
          (λ o. option_map_or (λ x. calls_of_grant ForOpen t x.process (handle_given answer) o) found [] ++ calls_of_end s t (is_made h.0 && (o == ticket)) o)
      go None e has does = absurd does
      go (Some x) e has does =
          under_ticket g s t ticket x h.0 e has.0 (λ o. calls_of_grant ForOpen t x.process (handle_given answer) o) (resume_moves g s t x h.0 answer sound rises has does)
  step_follows s t (Abandon ticket parse) outcome answer sound rises brought h =
      subst (λ a. StepFollows s t (Abandon ticket parse) a answer) (brought_once g s (Abandon ticket parse) h.0 outcome h.1 brought) (go (pending_of s ticket) refl (has_ticket s ticket sound) h.2)
    where
      go : (found : Option (PendingOpen K)) → pending_of s ticket ≡ found → MatchOption found (Unit {0}) (HasTicket s) → MatchOption found ⊥ (λ x. Abandons g s x h.0 answer t)
          → Follows g (joined (inside s) (λ o. if o == ticket then made_by_parse h.0 else None)) (inside t) (λ o. calls_of_end s t (is_made h.0 && (o == ticket)) o)
      go None e has does = absurd does
      go (Some x) e has does = under_ticket g s t ticket x h.0 e has.0 (λ o. []) (abandon_moves g s t x h.0 answer sound rises has does)
