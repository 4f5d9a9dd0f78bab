-- The calls of a step on an object, for each command and for each end of a pending open.
use Rattle.std.proofs.Common.{◌≡◌, ◌≢◌, ◌∙◌, ℕ, ◌<◌, ◌==◌, Bool, true, false, cond, not, ◌&&◌, ◌||◌, nat_lt, if◌then◌else◌, List, [], ◌∷◌, ◌++◌, append-nil, filter, map, get_or, Option, None, Some, is_some, MatchOption, refl, ap, sym, subst, arith, eqb-true}
use Rattle.std.specs.Option.{option_and_then, option_map_or}
use Rattle.std.proofs.lemmas.Bool.{false≢true, ne_eqb, and_parts}
use Rattle.std.proofs.lemmas.Bool.Decides.{nat_tests}
use Rattle.std.proofs.lemmas.List.Elements.{All-filter}
use Rattle.ob_base.specs.Handle.{key_of}
use Rattle.ob_base.specs.declared.status.Status.{Status}
use Rattle.ob_base.specs.declared.status.Status.TheVariants.{Success, InvalidHandle, InsufficientResources, ObjectTypeMismatch, ProcessGone}
use Rattle.ob_model.specs.declared.command.Command.{Command}
use Rattle.ob_model.specs.declared.command.Command.TheVariants.{CreateDirectory, CreateShadowed, CreateLink, CreateObject, OpenDirectory, OpenLink, OpenObject, Close, QueryLink, QueryName, QueryDirectory, Duplicate, MakeTemporary, MakePermanent, SetDeviceMap, NewProcess, ExitProcess}
use Rattle.ob_model.specs.declared.command.Place.{Place}
use Rattle.ob_model.specs.declared.reply.Answer.{Answer}
use Rattle.ob_model.specs.declared.reply.Event.{Event}
use Rattle.ob_model.specs.declared.reply.Event.TheVariants.{Start, Resume, Abandon}
use Rattle.ob_model.specs.declared.reply.Given.TheVariants.{Process}
use Rattle.ob_model.specs.declared.state.Held.{Held}
use Rattle.ob_model.specs.declared.state.Object.{Object}
use Rattle.ob_model.specs.declared.state.PendingOpen.{PendingOpen}
use Rattle.ob_model.specs.declared.state.Wanted.TheVariants as wanted
use Rattle.ob_model.specs.State.{State, object_of, is_live, is_directory, held_of, handle_count, handle_count_in}
use Rattle.ob_model.specs.declared.terms.Reason.{Reason}
use Rattle.ob_model.specs.Procedures.{Procedures, ParseOutcome}
use Rattle.ob_model.specs.declared.terms.Reason.TheVariants.{Opened as ForOpen, Duplicated as ForDuplicate, Inherited as ForChild}
use Rattle.ob_model.specs.Settle.{settle}
use Rattle.ob_model.specs.Grants.{first_refusal}
use Rattle.ob_model.specs.Closing.{closed_handle}
use Rattle.ob_model.specs.Permanence.{turned}
use Rattle.ob_model.specs.Maps.{with_map}
use Rattle.ob_model.specs.Refusals.{gives, answers, IsRefused, Unless}
use Rattle.ob_model.specs.PendingOpens.{pending_of}
use Rattle.ob_model.specs.Parses.{parsed_state, Resumes, Abandons}
use Rattle.ob_model.specs.Opens.{type_wanted}
use Rattle.ob_model.specs.Creates.{MakesDirectory, MakesLink, MakesObject}
use Rattle.ob_model.specs.Naming.{TellsName, TellsTarget}
use Rattle.ob_model.specs.Enumeration.{enumerated, context_used, page_answer}
use Rattle.ob_model.specs.Processes.{values_in, is_crowded, begun, ended, MakesChild, Exits}
use Rattle.ob_model.specs.Sound.{IsSound, Stands}
use Rattle.ob_model.specs.Step.{WithHandle, CreatesAt, Closes, Turns, SetsMap, page_refusals, TellsPage, QueriesDirectory, Step}
use Rattle.ob_model.specs.Calls.{Call, Opened, Closed, Deleted, handle_given, leads_to, is_set_create, is_made, is_of_set, handles_to, open_reason, calls_of_grant, calls_of_child, calls_of_close, closes_at_end, is_drawn, calls_of_end, calls_of_step}
use Rattle.ob_model.specs.Lifetimes.{maker_of}
use Rattle.ob_model.proofs.Finds.{filter_none}
use Rattle.ob_model.proofs.Ended.{live_numbered}
use Rattle.ob_model.proofs.PendingSound.{HasTicket, has_ticket}
use Rattle.ob_model.proofs.SoundPaths.{find_of}
use Rattle.ob_model.proofs.Soundness.{stands_drawn}
use Rattle.ob_laws.proofs.CallCounts.{has_delete, Tells, Leaves, tells-append, leaves-deleted}
use Rattle.ob_laws.proofs.LifeOf.{set_count, IsTaken, IsGone, StepTells}
use Rattle.ob_laws.proofs.SetCounts.{is_set_found, count-settle, count-turned, count-parsed, granted_leaves, granted_undeleted, none_numbered}
use Rattle.ob_laws.proofs.ClosedHandles.{closed_tells, ended_tells, ended_leaves, ended_undeleted}
use Rattle.ob_laws.proofs.InheritedHandles.{begun_tells, begun_leaves, begun_undeleted}
use Rattle.ob_laws.proofs.TakenNumbers.{GoesOn, goes_on_gone, goes_further, started_on, parsed_on, resumed_on, abandoned_on, ticket_is_taken, found_is}
use Rattle.ob_laws.proofs.GrantCalls.{create_tells, open_tells, duplicate_tells, resume_tells, create_unawaited}

module _ {K T F I : Type 0} (s t : State K T F I) (o left : ℕ) (sound : IsSound s) (on : GoesOn o s t) where
  -- the number of an object that stands is taken
  pub standing_is_taken : Stands s o → IsTaken s o
  standing_is_taken stands = record {
    drawn = stands_drawn s.next_id s.objects o sound.objects.drawn stands;
    unawaited = λ k d within same.
        let none = none_numbered (get_or s.pending k d).ticket s.objects (sound.pending.reserved k d within) in
        false≢true (sym (ap is_some (subst (λ n. object_of s n ≡ None) same none)) ∙ stands);
  }

  pub stands_of_set : is_of_set s o ≡ true → Stands s o
  stands_of_set e = go (object_of s o) e
    where
      go : (found : Option (Object F I)) → is_set_found found ≡ true → is_some found ≡ true
      go None e = cc
      go (Some x) e = refl

  nothing_there : object_of t o ≡ None → set_count t o ≡ 0
  nothing_there e = ap (λ found. cond (is_set_found found) (handle_count t o) 0) e

  -- a step's opens and closes, and its delete
  module _ (moves : List Call) (came : Bool) (tells : Tells (set_count s o) moves (set_count t o)) (leaves : Leaves left moves) (undeleted : has_delete moves ≡ false)
      (comes : came ≡ true → IsTaken t o) (none : IsGone s o → (moves ≡ []) × (came ≡ false)) where
    taken_then : (is_of_set s o || came) ≡ true → IsTaken t o
    taken_then e = go (is_of_set s o) came refl refl e
      where
        go : (a b : Bool) → is_of_set s o ≡ a → came ≡ b → (a || b) ≡ true → IsTaken t o
        go true b there is e = on.taken (standing_is_taken (stands_of_set there))
        go false true there is e = comes is
        go false false there is e = cc

    absent_then : not (is_some (object_of t o)) ≡ true → object_of t o ≡ None
    absent_then e = go (object_of t o) e
      where
        go : (found : Option (Object F I)) → not (is_some found) ≡ true → found ≡ None
        go None e = refl
        go (Some x) e = cc

    pub step_of_moves : StepTells s t o left (moves ++ calls_of_end s t came o)
    step_of_moves = go ((is_of_set s o || came) && not (is_some (object_of t o))) refl
      where
        gone_then : ((is_of_set s o || came) && not (is_some (object_of t o))) ≡ true → IsGone t o
        gone_then e =
            let parts = and_parts (is_of_set s o || came) (not (is_some (object_of t o))) e in
            record { absent = absent_then parts.1; taken = taken_then parts.0 }

        unset : IsGone s o → ((is_of_set s o || came) && not (is_some (object_of t o))) ≡ false
        unset gone = λ i. (is_set_found (gone.absent i) || (none gone).1 i) && not (is_some (object_of t o))

        go : (b : Bool) → ((is_of_set s o || came) && not (is_some (object_of t o))) ≡ b → StepTells s t o left (moves ++ (if b then Deleted ∷ [] else []))
        go true e =
            let zero : set_count t o ≡ 0 = nothing_there (gone_then e).absent in
            record {
              tells = tells-append (set_count s o) (set_count t o) (set_count t o) moves (Deleted ∷ []) undeleted tells (zero, refl, zero);
              leaves = leaves-deleted left moves leaves;
              gone = λ h. gone_then e;
              stays_gone = λ gone. absurd (false≢true (sym (unset gone) ∙ e));
            }
        go false e = record {
          tells = subst (λ calls. Tells (set_count s o) calls (set_count t o)) (sym (append-nil moves)) tells;
          leaves = subst (Leaves left) (sym (append-nil moves)) leaves;
          gone = λ h. absurd (false≢true (sym (ap has_delete (append-nil moves) ∙ undeleted) ∙ h));
          stays_gone = λ gone. (append-nil moves ∙ (none gone).0, goes_on_gone o s t on gone);
        }

-- two tests, and three, of which one fails
last_fails : (a b : Bool) → b ≡ false → (a && b) ≡ false
last_fails true b e = e
last_fails false b e = refl

middle_fails : (a b c : Bool) → b ≡ false → ((a && b) && c) ≡ false
middle_fails true b c e = ap (λ x. x && c) e
middle_fails false b c e = refl

less_from_test : (m n : ℕ) → nat_lt m n ≡ true → m < n
less_from_test m n e = grind (arith, nat_tests)

module _ {K T F I : Type 0} where
  -- no number is drawn for what is gone
  undrawn_of_gone : (s t : State K T F I) (command : Command K) (o : ℕ) → IsGone s o → is_drawn s t command o ≡ false
  undrawn_of_gone s t command o gone =
      middle_fails (is_set_create command) (o == s.next_id) (nat_lt s.next_id t.next_id)
      (let less : o < s.next_id = gone.taken.drawn in ne_eqb o s.next_id (λ same. omega (arith, less, same)))

  -- a step that opens at most one handle
  grant_step : (s t : State K T F I) (o left p : ℕ) (reason : Reason) (answer : Answer) (came : Bool) → IsSound s → GoesOn o s t
      → Tells (set_count s o) (calls_of_grant reason t p (handle_given answer) o) (set_count t o) → (came ≡ true → IsTaken t o) → (IsGone s o → came ≡ false)
      → StepTells s t o left (calls_of_grant reason t p (handle_given answer) o ++ calls_of_end s t came o)
  grant_step s t o left p reason answer came sound on tells comes none =
      step_of_moves s t o left sound on (calls_of_grant reason t p (handle_given answer) o) came tells (granted_leaves reason t p (handle_given answer) o left) (granted_undeleted reason t p (handle_given answer) o) comes
      (λ gone. (
        ap (λ found. if is_set_found found && leads_to (option_and_then (held_of t p) (handle_given answer)) o then Opened reason ∷ [] else []) (goes_on_gone o s t on gone).absent,
        none gone,
      ))

  -- a step that opens and closes nothing
  still_step : (s t : State K T F I) (o left : ℕ) (came : Bool) → IsSound s → GoesOn o s t → set_count s o ≡ set_count t o → (came ≡ true → IsTaken t o) → (IsGone s o → came ≡ false)
      → StepTells s t o left (calls_of_end s t came o)
  still_step s t o left came sound on same comes none = step_of_moves s t o left sound on [] came same tt refl comes (λ gone. (refl, none gone))

  -- what holds of a step that is refused, or else of what it does
  pub unless_holds : (Q : Type 0) (refusals : List (Bool × Status)) (s t : State K T F I) (answer : Answer) (Does : Type 0) → (t ≡ s → Q) → (Does → Q) → Unless refusals s answer t Does → Q
  unless_holds Q refusals s t answer Does same does h = go (first_refusal refusals) h
    where
      go : (refusal : Option Status) → MatchOption refusal Does (λ status. IsRefused s status answer t) → Q
      go None h = does h
      go (Some status) h = same h.1

  pub handle_holds : (Q : Type 0) (s t : State K T F I) (p handle : ℕ) (answer : Answer) (Does : Held → Type 0) → (t ≡ s → Q) → ((h : Held) → Does h → Q)
      → MatchOption (option_and_then (held_of s p) (key_of handle)) (IsRefused s InvalidHandle answer t) Does → Q
  handle_holds Q s t p handle answer Does same does h = go (option_and_then (held_of s p) (key_of handle)) h
    where
      go : (o : Option Held) → MatchOption o (IsRefused s InvalidHandle answer t) Does → Q
      go None h = same h.1
      go (Some x) h = does x h

  pub with_handle_holds : (Q : Type 0) (s t : State K T F I) (p handle : ℕ) (answer : Answer) (Does : Held → Type 0) → (t ≡ s → Q) → ((h : Held) → Does h → Q) → WithHandle s p handle answer t Does → Q
  with_handle_holds Q s t p handle answer Does same does h =
      unless_holds Q ((not (is_live s p), ProcessGone) ∷ []) s t answer (MatchOption (option_and_then (held_of s p) (key_of handle)) (IsRefused s InvalidHandle answer t) Does) same
      (handle_holds Q s t p handle answer Does same does) h

  counts_same : (s t : State K T F I) (o : ℕ) → t ≡ s → set_count s o ≡ set_count t o
  counts_same s t o same = ap (λ u. set_count u o) (sym same)

module _ {K T F I : Type 0} (g : Procedures K T F I) (s t : State K T F I) (o : ℕ) (sound : IsSound s) where
  -- what settles leaves as many handles to an object of the set
  counts_settled : (u : State K T F I) → set_count u o ≡ set_count s o → t ≡ settle g u → set_count s o ≡ set_count t o
  counts_settled u same e = sym (ap (λ v. set_count v o) e ∙ count-settle g u o ∙ same)

  -- ---- the commands that open and close nothing

  turn_counts : (p handle : ℕ) (permanent : Bool) (answer : Answer) → Turns g s p handle permanent answer t → set_count s o ≡ set_count t o
  turn_counts p handle permanent answer h =
      with_handle_holds (set_count s o ≡ set_count t o) s t p handle answer (λ x. (answer ≡ answers Success) × (t ≡ settle g (turned s x.object permanent))) (counts_same s t o)
      (λ x does. counts_settled (turned s x.object permanent) (count-turned s x.object o permanent) does.1) h

  map_counts : (p handle : ℕ) (answer : Answer) → SetsMap g s p handle answer t → set_count s o ≡ set_count t o
  map_counts p handle answer h =
      with_handle_holds (set_count s o ≡ set_count t o) s t p handle answer
      (λ x. Unless ((not (is_directory s x.object), ObjectTypeMismatch) ∷ []) s answer t ((answer ≡ answers Success) × (t ≡ settle g (with_map s p x.object)))) (counts_same s t o)
      (λ x. unless_holds (set_count s o ≡ set_count t o) ((not (is_directory s x.object), ObjectTypeMismatch) ∷ []) s t answer
      ((answer ≡ answers Success) × (t ≡ settle g (with_map s p x.object))) (counts_same s t o) (λ does. counts_settled (with_map s p x.object) refl does.1)) h

  target_counts : (p handle : ℕ) (answer : Answer) → WithHandle s p handle answer t (λ x. TellsTarget s x.object answer × (t ≡ s)) → set_count s o ≡ set_count t o
  target_counts p handle answer h =
      with_handle_holds (set_count s o ≡ set_count t o) s t p handle answer (λ x. TellsTarget s x.object answer × (t ≡ s)) (counts_same s t o) (λ x does. counts_same s t o does.1) h

  name_counts : (p handle : ℕ) (answer : Answer) → WithHandle s p handle answer t (λ x. TellsName s x.object answer × (t ≡ s)) → set_count s o ≡ set_count t o
  name_counts p handle answer h =
      with_handle_holds (set_count s o ≡ set_count t o) s t p handle answer (λ x. TellsName s x.object answer × (t ≡ s)) (counts_same s t o) (λ x does. counts_same s t o does.1) h

  page_counts : (p handle context room : ℕ) (single restart : Bool) (answer : Answer) → QueriesDirectory g s p handle context room single restart answer t → set_count s o ≡ set_count t o
  page_counts p handle context room single restart answer h =
      unless_holds (set_count s o ≡ set_count t o) (page_refusals (is_live s p) room) s t answer
      (MatchOption (option_and_then (held_of s p) (key_of handle)) (IsRefused s InvalidHandle answer t) Pages) (counts_same s t o)
      (handle_holds (set_count s o ≡ set_count t o) s t p handle answer Pages (counts_same s t o)
      (λ x. unless_holds (set_count s o ≡ set_count t o) ((not (is_directory s x.object), ObjectTypeMismatch) ∷ []) s t answer
      ((answer ≡ page_answer (enumerated g s x.object (context_used restart context) room single)) × (t ≡ s)) (counts_same s t o) (λ does. counts_same s t o does.1))) h
    where
      Pages : Held → Type 0
      Pages x = TellsPage g s x.object (context_used restart context) room single answer t

  -- ---- a close

  close_tells : (p handle : ℕ) (answer : Answer) → Closes g s p handle answer t → Tells (set_count s o) (calls_of_close s t p handle o) (set_count t o)
  close_tells p handle answer h = live (is_live s p) h
    where
      Does : Held → Type 0
      Does x = (answer ≡ answers Success) × (t ≡ settle g (closed_handle g s x))

      Told : Option Held → Type 0
      Told x = Tells (set_count s o) (if is_of_set s o && leads_to x o then Closed (handle_count_in t p o) (handle_count t o) ∷ [] else []) (set_count t o)

      unled : t ≡ s → Told None
      unled same = go (is_of_set s o)
        where
          go : (b : Bool) → Tells (set_count s o) (if b && false then Closed (handle_count_in t p o) (handle_count t o) ∷ [] else []) (set_count t o)
          go true = counts_same s t o same
          go false = counts_same s t o same

      held : (key : ℕ) (x : Option Held) → held_of s p key ≡ x → MatchOption x (IsRefused s InvalidHandle answer t) Does → Told x
      held key None e h = unled h.1
      held key (Some x) e h =
          subst (λ v. Tells (set_count s o) (if is_of_set s o && (x.object == o) then Closed (handle_count_in v p o) (handle_count v o) ∷ [] else []) (set_count v o)) (sym h.1)
          (closed_tells g s p key x o sound e)

      found : (key : Option ℕ) → MatchOption (option_and_then (held_of s p) key) (IsRefused s InvalidHandle answer t) Does → Told (option_and_then (held_of s p) key)
      found None h = unled h.1
      found (Some key) h = held key (held_of s p key) refl h

      live : (b : Bool)
          → MatchOption (first_refusal ((not b, ProcessGone) ∷ [])) (MatchOption (option_and_then (held_of s p) (key_of handle)) (IsRefused s InvalidHandle answer t) Does) (λ status. IsRefused s status answer t)
          → Tells (set_count s o) (if b && is_of_set s o && leads_to (option_and_then (held_of s p) (key_of handle)) o then Closed (handle_count_in t p o) (handle_count t o) ∷ [] else []) (set_count t o)
      live false h = counts_same s t o h.1
      live true h = found (key_of handle) h

  one_close_leaves : (p : ℕ) (b : Bool) → Leaves (handle_count_in t p o) (if b then Closed (handle_count_in t p o) (handle_count t o) ∷ [] else [])
  one_close_leaves p true = (omega arith, tt)
  one_close_leaves p false = tt

  one_close_undeleted : (p : ℕ) (b : Bool) → has_delete (if b then Closed (handle_count_in t p o) (handle_count t o) ∷ [] else []) ≡ false
  one_close_undeleted p true = refl
  one_close_undeleted p false = refl

  -- nothing that is gone is closed
  unclosed : (p handle : ℕ) → IsGone s o → calls_of_close s t p handle o ≡ []
  unclosed p handle gone =
      ap (λ b. if b then Closed (handle_count_in t p o) (handle_count t o) ∷ [] else [])
      (middle_fails (is_live s p) (is_of_set s o) (leads_to (option_and_then (held_of s p) (key_of handle)) o) (ap is_set_found gone.absent))

  -- ---- a process that ends, and one that begins

  exit_tells : (p : ℕ) (answer : Answer) → Exits g s p answer t → Tells (set_count s o) (if is_live s p && is_of_set s o then closes_at_end s p o else []) (set_count t o)
  exit_tells p answer h = live (is_live s p) h
    where
      live : (b : Bool)
          → MatchOption (first_refusal ((not b, ProcessGone) ∷ [])) ((answer ≡ answers Success) × (t ≡ settle g (ended g s p))) (λ status. IsRefused s status answer t)
          → Tells (set_count s o) (if b && is_of_set s o then closes_at_end s p o else []) (set_count t o)
      live false h = counts_same s t o h.1
      live true h = subst (λ v. Tells (set_count s o) (if is_of_set s o then closes_at_end s p o else []) (set_count v o)) (sym h.1) (ended_tells g s p o)

  exit_leaves : (p : ℕ) (answer : Answer) → Exits g s p answer t → Leaves (handle_count_in t p o) (if is_live s p && is_of_set s o then closes_at_end s p o else [])
  exit_leaves p answer h = live (is_live s p) h
    where
      live : (b : Bool)
          → MatchOption (first_refusal ((not b, ProcessGone) ∷ [])) ((answer ≡ answers Success) × (t ≡ settle g (ended g s p))) (λ status. IsRefused s status answer t)
          → Leaves (handle_count_in t p o) (if b && is_of_set s o then closes_at_end s p o else [])
      live false h = tt
      live true h = subst (λ v. Leaves (handle_count_in v p o) (if is_of_set s o then closes_at_end s p o else [])) (sym h.1) (ended_leaves g s p o)

  unended : (p : ℕ) → IsGone s o → (if is_live s p && is_of_set s o then closes_at_end s p o else []) ≡ []
  unended p gone = ap (λ b. if b then closes_at_end s p o else []) (last_fails (is_live s p) (is_of_set s o) (ap is_set_found gone.absent))

  -- nobody has a handle under the next number
  pub unborn : calls_of_child s s.next_process o ≡ []
  unborn = go (is_of_set s o)
    where
      none : filter (λ h. h.process == s.next_process) (handles_to s o) ≡ []
      none =
          filter_none (λ h. h.process == s.next_process) (handles_to s o)
          (All-filter (λ h. h.object == o) (λ h. (h.process == s.next_process) ≡ false) s.handles
          (λ k d within.
          let less = live_numbered s.processes s.next_process (get_or s.handles k d).process sound.processes.numbered (sound.handles.live k d within) in
          ne_eqb (get_or s.handles k d).process s.next_process (λ same. omega (arith, less, same))))

      go : (b : Bool) → (if b then map (λ _. Opened ForChild) (filter (λ h. h.process == s.next_process) (handles_to s o)) else []) ≡ []
      go true = ap (map (λ _. Opened ForChild)) none
      go false = refl

  child_tells : (p : ℕ) (inherit : Bool) (answer : Answer) → MakesChild g s p inherit answer t → Tells (set_count s o) (calls_of_child t s.next_process o) (set_count t o)
  child_tells p inherit answer h =
      unless_holds (Told t) ((not (is_live s p), ProcessGone) ∷ (is_crowded s p inherit, InsufficientResources) ∷ []) s t answer
      (let u = begun g s p inherit in (answer ≡ gives Success (Process s.next_process (values_in u s.next_process))) × (t ≡ settle g u))
      (λ same. subst Told (sym same) (subst (λ calls. Tells (set_count s o) calls (set_count s o)) (sym unborn) refl))
      (λ does. subst Told (sym does.1) (begun_tells g s p inherit o sound)) h
    where
      Told : State K T F I → Type 0
      Told v = Tells (set_count s o) (calls_of_child v s.next_process o) (set_count v o)

  uninherited : (child : ℕ) → IsGone t o → calls_of_child t child o ≡ []
  uninherited child gone = ap (λ found. if is_set_found found then map (λ _. Opened ForChild) (filter (λ h. h.process == child) (handles_to t o)) else []) gone.absent

  -- ---- a create

  pub drawn_is_taken : (p : ℕ) (where_to : Place) (attrs : ℕ) (kind : K) (args : List ℕ) (answer : Answer) → CreatesAt g s p where_to attrs None (λ shadow. MakesObject kind args) answer t
      → is_drawn s t (CreateObject where_to attrs kind args) o ≡ true → IsTaken t o
  drawn_is_taken p where_to attrs kind args answer h e =
      let parts = and_parts (o == s.next_id) (nat_lt s.next_id t.next_id) e in
      let same : o ≡ s.next_id = eqb-true o s.next_id parts.0 in
      let less : s.next_id < t.next_id = less_from_test s.next_id t.next_id parts.1 in
      subst (IsTaken t) (sym same) (record { drawn = less; unawaited = create_unawaited g s t p where_to attrs None (λ shadow. MakesObject kind args) answer sound h })

  -- ---- the end of a pending open

  module _ (ticket : ℕ) (x : PendingOpen K) (outcome : Option (ParseOutcome F I)) (found : pending_of s ticket ≡ Some x) (has : HasTicket s x)
      (then_on : GoesOn o (parsed_state s x.ticket outcome) t) where
    of_ticket : x.ticket ≡ ticket
    of_ticket = eqb-true x.ticket ticket (found_is (λ y. y.ticket == ticket) s.pending x found)

    other_ticket : IsTaken s o → x.ticket ≢ o
    other_ticket taken = subst (λ f. MatchOption f (Unit {0}) (λ y. y.ticket ≢ o)) found (find_of (λ y. y.ticket ≢ o) (λ y. y.ticket == ticket) s.pending taken.unawaited)

    pub pending_on : GoesOn o s t
    pending_on = goes_further o s (parsed_state s x.ticket outcome) t (parsed_on g o s x.ticket outcome other_ticket) then_on

    pub made_is_taken : (made : Bool) → (made && (o == ticket)) ≡ true → IsTaken t o
    made_is_taken made e =
        let same : o ≡ x.ticket = eqb-true o ticket (and_parts made (o == ticket) e).1 ∙ sym of_ticket in
        then_on.taken (subst (λ n. IsTaken (parsed_state s n outcome) o) same (ticket_is_taken g o s outcome (subst (λ n. n < s.next_id) (sym same) has.1)))

    unmade : (made : Bool) → IsGone s o → (made && (o == ticket)) ≡ false
    unmade made gone = last_fails made (o == ticket) (ne_eqb o ticket (λ same. other_ticket gone.taken (of_ticket ∙ sym same)))

module _ {K T F I : Type 0} (g : Procedures K T F I) where
  -- a start that draws no number for an object of the set
  undrawn_grant : (s t : State K T F I) (p : ℕ) (command : Command K) (answer : Answer) (o left q : ℕ) (reason : Reason) → IsSound s → Step g s (Start p command) answer t
      → Tells (set_count s o) (calls_of_grant reason t q (handle_given answer) o) (set_count t o) → StepTells s t o left (calls_of_grant reason t q (handle_given answer) o ++ calls_of_end s t false o)
  undrawn_grant s t p command answer o left q reason sound step tells =
      grant_step s t o left q reason answer false sound (started_on g o s t p command answer step) tells (λ e. absurd (false≢true e)) (λ gone. refl)

  undrawn_still : (s t : State K T F I) (p : ℕ) (command : Command K) (answer : Answer) (o left : ℕ) → IsSound s → Step g s (Start p command) answer t
      → set_count s o ≡ set_count t o → StepTells s t o left (calls_of_end s t false o)
  undrawn_still s t p command answer o left sound step same =
      still_step s t o left false sound (started_on g o s t p command answer step) same (λ e. absurd (false≢true e)) (λ gone. refl)

  -- a step
  pub step_tells : (s t : State K T F I) (event : Event K) (outcome : Option (ParseOutcome F I)) (answer : Answer) (o : ℕ)
      → IsSound s → Step g s event answer t → StepTells s t o (handle_count_in t (maker_of s event) o) (calls_of_step s event outcome answer t o)
  step_tells s t (Start p (CreateDirectory where_to attrs)) outcome answer o sound h =
      undrawn_grant s t p (CreateDirectory where_to attrs) answer o (handle_count_in t p o) p (open_reason s o) sound h (create_tells g s p o (open_reason s o) sound t where_to attrs None MakesDirectory answer h)
  step_tells s t (Start p (CreateShadowed where_to attrs shadow)) outcome answer o sound h =
      undrawn_grant s t p (CreateShadowed where_to attrs shadow) answer o (handle_count_in t p o) p (open_reason s o) sound h
      (create_tells g s p o (open_reason s o) sound t where_to attrs (Some shadow) MakesDirectory answer h)
  step_tells s t (Start p (CreateLink where_to attrs target)) outcome answer o sound h =
      undrawn_grant s t p (CreateLink where_to attrs target) answer o (handle_count_in t p o) p (open_reason s o) sound h (create_tells g s p o (open_reason s o) sound t where_to attrs None (λ shadow. MakesLink target) answer h)
  step_tells s t (Start p (CreateObject where_to attrs kind args)) outcome answer o sound h =
      grant_step s t o (handle_count_in t p o) p (open_reason s o) answer (is_drawn s t (CreateObject where_to attrs kind args) o) sound
      (started_on g o s t p (CreateObject where_to attrs kind args) answer h) (create_tells g s p o (open_reason s o) sound t where_to attrs None (λ shadow. MakesObject kind args) answer h)
      (drawn_is_taken g s t o sound p where_to attrs kind args answer h) (undrawn_of_gone s t (CreateObject where_to attrs kind args) o)
  step_tells s t (Start p (OpenDirectory root name attrs)) outcome answer o sound h =
      undrawn_grant s t p (OpenDirectory root name attrs) answer o (handle_count_in t p o) p (open_reason s o) sound h (open_tells g s p o (open_reason s o) sound t root name attrs wanted.Directory answer h)
  step_tells s t (Start p (OpenLink root name attrs)) outcome answer o sound h =
      undrawn_grant s t p (OpenLink root name attrs) answer o (handle_count_in t p o) p (open_reason s o) sound h (open_tells g s p o (open_reason s o) sound t root name attrs wanted.Link answer h)
  step_tells s t (Start p (OpenObject root name attrs want)) outcome answer o sound h =
      undrawn_grant s t p (OpenObject root name attrs want) answer o (handle_count_in t p o) p (open_reason s o) sound h (open_tells g s p o (open_reason s o) sound t root name attrs (type_wanted want) answer h)
  step_tells s t (Start p (Close handle)) outcome answer o sound h =
      step_of_moves s t o (handle_count_in t p o) sound (started_on g o s t p (Close handle) answer h) (calls_of_close s t p handle o) false (close_tells g s t o sound p handle answer h)
      (one_close_leaves g s t o sound p (is_live s p && is_of_set s o && leads_to (option_and_then (held_of s p) (key_of handle)) o))
      (one_close_undeleted g s t o sound p (is_live s p && is_of_set s o && leads_to (option_and_then (held_of s p) (key_of handle)) o)) (λ e. absurd (false≢true e))
      (λ gone. (unclosed g s t o sound p handle gone, refl))
  step_tells s t (Start p (QueryLink handle)) outcome answer o sound h = undrawn_still s t p (QueryLink handle) answer o (handle_count_in t p o) sound h (target_counts g s t o sound p handle answer h)
  step_tells s t (Start p (QueryName handle)) outcome answer o sound h = undrawn_still s t p (QueryName handle) answer o (handle_count_in t p o) sound h (name_counts g s t o sound p handle answer h)
  step_tells s t (Start p (QueryDirectory handle context room single restart)) outcome answer o sound h =
      undrawn_still s t p (QueryDirectory handle context room single restart) answer o (handle_count_in t p o) sound h (page_counts g s t o sound p handle context room single restart answer h)
  step_tells s t (Start p (Duplicate handle to inherit)) outcome answer o sound h =
      undrawn_grant s t p (Duplicate handle to inherit) answer o (handle_count_in t p o) to ForDuplicate sound h (duplicate_tells g s to o ForDuplicate sound t p handle inherit answer h)
  step_tells s t (Start p (MakeTemporary handle)) outcome answer o sound h = undrawn_still s t p (MakeTemporary handle) answer o (handle_count_in t p o) sound h (turn_counts g s t o sound p handle false answer h)
  step_tells s t (Start p (MakePermanent handle)) outcome answer o sound h = undrawn_still s t p (MakePermanent handle) answer o (handle_count_in t p o) sound h (turn_counts g s t o sound p handle true answer h)
  step_tells s t (Start p (SetDeviceMap handle)) outcome answer o sound h = undrawn_still s t p (SetDeviceMap handle) answer o (handle_count_in t p o) sound h (map_counts g s t o sound p handle answer h)
  step_tells s t (Start p (NewProcess inherit)) outcome answer o sound h =
      let on = started_on g o s t p (NewProcess inherit) answer h in
      step_of_moves s t o (handle_count_in t p o) sound on (calls_of_child t s.next_process o) false (child_tells g s t o sound p inherit answer h) (begun_leaves g t s.next_process o (handle_count_in t p o))
      (begun_undeleted g t s.next_process o) (λ e. absurd (false≢true e)) (λ gone. (uninherited g s t o sound s.next_process (goes_on_gone o s t on gone), refl))
  step_tells s t (Start p ExitProcess) outcome answer o sound h =
      step_of_moves s t o (handle_count_in t p o) sound (started_on g o s t p ExitProcess answer h) (if is_live s p && is_of_set s o then closes_at_end s p o else []) false
      (exit_tells g s t o sound p answer h) (exit_leaves g s t o sound p answer h) (ended_undeleted g s p o (is_live s p && is_of_set s o)) (λ e. absurd (false≢true e))
      (λ gone. (unended g s t o sound p gone, refl))
  step_tells s t (Resume ticket parse) outcome answer o sound h = go (handle_count_in t (maker_of s (Resume ticket parse)) o) (pending_of s ticket) refl (has_ticket s ticket sound) h.2
    where
      go : (left : ℕ) (found : Option (PendingOpen K)) → pending_of s ticket ≡ found → MatchOption found (Unit {0}) (HasTicket s) → MatchOption found ⊥ (λ x. Resumes g s x h.0 answer t)
          → StepTells s t o left (option_map_or (λ x. calls_of_grant ForOpen t x.process (handle_given answer) o) found [] ++ calls_of_end s t (is_made outcome && (o == ticket)) o)
      go left None e has does = absurd does
      go left (Some x) e has does =
          let then_on = resumed_on g o s t x h.0 answer does in
          grant_step s t o left x.process ForOpen answer (is_made outcome && (o == ticket)) sound (pending_on g s t o sound ticket x h.0 e has then_on)
          (resume_tells g s t x h.0 answer o ForOpen sound has does) (made_is_taken g s t o sound ticket x h.0 e has then_on (is_made outcome)) (unmade g s t o sound ticket x h.0 e has then_on (is_made outcome))
  step_tells s t (Abandon ticket parse) outcome answer o sound h = go (handle_count_in t (maker_of s (Abandon ticket parse)) o) (pending_of s ticket) refl (has_ticket s ticket sound) h.2
    where
      go : (left : ℕ) (found : Option (PendingOpen K)) → pending_of s ticket ≡ found → MatchOption found (Unit {0}) (HasTicket s) → MatchOption found ⊥ (λ x. Abandons g s x h.0 answer t)
          → StepTells s t o left (calls_of_end s t (is_made outcome && (o == ticket)) o)
      go left None e has does = absurd does
      go left (Some x) e has does =
          let then_on = abandoned_on g o s t x h.0 answer does in
          still_step s t o left (is_made outcome && (o == ticket)) sound (pending_on g s t o sound ticket x h.0 e has then_on)
          (counts_settled g s t o sound (parsed_state s x.ticket h.0) (count-parsed s x.ticket h.0 o sound has.0) does.1)
          (made_is_taken g s t o sound ticket x h.0 e has then_on (is_made outcome)) (unmade g s t o sound ticket x h.0 e has then_on (is_made outcome))
