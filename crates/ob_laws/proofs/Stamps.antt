-- In every state of a run the stamps of the rows are above 0: the opening state's begin at 1, and each new row has
-- the next one.
use Rattle.std.proofs.Common.{ℕ, ◌<◌, ◌+◌, true, not, List, [], ◌∷◌, All, Option, None, Some, MatchOption, sym, subst, arith}
use Rattle.std.specs.Option.{option_map_or}
use Rattle.std.proofs.lemmas.List.Elements.{All-nil, All-from_recursion, All-append, All-push, All-filter}
use Rattle.ob_base.specs.declared.status.Status.TheVariants.{ProcessGone}
use Rattle.ob_model.specs.declared.reply.Answer.{Answer}
use Rattle.ob_model.specs.declared.reply.Event.{Event}
use Rattle.ob_model.specs.declared.reply.Event.TheVariants.{Start, Resume, Abandon}
use Rattle.ob_model.specs.declared.state.Body.{Body}
use Rattle.ob_model.specs.declared.state.Held.{Held}
use Rattle.ob_model.specs.declared.state.PendingOpen.{PendingOpen}
use Rattle.ob_model.specs.State.{State, is_live}
use Rattle.ob_model.specs.Opening.{opening}
use Rattle.ob_model.specs.declared.terms.Reason.TheVariants.{Inherited}
use Rattle.ob_model.specs.Procedures.{Procedures, ParseOutcome, EndsItself, EndsMade, EndsReparse, EndsRefused}
use Rattle.ob_model.specs.Settle.{is_kept, settle}
use Rattle.ob_model.specs.Grants.{open_refusal, with_open, with_handle}
use Rattle.ob_model.specs.Closing.{closed_handle}
use Rattle.ob_model.specs.Permanence.{turned}
use Rattle.ob_model.specs.Maps.{with_map}
use Rattle.ob_model.specs.Creates.{Spot, new_rows, created}
use Rattle.ob_model.specs.Processes.{handles_in, inherited_from, with_child, inherits_one, inherits, begun, closed_in_turn, ended}
use Rattle.ob_model.specs.PendingOpens.{pending_of, with_pending}
use Rattle.ob_model.specs.Parses.{parsed_state, Resumes, Abandons}
use Rattle.ob_model.specs.Calls.{Passed, Passes, left_by}
use Rattle.ob_model.specs.Step.{Step}
use Rattle.ob_model.proofs.Leads.{Came, started, judged, came_leads}
use Rattle.ob_model.proofs.Turned.{turned_either}

module _ {K T F I : Type 0} where
  -- the next stamp is above 0, and so is that of each row
  abbrev pub HasStamps : State K T F I → Type 0
  HasStamps s = (0 < s.next_stamp) × All (λ r. 0 < r.stamp) s.rows

  parsed_stamps : (s : State K T F I) (ticket : ℕ) (outcome : Option (ParseOutcome F I)) → HasStamps s → HasStamps (parsed_state s ticket outcome)
  parsed_stamps s ticket None h = h
  parsed_stamps s ticket (Some EndsItself) h = h
  parsed_stamps s ticket (Some (EndsMade face inner)) h = h
  parsed_stamps s ticket (Some (EndsReparse text)) h = h
  parsed_stamps s ticket (Some (EndsRefused k)) h = h

module _ {K T F I : Type 0} (g : Procedures K T F I) where
  settled_stamps : (s : State K T F I) → HasStamps s → HasStamps (settle g s)
  settled_stamps s h = (h.0, All-filter (is_kept s) (λ r. 0 < r.stamp) s.rows h.1)

  created_stamps : (s : State K T F I) (p : ℕ) (spot : Spot) (body : Body F I) (attrs value : ℕ) → HasStamps s → HasStamps (created g s p spot body attrs value)
  created_stamps s p spot body attrs value h = (let next = h.0 in omega (arith, next), All-append (λ r. 0 < r.stamp) s.rows (new_rows spot s.next_stamp s.next_id) h.1 (new spot))
    where
      new : (spot : Spot) → All (λ r. 0 < r.stamp) (new_rows spot s.next_stamp s.next_id)
      new None = All-nil (λ r. 0 < r.stamp)
      new (Some at) = All-push (λ r. 0 < r.stamp) [] _ (All-nil (λ r. 0 < r.stamp)) h.0

  inherits_one_stamps : (s : State K T F I) (child : ℕ) (h : Held) → HasStamps s → HasStamps (inherits_one g s child h)
  inherits_one_stamps s child h has = go (open_refusal g s h.object Inherited)
    where
      go : (o : Option ℕ) → HasStamps (option_map_or (λ _. record s { next_order = s.next_order + 1 }) o (with_handle (with_open g s h.object Inherited) child h.value h.object true))
      go None = has
      go (Some k) = has

  inherits_stamps : (s : State K T F I) (child : ℕ) (hs : List Held) → HasStamps s → HasStamps (inherits g s child hs)
  inherits_stamps s child [] has = has
  inherits_stamps s child (h ∷ hs) has = inherits_stamps (inherits_one g s child h) child hs (inherits_one_stamps s child h has)

  closed_in_turn_stamps : (s : State K T F I) (hs : List Held) → HasStamps s → HasStamps (closed_in_turn g s hs)
  closed_in_turn_stamps s [] has = has
  closed_in_turn_stamps s (h ∷ hs) has = closed_in_turn_stamps (closed_handle g s h) hs has

  came_stamps : (s t : State K T F I) → HasStamps s → Came g s t → HasStamps t
  came_stamps s t has came =
      came_leads g s HasStamps has (λ body. has)
      (λ p value o asked reason e. settled_stamps (with_handle (with_open g s o reason) p value o asked.inherit) has)
      (λ p spot body attrs value lawful. settled_stamps (created g s p spot body attrs value) (created_stamps s p spot body attrs value has))
      (λ x. settled_stamps (closed_handle g s x) has)
      (λ o permanent. settled_stamps (turned s o permanent) (turned_either HasStamps s o permanent has has))
      (λ p m. settled_stamps (with_map s p m) has)
      (λ p inherit. settled_stamps (begun g s p inherit) (inherits_stamps (with_child s p) s.next_process (inherited_from s p inherit) has))
      (λ p. settled_stamps (ended g s p) (closed_in_turn_stamps s (handles_in s p) has))
      (λ p attrs wanted o rest n. settled_stamps (with_pending s p attrs wanted o rest n) has) t came

  step_stamps : (s t : State K T F I) (event : Event K) (answer : Answer) → HasStamps s → Step g s event answer t → HasStamps t
  step_stamps s t (Start p command) answer has h = came_stamps s t has (started p command answer h)
  step_stamps s t (Resume ticket parse) answer has h = go (pending_of s ticket) h.2
    where
      go : (found : Option (PendingOpen K)) → MatchOption found ⊥ (λ x. Resumes g s x h.0 answer t) → HasStamps t
      go None does = absurd does
      go (Some x) does =
          subst HasStamps (sym does.2)
          (settled_stamps does.0
          (came_stamps (parsed_state s x.ticket h.0) does.0 (parsed_stamps s x.ticket h.0 has) (judged ((not (is_live s x.process), ProcessGone) ∷ []) x h.0 answer does.1)))
  step_stamps s t (Abandon ticket parse) answer has h = go (pending_of s ticket) h.2
    where
      go : (found : Option (PendingOpen K)) → MatchOption found ⊥ (λ x. Abandons g s x h.0 answer t) → HasStamps t
      go None does = absurd does
      go (Some x) does = subst HasStamps (sym does.1) (settled_stamps (parsed_state s x.ticket h.0) (parsed_stamps s x.ticket h.0 has))

  passed_stamps : (s : State K T F I) (n : ℕ) (steps : List (Passed K T F I)) → HasStamps s → Passes g s n steps → HasStamps (left_by s steps)
  passed_stamps s n [] has run = has
  passed_stamps s n (x ∷ xs) has run = passed_stamps x.after (n + 1) xs (step_stamps s x.after x.entry.event x.entry.answer has run.2) run.3

  pub run_stamps : (first : T) (steps : List (Passed K T F I)) → Passes g (opening first) 0 steps → HasStamps (left_by (opening first) steps)
  run_stamps first steps run = passed_stamps (opening first) 0 steps opens run
    where
      opens : HasStamps (opening {K = K} {T = T} {F = F} {I = I} first)
      opens =
          (omega arith, All-from_recursion (λ r. 0 < r.stamp) (opening {K = K} {T = T} {F = F} {I = I} first).rows (omega arith, (omega arith, (omega arith, (omega arith, (omega arith, tt))))))
