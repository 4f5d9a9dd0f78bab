-- In every state of a run the rows rise by the ids of their objects, which were drawn; and the rows of later states whose
-- objects were made before are rows of the state before.
use Rattle.std.proofs.Common.{◌≡◌, ℕ, ◌<◌, ◌≤◌, ◌+◌, true, not, List, [], ◌∷◌, ◌++◌, All, ◌⊎◌, inl, inr, Option, None, Some, MatchOption, sym, subst, refl, arith}
use Rattle.std.specs.Prelude.{AllPairs, Contains}
use Rattle.std.specs.Option.{option_map_or}
use Rattle.std.proofs.lemmas.List.{append-nil}
use Rattle.std.proofs.lemmas.List.Elements.{All-nil, All-head, All-tail, All-from_recursion, All-push, All-filter, All-weaker, All-contains_itself}
use Rattle.std.proofs.lemmas.List.Kept.{AllPairs-cons, AllPairs-filter}
use Rattle.ob_base.specs.declared.status.Status.TheVariants.{ProcessGone}
use Rattle.ob_model.specs.declared.reply.Answer.{Answer}
use Rattle.ob_model.specs.declared.reply.Event.{Event}
use Rattle.ob_model.specs.declared.reply.Event.TheVariants.{Start, Resume, Abandon}
use Rattle.ob_model.specs.declared.state.Body.{Body}
use Rattle.ob_model.specs.declared.state.Held.{Held}
use Rattle.ob_model.specs.declared.state.PendingOpen.{PendingOpen}
use Rattle.ob_model.specs.State.{State, is_live}
use Rattle.ob_model.specs.Opening.{opening}
use Rattle.ob_model.specs.declared.terms.Reason.TheVariants.{Inherited}
use Rattle.ob_model.specs.Procedures.{Procedures, ParseOutcome, EndsItself, EndsMade, EndsReparse, EndsRefused}
use Rattle.ob_model.specs.Settle.{is_kept, settle}
use Rattle.ob_model.specs.Grants.{open_refusal, with_open, with_handle}
use Rattle.ob_model.specs.Closing.{closed_handle}
use Rattle.ob_model.specs.Permanence.{turned}
use Rattle.ob_model.specs.Maps.{with_map}
use Rattle.ob_model.specs.declared.state.Row.{Row}
use Rattle.ob_model.specs.Creates.{Spot, created, dropped}
use Rattle.ob_model.specs.Processes.{handles_in, inherited_from, with_child, inherits_one, inherits, begun, closed_in_turn, ended}
use Rattle.ob_model.specs.PendingOpens.{pending_of, with_pending}
use Rattle.ob_model.specs.Parses.{parsed_state, Resumes, Abandons}
use Rattle.ob_model.specs.Step.{Step}
use Rattle.ob_model.proofs.Leads.{Came, started, judged, came_leads}
use Rattle.ob_model.proofs.Turned.{turned_either}
use Rattle.ob_model.specs.Run.{Entry, RunFrom}
use Rattle.ob_model.proofs.Sorted.{pairs_head, pairs_tail, pairs_none}
use Rattle.ob_model.proofs.Soundness.{pairs_climb}
use Rattle.ob_laws.specs.Names.{NamesOnlyGo}

abbrev Less : Row → Row → Type 0
Less a b = a.object < b.object

pairs_push : (xs : List Row) (r : Row) → All (λ a. a.object < r.object) xs → AllPairs Less xs → AllPairs Less (xs ++ r ∷ [])
pairs_push [] r all pairs = AllPairs-cons Less r [] (All-nil (Less r)) (pairs_none Less)
pairs_push (x ∷ xs) r all pairs =
    AllPairs-cons Less x (xs ++ r ∷ []) (All-push (Less x) xs r (pairs_head Less x xs pairs) (All-head (λ a. a.object < r.object) x xs all))
    (pairs_push xs r (All-tail (λ a. a.object < r.object) x xs all) (pairs_tail Less x xs pairs))

module _ {K T F I : Type 0} (b : State K T F I) where
  -- what is kept of a state
  abbrev IsOld : Row → Type 0
  IsOld r = Contains b.rows r ⊎ ((b.next_id ≤ r.object) × (b.next_stamp ≤ r.stamp))

  abbrev Keeps : State K T F I → Type 0
  Keeps t = ((b.next_id ≤ t.next_id) × (b.next_stamp ≤ t.next_stamp)) × All (λ r. (r.object < t.next_id) × (r.stamp < t.next_stamp)) t.rows × AllPairs Less t.rows × All IsOld t.rows

  grown : (s t : State K T F I) → t.rows ≡ s.rows → s.next_id ≤ t.next_id → t.next_stamp ≡ s.next_stamp → Keeps s → Keeps t
  grown s t same more stamps has = (
    ((let first = has.0.0 in omega (arith, first, more)), (let first = has.0.1 in omega (arith, first, stamps))),
    subst (All (λ r. (r.object < t.next_id) × (r.stamp < t.next_stamp))) (sym same)
        (All-weaker (λ (r : Row). (r.object < s.next_id) × (r.stamp < s.next_stamp)) (λ r. (r.object < t.next_id) × (r.stamp < t.next_stamp))
        (λ r less. ((let first = less.0 in omega (arith, first, more)), (let second = less.1 in omega (arith, second, stamps)))) s.rows has.1),
    subst (AllPairs Less) (sym same) has.2,
    subst (All IsOld) (sym same) has.3,
  )

  parsed_names : (s : State K T F I) (ticket : ℕ) (outcome : Option (ParseOutcome F I)) → Keeps s → Keeps (parsed_state s ticket outcome)
  parsed_names s ticket None h = h
  parsed_names s ticket (Some EndsItself) h = h
  parsed_names s ticket (Some (EndsMade face inner)) h = grown s (parsed_state s ticket (Some (EndsMade face inner))) refl (omega arith) refl h
  parsed_names s ticket (Some (EndsReparse text)) h = h
  parsed_names s ticket (Some (EndsRefused k)) h = h

  module _ (g : Procedures K T F I) where
    settled_names : (s : State K T F I) → Keeps s → Keeps (settle g s)
    settled_names s h = (
      h.0,
      All-filter (is_kept s) (λ r. (r.object < s.next_id) × (r.stamp < s.next_stamp)) s.rows h.1,
      AllPairs-filter Less (is_kept s) s.rows h.2,
      All-filter (is_kept s) IsOld s.rows h.3,
    )

    created_names : (s : State K T F I) (p : ℕ) (spot : Spot) (body : Body F I) (attrs value : ℕ) → Keeps s → Keeps (created g s p spot body attrs value)
    created_names s p None body attrs value h = grown s (created g s p None body attrs value) (append-nil s.rows) (omega arith) (omega arith) h
    created_names s p (Some at) body attrs value h = (
      ((let first = h.0.0 in omega (arith, first)), (let first = h.0.1 in omega (arith, first))),
      All-push (λ r. (r.object < s.next_id + 1) × (r.stamp < s.next_stamp + 1)) s.rows _
          (All-weaker (λ (r : Row). (r.object < s.next_id) × (r.stamp < s.next_stamp)) (λ r. (r.object < s.next_id + 1) × (r.stamp < s.next_stamp + 1))
          (λ r less. ((let first = less.0 in omega (arith, first)), (let second = less.1 in omega (arith, second)))) s.rows h.1) (omega arith, omega arith),
      pairs_push s.rows _ (All-weaker (λ (r : Row). (r.object < s.next_id) × (r.stamp < s.next_stamp)) (λ r. r.object < s.next_id) (λ r less. less.0) s.rows h.1) h.2,
      All-push IsOld s.rows _ h.3 (inr h.0),
    )

    inherits_one_names : (s : State K T F I) (child : ℕ) (h : Held) → Keeps s → Keeps (inherits_one g s child h)
    inherits_one_names s child h has = go (open_refusal g s h.object Inherited)
      where
        go : (o : Option ℕ) → Keeps (option_map_or (λ _. record s { next_order = s.next_order + 1 }) o (with_handle (with_open g s h.object Inherited) child h.value h.object true))
        go None = has
        go (Some k) = has

    inherits_names : (s : State K T F I) (child : ℕ) (hs : List Held) → Keeps s → Keeps (inherits g s child hs)
    inherits_names s child [] has = has
    inherits_names s child (h ∷ hs) has = inherits_names (inherits_one g s child h) child hs (inherits_one_names s child h has)

    closed_in_turn_names : (s : State K T F I) (hs : List Held) → Keeps s → Keeps (closed_in_turn g s hs)
    closed_in_turn_names s [] has = has
    closed_in_turn_names s (h ∷ hs) has = closed_in_turn_names (closed_handle g s h) hs has

    came_names : (s t : State K T F I) → Keeps s → Came g s t → Keeps t
    came_names s t has came =
        came_leads g s Keeps has (λ body. grown s (dropped g s body) refl (omega arith) refl has)
        (λ p value o asked reason e. settled_names (with_handle (with_open g s o reason) p value o asked.inherit) has)
        (λ p spot body attrs value lawful. settled_names (created g s p spot body attrs value) (created_names s p spot body attrs value has))
        (λ x. settled_names (closed_handle g s x) has)
        (λ o permanent. settled_names (turned s o permanent) (turned_either Keeps s o permanent has has))
        (λ p m. settled_names (with_map s p m) has)
        (λ p inherit. settled_names (begun g s p inherit) (inherits_names (with_child s p) s.next_process (inherited_from s p inherit) has))
        (λ p. settled_names (ended g s p) (closed_in_turn_names s (handles_in s p) has))
        (λ p attrs wanted o rest n. settled_names (with_pending s p attrs wanted o rest n) (grown s (with_pending s p attrs wanted o rest n) refl (omega arith) refl has)) t came

    step_names : (s t : State K T F I) (event : Event K) (answer : Answer) → Keeps s → Step g s event answer t → Keeps t
    step_names s t (Start p command) answer has h = came_names s t has (started p command answer h)
    step_names s t (Resume ticket parse) answer has h = go (pending_of s ticket) h.2
      where
        go : (found : Option (PendingOpen K)) → MatchOption found ⊥ (λ x. Resumes g s x h.0 answer t) → Keeps t
        go None does = absurd does
        go (Some x) does =
            subst Keeps (sym does.2)
            (settled_names does.0
            (came_names (parsed_state s x.ticket h.0) does.0 (parsed_names s x.ticket h.0 has) (judged ((not (is_live s x.process), ProcessGone) ∷ []) x h.0 answer does.1)))
    step_names s t (Abandon ticket parse) answer has h = go (pending_of s ticket) h.2
      where
        go : (found : Option (PendingOpen K)) → MatchOption found ⊥ (λ x. Abandons g s x h.0 answer t) → Keeps t
        go None does = absurd does
        go (Some x) does = subst Keeps (sym does.1) (settled_names (parsed_state s x.ticket h.0) (parsed_names s x.ticket h.0 has))

    run_names : (s t : State K T F I) (n : ℕ) (entries : List (Entry K)) → Keeps s → RunFrom g s n entries t → Keeps t
    run_names s t n [] has run = subst Keeps (sym run) has
    run_names s t n (e ∷ es) has run = run_names run.0 t (n + 1) es (step_names s run.0 e.event e.answer has run.2) run.3

-- a state whose names are in order keeps its own
own_names : {K T F I : Type 0} (b s : State K T F I) → Keeps b s → Keeps s s
own_names b s has = ((omega arith, omega arith), has.1, has.2, All-weaker (Contains s.rows) (IsOld s) (λ r among. inl among) s.rows (All-contains_itself s.rows))

opening_names : (K T F I : Type 0) (first : T) → Keeps (opening {K = K} {T = T} {F = F} {I = I} first) (opening first)
opening_names K T F I first = ((omega arith, omega arith), below, rising, All-weaker (Contains o.rows) (IsOld o) (λ r among. inl among) o.rows (All-contains_itself o.rows))
  where
    o : State K T F I
    o = opening first

    below : All (λ (r : Row). (r.object < o.next_id) × (r.stamp < o.next_stamp)) o.rows
    below =
        All-from_recursion (λ (r : Row). (r.object < o.next_id) × (r.stamp < o.next_stamp)) o.rows
        ((omega arith, omega arith), ((omega arith, omega arith), ((omega arith, omega arith), ((omega arith, omega arith), ((omega arith, omega arith), tt)))))

    rising : AllPairs Less o.rows
    rising = pairs_climb (λ (r : Row). r.object) o.rows (omega arith, (omega arith, (omega arith, (omega arith, tt))))

pub names_only_go : (K T F I : Type 0) → NamesOnlyGo K T F I
names_only_go K T F I g first before after s t n start run =
    let has = run_names s g s t n after (own_names (opening first) s (run_names (opening first) g (opening first) s 0 before (opening_names K T F I first) start)) run in
    record { drawn = has.0; below = has.1; rising = has.2; there = has.3 }
