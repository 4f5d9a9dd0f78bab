-- The pending opens after a step, and its answer.
use Rattle.std.proofs.Common.{◌≡◌, ◌∙◌, ℕ, ◌+◌, ◌<◌, ◌≤◌, ◌==◌, Bool, true, false, ◌&&◌, not, List, [], ◌∷◌, ◌++◌, length, map, filter, All, Option, None, Some, MatchOption, refl, ap, sym, subst, get_or, arith}
use Rattle.std.specs.Prelude.{MatchBool, if◌then◌else◌}
use Rattle.std.specs.Option.{option_map_or}
use Rattle.std.proofs.lemmas.Bool.{ne_eqb}
use Rattle.std.proofs.lemmas.List.{length-append, length-map}
use Rattle.std.proofs.lemmas.List.Elements.{All-filter, filter-append}
use Rattle.std.proofs.lemmas.List.Sums.{length-filter, count_by-le-length}
use Rattle.ob_base.specs.declared.status.Status.TheVariants.{Success, ProcessGone, ObjectPathSyntaxBad, ObjectTypeMismatch}
use Rattle.ob_model.specs.declared.command.Command.{Command}
use Rattle.ob_model.specs.declared.reply.Answer.{Answer}
use Rattle.ob_model.specs.declared.reply.Answer.TheVariants.{Done, Ticket}
use Rattle.ob_model.specs.declared.reply.Event.TheVariants.{Start, Resume, Abandon}
use Rattle.ob_model.specs.declared.reply.Given.TheVariants.{Nothing, Handle, Text, Process, Page}
use Rattle.ob_model.specs.declared.reply.Given.{Given}
use Rattle.ob_model.specs.declared.reply.ParseRun.{ParseRun}
use Rattle.ob_model.specs.declared.state.Body.{Body}
use Rattle.ob_model.specs.declared.state.Body.TheVariants.{Directory, Link, Other}
use Rattle.ob_model.specs.declared.state.Held.{Held}
use Rattle.ob_model.specs.declared.state.PendingOpen.{PendingOpen}
use Rattle.ob_model.specs.State.{State, is_live, body_of, table_size}
use Rattle.ob_model.specs.Names.{begins_with_separator}
use Rattle.ob_model.specs.declared.terms.Mode.{Mode}
use Rattle.ob_model.specs.Looks.{Look, At, Vacant, Parse, Refused, Looks, LooksFrom, LooksUp, most_reparses}
use Rattle.ob_model.specs.Paths.{origin_of, relative, Origin}
use Rattle.ob_model.specs.PendingOpens.{pending_of}
use Rattle.ob_model.specs.declared.terms.Reason.TheVariants.{Inherited}
use Rattle.ob_model.specs.Procedures.{Procedures, ParseOutcome, EndsItself, EndsMade, EndsReparse, EndsRefused}
use Rattle.ob_model.specs.Parses.{parsed_state, LooksAgain, Resumes, Abandons}
use Rattle.ob_model.specs.Grants.{open_refusal, with_open, with_handle}
use Rattle.ob_model.specs.Closing.{closed_handle}
use Rattle.ob_model.specs.Opens.{open_mode}
use Rattle.ob_model.specs.Processes.{handles_in, values_in, inherited_from, with_child, inherits_one, inherits, begun, closed_in_turn}
use Rattle.ob_model.specs.Refusals.{answers}
use Rattle.ob_model.specs.Sound.{IsSound}
use Rattle.ob_model.specs.Step.{Step}
use Rattle.ob_model.proofs.Ended.{live_numbered}
use Rattle.ob_model.proofs.Finds.{filter_none}
use Rattle.ob_model.proofs.Turned.{turned_either}
use Rattle.ob_opens.proofs.HandedOn.{HandsOn, looks_hand_on, again_hands_on_fewer}
use Rattle.ob_locked.specs.Entered.{HasFew, PendingAfter, EndedAfter}
use Rattle.ob_locked.specs.Rooms.{wants_memory, values_given, values_wanted, is_plain}
use Rattle.ob_locked.proofs.Placed.{found_ticket}
use Rattle.ob_model.proofs.Answered.{IsNoChild, HandsFew, start_told, unless_ends_told}

-- what is answered with the state t, from the state s: no more than so many values, and a text or a page only where nothing
-- changed
abbrev pub Fits : {S : Type 0} → S → ℕ → Answer → S → Type 0
Fits s most (Done reply) t = (length (values_given reply.given) ≤ most) × (wants_memory reply.given ≡ true → t ≡ s)
Fits s most (Ticket m) t = Unit {0}

-- a reply of which a copy wants no memory
abbrev pub IsPlain : Answer → Type 0
IsPlain (Done reply) = is_plain reply.given ≡ true
IsPlain (Ticket m) = Unit {0}

no_values : (given : Given) → IsNoChild given → (most : ℕ) → length (values_given given) ≤ most
no_values Nothing is most = omega arith
no_values (Handle handle) is most = omega arith
no_values (Text text) is most = omega arith
no_values (Process process values) is most = absurd is
no_values (Page entries context) is most = omega arith

module _ {K T F I : Type 0} (g : Procedures K T F I) where
  -- ---- the opens that wait stay while handles are inherited and closed

  inherits-pending : (s : State K T F I) (child : ℕ) (hs : List Held) → (inherits g s child hs).pending ≡ s.pending
  inherits-pending s child [] = refl
  inherits-pending s child (h ∷ hs) = inherits-pending (inherits_one g s child h) child hs ∙ go (open_refusal g s h.object Inherited)
    where
      go : (refusal : Option ℕ)
          → (option_map_or (λ _. record s { next_order = s.next_order + 1 }) refusal (with_handle (with_open g s h.object Inherited) child h.value h.object true)).pending ≡ s.pending
      go None = refl
      go (Some k) = refl

  closes-pending : (s : State K T F I) (hs : List Held) → (closed_in_turn g s hs).pending ≡ s.pending
  closes-pending s [] = refl
  closes-pending s (h ∷ hs) = closes-pending (closed_handle g s h) hs

  -- ---- a child has no more handles than its parent

  one_more : (s : State K T F I) (child : ℕ) (h : Held) → length (values_in (inherits_one g s child h) child) ≤ length (values_in s child) + 1
  one_more s child h = go (open_refusal g s h.object Inherited)
    where
      new : Held
      new = record { process = child; value = h.value; object = h.object; inherit = true; order = s.next_order }

      mine : Held → Bool
      mine x = x.process == child

      go : (refusal : Option ℕ)
          → length (values_in (option_map_or (λ _. record s { next_order = s.next_order + 1 }) refusal (with_handle (with_open g s h.object Inherited) child h.value h.object true)) child)
          ≤ length (values_in s child) + 1
      go None =
          omega (
            arith,
            length-map (filter (λ x. x.process == child) (s.handles ++ new ∷ [])) (λ x. x.value),
            length-map (filter (λ x. x.process == child) s.handles) (λ x. x.value),
            ap length (filter-append (λ x. x.process == child) s.handles (new ∷ [])),
            length-append (filter (λ x. x.process == child) s.handles) (filter (λ x. x.process == child) (new ∷ [])),
            length-filter (λ x. x.process == child) (new ∷ []),
            count_by-le-length (λ x. x.process == child) (new ∷ []),
          )
      go (Some k) = omega arith

  few_more : (s : State K T F I) (child : ℕ) (hs : List Held) → length (values_in (inherits g s child hs) child) ≤ length (values_in s child) + length hs
  few_more s child [] = omega arith
  few_more s child (h ∷ hs) = omega (arith, few_more (inherits_one g s child h) child hs, one_more s child h)

  child_few : (s : State K T F I) (p : ℕ) (inherit : Bool) → IsSound s → length (values_in (begun g s p inherit) s.next_process) ≤ table_size s p
  child_few s p inherit sound =
      let unborn : filter (λ h. h.process == s.next_process) s.handles ≡ [] =
      filter_none (λ h. h.process == s.next_process) s.handles
      (λ k d within.
      let less = live_numbered s.processes s.next_process (get_or s.handles k d).process sound.processes.numbered (sound.handles.live k d within) in
      ne_eqb (get_or s.handles k d).process s.next_process (λ same. omega (arith, less, same))) in
      omega (
        arith,
        few_more (with_child s p) s.next_process (inherited_from s p inherit),
        ap (λ hs. length (map (λ (h : Held). h.value) hs)) unborn,
        length-filter (λ h. h.inherit && inherit) (handles_in s p),
        count_by-le-length (λ h. h.inherit && inherit) (handles_in s p),
        length-filter (λ h. h.process == p) s.handles,
      )

  -- ---- a start

  -- what a lookup hands on
  looked_up : (s : State K T F I) (p : ℕ) (mode : Mode) (n : ℕ) (root : Option ℕ) (name : List ℕ) (look : Look) → LooksUp g s p mode n root name look → HandsOn n look
  looked_up s p mode n None name look h = go (origin_of s p mode.create name) h
    where
      go : (at : Option (Origin × List ℕ)) → MatchOption at (look ≡ Refused ObjectPathSyntaxBad) (λ at. Looks g s p mode n at.0 at.1 look) → HandsOn n look
      go None e = subst (HandsOn n) (sym e) tt
      go (Some at) h = looks_hand_on g s p mode n at.0 at.1 look h
  looked_up s p mode n (Some root) name look h = go (begins_with_separator name) (body_of s root) h
    where
      other : (parses : Bool) → look ≡ (if parses then Parse root name n else Refused ObjectTypeMismatch) → HandsOn n look
      other true e = subst (HandsOn n) (sym e) (omega arith)
      other false e = subst (HandsOn n) (sym e) tt

      from : (body : Body F I) → LooksFrom g s p mode n root body name look → HandsOn n look
      from (Directory shadow) h = looks_hand_on g s p mode n (relative root name).0 (relative root name).1 look h
      from (Link target) e = subst (HandsOn n) (sym e) tt
      from (Other face inner) e = other (g.parses (g.kind_of face) && not mode.create) e

      go : (separator : Bool) (body : Option (Body F I))
          → MatchBool separator (look ≡ Refused ObjectPathSyntaxBad) (MatchOption body ⊥ (λ body. LooksFrom g s p mode n root body name look)) → HandsOn n look
      go true body e = subst (HandsOn n) (sym e) tt
      go false None h = absurd h
      go false (Some body) h = from body h

  module _ (s : State K T F I) (sound : IsSound s) where
    -- what a start of a process leaves and answers
    pub started : (t : State K T F I) (p : ℕ) (command : Command K) (answer : Answer) → Step g s (Start p command) answer t
        → PendingAfter HasFew s.pending answer t.pending × Fits s (values_wanted (table_size s p) command) answer t
    started t p command answer h =
        start_told g s P HasFew
        (λ status. (refl, (omega arith, λ wants. cc)))
        (λ k body. (refl, (omega arith, λ wants. cc)))
        (λ status q value o asked reason. (refl, (omega arith, λ wants. cc)))
        (λ q spot body attrs value. (refl, (omega arith, λ wants. cc)))
        (λ held. (refl, (omega arith, λ wants. cc)))
        (λ o permanent. (turned_either (λ u. u.pending ≡ s.pending) s o permanent refl refl, (omega arith, λ wants. cc)))
        (λ q d. (refl, (omega arith, λ wants. cc)))
        (λ q. (closes-pending s (handles_in s q), (omega arith, λ wants. cc)))
        (λ q attrs wanted o rest n few. ((_, refl, refl, few, sound.pending.ticketed), tt))
        p command
        (λ inherit is. (
          inherits-pending (with_child s p) s.next_process (inherited_from s p inherit),
          (subst (λ c. length (values_in (begun g s p inherit) s.next_process) ≤ values_wanted (table_size s p) c) (sym is) (child_few s p inherit sound), λ wants. cc),
        ))
        (λ reply is. (refl, (no_values reply.given is (values_wanted (table_size s p) command), λ wants. refl)))
        (λ mode at name look looks. few look (looked_up s p mode most_reparses at name look looks))
        t command refl answer h
      where
        P : Answer → State K T F I → Type 0
        P answer t = PendingAfter HasFew s.pending answer t.pending × Fits s (values_wanted (table_size s p) command) answer t

        few : (look : Look) → HandsOn most_reparses look → HandsFew HasFew look
        few (At o) h = tt
        few (Vacant d c) h = tt
        few (Parse o rest n) h = h
        few (Refused status) h = tt

  -- ---- the end of an open that waits

  parsed-pending : (s : State K T F I) (ticket : ℕ) (outcome : Option (ParseOutcome F I)) → (parsed_state s ticket outcome).pending ≡ filter (λ y. not (y.ticket == ticket)) s.pending
  parsed-pending s ticket None = refl
  parsed-pending s ticket (Some EndsItself) = refl
  parsed-pending s ticket (Some (EndsMade face inner)) = refl
  parsed-pending s ticket (Some (EndsReparse text)) = refl
  parsed-pending s ticket (Some (EndsRefused k)) = refl

  module _ (s : State K T F I) (sound : IsSound s) where
    -- what the open of a ticket leaves and answers that is resumed
    resumes : (t : State K T F I) (x : PendingOpen K) (outcome : Option (ParseOutcome F I)) (answer : Answer) → Resumes g s x outcome answer t
        → PendingAfter (λ n. n < x.left) (filter (λ y. not (y.ticket == x.ticket)) s.pending) answer t.pending × IsPlain answer
    resumes t x outcome answer (v, ends, settles) =
        let led = unless_ends_told g u P (λ n. n < x.left)
        (λ status. (refl, refl))
        (λ k body. (refl, refl))
        (λ status q value o asked reason. (refl, refl))
        (λ q spot body attrs value. (refl, refl))
        (λ held. (refl, refl))
        (λ o permanent. (turned_either (λ w. w.pending ≡ u.pending) u o permanent refl refl, refl))
        (λ q d. (refl, refl))
        (λ q. (closes-pending u (handles_in u q), refl))
        (λ q attrs wanted o rest n few. ((_, refl, refl, few, below outcome), tt))
        v ((not (is_live s x.process), ProcessGone) ∷ []) x outcome answer few ends in (
          subst (λ ps. PendingAfter (λ n. n < x.left) ps answer t.pending) (parsed-pending s x.ticket outcome)
              (subst (λ (w : State K T F I). PendingAfter (λ n. n < x.left) u.pending answer w.pending) (sym settles) led.0),
          led.1,
        )
      where
        u : State K T F I
        u = parsed_state s x.ticket outcome

        left : All (λ z. z.ticket < s.next_id) (filter (λ y. not (y.ticket == x.ticket)) s.pending)
        left = All-filter (λ y. not (y.ticket == x.ticket)) (λ z. z.ticket < s.next_id) s.pending sound.pending.ticketed

        below : (outcome : Option (ParseOutcome F I)) → All (λ z. z.ticket < (parsed_state s x.ticket outcome).next_id) (parsed_state s x.ticket outcome).pending
        below None = left
        below (Some EndsItself) = left
        below (Some (EndsMade face inner)) = left
        below (Some (EndsReparse text)) = left
        below (Some (EndsRefused k)) = left

        P : Answer → State K T F I → Type 0
        P answer v = PendingAfter (λ n. n < x.left) u.pending answer v.pending × IsPlain answer

        few : (text : List ℕ) (look : Look) → LooksAgain g u x.process (open_mode x.wanted x.attrs) x.left text look → HandsFew (λ n. n < x.left) look
        few text (At o) h = tt
        few text (Vacant d c) h = tt
        few text (Parse o rest n) h = again_hands_on_fewer g u x.process (open_mode x.wanted x.attrs) x.left text o rest n h
        few text (Refused status) h = tt

    -- what an open that ends leaves and answers: it waits no longer
    pub resumed : (t : State K T F I) (ticket : ℕ) (parse : ParseRun) (answer : Answer) → Step g s (Resume ticket parse) answer t → EndedAfter s.pending ticket answer t.pending × IsPlain answer
    resumed t ticket parse answer (outcome, brought, h) = go (pending_of s ticket) refl h
      where
        go : (found : Option (PendingOpen K)) → pending_of s ticket ≡ found → MatchOption found ⊥ (λ x. Resumes g s x outcome answer t)
            → MatchOption found ⊥ (λ x. PendingAfter (λ n. n < x.left) (filter (λ y. not (y.ticket == ticket)) s.pending) answer t.pending) × IsPlain answer
        go None e h = absurd h
        go (Some x) e h =
            subst (λ k. PendingAfter (λ n. n < x.left) (filter (λ y. not (y.ticket == k)) s.pending) answer t.pending × IsPlain answer) (found_ticket ticket s.pending x e)
            (resumes t x outcome answer h)

    pub abandoned : (t : State K T F I) (ticket : ℕ) (parse : ParseRun) → Step g s (Abandon ticket parse) (answers Success) t → EndedAfter s.pending ticket (answers Success) t.pending
    abandoned t ticket parse (outcome, brought, h) = go (pending_of s ticket) refl h
      where
        go : (found : Option (PendingOpen K)) → pending_of s ticket ≡ found → MatchOption found ⊥ (λ x. Abandons g s x outcome (answers Success) t)
            → MatchOption found ⊥ (λ x. t.pending ≡ filter (λ y. not (y.ticket == ticket)) s.pending)
        go None e h = absurd h
        go (Some x) e h =
            ap (λ (w : State K T F I). w.pending) h.1 ∙ parsed-pending s x.ticket outcome
            ∙ ap (λ k. filter (λ y. not (y.ticket == k)) s.pending) (found_ticket ticket s.pending x e)
