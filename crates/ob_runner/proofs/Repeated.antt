-- The parses that are kept behind a step that is made again: those of all opens that are pending.
use Rattle.std.proofs.Common.{◌≡◌, ◌∙◌, ℕ, ◌==◌, Bool, true, false, cond, ◌||◌, not, List, [], ◌∷◌, ◌++◌, map, filter, find, Some, refl, ap, sym, subst}
use Rattle.std.specs.List.{list_any}
use Rattle.std.specs.Option.{is_some}
use Rattle.std.proofs.lemmas.List.{map-append}
use Rattle.ob_base.specs.declared.status.Status.TheVariants.{Success}
use Rattle.ob_model.specs.declared.reply.Event.{Event}
use Rattle.ob_model.specs.declared.reply.Event.TheVariants.{Start, Resume, Abandon}
use Rattle.ob_model.specs.declared.state.PendingOpen.{PendingOpen}
use Rattle.ob_model.specs.PendingOpens.{pending_of}
use Rattle.ob_model.specs.Refusals.{answers}
use Rattle.ob_model.specs.State.{State}
use Rattle.ob_model.specs.Waiting.{others, WaitBehind}
use Rattle.ob_types.specs.Parse.{ToRun}
use Rattle.ob_runner.specs.declared.begun.Begun.{Begun}
use Rattle.ob_runner.specs.declared.begun.Begun.TheVariants.{Replied, Waits}
use Rattle.ob_runner.specs.Begun.{answer_in, tickets_of, with_begun, without}
use Rattle.ob_runner.specs.Repeated.{AreAllKept, MayBe}
use Rattle.ob_model.specs.declared.command.Command.{Command}
use Rattle.ob_model.specs.declared.reply.ParseRun.{ParseRun}

module _ {K : Type 0} where
  -- the tickets of opens, without that of one
  tickets-without : (ticket : ℕ) (opens : List (PendingOpen K)) → map (λ x. x.ticket) (filter (λ x. not (x.ticket == ticket)) opens) ≡ without ticket (map (λ x. x.ticket) opens)
  tickets-without ticket [] = refl
  tickets-without ticket (x ∷ opens) = go (not (x.ticket == ticket)) (tickets-without ticket opens)
    where
      go : (stays : Bool) → map (λ x. x.ticket) (filter (λ x. not (x.ticket == ticket)) opens) ≡ without ticket (map (λ x. x.ticket) opens)
          → map (λ x. x.ticket) (cond stays (x ∷ filter (λ x. not (x.ticket == ticket)) opens) (filter (λ x. not (x.ticket == ticket)) opens))
          ≡ cond stays (x.ticket ∷ without ticket (map (λ x. x.ticket) opens)) (without ticket (map (λ x. x.ticket) opens))
      go true rest = ap (λ ks. x.ticket ∷ ks) rest
      go false rest = rest

  any-found : (ticket : ℕ) (opens : List (PendingOpen K)) → list_any (λ k. k == ticket) (map (λ x. x.ticket) opens) ≡ is_some (find (λ x. x.ticket == ticket) opens)
  any-found ticket [] = refl
  any-found ticket (x ∷ opens) = go (x.ticket == ticket) (any-found ticket opens)
    where
      go : (is : Bool) → list_any (λ k. k == ticket) (map (λ x. x.ticket) opens) ≡ is_some (find (λ x. x.ticket == ticket) opens)
          → is || list_any (λ k. k == ticket) (map (λ x. x.ticket) opens) ≡ is_some (cond is (Some x) (find (λ x. x.ticket == ticket) opens))
      go true rest = refl
      go false rest = rest

  -- the tickets of the opens that wait behind a step
  behind : (opens after : List (PendingOpen K)) (before : List ℕ) (begun : Begun) → map (λ x. x.ticket) opens ≡ before
      → WaitBehind opens (answer_in begun) after → map (λ x. x.ticket) after ≡ with_begun begun before
  behind opens after before (Replied reply) same h = ap (λ xs. map (λ x. x.ticket) xs) h ∙ same
  behind opens after before (Waits n) same (x, last, own) =
      ap (λ xs. map (λ x. x.ticket) xs) last ∙ map-append (λ x. x.ticket) opens (x ∷ []) ∙ ap (λ k. map (λ x. x.ticket) opens ++ k ∷ []) own ∙ ap (λ ks. ks ++ n ∷ []) same

module _ {K T F I : Type 0} (s : State K T F I) where
  -- an open that may be ended is pending
  pub may_resume : (e : Event K) (ticket : ℕ) (parse : ParseRun) → e ≡ Resume ticket parse → MayBe s e → is_some (pending_of s ticket) ≡ true
  may_resume e ticket parse is h = (subst (MayBe s) is h).1

  pub may_abandon : (e : Event K) (ticket : ℕ) (parse : ParseRun) → e ≡ Abandon ticket parse → MayBe s e → is_some (pending_of s ticket) ≡ true
  may_abandon e ticket parse is h = subst (MayBe s) is h

  module _ (before : List (ToRun F)) (all : AreAllKept s before) where
    -- the parse of an open that is pending is kept
    pub is_kept : (ticket : ℕ) → is_some (pending_of s ticket) ≡ true → list_any (λ k. k == ticket) (tickets_of before) ≡ true
    is_kept ticket h = ap (list_any (λ k. k == ticket)) (sym all) ∙ any-found ticket s.pending ∙ h

    module _ (u : State K T F I) (after : List (ToRun F)) where
      pub all_behind_start : (p : ℕ) (command : Command K) (begun : Begun) → WaitBehind (others (Start p command) s.pending) (answer_in begun) u.pending
          → tickets_of after ≡ with_begun begun (tickets_of before) → AreAllKept u after
      all_behind_start p command begun h same = behind s.pending u.pending (tickets_of before) begun all h ∙ sym same

      pub all_behind_resume : (ticket : ℕ) (parse : ParseRun) (begun : Begun) → WaitBehind (others (Resume ticket parse) s.pending) (answer_in begun) u.pending
          → tickets_of after ≡ with_begun begun (without ticket (tickets_of before)) → AreAllKept u after
      all_behind_resume ticket parse begun h same =
          behind (filter (λ x. not (x.ticket == ticket)) s.pending) u.pending (without ticket (tickets_of before)) begun (tickets-without ticket s.pending ∙ ap (without ticket) all) h ∙ sym same

      pub all_behind_abandon : (ticket : ℕ) (parse : ParseRun) → WaitBehind (others (Abandon ticket parse) s.pending) (answers Success) u.pending
          → tickets_of after ≡ without ticket (tickets_of before) → AreAllKept u after
      all_behind_abandon ticket parse h same = ap (λ xs. map (λ x. x.ticket) xs) h ∙ tickets-without ticket s.pending ∙ ap (without ticket) all ∙ sym same
