-- How a pending open ends: what its parse ended with is brought and judged, or the open is given up.
--
-- Sources: Windows Internals, Object Manager (parse methods: the object, another one, a reparse or a refusal).
-- That a parse is run between two steps and judged in the state as it is then, and the order of refusals, are
-- this profile.
use Rattle.std.specs.Prelude.{◌≡◌, ℕ, zero, suc, not, List, [], ◌∷◌, Option, None, Some, MatchOption}
use Rattle.ob_base.specs.declared.status.Status.TheVariants.{Success, NoMemory, ProcessGone, ReparseLimit, TypeRefused}
use Rattle.ob_model.specs.declared.reply.Answer.{Answer}
use Rattle.ob_model.specs.declared.reply.Event.{Event}
use Rattle.ob_model.specs.declared.reply.Event.TheVariants.{Start, Resume, Abandon}
use Rattle.ob_model.specs.declared.reply.ParseRun.{ParseRun}
use Rattle.ob_model.specs.declared.reply.ParseRun.TheVariants as run
use Rattle.ob_model.specs.declared.state.PendingOpen.{PendingOpen}
use Rattle.ob_model.specs.State.{State, is_live}
use Rattle.ob_model.specs.PendingOpens.{face_of, pending_of, without_pending, with_instance}
use Rattle.ob_model.specs.Procedures.{Procedures, ParseOutcome, EndsItself, EndsMade, EndsReparse, EndsRefused, ParseEnds}
use Rattle.ob_model.specs.declared.terms.Mode.{Mode}
use Rattle.ob_model.specs.Looks.{Look, Refused, Again, Looks}
use Rattle.ob_model.specs.Settle.{settle}
use Rattle.ob_model.specs.Refusals.{answers, IsRefused, Unless}
use Rattle.ob_model.specs.Opens.{OpensAt, Opens, open_mode}

module _ {K T F I : Type 0} where
  -- the state with the instance that a parse made, where it made one, under the ticket
  abbrev pub with_made : State K T F I → ℕ → Option (ParseOutcome F I) → State K T F I
  with_made s ticket None = s
  with_made s ticket (Some EndsItself) = s
  with_made s ticket (Some (EndsMade face inner)) = with_instance s ticket face inner
  with_made s ticket (Some (EndsReparse text)) = s
  with_made s ticket (Some (EndsRefused k)) = s

  -- the state in which the end of a pending open is judged: the open is pending no longer, and what its parse
  -- made is there; unless a handle is granted to it, it goes as the step settles
  abbrev pub parsed_state : State K T F I → ℕ → Option (ParseOutcome F I) → State K T F I
  parsed_state s ticket outcome = with_made (without_pending s ticket) ticket outcome

module _ {K T F I : Type 0} (g : Procedures K T F I) where
  -- what a caller brings of the parse of a pending open: nothing where it was not run or found no memory, and
  -- else what the parse of the pinned object over the pending rest ends with
  abbrev pub IsParsed : State K T F I → PendingOpen K → ParseRun → Option (ParseOutcome F I) → Type 0
  IsParsed s x run.Unrun outcome = outcome ≡ None
  IsParsed s x run.NoMemory outcome = outcome ≡ None
  IsParsed s x run.Ran None = ⊥
  IsParsed s x run.Ran (Some outcome) = MatchOption (face_of s x.object) ⊥ (λ face. ParseEnds g face x.rest outcome)

  -- what comes with an event: nothing with a start; with a resume what its caller brings, who ran the parse;
  -- with an abandon the same, also of a parse that was not run
  abbrev pub IsBrought : State K T F I → Event K → Option (ParseOutcome F I) → Type 0
  IsBrought s (Start p command) outcome = outcome ≡ None
  IsBrought s (Resume ticket run.Unrun) outcome = ⊥
  IsBrought s (Resume ticket run.Ran) outcome = MatchOption (pending_of s ticket) ⊥ (λ x. IsParsed s x run.Ran outcome)
  IsBrought s (Resume ticket run.NoMemory) outcome = MatchOption (pending_of s ticket) ⊥ (λ x. IsParsed s x run.NoMemory outcome)
  IsBrought s (Abandon ticket parse) outcome = MatchOption (pending_of s ticket) ⊥ (λ x. IsParsed s x parse outcome)

  -- a text is looked up again, which takes one of the reparses that are left
  abbrev pub LooksAgain : State K T F I → ℕ → Mode → ℕ → List ℕ → Look → Type 0
  LooksAgain s p mode zero text look = look ≡ Refused ReparseLimit
  LooksAgain s p mode (suc n) text look = Again s p mode text (λ place rest. Looks g s p mode n place rest look) (λ status. look ≡ Refused status)

  -- what a parse leads to: no memory was found; the pinned object is opened, or the new one; the text is looked
  -- up and what it leads to is opened; or the refusal is the answer
  abbrev pub EndsOpen : State K T F I → PendingOpen K → Option (ParseOutcome F I) → Answer → State K T F I → Type 0
  EndsOpen s x None answer t = IsRefused s NoMemory answer t
  EndsOpen s x (Some EndsItself) answer t = OpensAt g s x.process x.attrs x.wanted Success x.object answer t
  EndsOpen s x (Some (EndsMade face inner)) answer t = OpensAt g s x.process x.attrs x.wanted Success x.ticket answer t
  EndsOpen s x (Some (EndsReparse text)) answer t =
      (look : Look) × LooksAgain s x.process (open_mode x.wanted x.attrs) x.left text look × Opens g s x.process x.attrs x.wanted look answer t
  EndsOpen s x (Some (EndsRefused k)) answer t = IsRefused s (TypeRefused k) answer t

  -- a pending open is resumed: its process is gone, or what its parse leads to; in each case it is pending no
  -- longer, and what then doesn't stay goes
  abbrev pub Resumes : State K T F I → PendingOpen K → Option (ParseOutcome F I) → Answer → State K T F I → Type 0
  Resumes s x outcome answer t =
      let u = parsed_state s x.ticket outcome in
      (v : State K T F I) × Unless ((not (is_live s x.process), ProcessGone) ∷ []) u answer v (EndsOpen u x outcome answer v) × (t ≡ settle g v)

  -- a pending open is given up: what its parse made goes
  abbrev pub Abandons : State K T F I → PendingOpen K → Option (ParseOutcome F I) → Answer → State K T F I → Type 0
  Abandons s x outcome answer t = (answer ≡ answers Success) × (t ≡ settle g (parsed_state s x.ticket outcome))
