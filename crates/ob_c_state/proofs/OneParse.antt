-- No object of a caller's answers a parse with a text to be looked up: so an open waits for one parse, and is then answered.
use Rattle.std.proofs.Common.{◌≡◌, ℕ, Bool, true, false, not, if◌then◌else◌, List, [], ◌∷◌, length, Option, None, Some, Ok, Err, inl, inr, sym, subst}
use Rattle.std.specs.Prelude.{MatchOption}
use Rattle.ob_base.specs.declared.status.Status.{Status}
use Rattle.ob_base.specs.declared.status.Status.TheVariants.{Success, NoMemory, ObjectTypeMismatch, ProcessGone, TypeRefused}
use Rattle.ob_host.specs.Host.{answer_below, is_itself, kind_below, unopened}
use Rattle.ob_host.specs.Kept.{Kept}
use Rattle.ob_host.specs.Objects.{object_below}
use Rattle.ob_host.specs.declared.kind.Kind.{Kind}
use Rattle.ob_host.specs.declared.object.HostObject.{HostObject}
use Rattle.ob_model.specs.Grants.{first_refusal}
use Rattle.ob_model.specs.Opens.{GivesHandle, OpensAt, options_by}
use Rattle.ob_model.specs.Parses.{EndsOpen, IsParsed, Resumes, parsed_state}
use Rattle.ob_model.specs.PendingOpens.{face_of, pending_of}
use Rattle.ob_model.specs.Procedures.{ParseAnswer, Itself, Front, Reparse, Refused, ParseOutcome, EndsItself, EndsMade, EndsReparse, EndsRefused, ParseEnds, ends_itself, ends_reparse, ends_refused, ends_made, goes_on}
use Rattle.ob_model.specs.Refusals.{answers, gives, IsRefused}
use Rattle.ob_model.specs.State.{is_live}
use Rattle.ob_model.specs.Step.{Step}
use Rattle.ob_model.specs.Types.{is_wanted_at}
use Rattle.ob_model.specs.declared.reply.Answer.{Answer}
use Rattle.ob_model.specs.declared.reply.Answer.TheVariants.{Ticket}
use Rattle.ob_model.specs.declared.reply.Event.{Event}
use Rattle.ob_model.specs.declared.reply.Event.TheVariants.{Resume, Abandon}
use Rattle.ob_model.specs.declared.reply.Given.TheVariants.{Handle}
use Rattle.ob_model.specs.declared.reply.ParseRun.{ParseRun}
use Rattle.ob_model.specs.declared.reply.ParseRun.TheVariants as run
use Rattle.ob_model.specs.declared.state.PendingOpen.{PendingOpen}
use Rattle.ob_model.specs.declared.state.Wanted.{Wanted}
use Rattle.ob_model.specs.declared.terms.GrantOptions.{GrantOptions}
use Rattle.ob_model.specs.declared.terms.Reason.{Reason}
use Rattle.ob_model.specs.declared.terms.Reason.TheVariants.{Opened}
use Rattle.ob_runner.specs.Completes.{Made, GivesUp}
use Rattle.ob_c_state.specs.Machine.{Space, host}

-- a parse ends with no text
abbrev HasNoText : Option (ParseOutcome HostObject Kept) → Type 0
HasNoText None = Unit {0}
HasNoText (Some EndsItself) = Unit {0}
HasNoText (Some (EndsMade face inner)) = Unit {0}
HasNoText (Some (EndsReparse text)) = ⊥
HasNoText (Some (EndsRefused k)) = Unit {0}

no_text_below : (face : HostObject) (below : Option Kind) (rest text : List ℕ) → answer_below face below rest ≡ Reparse text → ⊥
no_text_below face None rest text e = let apart : Refused 3 ≡ Reparse text = e in cc
no_text_below face (Some kind) rest text e = go (is_itself kind rest) e
  where
    Whole : ParseAnswer HostObject Kept
    Whole = Front (length rest) (object_below face kind rest) (unopened true (object_below face kind rest))

    go : (itself : Bool) → (if itself then Itself else Whole) ≡ Reparse text → ⊥
    go true e = cc
    go false e = let apart : Whole ≡ Reparse text = e in cc

ends_without_text : {face : HostObject} {rest : List ℕ} {outcome : ParseOutcome HostObject Kept} → ParseEnds host face rest outcome → HasNoText (Some outcome)
ends_without_text (ends_itself e) = tt
ends_without_text {face} {rest} (ends_reparse {text = text} e) = absurd (no_text_below face (kind_below face.kind) rest text e)
ends_without_text (ends_refused e) = tt
ends_without_text (ends_made e all) = tt
ends_without_text (goes_on e some later) = ends_without_text later

module _ (s : Space) where
  parsed_without_text : (x : PendingOpen Kind) (parse : ParseRun) (outcome : Option (ParseOutcome HostObject Kept)) → IsParsed host s x parse outcome → HasNoText outcome
  parsed_without_text x run.Unrun outcome is = subst HasNoText (sym is) tt
  parsed_without_text x run.NoMemory outcome is = subst HasNoText (sym is) tt
  parsed_without_text x run.Ran None is = tt
  parsed_without_text x run.Ran (Some outcome) is = go (face_of s x.object) is
    where
      go : (face : Option HostObject) → MatchOption face ⊥ (λ f. ParseEnds host f x.rest outcome) → HasNoText (Some outcome)
      go None is = absurd is
      go (Some face) is = ends_without_text is

module _ (m : ℕ) (t : Space) where
  -- a handle that is granted or refused is no ticket
  no_grant : (u : Space) (p o : ℕ) (asked : GrantOptions) (reason : Reason) (status : Status) → GivesHandle host u p o asked reason status (Ticket m) t → ⊥
  no_grant u p o asked reason status (Ok value, v, granted, h) = let e : Ticket m ≡ gives status (Handle value) = h.0 in cc
  no_grant u p o asked reason status (Err refusal, v, granted, h) = let e : Ticket m ≡ answers refusal = h.0 in cc

  no_open : (u : Space) (p attrs : ℕ) (wanted : Wanted Kind) (o : ℕ) → OpensAt host u p attrs wanted Success o (Ticket m) t → ⊥
  no_open u p attrs wanted o h = go (is_wanted_at host u o wanted) h
    where
      go : (is : Bool) → MatchOption (first_refusal ((not is, ObjectTypeMismatch) ∷ [])) (GivesHandle host u p o (options_by attrs) Opened Success (Ticket m) t) (λ refusal. IsRefused u refusal (Ticket m) t) → ⊥
      go true h = no_grant u p o (options_by attrs) Opened Success h
      go false h = let e : Ticket m ≡ answers ObjectTypeMismatch = h.0 in cc

  no_ticket : (u : Space) (x : PendingOpen Kind) (outcome : Option (ParseOutcome HostObject Kept)) → HasNoText outcome → EndsOpen host u x outcome (Ticket m) t → ⊥
  no_ticket u x None none h = let e : Ticket m ≡ answers NoMemory = h.0 in cc
  no_ticket u x (Some EndsItself) none h = no_open u x.process x.attrs x.wanted x.object h
  no_ticket u x (Some (EndsMade face inner)) none h = no_open u x.process x.attrs x.wanted x.ticket h
  no_ticket u x (Some (EndsReparse text)) none h = absurd none
  no_ticket u x (Some (EndsRefused k)) none h = let e : Ticket m ≡ answers (TypeRefused k) = h.0 in cc

module _ (s : Space) where
  resumes_once : (m : ℕ) (t : Space) (x : PendingOpen Kind) (outcome : Option (ParseOutcome HostObject Kept)) → HasNoText outcome → Resumes host s x outcome (Ticket m) t → ⊥
  resumes_once m t x outcome none (v, h, settles) = go (is_live s x.process) h
    where
      u : Space
      u = parsed_state s x.ticket outcome

      go : (live : Bool) → MatchOption (first_refusal ((not live, ProcessGone) ∷ [])) (EndsOpen host u x outcome (Ticket m) v) (λ status. IsRefused u status (Ticket m) v) → ⊥
      go true h = no_ticket m v u x outcome none h
      go false h = let e : Ticket m ≡ answers ProcessGone = h.0 in cc

  brought_once : (m n : ℕ) (t : Space) (parse : ParseRun) (outcome : Option (ParseOutcome HostObject Kept)) → MatchOption (pending_of s n) ⊥ (λ x. IsParsed host s x parse outcome)
      → MatchOption (pending_of s n) ⊥ (λ x. Resumes host s x outcome (Ticket m) t) → ⊥
  brought_once m n t parse outcome = go (pending_of s n)
    where
      go : (found : Option (PendingOpen Kind)) → MatchOption found ⊥ (λ x. IsParsed host s x parse outcome) → MatchOption found ⊥ (λ x. Resumes host s x outcome (Ticket m) t) → ⊥
      go None brought h = h
      go (Some x) brought h = resumes_once m t x outcome (parsed_without_text s x parse outcome brought) h

  -- an open that is resumed is answered
  pub waits_once : (m n : ℕ) (t : Space) (parse : ParseRun) → Step host s (Resume n parse) (Ticket m) t → ⊥
  waits_once m n t run.Unrun (outcome, brought, h) = absurd brought
  waits_once m n t run.Ran (outcome, brought, h) = brought_once m n t run.Ran outcome brought h
  waits_once m n t run.NoMemory (outcome, brought, h) = brought_once m n t run.NoMemory outcome brought h

  -- or abandoned in one step
  pub gives_up_once : (n : ℕ) (t : Space) → (steps : List (Made Kind)) × GivesUp host n steps s t → (parse : ParseRun) × Step host s (Abandon n parse) (answers Success) t
  gives_up_once n t ([], h) = absurd h
  gives_up_once n t (step ∷ steps, inl (parse, asked, answered, made, none)) =
      (parse, subst (λ (a : Answer). Step host s (Abandon n parse) a t) answered (subst (λ (e : Event Kind). Step host s e step.1 t) asked made))
  gives_up_once n t (step ∷ steps, inr (parse, m, u, ran, asked, answered, made, does)) =
      absurd (waits_once m n u parse (subst (λ (a : Answer). Step host s (Resume n parse) a u) answered (subst (λ (e : Event Kind). Step host s e step.1 u) asked made)))
