-- The steps by which a handle gets another inherit flag: its value is free once it is closed, so that the duplicate of its
-- duplicate may have it.
use Rattle.std.proofs.Common.{◌≡◌, ◌≢◌, ◌∙◌, ℕ, ◌==◌, ◌&&◌, Bool, true, false, not, cond, List, [], ◌∷◌, ◌++◌, filter, find, Option, None, Some, refl, ap, sym, eqb-true}
use Rattle.std.specs.Prelude.{MatchOption}
use Rattle.std.specs.Option.{option_and_then, option_or}
use Rattle.std.proofs.lemmas.List.Folds.{find-append}
use Rattle.ob_base.specs.Handle.{key_of}
use Rattle.ob_base.specs.declared.status.Status.{Status}
use Rattle.ob_base.specs.declared.status.Status.TheVariants.{Success, ProcessGone, InvalidHandle}
use Rattle.ob_core.specs.Reached.{IsJustGiven, IsReached}
use Rattle.ob_model.proofs.ChosenSteps.{step_last, step_under}
use Rattle.ob_model.proofs.SoundPaths.{find_of, of_some}
use Rattle.ob_model.specs.Alike.{handle_in}
use Rattle.ob_model.specs.Choice.{given_under, revalued}
use Rattle.ob_model.specs.Closing.{is_handle, closed_handle}
use Rattle.ob_model.specs.Grants.{IsFreeValue, IsHandleValue, first_refusal}
use Rattle.ob_model.specs.Opens.{GivesHandle}
use Rattle.ob_model.specs.Procedures.{Procedures}
use Rattle.ob_model.specs.Refusals.{answers, IsRefused}
use Rattle.ob_model.specs.Settle.{settle}
use Rattle.ob_model.specs.State.{State, is_live, held_of}
use Rattle.ob_model.specs.Step.{Step}
use Rattle.ob_model.specs.declared.command.Command.TheVariants.{Duplicate}
use Rattle.ob_model.specs.declared.reply.Answer.{Answer}
use Rattle.ob_model.specs.declared.reply.Answer.TheVariants.{Done}
use Rattle.ob_model.specs.declared.reply.Event.TheVariants.{Start}
use Rattle.ob_model.specs.declared.reply.Given.{Given}
use Rattle.ob_model.specs.declared.reply.Given.TheVariants as given
use Rattle.ob_model.specs.declared.reply.Reply.{Reply}
use Rattle.ob_model.specs.declared.state.Held.{Held}
use Rattle.ob_model.specs.declared.terms.Reason.TheVariants.{Duplicated}
use Rattle.ob_c_state.specs.Inherit.{IsClosed, IsDuplicated, DuplicateIsRefused}
use Rattle.ob_c_state.proofs.HandleValues.{reached_values}

-- ---- the handles of a list

both_hold : (a b : Bool) → (a && b) ≡ true → (a ≡ true) × (b ≡ true)
both_hold true b e = (refl, e)
both_hold false b e = cc

found_passes : (test : Held → Bool) (hs : List Held) (h : Held) → find test hs ≡ Some h → test h ≡ true
found_passes test [] h e = cc
found_passes test (k ∷ hs) h e = go (test k) refl (found_passes test hs h) e
  where
    go : (b : Bool) → test k ≡ b → (find test hs ≡ Some h → test h ≡ true) → cond b (Some k) (find test hs) ≡ Some h → test h ≡ true
    go true passes more found = let same : k ≡ h = cc in ap test (sym same) ∙ passes
    go false fails more found = more found

found_value : (p value : ℕ) (hs : List Held) (h : Held) → find (is_handle p value) hs ≡ Some h → (h.process ≡ p) × (h.value ≡ value)
found_value p value hs h found =
    let both = both_hold (h.process == p) (h.value == value) (found_passes (is_handle p value) hs h found) in (eqb-true h.process p both.0, eqb-true h.value value both.1)

gone : (test : Held → Bool) (hs : List Held) → find test (filter (λ k. not (test k)) hs) ≡ None
gone test [] = refl
gone test (k ∷ hs) = go (test k) refl (gone test hs)
  where
    go : (b : Bool) → test k ≡ b → find test (filter (λ x. not (test x)) hs) ≡ None
        → find test (cond (not b) (k ∷ filter (λ x. not (test x)) hs) (filter (λ x. not (test x)) hs)) ≡ None
    go true passes more = more
    go false fails more = ap (λ t. cond t (Some k) (find test (filter (λ x. not (test x)) hs))) fails ∙ more

-- a handle of another value that comes last is not found
other_last : (p to : ℕ) (hs : List Held) (k : Held) → find (is_handle p to) hs ≡ None → k.value ≢ to → find (is_handle p to) (hs ++ k ∷ []) ≡ None
other_last p to hs k none other =
    find-append (is_handle p to) hs (k ∷ []) ∙ ap (λ o. option_or o (find (is_handle p to) (k ∷ []))) none ∙ go (is_handle p to k) refl
  where
    go : (b : Bool) → is_handle p to k ≡ b → cond b (Some k) None ≡ None
    go true passes = absurd (other (eqb-true k.value to (both_hold (k.process == p) (k.value == to) passes).1))
    go false fails = refl

module _ {K T F I : Type 0} where
  -- ---- the handle whose flag is set

  -- the value of a handle is the one that it is named by
  pub named_by : (s : State K T F I) (p handle : ℕ) (h : Held) → Some h ≡ option_and_then (held_of s p) (key_of handle) → key_of handle ≡ Some h.value
  named_by s p handle h found = go (key_of handle) found
    where
      go : (key : Option ℕ) → Some h ≡ option_and_then (held_of s p) key → key ≡ Some h.value
      go None found = cc
      go (Some value) found = ap Some (sym (found_value p value s.handles h (sym found)).1)

  pub held_is_valid : (g : Procedures K T F I) (s : State K T F I) (p handle : ℕ) (h : Held) → IsReached g s → Some h ≡ option_and_then (held_of s p) (key_of handle) → IsHandleValue h.value
  held_is_valid g s p handle h reached found = go (key_of handle) found
    where
      go : (key : Option ℕ) → Some h ≡ option_and_then (held_of s p) key → IsHandleValue h.value
      go None found = cc
      go (Some value) found =
          of_some (λ k. IsHandleValue k.value) (held_of s p value) h (sym found) (find_of (λ k. IsHandleValue k.value) (is_handle p value) s.handles (reached_values g s reached))

module _ {K T F I : Type 0} (g : Procedures K T F I) where
  abbrev status_of : Answer → Status
  status_of (Done reply) = reply.status
  status_of other = Success

  -- a duplicate of a handle that isn't there is refused, and nothing changes
  pub none_to_duplicate : (s t : State K T F I) (p handle : ℕ) (inherit : Bool) (reply : Reply) → option_and_then (held_of s p) (key_of handle) ≡ None
      → Step g s (Start p (Duplicate handle p inherit)) (Done reply) t → (t ≡ s) × DuplicateIsRefused g s p handle inherit reply.status
  none_to_duplicate s t p handle inherit reply none step =
      let is = refused (first_refusal ((not (is_live s p), ProcessGone) ∷ (not (is_live s p), ProcessGone) ∷ [])) step in
      (is.0, record { reply = reply; left = t; step = step; none = is.1; is = refl })
    where
      of_refusal : (status : Status) → IsRefused s status (Done reply) t → (t ≡ s) × (handle_in reply.given ≡ None)
      of_refusal status h = (h.1, ap (λ (a : Answer). handle_in (given_of a)) h.0)
        where
          given_of : Answer → Given
          given_of (Done r) = r.given
          given_of other = given.Nothing

      Gives : Held → Type 0
      Gives h = GivesHandle g s p h.object (record { inherit = inherit; exclusive = false }) Duplicated Success (Done reply) t

      at : (o : Option Held) → o ≡ None → MatchOption o (IsRefused s InvalidHandle (Done reply) t) Gives → (t ≡ s) × (handle_in reply.given ≡ None)
      at None e h = of_refusal InvalidHandle h
      at (Some x) e h = cc

      refused : (o : Option Status) → MatchOption o (MatchOption (option_and_then (held_of s p) (key_of handle)) (IsRefused s InvalidHandle (Done reply) t) Gives) (λ status. IsRefused s status (Done reply) t)
          → (t ≡ s) × (handle_in reply.given ≡ None)
      refused (Some status) h = of_refusal status h
      refused None h = at (option_and_then (held_of s p) (key_of handle)) none h

  -- a value whose handle was closed is free
  pub is_free : (s t : State K T F I) (p handle key : ℕ) → IsClosed g s p handle t → key_of handle ≡ Some key → IsHandleValue key → IsFreeValue t p key
  is_free s t p handle key made is_key valid = (valid, go (not (is_live s p)) made.step)
    where
      not_refused : (status : Status) → (status ≡ Success → ⊥) → IsRefused s status (Done made.reply) t → held_of t p key ≡ None
      not_refused status other refused = absurd (other (sym (ap status_of refused.0) ∙ made.done))

      Closed : Held → Type 0
      Closed h = (Done made.reply ≡ answers Success) × (t ≡ settle g (closed_handle g s h))

      at : (o : Option Held) → option_and_then (held_of s p) (key_of handle) ≡ o → MatchOption o (IsRefused s InvalidHandle (Done made.reply) t) Closed → held_of t p key ≡ None
      at None e refused = not_refused InvalidHandle (λ same. cc) refused
      at (Some h) e done =
          let found : held_of s p key ≡ Some h = sym (ap (option_and_then (held_of s p)) is_key) ∙ e in
          let own = found_value p key s.handles h found in
          ap (λ (x : State K T F I). find (is_handle p key) x.handles) done.1
          ∙ ap (λ q. find (is_handle p key) (filter (λ k. not (is_handle q h.value k)) s.handles)) own.0
          ∙ ap (λ v. find (is_handle p key) (filter (λ k. not (is_handle p v k)) s.handles)) own.1
          ∙ gone (is_handle p key) s.handles

      go : (b : Bool) → MatchOption (cond b (Some ProcessGone) None) (MatchOption (option_and_then (held_of s p) (key_of handle)) (IsRefused s InvalidHandle (Done made.reply) t) Closed)
          (λ status. IsRefused s status (Done made.reply) t) → held_of t p key ≡ None
      go true refused = not_refused ProcessGone (λ same. cc) refused
      go false does = at (option_and_then (held_of s p) (key_of handle)) refl does

  module _ (s u : State K T F I) (p handle from to : ℕ) (inherit : Bool) (made : IsDuplicated g s p handle inherit from u) where
    -- ---- the duplicate under another value

    pub just_given : IsReached g s → IsJustGiven g u p from
    just_given reached = (s, Start p (Duplicate handle p inherit), Done made.reply, reached, made.step, refl, made.given)

    -- a value that was free is free still, if the new handle has another
    pub still_free : IsFreeValue s p to → from ≢ to → IsFreeValue u p to
    still_free free other =
        let last = step_last g s u (Start p (Duplicate handle p inherit)) (Done made.reply) p from made.step made.given refl in
        (free.0, ap (find (is_handle p to)) last.1 ∙ other_last p to s.handles last.0 free.1 (λ same. other (sym last.3 ∙ same)))

    gives_it : (thing : Given) → handle_in thing ≡ Some from → handle_in (given_under to thing) ≡ Some to
    gives_it given.Nothing e = cc
    gives_it (given.Handle v) e = refl
    gives_it (given.Text text) e = cc
    gives_it (given.Process number values) e = cc
    gives_it (given.Page entries context) e = cc

    -- the duplicate might have had that value
    pub given_under_it : IsFreeValue s p to → IsDuplicated g s p handle inherit to (revalued to u)
    given_under_it free = record {
      reply = record made.reply { given = given_under to made.reply.given };
      step = step_under g s u (Start p (Duplicate handle p inherit)) (Done made.reply) p from to made.step made.given refl free;
      given = gives_it made.reply.given made.given;
    }
