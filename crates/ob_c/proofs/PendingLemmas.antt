-- Opens in two phases from what their parts do.
use Rattle.std.proofs.Common.{◌≡◌, ℕ, ◌==◌, ◌++◌, true, false, List, length, drop, nat_le, Option, None, Some, Result, option_map, refl, ap, sym, subst}
use Rattle.std.specs.Prelude.{IsSome, MatchBool, MatchOption}
use Rattle.ob_base.specs.Status.{code_of}
use Rattle.ob_base.specs.declared.status.Status.{Status}
use Rattle.ob_base.specs.declared.status.Status.TheVariants.{BufferTooSmall, InvalidParameter, Success}
use Rattle.ob_host.specs.Kept.{Kept}
use Rattle.ob_host.specs.declared.kind.Kind.{Kind}
use Rattle.ob_host.specs.declared.object.HostObject.{HostObject}
use Rattle.ob_model.specs.PendingOpens.{pending_of}
use Rattle.ob_model.specs.Refusals.{answers}
use Rattle.ob_model.specs.Sound.{IsSound, Stands}
use Rattle.ob_model.specs.State.{body_of}
use Rattle.ob_model.specs.Step.{Step}
use Rattle.ob_model.specs.declared.command.Command.{Command}
use Rattle.ob_model.specs.declared.reply.Event.TheVariants.{Abandon}
use Rattle.ob_model.specs.declared.reply.ParseRun.TheVariants.{Unrun}
use Rattle.ob_model.specs.declared.state.Body.{Body}
use Rattle.ob_model.specs.declared.state.PendingOpen.{PendingOpen}
use Rattle.ob_model.proofs.SoundPaths.{find_of, of_some}
use Rattle.ob_runner.specs.declared.begun.Begun.{Begun}
use Rattle.ob_c_state.specs.Machine.{Space, host}
use Rattle.ob_c_state.specs.Pending.{BeginsOpen, Cancels}
use Rattle.ob_c.specs.Pending.{CopiesRest, ReportsBegin, ReportsBegun, ReportsPending, no_pending, pending_code, pending_reported}
use Rattle.ob_c.specs.declared.pending.BegunOpen.{BegunOpen}
use Rattle.ob_c.proofs.Held.{has_body}

-- what was taken out of a caller's struct is begun, and put back
pub begins_open : (p : ℕ) (command : Command Kind) (old new : Option Space) (s t u lent left : Space) (begun : Result Begun Status) (status handle : ℕ) (reported : BegunOpen) (was is : List ℕ) (needed : ℕ)
    → Some s ≡ old → new ≡ Some u → lent ≡ s → BeginsOpen p command lent begun t → left ≡ t → ReportsBegun begun left u status handle reported was is needed
    → ReportsBegin p command old new status handle reported was is needed
begins_open p command old new s t u lent left begun status handle reported was is needed taken put same begins next report =
    subst (λ (o : Option Space). ReportsBegin p command o new status handle reported was is needed) taken
    (begun, t, u, subst (λ (v : Space). BeginsOpen p command v begun t) same begins, put, subst (λ (v : Space). ReportsBegun begun v u status handle reported was is needed) next report)

-- an open that is pending has an object, and a rest
module _ (found : Option (PendingOpen Kind)) where
  pub no_object : IsSome found → None ≡ option_map (λ x. x.object) found → ⊥
  no_object some none = go found some none
    where
      go : (x : Option (PendingOpen Kind)) → IsSome x → None ≡ option_map (λ y. y.object) x → ⊥
      go None some none = cc
      go (Some x) some none = cc

  pub no_rest : IsSome found → None ≡ option_map (λ x. x.rest) found → ⊥
  no_rest some none = go found some none
    where
      go : (x : Option (PendingOpen Kind)) → IsSome x → None ≡ option_map (λ y. y.rest) x → ⊥
      go None some none = cc
      go (Some x) some none = cc

  module _ (rest : List ℕ) (has : Some rest ≡ option_map (λ x. x.rest) found) (old new : List ℕ) (needed : ℕ) (long : needed ≡ length rest) where
    -- the rest was written
    pub copied : nat_le (length rest) (length old) ≡ true → new ≡ rest ++ drop (length rest) old → CopiesRest found true old new needed
    copied fits written = go found has
      where
        go : (x : Option (PendingOpen Kind)) → Some rest ≡ option_map (λ y. y.rest) x → CopiesRest x true old new needed
        go None has = cc
        go (Some x) has =
            let same : rest ≡ x.rest = cc in
            subst (λ (r : List ℕ). (needed ≡ length r) × (true ≡ nat_le (length r) (length old)) × (new ≡ r ++ drop (length r) old)) same (long, sym fits, written)

    -- or it was too long
    pub not_copied : nat_le (length rest) (length old) ≡ false → new ≡ old → CopiesRest found false old new needed
    not_copied fits same = go found has
      where
        go : (x : Option (PendingOpen Kind)) → Some rest ≡ option_map (λ y. y.rest) x → CopiesRest x false old new needed
        go None has = cc
        go (Some x) has =
            let is : rest ≡ x.rest = cc in
            subst (λ (r : List ℕ). (needed ≡ length r) × (false ≡ nat_le (length r) (length old)) × (new ≡ old)) is (long, sym fits, same)

-- the object at which an open is pending is there
pub pending_has_body : (s : Space) → IsSound s → (n o : ℕ) → Some o ≡ option_map (λ x. x.object) (pending_of s n) → IsSome (body_of s o)
pending_has_body s sound n o is = go (pending_of s n) refl is
  where
    go : (found : Option (PendingOpen Kind)) → pending_of s n ≡ found → Some o ≡ option_map (λ x. x.object) found → IsSome (body_of s o)
    go None e is = cc
    go (Some x) e is =
        let same : o ≡ x.object = cc in
        let stands : Stands s x.object = of_some (λ y. Stands s y.object) (pending_of s n) x e (find_of (λ y. Stands s y.object) (λ y. y.ticket == n) s.pending sound.pending.standing) in
        has_body s sound o (subst (Stands s) (sym same) stands)

pub no_body : (s : Space) → IsSound s → (n o : ℕ) → Some o ≡ option_map (λ x. x.object) (pending_of s n) → None ≡ body_of s o → ⊥
no_body s sound n o is none = go (body_of s o) (pending_has_body s sound n o is) none
  where
    go : (x : Option (Body HostObject Kept)) → IsSome x → None ≡ x → ⊥
    go None some none = cc
    go (Some x) some none = cc

module _ (t : Space) (ticket o : ℕ) (body : Body HostObject Kept) (at : option_map (λ x. x.object) (pending_of t ticket) ≡ Some o) (is : body_of t o ≡ Some body) (old new : List ℕ) (needed : ℕ) where
  -- what is reported of a rest that fits, and of one that doesn't
  abbrev Reported : PendingOpen Kind → Space → ℕ → BegunOpen → Type 0
  Reported x u status reported = (u ≡ t) × (status ≡ pending_code) × (reported ≡ pending_reported ticket x.object body) × (new ≡ x.rest ++ drop (length x.rest) old)

  abbrev Abandoned : Space → ℕ → BegunOpen → Type 0
  Abandoned u status reported = Step host t (Abandon ticket Unrun) (answers Success) u × (status ≡ code_of BufferTooSmall) × (reported ≡ no_pending) × (new ≡ old)

  -- a pending open is reported
  pub reports_pending : CopiesRest (pending_of t ticket) true old new needed → ReportsPending t ticket t pending_code (pending_reported ticket o body) old new needed
  reports_pending copies = go (pending_of t ticket) refl at copies
    where
      go : (found : Option (PendingOpen Kind)) → pending_of t ticket ≡ found → option_map (λ x. x.object) found ≡ Some o → CopiesRest found true old new needed
          → ReportsPending t ticket t pending_code (pending_reported ticket o body) old new needed
      go None e at copies = absurd copies
      go (Some x) e at copies =
          let same : o ≡ x.object = cc in
          let reported : Reported x t pending_code (pending_reported ticket o body) = (refl, refl, ap (λ k. pending_reported ticket k body) same, copies.2) in (
            x,
            body,
            e,
            subst (λ k. body_of t k ≡ Some body) same is,
            copies.0,
            subst (λ b. MatchBool b (Reported x t pending_code (pending_reported ticket o body)) (Abandoned t pending_code (pending_reported ticket o body))) copies.1 reported,
          )

  -- or abandoned, where its rest doesn't fit
  pub reports_small : (u : Space) (status : Status) → CopiesRest (pending_of t ticket) false old new needed → Cancels ticket t status u → ReportsPending t ticket u (code_of BufferTooSmall) no_pending old new needed
  reports_small u status copies cancels = go (pending_of t ticket) refl at copies cancels
    where
      go : (found : Option (PendingOpen Kind)) → pending_of t ticket ≡ found → option_map (λ x. x.object) found ≡ Some o → CopiesRest found false old new needed
          → MatchOption found ((status ≡ InvalidParameter) × (u ≡ t)) (λ _. (status ≡ Success) × Step host t (Abandon ticket Unrun) (answers Success) u)
          → ReportsPending t ticket u (code_of BufferTooSmall) no_pending old new needed
      go None e at copies cancelled = absurd copies
      go (Some x) e at copies cancelled =
          let same : o ≡ x.object = cc in
          let abandoned : Abandoned u (code_of BufferTooSmall) no_pending = (cancelled.1, refl, refl, copies.2) in (
            x,
            body,
            e,
            subst (λ k. body_of t k ≡ Some body) same is,
            copies.0,
            subst (λ b. MatchBool b (Reported x u (code_of BufferTooSmall) no_pending) (Abandoned u (code_of BufferTooSmall) no_pending)) copies.1 abandoned,
          )
