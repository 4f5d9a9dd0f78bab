-- No open is pending under the ticket, what it pins isn't an object of the set, or its face tells.
use Rattle.std.proofs.Common.{◌∙◌, Some, ap, refl, sym, subst, false, IsTrue}
use Rattle.std.specs.Option.{option_copied}
use Rattle.ob_model.specs.PendingOpens.{pending_of}
use Rattle.ob_types.specs.Parse.{asked_of, IsFor}
use Rattle.ob_types.specs.Pending.{run_of, brought as end_of}
use Rattle.ob_opens.proofs.Abandoned.{none_pending, none_stored, none_of_set, awaits_it, is_for, faced, comes}
use Rattle.ob_opens.proofs.FoundOpen.{found_open}
use Rattle.ob_opens.proofs.awaited.is_awaited.Goals as goal
use Rattle.ob_space.proofs.Shown.{shown}

pub returns-in_default-clause-exact : goal.returns-in_default-clause-exact
returns-in_default-clause-exact g c =
    let s = c.args.space.now in
    let none = ap (λ n. pending_of s n) (sym c.ticket.ensures) ∙ found_open c.space.view_is c.ticket.result _ c.get.ensures ∙ ap option_copied c.in_default.is in
    ((λ never. absurd (nothing_is_true never)), (λ h. absurd (none_pending g.T.TypeSet.procedures s (asked_of (end_of c.args.brought.now)) none h)))
  where
    nothing_is_true : IsTrue false → ⊥
    nothing_is_true e = cc

pub returns-in_default-get-clause-exact : goal.returns-in_default-get-clause-exact
returns-in_default-get-clause-exact g c =
    let s = c.args.space.now in
    let found = ap (λ n. pending_of s n) (sym c.ticket.ensures) ∙ found_open c.space.view_is c.ticket.result _ c.get.ensures ∙ ap option_copied c.in-Some.is in
    let none = sym c.get-2.ensures.stored ∙ ap option_copied c.in_default-get.is in (
      (λ never. absurd (nothing_is_true never)),
      (λ h.
          absurd (none_stored g.T.TypeSet.procedures s (asked_of (end_of c.args.brought.now)) c.in-Some.pending.now found c.space.inside.store (shown c.space.inside.store (sym c.space.view_is) refl refl) none h)),
    )
  where
    nothing_is_true : IsTrue false → ⊥
    nothing_is_true e = cc

pub returns-in_default-body : goal.returns-in_default-body
returns-in_default-body g c =
    let s = c.args.space.now in
    let found = ap (λ n. pending_of s n) (sym c.ticket.ensures) ∙ found_open c.space.view_is c.ticket.result _ c.get.ensures ∙ ap option_copied c.in-Some.is in
    let there = sym c.get-2.ensures.stored ∙ ap option_copied c.in-Some-get.is in
    record {
      exact = (
        (λ never. absurd (nothing_is_true never)),
        (λ h.
            absurd (none_of_set g.T.TypeSet.procedures s (asked_of (end_of c.args.brought.now)) c.in-Some.pending.now found c.space.inside.store (shown c.space.inside.store (sym c.space.view_is) refl refl)
            c.in-Some-get.stored.now there c.in_default-body.not-Other h)),
      );
      taken = λ never. absurd (nothing_is_true never);
      pending = λ never. absurd (nothing_is_true never);
    }
  where
    nothing_is_true : IsTrue false → ⊥
    nothing_is_true e = cc

pub returns-clause-exact : goal.returns-clause-exact
returns-clause-exact g c =
    let s = c.args.space.now in
    let asked = asked_of (end_of c.args.brought.now) in
    let found = ap (λ n. pending_of s n) (sym c.ticket.ensures) ∙ found_open c.space.view_is c.ticket.result _ c.get.ensures ∙ ap option_copied c.in-Some.is in
    let there = sym c.get-2.ensures.stored ∙ ap option_copied c.in-Some-get.is in (
      (λ is.
          awaits_it g.T.TypeSet.procedures s asked c.in-Some.pending.now found c.space.inside.store (shown c.space.inside.store (sym c.space.view_is) refl refl) c.in-Some-get.stored.now there c.in-Other.face c.in-Other.inner c.in-Other.is
          (subst (λ pinned. IsFor g.T.TypeSet.procedures asked c.in-Some.pending.now pinned) c.deref.ensures (c.is_for.ensures.exact.0 is))),
      (λ h.
          c.is_for.ensures.exact.1 (subst (λ pinned. IsFor g.T.TypeSet.procedures asked c.in-Some.pending.now pinned) (sym c.deref.ensures)
          (is_for g.T.TypeSet.procedures s asked c.in-Some.pending.now found c.space.inside.store (shown c.space.inside.store (sym c.space.view_is) refl refl) c.in-Some-get.stored.now there c.in-Other.face c.in-Other.inner c.in-Other.is h))),
    )

pub returns-clause-taken : goal.returns-clause-taken
returns-clause-taken g c = λ is.
    let s = c.args.space.now in
    let asked = asked_of (end_of c.args.brought.now) in
    let found = ap (λ n. pending_of s n) (sym c.ticket.ensures) ∙ found_open c.space.view_is c.ticket.result _ c.get.ensures ∙ ap option_copied c.in-Some.is in
    let there = sym c.get-2.ensures.stored ∙ ap option_copied c.in-Some-get.is in
    comes g.T.TypeSet.procedures s (end_of c.args.brought.now).ticket c.in-Some.pending.now found (run_of c.args.brought.now) (end_of c.args.brought.now).outcome
    (c.is_for.ensures.taken is s
    (faced g.T.TypeSet.procedures s asked c.in-Some.pending.now found c.space.inside.store (shown c.space.inside.store (sym c.space.view_is) refl refl) c.in-Some-get.stored.now there c.in-Other.face c.in-Other.inner c.in-Other.is
    ∙ ap Some (sym c.deref.ensures)))
