-- The handle that was opened last is taken, and put back under its new value.
use Rattle.std.proofs.Common.{◌∙◌, ◌++◌, ◌∷◌, [], List, All, ◌<◌, find, filter, not, is_some, ◌≡◌, ◌==◌, true, ap, arith, sym, subst}
use Rattle.ob_model.specs.declared.state.Held.{Held}
use Rattle.ob_model.specs.declared.state.Process.{Process}
use Rattle.ob_model.specs.Closing.{is_handle}
use Rattle.ob_model.specs.Grants.{IsFreeValue}
use Rattle.ob_model.specs.Choice.{revalued}
use Rattle.ob_space.specs.Namespace.{parts, state_of}
use Rattle.ob_space.specs.Orderly.{IsBetweenSteps}
use Rattle.ob_core.specs.Reached.{IsJustGiven, IsReached}
use Rattle.ob_core.proofs.Reached.{last_given, reached_revalued}
use Rattle.ob_core.proofs.Revalued.{some_is_found, its_process, process_is_live, order_was_drawn, others_are_older, still_unused, core_revalued, revalued_state}
use Rattle.ob_core.proofs.namespace.Core.revalue.Goals as goal

pub unreachable-requires : goal.unreachable-requires
unreachable-requires g c =
    let s = state_of g.row.T-Kind.Denot (parts c.space.inside) in
    let between = subst (IsBetweenSteps g.T.TypeSet.idle) (sym c.space.view_is) c.self.invariant.0 in
    some_is_found s c.args.process c.args.from c.args.to (last_given g.T.TypeSet.procedures s c.args.process c.args.from (subst (λ x. IsJustGiven g.T.TypeSet.procedures x c.args.process c.args.from) (sym (c.space.view_is ∙ c.self.view_is)) c.requires.given)) between.sound
    (sym c.take.ensures.there ∙ c.in_default.is)

pub put-requires-clause-live : goal.put-requires-clause-live
put-requires-clause-live g c lifetimes bounds =
    let s = state_of g.row.T-Kind.Denot (parts c.space.inside) in
    let between = subst (IsBetweenSteps g.T.TypeSet.idle) (sym c.space.view_is) c.self.invariant.0 in
    subst (λ (ps : List Process). is_some (find (λ x. x.number == c.in-Some.held.process) ps) ≡ true) (sym c.take.ensures.processes)
    (process_is_live s c.args.process c.args.from c.args.to (last_given g.T.TypeSet.procedures s c.args.process c.args.from (subst (λ x. IsJustGiven g.T.TypeSet.procedures x c.args.process c.args.from) (sym (c.space.view_is ∙ c.self.view_is)) c.requires.given)) between.sound c.in-Some.held
    (sym c.take.ensures.there ∙ c.in-Some.is))

pub put-requires-clause-unused : goal.put-requires-clause-unused
put-requires-clause-unused g c lifetimes bounds =
    let s = state_of g.row.T-Kind.Denot (parts c.space.inside) in
    let between = subst (IsBetweenSteps g.T.TypeSet.idle) (sym c.space.view_is) c.self.invariant.0 in
    let given = subst (λ x. IsJustGiven g.T.TypeSet.procedures x c.args.process c.args.from) (sym (c.space.view_is ∙ c.self.view_is)) c.requires.given in
    let last = last_given g.T.TypeSet.procedures s c.args.process c.args.from given in
    ap (λ (hs : List Held). find (is_handle c.in-Some.held.process c.args.to) hs) c.take.ensures.others
    ∙ ap (λ q. find (is_handle q c.args.to) (filter (λ k. not (is_handle c.args.process c.args.from k)) s.handles))
    (its_process s c.args.process c.args.from c.args.to last between.sound c.in-Some.held (sym c.take.ensures.there ∙ c.in-Some.is))
    ∙ still_unused s c.args.process c.args.from c.args.to last between.sound (subst (λ x. IsFreeValue x c.args.process c.args.to) (sym (c.space.view_is ∙ c.self.view_is)) c.requires.free)

pub put-requires-clause-newest : goal.put-requires-clause-newest
put-requires-clause-newest g c lifetimes bounds =
    let s = state_of g.row.T-Kind.Denot (parts c.space.inside) in
    let between = subst (IsBetweenSteps g.T.TypeSet.idle) (sym c.space.view_is) c.self.invariant.0 in
    subst (All (λ h. h.order < c.in-Some.held.order)) (sym c.take.ensures.others)
    (others_are_older s c.args.process c.args.from c.args.to (last_given g.T.TypeSet.procedures s c.args.process c.args.from (subst (λ x. IsJustGiven g.T.TypeSet.procedures x c.args.process c.args.from) (sym (c.space.view_is ∙ c.self.view_is)) c.requires.given)) between.sound c.in-Some.held
    (sym c.take.ensures.there ∙ c.in-Some.is) c.len.ensures.rising)

pub put-requires-clause-number : goal.put-requires-clause-number
put-requires-clause-number g c lifetimes bounds =
    let s = state_of g.row.T-Kind.Denot (parts c.space.inside) in
    let between = subst (IsBetweenSteps g.T.TypeSet.idle) (sym c.space.view_is) c.self.invariant.0 in
    let drawn =
    order_was_drawn s c.args.process c.args.from c.args.to (last_given g.T.TypeSet.procedures s c.args.process c.args.from (subst (λ x. IsJustGiven g.T.TypeSet.procedures x c.args.process c.args.from) (sym (c.space.view_is ∙ c.self.view_is)) c.requires.given)) between.sound c.in-Some.held
    (sym c.take.ensures.there ∙ c.in-Some.is) between.orderly.opened in
    let next = c.next_order.ensures in
    let same = ap (λ x. x.next_order) (c.space.view_is ∙ c.self.view_is) in
    omega (arith, drawn, next, same)

pub invariant_of-result : goal.invariant_of-result
invariant_of-result g c =
    let s = state_of g.row.T-Kind.Denot (parts c.space.inside) in
    let between = subst (IsBetweenSteps g.T.TypeSet.idle) (sym c.space.view_is) c.self.invariant.0 in
    let given = subst (λ x. IsJustGiven g.T.TypeSet.procedures x c.args.process c.args.from) (sym (c.space.view_is ∙ c.self.view_is)) c.requires.given in
    let last = last_given g.T.TypeSet.procedures s c.args.process c.args.from given in
    let free = subst (λ x. IsFreeValue x c.args.process c.args.to) (sym (c.space.view_is ∙ c.self.view_is)) c.requires.free in
    subst (λ x. IsBetweenSteps g.T.TypeSet.idle x × IsReached g.T.TypeSet.procedures x)
    (sym (revalued_state g.row.T-Kind.Denot (parts c.space.inside) c.args.process c.args.from c.args.to last between.sound c.in-Some.held c.put.new.self (sym c.take.ensures.there ∙ c.in-Some.is)
    (c.in_ok-put.ensures.last ∙ ap (λ hs. hs ++ record c.in-Some.held { value = c.args.to } ∷ []) c.take.ensures.others) (c.in_ok-put.ensures.processes ∙ c.take.ensures.processes)))
    (core_revalued s c.args.process c.args.from c.args.to last between.sound free g.T.TypeSet.idle between, reached_revalued g.T.TypeSet.procedures s c.args.process c.args.from given c.args.to free)

pub returns : goal.returns
returns g c =
    let s = state_of g.row.T-Kind.Denot (parts c.space.inside) in
    let between = subst (IsBetweenSteps g.T.TypeSet.idle) (sym c.space.view_is) c.self.invariant.0 in
    let given = subst (λ x. IsJustGiven g.T.TypeSet.procedures x c.args.process c.args.from) (sym (c.space.view_is ∙ c.self.view_is)) c.requires.given in
    let last = last_given g.T.TypeSet.procedures s c.args.process c.args.from given in
    revalued_state g.row.T-Kind.Denot (parts c.space.inside) c.args.process c.args.from c.args.to last between.sound c.in-Some.held c.put.new.self (sym c.take.ensures.there ∙ c.in-Some.is)
    (c.in_ok-put.ensures.last ∙ ap (λ hs. hs ++ record c.in-Some.held { value = c.args.to } ∷ []) c.take.ensures.others) (c.in_ok-put.ensures.processes ∙ c.take.ensures.processes)
    ∙ ap (revalued c.args.to) (c.space.view_is ∙ c.self.view_is)
