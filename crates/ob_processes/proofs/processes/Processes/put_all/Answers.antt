-- One handle more under a value and an order of its own; without those of the process all is as it was.
use Rattle.std.proofs.Common.{◌∙◌, ◌<◌, ◌==◌, ◌++◌, ◌∷◌, [], List, true, ◌+◌, not, take, All, ap, sym, subst, arith}
use Rattle.std.specs.List.{find, filter}
use Rattle.std.proofs.lemmas.List.{append_assoc, append-nil}
use Rattle.ob_model.specs.declared.state.Held.{Held}
use Rattle.ob_model.specs.Closing.{is_handle}
use Rattle.ob_model.specs.Grants.{IsHandleValue}
use Rattle.ob_processes.specs.Handed.{handed_on}
use Rattle.ob_processes.proofs.Handing.{one_more, unused, newest, others_left, passed, so_far, others_before}
use Rattle.ob_processes.proofs.processes.Processes.put_all.Goals as goal

pub returns-in_err-reserve-clause-others : goal.returns-in_err-reserve-clause-others
returns-in_err-reserve-clause-others g c =
    ap (λ r. filter (λ h. not (h.process == c.args.process)) r.handles) c.reserve.ensures
    ∙ ap (filter (λ h. not (h.process == c.args.process))) (sym (append-nil c.args.self.now.handles))
    ∙ others_left c.args.process c.args.order c.args.self.now.handles [] c.requires.alone

pub put-requires-clause-value : goal.put-requires-clause-value
put-requires-clause-value g c κs within =
    subst (λ (h : Held). IsHandleValue h.value) (sym c.held-item.is) (c.requires.values c.loop-held.held-index c.held-item.result c.loop-held-test.true)

pub put-requires-clause-unused : goal.put-requires-clause-unused
put-requires-clause-unused g c κs within =
    ap (find (is_handle c.args.process c.held-item.result.value)) c.loop-held.invariant.handles
    ∙ unused c.args.process c.args.order c.args.self.now.handles (take c.loop-held.held-index c.args.inherited.now) c.requires.alone c.held-item.result.value
    (others_before c.args.inherited.now c.loop-held.held-index c.held-item.result c.loop-held-test.true c.held-item.is c.requires.apart)

pub put-requires-clause-newest : goal.put-requires-clause-newest
put-requires-clause-newest g c κs within =
    subst (All (λ h. h.order < c.loop-held.next)) (sym c.loop-held.invariant.handles)
    (subst (λ n. All (λ h. h.order < n) (c.args.self.now.handles ++ handed_on c.args.process c.args.order (take c.loop-held.held-index c.args.inherited.now)))
    (ap (λ n. c.args.order + n) (so_far c.args.inherited.now c.loop-held.held-index c.held-item.result c.loop-held-test.true c.held-item.is) ∙ sym c.loop-held.invariant.next)
    (newest c.args.process c.args.order c.args.self.now.handles (take c.loop-held.held-index c.args.inherited.now) c.requires.alone c.requires.newest))

pub returns-in_err-put-clause-others : goal.returns-in_err-put-clause-others
returns-in_err-put-clause-others g c =
    ap (λ r. filter (λ h. not (h.process == c.args.process)) r.handles) c.in_err-put.ensures.unchanged
    ∙ ap (filter (λ h. not (h.process == c.args.process))) c.loop-held.invariant.handles
    ∙ others_left c.args.process c.args.order c.args.self.now.handles (take c.loop-held.held-index c.args.inherited.now) c.requires.alone

pub loop-held-preserved : goal.loop-held-preserved
loop-held-preserved g c =
    let now = c.args.inherited.now in
    let turn = c.held-item.result in
    let order = c.loop-held.invariant.next ∙ ap (λ n. c.args.order + n) (sym (so_far now c.loop-held.held-index turn c.loop-held-test.true c.held-item.is)) in
    record {
      handles =
          c.in_ok-put.ensures.last
          ∙ ap (λ (hs : List Held). hs ++ record { process = c.args.process; value = turn.value; object = turn.object; inherit = true; order = c.loop-held.next } ∷ []) c.loop-held.invariant.handles
          ∙ append_assoc c.args.self.now.handles _ _
          ∙ ap (λ n. c.args.self.now.handles ++ (handed_on c.args.process c.args.order (take c.loop-held.held-index now) ++ record { process = c.args.process; value = turn.value; object = turn.object; inherit = true; order = n } ∷ [])) order
          ∙ ap (λ (hs : List Held). c.args.self.now.handles ++ hs) (sym (one_more c.args.process c.args.order (take c.loop-held.held-index now) turn))
          ∙ ap (λ (hs : List Held). c.args.self.now.handles ++ handed_on c.args.process c.args.order hs) (sym (passed now c.loop-held.held-index turn c.loop-held-test.true c.held-item.is));
      processes = c.in_ok-put.ensures.processes ∙ c.loop-held.invariant.processes;
      next = let before = c.loop-held.invariant.next in omega (arith, before);
    }

pub returns-clause-others : goal.returns-clause-others
returns-clause-others g c =
    ap (filter (λ h. not (h.process == c.args.process))) c.loop-held.invariant.handles
    ∙ others_left c.args.process c.args.order c.args.self.now.handles (take c.loop-held.held-index c.args.inherited.now) c.requires.alone
