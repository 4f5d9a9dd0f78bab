-- All that comes is in the child's table; each is opened by the set, or goes again.
use Rattle.std.proofs.Common.{◌∙◌, ◌+◌, ◌≤◌, ◌++◌, ◌∷◌, [], ℕ, Bool, List, cond, append-nil, length, vec_len, vec_capacity, ap, sym, subst, refl, arith}
use Rattle.ob_model.specs.Processes.{values_in}
use Rattle.ob_life.proofs.Beginnings.{after, no_child, started, one_turn, no_values}
use Rattle.ob_life.proofs.child.begin_with.Goals.{then-inherit_one, else-inherit_one}
use Rattle.ob_life.proofs.child.begin_with.Goals as goal
use Rattle.ob_space.specs.Namespace.{parts, state_of}
use Rattle.ob_model.specs.Sound.{IsSound}

pub start_with-requires-clause-alone : goal.start_with-requires-clause-alone
start_with-requires-clause-alone g c κs within = no_child (state_of g.row.T-Kind.Denot (parts c.space.inside)) (subst IsSound (sym c.space.view_is) c.requires.sound)

pub loop-held-init : goal.loop-held-init
loop-held-init g c =
    let s = state_of g.row.T-Kind.Denot (parts c.space.inside) in
    let all = c.args.inherited.now in
    let sound : IsSound s = subst IsSound (sym c.space.view_is) c.requires.sound in
    rw (← c.space.view_is) (record {
      state =
          started g.T.TypeSet.procedures s c.args.parent sound all c.requires.apart c.view-map.result.local _ c.view-map.ensures.local
          (λ i. record s { handles = c.in_ok-start_with.ensures.handles i; processes = c.in_ok-start_with.ensures.last i; next_process = s.next_process + 1; next_order = s.next_order + length all });
      values = c.in_ok-values.ensures.items ∙ sym (no_values g.T.TypeSet.procedures s c.args.parent sound all c.requires.apart);
      child = refl;
      few = let none = c.in_ok-values.ensures.len in omega (arith, none);
      room = let much = c.in_ok-values.ensures.capacity in omega (arith, much);
    })

pub loop-held-preserved : goal.loop-held-preserved
loop-held-preserved g c =
    let s = c.args.space.now in
    let all = c.args.inherited.now in
    let k = c.loop-held.held-index in
    let x = c.held-item.result in
    let before = c.loop-held.invariant in
    let step =
    one_turn g.T.TypeSet.procedures s c.args.parent c.requires.sound all c.requires.apart k x c.loop-held-test.true c.held-item.is
    c.loop-held.space c.inherit_one.new.space c.inherit_one.result before.state (rw before.child at c.inherit_one.ensures) in
    let was = values_in (after g.T.TypeSet.procedures s c.args.parent all k) s.next_process in
    elim c.if-inherit_one.branch [
      | then-inherit_one w ↦ record {
        state = step.0;
        values =
            ap (λ v. v.items) w.values-is ∙ w.append.ensures.items ∙ ap (λ (xs : List ℕ). xs ++ x.value ∷ []) before.values
            ∙ sym (step.1 ∙ ap (λ (b : Bool). was ++ cond b (x.value ∷ []) []) w.if-inherit_one.true);
        child = before.child;
        few = subst (λ v. vec_len v ≤ k + 1) (sym w.values-is) (let one = w.append.ensures.len in let few = before.few in omega (arith, one, few));
        room = subst (λ v. length all ≤ vec_capacity v) (sym w.values-is) (let more = w.append.ensures.room in let room = before.room in omega (arith, more, room));
      }
      | else-inherit_one w ↦ record {
        state = step.0;
        values = ap (λ v. v.items) w.values-is ∙ before.values ∙ sym (step.1 ∙ ap (λ (b : Bool). was ++ cond b (x.value ∷ []) []) w.if-inherit_one.false ∙ append-nil was);
        child = before.child;
        few = subst (λ v. vec_len v ≤ k + 1) (sym w.values-is) (let few = before.few in omega (arith, few));
        room = subst (λ v. length all ≤ vec_capacity v) (sym w.values-is) before.room;
      }
    ]
