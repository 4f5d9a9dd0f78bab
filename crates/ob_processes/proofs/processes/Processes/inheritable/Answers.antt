-- The handles of a process that a child inherits are those of its table.
use Rattle.std.proofs.Common.{◌≡◌, ◌≢◌, ◌∙◌, All, ap, Some, None, sym, subst, arith}
use Rattle.std.specs.Prelude.{AllPairs}
use Rattle.std.specs.List.{filter}
use Rattle.std.specs.Result.{IfOk}
use Rattle.std.proofs.lemmas.List.Elements.{All-nil}
use Rattle.ob_model.specs.declared.state.Held.{Held}
use Rattle.ob_model.specs.Grants.{IsHandleValue}
use Rattle.ob_processes.proofs.Seen.{in_found}
use Rattle.ob_processes.proofs.processes.Processes.inheritable.Goals as goal

pub returns-in-Some : goal.returns-in-Some
returns-in-Some g c = record {
  list =
      subst (λ handles. IfOk c.inheritable.result (λ list. list.items ≡ filter (λ h. h.inherit) handles))
      (sym (in_found c.self.inside.maps c.self.inside.live.entries c.self.inside.total c.self.invariant.running c.args.self.now c.self.view_is c.process.inside.0 c.args.process c.process.view_is
      (Some c.in-Some.live.now) (sym c.in-Some.ensures.value)))
      c.inheritable.ensures.list;
  values = c.inheritable.ensures.values;
  apart = c.inheritable.ensures.apart;
}

pub returns-in-None : goal.returns-in-None
returns-in-None g c = record {
  list =
      c.new.ensures.items
      ∙ sym (ap (filter (λ h. h.inherit))
      (in_found c.self.inside.maps c.self.inside.live.entries c.self.inside.total c.self.invariant.running c.args.self.now c.self.view_is c.process.inside.0 c.args.process c.process.view_is None
      (sym c.in-None.ensures.value)));
  values = subst (All (λ (h : Held). IsHandleValue h.value)) (sym c.new.ensures.items) (All-nil (λ (h : Held). IsHandleValue h.value));
  apart = subst (AllPairs (λ (a : Held) b. a.value ≢ b.value)) (sym c.new.ensures.items) (λ i j d less within. absurd (omega (arith, within)));
}
