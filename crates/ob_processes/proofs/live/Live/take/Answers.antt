-- A handle less is counted, or none was there.
use Rattle.std.proofs.Common.{◌∙◌, ◌==◌, Some, ap, sym, length, filter}
use Rattle.ob_processes.proofs.Counting.{counted_same, counted_fewer, length_fewer, one_of_value}
use Rattle.ob_processes.proofs.live.Live.take.Goals as goal

pub invariant_of-self : goal.invariant_of-self
invariant_of-self g c = counted_same (g.H.HandleTable.handles c.self.inside.table) c.self.inside.counts c.self.invariant c.args.value (g.H.HandleTable.handles c.take.new.self) c.take.ensures.others (sym c.take.ensures.there ∙ c.in_err-taken.was)

pub returns-in_err-taken-clause-fewer : goal.returns-in_err-taken-clause-fewer
returns-in_err-taken-clause-fewer g c =
    length_fewer (g.H.HandleTable.handles c.self.inside.table) c.self.inside.counts c.self.invariant c.args.value (g.H.HandleTable.handles c.take.new.self) c.take.ensures.others c.from_residual.result (c.from_residual.ensures ∙ sym c.in_err-taken.was ∙ c.take.ensures.there)
    ∙ ap length c.self.view_is

pub invariant_of-self-2 : goal.invariant_of-self-2
invariant_of-self-2 g c = counted_fewer (g.H.HandleTable.handles c.self.inside.table) c.self.inside.counts c.self.invariant c.args.value (g.H.HandleTable.handles c.take.new.self) c.take.ensures.others c.in_ok-taken.taken c.lower.new.self (sym c.take.ensures.there ∙ c.in_ok-taken.was) c.lower.ensures.counted

pub returns-clause-one : goal.returns-clause-one
returns-clause-one g c =
    ap (λ hs. filter (λ k. k.value == c.args.value) hs) (sym c.self.view_is)
    ∙ one_of_value (g.H.HandleTable.handles c.self.inside.table) c.args.value c.in_ok-taken.taken c.self.invariant.table.apart (sym c.take.ensures.there ∙ c.in_ok-taken.was)

pub returns-clause-fewer : goal.returns-clause-fewer
returns-clause-fewer g c =
    length_fewer (g.H.HandleTable.handles c.self.inside.table) c.self.inside.counts c.self.invariant c.args.value (g.H.HandleTable.handles c.take.new.self) c.take.ensures.others (Some c.in_ok-taken.taken) (sym c.in_ok-taken.was ∙ c.take.ensures.there) ∙ ap length c.self.view_is
