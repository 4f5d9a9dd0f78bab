-- A handle more is counted, or is taken back.
use Rattle.std.proofs.Common.{◌∙◌, ◌<◌, List, All, sym, subst}
use Rattle.ob_model.specs.declared.state.Held.{Held}
use Rattle.ob_processes.proofs.Counting.{counted_more, counted_back, taken_back}
use Rattle.ob_processes.proofs.live.Live.grant.Goals as goal

pub invariant_of-self-in-Err : goal.invariant_of-self-in-Err
invariant_of-self-in-Err g c =
    counted_back (g.H.HandleTable.handles c.self.inside.table) c.self.inside.counts c.self.invariant (record { process = c.args.process; value = c.in_ok-value.value; object = c.args.object; inherit = c.args.inherit; order = c.args.order }) c.in_ok-value.ensures.unused (g.H.HandleTable.handles c.grant.new.self) c.in_ok-value.ensures.last
    (g.H.HandleTable.handles c.take.new.self) c.take.ensures.others c.add.new.self c.in-Err.ensures.unchanged

pub returns-in-Err-clause-unchanged : goal.returns-in-Err-clause-unchanged
returns-in-Err-clause-unchanged g c =
    taken_back (g.H.HandleTable.handles c.self.inside.table) c.self.inside.counts c.self.invariant (record { process = c.args.process; value = c.in_ok-value.value; object = c.args.object; inherit = c.args.inherit; order = c.args.order }) c.in_ok-value.ensures.unused (g.H.HandleTable.handles c.grant.new.self) c.in_ok-value.ensures.last
    (g.H.HandleTable.handles c.take.new.self) c.take.ensures.others
    ∙ c.self.view_is

pub invariant_of-self-in_default : goal.invariant_of-self-in_default
invariant_of-self-in_default g c =
    counted_more (g.H.HandleTable.handles c.self.inside.table) c.self.inside.counts c.self.invariant (record { process = c.args.process; value = c.in_ok-value.value; object = c.args.object; inherit = c.args.inherit; order = c.args.order }) c.in_ok-value.ensures.unused (g.H.HandleTable.handles c.grant.new.self) c.in_ok-value.ensures.last c.add.new.self
    (subst (λ (y : List Held). All (λ h. h.order < c.args.order) y) (sym c.self.view_is) c.requires.newest)
    c.in_default.ensures.counted
