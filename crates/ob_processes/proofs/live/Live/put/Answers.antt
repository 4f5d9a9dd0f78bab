-- A handle more is counted, or is taken back.
use Rattle.std.proofs.Common.{◌∙◌, ◌<◌, ◌≤◌, List, All, sym, subst, arith}
use Rattle.ob_model.specs.declared.state.Held.{Held}
use Rattle.ob_model.specs.State.{greatest_number}
use Rattle.ob_handles.specs.Table.{IsUnused}
use Rattle.ob_handles.specs.Counts.{count_of}
use Rattle.ob_processes.proofs.Counting.{counted_more, counted_back, taken_back, counts_room}
use Rattle.ob_processes.proofs.live.Live.put.Goals as goal

pub add-requires : goal.add-requires
add-requires g c =
    let number : c.args.held.order ≤ greatest_number = c.requires.number in
    let room : count_of c.self.inside.counts c.args.held.object ≤ c.args.held.order =
    counts_room (g.H.HandleTable.handles c.self.inside.table) c.self.inside.counts c.args.held.order c.args.held.object c.self.invariant.counts c.self.invariant.table.rising (subst (λ (y : List Held). All (λ h. h.order < c.args.held.order) y) (sym c.self.view_is) c.requires.newest) in
    record { room = omega (arith, room, number) }

pub invariant_of-self-in-Err : goal.invariant_of-self-in-Err
invariant_of-self-in-Err g c =
    counted_back (g.H.HandleTable.handles c.self.inside.table) c.self.inside.counts c.self.invariant c.args.held (subst (λ (y : List Held). IsUnused y c.args.held.value) (sym c.self.view_is) c.requires.unused) (g.H.HandleTable.handles c.put.new.self) c.in_ok-put.ensures.last
    (g.H.HandleTable.handles c.take.new.self) c.take.ensures.others c.add.new.self c.in-Err.ensures.unchanged

pub returns-in-Err-clause-unchanged : goal.returns-in-Err-clause-unchanged
returns-in-Err-clause-unchanged g c =
    taken_back (g.H.HandleTable.handles c.self.inside.table) c.self.inside.counts c.self.invariant c.args.held (subst (λ (y : List Held). IsUnused y c.args.held.value) (sym c.self.view_is) c.requires.unused) (g.H.HandleTable.handles c.put.new.self) c.in_ok-put.ensures.last
    (g.H.HandleTable.handles c.take.new.self) c.take.ensures.others
    ∙ c.self.view_is

pub invariant_of-self-in_default : goal.invariant_of-self-in_default
invariant_of-self-in_default g c =
    counted_more (g.H.HandleTable.handles c.self.inside.table) c.self.inside.counts c.self.invariant c.args.held (subst (λ (y : List Held). IsUnused y c.args.held.value) (sym c.self.view_is) c.requires.unused) (g.H.HandleTable.handles c.put.new.self) c.in_ok-put.ensures.last c.add.new.self
    (subst (λ (y : List Held). All (λ h. h.order < c.args.held.order) y) (sym c.self.view_is) c.requires.newest)
    c.in_default.ensures.counted
