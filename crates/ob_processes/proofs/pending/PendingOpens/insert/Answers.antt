-- The open comes last, and pins its object.
use Rattle.std.proofs.Common.{◌∙◌}
use Rattle.ob_processes.proofs.Pinned.{room, last_now, more_kept}
use Rattle.ob_processes.proofs.pending.PendingOpens.insert.Goals as goal
use Rattle.ob_processes.proofs.pending.PendingOpens.insert.Goals.{in-Ok+in-Some+in-Kind-1, in-Ok+in-Some+in-Anything-1, in-Ok+in-None-1, in-Err-1}

pub add-requires : goal.add-requires
add-requires g c = record {
  room = room c.self.inside.opens.entries c.self.inside.pins c.self.invariant c.args.self.now c.self.view_is c.args.pending c.requires.newest c.args.pending.object c.requires.drawn;
}

pub invariant_of-self-in_default : goal.invariant_of-self-in_default
invariant_of-self-in_default g c =
    more_kept c.self.inside.opens.entries c.self.inside.pins c.self.invariant c.args.self.now c.self.view_is c.args.pending c.requires.newest c.insert.new.self.entries
    c.in_default.ensures.entries c.add.new.self c.in_default.ensures.ordered c.in_ok-add.ensures.counted

pub invariant_of-self-in_default-2 : goal.invariant_of-self-in_default-2
invariant_of-self-in_default-2 g c =
    more_kept c.self.inside.opens.entries c.self.inside.pins c.self.invariant c.args.self.now c.self.view_is c.args.pending c.requires.newest c.insert.new.self.entries
    c.in_default.ensures.entries c.add.new.self c.in_default.ensures.ordered c.in_ok-add.ensures.counted

pub invariant_of-self-in_default-3 : goal.invariant_of-self-in_default-3
invariant_of-self-in_default-3 g c =
    more_kept c.self.inside.opens.entries c.self.inside.pins c.self.invariant c.args.self.now c.self.view_is c.args.pending c.requires.newest c.insert.new.self.entries
    c.in_default.ensures.entries c.add.new.self c.in_default.ensures.ordered c.in_ok-add.ensures.counted

pub returns-clause-last : goal.returns-clause-last
returns-clause-last g c =
    let last = last_now c.self.inside.opens.entries c.self.inside.pins c.self.invariant c.args.self.now c.self.view_is c.args.pending c.requires.newest c.insert.new.self.entries c.in_default.ensures.entries in
    elim c.match-this.branch [
      | in-Ok+in-Some+in-Kind-1 w ↦ w.self-is ∙ last
      | in-Ok+in-Some+in-Anything-1 w ↦ w.self-is ∙ last
      | in-Ok+in-None-1 w ↦ w.self-is ∙ last
      | in-Err-1 w ↦ w.self-is ∙ last
    ]
