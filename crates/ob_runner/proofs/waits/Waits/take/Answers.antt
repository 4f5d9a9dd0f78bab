-- The parse of a ticket is found in the map, and what is left in it is what is left of the parses.
use Rattle.std.proofs.Common.{◌∙◌, ap, sym}
use Rattle.ob_runner.specs.Begun.{tickets_of}
use Rattle.ob_runner.proofs.Kept.{found_now, others_now, fewer_kept, is_kept, found_own, tickets_left}
use Rattle.ob_runner.proofs.waits.Waits.take.Goals as goal

pub unreachable-requires : goal.unreachable-requires
unreachable-requires g c =
    is_kept c.self.inside.parses.entries c.self.invariant c.args.self.now c.self.view_is c.args.ticket c.requires.there (sym c.in-None.is ∙ c.remove.ensures.value)

pub invariant_of-self : goal.invariant_of-self
invariant_of-self g c =
    fewer_kept c.self.inside.parses.entries c.self.invariant c.args.self.now c.self.view_is c.args.ticket c.remove.new.self.entries c.remove.ensures.entries c.remove.ensures.ordered

pub returns-clause-own : goal.returns-clause-own
returns-clause-own g c =
    let now = c.args.self.now in
    found_own c.args.ticket now c.in-Some.parsing
    (sym (found_now c.self.inside.parses.entries c.self.invariant now c.self.view_is c.args.ticket) ∙ sym c.remove.ensures.value ∙ c.in-Some.is)

pub returns-clause-found : goal.returns-clause-found
returns-clause-found g c =
    sym (found_now c.self.inside.parses.entries c.self.invariant c.args.self.now c.self.view_is c.args.ticket) ∙ sym c.remove.ensures.value ∙ c.in-Some.is

pub returns-clause-others : goal.returns-clause-others
returns-clause-others g c =
    others_now c.self.inside.parses.entries c.self.invariant c.args.self.now c.self.view_is c.args.ticket c.remove.new.self.entries c.remove.ensures.entries

pub returns-clause-tickets : goal.returns-clause-tickets
returns-clause-tickets g c =
    ap tickets_of
    (others_now c.self.inside.parses.entries c.self.invariant c.args.self.now c.self.view_is c.args.ticket c.remove.new.self.entries c.remove.ensures.entries)
    ∙ tickets_left c.args.ticket c.args.self.now
