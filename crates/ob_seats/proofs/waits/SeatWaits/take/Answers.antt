-- The parse of a ticket is found in the map, and what is left in it is what is left of the parses.
use Rattle.std.proofs.Common.{◌∙◌, ◌==◌, sym, subst, ◌≡◌, true}
use Rattle.std.specs.List.{list_any}
use Rattle.ob_seats.proofs.Keys.{is_kept, found_own, others_now, fewer_kept}
use Rattle.ob_seats.proofs.waits.SeatWaits.take.Goals as goal

pub unreachable-requires : goal.unreachable-requires
unreachable-requires g c =
    is_kept g.C.Callers.ticket_of c.args.ticket c.self.inside.parses.entries (subst (λ ks. list_any (λ k. k == c.args.ticket) ks ≡ true) (sym c.self.view_is) c.requires.there)
    (sym c.in-None.is ∙ c.remove.ensures.value)

pub invariant_of-self : goal.invariant_of-self
invariant_of-self g c =
    fewer_kept g.C.Callers.ticket_of c.self.inside.parses.entries c.self.invariant c.args.self.now c.self.view_is c.args.ticket c.remove.new.self.entries c.remove.ensures.entries c.remove.ensures.ordered

pub returns-clause-own : goal.returns-clause-own
returns-clause-own g c =
    found_own g.C.Callers.ticket_of c.args.ticket c.self.inside.parses.entries c.in-Some.parsing c.self.invariant.own (sym c.remove.ensures.value ∙ c.in-Some.is)

pub returns-clause-others : goal.returns-clause-others
returns-clause-others g c =
    others_now g.C.Callers.ticket_of c.self.inside.parses.entries c.self.invariant c.args.self.now c.self.view_is c.args.ticket c.remove.new.self.entries c.remove.ensures.entries
