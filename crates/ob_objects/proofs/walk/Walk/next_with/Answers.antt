-- What comes next stands among the types, under the id that was asked for.
use Rattle.std.proofs.Common.{◌∙◌, ap, sym, rules}
use Rattle.std.specs.BTreeMap.{is_at}
use Rattle.std.specs.Map.{lookup}
use Rattle.std.specs.Ordering.{nat_cmp}
use Rattle.ob_objects.proofs.KeptTypes.{next_stands, rest_is_ahead}
use Rattle.ob_objects.proofs.walk.Walk.next_with.Goals as goal

pub invariant_of-self-then-next-id : goal.invariant_of-self-then-next-id
invariant_of-self-then-next-id g c = rest_is_ahead c.self.inside.types.now.entries c.self.inside.ahead c.next.new.self c.in_ok-next.next.now c.in_ok-next.of.now c.self.invariant c.in_ok-next.ensures.steps

pub invariant_of-self-2 : goal.invariant_of-self-2
invariant_of-self-2 g c = rest_is_ahead c.self.inside.types.now.entries c.self.inside.ahead c.next.new.self c.in_ok-next.next.now c.in_ok-next.of.now c.self.invariant c.in_ok-next.ensures.steps

pub returns-clause-stored : goal.returns-clause-stored
returns-clause-stored g c =
    let there = next_stands c.self.inside.types.now.entries c.self.inside.ahead c.next.new.self c.in_ok-next.next.now c.in_ok-next.of.now c.self.invariant c.in_ok-next.ensures.steps in
    ap (λ es. lookup (is_at (nat_cmp c.args.id)) es) (sym c.self.view_is) ∙ ap (λ id. lookup (is_at (nat_cmp id)) c.self.inside.types.now.entries) (search rules) ∙ there
