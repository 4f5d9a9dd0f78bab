-- The outcome of the turns so far ends the lookup of the name. If memory runs out, in whichever turn, the first
-- turn tells what the name ends with when no reparse is left.
use Rattle.std.proofs.Common.{subst}
use Rattle.ob_lookup.specs.declared.start.Beginning.{Beginning}
use Rattle.ob_lookup.specs.Look.{Begins}
use Rattle.ob_lookup.proofs.Turns.{if_again, from_again, on_any_err, only_wants}
use Rattle.ob_lookup.proofs.cached.look_cached.Goals as goal

pub returns-in_err-next-clause-wants : goal.returns-in_err-next-clause-wants
returns-in_err-next-clause-wants g c =
    on_any_err _ c.from_residual.result
    (λ s p end shows of looks.
    let begins = subst (λ (b : Beginning). Begins g.T.TypeSet.procedures c.args.store.now c.args.view c.args.mode c.args.budget c.args.root c.args.name b) c.in-Walk.is c.begin.ensures.begins in
    let found = c.in_err-next.ensures.wants s p shows of in
    only_wants g.T.TypeSet.procedures s p c.args.mode c.args.root c.args.name end found.0 looks
    (begins s p 0 found.0 shows of found.2) found.1)

pub loop-next-init : goal.loop-next-init
loop-next-init g c =
    let begins = subst (λ (b : Beginning). Begins g.T.TypeSet.procedures c.args.store.now c.args.view c.args.mode c.args.budget c.args.root c.args.name b) c.in-Walk.is c.begin.ensures.begins in
    record {
      left = c.in_ok-next.ensures.left;
      goes = λ s p end shows of goes. begins s p c.args.budget end shows of (c.in_ok-next.ensures.goes s p end shows of goes);
      wants = if_again c.in_ok-next.next _ _
          (λ wants s p shows of. let found = wants s p shows of in (found.0, found.1, begins s p 0 found.0 shows of found.2))
          c.in_ok-next.ensures.again;
      paths = c.in_ok-next.ensures.paths;
    }

pub returns-in_err-next-in-Again-clause-wants : goal.returns-in_err-next-in-Again-clause-wants
returns-in_err-next-in-Again-clause-wants g c =
    on_any_err _ c.from_residual-in_err-next-in-Again.result
    (λ s p end shows of looks.
    let found = from_again c.loop-next.next c.in-Again.text _ c.in-Again.is c.loop-next.invariant.wants s p shows of in
    only_wants g.T.TypeSet.procedures s p c.args.mode c.args.root c.args.name end found.0 looks found.2 found.1)
