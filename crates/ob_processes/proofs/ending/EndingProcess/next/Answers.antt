-- The first handle goes, and is counted no longer.
use Rattle.std.proofs.Common.{◌≡◌, ◌∙◌, ◌∷◌, [], ap, sym, subst}
use Rattle.std.specs.Prelude.{MatchOption}
use Rattle.ob_processes.specs.Ending.{Leaving}
use Rattle.ob_processes.proofs.Counting.{counted_fewer}
use Rattle.ob_processes.proofs.Leaving.{none_first, first_found, first_taken}
use Rattle.ob_processes.proofs.ending.EndingProcess.next.Goals as goal

pub returns-in_err-held-clause-first : goal.returns-in_err-held-clause-first
returns-in_err-held-clause-first g c =
    let none = ap (λ (l : Leaving). l.handles) (sym c.self.view_is) ∙ none_first (g.H.HandleTable.handles c.self.inside.table) (sym c.oldest.ensures ∙ c.in_err-held.was) in
    subst (λ o. MatchOption o ((c.args.self.now.handles ≡ []) × (c.args.self.now.handles ≡ [])) (λ h. c.args.self.now.handles ≡ h ∷ c.args.self.now.handles)) (sym c.from_residual.ensures) (none, none)

pub invariant_of-self : goal.invariant_of-self
invariant_of-self g c =
    counted_fewer (g.H.HandleTable.handles c.self.inside.table) c.self.inside.touched c.self.invariant c.in_ok-held.held.value (g.H.HandleTable.handles c.take.new.self) c.take.ensures.others c.in_ok-held.held c.lower.new.self
    (first_found (g.H.HandleTable.handles c.self.inside.table) c.in_ok-held.held (sym c.oldest.ensures ∙ c.in_ok-held.was)) c.lower.ensures.counted

pub returns-clause-first : goal.returns-clause-first
returns-clause-first g c =
    ap (λ (l : Leaving). l.handles) (sym c.self.view_is)
    ∙ first_taken (g.H.HandleTable.handles c.self.inside.table) c.in_ok-held.held (sym c.oldest.ensures ∙ c.in_ok-held.was) c.self.invariant.table.apart
    ∙ ap (λ hs. c.in_ok-held.held ∷ hs) (sym c.take.ensures.others)
