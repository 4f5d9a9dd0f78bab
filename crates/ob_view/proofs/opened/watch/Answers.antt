-- In the opening state nothing is published, and the copy has its rows.
use Rattle.std.proofs.Common.{[], ◌∙◌, ap, refl, subst, sym}
use Rattle.ob_mirror.specs.Mirrored.{Follows}
use Rattle.ob_shared.specs.Publisher.{Keeps}
use Rattle.ob_shared.proofs.Keeping.{keeps_opened}
use Rattle.ob_view.proofs.opened.watch.Goals as goal

pub open-requires-clause-leads : goal.open-requires-clause-leads
open-requires-clause-leads g c = c.requires.named.may [] (c.args.locked.now.first, [], _, (refl, refl))

pub returns-clause-keeps : goal.returns-clause-keeps
returns-clause-keeps g c =
    let opened = keeps_opened g.T.TypeSet.procedures g.J.Naming.opening g.J.Naming.leads c.requires.named c.args.locked.now (record c.in_ok-mirror.mirror { pending = [] }) c.requires.state c.requires.journal
    (c.in_ok-mirror.ensures.rows ∙ ap (λ h. h.state.rows) c.list_removed.ensures) refl
    (subst (λ h. Follows c.in_ok-mirror.mirror.rows c.in_ok-mirror.mirror.next h.state) c.list_removed.ensures c.in_ok-mirror.ensures.follows) in
    subst (λ m. Keeps g.T.TypeSet.procedures g.J.Naming.opening g.J.Naming.leads m c.in_ok-showing.showing.published c.args.locked.now) (sym c.take_changes.ensures.left)
    (subst (λ l. Keeps g.T.TypeSet.procedures g.J.Naming.opening g.J.Naming.leads (record c.in_ok-mirror.mirror { pending = [] }) l c.args.locked.now) (sym c.in_ok-showing.ensures.0) opened)
