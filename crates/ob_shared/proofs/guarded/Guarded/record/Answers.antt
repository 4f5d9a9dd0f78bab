-- The copy catches up, and its changes are the next publication.
use Rattle.std.proofs.Common.{◌∙◌, ◌++◌, ◌∷◌, [], ap, refl, subst, sym}
use Rattle.ob_published.specs.declared.publication.Publication.{Publication}
use Rattle.ob_shared.specs.Publisher.{AreOf, Keeps}
use Rattle.ob_shared.proofs.Keeping.{all_recorded, given_back, keeps_followed, keeps_recorded, keeps_same, may_record, none_new, none_since, ordered, some_new}
use Rattle.ob_shared.proofs.guarded.Guarded.record.Goals as goal

pub returns-then-entries-eq0-clause-recorded : goal.returns-then-entries-eq0-clause-recorded
returns-then-entries-eq0-clause-recorded g c =
    subst (λ x. AreOf g.T.TypeSet.procedures x.recorded x.history) c.self.view_is
    (none_since g.T.TypeSet.procedures g.P.Publishing.opening g.P.Publishing.leads c.self.inside.mirror (g.P.Publishing.recorded c.self.inside.publisher) c.self.inside.locked (c.self.invariant c.requires)
    (none_new _ _ _ _ _ c.saturating_sub-entries.ensures c.len.ensures c.number.ensures c.if-entries-eq0.true))

pub follow-requires-clause-order : goal.follow-requires-clause-order
follow-requires-clause-order g c κs within = ordered g.T.TypeSet.procedures c.self.inside.locked.first _ c.self.inside.locked.state c.core.result.now c.is_kept.ensures.run c.core.ensures

pub invariant_of-self : goal.invariant_of-self
invariant_of-self g c =
    λ publishes. keeps_followed g.T.TypeSet.procedures g.P.Publishing.opening g.P.Publishing.leads c.self.inside.mirror (g.P.Publishing.recorded c.self.inside.publisher) c.self.inside.locked (c.self.invariant publishes)
    c.follow.new.self c.core.result.now c.follow.ensures.listed c.core.ensures c.follow.ensures.follows

pub record-requires : goal.record-requires
record-requires g c =
    may_record g.T.TypeSet.procedures g.P.Publishing.opening g.P.Publishing.leads c.follow.new.self (g.P.Publishing.recorded c.self.inside.publisher) c.self.inside.locked
    (keeps_followed g.T.TypeSet.procedures g.P.Publishing.opening g.P.Publishing.leads c.self.inside.mirror (g.P.Publishing.recorded c.self.inside.publisher) c.self.inside.locked (c.self.invariant c.requires)
    c.follow.new.self c.core.result.now c.in_ok-follow.ensures.listed c.core.ensures c.in_ok-follow.ensures.follows)
    (record { entries = c.saturating_sub-entries.result; changes = c.take_changes-changes.result })
    (c.in_ok-follow.ensures.all ∙ ap (λ s. s.rows) c.core.ensures) c.take_changes-changes.ensures.taken
    (some_new _ _ _ _ _ c.saturating_sub-entries.ensures c.len.ensures c.number.ensures c.if-entries-eq0.false)

pub invariant_of-self-in-Err : goal.invariant_of-self-in-Err
invariant_of-self-in-Err g c =
    λ publishes. keeps_same g.T.TypeSet.procedures g.P.Publishing.opening g.P.Publishing.leads c.follow.new.self (g.P.Publishing.recorded c.self.inside.publisher) c.self.inside.locked
    (keeps_followed g.T.TypeSet.procedures g.P.Publishing.opening g.P.Publishing.leads c.self.inside.mirror (g.P.Publishing.recorded c.self.inside.publisher) c.self.inside.locked (c.self.invariant publishes)
    c.follow.new.self c.core.result.now c.in_ok-follow.ensures.listed c.core.ensures c.in_ok-follow.ensures.follows)
    c.give_back.new.self (g.P.Publishing.recorded c.record.new.self) c.self.inside.locked
    (given_back c.follow.new.self c.take_changes-changes.new.self c.give_back.new.self c.in-Err.back.changes.items c.take_changes-changes.ensures.left
    (ap (λ (p : Publication). p.changes.items) c.in-Err.ensures.back ∙ c.take_changes-changes.ensures.taken) c.give_back.ensures)
    c.in-Err.ensures.unrecorded refl

pub invariant_of-self-2 : goal.invariant_of-self-2
invariant_of-self-2 g c =
    λ publishes. subst (λ h. Keeps g.T.TypeSet.procedures g.P.Publishing.opening g.P.Publishing.leads c.take_changes-changes.new.self (g.P.Publishing.recorded c.record.new.self) h) (sym c.clear_removed.ensures)
    (subst (λ l. Keeps g.T.TypeSet.procedures g.P.Publishing.opening g.P.Publishing.leads c.take_changes-changes.new.self l c.self.inside.locked) (sym c.in_default.ensures.recorded)
    (subst (λ m. Keeps g.T.TypeSet.procedures g.P.Publishing.opening g.P.Publishing.leads m (g.P.Publishing.recorded c.self.inside.publisher ++ record { entries = c.saturating_sub-entries.result; changes = c.take_changes-changes.result } ∷ []) c.self.inside.locked) (sym c.take_changes-changes.ensures.left)
    (keeps_recorded g.T.TypeSet.procedures g.P.Publishing.opening g.P.Publishing.leads c.follow.new.self (g.P.Publishing.recorded c.self.inside.publisher) c.self.inside.locked
    (keeps_followed g.T.TypeSet.procedures g.P.Publishing.opening g.P.Publishing.leads c.self.inside.mirror (g.P.Publishing.recorded c.self.inside.publisher) c.self.inside.locked (c.self.invariant publishes)
    c.follow.new.self c.core.result.now c.in_ok-follow.ensures.listed c.core.ensures c.in_ok-follow.ensures.follows)
    (record { entries = c.saturating_sub-entries.result; changes = c.take_changes-changes.result })
    (c.in_ok-follow.ensures.all ∙ ap (λ s. s.rows) c.core.ensures) c.take_changes-changes.ensures.taken
    (some_new _ _ _ _ _ c.saturating_sub-entries.ensures c.len.ensures c.number.ensures c.if-entries-eq0.false))))

pub returns-clause-recorded : goal.returns-clause-recorded
returns-clause-recorded g c =
    subst (λ x. AreOf g.T.TypeSet.procedures (g.P.Publishing.recorded c.record.new.self) x.history) c.self.view_is
    (subst (λ l. AreOf g.T.TypeSet.procedures l c.self.inside.locked) (sym c.in_default.ensures.recorded)
    (all_recorded g.T.TypeSet.procedures g.P.Publishing.opening g.P.Publishing.leads c.follow.new.self (g.P.Publishing.recorded c.self.inside.publisher) c.self.inside.locked
    (keeps_followed g.T.TypeSet.procedures g.P.Publishing.opening g.P.Publishing.leads c.self.inside.mirror (g.P.Publishing.recorded c.self.inside.publisher) c.self.inside.locked (c.self.invariant c.requires)
    c.follow.new.self c.core.result.now c.in_ok-follow.ensures.listed c.core.ensures c.in_ok-follow.ensures.follows)
    (record { entries = c.saturating_sub-entries.result; changes = c.take_changes-changes.result })
    (c.in_ok-follow.ensures.all ∙ ap (λ s. s.rows) c.core.ensures) c.take_changes-changes.ensures.taken
    (some_new _ _ _ _ _ c.saturating_sub-entries.ensures c.len.ensures c.number.ensures c.if-entries-eq0.false)))
