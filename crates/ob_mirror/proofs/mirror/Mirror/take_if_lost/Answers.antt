-- A row whose object has a name is one of the state's; one whose object has none is taken away.
use Rattle.std.proofs.Common.{◌≡◌, ◌∙◌, ◌==◌, List, Some, All, Contains, ap, find, subst, sym}
use Rattle.std.proofs.lemmas.List.Elements.{All-contains_itself}
use Rattle.ob_model.specs.declared.state.Row.{Row}
use Rattle.ob_rows.specs.declared.change.RowChange.TheVariants.{Gone}
use Rattle.ob_rows.specs.Rows.{AreByStamp}
use Rattle.ob_objects.specs.Named.{row_of_named}
use Rattle.ob_mirror.specs.Mirrored.{Mirrored, Follows}
use Rattle.ob_mirror.proofs.Following.{fewer_left, none_left, none_stamped, own_stamp, taken_stamp}
use Rattle.ob_mirror.proofs.Leading.{leads_further}
use Rattle.ob_mirror.proofs.Named.{mapped_none, mapped_some}
use Rattle.ob_mirror.proofs.mirror.Mirror.take_if_lost.Goals as goal

pub returns-in_default-clause-own : goal.returns-in_default-clause-own
returns-in_default-clause-own g c =
    subst (λ (rows : List Row). All (λ r. r.stamp ≡ c.args.stamp → Contains c.args.core.now.rows r) rows) (ap (λ (m : Mirrored). m.rows) c.self.view_is)
    (none_stamped (Contains c.args.core.now.rows) c.args.stamp c.self.inside.rows (sym c.in_default.ensures))

pub returns-then-is_some-clause-own : goal.returns-then-is_some-clause-own
returns-then-is_some-clause-own g c =
    let e = ap (λ (m : Mirrored). m.rows) c.self.view_is in
    let named = mapped_some row_of_named c.name_of.result _ (sym c.is_some.ensures ∙ c.if-is_some.true) c.name_of.ensures in
    own_stamp c.args.core.now c.state_is_sound.ensures c.requires.order c.args.self.now.rows c.args.self.now.next c.requires.follows (subst AreByStamp e c.len.ensures.rising)
    c.in-Some.row.now named.0 c.args.stamp
    (subst (λ (rows : List Row). find (λ r. r.stamp == c.args.stamp) rows ≡ Some c.in-Some.row.now) e (sym c.in-Some.ensures)) named.1

pub returns-in_err-push_back-clause-fewer : goal.returns-in_err-push_back-clause-fewer
returns-in_err-push_back-clause-fewer g c =
    subst (λ (rows : List Row). All (Contains rows) c.self.inside.rows) (ap (λ (m : Mirrored). m.rows) c.self.view_is) (All-contains_itself c.self.inside.rows)

pub returns-clause-follows : goal.returns-clause-follows
returns-clause-follows g c =
    let none = mapped_none row_of_named c.name_of.result _ (sym c.is_some.ensures ∙ c.if-is_some.false) c.name_of.ensures in
    subst (λ (rows : List Row). Follows rows c.self.inside.next c.args.core.now) (sym c.remove.ensures.others)
    (taken_stamp c.args.core.now c.state_is_sound.ensures c.requires.order c.self.inside.rows c.self.inside.next
    (subst (λ (m : Mirrored). Follows m.rows m.next c.args.core.now) (sym c.self.view_is) c.requires.follows) c.len.ensures.rising c.in-Some.row.now c.args.stamp (sym c.in-Some.ensures) none)

pub returns-clause-listed : goal.returns-clause-listed
returns-clause-listed g c = leads_further _ _ c.remove.new.self c.push_back.new.self.items (Gone c.args.stamp) c.self.view_is c.in_ok-push_back.ensures.items c.remove.ensures.others

pub returns-clause-fewer : goal.returns-clause-fewer
returns-clause-fewer g c =
    subst (λ (rows : List Row). All (Contains rows) c.remove.new.self) (ap (λ (m : Mirrored). m.rows) c.self.view_is)
    (subst (λ (rows : List Row). All (Contains c.self.inside.rows) rows) (sym c.remove.ensures.others) (fewer_left c.args.stamp c.self.inside.rows))

pub returns-clause-own : goal.returns-clause-own
returns-clause-own g c =
    subst (λ (rows : List Row). All (λ r. r.stamp ≡ c.args.stamp → Contains c.args.core.now.rows r) rows) (sym c.remove.ensures.others)
    (none_left (Contains c.args.core.now.rows) c.args.stamp c.self.inside.rows)
