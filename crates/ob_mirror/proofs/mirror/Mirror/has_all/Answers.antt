-- As many rows as the state has are its own.
use Rattle.std.proofs.Common.{◌∙◌, List, ap, length, subst, sym, eqb-true}
use Rattle.ob_model.specs.declared.state.Row.{Row}
use Rattle.ob_rows.specs.Rows.{AreByStamp}
use Rattle.ob_mirror.specs.Mirrored.{Mirrored}
use Rattle.ob_mirror.proofs.Following.{as_many_follow}
use Rattle.ob_mirror.proofs.mirror.Mirror.has_all.Goals as goal

pub returns : goal.returns
returns g c =
    let e = ap (λ (m : Mirrored). m.rows) c.self.view_is in
    λ same. as_many_follow c.args.core.now c.state_is_sound.ensures c.requires.order c.args.self.now.rows c.args.self.now.next c.requires.follows (subst AreByStamp e c.len.ensures.rising) c.requires.all
    (sym (ap (λ (rows : List Row). length rows) e) ∙ sym c.len.ensures.count ∙ eqb-true c.len.result c.names.result same ∙ c.names.ensures)
