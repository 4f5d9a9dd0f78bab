-- The instance is there while the grant is judged, and gone again where none is given.
use Rattle.std.proofs.Common.{◌∙◌, sym, subst}
use Rattle.std.specs.Arc.{arc_value}
use Rattle.ob_model.specs.declared.terms.Reason.TheVariants.{Opened}
use Rattle.ob_model.specs.State.{State}
use Rattle.ob_space.specs.Namespace.{parts, state_of}
use Rattle.ob_space.specs.Orderly.{IsOrderly}
use Rattle.ob_opens.proofs.MadeOpens.{made_orderly}
use Rattle.ob_opens.proofs.MadePut.{HasInstance, refused_has_instance, instance_there, same_face, same_inner, put_in, back_again}
use Rattle.ob_opens.proofs.Refusing.{instance_refused}
use Rattle.ob_opens.proofs.made.grant_made.Goals as goal

pub grant-requires-clause-orderly : goal.grant-requires-clause-orderly
grant-requires-clause-orderly g c κs within =
    let s = c.args.space.now in
    let face = arc_value c.args.face in
    let put = put_in g.row.T-Kind.Denot (parts c.space.inside) s c.space.view_is c.args.ticket face c.args.inner c.put_instance.new.store c.in_ok-put_instance.ensures.object c.in_ok-put_instance.ensures.rows in
    subst (λ (v : State _ _ _ _). IsOrderly g.T.TypeSet.idle v) (sym put)
    (made_orderly s c.args.ticket c.requires.free face c.args.inner g.T.TypeSet.idle c.requires.idle c.requires.sound c.requires.drawn c.requires.orderly)

pub take_instance-inner-requires-clause-there : goal.take_instance-inner-requires-clause-there
take_instance-inner-requires-clause-there g c κs within =
    let s = c.args.space.now in
    let face = arc_value c.args.face in
    let put = put_in g.row.T-Kind.Denot (parts c.space.inside) s c.space.view_is c.args.ticket face c.args.inner c.put_instance.new.store c.in_ok-put_instance.ensures.object c.in_ok-put_instance.ensures.rows in
    let is : HasInstance s c.args.ticket face c.args.inner (state_of g.row.T-Kind.Denot (parts c.space-2.inside)) =
    c.space-2.view_is ∙ refused_has_instance s c.args.ticket face c.args.inner c.grant.new.space g.T.TypeSet.procedures c.args.process c.args.options Opened _ put
    c.in-Ok-Err.field-0 c.in-Ok-Err.status c.in-Ok-Err.field-0-is c.in-Ok-Err.ensures.granted in
    instance_there s c.requires.sound c.args.ticket c.requires.free face c.args.inner (state_of g.row.T-Kind.Denot (parts c.space-2.inside)) is

pub take_instance-face-requires-clause-there : goal.take_instance-face-requires-clause-there
take_instance-face-requires-clause-there g c κs within =
    let s = c.args.space.now in
    let face = arc_value c.args.face in
    let put = put_in g.row.T-Kind.Denot (parts c.space.inside) s c.space.view_is c.args.ticket face c.args.inner c.put_instance.new.store c.in_ok-put_instance.ensures.object c.in_ok-put_instance.ensures.rows in
    let is : HasInstance s c.args.ticket face c.args.inner (state_of g.row.T-Kind.Denot (parts c.space-2.inside)) = c.space-2.view_is ∙ c.in-Err.ensures.err ∙ put in
    instance_there s c.requires.sound c.args.ticket c.requires.free face c.args.inner (state_of g.row.T-Kind.Denot (parts c.space-2.inside)) is

pub returns-in-Ok-Err-clause-orderly : goal.returns-in-Ok-Err-clause-orderly
returns-in-Ok-Err-clause-orderly g c =
    let s = c.args.space.now in
    let face = arc_value c.args.face in
    let put = put_in g.row.T-Kind.Denot (parts c.space.inside) s c.space.view_is c.args.ticket face c.args.inner c.put_instance.new.store c.in_ok-put_instance.ensures.object c.in_ok-put_instance.ensures.rows in
    let is : HasInstance s c.args.ticket face c.args.inner (state_of g.row.T-Kind.Denot (parts c.space-2.inside)) =
    c.space-2.view_is ∙ refused_has_instance s c.args.ticket face c.args.inner c.grant.new.space g.T.TypeSet.procedures c.args.process c.args.options Opened _ put
    c.in-Ok-Err.field-0 c.in-Ok-Err.status c.in-Ok-Err.field-0-is c.in-Ok-Err.ensures.granted in
    subst (λ (w : State _ _ _ _). IsOrderly g.T.TypeSet.idle w)
    (sym (back_again g.row.T-Kind.Denot (parts c.space-2.inside) s c.requires.sound c.args.ticket c.requires.free face c.args.inner is c.take_instance-inner.new.store c.take_instance-inner.ensures.gone)) c.requires.orderly

pub returns-in-Ok-Err-clause-same : goal.returns-in-Ok-Err-clause-same
returns-in-Ok-Err-clause-same g c =
    let s = c.args.space.now in
    let face = arc_value c.args.face in
    let put = put_in g.row.T-Kind.Denot (parts c.space.inside) s c.space.view_is c.args.ticket face c.args.inner c.put_instance.new.store c.in_ok-put_instance.ensures.object c.in_ok-put_instance.ensures.rows in
    let is : HasInstance s c.args.ticket face c.args.inner (state_of g.row.T-Kind.Denot (parts c.space-2.inside)) =
    c.space-2.view_is ∙ refused_has_instance s c.args.ticket face c.args.inner c.grant.new.space g.T.TypeSet.procedures c.args.process c.args.options Opened _ put
    c.in-Ok-Err.field-0 c.in-Ok-Err.status c.in-Ok-Err.field-0-is c.in-Ok-Err.ensures.granted in
    back_again g.row.T-Kind.Denot (parts c.space-2.inside) s c.requires.sound c.args.ticket c.requires.free face c.args.inner is c.take_instance-inner.new.store c.take_instance-inner.ensures.gone

pub returns-in-Ok-Err-clause-given : goal.returns-in-Ok-Err-clause-given
returns-in-Ok-Err-clause-given g c =
    let s = c.args.space.now in
    let face = arc_value c.args.face in
    let put = put_in g.row.T-Kind.Denot (parts c.space.inside) s c.space.view_is c.args.ticket face c.args.inner c.put_instance.new.store c.in_ok-put_instance.ensures.object c.in_ok-put_instance.ensures.rows in
    let is : HasInstance s c.args.ticket face c.args.inner (state_of g.row.T-Kind.Denot (parts c.space-2.inside)) =
    c.space-2.view_is ∙ refused_has_instance s c.args.ticket face c.args.inner c.grant.new.space g.T.TypeSet.procedures c.args.process c.args.options Opened _ put
    c.in-Ok-Err.field-0 c.in-Ok-Err.status c.in-Ok-Err.field-0-is c.in-Ok-Err.ensures.granted in
    same_inner s c.requires.sound c.args.ticket c.requires.free face c.args.inner (state_of g.row.T-Kind.Denot (parts c.space-2.inside)) is (arc_value c.take_instance-inner.result.face) c.take_instance-inner.result.inner c.take_instance-inner.ensures.body

pub returns-in-Err-clause-orderly : goal.returns-in-Err-clause-orderly
returns-in-Err-clause-orderly g c =
    let s = c.args.space.now in
    let face = arc_value c.args.face in
    let put = put_in g.row.T-Kind.Denot (parts c.space.inside) s c.space.view_is c.args.ticket face c.args.inner c.put_instance.new.store c.in_ok-put_instance.ensures.object c.in_ok-put_instance.ensures.rows in
    let is : HasInstance s c.args.ticket face c.args.inner (state_of g.row.T-Kind.Denot (parts c.space-2.inside)) = c.space-2.view_is ∙ c.in-Err.ensures.err ∙ put in
    subst (λ (w : State _ _ _ _). IsOrderly g.T.TypeSet.idle w)
    (sym (back_again g.row.T-Kind.Denot (parts c.space-2.inside) s c.requires.sound c.args.ticket c.requires.free face c.args.inner is c.take_instance-face.new.store c.take_instance-face.ensures.gone)) c.requires.orderly

pub returns-in-Err-clause-err : goal.returns-in-Err-clause-err
returns-in-Err-clause-err g c =
    let s = c.args.space.now in
    let face = arc_value c.args.face in
    let put = put_in g.row.T-Kind.Denot (parts c.space.inside) s c.space.view_is c.args.ticket face c.args.inner c.put_instance.new.store c.in_ok-put_instance.ensures.object c.in_ok-put_instance.ensures.rows in
    let is : HasInstance s c.args.ticket face c.args.inner (state_of g.row.T-Kind.Denot (parts c.space-2.inside)) = c.space-2.view_is ∙ c.in-Err.ensures.err ∙ put in
    back_again g.row.T-Kind.Denot (parts c.space-2.inside) s c.requires.sound c.args.ticket c.requires.free face c.args.inner is c.take_instance-face.new.store c.take_instance-face.ensures.gone

pub returns-in-Err-clause-face : goal.returns-in-Err-clause-face
returns-in-Err-clause-face g c =
    let s = c.args.space.now in
    let face = arc_value c.args.face in
    let put = put_in g.row.T-Kind.Denot (parts c.space.inside) s c.space.view_is c.args.ticket face c.args.inner c.put_instance.new.store c.in_ok-put_instance.ensures.object c.in_ok-put_instance.ensures.rows in
    let is : HasInstance s c.args.ticket face c.args.inner (state_of g.row.T-Kind.Denot (parts c.space-2.inside)) = c.space-2.view_is ∙ c.in-Err.ensures.err ∙ put in
    same_face s c.requires.sound c.args.ticket c.requires.free face c.args.inner (state_of g.row.T-Kind.Denot (parts c.space-2.inside)) is (arc_value c.take_instance-face.result.face) c.take_instance-face.result.inner c.take_instance-face.ensures.body

pub returns-in-Err-clause-inner : goal.returns-in-Err-clause-inner
returns-in-Err-clause-inner g c =
    let s = c.args.space.now in
    let face = arc_value c.args.face in
    let put = put_in g.row.T-Kind.Denot (parts c.space.inside) s c.space.view_is c.args.ticket face c.args.inner c.put_instance.new.store c.in_ok-put_instance.ensures.object c.in_ok-put_instance.ensures.rows in
    let is : HasInstance s c.args.ticket face c.args.inner (state_of g.row.T-Kind.Denot (parts c.space-2.inside)) = c.space-2.view_is ∙ c.in-Err.ensures.err ∙ put in
    same_inner s c.requires.sound c.args.ticket c.requires.free face c.args.inner (state_of g.row.T-Kind.Denot (parts c.space-2.inside)) is (arc_value c.take_instance-face.result.face) c.take_instance-face.result.inner c.take_instance-face.ensures.body

pub returns-in-Some-clause-refused : goal.returns-in-Some-clause-refused
returns-in-Some-clause-refused g c =
    instance_refused g.T.TypeSet.procedures c.args.space.now c.args.ticket c.requires.free (arc_value c.args.face) c.args.inner c.args.process c.args.options c.in-Some.status
    (sym c.early_refusal.ensures ∙ c.in-Some.is)
