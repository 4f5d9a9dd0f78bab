-- A create's name is looked up, and then the create is refused or done.
use Rattle.std.proofs.Common.{None, ap, refl, subst}
use Rattle.ob_model.specs.declared.terms.Mode.{Mode}
use Rattle.ob_model.specs.Creates.{create_mode}
use Rattle.ob_space.specs.Found.{is_create_refused_at}
use Rattle.ob_space.proofs.InPlace.{at_its_end, create_ignores}
use Rattle.ob_model.specs.declared.reply.Answer.TheVariants.{Done}
use Rattle.ob_model.specs.Looks.{At, Vacant, Refused, LooksUp, most_reparses}
use Rattle.ob_lookup.specs.Look.{look_of}
use Rattle.ob_commands.specs.Making.{making_of}
use Rattle.ob_space.proofs.Results.{IfOk-map}
use Rattle.ob_commands.proofs.Shadowed.{with_shadow_done, create_refused, refused_shadow}
use Rattle.ob_space.proofs.Naming.{creates_looked}
use Rattle.ob_space.proofs.Looked.{root_stands}
use Rattle.ob_commands.proofs.creating.create_at_name.Goals as goal

pub look_up-requires-clause-root : goal.look_up-requires-clause-root
look_up-requires-clause-root g c κs within =
    let s = c.args.space.now in
    root_stands s c.requires.between.sound c.args.process c.args.root c.in-Ok.root c.in-Ok.ensures

pub returns-in-Err-shadow_object-clause-step : goal.returns-in-Err-shadow_object-clause-step
returns-in-Err-shadow_object-clause-step g c =
    let s = c.args.space.now in
    create_refused g.T.TypeSet.procedures s s c.args.process c.args.attrs c.args.shadow (making_of c.args.making) (Done c.status_alone-in-Err-shadow_object.result) c.args.root c.in-Ok.root c.in-Ok.ensures c.args.name
    c.in-Err-shadow_object.status c.in-Err-shadow_object.ensures (ap Done c.status_alone-in-Err-shadow_object.ensures, refl)

pub returns-in-Refused-clause-step : goal.returns-in-Refused-clause-step
returns-in-Refused-clause-step g c =
    let s = c.args.space.now in
    creates_looked g.T.TypeSet.procedures s c.look_up.new.space c.args.process c.args.attrs (Done c.status_alone-in-Refused.result) c.args.root c.in-Ok.root c.in-Ok.ensures c.args.name
    c.create_mode.result (Refused c.in-Refused.status)
    (subst (λ look. LooksUp g.T.TypeSet.procedures s c.args.process c.create_mode.result most_reparses c.in-Ok.root c.args.name (look_of look)) c.in-Refused.is c.in_ok-status.ensures.end)
    c.args.shadow c.in-Ok-shadow_object.shadow (making_of c.args.making)
    (with_shadow_done s c.args.process c.look_up.new.space (Done c.status_alone-in-Refused.result) c.args.shadow c.in-Ok-shadow_object.shadow c.in-Ok-shadow_object.ensures.0 c.in-Ok-shadow_object.ensures.1)
    c.create_mode.ensures (ap Done c.status_alone-in-Refused.ensures, c.look_up.ensures.unchanged)

pub returns-in-At-clause-step : goal.returns-in-At-clause-step
returns-in-At-clause-step g c =
    let s = c.args.space.now in
    IfOk-map _ _ c.open_there.result (λ reply done.
    creates_looked g.T.TypeSet.procedures s c.open_there.new.space c.args.process c.args.attrs (Done reply) c.args.root c.in-Ok.root c.in-Ok.ensures c.args.name
    c.create_mode.result (At c.in-At.object)
    (subst (λ look. LooksUp g.T.TypeSet.procedures s c.args.process c.create_mode.result most_reparses c.in-Ok.root c.args.name (look_of look)) c.in-At.is c.in_ok-status.ensures.end)
    c.args.shadow c.in-Ok-shadow_object.shadow (making_of c.args.making)
    (with_shadow_done s c.args.process c.open_there.new.space (Done reply) c.args.shadow c.in-Ok-shadow_object.shadow c.in-Ok-shadow_object.ensures.0 c.in-Ok-shadow_object.ensures.1)
    c.create_mode.ensures (rw (← c.look_up.ensures.unchanged) (done c.in-Ok-shadow_object.shadow))) c.open_there.ensures.step

pub returns-in-Vacant-clause-step : goal.returns-in-Vacant-clause-step
returns-in-Vacant-clause-step g c =
    let s = c.args.space.now in
    IfOk-map _ _ c.make_named.result (λ reply done.
    creates_looked g.T.TypeSet.procedures s c.make_named.new.space c.args.process c.args.attrs (Done reply) c.args.root c.in-Ok.root c.in-Ok.ensures c.args.name
    c.create_mode.result (Vacant c.in-Vacant.directory c.in-Vacant.component)
    (subst (λ look. LooksUp g.T.TypeSet.procedures s c.args.process c.create_mode.result most_reparses c.in-Ok.root c.args.name (look_of look)) c.in-Vacant.is c.in_ok-status.ensures.end)
    c.args.shadow c.in-Ok-shadow_object.shadow (making_of c.args.making)
    (with_shadow_done s c.args.process c.make_named.new.space (Done reply) c.args.shadow c.in-Ok-shadow_object.shadow c.in-Ok-shadow_object.ensures.0 c.in-Ok-shadow_object.ensures.1)
    c.create_mode.ensures (rw (← c.look_up.ensures.unchanged) done)) c.make_named.ensures.step

pub returns-in-At-clause-found : goal.returns-in-At-clause-found
returns-in-At-clause-found g c = λ refused.
    let s = c.args.space.now in
    let p = c.args.process in
    c.open_there.ensures.early
    (rw c.look_up.ensures.unchanged (at_its_end g.T.TypeSet.procedures s p (create_mode c.args.attrs) c.args.root c.args.name (is_create_refused_at g.T.TypeSet.procedures s p c.args.attrs (making_of c.args.making None)) (create_ignores g.T.TypeSet.procedures s p c.args.attrs (making_of c.args.making None)) c.in-Ok.root c.in-Ok.ensures most_reparses (At c.in-At.object)
    (subst (λ (m : Mode). LooksUp g.T.TypeSet.procedures s p m most_reparses c.in-Ok.root c.args.name (At c.in-At.object)) c.create_mode.ensures
    (subst (λ look. LooksUp g.T.TypeSet.procedures s p c.create_mode.result most_reparses c.in-Ok.root c.args.name (look_of look)) c.in-At.is c.in_ok-status.ensures.end)) refused))

pub returns-in-Vacant-clause-found : goal.returns-in-Vacant-clause-found
returns-in-Vacant-clause-found g c = λ refused.
    let s = c.args.space.now in
    let p = c.args.process in
    let look = Vacant c.in-Vacant.directory c.in-Vacant.component in
    c.make_named.ensures.full
    (rw c.look_up.ensures.unchanged (at_its_end g.T.TypeSet.procedures s p (create_mode c.args.attrs) c.args.root c.args.name (is_create_refused_at g.T.TypeSet.procedures s p c.args.attrs (making_of c.args.making None)) (create_ignores g.T.TypeSet.procedures s p c.args.attrs (making_of c.args.making None)) c.in-Ok.root c.in-Ok.ensures most_reparses look
    (subst (λ (m : Mode). LooksUp g.T.TypeSet.procedures s p m most_reparses c.in-Ok.root c.args.name look) c.create_mode.ensures
    (subst (λ look. LooksUp g.T.TypeSet.procedures s p c.create_mode.result most_reparses c.in-Ok.root c.args.name (look_of look)) c.in-Vacant.is c.in_ok-status.ensures.end)) refused))

pub returns-in-At-clause-shadow : goal.returns-in-At-clause-shadow
returns-in-At-clause-shadow g c = λ refused. absurd (refused_shadow c.args.space.now c.args.process c.args.shadow refused c.in-Ok-shadow_object.ensures.1)

pub returns-in-Vacant-clause-shadow : goal.returns-in-Vacant-clause-shadow
returns-in-Vacant-clause-shadow g c = λ refused. absurd (refused_shadow c.args.space.now c.args.process c.args.shadow refused c.in-Ok-shadow_object.ensures.1)
