-- The object is put in and opened, or taken back and deleted.
use Rattle.std.proofs.Common.{◌∙◌, ap, sym, subst}
use Rattle.std.proofs.lemmas.Bool.{false≢true}
use Rattle.std.specs.Option.{is_some}
use Rattle.ob_objects.specs.declared.object.StoredObject.{StoredObject}
use Rattle.ob_objects.specs.Store.{body_of_stored}
use Rattle.ob_space.specs.Orderly.{IsIdleBody}
use Rattle.ob_space.proofs.Placed.{is_opened, is_taken_back, object_there, object_is}
use Rattle.ob_space.proofs.placing.put_and_open.Goals as goal

pub returns-in_default-clause-opened : goal.returns-in_default-clause-opened
returns-in_default-clause-opened g c =
    is_opened g.T.TypeSet.procedures c.args.set.now c.args.store.now c.args.id c.args.stamp c.requires.store c.requires.id c.args.spot c.requires.free c.requires.newest
    c.args.object c.requires.empty c.put_in.new.store c.in_ok-put_in.ensures.put c.open.new.self c.open.new.set
    c.in_default.ensures.accepted c.in_default.ensures.opened c.in_default.ensures.set

pub unreachable-requires : goal.unreachable-requires
unreachable-requires g c =
    let there =
    object_there g.T.TypeSet.procedures c.args.set.now c.args.store.now c.args.id c.args.stamp c.requires.store c.requires.id c.args.spot c.requires.free c.requires.newest
    c.args.object c.requires.empty c.put_in.new.store c.in_ok-put_in.ensures.put c.open.new.self c.in-Err.ensures.unchanged c.directory_of-directory.result c.directory_of-directory.ensures in
    let none = c.in_default-take_back.ensures.there in
    absurd (false≢true (ap is_some (none ∙ there)))

pub delete_body-requires-after_bounds : goal.delete_body-requires-after_bounds
delete_body-requires-after_bounds g c κs within =
    subst (λ (x : StoredObject _ _). IsIdleBody g.T.TypeSet.idle (body_of_stored x.body))
    (sym (object_is g.T.TypeSet.procedures c.args.set.now c.args.store.now c.args.id c.args.stamp c.requires.store c.requires.id c.args.spot c.requires.free c.requires.newest
    c.args.object c.requires.empty c.put_in.new.store c.in_ok-put_in.ensures.put c.open.new.self c.in-Err.ensures.unchanged c.directory_of-directory.result c.directory_of-directory.ensures
    c.in-Some.stored c.in-Some.ensures.there)) c.requires.idle

pub returns-clause-refused : goal.returns-clause-refused
returns-clause-refused g c =
    is_taken_back g.T.TypeSet.procedures c.args.set.now c.args.store.now c.args.id c.args.stamp c.requires.store c.requires.id c.args.spot c.requires.free c.requires.newest
    c.args.object c.requires.empty c.put_in.new.store c.in_ok-put_in.ensures.put c.open.new.self c.in-Err.ensures.unchanged c.directory_of-directory.result c.directory_of-directory.ensures
    c.take_back.new.store c.open.new.set c.delete_body.new.set c.in-Some.stored c.in-Err.code c.in-Err.ensures.refused
    c.in-Some.ensures.others c.in-Err.ensures.set_unchanged c.in-Some.ensures.there c.delete_body.ensures
