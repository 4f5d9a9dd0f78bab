-- A sound state's store is closed, and the end of a lookup is good for what the core does with it.
use Rattle.std.proofs.Common.{refl, sym, ap}
use Rattle.ob_model.proofs.Vacant.{usable_end}
use Rattle.ob_lookup.specs.Look.{look_of}
use Rattle.ob_space.specs.Looking.{with_these_opens}
use Rattle.ob_space.proofs.Looked.{root_there, usable}
use Rattle.ob_space.proofs.Results.{IfOk-map, OnErr-map}
use Rattle.ob_space.proofs.looking.look_with.Goals as goal
use Rattle.ob_space.proofs.Shown.{shown, seen}

pub look_up-requires-clause-closed : goal.look_up-requires-clause-closed
look_up-requires-clause-closed g c κs within =
    c.sound_is_closed.ensures c.args.space.now c.space.inside.store (shown c.space.inside.store (sym c.space.view_is) refl refl) c.requires.sound

pub look_up-requires-clause-root : goal.look_up-requires-clause-root
look_up-requires-clause-root g c κs within =
    let s = c.args.space.now in
    root_there s c.space.inside.store (c.stored_is_the_object.ensures s c.space.inside.store (shown c.space.inside.store (sym c.space.view_is) refl refl)) c.args.root c.requires.root

pub look_up-requires-clause-view : goal.look_up-requires-clause-view
look_up-requires-clause-view g c κs within =
    c.sound_has_views.ensures c.args.space.now c.space.inside.store c.args.process c.view-view.result (shown c.space.inside.store (sym c.space.view_is) refl refl) c.requires.sound (seen (sym c.space.view_is) c.args.process c.view-view.result c.view-view.ensures.local c.view-view.ensures.global)

pub returns-clause-end : goal.returns-clause-end
returns-clause-end g c =
    let s = c.args.space.now in
    IfOk-map _ _ c.look_up.result (λ look told opens.
    told (with_these_opens s opens) c.args.process (shown c.space.inside.store (sym (ap (λ t. with_these_opens t opens) c.space.view_is)) refl refl) (seen (sym (ap (λ t. with_these_opens t opens) c.space.view_is)) c.args.process c.view-view.result c.view-view.ensures.local c.view-view.ensures.global)) c.look_up.ensures.end

pub returns-clause-usable : goal.returns-clause-usable
returns-clause-usable g c =
    let s = c.args.space.now in
    IfOk-map _ _ c.look_up.result (λ look told.
    usable s g.T.TypeSet.procedures c.args.mode (look_of look)
    (usable_end g.T.TypeSet.procedures s c.args.process c.args.mode c.args.left c.args.root c.args.name (look_of look) (told s c.args.process (shown c.space.inside.store (sym c.space.view_is) refl refl) (seen (sym c.space.view_is) c.args.process c.view-view.result c.view-view.ensures.local c.view-view.ensures.global)))) c.look_up.ensures.end

pub returns-clause-wants : goal.returns-clause-wants
returns-clause-wants g c =
    let s = c.args.space.now in
    OnErr-map _ _ c.look_up.result (λ told opens end looks.
    told (with_these_opens s opens) c.args.process end (shown c.space.inside.store (sym (ap (λ t. with_these_opens t opens) c.space.view_is)) refl refl) (seen (sym (ap (λ t. with_these_opens t opens) c.space.view_is)) c.args.process c.view-view.result c.view-view.ensures.local c.view-view.ensures.global) looks) c.look_up.ensures.wants
