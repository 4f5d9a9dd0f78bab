-- The map is set, and what its old directory held up goes; where there was no map, nothing does.
use Rattle.std.proofs.Common.{◌≡◌, ◌∙◌, not, true, false, ap, refl, sym, subst}
use Rattle.std.specs.Prelude.{Some, None}
use Rattle.ob_model.specs.declared.reply.Answer.TheVariants.{Done}
use Rattle.ob_model.specs.Maps.{with_map}
use Rattle.ob_model.specs.Settle.{IsSettled, settle}
use Rattle.ob_model.proofs.Staying.{settled_itself}
use Rattle.ob_model.specs.State.{State, is_directory}
use Rattle.ob_space.proofs.InPlace.{never}
use Rattle.ob_commands.proofs.Passed.{passes_handle}
use Rattle.ob_space.specs.Namespace.{parts}
use Rattle.ob_space.specs.Orderly.{IsOrderly}
use Rattle.ob_life.specs.Settling.{AreShadowsFit, with_handle_to}
use Rattle.ob_commands.proofs.Mapped.{set_shown, rising_shown, map_shown, directory_shown, mapped_orderly, nothing_goes, was_mapped, sets_map, no_directory}
use Rattle.ob_commands.proofs.device_maps.set_device_map.Goals.{in-Some-old, in_default-old}
use Rattle.ob_commands.proofs.device_maps.set_device_map.Goals as goal

pub settle_after_loss-requires-clause-orderly : goal.settle_after_loss-requires-clause-orderly
settle_after_loss-requires-clause-orderly g c κs within =
    let s = c.args.space.now in
    let d = c.in-Some.held.object in
    subst (IsOrderly g.T.TypeSet.idle)
    (sym (set_shown g.row.T-Kind.Denot (parts c.space.inside) c.space.view_is c.set_map.new.self c.args.process d c.in_ok-set_map.ensures.processes c.set_map.ensures.handles))
    (mapped_orderly s c.args.process d g.T.TypeSet.idle c.requires.between.orderly)

pub settle_after_loss-requires-clause-shadows : goal.settle_after_loss-requires-clause-shadows
settle_after_loss-requires-clause-shadows g c κs within =
    let sound = c.requires.between.sound in
    subst (λ (t : State _ _ _ _). AreShadowsFit t)
    (sym (set_shown g.row.T-Kind.Denot (parts c.space.inside) c.space.view_is c.set_map.new.self c.args.process c.in-Some.held.object c.in_ok-set_map.ensures.processes c.set_map.ensures.handles))
    (record { inside = sound.rows.inside; shadows = sound.objects.shadows })

pub settle_after_loss-requires-clause-kept : goal.settle_after_loss-requires-clause-kept
settle_after_loss-requires-clause-kept g c κs within =
    let s = c.args.space.now in
    let d = c.in-Some.held.object in
    subst (λ t. IsSettled (with_handle_to t c.in-Some-old.old))
    (sym (set_shown g.row.T-Kind.Denot (parts c.space.inside) c.space.view_is c.set_map.new.self c.args.process d c.in_ok-set_map.ensures.processes c.set_map.ensures.handles))
    (was_mapped s c.args.process d (rising_shown c.space.view_is c.view-old.ensures.rising) c.requires.between.settled c.in-Some-old.old
    (map_shown c.space.view_is c.args.process (Some c.in-Some-old.old) (sym c.view-old.ensures.local ∙ c.in-Some-old.is)))

pub returns-clause-orderly : goal.returns-clause-orderly
returns-clause-orderly g c =
    let s = c.args.space.now in
    let d = c.in-Some.held.object in
    elim c.match-old.branch [
      | in-Some-old w ↦ subst (λ a. IsOrderly g.T.TypeSet.idle a) (sym w.space-is) w.settle_after_loss.ensures.orderly
      | in_default-old w ↦
          subst (λ a. IsOrderly g.T.TypeSet.idle a)
          (sym (w.space-is ∙ set_shown g.row.T-Kind.Denot (parts c.space.inside) c.space.view_is c.set_map.new.self c.args.process d c.in_ok-set_map.ensures.processes c.set_map.ensures.handles))
          (mapped_orderly s c.args.process d g.T.TypeSet.idle c.requires.between.orderly)
    ]

pub returns-clause-step : goal.returns-clause-step
returns-clause-step g c =
    let s = c.args.space.now in
    let t = c.match-old.space in
    let d = c.in-Some.held.object in
    let set = set_shown g.row.T-Kind.Denot (parts c.space.inside) c.space.view_is c.set_map.new.self c.args.process d c.in_ok-set_map.ensures.processes c.set_map.ensures.handles in
    let left : t ≡ settle g.T.TypeSet.procedures (with_map s c.args.process d) = elim c.match-old.branch [
      | in-Some-old w ↦ w.space-is ∙ w.settle_after_loss.ensures.settled ∙ ap (settle g.T.TypeSet.procedures) set
      | in_default-old w ↦
          w.space-is ∙ set
          ∙ sym (settled_itself g.T.TypeSet.procedures (with_map s c.args.process d)
          (nothing_goes s c.args.process d (rising_shown c.space.view_is c.view-old.ensures.rising) c.requires.between.settled
          (map_shown c.space.view_is c.args.process None (sym c.view-old.ensures.local ∙ w.in_default-old.is))))
    ] in
    sets_map g.T.TypeSet.procedures s t c.args.process c.args.handle (Done c.status_alone-2.result) c.in-Some.held (sym c.is_live.ensures ∙ c.if-not-is_live.false) (sym c.in-Some.ensures)
    (directory_shown c.space.view_is d true (sym c.if-not-is_directory.false ∙ c.is_directory.ensures)) (ap Done c.status_alone-2.ensures) left

pub returns-then-not-is_directory-clause-step : goal.returns-then-not-is_directory-clause-step
returns-then-not-is_directory-clause-step g c =
    no_directory g.T.TypeSet.procedures c.args.space.now c.args.space.now c.args.process c.args.handle (Done c.status_alone-then-not-is_directory.result) c.in-Some.held
    (sym c.is_live.ensures ∙ c.if-not-is_live.false) (sym c.in-Some.ensures)
    (directory_shown c.space.view_is c.in-Some.held.object false (sym c.if-not-is_directory.true ∙ c.is_directory.ensures)) (ap Done c.status_alone-then-not-is_directory.ensures) refl

pub returns-in_err-set_map-clause-found : goal.returns-in_err-set_map-clause-found
returns-in_err-set_map-clause-found g c =
    let s = c.args.space.now in
    never (passes_handle s c.args.process c.args.handle c.in-Some.held c.in-Some.ensures (λ h. not (is_directory s h.object))
    (ap not (directory_shown c.space.view_is c.in-Some.held.object true (sym c.if-not-is_directory.false ∙ c.is_directory.ensures))))
