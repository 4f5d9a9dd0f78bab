-- What is stored is an object of the set.
use Rattle.std.proofs.Common.{Some, ◌∙◌, ap, sym}
use Rattle.std.specs.Arc.{arc_value}
use Rattle.ob_model.specs.declared.state.Body.TheVariants as model
use Rattle.ob_objects.specs.Store.{body_of_stored}
use Rattle.ob_opens.proofs.MadePut.{not_none, face_only, face_there, found_body}
use Rattle.ob_opens.proofs.made.take_instance.Goals as goal

pub unreachable-requires : goal.unreachable-requires
unreachable-requires g c = not_none c.args.store.now c.args.id c.requires.there (sym c.remove.ensures.there ∙ c.in_default.is)

pub unreachable-requires-in_default-body : goal.unreachable-requires-in_default-body
unreachable-requires-in_default-body g c =
    face_only c.args.store.now c.args.id c.in-Some.stored.body
    (face_there c.args.store.now c.args.id c.requires.there (Some c.in-Some.stored) (sym c.in-Some.is ∙ c.remove.ensures.there)) c.in_default-body.not-Other

pub returns-clause-body : goal.returns-clause-body
returns-clause-body g c =
    found_body c.args.store.now c.args.id (Some c.in-Some.stored) (sym c.in-Some.is ∙ c.remove.ensures.there)
    ∙ ap (λ b. Some (body_of_stored b)) c.in-Other.is
    ∙ sym (λ i. Some (model.Other (arc_value (c.in-Other.face-is i)) (c.in-Other.inner-is i)))
