-- The object is stored, and is one of the set.
use Rattle.std.proofs.Common.{◌∙◌, ap, refl, sym, Some}
use Rattle.std.specs.Option.{option_copied}
use Rattle.ob_objects.specs.declared.object.StoredBody.TheVariants.{Other}
use Rattle.ob_opens.proofs.Begun.{is_stored, not_other, face_of_set, where_ok}
use Rattle.ob_opens.proofs.begin.face_at.Goals as goal
use Rattle.ob_space.proofs.Shown.{shown}

pub unreachable-requires : goal.unreachable-requires
unreachable-requires g c =
    is_stored g.T.TypeSet.procedures c.args.space.now c.space.inside.store (shown c.space.inside.store (sym c.space.view_is) refl refl) c.args.object
    (sym c.get.ensures.stored ∙ ap option_copied c.in_default.is) c.requires.parses

pub unreachable-requires-in_default-body : goal.unreachable-requires-in_default-body
unreachable-requires-in_default-body g c =
    not_other g.T.TypeSet.procedures c.args.space.now c.space.inside.store (shown c.space.inside.store (sym c.space.view_is) refl refl) c.args.object
    c.in-Some.stored.now (sym c.get.ensures.stored ∙ ap option_copied c.in-Some.is) c.in_default-body.not-Other c.requires.parses

pub returns : goal.returns
returns g c = record {
  face = where_ok _ _ _ c.clone.result
      (λ face same.
      face_of_set g.T.TypeSet.procedures c.args.space.now c.space.inside.store (shown c.space.inside.store (sym c.space.view_is) refl refl) c.args.object
      c.in-Some.stored.now (Other c.in-Other.face c.in-Other.inner) (sym c.get.ensures.stored ∙ ap option_copied c.in-Some.is) c.in-Other.is ∙ ap Some (sym same)) c.clone.ensures.cases;
}
