-- One component further.
use Rattle.std.proofs.Common.{◌∙◌, ap, sym, subst, Some, Option, List, ℕ, [], inl, inr, refl}
use Rattle.std.specs.Arc.{arc_value}
use Rattle.ob_model.specs.declared.state.Body.TheVariants as model
use Rattle.ob_model.specs.Paths.{InDirectory}
use Rattle.ob_objects.specs.declared.object.StoredBody.TheVariants.{Link, Other}
use Rattle.ob_objects.specs.Store.{directory_at}
use Rattle.ob_lookup.specs.Onward.{Led}
use Rattle.ob_lookup.specs.Walk.{rest_of, origin_at, shadow_at}
use Rattle.ob_lookup.proofs.Seen.{body_is, directory_is, named_at_stands, directory_from_body, shadow_from_body, is_directory-from_body, place_seen}
use Rattle.ob_lookup.proofs.Steps.{led_start, reaches}
use Rattle.ob_lookup.proofs.Onto.{stops_empty, stops_absent, goes_on}
use Rattle.ob_lookup.proofs.walk.walk.Goals as goal

pub loop-left-init : goal.loop-left-init
loop-left-init g c = record {
  leads = λ s p shows of. led_start s p c.args.start c.args.create c.args.fold;
  inside = ap (directory_at c.args.store.now) (sym c.directory_of.ensures) ∙ c.directory-shadow.ensures.directory;
  beneath = ap (shadow_at c.args.store.now) (sym c.directory_of.ensures) ∙ c.directory-shadow.ensures.shadow;
}

pub returns-in_default-first-clause-stop : goal.returns-in_default-first-clause-stop
returns-in_default-first-clause-stop g c =
    stops_empty c.args.store.now c.args.view.now c.args.start c.args.create c.args.fold c.loop-left.place c.loop-left.dir.now c.loop-left.shadow c.loop-left.left c.in-Some.behind c.as_slice.result.now
    c.directory-shadow.ensures.store c.loop-left.invariant.leads c.loop-left.invariant.inside c.loop-left.invariant.beneath c.in-Some.is c.as_slice.ensures.bytes
    c.new.result c.as_slice-in_default-first.result.now c.is_empty.result c.directory_of-in_default-first.result c.directory_of-in_default-first.ensures
    c.new.ensures (c.in_default-first.ensures.no_component.0 tt) c.as_slice-in_default-first.ensures.bytes c.is_empty.ensures

pub returns-in_default-named_at-clause-stop : goal.returns-in_default-named_at-clause-stop
returns-in_default-named_at-clause-stop g c =
    stops_absent c.args.store.now c.args.view.now c.args.start c.args.create c.args.fold c.loop-left.place c.loop-left.dir.now c.loop-left.shadow c.loop-left.left c.in-Some.behind c.as_slice.result.now
    c.directory-shadow.ensures.store c.loop-left.invariant.leads c.loop-left.invariant.inside c.loop-left.invariant.beneath c.in-Some.is c.as_slice.ensures.bytes
    c.in-One.name.now c.in-One.rest.now c.new-in_default-named_at.result c.named_at.result c.is_empty-last.result c.is_own-own.result
    c.directory_of-in_default-named_at.result c.directory_of-in_default-named_at.ensures c.requires.view.global
    c.in-One.ensures.next c.in-One.ensures.after c.is_own-own.ensures c.named_at.ensures c.in_default-named_at.is c.new-in_default-named_at.ensures c.is_empty-last.ensures

pub body-requires-after_bounds : goal.body-requires-after_bounds
body-requires-after_bounds g c κs within =
    named_at_stands c.args.store.now c.args.view.now c.loop-left.place c.loop-left.dir.now c.loop-left.shadow c.in-One.name.now c.is_own-own.result c.args.fold c.in-Some-named_at.object
    c.directory-shadow.ensures.store c.requires.closed c.requires.view c.loop-left.invariant.inside (sym c.in-Some-named_at.is ∙ c.named_at.ensures)

pub loop-left-preserved : goal.loop-left-preserved
loop-left-preserved g c = record {
  leads = λ s p shows of.
      subst (λ (rest : List ℕ). Led s p c.args.start c.args.create c.args.fold (InDirectory c.in-Some-named_at.object) rest) (sym (c.behind_separator-left.ensures ∙ c.new-in-Directory.ensures))
      (goes_on c.args.store.now c.args.view.now c.args.start c.args.create c.args.fold c.loop-left.place c.loop-left.dir.now c.loop-left.shadow c.loop-left.left c.in-Some.behind c.as_slice.result.now
      c.directory-shadow.ensures.store c.loop-left.invariant.leads c.loop-left.invariant.inside c.loop-left.invariant.beneath c.in-Some.is c.as_slice.ensures.bytes
      c.in-One.name.now c.in-One.rest.now c.is_empty-last.result c.is_own-own.result c.named_at.result c.in-Some-named_at.object c.requires.view.global
      c.in-One.ensures.component c.in-One.ensures.next c.in-One.ensures.after c.is_empty-last.ensures c.is_own-own.ensures c.named_at.ensures c.in-Some-named_at.is s p shows of);
  inside = directory_from_body c.args.store.now c.in-Some-named_at.object c.in-Directory.next c.in-Directory.beneath (c.body.ensures.body ∙ ap Some c.in-Directory.is);
  beneath = shadow_from_body c.args.store.now c.in-Some-named_at.object c.in-Directory.next c.in-Directory.beneath (c.body.ensures.body ∙ ap Some c.in-Directory.is);
}

pub returns-in-Link-clause-stop : goal.returns-in-Link-clause-stop
returns-in-Link-clause-stop g c = λ s p shows of.
    let body = body_is s c.args.store.now shows c.in-Some-named_at.object (Link c.in-Link.target) (c.body.ensures.body ∙ ap Some c.in-Link.is) in
    reaches s p c.args.start c.args.create c.args.fold (InDirectory c.in-Some-named_at.object) c.in-Some-named_at.object c.new-in-Link.result refl
    (subst (λ (rest : List ℕ). Led s p c.args.start c.args.create c.args.fold (InDirectory c.in-Some-named_at.object) rest) (sym c.new-in-Link.ensures)
    (goes_on c.args.store.now c.args.view.now c.args.start c.args.create c.args.fold c.loop-left.place c.loop-left.dir.now c.loop-left.shadow c.loop-left.left c.in-Some.behind c.as_slice.result.now
    c.directory-shadow.ensures.store c.loop-left.invariant.leads c.loop-left.invariant.inside c.loop-left.invariant.beneath c.in-Some.is c.as_slice.ensures.bytes
    c.in-One.name.now c.in-One.rest.now c.is_empty-last.result c.is_own-own.result c.named_at.result c.in-Some-named_at.object c.requires.view.global
    c.in-One.ensures.component c.in-One.ensures.next c.in-One.ensures.after c.is_empty-last.ensures c.is_own-own.ensures c.named_at.ensures c.in-Some-named_at.is s p shows of))
    (inl (is_directory-from_body s c.args.store.now shows c.in-Some-named_at.object (model.Link c.in-Link.target) body))

pub returns-in-Link-clause-meets : goal.returns-in-Link-clause-meets
returns-in-Link-clause-meets g c = λ s shows.
    body_is s c.args.store.now shows c.in-Some-named_at.object (Link c.in-Link.target) (c.body.ensures.body ∙ ap Some c.in-Link.is) ∙ ap (λ (t : List ℕ). Some (model.Link t)) (sym c.as_name.ensures.bytes)

pub returns-in-Other-clause-stop : goal.returns-in-Other-clause-stop
returns-in-Other-clause-stop g c = λ s p shows of.
    let body = body_is s c.args.store.now shows c.in-Some-named_at.object (Other c.in-Other.face c.in-Other.inner) (c.body.ensures.body ∙ ap Some c.in-Other.is) in
    reaches s p c.args.start c.args.create c.args.fold (InDirectory c.in-Some-named_at.object) c.in-Some-named_at.object c.new-in-Other.result refl
    (subst (λ (rest : List ℕ). Led s p c.args.start c.args.create c.args.fold (InDirectory c.in-Some-named_at.object) rest) (sym c.new-in-Other.ensures)
    (goes_on c.args.store.now c.args.view.now c.args.start c.args.create c.args.fold c.loop-left.place c.loop-left.dir.now c.loop-left.shadow c.loop-left.left c.in-Some.behind c.as_slice.result.now
    c.directory-shadow.ensures.store c.loop-left.invariant.leads c.loop-left.invariant.inside c.loop-left.invariant.beneath c.in-Some.is c.as_slice.ensures.bytes
    c.in-One.name.now c.in-One.rest.now c.is_empty-last.result c.is_own-own.result c.named_at.result c.in-Some-named_at.object c.requires.view.global
    c.in-One.ensures.component c.in-One.ensures.next c.in-One.ensures.after c.is_empty-last.ensures c.is_own-own.ensures c.named_at.ensures c.in-Some-named_at.is s p shows of))
    (inl (is_directory-from_body s c.args.store.now shows c.in-Some-named_at.object _ body))

pub returns-in-Other-clause-meets : goal.returns-in-Other-clause-meets
returns-in-Other-clause-meets g c = λ s shows.
    let body = body_is s c.args.store.now shows c.in-Some-named_at.object (Other c.in-Other.face c.in-Other.inner) (c.body.ensures.body ∙ ap Some c.in-Other.is) in
    (arc_value c.in-Other.face, c.in-Other.inner, body, c.parses.ensures ∙ ap g.T.TypeSet.procedures.parses (c.kind_of.ensures ∙ ap g.T.TypeSet.procedures.kind_of c.deref.ensures))

pub returns-clause-stop : goal.returns-clause-stop
returns-clause-stop g c = λ s p shows of.
    reaches s p c.args.start c.args.create c.args.fold (origin_at p c.loop-left.place) c.directory_of-2.result [] (place_seen s p c.args.view.now of c.loop-left.place ∙ sym c.directory_of-2.ensures)
    (subst (λ (l : Option (List ℕ)). Led s p c.args.start c.args.create c.args.fold (origin_at p c.loop-left.place) (rest_of l)) c.in_default.is (c.loop-left.invariant.leads s p shows of)) (inr refl)

pub returns-clause-meets : goal.returns-clause-meets
returns-clause-meets g c = λ s shows. (
  _,
  directory_is s c.args.store.now shows c.directory_of-2.result c.loop-left.dir.now (ap (directory_at c.args.store.now) c.directory_of-2.ensures ∙ c.loop-left.invariant.inside),
)
