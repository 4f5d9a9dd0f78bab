-- One entry more is told, by its name and the name of its object's type.
use Rattle.std.proofs.Common.{◌∙◌, ℕ, List, ap, subst, sym}
use Rattle.ob_objects.specs.Listing.{entry_listed}
use Rattle.ob_objects.specs.Types.{KeepsTypes}
use Rattle.ob_objects.proofs.KeptTypes.{named_alike}
use Rattle.ob_objects.proofs.Pages.{listed_next}
use Rattle.ob_objects.proofs.store.Store.listed.Goals as goal

pub loop-entry-preserved : goal.loop-entry-preserved
loop-entry-preserved g c =
    let keeps = c.loop-entry.invariant.0 in
    let name = c.in-Ok.ensures.copy ∙ c.as_slice.ensures.bytes in
    let type_name = c.new-type_name.ensures ∙ c.type_name_at.ensures.told ∙ ap (λ (f : ℕ → List ℕ). f c.in-Some.entry.now.object) (named_alike g.T.TypeSet.procedures c.args.self.now c.loop-entry.walk keeps) in (
      subst (KeepsTypes g.T.TypeSet.procedures c.args.self.now) (sym c.type_name_at.ensures.unchanged) keeps,
      listed_next (entry_listed g.T.TypeSet.procedures c.args.self.now) c.loop-entry.items.items c.push.new.self.items _ c.in-Some.entry.now c.loop-entry.entry-iterator c.next.new.self _
          c.in_ok-push.ensures.items (λ i. record { name = name i; type_name = type_name i }) c.in-Some.ensures.steps c.loop-entry.invariant.1,
    )
