-- One directory further.
use Rattle.std.proofs.Common.{◌∙◌, ap, sym}
use Rattle.ob_objects.specs.Store.{directory_at}
use Rattle.ob_lookup.specs.Walk.{origin_at, shadow_at, text_of}
use Rattle.ob_lookup.proofs.Steps.{led_start}
use Rattle.ob_lookup.proofs.Compose.{led_more}
use Rattle.ob_lookup.proofs.onward.to_last.Goals as goal

pub loop-next-init : goal.loop-next-init
loop-next-init g c = record {
  leads = λ s p shows of. led_start s p c.args.start c.args.create c.args.fold;
  inside = ap (directory_at c.args.store.now) (sym c.directory_of.ensures) ∙ c.directory-shadow.ensures.directory;
  beneath = ap (shadow_at c.args.store.now) (sym c.directory_of.ensures) ∙ c.directory-shadow.ensures.shadow;
}

pub loop-next-preserved : goal.loop-next-preserved
loop-next-preserved g c = record {
  leads = λ s p shows of.
      led_more s c.args.fold p c.args.start c.loop-next.at c.args.create (c.loop-next.invariant.leads s p shows of)
      (origin_at p c.in-Some.next.place) (text_of c.in-Some.next) (c.in-Some.ensures.leads s p shows of);
  inside = c.in-Some.ensures.directory;
  beneath = c.in-Some.ensures.shadow;
}
