-- The component names a directory, to which the walk goes on.
use Rattle.std.proofs.Common.{◌∙◌, ap, sym, subst, Some, List, ℕ}
use Rattle.ob_model.specs.Paths.{InDirectory}
use Rattle.ob_lookup.specs.Onward.{Led}
use Rattle.ob_lookup.proofs.Seen.{named_at_stands, directory_from_body, shadow_from_body}
use Rattle.ob_lookup.proofs.Steps.{led_start}
use Rattle.ob_lookup.proofs.Onto.{goes_on}
use Rattle.ob_lookup.proofs.onward.into_directory.Goals as goal

pub body-requires-after_bounds : goal.body-requires-after_bounds
body-requires-after_bounds g c κs within =
    named_at_stands c.args.store.now c.args.view.now c.args.at.now.place c.args.dir.now c.args.shadow c.in-One.name.now c.is_own-own.result c.args.fold c.in-Some-named_at.object
    c.requires.store c.requires.closed c.requires.view c.requires.directory (sym c.in-Some-named_at.is ∙ c.named_at.ensures)

pub returns-clause-directory : goal.returns-clause-directory
returns-clause-directory g c = directory_from_body c.args.store.now c.in-Some-named_at.object c.in-Directory.entries c.in-Directory.beneath (c.body.ensures.body ∙ ap Some c.in-Directory.is)

pub returns-clause-shadow : goal.returns-clause-shadow
returns-clause-shadow g c = shadow_from_body c.args.store.now c.in-Some-named_at.object c.in-Directory.entries c.in-Directory.beneath (c.body.ensures.body ∙ ap Some c.in-Directory.is)

pub returns-clause-leads : goal.returns-clause-leads
returns-clause-leads g c = λ s p shows of.
    subst (λ (rest : List ℕ). Led s p c.args.at.now c.args.create c.args.fold (InDirectory c.in-Some-named_at.object) rest) (sym (c.behind_separator.ensures ∙ c.new.ensures))
    (goes_on c.args.store.now c.args.view.now c.args.at.now c.args.create c.args.fold c.args.at.now.place c.args.dir.now c.args.shadow c.args.at.now.behind c.in-Some.behind c.as_slice-text.result.now
    c.requires.store (λ s p shows of. led_start s p c.args.at.now c.args.create c.args.fold) c.requires.directory c.requires.shadow c.in-Some.is c.as_slice-text.ensures.bytes
    c.in-One.name.now c.in-One.rest.now c.is_empty-is_last.result c.is_own-own.result c.named_at.result c.in-Some-named_at.object c.requires.view.global
    c.in-One.ensures.component c.in-One.ensures.next c.in-One.ensures.after c.is_empty-is_last.ensures c.is_own-own.ensures c.named_at.ensures c.in-Some-named_at.is s p shows of)
