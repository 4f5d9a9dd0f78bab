-- The rows that stand in a directory are its entries.
use Rattle.std.proofs.Common.{◌∙◌, ◌==◌, ap, sym, not, length, []}
use Rattle.std.specs.Option.{option_copied, option_and_then, unwrap_or}
use Rattle.ob_objects.specs.declared.object.StoredObject.{StoredObject}
use Rattle.ob_objects.specs.Store.{directory_of}
use Rattle.ob_objects.proofs.Searches.{holds_entries}
use Rattle.ob_objects.proofs.store.Store.holds_names.Goals as goal

pub returns-in-Some : goal.returns-in-Some
returns-in-Some g c =
    c.holds_names.ensures
    ∙ ap (λ o. not (length (unwrap_or (option_and_then (λ (x : StoredObject _ _). directory_of x.body) o) []) == 0)) (sym (ap option_copied c.in-Some.is) ∙ c.get.ensures.stored)
    ∙ holds_entries c.args.self.now c.args.id c.get.ensures.store

pub returns-in-None : goal.returns-in-None
returns-in-None g c =
    ap (λ o. not (length (unwrap_or (option_and_then (λ (x : StoredObject _ _). directory_of x.body) o) []) == 0)) (sym (ap option_copied c.in-None.is) ∙ c.get.ensures.stored)
    ∙ holds_entries c.args.self.now c.args.id c.get.ensures.store
