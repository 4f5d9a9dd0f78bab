-- A name is there exactly where its place is.
use Rattle.std.proofs.Common.{◌∙◌, ◌==◌, ap, sym, find}
use Rattle.std.specs.Option.{is_some}
use Rattle.ob_objects.specs.Named.{place_of}
use Rattle.ob_objects.specs.Store.{rows_of}
use Rattle.ob_objects.proofs.Stands.{any_found, is_mapped_some}
use Rattle.ob_objects.proofs.store.Store.has_name.Goals as goal

pub returns : goal.returns
returns g c =
    c.is_some.ensures ∙ ap is_some c.place_of.ensures ∙ is_mapped_some place_of (find (λ row. row.object == c.args.id) (rows_of c.args.self.now))
    ∙ sym (any_found (λ row. row.object == c.args.id) (rows_of c.args.self.now))
