-- The instance is an object without entries.
use Rattle.std.proofs.Common.{false, ◌∙◌, ap, refl}
use Rattle.ob_objects.specs.declared.object.StoredBody.TheVariants.{Other}
use Rattle.ob_objects.specs.Store.{Entries, rows_of}
use Rattle.ob_objects.proofs.Shown.{new_object_has_no_row}
use Rattle.ob_opens.proofs.MadePut.{free_in_store, put_objects}
use Rattle.ob_opens.proofs.made.put_instance.Goals as goal

pub try_insert-requires-clause-free : goal.try_insert-requires-clause-free
try_insert-requires-clause-free g c κs within = free_in_store c.args.store.now c.args.id c.requires.free

pub returns-in_default-clause-object : goal.returns-in_default-clause-object
returns-in_default-clause-object g c =
    put_objects c.args.store.now c.try_insert.new.self c.args.id (record { permanent = false; exclusive = false; body = Other c.args.face c.args.inner }) c.in_default.ensures.put

pub returns-in_default-clause-rows : goal.returns-in_default-clause-rows
returns-in_default-clause-rows g c =
    ap (λ (es : Entries _ _). rows_of es) c.in_default.ensures.put
    ∙ new_object_has_no_row c.args.store.now c.args.id (record { permanent = false; exclusive = false; body = Other c.args.face c.args.inner }) refl
