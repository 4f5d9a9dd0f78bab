-- The object has no name, or its name is copied.
use Rattle.std.proofs.Common.{◌∙◌, ◌++◌, List, [], ◌∷◌, ap, subst, sym}
use Rattle.ob_model.specs.declared.state.Row.{Row}
use Rattle.ob_objects.specs.Named.{row_of_named}
use Rattle.ob_mirror.specs.Mirrored.{Mirrored, Follows}
use Rattle.ob_mirror.proofs.Following.{copied, its_object, newest, skipped}
use Rattle.ob_mirror.proofs.Leading.{leads_nowhere, leads_on}
use Rattle.ob_mirror.proofs.mirror.Mirror.look_at.Goals as goal

pub returns-in_default-clause-follows : goal.returns-in_default-clause-follows
returns-in_default-clause-follows g c =
    let old = c.args.self.now in
    let first = c.requires.first in
    subst (λ (rows : List Row). Follows rows c.in_ok-next.next c.args.core.now) (sym (ap (λ (m : Mirrored). m.rows) c.self.view_is))
    (subst (λ n. Follows c.args.self.now.rows n c.args.core.now) (sym c.in_ok-next.ensures)
    (skipped c.args.core.now c.state_is_sound.ensures c.requires.order old.rows old.next c.requires.follows c.args.id first.0 first.1 first.2 (sym c.in_default.ensures)))

pub returns-in_default-clause-listed : goal.returns-in_default-clause-listed
returns-in_default-clause-listed g c = leads_nowhere c.args.self.now _ c.self.view_is

pub copy-requires-clause-object : goal.copy-requires-clause-object
copy-requires-clause-object g c = its_object c.args.core.now.rows (row_of_named c.in-Some.name) c.args.id (sym c.in-Some.ensures)

pub copy-requires-clause-newest : goal.copy-requires-clause-newest
copy-requires-clause-newest g c =
    let old = c.args.self.now in
    let first = c.requires.first in
    newest c.args.core.now c.state_is_sound.ensures c.requires.order old.rows old.next c.requires.follows c.args.id first.0 first.1 first.2 (row_of_named c.in-Some.name) (sym c.in-Some.ensures)

pub returns-in_err-copy-clause-follows : goal.returns-in_err-copy-clause-follows
returns-in_err-copy-clause-follows g c = subst (λ (m : Mirrored). Follows m.rows m.next c.args.core.now) (sym c.in_err-copy.ensures.unchanged) c.requires.follows

pub returns-clause-follows : goal.returns-clause-follows
returns-clause-follows g c =
    let old = c.args.self.now in
    let first = c.requires.first in
    subst (λ (rows : List Row). Follows rows c.in_ok-next.next c.args.core.now) (sym (ap (λ (m : Mirrored). m.rows) c.self-2.view_is ∙ c.in_ok-copy.ensures.rows))
    (subst (λ n. Follows (c.args.self.now.rows ++ row_of_named c.in-Some.name ∷ []) n c.args.core.now) (sym c.in_ok-next.ensures)
    (copied c.args.core.now c.state_is_sound.ensures c.requires.order old.rows old.next c.requires.follows c.args.id first.0 first.1 first.2 (row_of_named c.in-Some.name) (sym c.in-Some.ensures)))

pub returns-clause-listed : goal.returns-clause-listed
returns-clause-listed g c =
    let new : Mirrored = record { rows = c.self-2.inside.rows; next = c.self-2.inside.next; pending = c.self-2.inside.pending.items } in
    leads_on c.args.self.now c.copy.new.self new c.copy.ensures.listed (leads_nowhere c.copy.new.self new c.self-2.view_is)
