-- A handle comes into a row, its value leads there, and its opening comes last; or nothing comes.
use Rattle.std.proofs.Common.{◌∙◌, ℕ, ◌+◌, [], ◌∷◌, ◌++◌, Some, sym, refl, ap, subst}
use Rattle.slab.specs.Slab.{get, slab_len}
use Rattle.ob_handles.specs.Values.{Turns}
use Rattle.ob_handles.proofs.Inside.{inside_stays, handles_stay, on_err, put_inside, put_last}
use Rattle.ob_handles.proofs.slab_table.SlabTableHandleTable.put.Goals as goal

pub invariant_of-self : goal.invariant_of-self
invariant_of-self c =
    inside_stays (get c.self.inside.rows) (get c.reserve.new.self) c.self.inside.foreign.entries c.self.inside.foreign.entries c.self.inside.opened.items c.self.inside.opened.items (slab_len c.self.inside.rows) (slab_len c.reserve.new.self)
    (ap get c.reserve.ensures.rest_kept) refl refl (ap slab_len c.reserve.ensures.rest_kept) c.self.invariant

pub returns-in_err-reserve-clause-unchanged : goal.returns-in_err-reserve-clause-unchanged
returns-in_err-reserve-clause-unchanged c =
    on_err c.from_residual.result
    (handles_stay (get c.self.inside.rows) (get c.reserve.new.self) c.self.inside.opened.items c.self.inside.opened.items c.args.self.now (ap get c.reserve.ensures.rest_kept) refl c.self.view_is)

pub invariant_of-self-in_err-reserve-2 : goal.invariant_of-self-in_err-reserve-2
invariant_of-self-in_err-reserve-2 c =
    inside_stays (get c.self.inside.rows) (get c.reserve.new.self) c.self.inside.foreign.entries c.self.inside.foreign.entries c.self.inside.opened.items c.reserve-2.new.self.items (slab_len c.self.inside.rows) (slab_len c.reserve.new.self)
    (ap get c.reserve.ensures.rest_kept) refl c.reserve-2.ensures.items (ap slab_len c.reserve.ensures.rest_kept) c.self.invariant

pub returns-in_err-reserve-2-clause-unchanged : goal.returns-in_err-reserve-2-clause-unchanged
returns-in_err-reserve-2-clause-unchanged c =
    on_err c.from_residual-in_err-reserve-2.result
    (handles_stay (get c.self.inside.rows) (get c.reserve.new.self) c.self.inside.opened.items c.reserve-2.new.self.items c.args.self.now (ap get c.reserve.ensures.rest_kept)
    c.reserve-2.ensures.items c.self.view_is)

pub invariant_of-self-in_err-note : goal.invariant_of-self-in_err-note
invariant_of-self-in_err-note c =
    inside_stays (get c.self.inside.rows) (get c.reserve.new.self) c.self.inside.foreign.entries c.note.new.foreign.entries c.self.inside.opened.items c.reserve-2.new.self.items (slab_len c.self.inside.rows) (slab_len c.reserve.new.self)
    (ap get c.reserve.ensures.rest_kept) c.in_err-note.ensures.unchanged c.reserve-2.ensures.items (ap slab_len c.reserve.ensures.rest_kept) c.self.invariant

pub returns-in_err-note-clause-unchanged : goal.returns-in_err-note-clause-unchanged
returns-in_err-note-clause-unchanged c =
    on_err c.from_residual-in_err-note.result
    (handles_stay (get c.self.inside.rows) (get c.reserve.new.self) c.self.inside.opened.items c.reserve-2.new.self.items c.args.self.now (ap get c.reserve.ensures.rest_kept)
    c.reserve-2.ensures.items c.self.view_is)

pub invariant_of-self-2 : goal.invariant_of-self-2
invariant_of-self-2 c =
    let row = c.insert_reserved.ensures.updates in
    let turn =
    subst (λ (k : ℕ). Turns (get c.reserve.new.self) (get c.insert_reserved.new.self) k (Some c.args.held)) (c.insert_reserved.ensures.key ∙ sym c.vacant_key-key.ensures.value) (row.changed, row.others)
    in
    put_inside (get c.self.inside.rows) c.self.inside.foreign.entries c.self.inside.opened.items (slab_len c.self.inside.rows) c.self.invariant c.args.self.now c.self.view_is c.args.held c.requires.unused c.requires.newest
    c.vacant_key-key.result (get c.reserve.new.self) (ap get c.reserve.ensures.rest_kept) c.vacant_key-key.ensures.vacant (get c.insert_reserved.new.self) turn c.push_back_reserved.new.self.items
    (c.push_back_reserved.ensures.items ∙ ap (λ os. os ++ record { order = c.args.held.order; key = c.vacant_key-key.result } ∷ []) c.reserve-2.ensures.items)
    c.value.inside.0 c.value.view_is c.note.new.foreign.entries c.in_ok-note.ensures.noted (slab_len c.insert_reserved.new.self)
    (c.insert_reserved.ensures.len ∙ ap (λ n. n + 1) (ap slab_len c.reserve.ensures.rest_kept))

pub returns-clause-last : goal.returns-clause-last
returns-clause-last c =
    let row = c.insert_reserved.ensures.updates in
    let turn =
    subst (λ (k : ℕ). Turns (get c.reserve.new.self) (get c.insert_reserved.new.self) k (Some c.args.held)) (c.insert_reserved.ensures.key ∙ sym c.vacant_key-key.ensures.value) (row.changed, row.others)
    in
    put_last (get c.self.inside.rows) c.self.inside.foreign.entries c.self.inside.opened.items (slab_len c.self.inside.rows) c.self.invariant c.args.self.now c.self.view_is c.args.held c.requires.unused c.requires.newest
    c.vacant_key-key.result (get c.reserve.new.self) (ap get c.reserve.ensures.rest_kept) c.vacant_key-key.ensures.vacant (get c.insert_reserved.new.self) turn c.push_back_reserved.new.self.items
    (c.push_back_reserved.ensures.items ∙ ap (λ os. os ++ record { order = c.args.held.order; key = c.vacant_key-key.result } ∷ []) c.reserve-2.ensures.items)
