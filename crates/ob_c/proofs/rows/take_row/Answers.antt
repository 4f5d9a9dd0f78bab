use Rattle.std.proofs.Common.{ℕ, ◌+◌, List, sym, subst, arith}
use Rattle.ob_c.specs.Rows.{Takes, entry_in}
use Rattle.ob_numbers.specs.Types.{IsTypeNumber}
use Rattle.ob_c.specs.declared.rows.Progress.{Progress}
use Rattle.ob_c.proofs.RowsLemmas.{takes_entry}
use Rattle.ob_c.proofs.rows.take_row.Goals as goal

pub returns : goal.returns
returns c =
    let old = c.args.progress.now in
    let report = subst (λ (name : List ℕ). IsTypeNumber name c.type_named.result) c.as_str.ensures c.type_named.ensures in
    let takes =
    takes_entry (entry_in c.args.ended.now) c.in-Some.entry.now c.args.room c.in-Some.context c.type_named.result old c.args.rows.now c.put_row.new.rows
    c.as_slice-name.result.now c.args.buffer.now c.put_name-end.new.buffer c.in-Some.ensures c.as_slice-name.ensures report
    (omega (arith, c.if-progress-rows.false, c.requires.rows)) (omega (arith, c.if-name-room.false, c.requires.within)) c.put_row.ensures c.put_name-end.ensures.bytes in
    subst
    (λ (n : ℕ). let new : Progress = record { filled = old.filled + 1; place = n; context = c.in-Some.context } in
    Takes (entry_in c.args.ended.now) c.args.room old new c.args.rows.now c.put_row.new.rows c.args.buffer.now c.put_name-end.new.buffer)
    (sym c.put_name-end.ensures.place) takes
