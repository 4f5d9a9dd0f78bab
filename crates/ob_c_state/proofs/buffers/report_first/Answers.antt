use Rattle.std.proofs.Common.{◌≡◌, ℕ, List, Some, length, nat_le, if◌then◌else◌, slice_get, subst}
use Rattle.ob_model.specs.declared.entries.Listed.{Listed}
use Rattle.ob_c_state.specs.Reports.{Fills}
use Rattle.ob_numbers.specs.Types.{IsTypeNumber}
use Rattle.ob_c_state.proofs.ReportsLemmas.{reports_first}
use Rattle.ob_c_state.proofs.buffers.report_first.Goals as goal

pub returns : goal.returns
returns c =
    let entry = c.in-Some.entry.now in
    let there = subst (λ (es : List Listed). Some entry ≡ slice_get es 0) c.as_slice.ensures c.in-Some.ensures.value in
    let fills = subst (λ (name : List ℕ). Fills c.fill.result name c.args.status c.args.buffer.now c.fill.new.buffer c.fill.new.length) c.as_slice-name.ensures c.fill.ensures in
    let report = subst (λ (name : List ℕ). IsTypeNumber name c.type_named.result) c.as_str.ensures c.type_named.ensures in
    let moves = subst (λ (name : List ℕ). c.context_after.result ≡ (if nat_le (length name) (length c.args.buffer.now) then c.args.behind else c.args.context.now)) c.as_slice-name.ensures c.context_after.ensures in
    reports_first _ _ _ _ _ _ _ _ _ _ entry there fills report moves
