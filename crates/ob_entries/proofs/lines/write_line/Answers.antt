-- An entry's value has no float, so its text is known.
use Rattle.ob_entries.proofs.Values.{line_known, entry_whole}
use Rattle.ob_entries.proofs.lines.write_line.Goals as goal

pub returns : goal.returns
returns g c =
    line_known c.write_value.result (λ line. line.items) _ _ c.in_ok-value.ensures (entry_whole g.T.TypeSet.procedures.type_name c.args.entry.now) c.write_value.ensures
