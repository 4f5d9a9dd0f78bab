-- Each entry is written behind those before it, and has room.
use Rattle.std.proofs.Common.{◌∙◌}
use Rattle.ob_c.proofs.PagesLemmas.{entry_written, name_fits, kind_fits}
use Rattle.ob_c.proofs.pages.write_entries.Goals as goal

pub write_text-behind_name-requires : goal.write_text-behind_name-requires
write_text-behind_name-requires c =
    name_fits c.args.entries.now c.loop-entry.entry-index c.entry-item.result c.as_slice.result.now c.loop-entry-test.true c.entry-item.is c.as_slice.ensures
    c.loop-entry.invariant.0 c.loop-entry.invariant.1

pub write_text-place-requires : goal.write_text-place-requires
write_text-place-requires c =
    kind_fits c.args.entries.now c.loop-entry.entry-index c.entry-item.result c.as_slice.result.now c.as_bytes.result.now c.loop-entry-test.true c.entry-item.is
    c.as_slice.ensures (c.as_bytes.ensures.value ∙ c.as_str.ensures) c.loop-entry.invariant.0 c.loop-entry.invariant.1
    c.write_text-behind_name.ensures.place c.write_text-behind_name.ensures.bytes

pub loop-entry-preserved : goal.loop-entry-preserved
loop-entry-preserved c = (
  entry_written c.args.entries.now c.loop-entry.entry-index c.entry-item.result c.as_slice.result.now c.as_bytes.result.now c.loop-entry-test.true c.entry-item.is
      c.as_slice.ensures (c.as_bytes.ensures.value ∙ c.as_str.ensures) c.loop-entry.invariant.0
      c.write_text-behind_name.ensures.place c.write_text-behind_name.ensures.bytes c.write_text-place.ensures.place c.write_text-place.ensures.bytes,
  c.loop-entry.invariant.1,
)
