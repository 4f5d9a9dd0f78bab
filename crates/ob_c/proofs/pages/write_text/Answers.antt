-- The text is copied, and the byte 0 is set behind it.
use Rattle.std.proofs.Common.{arith}
use Rattle.ob_c.proofs.PagesLemmas.{text_written}
use Rattle.ob_c.proofs.pages.write_text.Goals as goal

pub returns-clause-bytes : goal.returns-clause-bytes
returns-clause-bytes c = text_written c.args.buffer.now c.copy_from_slice.new.self c.args.text.now c.args.place _ c.copy_from_slice.ensures.after (omega arith) c.requires
