-- A handle ends a line where the bytes are one.
use Rattle.ob_parts.proofs.Stopped.{handle_last}
use Rattle.ob_parts.proofs.sort.is_last_part.Goals as goal

pub returns-in-Handle : goal.returns-in-Handle
returns-in-Handle c = rw (c.is_some.ensures, c.in-Handle.is) (handle_last _ c.handle_of.result c.handle_of.ensures.found c.handle_of.ensures.none)
