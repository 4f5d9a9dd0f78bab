-- What was read through the first LF is a line.
use Rattle.std.proofs.Common.{◌<◌, ◌∙◌, ◌-◌, length, take, ap, sym, rules}
use Rattle.ob_session.proofs.Firsts.{has_end, taken_with, taken_without}
use Rattle.ob_session.proofs.reading.take_line.Goals as goal

pub returns-then-ends_with-clause-taken : goal.returns-then-ends_with-clause-taken
returns-then-ends_with-clause-taken g c =
    let read = c.read_until.new.buf.items in
    let some : 0 < length read = search rules in
    taken_with (g.R.Read.remaining c.args.reader.now) (g.R.Read.remaining c.read_until.new.self) c.clear.new.self.items read c.pop.new.self.items some c.clear.ensures.items
    c.in-Ok.ensures.bytes c.in-Ok.ensures.rest (ap has_end (sym c.as_slice.ensures.value) ∙ sym c.if-ends_with.ensures.value) (c.pop.ensures.rest ∙ ap (λ n. take (n - 1) read) (search rules))

pub returns-else-ends_with-clause-taken : goal.returns-else-ends_with-clause-taken
returns-else-ends_with-clause-taken g c =
    let read = c.read_until.new.buf.items in
    let some : 0 < length read = search rules in
    taken_without (g.R.Read.remaining c.args.reader.now) (g.R.Read.remaining c.read_until.new.self) c.clear.new.self.items read some c.clear.ensures.items
    c.in-Ok.ensures.bytes c.in-Ok.ensures.rest (ap has_end (sym c.as_slice.ensures.value) ∙ sym c.if-ends_with.ensures.value)
