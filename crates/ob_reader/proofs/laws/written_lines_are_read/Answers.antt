use Rattle.ob_reader.proofs.ReadBack.{entry_lines_are_read, header_lines_are_read}
use Rattle.ob_reader.proofs.laws.written_lines_are_read.Goals as goal

pub returns-clause-entries : goal.returns-clause-entries
returns-clause-entries c = entry_lines_are_read

pub returns-clause-headers : goal.returns-clause-headers
returns-clause-headers c = header_lines_are_read
