-- A line is a value where it is UTF-8 and JSON.
use Rattle.std.proofs.lemmas.Bool.{false≢true}
use Rattle.serde_json.specs.View.{view}
use Rattle.ob_reader.proofs.Values.{some_value, no_value}
use Rattle.ob_reader.proofs.read.read_value.Goals as goal

pub returns-in-Ok : goal.returns-in-Ok
returns-in-Ok c = some_value c.args.line.now (view c.in-Ok.value) c.in-Ok.ensures.ok.0 c.in-Ok.ensures.ok.1

pub returns-else-is_memory : goal.returns-else-is_memory
returns-else-is_memory c = no_value c.args.line.now (c.in-Err.ensures.err (λ m. false≢true (c.if-is_memory.ensures.1 m)))
