-- Rows: what is kept for a handle variable, and what is written of it.
--
-- Source: this profile.
use Rattle.std.specs.Prelude.{ℕ}
use Rattle.ob_requests.specs.declared.variable.Variable.{Variable}
use Rattle.ob_requests.specs.declared.variable.Write.{Write}
use Rattle.ob_requests.specs.declared.variable.Write.TheVariants as write

-- what is kept for a variable that was never set
abbrev pub no_row : Variable
no_row = record { value = 0; context = 0; ticket = 0 }

-- a value without a context and a ticket
abbrev pub value_alone : ℕ → Variable
value_alone value = record { value = value; context = 0; ticket = 0 }

-- a row after it was written: a value comes without a context
abbrev pub written : Variable → Write → Variable
written row (write.Value value) = record { value = value; context = 0; ticket = row.ticket }
written row (write.Context context) = record { value = row.value; context = context; ticket = row.ticket }
written row (write.Ticket ticket) = record { value = row.value; context = row.context; ticket = ticket }
written row write.Alone = value_alone row.value
