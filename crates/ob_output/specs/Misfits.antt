-- The reply of a session to a line that is no script line.
--
-- Source: this profile.
use Rattle.std.specs.Prelude.{ℕ, List, ◌++◌, codes}
use Rattle.std.specs.Fmt.{decimal}
use Rattle.ob_lines.specs.declared.misfit.Misfit.{Misfit}
use Rattle.ob_lines.specs.Misfits.{expected_text}

-- the column where a line stops, from 1, and what is expected there
abbrev pub misfit_text : Misfit → List ℕ
misfit_text misfit = codes "not a script line: column " ++ decimal misfit.column ++ codes ", " ++ expected_text misfit.expected
