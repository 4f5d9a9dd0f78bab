-- Two runs of one script show the same: the machine may choose the values of new handles, and nothing that is
-- printed depends on which it chose.
--
-- Source: this profile, by which the machine may choose the value of a new handle.
use Rattle.std.specs.Prelude.{◌≡◌, ℕ, List}
use Rattle.ob_runner.specs.Completes.{FindMemory}
use Rattle.ob_lines.specs.Script.{Forms}
use Rattle.ob_scripts.specs.declared.run.Ending.{Ending}
use Rattle.ob_scripts.specs.Shown.{PlaysFormsBy, PlaysBy, FindsMemory}
use Rattle.ob_effects.specs.Waiting.{Steps}

-- whatever steps lines of these forms play, where they find memory, and so does each parse, they print the same and
-- end alike
abbrev pub FormsShowTheSame : Type 0
FormsShowTheSame =
    (forms : Forms) (steps others : Steps) (output other : List ℕ) (end second : Ending) → FindMemory steps → FindMemory others → FindsMemory end → FindsMemory second
    → PlaysFormsBy forms steps output end → PlaysFormsBy forms others other second → (output ≡ other) × (end ≡ second)

-- and so it is for whatever a script plays
abbrev pub ScriptsShowTheSame : Type 0
ScriptsShowTheSame =
    (script : List ℕ) (steps others : Steps) (output other : List ℕ) (end second : Ending) → FindMemory steps → FindMemory others → FindsMemory end → FindsMemory second
    → PlaysBy script steps output end → PlaysBy script others other second → (output ≡ other) × (end ≡ second)
