-- Lemmas on what the parser states for the program `ntns`.
use Rattle.std.proofs.Common.{◌≡◌, ◌≤◌, ◌∙◌, List, [], ◌∷◌, length, map, ap, refl, true, arith}
use Rattle.clap.specs.Words.{App, Text, takes}
use Rattle.clap.proofs.OnLiterals.{clap_on_literals}
use Rattle.ob_shell.specs.Plan.{ntns}

-- what follows where an app that is the program takes the arguments, follows where the program does
pub takes_as_stated : (app : App) (arguments : List Text) (P : Type 0) → app ≡ ntns → (takes app arguments ≡ true → P) → takes ntns arguments ≡ true → P
takes_as_stated app arguments P same passes taken = passes (ap (λ a. takes a arguments) same ∙ taken)

-- the program takes no arguments at all
takes_none : takes ntns [] ≡ true
unfolding clap_on_literals
takes_none = refl

-- the program takes its name alone
takes_name : (name : Text) → takes ntns (name ∷ []) ≡ true
unfolding clap_on_literals
takes_name name = refl

-- the program takes its name, or less
pub takes_alone : {X : Type 0} (text : X → Text) (arguments : List X) → length arguments ≤ 1 → takes ntns (map text arguments) ≡ true
takes_alone text [] short = takes_none
takes_alone text (name ∷ []) short = takes_name (text name)
takes_alone text (name ∷ argument ∷ rest) short = absurd (omega (arith, short))
