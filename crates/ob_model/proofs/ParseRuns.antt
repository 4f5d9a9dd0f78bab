-- A parse of a lawful set ends, and every parse ends in one way.
use Rattle.std.proofs.Common.{◌≡◌, ◌≢◌, ℕ, zero, suc, ◌<◌, ◌==◌, Bool, true, false, List, length, drop, refl, ap, subst, arith, eqb-true, eq-eqb}
use Rattle.std.proofs.lemmas.List.{length-drop}
use Rattle.ob_model.specs.Procedures.{Procedures, ParseAnswer, Itself, Front, Reparse, Refused, ParseOutcome, EndsItself, EndsMade, EndsReparse, EndsRefused, ParseEnds, ends_itself, ends_reparse, ends_refused, ends_made, goes_on, UsesFront, FrontIsUsed}

module _ {K T F I : Type 0} (g : Procedures K T F I) where
  pub parse_unique : {face : F} {rest : List ℕ} {a b : ParseOutcome F I} → ParseEnds g face rest a → ParseEnds g face rest b → a ≡ b
  parse_unique (ends_itself e) (ends_itself f) = refl
  parse_unique (ends_itself e) (ends_reparse f) = cc
  parse_unique (ends_itself e) (ends_refused f) = cc
  parse_unique (ends_itself e) (ends_made f all) = cc
  parse_unique (ends_itself e) (goes_on f some later) = cc
  parse_unique (ends_reparse e) (ends_itself f) = cc
  parse_unique (ends_reparse e) (ends_reparse f) = cc
  parse_unique (ends_reparse e) (ends_refused f) = cc
  parse_unique (ends_reparse e) (ends_made f all) = cc
  parse_unique (ends_reparse e) (goes_on f some later) = cc
  parse_unique (ends_refused e) (ends_itself f) = cc
  parse_unique (ends_refused e) (ends_reparse f) = cc
  parse_unique (ends_refused e) (ends_refused f) = cc
  parse_unique (ends_refused e) (ends_made f all) = cc
  parse_unique (ends_refused e) (goes_on f some later) = cc
  parse_unique (ends_made e all) (ends_itself f) = cc
  parse_unique (ends_made e all) (ends_reparse f) = cc
  parse_unique (ends_made e all) (ends_refused f) = cc
  parse_unique (ends_made e all) (ends_made f all') = cc
  parse_unique {rest = rest} (ends_made {used = used} e all) (goes_on {used = fewer} f some later) = let same : used ≡ fewer = cc in absurd (omega (arith, all, some, same))
  parse_unique (goes_on e some later) (ends_itself f) = cc
  parse_unique (goes_on e some later) (ends_reparse f) = cc
  parse_unique (goes_on e some later) (ends_refused f) = cc
  parse_unique {rest = rest} (goes_on {used = fewer} e some later) (ends_made {used = used} f all) = let same : used ≡ fewer = cc in absurd (omega (arith, all, some, same))
  parse_unique {rest = rest} (goes_on {next = next} {used = used} e some later) (goes_on {next = next'} {used = used'} {outcome = outcome} f some' later') =
      let same : next' ≡ next = cc in
      let as_many : used' ≡ used = cc in
      parse_unique later (subst (λ n. ParseEnds g next (drop n rest) outcome) as_many (subst (λ face. ParseEnds g face (drop used' rest) outcome) same later'))

  module _ (law : FrontIsUsed g) where
    -- what an answer of a parse procedure leads to, where a shorter rest has an end
    ended : (face : F) (rest : List ℕ) (answer : ParseAnswer F I) → g.parsed face rest ≡ answer
        → ((next : F) (used : ℕ) → 0 < used → used < length rest → (outcome : ParseOutcome F I) × ParseEnds g next (drop used rest) outcome)
        → (outcome : ParseOutcome F I) × ParseEnds g face rest outcome
    ended face rest Itself e later = (EndsItself, ends_itself e)
    ended face rest (Reparse text) e later = (EndsReparse text, ends_reparse e)
    ended face rest (Refused k) e later = (EndsRefused k, ends_refused e)
    ended face rest (Front used next inner) e later = go (used == length rest) refl
      where
        uses : UsesFront g rest used next
        uses = law face next rest used inner e

        go : (all : Bool) → (used == length rest) ≡ all → (outcome : ParseOutcome F I) × ParseEnds g face rest outcome
        go true is = (EndsMade next inner, ends_made e (eqb-true used (length rest) is))
        go false isnt =
            let within = uses.within in
            let other : used ≢ length rest = λ same. (let is : (used == length rest) ≡ true = eq-eqb used (length rest) same in cc) in
            let fewer : used < length rest = omega (arith, within, other) in
            let some : 0 < used = uses.some_bytes (λ empty. let none : length rest ≡ 0 = ap length empty in omega (arith, fewer, none)) in
            let rest_ends = later next used some fewer in
            (rest_ends.0, goes_on {outcome = rest_ends.0} e fewer rest_ends.1)

    parse_within : (fuel : ℕ) (face : F) (rest : List ℕ) → length rest < fuel → (outcome : ParseOutcome F I) × ParseEnds g face rest outcome
    parse_within zero face rest below = absurd (omega (arith, below))
    parse_within (suc n) face rest below =
        ended face rest (g.parsed face rest) refl
        (λ next used some fewer. parse_within n next (drop used rest) (let left = length-drop used rest in omega (arith, below, some, fewer, left)))

    pub parse_total : (face : F) (rest : List ℕ) → (outcome : ParseOutcome F I) × ParseEnds g face rest outcome
    parse_total face rest = parse_within (suc (length rest)) face rest (omega arith)
