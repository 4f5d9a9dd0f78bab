-- The bytes after the first line, where the test finds it to be the one that is wanted.
use Rattle.std.proofs.Common.{◌≡◌, ℕ, List, ◌∷◌, refl, sym, ap, ◌∙◌}
use Rattle.std.proofs.lemmas.Slice.Eq.{bytes_eq-Decides}
use Rattle.ob_lines.specs.Lines.{lines_of}
use Rattle.ob_parts.proofs.Readings.{told_apart}
use Rattle.ob_worker_lines.proofs.line.behind_line.Goals as goal

pub returns-then-eq-clause-found : goal.returns-then-eq-clause-found
returns-then-eq-clause-found c =
    let line = c.in_ok-line.line.now in
    let rest = c.in_ok-line.rest.now in
    c.in_ok-line.ensures.found
    ∙ ap (λ (l : List ℕ). l ∷ lines_of rest) ((bytes_eq-Decides line c.args.wanted.now).0 (sym c.eq.ensures ∙ c.if-eq.true))

pub returns-else-eq-clause-none : goal.returns-else-eq-clause-none
returns-else-eq-clause-none c = λ more e.
    let line = c.in_ok-line.line.now in
    let rest = c.in_ok-line.rest.now in
    let both : line ∷ lines_of rest ≡ c.args.wanted.now ∷ more = sym c.in_ok-line.ensures.found ∙ e in
    let here : line ≡ c.args.wanted.now = cc in
    told_apart _ _ _ _ c.if-eq.false c.eq.ensures refl here
