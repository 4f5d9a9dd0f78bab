-- The entries are those of the pieces, and the pieces those of the arguments.
use Rattle.std.proofs.Common.{◌≡◌, ◌∙◌, ◌≤◌, ℕ, List, [], ◌∷◌, Bor, map, length, rules, refl, ap}
use Rattle.std.proofs.lemmas.List.{take_all}
use Rattle.ob_plain.specs.Arguments.{pieces}
use Rattle.ob_key.specs.Entries.{entry_of}
use Rattle.ob_key.proofs.table.KeyTable.read.Goals as goal

in_two_steps : (parts : List (Bor (List ℕ))) → map (λ piece. entry_of piece.now) parts ≡ map entry_of (map (λ piece. piece.now) parts)
in_two_steps [] = refl
in_two_steps (part ∷ parts) = ap (λ es. entry_of part.now ∷ es) (in_two_steps parts)

pub returns : goal.returns
returns c =
    let parts = c.deref-piece-items.result.now in
    let done : length parts ≤ c.loop-piece.piece-index = search rules in
    let all = ap (map (λ (piece : Bor (List ℕ)). entry_of piece.now)) (take_all c.loop-piece.piece-index parts done) in
    let are : map (λ piece. piece.now) parts ≡ pieces c.args.args.now = search rules in
    c.loop-piece.invariant ∙ all ∙ in_two_steps parts ∙ ap (map entry_of) are
