-- Who is asked for one object after another.
use Rattle.std.proofs.Common.{◌≡◌, ℕ, List, length, [], ◌∷◌, All}
use Rattle.std.proofs.lemmas.List.Elements.{All-nil, All-cons}
use Rattle.std.specs.List.{FoldsTo}

-- who is asked for one object after another, and answers each time from one store, tells the lengths of the
-- names of their types
pub answers_tell : {P A : Type 0} (R : P → ℕ × ℕ → P → Type 0) (told : List (ℕ × ℕ)) (first last : P) → FoldsTo R first told last
    → (seen : P → A) (store : A) (type_name : ℕ → List ℕ) → seen first ≡ store
    → ((f h : P) (id n : ℕ) → seen f ≡ store → R f (id, n) h → (seen h ≡ store) × (n ≡ length (type_name id)))
    → All (λ x. x.1 ≡ length (type_name x.0)) told
answers_tell R [] first last runs seen store type_name same answers = All-nil (λ x. x.1 ≡ length (type_name x.0))
answers_tell R (x ∷ told) first last (next, step, runs) seen store type_name same answers =
    let answer = answers first next x.0 x.1 same step in
    All-cons (λ y. y.1 ≡ length (type_name y.0)) x told answer.1 (answers_tell R told next last runs seen store type_name answer.0 answers)
