-- The pieces of arguments with bytes of the profile have such bytes.
use Rattle.std.proofs.Common.{◌≡◌, ◌∙◌, ℕ, Bool, true, false, ◌&&◌, cond, List, [], ◌∷◌, map, IsTrue, All, Bor, refl, ap, ◌==◌}
use Rattle.std.proofs.lemmas.List.Elements.{All-nil, All-cons}
use Rattle.std.specs.List.{list_all, slice_split, onto_first}
use Rattle.std.proofs.lemmas.Bool.{and_from, and_parts}
use Rattle.ob_model.specs.Names.{is_profile_byte, is_profile_text}
use Rattle.ob_plain.specs.Arguments.{pieces, semicolon}

onto_profile : (x : ℕ) (parts : List (List ℕ)) → is_profile_byte x ≡ true → list_all is_profile_text parts ≡ true → list_all is_profile_text (onto_first x parts) ≡ true
onto_profile x [] e f = and_from _ _ (and_from _ _ e refl) refl
onto_profile x (part ∷ parts) e f =
    let all = and_parts (is_profile_text part) (list_all is_profile_text parts) f in
    and_from _ _ (and_from _ _ e all.0) all.1

split_profile : (p : ℕ → Bool) (text : List ℕ) → is_profile_text text ≡ true → list_all is_profile_text (slice_split p text) ≡ true
split_profile p [] e = refl
split_profile p (x ∷ xs) e =
    let all = and_parts (is_profile_byte x) (is_profile_text xs) e in
    go (p x) all.0 (split_profile p xs all.1)
  where
    go : (b : Bool) → is_profile_byte x ≡ true → list_all is_profile_text (slice_split p xs) ≡ true → list_all is_profile_text (cond b ([] ∷ slice_split p xs) (onto_first x (slice_split p xs))) ≡ true
    go true first more = more
    go false first more = onto_profile x (slice_split p xs) first more

pieces_profile : (args : List ℕ) → is_profile_text args ≡ true → list_all is_profile_text (pieces args) ≡ true
pieces_profile [] e = refl
pieces_profile (b ∷ bs) e = split_profile (λ byte. byte == semicolon) (b ∷ bs) e

all_pieces : (parts : List (Bor (List ℕ))) → list_all is_profile_text (map (λ piece. piece.now) parts) ≡ true → All (λ piece. IsTrue (is_profile_text piece.now)) parts
all_pieces [] e = All-nil (λ piece. IsTrue (is_profile_text piece.now))
all_pieces (part ∷ parts) e =
    let all = and_parts (is_profile_text part.now) (list_all is_profile_text (map (λ piece. piece.now) parts)) e in
    All-cons (λ piece. IsTrue (is_profile_text piece.now)) part parts all.0 (all_pieces parts all.1)

-- what is split of such arguments
pub each_is_profile : (args : List ℕ) (parts : List (Bor (List ℕ))) → map (λ piece. piece.now) parts ≡ pieces args → is_profile_text args ≡ true → All (λ piece. IsTrue (is_profile_text piece.now)) parts
each_is_profile args parts are e = all_pieces parts (ap (list_all is_profile_text) are ∙ pieces_profile args e)
