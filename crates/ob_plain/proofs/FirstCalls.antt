-- The first calls are kept, and the others are counted.
use Rattle.std.proofs.Common.{◌≡◌, ◌∙◌, ℕ, suc, ◌+◌, ◌-◌, ◌^◌, ◌≤◌, ◌<◌, min, Bool, true, false, ltb, cond, List, [], ◌∷◌, ◌++◌, length, take, refl, ap, sym, arith, append_assoc}
use Rattle.std.proofs.lemmas.Bool.{ltb-true, ltb-false}
use Rattle.std.proofs.lemmas.Grind.{common_steps}
use Rattle.ob_plain.specs.declared.calls.Call.{Call}
use Rattle.ob_plain.specs.Calls.{Kept, none_kept, all_noted}
use Rattle.ob_plain.specs.Counting.{counted}

-- the length of a list with one call more
length_more : (calls : List Call) (call : Call) → length (calls ++ (call ∷ [])) ≡ length calls + 1
length_more calls call = grind (arith, common_steps)

-- what is left of the room takes the next call
take_more : (n : ℕ) (calls rest : List Call) (call : Call) → length calls < n → (calls ++ (call ∷ [])) ++ take (n - length (calls ++ (call ∷ []))) rest ≡ calls ++ take (n - length calls) (call ∷ rest)
take_more n calls rest call h =
    let e : n - length calls ≡ suc (n - length (calls ++ (call ∷ []))) = omega (arith, length_more calls call) in
    append_assoc calls (call ∷ []) (take (n - length (calls ++ (call ∷ []))) rest) ∙ ap (λ m. calls ++ take m (call ∷ rest)) (sym e)

-- or there is none left
take_none : (n : ℕ) (calls rest : List Call) (call : Call) → n ≤ length calls → calls ++ take (n - length calls) rest ≡ calls ++ take (n - length calls) (call ∷ rest)
take_none n calls rest call h =
    let e : n - length calls ≡ 0 = omega arith in
    ap (λ m. calls ++ take m rest) e ∙ sym (ap (λ m. calls ++ take m (call ∷ rest)) e)

take_all : (n : ℕ) (calls : List Call) → calls ≡ calls ++ take n []
take_all n calls = grind (arith, common_steps)

abbrev KeepsFirst : List Call → Type 0
KeepsFirst rest = (k : Kept) → length k.calls ≤ k.room → (all_noted k rest).calls ≡ k.calls ++ take (k.room - length k.calls) rest

kept_at : (rest : List Call) (k : Kept) (call : Call) → KeepsFirst rest → length k.calls ≤ k.room → (t : Bool) → ltb (length k.calls) k.room ≡ t → (all_noted (cond t (record k { calls = k.calls ++ (call ∷ []) }) (record k { lost = counted k.lost })) rest).calls ≡ k.calls ++ take (k.room - length k.calls) (call ∷ rest)
kept_at rest k call later h true e =
    later (record k { calls = k.calls ++ (call ∷ []) }) (omega (arith, length_more k.calls call, ltb-true _ _ e)) ∙ take_more k.room k.calls rest call (ltb-true _ _ e)
kept_at rest k call later h false e = later (record k { lost = counted k.lost }) h ∙ take_none k.room k.calls rest call (ltb-false _ _ e)

-- calls that are noted behind others
all_kept : (rest : List Call) (k : Kept) → length k.calls ≤ k.room → (all_noted k rest).calls ≡ k.calls ++ take (k.room - length k.calls) rest
all_kept [] k h = take_all (k.room - length k.calls) k.calls
all_kept (call ∷ rest) k h = kept_at rest k call (all_kept rest) h (ltb (length k.calls) k.room) refl

abbrev CountsOthers : List Call → Type 0
CountsOthers rest = (k : Kept) → length k.calls ≤ k.room → k.lost ≤ 2 ^ 64 - 1 → (all_noted k rest).lost ≡ min (k.lost + (length rest - (k.room - length k.calls))) (2 ^ 64 - 1)

lost_at : (rest : List Call) (k : Kept) (call : Call) → CountsOthers rest → length k.calls ≤ k.room → k.lost ≤ 2 ^ 64 - 1 → (t : Bool) → ltb (length k.calls) k.room ≡ t → (all_noted (cond t (record k { calls = k.calls ++ (call ∷ []) }) (record k { lost = counted k.lost })) rest).lost ≡ min (k.lost + (length (call ∷ rest) - (k.room - length k.calls))) (2 ^ 64 - 1)
lost_at rest k call later h m true e =
    let more = length_more k.calls call in
    let below = ltb-true _ _ e in
    let same : length rest - (k.room - length (k.calls ++ (call ∷ []))) ≡ length (call ∷ rest) - (k.room - length k.calls) = omega arith in
    later (record k { calls = k.calls ++ (call ∷ []) }) (omega arith) m ∙ ap (λ n. min (k.lost + n) (2 ^ 64 - 1)) same
lost_at rest k call later h m false e =
    let full = ltb-false _ _ e in
    let counted_less : counted k.lost ≤ 2 ^ 64 - 1 = omega arith in
    let same : min (counted k.lost + (length rest - (k.room - length k.calls))) (2 ^ 64 - 1) ≡ min (k.lost + (length (call ∷ rest) - (k.room - length k.calls))) (2 ^ 64 - 1) = omega arith in
    later (record k { lost = counted k.lost }) h counted_less ∙ same

all_lost : (rest : List Call) (k : Kept) → length k.calls ≤ k.room → k.lost ≤ 2 ^ 64 - 1 → (all_noted k rest).lost ≡ min (k.lost + (length rest - (k.room - length k.calls))) (2 ^ 64 - 1)
all_lost [] k h m = omega arith
all_lost (call ∷ rest) k h m = lost_at rest k call (all_lost rest) h m (ltb (length k.calls) k.room) refl

-- calls that are noted behind none
pub none_then_kept : (room : ℕ) (calls : List Call) → (all_noted (none_kept room) calls).calls ≡ take room calls
none_then_kept room calls =
    let e : room - 0 ≡ room = omega arith in
    all_kept calls (none_kept room) (omega arith) ∙ ap (λ n. take n calls) e

pub none_then_lost : (room : ℕ) (calls : List Call) → (all_noted (none_kept room) calls).lost ≡ min (length calls - room) (2 ^ 64 - 1)
none_then_lost room calls =
    let e : 0 + (length calls - (room - 0)) ≡ length calls - room = omega arith in
    all_lost calls (none_kept room) (omega arith) (omega arith) ∙ ap (λ n. min n (2 ^ 64 - 1)) e
