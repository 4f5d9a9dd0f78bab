-- Where bytes stop being parts of given sorts.
use Rattle.std.proofs.Common.{◌≡◌, ℕ, List, [], ◌∷◌, ◌++◌, Option, Some, None, IfSome, IfNone, IsTrue, ◌↔◌, refl, ap, sym, subst, ◌∙◌}
use Rattle.std.specs.Borrow.{Bor}
use Rattle.std.specs.Option.{is_some}
use Rattle.ob_parts.specs.declared.handle.HandleForm.{HandleForm}
use Rattle.ob_parts.specs.declared.sort.PartForm.{PartForm}
use Rattle.ob_parts.specs.declared.sort.PartForm.TheVariants as part
use Rattle.ob_parts.specs.declared.sort.LastForm.{LastForm}
use Rattle.ob_parts.specs.declared.sort.LastForm.TheVariants as last
use Rattle.ob_parts.specs.Parts.{IsHandle, handle_seen}
use Rattle.ob_parts.specs.Stops.{BeginsWithPart, BeginsWithParts, IsLastPart, LacksFirst, StopsAt}
use Rattle.ob_parts.proofs.Paged.{room_alike}
use Rattle.ob_parts.proofs.Readings.{flags_first_alike, kind_alike, name_alike, place_alike, text_alike, want_alike}
use Rattle.ob_parts.proofs.Processed.{handle_first_alike, inherit_alike, process_alike}

-- bytes that go on after a part as far as a stop stop there
pub stops_later : (parts others : List PartForm) (part : PartForm) (last : LastForm) (bytes more : List ℕ) (left : List PartForm) (rest : List ℕ)
    → parts ≡ part ∷ others → BeginsWithPart part bytes more → StopsAt others last more left rest → StopsAt parts last bytes left rest
stops_later parts others part last bytes more left rest e b (done, split, begins, lacks) =
    (part ∷ done, e ∙ ap (λ ps. part ∷ ps) split, (more, b, begins), lacks)

-- a handle is a last part, where the bytes are one
pub handle_last : (bytes : List ℕ) (found : Option (HandleForm (Bor (List ℕ)))) → IfSome found (λ handle. IsHandle bytes (handle_seen handle))
    → IfNone found ((handle : HandleForm (List ℕ)) → ¬ IsHandle bytes handle) → IsTrue (is_some found) ↔ IsLastPart last.Handle bytes
handle_last bytes None is none = ((λ no. cc), (λ s. absurd (none s.0 s.1)))
handle_last bytes (Some handle) is none = ((λ yes. (handle_seen handle, is)), (λ s. refl))

-- one rest follows a part of a sort
part_alike : (p : PartForm) (bytes r r' : List ℕ) → BeginsWithPart p bytes r → BeginsWithPart p bytes r' → r ≡ r'
part_alike part.Process bytes r r' (a, s) (b, t) = (process_alike bytes a r b r' s t).1
part_alike part.Handle bytes r r' (a, s) (b, t) = (handle_first_alike bytes a r b r' s t).1
part_alike part.Name bytes r r' (a, s) (b, t) = (name_alike bytes a r b r' s t).1
part_alike part.Place bytes r r' (a, s) (b, t) = (place_alike bytes a r b r' s t).1
part_alike part.Kind bytes r r' (a, s) (b, t) = (kind_alike bytes a r b r' s t).1
part_alike part.Want bytes r r' (a, s) (b, t) = (want_alike bytes a r b r' s t).1
part_alike part.Flags bytes r r' (a, s) (b, t) = (flags_first_alike bytes a r b r' s t).1
part_alike part.Text bytes r r' (a, s) (b, t) = (text_alike bytes a r b r' s t).1
part_alike part.Room bytes r r' (a, s) (b, t) = (room_alike bytes a r b r' s t).1
part_alike part.Inherit bytes r r' (a, s) (b, t) = (inherit_alike bytes a r b r' s t).1

-- bytes that lack the first of these sorts don't begin with it
first_lacked : (p : PartForm) (ps left : List PartForm) (last : LastForm) (bytes more : List ℕ) → left ≡ p ∷ ps → LacksFirst left last bytes → ¬ BeginsWithPart p bytes more
first_lacked p ps left last bytes more e lacks b =
    let own : LacksFirst (p ∷ ps) last bytes = subst (λ x. LacksFirst x last bytes) e lacks in own more b

-- bytes stop in one place
stops_once : (done done' : List PartForm) (last : LastForm) (bytes : List ℕ) (left left' : List PartForm) (rest rest' : List ℕ)
    → done ++ left ≡ done' ++ left' → BeginsWithParts done bytes rest → BeginsWithParts done' bytes rest' → LacksFirst left last rest → LacksFirst left' last rest'
    → (left ≡ left') × (rest ≡ rest')
stops_once [] [] last bytes left left' rest rest' e b b' lacks lacks' = (e, sym b ∙ b')
stops_once [] (p ∷ done') last bytes left left' rest rest' e b (m, begins, b') lacks lacks' =
    let own : LacksFirst left last bytes = subst (λ x. LacksFirst left last x) (sym b) lacks in
    absurd (first_lacked p (done' ++ left') left last bytes m e own begins)
stops_once (p ∷ done) [] last bytes left left' rest rest' e (m, begins, b) b' lacks lacks' =
    let own : LacksFirst left' last bytes = subst (λ x. LacksFirst left' last x) (sym b') lacks' in
    absurd (first_lacked p (done ++ left) left' last bytes m (sym e) own begins)
stops_once (p ∷ done) (p' ∷ done') last bytes left left' rest rest' e (m, begins, b) (m', begins', b') lacks lacks' =
    let here : p ≡ p' = cc in
    let there : done ++ left ≡ done' ++ left' = cc in
    let same : m ≡ m' = part_alike p bytes m m' begins (subst (λ x. BeginsWithPart x bytes m') (sym here) begins') in
    stops_once done done' last m left left' rest rest' there b (subst (λ x. BeginsWithParts done' x rest') (sym same) b') lacks lacks'

pub stops_alike : (parts : List PartForm) (last : LastForm) (bytes : List ℕ) (left left' : List PartForm) (rest rest' : List ℕ)
    → StopsAt parts last bytes left rest → StopsAt parts last bytes left' rest' → (left ≡ left') × (rest ≡ rest')
stops_alike parts last bytes left left' rest rest' (done, e, b, lacks) (done', e', b', lacks') =
    stops_once done done' last bytes left left' rest rest' (sym e ∙ e') b b' lacks lacks'
