-- Handles in a line, each with one reading.
use Rattle.std.proofs.Common.{◌≡◌, ◌≢◌, ℕ, List, [], ◌∷◌, ◌++◌, refl, ap, sym, subst, ◌∙◌, codes, append-nil, arith}
use Rattle.std.proofs.lemmas.Bool.{both_ways}
use Rattle.std.proofs.lemmas.Slice.Eq.{bytes_eq-Decides}
use Rattle.ob_parts.specs.declared.handle.HandleForm.{HandleForm}
use Rattle.ob_parts.specs.declared.handle.Offset.{Offset}
use Rattle.ob_parts.specs.declared.handle.Offset.TheVariants.{Zero, One, Two, Three}
use Rattle.ob_parts.specs.Text.{Lacks, IsVariable}
use Rattle.ob_parts.specs.Parts.{offset_text, IsHandle}
use Rattle.ob_parts.proofs.Cuts.{cut_alike, lacks_no_cut}
use Rattle.ob_parts.proofs.Spelled.{variable_lacks, variable_lacks_colon, variable_lacks_plus, variable_lacks_quote}

-- two lists that lack a byte lack it together
lacks_append : (m : ℕ) (a b : List ℕ) → Lacks m a → Lacks m b → Lacks m (a ++ b)
lacks_append m [] b l k = k
lacks_append m (c ∷ a) b l k = (l.0, lacks_append m a b l.1 k)

-- what stands behind a handle variable has no byte but a plus and its digit
offset_lacks : (m : ℕ) → 0x2B ≢ m → 0x31 ≢ m → 0x32 ≢ m → 0x33 ≢ m → (o : Offset) → Lacks m (offset_text o)
offset_lacks m plus one two three Zero = tt
offset_lacks m plus one two three One = (plus, (one, tt))
offset_lacks m plus one two three Two = (plus, (two, tt))
offset_lacks m plus one two three Three = (plus, (three, tt))

handle_lacks_other : (m : ℕ) (bytes : List ℕ) (h : HandleForm (List ℕ)) → Lacks m h.variable → Lacks m (offset_text h.offset) → IsHandle bytes h → Lacks m bytes
handle_lacks_other m bytes h l k (is, e) = subst (Lacks m) (sym e) (lacks_append m h.variable (offset_text h.offset) l k)

-- a handle has no space, no colon and no quote
pub handle_lacks : (bytes : List ℕ) (h : HandleForm (List ℕ)) → IsHandle bytes h → Lacks 0x20 bytes
handle_lacks bytes h s =
    handle_lacks_other 0x20 bytes h (variable_lacks h.variable s.0) (offset_lacks 0x20 (omega arith) (omega arith) (omega arith) (omega arith) h.offset) s

pub handle_lacks_colon : (bytes : List ℕ) (h : HandleForm (List ℕ)) → IsHandle bytes h → Lacks 0x3A bytes
handle_lacks_colon bytes h s =
    handle_lacks_other 0x3A bytes h (variable_lacks_colon h.variable s.0) (offset_lacks 0x3A (omega arith) (omega arith) (omega arith) (omega arith) h.offset) s

pub handle_lacks_quote : (bytes : List ℕ) (h : HandleForm (List ℕ)) → IsHandle bytes h → Lacks 0x22 bytes
handle_lacks_quote bytes h s =
    handle_lacks_other 0x22 bytes h (variable_lacks_quote h.variable s.0) (offset_lacks 0x22 (omega arith) (omega arith) (omega arith) (omega arith) h.offset) s

-- a handle that is cut at its plus has no other variable and no other offset
cut_here : (bytes variable number w : List ℕ) (o : Offset) → bytes ≡ variable ++ (0x2B ∷ number) → Lacks 0x2B variable → IsVariable w → bytes ≡ w ++ offset_text o
    → (variable ≡ w) × (0x2B ∷ number ≡ offset_text o)
cut_here bytes variable number w Zero e l is f =
    absurd (lacks_no_cut 0x2B w variable number (variable_lacks_plus w is) (sym (append-nil w) ∙ (sym f ∙ e)))
cut_here bytes variable number w One e l is f =
    let same = cut_alike 0x2B variable number w (codes "1") l (variable_lacks_plus w is) (sym e ∙ f) in (same.0, ap (λ x. 0x2B ∷ x) same.1)
cut_here bytes variable number w Two e l is f =
    let same = cut_alike 0x2B variable number w (codes "2") l (variable_lacks_plus w is) (sym e ∙ f) in (same.0, ap (λ x. 0x2B ∷ x) same.1)
cut_here bytes variable number w Three e l is f =
    let same = cut_alike 0x2B variable number w (codes "3") l (variable_lacks_plus w is) (sym e ∙ f) in (same.0, ap (λ x. 0x2B ∷ x) same.1)

pub plus_parts : (bytes variable number : List ℕ) (h : HandleForm (List ℕ)) → bytes ≡ variable ++ (0x2B ∷ number) → Lacks 0x2B variable → IsHandle bytes h
    → IsVariable variable × (0x2B ∷ number ≡ offset_text h.offset)
plus_parts bytes variable number h e l (is, f) =
    let same = cut_here bytes variable number h.variable h.offset e l is f in (subst IsVariable (sym same.0) is, same.1)

-- bytes without a plus, and no variable, are no handle
pub handle_uncut : (bytes : List ℕ) (h : HandleForm (List ℕ)) → (IsVariable bytes → ⊥) → Lacks 0x2B bytes → ¬ IsHandle bytes h
handle_uncut bytes h none l (is, e) = go h.variable h.offset is e
  where
    go : (w : List ℕ) (o : Offset) → IsVariable w → bytes ≡ w ++ offset_text o → ⊥
    go w Zero is e = none (subst IsVariable (sym (e ∙ append-nil w)) is)
    go w One is e = lacks_no_cut 0x2B bytes w (codes "1") l e
    go w Two is e = lacks_no_cut 0x2B bytes w (codes "2") l e
    go w Three is e = lacks_no_cut 0x2B bytes w (codes "3") l e

-- a handle has one reading
same_spelled : (w w' : List ℕ) (o o' : Offset) → IsVariable w → IsVariable w' → w ++ offset_text o ≡ w' ++ offset_text o' → (w ≡ w') × (offset_text o ≡ offset_text o')
same_spelled w w' Zero Zero is is' e = (sym (append-nil w) ∙ (e ∙ append-nil w'), refl)
same_spelled w w' One o is is' e = cut_here _ w (codes "1") w' o refl (variable_lacks_plus w is) is' e
same_spelled w w' Two o is is' e = cut_here _ w (codes "2") w' o refl (variable_lacks_plus w is) is' e
same_spelled w w' Three o is is' e = cut_here _ w (codes "3") w' o refl (variable_lacks_plus w is) is' e
same_spelled w w' Zero One is is' e = let same = cut_here _ w' (codes "1") w Zero refl (variable_lacks_plus w' is') is (sym e) in (sym same.0, sym same.1)
same_spelled w w' Zero Two is is' e = let same = cut_here _ w' (codes "2") w Zero refl (variable_lacks_plus w' is') is (sym e) in (sym same.0, sym same.1)
same_spelled w w' Zero Three is is' e = let same = cut_here _ w' (codes "3") w Zero refl (variable_lacks_plus w' is') is (sym e) in (sym same.0, sym same.1)

offset_same : (a b : Offset) → offset_text a ≡ offset_text b → a ≡ b
offset_same Zero Zero e = refl
offset_same One One e = refl
offset_same Two Two e = refl
offset_same Three Three e = refl
offset_same a b e = absurd (both_ways _ refl ((bytes_eq-Decides (offset_text a) (offset_text b)).1 e))

same_parts : (h h' : HandleForm (List ℕ)) → h.variable ≡ h'.variable → h.offset ≡ h'.offset → h ≡ h'
same_parts h h' e f =
    let P : List ℕ → HandleForm (List ℕ) = λ w. record { variable = w; offset = h.offset } in
    let Q : Offset → HandleForm (List ℕ) = λ o. record { variable = h'.variable; offset = o } in
    ap P e ∙ ap Q f

pub handle_alike : (bytes : List ℕ) (h h' : HandleForm (List ℕ)) → IsHandle bytes h → IsHandle bytes h' → h ≡ h'
handle_alike bytes h h' (is, e) (is', f) =
    let same = same_spelled h.variable h'.variable h.offset h'.offset is is' (sym e ∙ f) in
    same_parts h h' same.0 (offset_same h.offset h'.offset same.1)
