-- A line that is no script line has one misfit.
use Rattle.std.proofs.Common.{◌≡◌, ℕ, ◌+◌, ◌<◌, ◌≤◌, ◌⊎◌, inl, inr, List, [], ◌++◌, length, Some, refl, ap, codes, sym, subst, ◌∙◌, arith}
use Rattle.ob_parts.specs.declared.sort.PartForm.{PartForm}
use Rattle.ob_parts.specs.declared.sort.LastForm.{LastForm}
use Rattle.ob_parts.specs.Text.{Lacks}
use Rattle.ob_parts.specs.Stops.{StopsAt}
use Rattle.ob_parts.proofs.Cuts.{lacks_no_cut}
use Rattle.ob_parts.proofs.Readings.{differ, moved, spaced, spaced_alike}
use Rattle.ob_parts.proofs.Processed.{process_alike}
use Rattle.ob_parts.proofs.Stopped.{stops_alike}
use Rattle.ob_lines.specs.declared.misfit.Expected.{Expected}
use Rattle.ob_lines.specs.declared.misfit.Expected.TheVariants as expected
use Rattle.ob_lines.specs.declared.misfit.Misfit.{Misfit}
use Rattle.ob_lines.specs.declared.verb.Verb.{Verb}
use Rattle.ob_lines.specs.Grammar.{longest_line}
use Rattle.ob_lines.specs.Verbs.{Sorts, sorts_of, verb_text}
use Rattle.ob_lines.specs.Misfits.{HasSorts, IsColumn, IsCutAtSpace, LinesHaveOneMisfit, StopsAfterVerb, StopsLine, expected_text, sorts_text}
use Rattle.ob_lines.proofs.Misfitted.{sorts_lack}
use Rattle.ob_lines.proofs.Verbs.{begin_no_verb, drop_no_verb, end_no_verb, verb_same}

-- a word has one list of sorts
some_same : (a b : Sorts) → Some a ≡ Some b → a ≡ b
some_same a b e = cc

verb_sorts : (v v' : Verb) (a b : Sorts) → verb_text v ≡ verb_text v' → sorts_of v ≡ Some a → sorts_of v' ≡ Some b → a ≡ b
verb_sorts v v' a b e s t = some_same a b (sym s ∙ (ap sorts_of (verb_same v v' e) ∙ t))

sorts_alike : (word : List ℕ) (a b : Sorts) → HasSorts word a → HasSorts word b → a ≡ b
sorts_alike word a b (inl (v, e, s)) (inl (v', f, t)) = verb_sorts v v' a b (sym e ∙ f) s t
sorts_alike word a b (inl (v, e, s)) (inr (inl (f, t))) = absurd (begin_no_verb v (sym f ∙ e))
sorts_alike word a b (inl (v, e, s)) (inr (inr (inl f, t))) = absurd (end_no_verb v (sym f ∙ e))
sorts_alike word a b (inl (v, e, s)) (inr (inr (inr f, t))) = absurd (drop_no_verb v (sym f ∙ e))
sorts_alike word a b (inr (inl (e, s))) (inl (v, f, t)) = absurd (begin_no_verb v (sym e ∙ f))
sorts_alike word a b (inr (inr (inl e, s))) (inl (v, f, t)) = absurd (end_no_verb v (sym e ∙ f))
sorts_alike word a b (inr (inr (inr e, s))) (inl (v, f, t)) = absurd (drop_no_verb v (sym e ∙ f))
sorts_alike word a b (inr (inl (e, s))) (inr (inl (f, t))) = s ∙ sym t
sorts_alike word a b (inr (inl (e, s))) (inr (inr (inl f, t))) = absurd (differ (codes "begin") (codes "end") refl (sym e ∙ f))
sorts_alike word a b (inr (inl (e, s))) (inr (inr (inr f, t))) = absurd (differ (codes "begin") (codes "drop") refl (sym e ∙ f))
sorts_alike word a b (inr (inr (inl e, s))) (inr (inl (f, t))) = absurd (differ (codes "end") (codes "begin") refl (sym e ∙ f))
sorts_alike word a b (inr (inr (inr e, s))) (inr (inl (f, t))) = absurd (differ (codes "drop") (codes "begin") refl (sym e ∙ f))
sorts_alike word a b (inr (inr (e, s))) (inr (inr (f, t))) = s ∙ sym t

-- bytes are cut after one word that has sorts
words_alike : (bytes word operands word' operands' : List ℕ) (a b : Sorts) → HasSorts word a → HasSorts word' b → bytes ≡ word ++ codes " " ++ operands
    → bytes ≡ word' ++ codes " " ++ operands' → (word ≡ word') × (operands ≡ operands')
words_alike bytes word operands word' operands' a b s t e f =
    spaced_alike bytes word operands word' operands' (sorts_lack word a s) (sorts_lack word' b t) (spaced bytes word operands e) f

no_cut_alone : (bytes word word' operands : List ℕ) (a : Sorts) → HasSorts word a → bytes ≡ word → bytes ≡ word' ++ codes " " ++ operands → ⊥
no_cut_alone bytes word word' operands a s e f =
    lacks_no_cut 0x20 bytes word' operands (moved (Lacks 0x20) bytes word e (sorts_lack word a s)) (spaced bytes word' operands f)

-- so bytes after a process variable stop in one place
ends_of : (a b : Sorts) → a ≡ b → (a.0 ≡ b.0) × (a.1 ≡ b.1)
ends_of a b e = (ap (λ (s : Sorts). s.0) e, ap (λ (s : Sorts). s.1) e)

same_stop : (parts parts' : List PartForm) (l l' : LastForm) (left left' : List PartForm) (bytes bytes' rest rest' : List ℕ) → parts ≡ parts' → l ≡ l' → bytes ≡ bytes'
    → StopsAt parts l bytes left rest → StopsAt parts' l' bytes' left' rest' → (left ≡ left') × (rest ≡ rest')
same_stop parts parts' l l' left left' bytes bytes' rest rest' p q b s t =
    let one : StopsAt parts l' bytes' left' rest' = subst (λ x. StopsAt x l' bytes' left' rest') (sym p) t in
    let two : StopsAt parts l bytes' left' rest' = subst (λ x. StopsAt parts x bytes' left' rest') (sym q) one in
    let three : StopsAt parts l bytes left' rest' = subst (λ x. StopsAt parts l x left' rest') (sym b) two in
    stops_alike parts l bytes left left' rest rest' s three

after_alike : (bytes : List ℕ) (left left' : List PartForm) (l l' : LastForm) (rest rest' : List ℕ) → StopsAfterVerb bytes (left, l) rest → StopsAfterVerb bytes (left', l') rest'
    → (left ≡ left') × (l ≡ l') × (rest ≡ rest')
after_alike bytes left left' l l' rest rest' (w, p, s, inl (e, f, r)) (w', p', t, inl (e', f', r')) =
    let same = ends_of (p, l) (p', l') (sorts_alike w (p, l) (p', l') s (moved (λ x. HasSorts x (p', l')) w w' (sym e ∙ e') t)) in
    (f ∙ (same.0 ∙ sym f'), same.1, r ∙ sym r')
after_alike bytes left left' l l' rest rest' (w, p, s, inl (e, f, r)) (w', p', t, inr (ops, e', stop)) = absurd (no_cut_alone bytes w w' ops (p, l) s e e')
after_alike bytes left left' l l' rest rest' (w, p, s, inr (ops, e, stop)) (w', p', t, inl (e', f, r)) = absurd (no_cut_alone bytes w' w ops (p', l') t e' e)
after_alike bytes left left' l l' rest rest' (w, p, s, inr (ops, e, stop)) (w', p', t, inr (ops', e', stop')) =
    let words = words_alike bytes w ops w' ops' (p, l) (p', l') s t e e' in
    let same = ends_of (p, l) (p', l') (sorts_alike w (p, l) (p', l') s (moved (λ x. HasSorts x (p', l')) w w' words.0 t)) in
    let stops = same_stop p p' l l' left left' ops ops' rest rest' same.0 same.1 words.1 stop stop' in
    (stops.0, same.1, stops.1)

-- where a verb with operands is missing, bytes don't stop after one
no_verb_after : (bytes rest : List ℕ) (left : Sorts) → ((word operands : List ℕ) (sorts : Sorts) → IsCutAtSpace bytes word operands → ¬ HasSorts word sorts)
    → ¬ StopsAfterVerb bytes left rest
no_verb_after bytes rest left none (w, p, s, inl (e, f, r)) = none w [] (p, left.1) (inr (e, refl)) s
no_verb_after bytes rest left none (w, p, s, inr (ops, e, stop)) = none w ops (p, left.1) (inl e) s

-- a line stops in one place and expects one thing there
texts_same : (parts parts' : List PartForm) (l l' : LastForm) → parts ≡ parts' → l ≡ l' → sorts_text parts l ≡ sorts_text parts' l'
texts_same parts parts' l l' p q = rw (p, q) refl

line_stops_once : (line : List ℕ) (a b : Expected) (r s : List ℕ) → StopsLine line a r → StopsLine line b s → (expected_text a ≡ expected_text b) × (r ≡ s)
line_stops_once line expected.Line expected.Line r s x y = (refl, x.0 ∙ sym y.0)
line_stops_once line expected.Line expected.Verb r s x (p, begins, none) = absurd (x.1 p s begins)
line_stops_once line expected.Line (expected.Parts parts l) r s x (p, more, begins, stop) = absurd (x.1 p more begins)
line_stops_once line expected.Line expected.End r s x y = absurd y
line_stops_once line expected.Verb expected.Line r s (p, begins, none) y = absurd (y.1 p r begins)
line_stops_once line expected.Verb expected.Verb r s (p, begins, none) (q, begins', none') = (refl, (process_alike line p r q s begins begins').1)
line_stops_once line expected.Verb (expected.Parts parts l) r s (p, begins, none) (q, more, begins', stop) =
    let same = process_alike line p r q more begins begins' in
    absurd (no_verb_after r s (parts.now, l) none (moved (λ x. StopsAfterVerb x (parts.now, l) s) r more same.1 stop))
line_stops_once line expected.Verb expected.End r s x y = absurd y
line_stops_once line (expected.Parts parts l) expected.Line r s (p, more, begins, stop) y = absurd (y.1 p more begins)
line_stops_once line (expected.Parts parts l) expected.Verb r s (p, more, begins, stop) (q, begins', none) =
    let same = process_alike line q s p more begins' begins in
    absurd (no_verb_after s r (parts.now, l) none (moved (λ x. StopsAfterVerb x (parts.now, l) r) s more same.1 stop))
line_stops_once line (expected.Parts parts l) (expected.Parts parts' l') r s (p, more, begins, stop) (q, more', begins', stop') =
    let same = process_alike line p more q more' begins begins' in
    let alike = after_alike more parts.now parts'.now l l' r s stop (moved (λ x. StopsAfterVerb x (parts'.now, l') s) more more' same.1 stop') in
    (texts_same parts.now parts'.now l l' alike.0 alike.1, alike.2)
line_stops_once line (expected.Parts parts l) expected.End r s x y = absurd y
line_stops_once line expected.End b r s x y = absurd x

columns_same : (line r s : List ℕ) (m n : ℕ) → r ≡ s → IsColumn line r m → IsColumn line s n → m ≡ n
columns_same line r s m n e x y = let lengths : length r ≡ length s = ap length e in omega (arith, lengths, x, y)

pub misfits_alike : LinesHaveOneMisfit
misfits_alike line a b x y = go x.stops y.stops
  where
    Stops : Misfit → Type 0
    Stops m = ((longest_line < length line) × (m.expected ≡ expected.End) × (m.column ≡ longest_line + 1))
        ⊎ ((length line ≤ longest_line) × ((rest : List ℕ) × StopsLine line m.expected rest × IsColumn line rest m.column))

    go : Stops a → Stops b → (a.column ≡ b.column) × (expected_text a.expected ≡ expected_text b.expected)
    go (inl (long, e, c)) (inl (long', e', c')) = (c ∙ sym c', ap expected_text (e ∙ sym e'))
    go (inl (long, e, c)) (inr (short, stop)) = absurd (omega (arith, long, short))
    go (inr (short, stop)) (inl (long, e, c)) = absurd (omega (arith, long, short))
    go (inr (short, (r, stop, c))) (inr (short', (s, stop', c'))) =
        let same = line_stops_once line a.expected b.expected r s stop stop' in
        (columns_same line r s a.column b.column same.1 c c', same.0)
