-- The lines of a script, read one after another.
use Rattle.std.proofs.Common.{◌≡◌, ℕ, ◌≤◌, List, [], ◌∷◌, ◌++◌, length, take, Option, None, Some, refl, sym, ap, subst, ◌∙◌, arith}
use Rattle.ob_lines.specs.declared.form.Form.{Form}
use Rattle.ob_lines.specs.Lines.{lines_of}
use Rattle.ob_lines.specs.Script.{Forms, HasForm, BeginsWithLine, BeginsWithForms, ScriptsHaveOneReading}
use Rattle.ob_lines.specs.Grammar.{FormHasTexts}
use Rattle.ob_lines.proofs.LineForms.{line_alike, form_has_texts}

-- one line more
pub begins_more : (script rest behind : List ℕ) (done : Forms) (form : Option (Form (List ℕ))) → BeginsWithForms script done rest → BeginsWithLine rest form behind
    → BeginsWithForms script (done ++ form ∷ []) behind
begins_more script rest behind [] form e line =
    let P : List ℕ → Type 0 = λ x. BeginsWithLine x form behind in (behind, subst P (sym e) line, refl)
begins_more script rest behind (first ∷ done) form (next, line, b) more = (next, line, begins_more next rest behind done form b more)

-- a line has one form, or none
form_alike : (line : List ℕ) (a b : Option (Form (List ℕ))) → HasForm line a → HasForm line b → a ≡ b
form_alike line None None h k = refl
form_alike line None (Some b) h k = absurd (h b k)
form_alike line (Some a) None h k = absurd (k a h)
form_alike line (Some a) (Some b) h k = ap Some (line_alike line a b h k)

first_alike : (line : List ℕ) (other : List ℕ) (a b : Option (Form (List ℕ))) → line ≡ other → HasForm line a → HasForm other b → a ≡ b
first_alike line other a b e h k = let P : List ℕ → Type 0 = λ x. HasForm x b in form_alike line a b h (subst P (sym e) k)

-- scripts of the same lines are read alike
read_alike : (s t x y : List ℕ) (a b : Forms) → lines_of s ≡ lines_of t → BeginsWithForms s a x → BeginsWithForms t b y → length a ≤ length b → a ≡ take (length a) b
read_alike s t x y [] b same h k l = refl
read_alike s t x y (f ∷ a) [] same h k l = absurd (omega (arith, l))
read_alike s t x y (f ∷ a) (g ∷ b) same (n, (line, e, i), h) (m, (other, d, j), k) l =
    let both : line ∷ lines_of n ≡ other ∷ lines_of m = sym e ∙ (same ∙ d) in
    let here : line ≡ other = cc in
    let there : lines_of n ≡ lines_of m = cc in
    let first : f ≡ g = first_alike line other f g here i j in
    let later : a ≡ take (length a) b = read_alike n m x y a b there h k (omega (arith, l)) in rw first (ap (λ z. g ∷ z) later)

pub scripts_alike : ScriptsHaveOneReading
scripts_alike script x y a b h k l = read_alike script script x y a b refl h k l

-- the lines so far are of some forms
abbrev pub IsReadTo : List ℕ → List ℕ → Type 0
IsReadTo script rest = (done : Forms) × BeginsWithForms script done rest

pub read_first : (script : List ℕ) → IsReadTo script script
read_first script = ([], refl)

pub read_more : (script rest behind : List ℕ) (form : Option (Form (List ℕ))) → IsReadTo script rest → BeginsWithLine rest form behind → IsReadTo script behind
read_more script rest behind form (done, b) line = (done ++ form ∷ [], begins_more script rest behind done form b line)

pub read_whole : (script rest : List ℕ) → IsReadTo script rest → rest ≡ [] → IsReadTo script []
read_whole script rest b none = subst (IsReadTo script) none b

-- the texts of all these forms are texts
abbrev pub HaveTexts : Forms → Type 0
HaveTexts [] = Unit {0}
HaveTexts (None ∷ forms) = HaveTexts forms
HaveTexts (Some form ∷ forms) = FormHasTexts form × HaveTexts forms

have_texts : (script rest : List ℕ) (forms : Forms) → BeginsWithForms script forms rest → HaveTexts forms
have_texts script rest [] b = tt
have_texts script rest (None ∷ forms) (behind, (line, e, is), b) = have_texts behind rest forms b
have_texts script rest (Some form ∷ forms) (behind, (line, e, is), b) = (form_has_texts line form is, have_texts behind rest forms b)

-- a reading of the whole goes on after one of the first lines
read_behind : (s t rest : List ℕ) (done all : Forms) → lines_of s ≡ lines_of t → BeginsWithForms s done rest → BeginsWithForms t all []
    → (later : Forms) × (all ≡ done ++ later) × HaveTexts later
read_behind s t rest [] all same h k = (all, refl, have_texts t [] all k)
read_behind s t rest (f ∷ done) [] same (n, (line, e, i), h) k =
    let none : line ∷ lines_of n ≡ [] = sym e ∙ (same ∙ ap lines_of k) in cc
read_behind s t rest (f ∷ done) (g ∷ all) same (n, (line, e, i), h) (m, (other, d, j), k) =
    let both : line ∷ lines_of n ≡ other ∷ lines_of m = sym e ∙ (same ∙ d) in
    let here : line ≡ other = cc in
    let there : lines_of n ≡ lines_of m = cc in
    let first : f ≡ g = first_alike line other f g here i j in
    let more = read_behind n m rest done all there h k in
    (more.0, rw first (ap (λ (z : Forms). g ∷ z) more.1), more.2)

pub goes_on : (script rest : List ℕ) (done all : Forms) → BeginsWithForms script done rest → BeginsWithForms script all []
    → (later : Forms) × (all ≡ done ++ later) × HaveTexts later
goes_on script rest done all h k = read_behind script script rest done all refl h k
