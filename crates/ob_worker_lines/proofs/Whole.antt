-- Lines over the bytes of a script: whole lines, and what stands behind them.
use Rattle.std.proofs.Common.{◌≡◌, ◌≢◌, ℕ, ◌+◌, ◌-◌, ◌≤◌, ◌⊎◌, inl, inr, Bool, true, false, cond, eqb, List, [], ◌∷◌, ◌++◌, length, take, refl, sym, ap, subst, ◌∙◌, append_assoc, append-nil, length-append, arith}
use Rattle.std.proofs.lemmas.List.{take_at}
use Rattle.ob_parts.specs.Text.{Lacks}
use Rattle.ob_lines.specs.Lines.{line_end, lines_of, onto_first_line}
use Rattle.ob_lines.proofs.Lined.{lines_of-line, lines_of-whole}
use Rattle.ob_worker_lines.specs.Cuts.{Lines, IsSeatLine, AreSeatLines}
use Rattle.ob_worker_lines.specs.Parts.{IsSeatLineBefore}

-- a script has no more lines than bytes
pub length-lines_of : (bytes : List ℕ) → length (lines_of bytes) ≤ length bytes
length-lines_of [] = omega arith
length-lines_of (b ∷ bytes) = go (eqb b line_end) (lines_of bytes) (length-lines_of bytes)
  where
    go : (ends : Bool) (lines : Lines) → length lines ≤ length bytes → length (cond ends ([] ∷ lines) (onto_first_line b lines)) ≤ length (b ∷ bytes)
    go true lines l = omega (arith, l)
    go false [] l = omega arith
    go false (line ∷ lines) l = omega (arith, l)

first_not_empty : (line : List ℕ) → line ≢ [] → length line ≡ 0 → ⊥
first_not_empty [] some e = some refl
first_not_empty (b ∷ line) some e = omega (arith, e)

-- the text is whole lines: what is put behind it has lines of its own
abbrev pub IsWhole : List ℕ → Type 0
IsWhole text = (more : List ℕ) → lines_of (text ++ more) ≡ lines_of text ++ lines_of more

-- one whole line more
whole_more : (text line : List ℕ) → IsWhole text → Lacks line_end line
    → (lines_of (text ++ (line ++ line_end ∷ [])) ≡ lines_of text ++ line ∷ []) × IsWhole (text ++ (line ++ line_end ∷ []))
whole_more text line whole lacks = (here, λ more. behind more)
  where
    here : lines_of (text ++ (line ++ line_end ∷ [])) ≡ lines_of text ++ line ∷ []
    here = whole (line ++ line_end ∷ []) ∙ ap (λ ls. lines_of text ++ ls) (lines_of-line line [] lacks)

    behind : (more : List ℕ) → lines_of ((text ++ (line ++ line_end ∷ [])) ++ more) ≡ lines_of (text ++ (line ++ line_end ∷ [])) ++ lines_of more
    behind more =
        ap lines_of (append_assoc text (line ++ line_end ∷ []) more ∙ ap (λ bs. text ++ bs) (append_assoc line (line_end ∷ []) more))
        ∙ (whole (line ++ line_end ∷ more)
        ∙ (ap (λ ls. lines_of text ++ ls) (lines_of-line line more lacks)
        ∙ (sym (append_assoc (lines_of text) (line ∷ []) (lines_of more))
        ∙ ap (λ ls. ls ++ lines_of more) (sym here))))

-- what was read of a script from its front, all of it lines of a seat, numbered from the first on
pub record IsReadPart (script rest : List ℕ) (first number : ℕ) : Type 0 where
  pub text : List ℕ
  pub cut : script ≡ text ++ rest
  pub lines : AreSeatLines (lines_of text)
  pub counted : number ≡ first + length (lines_of text)
  pub whole : (IsWhole text) ⊎ (rest ≡ [])

pub part_begun : (script : List ℕ) (first : ℕ) → IsReadPart script script first first
part_begun script first = record { text = []; cut = refl; lines = tt; counted = omega arith; whole = inl (λ more. refl) }

all_more : (lines : Lines) (line : List ℕ) → AreSeatLines lines → IsSeatLine line → AreSeatLines (lines ++ line ∷ [])
all_more [] line l is = (is, tt)
all_more (first ∷ lines) line l is = (l.0, all_more lines line l.1 is)

no_line_of_none : (line rest : List ℕ) → [] ≡ line ++ line_end ∷ rest → ⊥
no_line_of_none [] rest e = cc
no_line_of_none (b ∷ line) rest e = cc

pub part_more : (script rest behind : List ℕ) (first number : ℕ) → IsReadPart script rest first number → IsSeatLineBefore rest behind
    → IsReadPart script behind first (number + 1)
part_more script rest behind first number read (line, is_first, is) = go read.whole is_first.ends
  where
    go : (IsWhole read.text) ⊎ (rest ≡ []) → (rest ≡ line ++ line_end ∷ behind) ⊎ ((rest ≡ line) × (behind ≡ []) × (line ≢ [])) → IsReadPart script behind first (number + 1)
    go (inr none) (inl e) = absurd (no_line_of_none line behind (sym none ∙ e))
    go (inr none) (inr (e, nothing, some)) = absurd (some (sym e ∙ none))
    go (inl whole) (inl e) =
        let more = whole_more read.text line whole is_first.lacks in
        record {
          text = read.text ++ (line ++ line_end ∷ []);
          cut = read.cut ∙ (ap (λ bs. read.text ++ bs) (e ∙ sym (append_assoc line (line_end ∷ []) behind)) ∙ sym (append_assoc read.text (line ++ line_end ∷ []) behind));
          lines = subst AreSeatLines (sym more.0) (all_more (lines_of read.text) line read.lines is);
          counted = omega (arith, read.counted, ap length more.0, length-append (lines_of read.text) (line ∷ []));
          whole = inl more.1;
        }
    go (inl whole) (inr (e, nothing, some)) =
        let one : lines_of (read.text ++ line) ≡ lines_of read.text ++ line ∷ [] =
        whole line ∙ ap (λ ls. lines_of read.text ++ ls) (lines_of-whole line (first_not_empty line some) is_first.lacks) in
        record {
          text = read.text ++ line;
          cut = read.cut ∙ (ap (λ bs. read.text ++ bs) e ∙ (sym (append-nil (read.text ++ line)) ∙ ap (λ bs. (read.text ++ line) ++ bs) (sym nothing)));
          lines = subst AreSeatLines (sym one) (all_more (lines_of read.text) line read.lines is);
          counted = omega (arith, read.counted, ap length one, length-append (lines_of read.text) (line ∷ []));
          whole = inr nothing;
        }

-- the text that was read, as a slice of the script, and the lines of both
pub part_text : (script rest : List ℕ) (first number : ℕ) (read : IsReadPart script rest first number) → take (length script - length rest) script ≡ read.text
part_text script rest first number read =
    let long : length read.text ≡ length script - length rest = omega (arith, ap length read.cut, length-append read.text rest) in
    ap (λ bs. take (length script - length rest) bs) read.cut ∙ take_at read.text rest (length script - length rest) long

pub part_lines : (script rest : List ℕ) (first number : ℕ) (read : IsReadPart script rest first number) → lines_of script ≡ lines_of read.text ++ lines_of rest
part_lines script rest first number read = go read.whole
  where
    go : (IsWhole read.text) ⊎ (rest ≡ []) → lines_of script ≡ lines_of read.text ++ lines_of rest
    go (inl whole) = ap lines_of read.cut ∙ whole rest
    go (inr none) =
        ap lines_of (read.cut ∙ (ap (λ bs. read.text ++ bs) none ∙ append-nil read.text))
        ∙ (sym (append-nil (lines_of read.text)) ∙ ap (λ (bs : List ℕ). lines_of read.text ++ lines_of bs) (sym none))

-- it has no more lines than bytes
pub part_bound : (script rest : List ℕ) (first number : ℕ) → IsReadPart script rest first number → number + length rest ≤ first + length script
part_bound script rest first number read = omega (arith, read.counted, length-lines_of read.text, ap length read.cut, length-append read.text rest)

-- bytes have a line
pub some_line : (bytes : List ℕ) → (length bytes ≡ 0 → ⊥) → (line : List ℕ) × (rest : Lines) × (lines_of bytes ≡ line ∷ rest)
some_line [] some = absurd (some refl)
some_line (b ∷ bytes) some = go (eqb b line_end) (lines_of bytes)
  where
    go : (ends : Bool) (found : Lines) → (line : List ℕ) × (rest : Lines) × (cond ends ([] ∷ found) (onto_first_line b found) ≡ line ∷ rest)
    go true found = ([], found, refl)
    go false [] = (b ∷ [], [], refl)
    go false (line ∷ found) = (b ∷ line, found, refl)
