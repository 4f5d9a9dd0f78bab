-- A journal that was written as far as this.
use Rattle.std.proofs.Common.{◌≡◌, ◌≢◌, ◌∙◌, ℕ, ◌<◌, ◌≤◌, ◌+◌, zero, suc, List, [], ◌∷◌, ◌++◌, map, take, drop, get_or, length, Option, Result, Ok, Err, OnOk, ap, refl, sym, subst, arith, append_assoc, append-nil}
use Rattle.std.proofs.lemmas.List.{map-append}
use Rattle.std.specs.Prelude.{IfErr}
use Rattle.std.specs.Io.KnownBytes.{Appends}
use Rattle.std.proofs.KnownBytes.{Appends-trans}
use Rattle.serde_json.specs.Written.{compact_text}
use Rattle.ob_entries.specs.Lines.{entry_line, entry_lines, entry_value, journal_lines, segment_lines}
use Rattle.ob_entries.specs.Segments.{Segment}
use Rattle.ob_model.specs.Run.{Entry}
use Rattle.ob_standard.specs.Standard.{StandardKind, standard}
use Rattle.ob_output.specs.declared.fault.ShellFault.{ShellFault}
use Rattle.ob_output.specs.declared.fault.ShellFault.TheVariants as fault
use Rattle.ob_output.specs.Writing.{AppendsFront}
use Rattle.ob_threads.specs.Written.{IsCutOff}
use Rattle.ob_output.proofs.Writers.{append-front, front-append}

-- a write failed after a front
pub cut_by : (old mid new : Option (List ℕ)) (front piece rest whole : List ℕ) → whole ≡ front ++ (piece ++ rest) → Appends old mid front → AppendsFront mid new piece
    → AppendsFront old new whole
cut_by old mid new front piece rest whole split written cut =
    subst (AppendsFront old new) (sym split) (append-front old mid new front (piece ++ rest) written (front-append mid new piece rest cut))

-- memory was wanted there
pub wants : (old mid : Option (List ℕ)) (front back whole : List ℕ) → whole ≡ front ++ back → back ≢ [] → Appends old mid front → AppendsFront old mid whole
wants old mid front back whole split some written = record { front = front; back = back; joined = split; unwritten = some; written = written }

abbrev pub type_name : StandardKind → List ℕ
type_name = standard.type_name

ends : (xs : List ℕ) (b : ℕ) (rest : List ℕ) → (xs ++ b ∷ []) ++ rest ≢ []
ends [] b rest none = cc
ends (x ∷ xs) b rest none = cc

pub line_ends : (e : Entry StandardKind) (rest : List ℕ) → entry_line type_name e ++ rest ≢ []
line_ends e rest = ends (compact_text (entry_value type_name e)) 10 rest

lines_append : (xs ys : List (Entry StandardKind)) → entry_lines type_name (xs ++ ys) ≡ entry_lines type_name xs ++ entry_lines type_name ys
lines_append [] ys = refl
lines_append (x ∷ xs) ys = ap (λ l. entry_line type_name x ++ l) (lines_append xs ys) ∙ sym (append_assoc (entry_line type_name x) (entry_lines type_name xs) (entry_lines type_name ys))

module _ {X : Type 0} where
  pub split_there : (xs : List X) (i : ℕ) (x : X) → i < length xs → x ≡ get_or xs i x → xs ≡ take i xs ++ x ∷ drop (suc i) xs
  split_there [] i x inside is = absurd (omega (arith, inside))
  split_there (y ∷ ys) zero x inside is = λ i. sym is i ∷ ys
  split_there (y ∷ ys) (suc i) x inside is = λ j. y ∷ split_there ys i x (omega (arith, inside)) is j

  pub take_more : (xs : List X) (i : ℕ) (x : X) → i < length xs → x ≡ get_or xs i x → take (i + 1) xs ≡ take i xs ++ x ∷ []
  take_more [] i x inside is = absurd (omega (arith, inside))
  take_more (y ∷ ys) zero x inside is = λ i. sym is i ∷ []
  take_more (y ∷ ys) (suc i) x inside is =
      let n : suc i + 1 ≡ suc (i + 1) = omega arith in ap (λ n. take n (y ∷ ys)) n ∙ (λ j. y ∷ take_more ys i x (omega (arith, inside)) is j)

  pub take_at : (xs : List X) (i : ℕ) (d : X) → i < length xs → take (i + 1) xs ≡ take i xs ++ get_or xs i d ∷ []
  take_at [] i d inside = absurd (omega (arith, inside))
  take_at (y ∷ ys) zero d inside = refl
  take_at (y ∷ ys) (suc i) d inside = let n : suc i + 1 ≡ suc (i + 1) = omega arith in ap (λ n. take n (y ∷ ys)) n ∙ (λ j. y ∷ take_at ys i d (omega (arith, inside)) j)

module _ (es : List (Entry StandardKind)) (i : ℕ) (e : Entry StandardKind) (inside : i < length es) (is : e ≡ get_or es i e) where
  pub lines_split : entry_lines type_name es ≡ entry_lines type_name (take i es) ++ (entry_line type_name e ++ entry_lines type_name (drop (suc i) es))
  lines_split = ap (entry_lines type_name) (split_there es i e inside is) ∙ lines_append (take i es) (e ∷ drop (suc i) es)

  pub lines_more : entry_lines type_name (take (i + 1) es) ≡ entry_lines type_name (take i es) ++ entry_line type_name e
  lines_more =
      ap (entry_lines type_name) (take_more es i e inside is) ∙ (lines_append (take i es) (e ∷ []) ∙ ap (λ l. entry_lines type_name (take i es) ++ l) (append-nil (entry_line type_name e)))

  -- a segment with this header, split there
  pub segment_split : (header : List ℕ) → header ++ entry_lines type_name es ≡ (header ++ entry_lines type_name (take i es)) ++ (entry_line type_name e ++ entry_lines type_name (drop (suc i) es))
  segment_split header = ap (λ l. header ++ l) lines_split ∙ sym (append_assoc header (entry_lines type_name (take i es)) (entry_line type_name e ++ entry_lines type_name (drop (suc i) es)))

  pub segment_more : (header : List ℕ) → (header ++ entry_lines type_name (take i es)) ++ entry_line type_name e ≡ header ++ entry_lines type_name (take (i + 1) es)
  segment_more header = append_assoc header (entry_lines type_name (take i es)) (entry_line type_name e) ∙ ap (λ l. header ++ l) (sym lines_more)

take_all : {X : Type 0} (xs : List X) (i : ℕ) → length xs ≤ i → take i xs ≡ xs
take_all [] zero over = refl
take_all [] (suc i) over = refl
take_all (x ∷ xs) zero over = absurd (omega (arith, over))
take_all (x ∷ xs) (suc i) over = λ j. x ∷ take_all xs i (omega (arith, over)) j

pub all_taken : (es : List (Entry StandardKind)) (i : ℕ) (header : List ℕ) → length es ≤ i → header ++ entry_lines type_name (take i es) ≡ header ++ entry_lines type_name es
all_taken es i header over = ap (λ l. header ++ entry_lines type_name l) (take_all es i over)

-- the lines of segments one after another
pub journal_append : (seats : ℕ) (xs ys : List (Segment StandardKind)) → journal_lines type_name seats (xs ++ ys) ≡ journal_lines type_name seats xs ++ journal_lines type_name seats ys
journal_append seats [] ys = refl
journal_append seats (x ∷ xs) ys =
    ap (λ l. segment_lines type_name seats x ++ l) (journal_append seats xs ys)
    ∙ sym (append_assoc (segment_lines type_name seats x) (journal_lines type_name seats xs) (journal_lines type_name seats ys))

module _ (seats : ℕ) (ss : List (Segment StandardKind)) (last : Segment StandardKind) where
  -- a whole journal, at its open segment
  pub journal_open : journal_lines type_name seats (ss ++ last ∷ []) ≡ journal_lines type_name seats ss ++ (segment_lines type_name seats last ++ [])
  journal_open = journal_append seats ss (last ∷ [])

  module _ (i : ℕ) (s : Segment StandardKind) (inside : i < length ss) (is : s ≡ get_or ss i s) where
    -- at a sealed one
    pub journal_split : journal_lines type_name seats (ss ++ last ∷ [])
        ≡ journal_lines type_name seats (take i ss) ++ (segment_lines type_name seats s ++ (journal_lines type_name seats (drop (suc i) ss) ++ journal_lines type_name seats (last ∷ [])))
    journal_split =
        journal_append seats ss (last ∷ [])
        ∙ ap (λ l. l ++ journal_lines type_name seats (last ∷ [])) (ap (journal_lines type_name seats) (split_there ss i s inside is) ∙ journal_append seats (take i ss) (s ∷ drop (suc i) ss))
        ∙ append_assoc (journal_lines type_name seats (take i ss)) (segment_lines type_name seats s ++ journal_lines type_name seats (drop (suc i) ss)) (journal_lines type_name seats (last ∷ []))
        ∙ ap (λ l. journal_lines type_name seats (take i ss) ++ l) (append_assoc (segment_lines type_name seats s) (journal_lines type_name seats (drop (suc i) ss)) (journal_lines type_name seats (last ∷ [])))

    pub journal_more : journal_lines type_name seats (take i ss) ++ segment_lines type_name seats s ≡ journal_lines type_name seats (take (i + 1) ss)
    journal_more =
        sym (ap (journal_lines type_name seats) (take_more ss i s inside is) ∙ journal_append seats (take i ss) (s ∷ [])
        ∙ ap (λ l. journal_lines type_name seats (take i ss) ++ l) (append-nil (segment_lines type_name seats s)))

-- a segment was cut off after others
pub cut_behind : (fault : ShellFault) (old mid new : Option (List ℕ)) (front piece rest whole : List ℕ) → whole ≡ front ++ (piece ++ rest) → Appends old mid front → IsCutOff fault mid new piece
    → IsCutOff fault old new whole
cut_behind (fault.Write unwritten) old mid new front piece rest whole split written cut = cut_by old mid new front piece rest whole split written cut
cut_behind fault.Memory old mid new front piece rest whole split written cut = cut_by old mid new front piece rest whole split written cut
cut_behind (fault.Read unread) old mid new front piece rest whole split written cut = absurd cut
cut_behind fault.TooLong old mid new front piece rest whole split written cut = absurd cut
cut_behind fault.Mismatch old mid new front piece rest whole split written cut = absurd cut

-- the first of those that are left is put after the others
pub removed_first : {J P : Type 0} (of : J → P) (js js' : List J) (ps ps' all : List P) (j : J) → js' ≡ js ++ j ∷ [] → of j ≡ get_or ps 0 (of j) → ps' ≡ take 0 ps ++ drop (0 + 1) ps → 0 < length ps
    → map of js ++ ps ≡ all → map of js' ++ ps' ≡ all
removed_first of js js' [] ps' all j more first left some joined = absurd (omega (arith, some))
removed_first of js js' (p ∷ ps) ps' all j more first left some joined =
    ap (λ l. map of l ++ ps') more ∙ (ap (λ l. l ++ ps') (map-append of js (j ∷ [])) ∙ (append_assoc (map of js) (of j ∷ []) ps' ∙ (ap (λ l. map of js ++ of j ∷ l) left ∙ (ap (λ q. map of js ++ q ∷ ps) first ∙ joined))))

-- the next of some things is put after the others
pub mapped_more : {J A : Type 0} (of : J → A) (js js' : List J) (j : J) (xs : List A) (i : ℕ) → js' ≡ js ++ j ∷ [] → map of js ≡ take i xs → i < length xs → of j ≡ get_or xs i (of j) → map of js' ≡ take (i + 1) xs
mapped_more of js js' j xs i more so_far inside is =
    ap (map of) more ∙ (map-append of js (j ∷ []) ∙ (ap (λ l. l ++ of j ∷ []) so_far ∙ sym (take_more xs i (of j) inside is)))

-- an element that is there is the same for each default
pub same_there : {X : Type 0} (xs : List X) (i : ℕ) (d e : X) → i < length xs → get_or xs i d ≡ get_or xs i e
same_there [] i d e inside = absurd (omega (arith, inside))
same_there (x ∷ xs) zero d e inside = refl
same_there (x ∷ xs) (suc i) d e inside = same_there xs i d e (omega (arith, inside))

-- what is at a place of a list has its value there
pub mapped_at : {A B : Type 0} (of : A → B) (xs : List A) (i : ℕ) (x : A) → i < length xs → x ≡ get_or xs i x → of x ≡ get_or (map of xs) i (of x)
mapped_at of [] i x inside is = absurd (omega (arith, inside))
mapped_at of (y ∷ ys) zero x inside is = ap of is
mapped_at of (y ∷ ys) (suc i) x inside is = mapped_at of ys i x (omega (arith, inside)) is

-- the last segment was written, or cut off, after the others
module _ (old mid new : Option (List ℕ)) (front piece whole : List ℕ) (split : whole ≡ front ++ (piece ++ [])) (written : Appends old mid front) where
  pub last_written : {E : Type 0} (r : Result (Unit {0}) E) → OnOk r (Appends mid new piece) → OnOk r (Appends old new whole)
  last_written (Ok done) more = subst (Appends old new) (sym (split ∙ ap (λ l. front ++ l) (append-nil piece))) (Appends-trans old mid new front piece written more)
  last_written (Err e) more = tt

  pub last_cut : (r : Result (Unit {0}) ShellFault) → IfErr r (λ f. IsCutOff f mid new piece) → IfErr r (λ f. IsCutOff f old new whole)
  last_cut (Ok done) cut = tt
  last_cut (Err f) cut = cut_behind f old mid new front piece [] whole split written cut
