-- The table of verbs: the row of a word is that of its verb.
use Rattle.std.proofs.Common.{◌≡◌, ◌≤◌, ℕ, Bool, true, false, cond, leb, List, [], ◌∷◌, length, map, find, Option, None, Some, IfSome, IfNone, refl, ap, sym, subst, ◌∙◌}
use Rattle.std.proofs.lemmas.Bool.{leb-true}
use Rattle.std.proofs.lemmas.Slice.Eq.{bytes_eq-Decides}
use Rattle.std.specs.Option.{option_map}
use Rattle.std.specs.Str.{bytes_eq}
use Rattle.std.specs.Borrow.{Bor}
use Rattle.ob_parts.specs.declared.sort.PartForm.{PartForm}
use Rattle.ob_parts.specs.declared.sort.LastForm.{LastForm}
use Rattle.ob_lines.specs.declared.verb.Verb.{Verb}
use Rattle.ob_lines.specs.declared.verb.VerbRow.{VerbRow}
use Rattle.ob_lines.specs.Verbs.{Row, Sorts, all_verbs, row_of, row_seen, sorts_of, verb_text}
use Rattle.ob_lines.proofs.Verbs.{read, each_verb, no_verb}

-- sorts, whose slices are seen as the lists that they hold
abbrev pub sorts_seen : Bor (List PartForm) × LastForm → Sorts
sorts_seen sorts = (sorts.0.now, sorts.1)

-- a verb and its row
abbrev with_row : Verb → Verb × Row
with_row verb = (verb, row_of verb)

some_row : (a b : Verb × Row) → Some a ≡ Some b → a ≡ b
some_row a b e = cc

-- the rows of all verbs
abbrev pub AreRows : List VerbRow → Type 0
AreRows rows = map row_seen rows ≡ map with_row all_verbs

-- the first image that passes a test is that of the first element whose image does
find_image : {X Y : Type 0} (f : X → Y) (p : Y → Bool) (xs : List X) → option_map f (find (λ x. p (f x)) xs) ≡ find p (map f xs)
find_image f p [] = refl
find_image {X} {Y} f p (x ∷ xs) = go (p (f x)) (find_image f p xs)
  where
    go : (b : Bool) → option_map f (find (λ y. p (f y)) xs) ≡ find p (map f xs)
        → option_map f (cond b (Some x) (find (λ y. p (f y)) xs)) ≡ cond b (Some (f x)) (find p (map f xs))
    go true more = refl
    go false more = more

-- the row that a word finds is that of the verb that it is read as
found_row : (rows : List VerbRow) (word : List ℕ) → AreRows rows
    → option_map row_seen (find (λ row. bytes_eq row.word.now word) rows) ≡ option_map with_row (read word)
found_row rows word are =
    find_image row_seen (λ row. bytes_eq row.1.0 word) rows ∙ ap (find (λ row. bytes_eq row.1.0 word)) are
    ∙ sym (find_image with_row (λ row. bytes_eq row.1.0 word) all_verbs)

-- the verb that a word is read as has this word
read_has_word : (word : List ℕ) → IfSome (read word) (λ verb. word ≡ verb_text verb)
read_has_word word = go all_verbs
  where
    go : (verbs : List Verb) → IfSome (find (λ v. bytes_eq (verb_text v) word) verbs) (λ verb. word ≡ verb_text verb)
    go [] = tt
    go (verb ∷ verbs) = at (bytes_eq (verb_text verb) word) refl (go verbs)
      where
        at : (b : Bool) → bytes_eq (verb_text verb) word ≡ b → IfSome (find (λ v. bytes_eq (verb_text v) word) verbs) (λ v. word ≡ verb_text v)
            → IfSome (cond b (Some verb) (find (λ v. bytes_eq (verb_text v) word) verbs)) (λ v. word ≡ verb_text v)
        at true is more = sym ((bytes_eq-Decides (verb_text verb) word).0 is)
        at false is more = more

-- a verb has at most four operands with a space after them
abbrev has_few : Option Sorts → Bool
has_few None = true
has_few (Some sorts) = leb (length sorts.0) 4

few_sorts : (v : Verb) → IfSome (sorts_of v) (λ sorts. length sorts.0 ≤ 4)
few_sorts v = go (sorts_of v) (each_verb (λ x. has_few (sorts_of x)) refl v)
  where
    go : (o : Option Sorts) → has_few o ≡ true → IfSome o (λ sorts. length sorts.0 ≤ 4)
    go None e = tt
    go (Some sorts) e = leb-true (length sorts.0) 4 e

-- a row with the contents of a verb's, for a word that is read as the verb
abbrev IsRowOf : List ℕ → VerbRow → Type 0
IsRowOf word row =
    (word ≡ verb_text row.verb) × (option_map sorts_seen row.sorts ≡ sorts_of row.verb)
    × IfSome row.sorts (λ sorts. length sorts.0.now ≤ 4)

pub row_is_found : (rows : List VerbRow) (word : List ℕ) (r : Option VerbRow) → AreRows rows
    → r ≡ find (λ row. bytes_eq row.word.now word) rows → IfSome r (IsRowOf word)
row_is_found rows word r are e = go r (read word) (read_has_word word) (ap (option_map row_seen) e ∙ found_row rows word are)
  where
    few : (o : Option (Bor (List PartForm) × LastForm)) → IfSome (option_map sorts_seen o) (λ sorts. length sorts.0 ≤ 4) → IfSome o (λ sorts. length sorts.0.now ≤ 4)
    few None h = tt
    few (Some sorts) h = h

    go : (o : Option VerbRow) (v : Option Verb) → IfSome v (λ verb. word ≡ verb_text verb) → option_map row_seen o ≡ option_map with_row v → IfSome o (IsRowOf word)
    go None v is e = tt
    go (Some row) None is e = cc
    go (Some row) (Some verb) is e =
        let same : row_seen row ≡ with_row verb = some_row (row_seen row) (with_row verb) e in
        let own : verb ≡ row.verb = sym (ap (λ (x : Verb × Row). x.0) same) in
        let sorts : option_map sorts_seen row.sorts ≡ sorts_of row.verb = ap (λ (x : Verb × Row). x.1.1) same ∙ ap sorts_of own in
        (is ∙ ap verb_text own, sorts, few row.sorts (subst (λ o. IfSome o (λ s. length s.0 ≤ 4)) (sym sorts) (few_sorts row.verb)))

pub no_row : (rows : List VerbRow) (word : List ℕ) (r : Option VerbRow) → AreRows rows
    → r ≡ find (λ row. bytes_eq row.word.now word) rows → IfNone r ((v : Verb) → ¬ (word ≡ verb_text v))
no_row rows word r are e = go r (read word) refl (ap (option_map row_seen) e ∙ found_row rows word are)
  where
    go : (o : Option VerbRow) (v : Option Verb) → read word ≡ v → option_map row_seen o ≡ option_map with_row v → IfNone o ((verb : Verb) → ¬ (word ≡ verb_text verb))
    go (Some row) v is e = tt
    go None None is e = no_verb word is
    go None (Some verb) is e = cc
