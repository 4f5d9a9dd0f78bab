-- Lemmas for the laws of a directory.
use Rattle.std.proofs.Common.{◌≡◌, ◌≢◌, ◌∙◌, ℕ, Bool, true, false, cond, List, [], ◌∷◌, filter, map, Option, None, Some, option_map, All, refl, ap, sym, nat_le, ◌==◌}
use Rattle.std.proofs.lemmas.List.Elements.{All-nil, All-cons, All-head, All-tail}
use Rattle.std.specs.Option.{is_some}
use Rattle.std.specs.Cmp.Lexicographic.{same_text, other_text}
use Rattle.ob_model.specs.Names.{same_name}
use Rattle.ob_model.specs.Paths.{found, earliest, earlier}
use Rattle.ob_dirs.specs.declared.entry.DirEntry.{DirEntry}
use Rattle.ob_dirs.proofs.Rows.{filter_both, filter-map}
use Rattle.ob_dirs.specs.Dir.{earlier_entry, earliest_entry, entry_found, is_named, row_of, DirFindsWhatTheStateFinds}

-- what is earliest among the rows of some entries
earlier-row : (d : ℕ) (e : DirEntry) (o : Option DirEntry) → earlier (row_of d e) (option_map (row_of d) o) ≡ row_of d (earlier_entry e o)
earlier-row d e None = refl
earlier-row d e (Some x) = go (nat_le e.stamp x.stamp)
  where
    go : (b : Bool) → cond b (row_of d e) (row_of d x) ≡ row_of d (cond b e x)
    go true = refl
    go false = refl

earliest-rows : (d : ℕ) (es : List DirEntry) → earliest (map (row_of d) es) ≡ option_map (row_of d) (earliest_entry es)
earliest-rows d [] = refl
earliest-rows d (e ∷ es) = ap (λ o. Some (earlier (row_of d e) o)) (earliest-rows d es) ∙ ap Some (earlier-row d e (earliest_entry es))

-- the state finds what the directory does
pub found-entries : {K T F I : Type 0} → DirFindsWhatTheStateFinds K T F I
found-entries s d es are component fold =
    ap earliest (filter_both (λ r. r.directory == d) (λ r. same_name fold r.name component) s.rows
    ∙ ap (filter (λ r. same_name fold r.name component)) are
    ∙ filter-map (row_of d) (λ r. same_name fold r.name component) es)
    ∙ earliest-rows d (filter (is_named component fold) es)

-- nothing is found exactly where no entry is spelled so
pub free_where_none : (es : List DirEntry) (component : List ℕ) → entry_found es component false ≡ None → All (λ e. e.name ≢ component) es
free_where_none [] component none = All-nil (λ e. e.name ≢ component)
free_where_none (e ∷ es) component none = go (is_named component false e) refl none (free_where_none es component)
  where
    go : (b : Bool) → is_named component false e ≡ b
        → earliest_entry (cond b (e ∷ filter (is_named component false) es) (filter (is_named component false) es)) ≡ None
        → (entry_found es component false ≡ None → All (λ x. x.name ≢ component) es) → All (λ x. x.name ≢ component) (e ∷ es)
    go true named none' more = cc
    go false other none' more = All-cons (λ x. x.name ≢ component) e es (other_text e.name component (sym other)) (more none')

pub none_where_free : (es : List DirEntry) (component : List ℕ) → All (λ e. e.name ≢ component) es → entry_found es component false ≡ None
none_where_free [] component free = refl
none_where_free (e ∷ es) component free =
    go (is_named component false e) refl (none_where_free es component (All-tail (λ x. x.name ≢ component) e es free))
  where
    go : (b : Bool) → is_named component false e ≡ b → entry_found es component false ≡ None
        → earliest_entry (cond b (e ∷ filter (is_named component false) es) (filter (is_named component false) es)) ≡ None
    go true named more = absurd (All-head (λ x. x.name ≢ component) e es free (same_text e.name component (sym named)))
    go false other more = more

-- so a spelling is free where a search without fold has given nothing
pub free_where_not_found : {X : Type 0} (f : DirEntry → X) (es : List DirEntry) (component : List ℕ) (r : Option X)
    → r ≡ option_map f (entry_found es component false) → is_some r ≡ false → All (λ e. e.name ≢ component) es
free_where_not_found f es component r found none = free_where_none es component (go (entry_found es component false) (ap is_some (sym found) ∙ none))
  where
    go : (o : Option DirEntry) → is_some (option_map f o) ≡ false → o ≡ None
    go None e = refl
    go (Some x) e = cc
