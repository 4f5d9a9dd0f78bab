-- The rows of a state that are a directory's entries stay so, as rows come and go.
use Rattle.std.proofs.Common.{◌≡◌, ◌≢◌, ◌∙◌, ℕ, Bool, true, false, cond, not, ◌&&◌, ◌==◌, List, [], ◌∷◌, ◌++◌, filter, map, All, refl, ap, sym, eq-eqb, append-nil}
use Rattle.std.proofs.lemmas.Bool.{ne_eqb}
use Rattle.std.proofs.lemmas.List.Elements.{filter-append, All-weaker}
use Rattle.ob_model.proofs.Finds.{filter_none}
use Rattle.ob_model.specs.declared.state.Row.{Row}
use Rattle.ob_dirs.specs.declared.entry.DirEntry.{DirEntry}
use Rattle.ob_dirs.specs.Dir.{row_of, AreEntries}
use Rattle.ob_dirs.proofs.Removed.{has_other}

-- to keep by two tests is to keep by one and then by the other
pub filter_both : (p q : Row → Bool) (rows : List Row) → filter (λ r. p r && q r) rows ≡ filter q (filter p rows)
filter_both p q [] = refl
filter_both p q (r ∷ rows) = go (p r) (q r) refl (filter_both p q rows)
  where
    go : (a b : Bool) → q r ≡ b → filter (λ r. p r && q r) rows ≡ filter q (filter p rows)
        → cond (a && b) (r ∷ filter (λ r. p r && q r) rows) (filter (λ r. p r && q r) rows) ≡ filter q (cond a (r ∷ filter p rows) (filter p rows))
    go true true e more = rw e (ap (λ rs. r ∷ rs) more)
    go true false e more = rw e more
    go false b e more = more

-- and the other way round
filter_turned : (p q : Row → Bool) (rows : List Row) → filter p (filter q rows) ≡ filter q (filter p rows)
filter_turned p q [] = refl
filter_turned p q (r ∷ rows) = go (p r) (q r) refl refl (filter_turned p q rows)
  where
    go : (a b : Bool) → p r ≡ a → q r ≡ b → filter p (filter q rows) ≡ filter q (filter p rows)
        → filter p (cond b (r ∷ filter q rows) (filter q rows)) ≡ filter q (cond a (r ∷ filter p rows) (filter p rows))
    go true true e f more = rw (e, f) (ap (λ rs. r ∷ rs) more)
    go true false e f more = rw f more
    go false true e f more = rw e more
    go false false e f more = more

-- of the rows of some entries a test keeps those of the entries that it keeps
pub filter-map : (f : DirEntry → Row) (test : Row → Bool) (es : List DirEntry) → filter test (map f es) ≡ map f (filter (λ e. test (f e)) es)
filter-map f test [] = refl
filter-map f test (e ∷ es) = go (test (f e)) (filter-map f test es)
  where
    go : (b : Bool) → filter test (map f es) ≡ map f (filter (λ e. test (f e)) es)
        → cond b (f e ∷ filter test (map f es)) (filter test (map f es)) ≡ map f (cond b (e ∷ filter (λ e. test (f e)) es) (filter (λ e. test (f e)) es))
    go true more = ap (λ rs. f e ∷ rs) more
    go false more = more

map-push : (f : DirEntry → Row) (es : List DirEntry) (e : DirEntry) → map f (es ++ e ∷ []) ≡ map f es ++ f e ∷ []
map-push f [] e = refl
map-push f (x ∷ es) e = ap (λ rs. f x ∷ rs) (map-push f es e)

-- where no row stands in a directory, it has no entry
pub no_entries : (rows : List Row) (d : ℕ) → All (λ r. r.directory ≢ d) rows → AreEntries rows d []
no_entries rows d none =
    filter_none (λ r. r.directory == d) rows (All-weaker (λ r. r.directory ≢ d) (λ r. (r.directory == d) ≡ false) (λ r other. ne_eqb r.directory d other) rows none)

-- a further row, of an entry that comes last, or in another directory
pub one_more_entry : (rows : List Row) (d : ℕ) (es : List DirEntry) (e : DirEntry) → AreEntries rows d es → AreEntries (rows ++ row_of d e ∷ []) d (es ++ e ∷ [])
one_more_entry rows d es e are =
    filter-append (λ r. r.directory == d) rows (row_of d e ∷ [])
    ∙ ap (λ b. filter (λ r. r.directory == d) rows ++ cond b (row_of d e ∷ []) []) (eq-eqb d d refl)
    ∙ ap (λ rs. rs ++ row_of d e ∷ []) are
    ∙ sym (map-push (row_of d) es e)

pub row_elsewhere : (rows : List Row) (d : ℕ) (es : List DirEntry) (r : Row) → r.directory ≢ d → AreEntries rows d es → AreEntries (rows ++ r ∷ []) d es
row_elsewhere rows d es r other are =
    filter-append (λ r. r.directory == d) rows (r ∷ [])
    ∙ ap (λ b. filter (λ r. r.directory == d) rows ++ cond b (r ∷ []) []) (ne_eqb r.directory d other)
    ∙ append-nil (filter (λ r. r.directory == d) rows)
    ∙ are

-- the rows that have other stamps are the entries that have
pub entry_taken : (rows : List Row) (d : ℕ) (es : List DirEntry) (stamp : ℕ) → AreEntries rows d es
    → AreEntries (filter (λ r. not (r.stamp == stamp)) rows) d (filter (has_other stamp) es)
entry_taken rows d es stamp are =
    filter_turned (λ r. r.directory == d) (λ r. not (r.stamp == stamp)) rows
    ∙ ap (filter (λ r. not (r.stamp == stamp))) are
    ∙ filter-map (row_of d) (λ r. not (r.stamp == stamp)) es
