-- What is found of one process among the handles of all, and among the processes.
use Rattle.std.proofs.Common.{◌≡◌, ◌∙◌, ℕ, ◌==◌, ◌&&◌, Bool, true, false, cond, List, [], ◌∷◌, ◌++◌, filter, find, Option, None, Some, option_map, All, refl, ap, sym, subst, arith, eqb-true, append-nil}
use Rattle.std.proofs.lemmas.List.Elements.{All-nil, All-head, All-tail, All-append, All-weaker, filter-append}
use Rattle.std.proofs.lemmas.Map.Entries.{All-lookup}
use Rattle.std.specs.BTreeMap.{is_at}
use Rattle.std.specs.List.{slice_get}
use Rattle.std.specs.Map.{lookup}
use Rattle.std.specs.Option.{IfSome}
use Rattle.std.specs.Ordering.{nat_cmp}
use Rattle.ob_model.specs.declared.state.Held.{Held}
use Rattle.ob_model.specs.declared.state.Process.{Process}
use Rattle.ob_model.proofs.Finds.{filter_all, filter_none}
use Rattle.ob_model.proofs.Ids.{Differ, is_at-id}
use Rattle.ob_devmap.specs.Maps.{Directories}
use Rattle.ob_processes.specs.ByOrder.{order_of, by_order, OrdersRise}
use Rattle.ob_processes.specs.Running.{Entries, process_of_entry, processes_of, in_turn, handles_of, IsTableOf}
use Rattle.ob_model.proofs.Sorted.{filter-sorted_by, sorted_by-same}
use Rattle.ob_processes.proofs.ByOrder.{OrdersRise-Rises}

-- what is under a number
abbrev pub at : Entries → ℕ → Option (List Held)
at es p = lookup (is_at (nat_cmp p)) es

-- the handles of what was found, and none where nothing was
abbrev pub handles_in : Option (List Held) → List Held
handles_in None = []
handles_in (Some x) = x

-- an entry has the handles of its process
abbrev pub Table : ℕ × List Held → Type 0
Table e = IsTableOf e.0 e.1

-- the handle is of the process of this number
abbrev pub is_of : ℕ → Held → Bool
is_of p h = h.process == p

-- ---- tests of two parts

pub filter_both : {X : Type 0} (p q : X → Bool) (xs : List X) → filter (λ x. p x && q x) xs ≡ filter q (filter p xs)
filter_both p q [] = refl
filter_both {X} p q (x ∷ xs) = go (p x) (filter_both p q xs)
  where
    go : (t : Bool) → filter (λ (y : X). p y && q y) xs ≡ filter q (filter p xs)
        → cond (t && q x) (x ∷ filter (λ (y : X). p y && q y) xs) (filter (λ (y : X). p y && q y) xs) ≡ filter q (cond t (x ∷ filter p xs) (filter p xs))
    go true more = ap (λ ys. cond (q x) (x ∷ ys) ys) more
    go false more = more

pub find_first : {X : Type 0} (p : X → Bool) (xs : List X) → find p xs ≡ slice_get (filter p xs) 0
find_first p [] = refl
find_first {X} p (x ∷ xs) = go (p x) (find_first p xs)
  where
    go : (t : Bool) → find p xs ≡ slice_get (filter p xs) 0 → cond t (Some x) (find p xs) ≡ slice_get (cond t (x ∷ filter p xs) (filter p xs)) 0
    go true more = refl
    go false more = more

pub find_both : {X : Type 0} (p q : X → Bool) (xs : List X) → find (λ x. p x && q x) xs ≡ find q (filter p xs)
find_both {X} p q xs = find_first (λ (x : X). p x && q x) xs ∙ ap (λ ys. slice_get ys 0) (filter_both p q xs) ∙ sym (find_first q (filter p xs))

-- ---- the handles of one process

of_another : (p : ℕ) (e : ℕ × List Held) → (e.0 == p) ≡ false → Table e → All (λ h. is_of p h ≡ false) e.1
of_another p e other table =
    All-weaker (λ (h : Held). (h.process == e.0) ≡ true) (λ h. is_of p h ≡ false) (λ h own. ap (λ n. n == p) (eqb-true h.process e.0 own) ∙ other) e.1 table.own

of_this : (p : ℕ) (e : ℕ × List Held) → (e.0 == p) ≡ true → Table e → All (λ h. is_of p h ≡ true) e.1
of_this p e same table = subst (λ n. All (λ h. is_of n h ≡ true) e.1) (eqb-true e.0 p same) table.own

-- none is of a process that isn't there
pub others_in_turn : (p : ℕ) (es : Entries) → All (λ x. (x.0 == p) ≡ false) es → All Table es → All (λ h. is_of p h ≡ false) (in_turn es)
others_in_turn p [] others tables = All-nil (λ h. is_of p h ≡ false)
others_in_turn p (e ∷ es) others tables =
    All-append (λ h. is_of p h ≡ false) e.1 (in_turn es)
    (of_another p e (All-head (λ (x : ℕ × List Held). (x.0 == p) ≡ false) e es others) (All-head Table e es tables))
    (others_in_turn p es (All-tail (λ (x : ℕ × List Held). (x.0 == p) ≡ false) e es others) (All-tail Table e es tables))

-- those behind an entry are of other processes
pub others_behind : (p : ℕ) (e : ℕ × List Held) (es : Entries) → (e.0 == p) ≡ true → Differ (e ∷ es) → All Table (e ∷ es) → All (λ h. is_of p h ≡ false) (in_turn es)
others_behind p e es same differ tables =
    others_in_turn p es (subst (λ n. All (λ (x : ℕ × List Held). (x.0 == n) ≡ false) es) (eqb-true e.0 p same) differ.0) (All-tail Table e es tables)

turn_of : (p : ℕ) (es : Entries) → Differ es → All Table es → filter (is_of p) (in_turn es) ≡ handles_in (at es p)
turn_of p [] differ tables = refl
turn_of p (e ∷ es) differ tables =
    filter-append (is_of p) e.1 (in_turn es) ∙ go (e.0 == p) refl (turn_of p es differ.1 (All-tail Table e es tables))
    ∙ sym (ap (λ t. handles_in (cond t (Some e.1) (at es p))) (is_at-id p e.0))
  where
    go : (t : Bool) → (e.0 == p) ≡ t → filter (is_of p) (in_turn es) ≡ handles_in (at es p)
        → filter (is_of p) e.1 ++ filter (is_of p) (in_turn es) ≡ handles_in (cond t (Some e.1) (at es p))
    go true same more =
        ap (λ hs. hs ++ filter (is_of p) (in_turn es)) (filter_all (is_of p) e.1 (of_this p e same (All-head Table e es tables)))
        ∙ ap (λ hs. e.1 ++ hs) (filter_none (is_of p) (in_turn es) (others_behind p e es same differ tables))
        ∙ append-nil e.1
    go false other more =
        ap (λ hs. hs ++ filter (is_of p) (in_turn es)) (filter_none (is_of p) e.1 (of_another p e other (All-head Table e es tables))) ∙ more

at_rises : (p : ℕ) (es : Entries) → All Table es → OrdersRise (handles_in (at es p))
at_rises p es tables =
    go (at es p) (All-lookup (λ (x : List Held). OrdersRise x) (is_at (nat_cmp p)) es (All-weaker Table (λ e. OrdersRise e.1) (λ e table. table.rising) es tables))
  where
    go : (o : Option (List Held)) → IfSome o (λ x. OrdersRise x) → OrdersRise (handles_in o)
    go None rises = λ i j d before within. absurd (omega (arith, within))
    go (Some x) rises = rises

-- the handles of one process among those of all
pub handles_at : (p : ℕ) (es : Entries) → Differ es → All Table es → filter (is_of p) (handles_of es) ≡ handles_in (at es p)
handles_at p es differ tables =
    filter-sorted_by order_of (is_of p) (in_turn es) ∙ ap by_order (turn_of p es differ tables)
    ∙ sorted_by-same order_of (handles_in (at es p)) (OrdersRise-Rises (handles_in (at es p)) (at_rises p es tables))

-- what is found has the handles of its process
pub found_table : (p : ℕ) (es : Entries) (x : List Held) → All Table es → at es p ≡ Some x → IsTableOf p x
found_table p [] x tables found = cc
found_table p (e ∷ es) x tables found =
    go (e.0 == p) refl (ap (λ t. cond t (Some e.1) (at es p)) (sym (is_at-id p e.0)) ∙ found) (found_table p es x (All-tail Table e es tables))
  where
    go : (t : Bool) → (e.0 == p) ≡ t → cond t (Some e.1) (at es p) ≡ Some x → (at es p ≡ Some x → IsTableOf p x) → IsTableOf p x
    go true same here more =
        let it : e.1 ≡ x = cc in
        subst (λ (y : List Held). IsTableOf p y) it (subst (λ n. IsTableOf n e.1) (eqb-true e.0 p same) (All-head Table e es tables))
    go false other there more = more there

-- ---- one process

-- what is under a number, as a process
abbrev pub named : Directories → ℕ → List Held → Process
named maps p x = process_of_entry maps (p, x)

pub process_at : (maps : Directories) (p : ℕ) (es : Entries) → find (λ x. x.number == p) (processes_of maps es) ≡ option_map (named maps p) (at es p)
process_at maps p [] = refl
process_at maps p (e ∷ es) = go (e.0 == p) refl (process_at maps p es) ∙ sym (ap (λ t. option_map (named maps p) (cond t (Some e.1) (at es p))) (is_at-id p e.0))
  where
    go : (t : Bool) → (e.0 == p) ≡ t → find (λ x. x.number == p) (processes_of maps es) ≡ option_map (named maps p) (at es p)
        → cond t (Some (process_of_entry maps e)) (find (λ x. x.number == p) (processes_of maps es)) ≡ option_map (named maps p) (cond t (Some e.1) (at es p))
    go true same more = ap (λ n. Some (named maps n e.1)) (eqb-true e.0 p same)
    go false other more = more
