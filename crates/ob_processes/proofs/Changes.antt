-- What is left of the entries where a process or a handle comes or goes.
use Rattle.std.proofs.Common.{◌≡◌, ◌∙◌, ℕ, ◌+◌, ◌<◌, ◌≤◌, ◌==◌, ◌&&◌, Bool, true, false, not, cond, if◌then◌else◌, List, [], ◌∷◌, ◌++◌, length, get_or, filter, None, Some, All, refl, ap, sym, subst, arith, eqb-true, append_assoc}
use Rattle.std.proofs.lemmas.List.{length-append, map-append}
use Rattle.std.proofs.lemmas.List.Elements.{All-nil, All-cons, All-head, All-tail, All-push, All-filter, filter-append}
use Rattle.std.proofs.lemmas.List.Kept.{AllPairs-filter}
use Rattle.std.proofs.lemmas.List.Filters.{length-filter_both}
use Rattle.std.proofs.lemmas.Map.{keys-set_value}
use Rattle.std.specs.BTreeMap.{is_at, insert_entry}
use Rattle.std.specs.List.Sorted.{IsStrictlySortedBy}
use Rattle.std.specs.Map.{keys_of, remove_entry, set_value}
use Rattle.std.specs.Ordering.{nat_cmp}
use Rattle.ob_model.specs.declared.state.Held.{Held}
use Rattle.ob_model.specs.declared.state.Process.{Process}
use Rattle.ob_model.specs.Closing.{is_handle}
use Rattle.ob_model.proofs.Finds.{filter_all, filter_none}
use Rattle.ob_model.proofs.Ids.{Differ, Differ-from_rising, is_at-id, insert_entry-last, remove_entry-id}
use Rattle.ob_devmap.specs.Maps.{Directories, map_in, MapChanges}
use Rattle.ob_handles.specs.Table.{without}
use Rattle.ob_processes.specs.ByOrder.{order_of, by_order, OrdersRise}
use Rattle.ob_processes.specs.Running.{Entries, process_of_entry, processes_of, in_turn, handles_of, IsTableOf, IsRunning}
use Rattle.ob_model.proofs.Sorted.{filter-sorted_by, sorted_by-All, sorted_by-last, sorted_by-length}
use Rattle.ob_processes.proofs.ByOrder.{OrdersRise-push}
use Rattle.ob_processes.proofs.Entries.{at, handles_in, Table, is_of, others_behind, found_table, handles_at}

-- the entries with something else under a number
abbrev pub put : Entries → ℕ → List Held → Entries
put es p w = set_value (is_at (nat_cmp p)) es w

-- ---- what is written under the number of a process

processes_put : (maps : Directories) (p : ℕ) (es : Entries) (w : List Held) → processes_of maps (put es p w) ≡ processes_of maps es
processes_put maps p [] w = refl
processes_put maps p (e ∷ es) w = go (is_at (nat_cmp p) e.0) (processes_put maps p es w)
  where
    go : (t : Bool) → processes_of maps (put es p w) ≡ processes_of maps es → processes_of maps (cond t ((e.0, w) ∷ es) (e ∷ put es p w)) ≡ processes_of maps (e ∷ es)
    go true more = refl
    go false more = ap (λ (ps : List Process). process_of_entry maps e ∷ ps) more

tables_put : (p : ℕ) (es : Entries) (w : List Held) → All Table es → IsTableOf p w → All Table (put es p w)
tables_put p [] w tables here = tables
tables_put p (e ∷ es) w tables here = go (is_at (nat_cmp p) e.0) (sym (is_at-id p e.0)) (tables_put p es w (All-tail Table e es tables) here)
  where
    go : (t : Bool) → (e.0 == p) ≡ t → All Table (put es p w) → All Table (cond t ((e.0, w) ∷ es) (e ∷ put es p w))
    go true same more = All-cons Table (e.0, w) es (subst (λ n. IsTableOf n w) (sym (eqb-true e.0 p same)) here) (All-tail Table e es tables)
    go false other more = All-cons Table e (put es p w) (All-head Table e es tables) more

-- ---- a handle more

-- the handle stands somewhere among those of before
record Pushed (es new : Entries) (h : Held) : Type 0 where
  before : List Held
  behind : List Held
  old : in_turn es ≡ before ++ behind
  now : in_turn new ≡ before ++ h ∷ behind

turn_pushed : (p : ℕ) (es : Entries) (x w : List Held) (h : Held) → at es p ≡ Some x → w ≡ x ++ h ∷ [] → Pushed es (put es p w) h
turn_pushed p [] x w h found pushed = cc
turn_pushed p (e ∷ es) x w h found pushed = go (is_at (nat_cmp p) e.0) found (λ there. turn_pushed p es x w h there pushed)
  where
    go : (t : Bool) → cond t (Some e.1) (at es p) ≡ Some x → (at es p ≡ Some x → Pushed es (put es p w) h) → Pushed (e ∷ es) (cond t ((e.0, w) ∷ es) (e ∷ put es p w)) h
    go true here more =
        let it : e.1 ≡ x = cc in
        record {
          before = e.1;
          behind = in_turn es;
          old = refl;
          now = ap (λ hs. hs ++ in_turn es) (pushed ∙ ap (λ y. y ++ h ∷ []) (sym it)) ∙ append_assoc e.1 (h ∷ []) (in_turn es);
        }
    go false there more =
        let rest = more there in
        record {
          before = e.1 ++ rest.before;
          behind = rest.behind;
          old = ap (λ hs. e.1 ++ hs) rest.old ∙ sym (append_assoc e.1 rest.before rest.behind);
          now = ap (λ hs. e.1 ++ hs) rest.now ∙ sym (append_assoc e.1 rest.before (h ∷ rest.behind));
        }

All-parts : {X : Type 0} (P : X → Type 0) (xs ys : List X) → All P (xs ++ ys) → All P xs × All P ys
All-parts P [] ys all = (All-nil P, all)
All-parts P (x ∷ xs) ys all =
    let rest = All-parts P xs ys (All-tail P x (xs ++ ys) all) in
    (All-cons P x xs (All-head P x (xs ++ ys) all) rest.0, rest.1)

pub handles_pushed : (p : ℕ) (es : Entries) (x w : List Held) (h : Held) → at es p ≡ Some x → w ≡ x ++ h ∷ []
    → All (λ k. k.order < h.order) (handles_of es) → handles_of (put es p w) ≡ handles_of es ++ h ∷ []
handles_pushed p es x w h found pushed newest =
    let is : Pushed es (put es p w) h = turn_pushed p es x w h found pushed in
    let parts = All-parts (λ (k : Held). k.order < h.order) is.before is.behind
    (subst (All (λ (k : Held). k.order < h.order)) is.old (sorted_by-All order_of (λ (k : Held). k.order < h.order) (in_turn es) newest)) in
    ap by_order is.now ∙ sorted_by-last order_of h is.before is.behind parts.0 parts.1 ∙ ap (λ hs. by_order hs ++ h ∷ []) (sym is.old)

-- ---- a handle less

filter_same : {X : Type 0} (p q : X → Bool) (xs : List X) → All (λ x. p x ≡ q x) xs → filter p xs ≡ filter q xs
filter_same p q [] same = refl
filter_same p q (x ∷ xs) same =
    ap (λ t. cond t (x ∷ filter p xs) (filter p xs)) (All-head (λ y. p y ≡ q y) x xs same)
    ∙ ap (λ ys. cond (q x) (x ∷ ys) ys) (filter_same p q xs (All-tail (λ y. p y ≡ q y) x xs same))

-- the handle isn't the one of this process and value
abbrev pub stays : ℕ → ℕ → Held → Bool
stays p value h = not (is_handle p value h)

turn_taken : (p value : ℕ) (es : Entries) (x w : List Held) → Differ es → All Table es → at es p ≡ Some x → w ≡ without x value
    → in_turn (put es p w) ≡ filter (stays p value) (in_turn es)
turn_taken p value [] x w differ tables found taken = refl
turn_taken p value (e ∷ es) x w differ tables found taken =
    ap (λ t. in_turn (cond t ((e.0, w) ∷ es) (e ∷ put es p w))) (is_at-id p e.0)
    ∙ go (e.0 == p) refl (ap (λ t. cond t (Some e.1) (at es p)) (sym (is_at-id p e.0)) ∙ found) (λ there. turn_taken p value es x w differ.1 (All-tail Table e es tables) there taken)
    ∙ sym (filter-append (stays p value) e.1 (in_turn es))
  where
    table : Table e
    table = All-head Table e es tables

    other_stays : (h : Held) → is_of p h ≡ false → stays p value h ≡ true
    other_stays h other = ap (λ t. not (t && (h.value == value))) other

    of_value : (h : Held) → is_of p h ≡ true → stays p value h ≡ not (h.value == value)
    of_value h own = ap (λ t. not (t && (h.value == value))) own

    go : (t : Bool) → (e.0 == p) ≡ t → cond t (Some e.1) (at es p) ≡ Some x → (at es p ≡ Some x → in_turn (put es p w) ≡ filter (stays p value) (in_turn es))
        → in_turn (cond t ((e.0, w) ∷ es) (e ∷ put es p w)) ≡ filter (stays p value) e.1 ++ filter (stays p value) (in_turn es)
    go true same here more =
        let it : e.1 ≡ x = cc in
        ap (λ hs. hs ++ in_turn es) (taken ∙ ap (λ (y : List Held). without y value) (sym it)
        ∙ sym (filter_same (stays p value) (λ h. not (h.value == value)) e.1
        (λ k d below. of_value (get_or e.1 k d) (subst (λ n. ((get_or e.1 k d).process == n) ≡ true) (eqb-true e.0 p same) (table.own k d below)))))
        ∙ ap (λ hs. filter (stays p value) e.1 ++ hs)
        (sym (filter_all (stays p value) (in_turn es) (λ k d below. other_stays (get_or (in_turn es) k d) (others_behind p e es same differ tables k d below))))
    go false other there more =
        ap (λ hs. hs ++ in_turn (put es p w))
        (sym (filter_all (stays p value) e.1
        (λ k d below. other_stays (get_or e.1 k d) (ap (λ n. n == p) (eqb-true (get_or e.1 k d).process e.0 (table.own k d below)) ∙ other))))
        ∙ ap (λ hs. filter (stays p value) e.1 ++ hs) (more there)

pub handles_taken : (p value : ℕ) (es : Entries) (x w : List Held) → Differ es → All Table es → at es p ≡ Some x → w ≡ without x value
    → handles_of (put es p w) ≡ filter (stays p value) (handles_of es)
handles_taken p value es x w differ tables found taken =
    ap by_order (turn_taken p value es x w differ tables found taken) ∙ sym (filter-sorted_by order_of (stays p value) (in_turn es))

turn_length : (p n : ℕ) (es : Entries) (x w : List Held) → at es p ≡ Some x → length w + n ≡ length x → length (in_turn (put es p w)) + n ≡ length (in_turn es)
turn_length p n [] x w found fewer = cc
turn_length p n (e ∷ es) x w found fewer = go (is_at (nat_cmp p) e.0) found (λ there. turn_length p n es x w there fewer)
  where
    go : (t : Bool) → cond t (Some e.1) (at es p) ≡ Some x → (at es p ≡ Some x → length (in_turn (put es p w)) + n ≡ length (in_turn es))
        → length (in_turn (cond t ((e.0, w) ∷ es) (e ∷ put es p w))) + n ≡ length (e.1 ++ in_turn es)
    go true here more =
        let it : e.1 ≡ x = cc in
        let long : length e.1 ≡ length x = ap (λ (y : List Held). length y) it in
        omega (arith, fewer, long, length-append w (in_turn es), length-append e.1 (in_turn es))
    go false there more =
        let rest : length (in_turn (put es p w)) + n ≡ length (in_turn es) = more there in
        omega (arith, rest, length-append e.1 (in_turn (put es p w)), length-append e.1 (in_turn es))

-- ---- a process more, and one less

turn_started : (es : Entries) (p : ℕ) → in_turn (es ++ (p, []) ∷ []) ≡ in_turn es
turn_started [] p = refl
turn_started (e ∷ es) p = ap (λ hs. e.1 ++ hs) (turn_started es p)

turn_ended : (p : ℕ) (es : Entries) → All Table es → in_turn (filter (λ e. not (e.0 == p)) es) ≡ filter (λ h. not (is_of p h)) (in_turn es)
turn_ended p [] tables = refl
turn_ended p (e ∷ es) tables =
    go (e.0 == p) refl (turn_ended p es (All-tail Table e es tables)) ∙ sym (filter-append (λ h. not (is_of p h)) e.1 (in_turn es))
  where
    table : Table e
    table = All-head Table e es tables

    go : (t : Bool) → (e.0 == p) ≡ t → in_turn (filter (λ x. not (x.0 == p)) es) ≡ filter (λ h. not (is_of p h)) (in_turn es)
        → in_turn (cond (not t) (e ∷ filter (λ x. not (x.0 == p)) es) (filter (λ x. not (x.0 == p)) es))
        ≡ filter (λ h. not (is_of p h)) e.1 ++ filter (λ h. not (is_of p h)) (in_turn es)
    go true same more =
        more ∙ ap (λ hs. hs ++ filter (λ h. not (is_of p h)) (in_turn es)) (sym (filter_none (λ h. not (is_of p h)) e.1
        (λ k d below. ap not (subst (λ n. ((get_or e.1 k d).process == n) ≡ true) (eqb-true e.0 p same) (table.own k d below)))))
    go false other more =
        ap (λ hs. e.1 ++ hs) more ∙ ap (λ hs. hs ++ filter (λ h. not (is_of p h)) (in_turn es)) (sym (filter_all (λ h. not (is_of p h)) e.1
        (λ k d below. ap not (ap (λ n. n == p) (eqb-true (get_or e.1 k d).process e.0 (table.own k d below)) ∙ other))))

-- the others have their maps still
processes_without : (maps left : Directories) (p : ℕ) (es : Entries) → MapChanges p None maps left
    → processes_of left (filter (λ e. not (e.0 == p)) es) ≡ filter (λ x. not (x.number == p)) (processes_of maps es)
processes_without maps left p [] cleared = refl
processes_without maps left p (e ∷ es) cleared = go (e.0 == p) (cleared e.0) (processes_without maps left p es cleared)
  where
    go : (t : Bool) → map_in left e.0 ≡ (if t then None else map_in maps e.0)
        → processes_of left (filter (λ x. not (x.0 == p)) es) ≡ filter (λ x. not (x.number == p)) (processes_of maps es)
        → processes_of left (cond (not t) (e ∷ filter (λ x. not (x.0 == p)) es) (filter (λ x. not (x.0 == p)) es))
        ≡ cond (not t) (process_of_entry maps e ∷ filter (λ x. not (x.number == p)) (processes_of maps es)) (filter (λ x. not (x.number == p)) (processes_of maps es))
    go true none more = more
    go false same more =
        ap (λ m. record { number = e.0; map = m } ∷ processes_of left (filter (λ x. not (x.0 == p)) es)) same
        ∙ ap (λ (ps : List Process). process_of_entry maps e ∷ ps) more

-- ---- what holds of the entries after a change

module _ (p kept : ℕ) (es : Entries) (is : IsRunning es kept) where
  differ : Differ es
  differ = Differ-from_rising es is.numbers

  module _ (x : List Held) (found : at es p ≡ Some x) where
    -- what holds of all handles holds of those of one process
    pub all_found : (P : Held → Type 0) → All P (handles_of es) → All P x
    all_found P all = subst (All P) (handles_at p es differ is.tables ∙ ap handles_in found) (All-filter (is_of p) P (handles_of es) all)

    -- what is written under the number of the process
    module _ (new : Entries) (w : List Held) (wrote : new ≡ put es p w) where
      pub processes_written : (maps : Directories) → processes_of maps new ≡ processes_of maps es
      processes_written maps = ap (processes_of maps) wrote ∙ processes_put maps p es w

      module _ (h : Held) (pushed : w ≡ x ++ h ∷ []) (newest : All (λ k. k.order < h.order) (handles_of es)) where
        pub handles_more : handles_of new ≡ handles_of es ++ h ∷ []
        handles_more = ap handles_of wrote ∙ handles_pushed p es x w h found pushed newest

        pub running_more : (h.process == p) ≡ true → IsRunning new (kept + 1)
        running_more own = record {
          numbers = subst (λ n. IsStrictlySortedBy nat_cmp (keys_of n)) (sym wrote)
              (subst (IsStrictlySortedBy nat_cmp) (sym (keys-set_value (is_at (nat_cmp p)) es w)) is.numbers);
          tables = subst (All Table) (sym wrote) (tables_put p es w is.tables (subst (IsTableOf p) (sym pushed) table));
          rising = subst OrdersRise (sym handles_more) (OrdersRise-push (handles_of es) h is.rising newest);
          total = ap (λ n. n + 1) is.total ∙ sym (ap length handles_more ∙ length-append (handles_of es) (h ∷ []));
        }
          where
            before : IsTableOf p x
            before = found_table p es x is.tables found

            table : IsTableOf p (x ++ h ∷ [])
            table = record {
              own = All-push (λ k. (k.process == p) ≡ true) x h before.own own;
              rising = OrdersRise-push x h before.rising (all_found (λ k. k.order < h.order) newest);
            }

      module _ (value : ℕ) (taken : w ≡ without x value) where
        pub handles_fewer : handles_of new ≡ filter (stays p value) (handles_of es)
        handles_fewer = ap handles_of wrote ∙ handles_taken p value es x w differ is.tables found taken

        module _ (n : ℕ) (fewer : length w + n ≡ length x) where
          lengths : length (handles_of new) + n ≡ kept
          lengths =
              ap (λ k. k + n) (ap (λ (es : Entries). length (handles_of es)) wrote ∙ sorted_by-length order_of (in_turn (put es p w)))
              ∙ turn_length p n es x w found fewer ∙ sym (is.total ∙ sorted_by-length order_of (in_turn es))

          pub no_fewer_than : n ≤ kept
          no_fewer_than = omega (arith, lengths)

          pub running_fewer : (left : ℕ) → left + n ≡ kept → IsRunning new left
          running_fewer left so_many = record {
            numbers = subst (λ n. IsStrictlySortedBy nat_cmp (keys_of n)) (sym wrote)
                (subst (IsStrictlySortedBy nat_cmp) (sym (keys-set_value (is_at (nat_cmp p)) es w)) is.numbers);
            tables = subst (All Table) (sym wrote) (tables_put p es w is.tables (subst (IsTableOf p) (sym taken) table));
            rising = subst OrdersRise (sym handles_fewer) (AllPairs-filter (λ a b. a.order < b.order) (stays p value) (handles_of es) is.rising);
            total = omega (arith, lengths, so_many);
          }
            where
              before : IsTableOf p x
              before = found_table p es x is.tables found

              table : IsTableOf p (without x value)
              table = record {
                own = All-filter (λ h. not (h.value == value)) (λ k. (k.process == p) ≡ true) x before.own;
                rising = AllPairs-filter (λ a b. a.order < b.order) (λ h. not (h.value == value)) x before.rising;
              }

  -- a process begins
  module _ (new : Entries) (newest : All (λ e. e.0 < p) es) (put_in : new ≡ insert_entry nat_cmp es p []) where
    pub begun : new ≡ es ++ (p, []) ∷ []
    begun = put_in ∙ insert_entry-last p [] es newest

    pub processes_begun : (maps : Directories) → map_in maps p ≡ None → processes_of maps new ≡ processes_of maps es ++ record { number = p; map = None } ∷ []
    processes_begun maps none =
        ap (processes_of maps) begun ∙ map-append (process_of_entry maps) es ((p, []) ∷ [])
        ∙ ap (λ m. processes_of maps es ++ record { number = p; map = m } ∷ []) none

    pub handles_begun : handles_of new ≡ handles_of es
    handles_begun = ap handles_of begun ∙ ap by_order (turn_started es p)

    pub running_begun : IsStrictlySortedBy nat_cmp (keys_of new) → IsRunning new kept
    running_begun numbers = record {
      numbers = numbers;
      tables = subst (All Table) (sym begun) (All-push Table es (p, []) is.tables
          (record { own = All-nil (λ k. (k.process == p) ≡ true); rising = λ i j d before within. absurd (omega (arith, within)) }));
      rising = subst OrdersRise (sym handles_begun) is.rising;
      total = is.total ∙ ap length (sym handles_begun);
    }

  -- a process ends
  module _ (new : Entries) (taken : new ≡ remove_entry (is_at (nat_cmp p)) es) where
    pub others : new ≡ filter (λ e. not (e.0 == p)) es
    others = taken ∙ remove_entry-id p es differ

    pub processes_ended : (maps left : Directories) → MapChanges p None maps left → processes_of left new ≡ filter (λ x. not (x.number == p)) (processes_of maps es)
    processes_ended maps left cleared = ap (processes_of left) others ∙ processes_without maps left p es cleared

    pub handles_ended : handles_of new ≡ filter (λ h. not (is_of p h)) (handles_of es)
    handles_ended = ap handles_of others ∙ ap by_order (turn_ended p es is.tables) ∙ sym (filter-sorted_by order_of (λ h. not (is_of p h)) (in_turn es))

    module _ (x : List Held) (found : handles_in (at es p) ≡ x) where
      lengths_ended : length (handles_of new) + length x ≡ kept
      lengths_ended =
          let parts = length-filter_both (is_of p) (λ h. not (is_of p h)) (λ h. refl) (handles_of es) in
          let own : length (filter (is_of p) (handles_of es)) ≡ length x = ap length (handles_at p es differ is.tables ∙ found) in
          let left : length (handles_of new) ≡ length (filter (λ h. not (is_of p h)) (handles_of es)) = ap length handles_ended in
          let all : kept ≡ length (handles_of es) = is.total in
          omega (arith, parts, own, left, all)

      pub many_ended : length x ≤ kept
      many_ended = omega (arith, lengths_ended)

      pub running_ended : (left : ℕ) → left + length x ≡ kept → IsStrictlySortedBy nat_cmp (keys_of new) → IsRunning new left
      running_ended left so_many numbers = record {
        numbers = numbers;
        tables = subst (All Table) (sym others) (All-filter (λ e. not (e.0 == p)) Table es is.tables);
        rising = subst OrdersRise (sym handles_ended) (AllPairs-filter (λ a b. a.order < b.order) (λ h. not (is_of p h)) (handles_of es) is.rising);
        total = omega (arith, lengths_ended, so_many);
      }
