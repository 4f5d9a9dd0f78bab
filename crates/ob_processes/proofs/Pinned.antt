-- Pending opens that a map keeps under their tickets, with counts of what they pin: what is found and what
-- is left, and how the counts follow.
use Rattle.std.proofs.Common.{◌≡◌, ◌∙◌, ℕ, ◌+◌, ◌-◌, ◌<◌, ◌≤◌, ◌==◌, ◌||◌, Bool, true, false, not, cond, [], ◌∷◌, ◌++◌, length, map, filter, find, get_or, Some, option_map, All, refl, ap, sym, subst, arith, nat_lt}
use Rattle.std.proofs.lemmas.Bool.Decides.{nat_tests}
use Rattle.std.proofs.lemmas.List.{map-append}
use Rattle.std.proofs.lemmas.List.Elements.{All-nil, All-cons, All-head, All-tail, All-map, All-push}
use Rattle.std.proofs.lemmas.List.Kept.{AllPairs-cons}
use Rattle.std.proofs.lemmas.List.Sums.{count_by-le-length, sum_by-cons, sum_by-append}
use Rattle.std.proofs.lemmas.Map.Entries.{length-keys_of, length-values_of, sum_by-remove_entry}
use Rattle.std.proofs.lemmas.Map.Keys.{sorted_head, sorted_tail}
use Rattle.std.proofs.lemmas.Map.Views.{length-le_from_below}
use Rattle.std.specs.BTreeMap.{is_at, insert_entry}
use Rattle.std.specs.declared.cmp.Ordering.TheVariants.{Less}
use Rattle.std.specs.List.{AllPairs, AllByRecursion, list_any}
use Rattle.std.specs.List.Sorted.{IsStrictlySortedBy}
use Rattle.std.specs.Map.{keys_of, values_of, lookup, remove_entry}
use Rattle.std.specs.Option.{unwrap_or}
use Rattle.std.specs.Ordering.{nat_cmp}
use Rattle.ob_model.specs.declared.state.PendingOpen.{PendingOpen}
use Rattle.ob_model.specs.State.{greatest_number}
use Rattle.ob_model.proofs.Ids.{Differ-from_rising, is_at-id, insert_entry-last, remove_entry-id}
use Rattle.ob_handles.specs.Counts.{Numbers, count_of, one_if, CountsOneMore, CountsOneLess}
use Rattle.ob_processes.specs.Pending.{Opens, Entries, pins_of, AreKept}

-- ---- entries that stand under their own tickets

module _ {K : Type 0} where
  abbrev Own : ℕ × PendingOpen K → Type 0
  Own e = e.1.ticket ≡ e.0

  -- what is found under a ticket
  pub found : (ticket : ℕ) (es : Entries K) → All Own es → lookup (is_at (nat_cmp ticket)) es ≡ find (λ x. x.ticket == ticket) (values_of es)
  found ticket [] own = refl
  found ticket (e ∷ es) own =
      ap (λ b. cond b (Some e.1) (lookup (is_at (nat_cmp ticket)) es)) (is_at-id ticket e.0 ∙ ap (λ k. k == ticket) (sym (All-head Own e es own)))
      ∙ ap (λ o. cond (e.1.ticket == ticket) (Some e.1) o) (found ticket es (All-tail Own e es own))

  -- what is left without it
  left_of_others : (ticket : ℕ) (es : Entries K) → All Own es
      → map (λ e. e.1) (filter (λ e. not (e.0 == ticket)) es) ≡ filter (λ x. not (x.ticket == ticket)) (values_of es)
  left_of_others ticket [] own = refl
  left_of_others ticket (e ∷ es) own =
      go (not (e.0 == ticket)) (left_of_others ticket es (All-tail Own e es own))
      ∙ ap (λ k. cond (not (k == ticket)) (e.1 ∷ filter (λ (x : PendingOpen K). not (x.ticket == ticket)) (values_of es)) (filter (λ (x : PendingOpen K). not (x.ticket == ticket)) (values_of es)))
      (sym (All-head Own e es own))
    where
      go : (b : Bool) → map (λ (x : ℕ × PendingOpen K). x.1) (filter (λ (x : ℕ × PendingOpen K). not (x.0 == ticket)) es) ≡ filter (λ (x : PendingOpen K). not (x.ticket == ticket)) (values_of es)
          → map (λ (x : ℕ × PendingOpen K). x.1) (cond b (e ∷ filter (λ (x : ℕ × PendingOpen K). not (x.0 == ticket)) es) (filter (λ (x : ℕ × PendingOpen K). not (x.0 == ticket)) es))
          ≡ cond b (e.1 ∷ filter (λ (x : PendingOpen K). not (x.ticket == ticket)) (values_of es)) (filter (λ (x : PendingOpen K). not (x.ticket == ticket)) (values_of es))
      go true more = ap (λ (xs : Opens K). e.1 ∷ xs) more
      go false more = more

  -- tickets below another are so in the map
  below_inside : (ticket : ℕ) (es : Entries K) → All Own es → All (λ x. x.ticket < ticket) (values_of es) → All (λ e. e.0 < ticket) es
  below_inside ticket [] own below = All-nil (λ e. e.0 < ticket)
  below_inside ticket (e ∷ es) own below =
      All-cons (λ (x : ℕ × PendingOpen K). x.0 < ticket) e es
      (subst (λ k. k < ticket) (All-head Own e es own) (All-head (λ (x : PendingOpen K). x.ticket < ticket) e.1 (values_of es) below))
      (below_inside ticket es (All-tail Own e es own) (All-tail (λ (x : PendingOpen K). x.ticket < ticket) e.1 (values_of es) below))

  above : (o : ℕ) (es : Entries K) → AllByRecursion (λ y. nat_cmp o y ≡ Less) (keys_of es) → All (λ e. o < e.0) es
  above o [] rising = All-nil (λ e. o < e.0)
  above o (e ∷ es) rising = All-cons (λ (x : ℕ × PendingOpen K). o < x.0) e es (less o e.0 rising.0) (above o es rising.1)
    where
      less : (a b : ℕ) → nat_cmp a b ≡ Less → a < b
      less a b is = grind (arith, nat_tests)

  tickets_rise : (es : Entries K) → IsStrictlySortedBy nat_cmp (keys_of es) → All Own es → AllPairs (λ a b. a.ticket < b.ticket) (values_of es)
  tickets_rise [] rising own = λ i j d before below. absurd (omega (arith, below))
  tickets_rise (e ∷ es) rising own =
      AllPairs-cons (λ (a b : PendingOpen K). a.ticket < b.ticket) e.1 (values_of es)
      (All-map (λ (x : PendingOpen K). e.1.ticket < x.ticket) (λ (x : ℕ × PendingOpen K). x.1) es (λ k d below. later (get_or es k d) (behind k d below) (tail k d below)))
      (tickets_rise es (sorted_tail nat_cmp e.0 (keys_of es) rising) tail)
    where
      tail : All Own es
      tail = All-tail Own e es own

      behind : All (λ x. e.0 < x.0) es
      behind = above e.0 es (sorted_head nat_cmp e.0 (keys_of es) rising)

      later : (x : ℕ × PendingOpen K) → e.0 < x.0 → x.1.ticket ≡ x.0 → e.1.ticket < x.1.ticket
      later x before own_ticket = let first : e.1.ticket ≡ e.0 = All-head Own e es own in omega (arith, before, own_ticket, first)

  -- an open pins an object where one at least is counted
  some_pins : (object : ℕ) (opens : Opens K) → nat_lt 0 (pins_of opens object) ≡ list_any (λ p. p.object == object) opens
  some_pins object [] = refl
  some_pins object (x ∷ opens) =
      ap (nat_lt 0) (sum_by-cons (λ (y : PendingOpen K). cond (y.object == object) 1 0) x opens) ∙ go (x.object == object) (some_pins object opens)
    where
      go : (b : Bool) → nat_lt 0 (pins_of opens object) ≡ list_any (λ p. p.object == object) opens
          → nat_lt 0 (cond b 1 0 + pins_of opens object) ≡ (b || list_any (λ p. p.object == object) opens)
      go true more = positive (pins_of opens object)
        where
          positive : (n : ℕ) → nat_lt 0 (1 + n) ≡ true
          positive n = grind (arith, nat_tests)
      go false more = ap (nat_lt 0) (none (pins_of opens object)) ∙ more
        where
          none : (n : ℕ) → 0 + n ≡ n
          none n = omega arith

  -- an open pins its own object once
  one_pin : (x : PendingOpen K) (object : ℕ) → cond (x.object == object) 1 0 ≡ one_if x.object object
  one_pin x object = ap (λ t. cond t 1 0) (turned x.object object)
    where
      turned : (a b : ℕ) → (a == b) ≡ (b == a)
      turned a b = grind (arith, nat_tests)

  -- ---- the opens as they are kept

  module _ (es : Entries K) (pins : Numbers) (are : AreKept es pins) (now : Opens K) (same : values_of es ≡ now) where
    pub rising : AllPairs (λ a b. a.ticket < b.ticket) now
    rising = subst (AllPairs (λ (a b : PendingOpen K). a.ticket < b.ticket)) same (tickets_rise es are.rising are.own)

    pub found_now : (ticket : ℕ) → lookup (is_at (nat_cmp ticket)) es ≡ find (λ x. x.ticket == ticket) now
    found_now ticket = found ticket es are.own ∙ ap (find (λ x. x.ticket == ticket)) same

    pub pinned_now : (object count : ℕ) → count ≡ count_of pins object → nat_lt 0 count ≡ list_any (λ p. p.object == object) now
    pinned_now object count is = ap (nat_lt 0) (is ∙ are.counts object) ∙ some_pins object (values_of es) ∙ ap (list_any (λ p. p.object == object)) same

    -- ---- an open more

    module _ (x : PendingOpen K) (newest : All (λ y. y.ticket < x.ticket) now) where
      below : All (λ e. e.0 < x.ticket) es
      below = below_inside x.ticket es are.own (subst (All (λ (y : PendingOpen K). y.ticket < x.ticket)) (sym same) newest)

      -- fewer opens are pending than there are tickets below the new one
      pub room : (object : ℕ) → x.ticket ≤ greatest_number → count_of pins object ≤ greatest_number
      room object drawn =
          let count : count_of pins object ≡ pins_of (values_of es) object = are.counts object in
          let few : length (keys_of es) ≤ x.ticket = length-le_from_below x.ticket (keys_of es) are.rising (All-map (λ k. k < x.ticket) (λ (e : ℕ × PendingOpen K). e.0) es below) in
          omega (arith, count, few, drawn, count_by-le-length (λ (y : PendingOpen K). y.object == object) (values_of es), length-keys_of es, length-values_of es)

      module _ (new : Entries K) (put : new ≡ insert_entry nat_cmp es x.ticket x) where
        comes_last : new ≡ es ++ (x.ticket, x) ∷ []
        comes_last = put ∙ insert_entry-last x.ticket x es below

        values_last : values_of new ≡ values_of es ++ x ∷ []
        values_last = ap values_of comes_last ∙ map-append (λ (e : ℕ × PendingOpen K). e.1) es ((x.ticket, x) ∷ [])

        pub last_now : values_of new ≡ now ++ x ∷ []
        last_now = values_last ∙ ap (λ (xs : Opens K). xs ++ x ∷ []) same

        pub more_kept : (after : Numbers) → IsStrictlySortedBy nat_cmp (keys_of new) → CountsOneMore x.object pins after → AreKept new after
        more_kept after rises more = record {
          rising = rises;
          own = subst (λ (n : Entries K). All Own n) (sym comes_last) (All-push Own es (x.ticket, x) are.own refl);
          counts = λ other.
              let pin : PendingOpen K → ℕ = λ y. cond (y.object == other) 1 0 in
              let one : pins_of (x ∷ []) other ≡ pin x + 0 = sum_by-cons pin x [] in
              let once : pin x ≡ one_if x.object other = one_pin x other in
              let sum : pins_of (values_of new) other ≡ pins_of (values_of es) other + pins_of (x ∷ []) other =
              ap (λ (xs : Opens K). pins_of xs other) values_last ∙ sum_by-append pin (values_of es) (x ∷ []) in
              let count : count_of pins other ≡ pins_of (values_of es) other = are.counts other in
              let now_is : count_of after other ≡ count_of pins other + one_if x.object other = more other in
              omega (arith, sum, one, once, count, now_is);
        }

    -- ---- an open less

    module _ (ticket : ℕ) (left : Entries K) (taken : left ≡ remove_entry (is_at (nat_cmp ticket)) es) where
      pub others_now : values_of left ≡ filter (λ x. not (x.ticket == ticket)) now
      others_now =
          ap values_of (taken ∙ remove_entry-id ticket es (Differ-from_rising es are.rising)) ∙ left_of_others ticket es are.own
          ∙ ap (filter (λ (x : PendingOpen K). not (x.ticket == ticket))) same

      pub fewer_kept : (x : PendingOpen K) (after : Numbers) → lookup (is_at (nat_cmp ticket)) es ≡ Some x → IsStrictlySortedBy nat_cmp (keys_of left) → CountsOneLess x.object pins after
          → AreKept left after
      fewer_kept x after there rises less = record {
        rising = rises;
        own = subst (λ (n : Entries K). All Own n) (sym taken) (kept_own es are.own);
        counts = λ other.
            let pin : PendingOpen K → ℕ = λ y. cond (y.object == other) 1 0 in
            let once : pin x ≡ one_if x.object other = one_pin x other in
            let sum : pins_of (values_of left) other + pin x ≡ pins_of (values_of es) other =
            ap (λ (n : Entries K). pins_of (values_of n) other + pin x) taken
            ∙ ap (λ o. pins_of (values_of (remove_entry (is_at (nat_cmp ticket)) es)) other + unwrap_or (option_map pin o) 0) (sym there)
            ∙ sum_by-remove_entry pin (is_at (nat_cmp ticket)) es in
            let count : count_of pins other ≡ pins_of (values_of es) other = are.counts other in
            let now_is : count_of after other ≡ count_of pins other - one_if x.object other = less other in
            omega (arith, sum, once, count, now_is);
      }
        where
          kept_own : (fs : Entries K) → All Own fs → All Own (remove_entry (is_at (nat_cmp ticket)) fs)
          kept_own [] own = own
          kept_own (e ∷ fs) own = go (is_at (nat_cmp ticket) e.0) (kept_own fs (All-tail Own e fs own))
            where
              go : (b : Bool) → All Own (remove_entry (is_at (nat_cmp ticket)) fs) → All Own (cond b fs (e ∷ remove_entry (is_at (nat_cmp ticket)) fs))
              go true more = All-tail Own e fs own
              go false more = All-cons Own e (remove_entry (is_at (nat_cmp ticket)) fs) (All-head Own e fs own) more
