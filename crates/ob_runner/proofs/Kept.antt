-- Parses that a map keeps under their tickets: what is found, what is left, and what comes last.
use Rattle.std.proofs.Common.{◌≡◌, ◌≢◌, ◌∙◌, ℕ, ◌<◌, ◌==◌, ◌||◌, Bool, true, false, not, cond, List, [], ◌∷◌, ◌++◌, map, filter, find, get_or, Some, None, All, refl, ap, sym, subst, arith, eq-eqb, eqb-true}
use Rattle.std.proofs.lemmas.Bool.{false≢true, ne_eqb}
use Rattle.std.proofs.lemmas.Bool.Decides.{nat_tests}
use Rattle.std.proofs.lemmas.List.{map-append}
use Rattle.std.proofs.lemmas.List.Elements.{All-nil, All-cons, All-head, All-tail, All-push, filter_passes}
use Rattle.std.proofs.lemmas.List.Kept.{AllPairs-cons}
use Rattle.std.proofs.lemmas.Map.Keys.{sorted_head, sorted_tail}
use Rattle.std.specs.BTreeMap.{is_at, insert_entry}
use Rattle.std.specs.declared.cmp.Ordering.TheVariants.{Less}
use Rattle.std.specs.List.{AllPairs, AllByRecursion, list_any}
use Rattle.std.specs.List.Sorted.{IsStrictlySortedBy}
use Rattle.std.specs.Map.{keys_of, values_of, lookup, remove_entry}
use Rattle.std.specs.Ordering.{nat_cmp}
use Rattle.ob_model.proofs.Ids.{Differ-from_rising, is_at-id, insert_entry-last, remove_entry-id}
use Rattle.ob_types.specs.Parse.{ToRun}
use Rattle.ob_runner.specs.Begun.{tickets_of, without}
use Rattle.ob_runner.specs.Kept.{AreKept}
use Rattle.ob_runner.proofs.Pending.{found_passes}

-- keys that rise
above : (k : ℕ) (ks : List ℕ) → AllByRecursion (λ y. nat_cmp k y ≡ Less) ks → All (λ y. k < y) ks
above k [] rising = All-nil (λ y. k < y)
above k (j ∷ ks) rising = All-cons (λ y. k < y) j ks (less k j rising.0) (above k ks rising.1)
  where
    less : (a b : ℕ) → nat_cmp a b ≡ Less → a < b
    less a b is = grind (arith, nat_tests)

rise : (ks : List ℕ) → IsStrictlySortedBy nat_cmp ks → AllPairs (λ a b. a < b) ks
rise [] rising = λ i j d before below. absurd (omega (arith, below))
rise (k ∷ ks) rising = AllPairs-cons (λ a b. a < b) k ks (above k ks (sorted_head nat_cmp k ks rising)) (rise ks (sorted_tail nat_cmp k ks rising))

module _ {F : Type 0} where
  abbrev Own : ℕ × ToRun F → Type 0
  Own e = e.1.ticket ≡ e.0

  -- the tickets are the keys
  are_keys : (es : List (ℕ × ToRun F)) → All Own es → tickets_of (values_of es) ≡ keys_of es
  are_keys [] own = refl
  are_keys (e ∷ es) own = (λ i. All-head Own e es own i ∷ are_keys es (All-tail Own e es own) i)

  -- what is found under a ticket
  found : (ticket : ℕ) (es : List (ℕ × ToRun F)) → All Own es → lookup (is_at (nat_cmp ticket)) es ≡ find (λ x. x.ticket == ticket) (values_of es)
  found ticket [] own = refl
  found ticket (e ∷ es) own =
      ap (λ b. cond b (Some e.1) (lookup (is_at (nat_cmp ticket)) es)) (is_at-id ticket e.0 ∙ ap (λ k. k == ticket) (sym (All-head Own e es own)))
      ∙ ap (λ o. cond (e.1.ticket == ticket) (Some e.1) o) (found ticket es (All-tail Own e es own))

  -- what is left without it
  others : (ticket : ℕ) (es : List (ℕ × ToRun F)) → All Own es
      → map (λ e. e.1) (filter (λ e. not (e.0 == ticket)) es) ≡ filter (λ x. not (x.ticket == ticket)) (values_of es)
  others ticket [] own = refl
  others ticket (e ∷ es) own =
      go (not (e.0 == ticket)) (others ticket es (All-tail Own e es own))
      ∙ ap (λ k. cond (not (k == ticket)) (e.1 ∷ filter (λ (x : ToRun F). not (x.ticket == ticket)) (values_of es)) (filter (λ (x : ToRun F). not (x.ticket == ticket)) (values_of es)))
      (sym (All-head Own e es own))
    where
      go : (b : Bool) → map (λ (x : ℕ × ToRun F). x.1) (filter (λ (x : ℕ × ToRun F). not (x.0 == ticket)) es) ≡ filter (λ (x : ToRun F). not (x.ticket == ticket)) (values_of es)
          → map (λ (x : ℕ × ToRun F). x.1) (cond b (e ∷ filter (λ (x : ℕ × ToRun F). not (x.0 == ticket)) es) (filter (λ (x : ℕ × ToRun F). not (x.0 == ticket)) es))
          ≡ cond b (e.1 ∷ filter (λ (x : ToRun F). not (x.ticket == ticket)) (values_of es)) (filter (λ (x : ToRun F). not (x.ticket == ticket)) (values_of es))
      go true more = ap (λ (xs : List (ToRun F)). e.1 ∷ xs) more
      go false more = more

  left_own : (ticket : ℕ) (es : List (ℕ × ToRun F)) → All Own es → All Own (remove_entry (is_at (nat_cmp ticket)) es)
  left_own ticket [] own = own
  left_own ticket (e ∷ es) own = go (is_at (nat_cmp ticket) e.0) (left_own ticket es (All-tail Own e es own))
    where
      go : (b : Bool) → All Own (remove_entry (is_at (nat_cmp ticket)) es) → All Own (cond b es (e ∷ remove_entry (is_at (nat_cmp ticket)) es))
      go true more = All-tail Own e es own
      go false more = All-cons Own e (remove_entry (is_at (nat_cmp ticket)) es) (All-head Own e es own) more

  -- tickets below another are so in the map
  below_inside : (ticket : ℕ) (es : List (ℕ × ToRun F)) → All Own es → All (λ k. k < ticket) (tickets_of (values_of es)) → All (λ e. e.0 < ticket) es
  below_inside ticket [] own below = All-nil (λ e. e.0 < ticket)
  below_inside ticket (e ∷ es) own below =
      All-cons (λ (x : ℕ × ToRun F). x.0 < ticket) e es
      (subst (λ k. k < ticket) (All-head Own e es own) (All-head (λ k. k < ticket) e.1.ticket (tickets_of (values_of es)) below))
      (below_inside ticket es (All-tail Own e es own) (All-tail (λ k. k < ticket) e.1.ticket (tickets_of (values_of es)) below))

  none_found : (ticket : ℕ) (xs : List (ToRun F)) → All (λ k. k < ticket) (tickets_of xs) → find (λ x. x.ticket == ticket) xs ≡ None
  none_found ticket [] below = refl
  none_found ticket (x ∷ xs) below =
      let less : x.ticket < ticket = All-head (λ k. k < ticket) x.ticket (tickets_of xs) below in
      rw (ne_eqb x.ticket ticket (λ same. omega (arith, less, same))) (none_found ticket xs (All-tail (λ k. k < ticket) x.ticket (tickets_of xs) below))

  -- the first goes
  module _ (es : List (ℕ × ToRun F)) (are : AreKept es) (key : ℕ) (x : ToRun F) (left : List (ℕ × ToRun F)) (first : es ≡ (key, x) ∷ left) where
    pub rest_kept : AreKept left
    rest_kept =
        let all : AreKept ((key, x) ∷ left) = subst AreKept first are in
        record { rising = sorted_tail nat_cmp key (keys_of left) all.rising; own = All-tail Own (key, x) left all.own }

    pub least_first : All (λ k. x.ticket < k) (tickets_of (values_of left))
    least_first =
        let all : AreKept ((key, x) ∷ left) = subst AreKept first are in
        let own : x.ticket ≡ key = All-head Own (key, x) left all.own in
        subst (λ k. All (λ j. k < j) (tickets_of (values_of left))) (sym own)
        (subst (All (λ j. key < j)) (sym (are_keys left (All-tail Own (key, x) left all.own))) (above key (keys_of left) (sorted_head nat_cmp key (keys_of left) all.rising)))

  -- ---- the parses as they are kept

  module _ (es : List (ℕ × ToRun F)) (are : AreKept es) (now : List (ToRun F)) (same : values_of es ≡ now) where
    pub rising : AllPairs (λ a b. a < b) (tickets_of now)
    rising = subst (λ xs. AllPairs (λ a b. a < b) (tickets_of xs)) same (subst (AllPairs (λ a b. a < b)) (sym (are_keys es are.own)) (rise (keys_of es) are.rising))

    module _ (x : ToRun F) (newest : All (λ k. k < x.ticket) (tickets_of now)) where
      below : All (λ e. e.0 < x.ticket) es
      below = below_inside x.ticket es are.own (subst (λ xs. All (λ k. k < x.ticket) (tickets_of xs)) (sym same) newest)

      -- none is kept under a ticket above all
      pub none_there : (key : ℕ) → key ≡ x.ticket → (other : ToRun F) → Some other ≡ lookup (is_at (nat_cmp key)) es → ⊥
      none_there key own other is =
          let none : lookup (is_at (nat_cmp x.ticket)) es ≡ None = found x.ticket es are.own ∙ ap (find (λ y. y.ticket == x.ticket)) same ∙ none_found x.ticket now newest in
          let e : Some other ≡ None = is ∙ ap (λ k. lookup (is_at (nat_cmp k)) es) own ∙ none in
          cc

      module _ (key : ℕ) (own : key ≡ x.ticket) (new : List (ℕ × ToRun F)) (put : new ≡ insert_entry nat_cmp es key x) where
        comes_last : new ≡ es ++ (x.ticket, x) ∷ []
        comes_last = put ∙ ap (λ k. insert_entry nat_cmp es k x) own ∙ insert_entry-last x.ticket x es below

        pub last_now : values_of new ≡ now ++ x ∷ []
        last_now = ap values_of comes_last ∙ map-append (λ (e : ℕ × ToRun F). e.1) es ((x.ticket, x) ∷ []) ∙ ap (λ (xs : List (ToRun F)). xs ++ x ∷ []) same

        pub more_kept : IsStrictlySortedBy nat_cmp (keys_of new) → AreKept new
        more_kept rises = record { rising = rises; own = subst (All Own) (sym comes_last) (All-push Own es (x.ticket, x) are.own refl) }

    module _ (ticket : ℕ) where
      pub found_now : lookup (is_at (nat_cmp ticket)) es ≡ find (λ x. x.ticket == ticket) now
      found_now = found ticket es are.own ∙ ap (find (λ x. x.ticket == ticket)) same

      module _ (left : List (ℕ × ToRun F)) (taken : left ≡ remove_entry (is_at (nat_cmp ticket)) es) where
        pub others_now : values_of left ≡ filter (λ x. not (x.ticket == ticket)) now
        others_now =
            ap values_of (taken ∙ remove_entry-id ticket es (Differ-from_rising es are.rising)) ∙ others ticket es are.own
            ∙ ap (filter (λ (x : ToRun F). not (x.ticket == ticket))) same

        pub fewer_kept : IsStrictlySortedBy nat_cmp (keys_of left) → AreKept left
        fewer_kept rises = record { rising = rises; own = subst (All Own) (sym taken) (left_own ticket es are.own) }

    -- a parse is found under each ticket that is kept
    module _ (ticket : ℕ) (there : list_any (λ k. k == ticket) (tickets_of now) ≡ true) where
      some_found : (xs : List (ToRun F)) → list_any (λ k. k == ticket) (tickets_of xs) ≡ true → find (λ x. x.ticket == ticket) xs ≡ None → ⊥
      some_found [] any none = cc
      some_found (x ∷ xs) any none = go (x.ticket == ticket) any none (some_found xs)
        where
          go : (b : Bool) → (b || list_any (λ k. k == ticket) (tickets_of xs)) ≡ true → cond b (Some x) (find (λ y. y.ticket == ticket) xs) ≡ None
              → (list_any (λ k. k == ticket) (tickets_of xs) ≡ true → find (λ y. y.ticket == ticket) xs ≡ None → ⊥) → ⊥
          go true any none more = cc
          go false any none more = more any none

      pub is_kept : None ≡ lookup (is_at (nat_cmp ticket)) es → ⊥
      is_kept none = some_found now there (sym (none ∙ found_now ticket))

  -- what is found under a ticket has it
  pub found_own : (ticket : ℕ) (xs : List (ToRun F)) (x : ToRun F) → find (λ y. y.ticket == ticket) xs ≡ Some x → x.ticket ≡ ticket
  found_own ticket xs x e = eqb-true x.ticket ticket (found_passes (λ y. y.ticket == ticket) xs x e)

  -- the tickets of those that are left
  pub tickets_left : (ticket : ℕ) (xs : List (ToRun F)) → tickets_of (filter (λ x. not (x.ticket == ticket)) xs) ≡ without ticket (tickets_of xs)
  tickets_left ticket [] = refl
  tickets_left ticket (x ∷ xs) = go (not (x.ticket == ticket)) (tickets_left ticket xs)
    where
      go : (b : Bool) → tickets_of (filter (λ (y : ToRun F). not (y.ticket == ticket)) xs) ≡ without ticket (tickets_of xs)
          → tickets_of (cond b (x ∷ filter (λ (y : ToRun F). not (y.ticket == ticket)) xs) (filter (λ (y : ToRun F). not (y.ticket == ticket)) xs))
          ≡ cond b (x.ticket ∷ without ticket (tickets_of xs)) (without ticket (tickets_of xs))
      go true more = ap (λ ks. x.ticket ∷ ks) more
      go false more = more

  -- they have other tickets
  pub others_left : (ticket : ℕ) (xs : List (ToRun F)) → All (λ x. ticket ≢ x.ticket) (filter (λ x. not (x.ticket == ticket)) xs)
  others_left ticket xs k d within = λ same.
      let passes : not ((get_or (filter (λ (x : ToRun F). not (x.ticket == ticket)) xs) k d).ticket == ticket) ≡ true = filter_passes (λ (x : ToRun F). not (x.ticket == ticket)) xs k d within in
      absurd (false≢true (ap not (sym (eq-eqb _ ticket (sym same))) ∙ passes))

  -- what holds of tickets
  pub of_tickets : (P : ℕ → Type 0) (xs : List (ToRun F)) → All P (tickets_of xs) → All (λ x. P x.ticket) xs
  of_tickets P [] all = All-nil (λ x. P x.ticket)
  of_tickets P (x ∷ xs) all = All-cons (λ (y : ToRun F). P y.ticket) x xs (All-head P x.ticket (tickets_of xs) all) (of_tickets P xs (All-tail P x.ticket (tickets_of xs) all))
