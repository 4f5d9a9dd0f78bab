-- Objects, processes and handles, one more of each.
use Rattle.std.proofs.Common.{◌≡◌, ◌∙◌, ℕ, zero, suc, ◌+◌, ◌-◌, ◌<◌, ◌≤◌, Bool, true, false, cond, List, [], ◌∷◌, ◌++◌, append_assoc, length, get_or, refl, ap, sym, subst, arith, ◌==◌, ◌||◌, nat_lt, eqb-true, eq-eqb, ltb-true, ltb-false, filter, map, find, Option, Some, None, All}
use Rattle.std.specs.Prelude.{AllPairs}
use Rattle.std.specs.List.{list_any}
use Rattle.std.specs.Option.{option_map_or}
use Rattle.std.proofs.lemmas.Bool.{false≢true, ne_eqb, lt-ltb}
use Rattle.std.proofs.lemmas.List.{append-nil, get_or-map, length-map}
use Rattle.std.proofs.lemmas.List.Elements.{All-head, All-tail, All-weaker}
use Rattle.ob_model.proofs.Sorted.{pairs_head, pairs_tail}
use Rattle.ob_model.specs.declared.state.Held.{Held}
use Rattle.ob_model.specs.declared.state.Row.{Row}
use Rattle.ob_model.specs.State.{State}
use Rattle.ob_core.specs.Listed.{handle_after, process_after}
use Rattle.ob_tree.specs.Index.{Rise}
use Rattle.ob_tree.specs.declared.survey.Seen.{Seen}
use Rattle.ob_tree.specs.declared.survey.SeenProcess.{SeenProcess}
use Rattle.ob_survey.specs.Surveying.{handles_from, process_seen, processes_from}

module _ {X Y : Type 0} (key : X → ℕ) (make : ℕ → Y) where
  -- all are below a number above all
  pub all_below : (n : ℕ) (xs : List X) → All (λ x. key x < n) xs → map (λ x. make (key x)) (filter (λ x. nat_lt (key x) n) xs) ≡ map (λ x. make (key x)) xs
  all_below n [] all = refl
  all_below n (x ∷ xs) all =
      ap (λ t. map (λ y. make (key y)) (cond t (x ∷ filter (λ y. nat_lt (key y) n) xs) (filter (λ y. nat_lt (key y) n) xs))) (lt-ltb (key x) n (All-head (λ y. key y < n) x xs all))
      ∙ ap (λ (ys : List Y). make (key x) ∷ ys) (all_below n xs (All-tail (λ y. key y < n) x xs all))

  pub none_below : (n : ℕ) (xs : List X) → All (λ x. n ≤ key x) xs → map (λ x. make (key x)) (filter (λ x. nat_lt (key x) n) xs) ≡ []
  none_below n [] all = refl
  none_below n (x ∷ xs) all = go (nat_lt (key x) n) refl (none_below n xs (All-tail (λ y. n ≤ key y) x xs all))
    where
      go : (t : Bool) → nat_lt (key x) n ≡ t → map (λ y. make (key y)) (filter (λ y. nat_lt (key y) n) xs) ≡ [] → map (λ y. make (key y)) (cond t (x ∷ filter (λ y. nat_lt (key y) n) xs) (filter (λ y. nat_lt (key y) n) xs)) ≡ []
      go true e others = absurd (let less : key x < n = ltb-true (key x) n e in let most : n ≤ key x = All-head (λ y. n ≤ key y) x xs all in omega (arith, less, most))
      go false e others = others

  -- what holds of all numbers holds of one that is there
  pub all_any : (P : ℕ → Type 0) (n : ℕ) (xs : List X) → All (λ x. P (key x)) xs → list_any (λ x. key x == n) xs ≡ true → P n
  all_any P n [] all there = absurd (false≢true there)
  all_any P n (x ∷ xs) all there = go (key x == n) refl there (all_any P n xs (All-tail (λ y. P (key y)) x xs all))
    where
      go : (t : Bool) → (key x == n) ≡ t → (t || list_any (λ y. key y == n) xs) ≡ true → (list_any (λ y. key y == n) xs ≡ true → P n) → P n
      go true e there others = subst P (eqb-true (key x) n e) (All-head (λ y. P (key y)) x xs all)
      go false e there others = others there

  -- the first that isn't below a number comes next
  pub one_more : (next id : ℕ) (xs : List X) → AllPairs (λ a b. key a < key b) xs → list_any (λ x. key x == id) xs ≡ true → next ≤ id → All (λ x. next ≤ key x → id ≤ key x) xs
      → map (λ x. make (key x)) (filter (λ x. nat_lt (key x) (id + 1)) xs) ≡ map (λ x. make (key x)) (filter (λ x. nat_lt (key x) next) xs) ++ make id ∷ []
  one_more next id [] rise there from first = absurd (false≢true there)
  one_more next id (x ∷ xs) rise there from first =
      go (nat_lt (key x) next) refl (λ among. one_more next id xs (pairs_tail (λ a b. key a < key b) x xs rise) among from (All-tail (λ y. next ≤ key y → id ≤ key y) x xs first))
    where
      later : All (λ y. key x < key y) xs
      later = pairs_head (λ a b. key a < key b) x xs rise

      seen_first : (t : Bool) → (key x == id) ≡ t → next ≤ key x
          → map (λ y. make (key y)) (cond (nat_lt (key x) (id + 1)) (x ∷ filter (λ y. nat_lt (key y) (id + 1)) xs) (filter (λ y. nat_lt (key y) (id + 1)) xs))
          ≡ map (λ y. make (key y)) (filter (λ y. nat_lt (key y) next) xs) ++ make id ∷ []
      seen_first true e most =
          let same : key x ≡ id = eqb-true (key x) id e in
          ap (λ t. map (λ y. make (key y)) (cond t (x ∷ filter (λ y. nat_lt (key y) (id + 1)) xs) (filter (λ y. nat_lt (key y) (id + 1)) xs))) (lt-ltb (key x) (id + 1) (omega (arith, same)))
          ∙ ap (λ (ys : List Y). make (key x) ∷ ys) (none_below (id + 1) xs (All-weaker (λ y. key x < key y) (λ y. id + 1 ≤ key y) (λ y less. omega (arith, less, same)) xs later))
          ∙ ap (λ n. make n ∷ []) same
          ∙ sym (ap (λ (ys : List Y). ys ++ make id ∷ []) (none_below next xs (All-weaker (λ y. key x < key y) (λ y. next ≤ key y) (λ y less. omega (arith, less, most)) xs later)))
      seen_first false e most =
          let among : list_any (λ y. key y == id) xs ≡ true = ap (λ t. t || list_any (λ y. key y == id) xs) (sym e) ∙ there in
          let above : key x < id = all_any (λ n. key x < n) id xs later among in
          let least : id ≤ key x = All-head (λ y. next ≤ key y → id ≤ key y) x xs first most in
          absurd (omega (arith, above, least))

      go : (t : Bool) → nat_lt (key x) next ≡ t
          → (list_any (λ y. key y == id) xs ≡ true → map (λ y. make (key y)) (filter (λ y. nat_lt (key y) (id + 1)) xs) ≡ map (λ y. make (key y)) (filter (λ y. nat_lt (key y) next) xs) ++ make id ∷ [])
          → map (λ y. make (key y)) (cond (nat_lt (key x) (id + 1)) (x ∷ filter (λ y. nat_lt (key y) (id + 1)) xs) (filter (λ y. nat_lt (key y) (id + 1)) xs))
          ≡ map (λ y. make (key y)) (cond (nat_lt (key x) next) (x ∷ filter (λ y. nat_lt (key y) next) xs) (filter (λ y. nat_lt (key y) next) xs)) ++ make id ∷ []
      go true e further =
          let less : key x < next = ltb-true (key x) next e in
          let other : (key x == id) ≡ false = ne_eqb (key x) id (λ same. omega (arith, less, from, same)) in
          ap (λ t. map (λ y. make (key y)) (cond t (x ∷ filter (λ y. nat_lt (key y) (id + 1)) xs) (filter (λ y. nat_lt (key y) (id + 1)) xs))) (lt-ltb (key x) (id + 1) (omega (arith, less, from)))
          ∙ ap (λ (ys : List Y). make (key x) ∷ ys)
          (further (ap (λ t. t || list_any (λ y. key y == id) xs) (sym other) ∙ there))
          ∙ sym (ap (λ t. map (λ y. make (key y)) (cond t (x ∷ filter (λ y. nat_lt (key y) next) xs) (filter (λ y. nat_lt (key y) next) xs)) ++ make id ∷ []) e)
      go false e further =
          seen_first (key x == id) refl (ltb-false (key x) next e)
          ∙ sym (ap (λ t. map (λ y. make (key y)) (cond t (x ∷ filter (λ y. nat_lt (key y) next) xs) (filter (λ y. nat_lt (key y) next) xs)) ++ make id ∷ []) e)

-- what was seen of objects by rising ids has rising ids
pub rise_seen : {X : Type 0} (key : X → ℕ) (make : ℕ → Seen) (own : (n : ℕ) → (make n).id ≡ n) (xs : List X) → AllPairs (λ a b. key a < key b) xs → Rise (map (λ x. make (key x)) xs)
rise_seen key make own [] rise i j d less within = absurd (omega (arith, within))
rise_seen key make own (x ∷ xs) rise i j d less within =
    let inside : j < length (x ∷ xs) = omega (arith, within, length-map (x ∷ xs) (λ y. make (key y))) in
    let first : (get_or (map (λ y. make (key y)) (x ∷ xs)) i d).id ≡ key (get_or (x ∷ xs) i x) = ap (λ (y : Seen). y.id) (get_or-map (λ y. make (key y)) (x ∷ xs) i x d (omega (arith, less, inside))) ∙ own (key (get_or (x ∷ xs) i x)) in
    let second : (get_or (map (λ y. make (key y)) (x ∷ xs)) j d).id ≡ key (get_or (x ∷ xs) j x) = ap (λ (y : Seen). y.id) (get_or-map (λ y. make (key y)) (x ∷ xs) j x d inside) ∙ own (key (get_or (x ∷ xs) j x)) in
    let more : key (get_or (x ∷ xs) i x) < key (get_or (x ∷ xs) j x) = rise i j x less inside in
    omega (arith, first, second, more)

found_passes : (test : Row → Bool) (rows : List Row) (r : Row) → Some r ≡ find test rows → test r ≡ true
found_passes test [] r found = cc
found_passes test (x ∷ rows) r found = go (test x) refl found (found_passes test rows r)
  where
    go : (t : Bool) → test x ≡ t → Some r ≡ cond t (Some x) (find test rows) → (Some r ≡ find test rows → test r ≡ true) → test r ≡ true
    go true e found others = let same : r ≡ x = cc in ap test same ∙ e
    go false e found others = others found

-- the row that names an object, put together anew
pub row_anew : (rows : List Row) (id stamp : ℕ) (name : List ℕ) (r : Row) → Some r ≡ find (λ x. x.object == id) rows → stamp ≡ r.stamp → name ≡ r.name
    → Some (record { stamp = stamp; directory = r.directory; name = name; object = id }) ≡ find (λ x. x.object == id) rows
row_anew rows id stamp name r found is_stamp is_name =
    let its : r.object ≡ id = eqb-true r.object id (found_passes (λ x. x.object == id) rows r found) in
    let make : ℕ → List ℕ → ℕ → Option Row = λ a b c. Some (record { stamp = a; directory = r.directory; name = b; object = c }) in
    ap (λ a. make a name id) is_stamp ∙ ap (λ (b : List ℕ). make r.stamp b id) is_name ∙ ap (λ c. make r.stamp r.name c) (sym its) ∙ found

module _ {K T F I : Type 0} (s : State K T F I) where
  pub processes_more : (n m p q : ℕ) (seen more whole : List SeenProcess) → Some q ≡ process_after s p → m ≡ suc n → more ≡ seen ++ process_seen s q ∷ []
      → seen ++ processes_from m s p ≡ whole → more ++ processes_from n s q ≡ whole
  processes_more n m p q seen more whole found next pushed is =
      ap (λ (ps : List SeenProcess). ps ++ processes_from n s q) pushed ∙ append_assoc seen (process_seen s q ∷ []) (processes_from n s q)
      ∙ ap (λ o. seen ++ option_map_or (λ q. process_seen s q ∷ processes_from n s q) o []) found ∙ ap (λ k. seen ++ processes_from k s p) (sym next) ∙ is

  none_after : (m p : ℕ) → None ≡ process_after s p → processes_from m s p ≡ []
  none_after zero p none = refl
  none_after (suc n) p none = ap (λ o. option_map_or (λ q. process_seen s q ∷ processes_from n s q) o []) (sym none)

  pub processes_end : (m p : ℕ) (seen whole : List SeenProcess) → None ≡ process_after s p → seen ++ processes_from m s p ≡ whole → seen ≡ whole
  processes_end m p seen whole none is = sym (ap (λ (ps : List SeenProcess). seen ++ ps) (none_after m p none) ∙ append-nil seen) ∙ is

  pub processes_spent : (m p : ℕ) (seen whole : List SeenProcess) → m ≡ 0 → seen ++ processes_from m s p ≡ whole → seen ≡ whole
  processes_spent m p seen whole none is = sym (ap (λ k. seen ++ processes_from k s p) none ∙ append-nil seen) ∙ is

  pub handles_more : (n m p order : ℕ) (h : Held) (seen more whole : List Held) → Some h ≡ handle_after s p order → m ≡ suc n → more ≡ seen ++ h ∷ []
      → seen ++ handles_from m s p order ≡ whole → more ++ handles_from n s p h.order ≡ whole
  handles_more n m p order h seen more whole found next pushed is =
      ap (λ (hs : List Held). hs ++ handles_from n s p h.order) pushed ∙ append_assoc seen (h ∷ []) (handles_from n s p h.order)
      ∙ ap (λ o. seen ++ option_map_or (λ h. h ∷ handles_from n s p h.order) o []) found ∙ ap (λ k. seen ++ handles_from k s p order) (sym next) ∙ is

  none_later : (m p order : ℕ) → None ≡ handle_after s p order → handles_from m s p order ≡ []
  none_later zero p order none = refl
  none_later (suc n) p order none = ap (λ o. option_map_or (λ h. h ∷ handles_from n s p h.order) o []) (sym none)

  pub handles_end : (m p order : ℕ) (seen whole : List Held) → None ≡ handle_after s p order → seen ++ handles_from m s p order ≡ whole → seen ≡ whole
  handles_end m p order seen whole none is = sym (ap (λ (hs : List Held). seen ++ hs) (none_later m p order none) ∙ append-nil seen) ∙ is

  pub handles_spent : (m p order : ℕ) (seen whole : List Held) → m ≡ 0 → seen ++ handles_from m s p order ≡ whole → seen ≡ whole
  handles_spent m p order seen whole none is = sym (ap (λ k. seen ++ handles_from k s p order) none ∙ append-nil seen) ∙ is
