-- One table of several is written, and what that makes of the variables.
use Rattle.std.proofs.Common.{◌≡◌, ℕ, ◌==◌, Bool, true, false, cond, List, [], ◌∷◌, Option, Some, None, MatchOption, sym, ap, subst, ◌∙◌, refl, eqb-true, arith}
use Rattle.std.specs.BTreeMap.{is_at}
use Rattle.std.specs.Map.{lookup, set_value}
use Rattle.std.specs.Option.{option_map_or}
use Rattle.std.specs.Ordering.{nat_cmp}
use Rattle.std.specs.Str.{bytes_eq}
use Rattle.smallvec.specs.SmallVec.{SmallVec}
use Rattle.std.proofs.lemmas.Bool.{eq-eqb}
use Rattle.indexmap.specs.IndexMap.{IndexMap}
use Rattle.ob_model.proofs.Ids.{is_at-id}
use Rattle.ob_requests.specs.Variables.{Variables, with_number, with_own, with_number_of, with_process, with_variable, with_variables, with_context, with_ticket}
use Rattle.ob_requests.specs.declared.variable.Variable.{Variable}
use Rattle.ob_requests.specs.declared.variable.Write.TheVariants as write
use Rattle.ob_requests.specs.Rows.{written}
use Rattle.ob_requests.specs.Tables.{has_variable, number_or, numbers_among, table_at}
use Rattle.ob_requests.proofs.Tables.{same_bytes}

-- what is found where one entry was written
found_written : {X : Type 0} (p q : ℕ) (es : List (ℕ × X)) (x y : X) → lookup (is_at (nat_cmp p)) es ≡ Some x
    → lookup (is_at (nat_cmp q)) (set_value (is_at (nat_cmp p)) es y) ≡ cond (p == q) (Some y) (lookup (is_at (nat_cmp q)) es)
found_written {X} p q [] x y found = cc
found_written {X} p q (e ∷ es) x y found =
    go (e.0 == p) (e.0 == q) refl refl (is_at-id p e.0) (is_at-id q e.0) found (found_written p q es x y)
  where
    same : (a b c : ℕ) → (a == b) ≡ true → (a == c) ≡ true → (b == c) ≡ true
    same a b c h k = eq-eqb b c (sym (eqb-true a b h) ∙ eqb-true a c k)

    apart : (a b c : ℕ) → (a == b) ≡ true → (a == c) ≡ false → (b == c) ≡ false
    apart a b c h k = ap (λ (n : ℕ). n == c) (sym (eqb-true a b h)) ∙ k

    go : (s t : Bool) → (e.0 == p) ≡ s → (e.0 == q) ≡ t → is_at (nat_cmp p) e.0 ≡ (e.0 == p) → is_at (nat_cmp q) e.0 ≡ (e.0 == q)
        → cond (is_at (nat_cmp p) e.0) (Some e.1) (lookup (is_at (nat_cmp p)) es) ≡ Some x
        → (lookup (is_at (nat_cmp p)) es ≡ Some x → lookup (is_at (nat_cmp q)) (set_value (is_at (nat_cmp p)) es y) ≡ cond (p == q) (Some y) (lookup (is_at (nat_cmp q)) es))
        → lookup (is_at (nat_cmp q)) (cond (is_at (nat_cmp p) e.0) ((e.0, y) ∷ es) (e ∷ set_value (is_at (nat_cmp p)) es y))
        ≡ cond (p == q) (Some y) (cond (is_at (nat_cmp q) e.0) (Some e.1) (lookup (is_at (nat_cmp q)) es))
    go true true h k u v f later = rw (u, h, v, k, same e.0 p q h k) refl
    go true false h k u v f later = rw (u, h, v, k, apart e.0 p q h k) refl
    go false true h k u v f later =
        let other : (p == q) ≡ false = turned p q (apart e.0 q p k h) in rw (u, h, v, k, other) refl
      where
        turned : (a b : ℕ) → (b == a) ≡ false → (a == b) ≡ false
        turned a b e = grind (arith, e)
    go false false h k u v f later =
        let f' : lookup (is_at (nat_cmp p)) es ≡ Some x = ap (λ (b : Bool). cond b (Some e.1) (lookup (is_at (nat_cmp p)) es)) (sym (u ∙ h)) ∙ f in
        rw (u, h, v, k) (later f')

module _ {S N : Type 0} (none : N) (tables : List (ℕ × IndexMap (SmallVec ℕ) N S)) (p : ℕ) (t t' : IndexMap (SmallVec ℕ) N S) (found : table_at tables p ≡ Some t) where
  -- the numbers where one table was written
  numbers_written : (numbers : List ℕ → N) → number_or none t' ≡ numbers
      → numbers_among none (set_value (is_at (nat_cmp p)) tables t') ≡ with_own (numbers_among none tables) p numbers
  numbers_written numbers same = λ i q w. one q w i
    where
      one : (q : ℕ) (w : List ℕ) → numbers_among none (set_value (is_at (nat_cmp p)) tables t') q w ≡ cond (p == q) numbers (numbers_among none tables q) w
      one q w = ap (λ (o : Option (IndexMap (SmallVec ℕ) N S)). option_map_or (λ table. number_or none table w) o none) (found_written p q tables t t' found) ∙ go (p == q)
        where
          go : (b : Bool) → option_map_or (λ table. number_or none table w) (cond b (Some t') (table_at tables q)) none ≡ cond b numbers (numbers_among none tables q) w
          go true = ap (λ (f : List ℕ → N). f w) same
          go false = refl

  -- the numbers of a table that was found
  numbers_at : number_or none t ≡ numbers_among none tables p
  numbers_at = λ i w. ap (λ (o : Option (IndexMap (SmallVec ℕ) N S)). option_map_or (λ table. number_or none table w) o none) (sym found) i

  -- one variable was set in a table
  pub variable_written : (new : List (ℕ × IndexMap (SmallVec ℕ) N S)) (variable : List ℕ) (number : N) → new ≡ set_value (is_at (nat_cmp p)) tables t'
      → number_or none t' ≡ with_number (number_or none t) variable number → numbers_among none new ≡ with_number_of (numbers_among none tables) p variable number
  variable_written new variable number wrote set =
      ap (λ es. numbers_among none es) wrote
      ∙ numbers_written (with_number (numbers_among none tables p) variable number) (set ∙ ap (λ (f : List ℕ → N). with_number f variable number) numbers_at)

  -- a table was written
  pub table_written : (new : List (ℕ × IndexMap (SmallVec ℕ) N S)) (numbers : List ℕ → N) → new ≡ set_value (is_at (nat_cmp p)) tables t' → number_or none t' ≡ numbers
      → numbers_among none new ≡ with_own (numbers_among none tables) p numbers
  table_written new numbers wrote same = ap (λ es. numbers_among none es) wrote ∙ numbers_written numbers same

  -- what a table that was found keeps for a variable
  pub number_at : (w : List ℕ) → number_or none t w ≡ numbers_among none tables p w
  number_at w = ap (λ (f : List ℕ → N). f w) numbers_at

  -- the room of all tables stays, where it does in one
  pub room_kept : (new : List (ℕ × IndexMap (SmallVec ℕ) N S)) → new ≡ set_value (is_at (nat_cmp p)) tables t' → ((w : List ℕ) → has_variable t w ≡ true → has_variable t' w ≡ true)
      → (q : ℕ) (w : List ℕ) → MatchOption (table_at tables q) ⊥ (λ table. has_variable table w ≡ true) → MatchOption (table_at new q) ⊥ (λ table. has_variable table w ≡ true)
  room_kept new wrote stays q w room =
      subst (λ (o : Option (IndexMap (SmallVec ℕ) N S)). MatchOption o ⊥ (λ table. has_variable table w ≡ true))
      (sym (ap (λ es. table_at es q) wrote ∙ found_written p q tables t t' found)) (go (p == q) refl)
    where
      go : (b : Bool) → (p == q) ≡ b → MatchOption (cond b (Some t') (table_at tables q)) ⊥ (λ table. has_variable table w ≡ true)
      go true e =
          stays w (subst (λ (o : Option (IndexMap (SmallVec ℕ) N S)). MatchOption o ⊥ (λ table. has_variable table w ≡ true))
          (ap (table_at tables) (sym (eqb-true p q e)) ∙ found) room)
      go false e = room

  -- all variables of a table kept their numbers
  pub variables_same : (new : List (ℕ × IndexMap (SmallVec ℕ) N S)) → new ≡ set_value (is_at (nat_cmp p)) tables t' → number_or none t' ≡ number_or none t
      → numbers_among none new ≡ numbers_among none tables
  variables_same new wrote same =
      ap (λ es. numbers_among none es) wrote ∙ (numbers_written (numbers_among none tables p) (same ∙ numbers_at) ∙ back)
    where
      back : (λ q. cond (p == q) (numbers_among none tables p) (numbers_among none tables q)) ≡ numbers_among none tables
      back = λ i q. one q i
        where
          one : (q : ℕ) → cond (p == q) (numbers_among none tables p) (numbers_among none tables q) ≡ numbers_among none tables q
          one q = go (p == q) refl
            where
              go : (b : Bool) → (p == q) ≡ b → cond b (numbers_among none tables p) (numbers_among none tables q) ≡ numbers_among none tables q
              go true e = ap (numbers_among none tables) (eqb-true p q e)
              go false e = refl

-- a variable of a process without a table
module _ {S N : Type 0} (none : N) (tables : List (ℕ × IndexMap (SmallVec ℕ) N S)) (p : ℕ) (missing : table_at tables p ≡ None) where
  pub none_at : (w : List ℕ) → numbers_among none tables p w ≡ none
  none_at w = ap (λ (o : Option (IndexMap (SmallVec ℕ) N S)). option_map_or (λ table. number_or none table w) o none) missing

  -- nothing changes where what was kept is written again for all of them
  pub own_again : (own : List ℕ → N) → ((w : List ℕ) → own w ≡ none) → numbers_among none tables ≡ with_own (numbers_among none tables) p own
  own_again own same = λ i q w. one q w i
    where
      one : (q : ℕ) (w : List ℕ) → numbers_among none tables q w ≡ with_own (numbers_among none tables) p own q w
      one q w = go (p == q) refl
        where
          go : (b : Bool) → (p == q) ≡ b → numbers_among none tables q w ≡ cond {A = List ℕ → N} b own (numbers_among none tables q) w
          go true e = ap (λ (k : ℕ). numbers_among none tables k w) (sym (eqb-true p q e)) ∙ (none_at w ∙ sym (same w))
          go false e = refl

  pub variable_again : (variable : List ℕ) (number : N) → number ≡ none → numbers_among none tables ≡ with_number_of (numbers_among none tables) p variable number
  variable_again variable number same = own_again (with_number (numbers_among none tables p) variable number) (λ w. go w (bytes_eq variable w))
    where
      go : (w : List ℕ) (b : Bool) → cond b number (numbers_among none tables p w) ≡ none
      go w true = same
      go w false = none_at w

-- a number of what is kept, where one row was written, or those of a process were
module _ (f : Variable → ℕ) (rows : ℕ → List ℕ → Variable) (key : ℕ) where
  at_variable : (b : Bool) (r s : Variable) → f (cond b r s) ≡ cond b (f r) (f s)
  at_variable true r s = refl
  at_variable false r s = refl

  at_process : (b : Bool) (r s : List ℕ → Variable) (w : List ℕ) → f (cond {A = List ℕ → Variable} b r s w) ≡ cond {A = List ℕ → ℕ} b (λ v. f (r v)) (λ v. f (s v)) w
  at_process true r s w = refl
  at_process false r s w = refl

  -- the number of each row
  abbrev each : (ℕ → List ℕ → Variable) → ℕ → List ℕ → ℕ
  each some q w = f (some q w)

  variable_set : (variable : List ℕ) (row : Variable) → each (with_number_of rows key variable row) ≡ with_number_of (each rows) key variable (f row)
  variable_set variable row = λ i q w. one q w i
    where
      one : (q : ℕ) (w : List ℕ) → f (with_number_of rows key variable row q w) ≡ with_number_of (each rows) key variable (f row) q w
      one q w =
          at_process (key == q) (with_number (rows key) variable row) (rows q) w
          ∙ ap (λ (g : List ℕ → ℕ). cond {A = List ℕ → ℕ} (key == q) g (λ v. f (rows q v)) w) (λ i v. at_variable (bytes_eq variable v) row (rows key v) i)

  variable_same : (variable : List ℕ) (row : Variable) → f row ≡ f (rows key variable) → each (with_number_of rows key variable row) ≡ each rows
  variable_same variable row same = λ i q w. one q w i
    where
      one : (q : ℕ) (w : List ℕ) → f (with_number_of rows key variable row q w) ≡ f (rows q w)
      one q w = go (key == q) refl
        where
          here : key ≡ q → (b : Bool) → bytes_eq variable w ≡ b → f (cond b row (rows key w)) ≡ f (rows q w)
          here e true h = same ∙ (ap (λ (v : List ℕ). f (rows key v)) (same_bytes variable w h) ∙ ap (λ (k : ℕ). f (rows k w)) e)
          here e false h = ap (λ (k : ℕ). f (rows k w)) e

          go : (b : Bool) → (key == q) ≡ b → f (cond {A = List ℕ → Variable} b (with_number (rows key) variable row) (rows q) w) ≡ f (rows q w)
          go true e = here (eqb-true key q e) (bytes_eq variable w) refl
          go false e = refl

  own_set : (own : List ℕ → Variable) → each (with_own rows key own) ≡ with_own (each rows) key (λ w. f (own w))
  own_set own = λ i q w. at_process (key == q) own (rows q) w i

  own_same : (own : List ℕ → Variable) → ((w : List ℕ) → f (own w) ≡ f (rows key w)) → each (with_own rows key own) ≡ each rows
  own_same own same = λ i q w. one q w i
    where
      one : (q : ℕ) (w : List ℕ) → f (with_own rows key own q w) ≡ f (rows q w)
      one q w = go (key == q) refl
        where
          go : (b : Bool) → (key == q) ≡ b → f (cond {A = List ℕ → Variable} b own (rows q) w) ≡ f (rows q w)
          go true e = same w ∙ ap (λ (k : ℕ). f (rows k w)) (eqb-true key q e)
          go false e = refl

-- the variables of what is kept
abbrev kept : (List ℕ → ℕ) → (ℕ → List ℕ → Variable) → Variables
kept processes rows = record {
  processes = processes;
  values = λ process variable. (rows process variable).value;
  contexts = λ process variable. (rows process variable).context;
  tickets = λ process variable. (rows process variable).ticket;
}

-- what a change of the tables makes of the variables; a process goes by its number
module _ (processes : List ℕ → ℕ) (rows new : ℕ → List ℕ → Variable) where
  pub rows_same : new ≡ rows → kept processes new ≡ kept processes rows
  rows_same same = ap (kept processes) same

  module _ (key p : ℕ) (is : key ≡ p) where
    module _ (variable : List ℕ) where
      -- one row was written: the variables whose numbers are told for it, each as set or as the same
      row_set : (row : Variable) (values contexts tickets : ℕ → List ℕ → ℕ)
          → (λ q w. (with_number_of rows key variable row q w).value) ≡ values → (λ q w. (with_number_of rows key variable row q w).context) ≡ contexts
          → (λ q w. (with_number_of rows key variable row q w).ticket) ≡ tickets → new ≡ with_number_of rows key variable row
          → kept processes new ≡ record { processes = processes; values = values; contexts = contexts; tickets = tickets }
      row_set row values contexts tickets value context ticket set =
          ap (kept processes) set ∙ (λ i. record { processes = processes; values = value i; contexts = context i; tickets = ticket i })

      is_set : (f : Variable → ℕ) (row : Variable) → each f rows key (with_number_of rows key variable row) ≡ with_number_of (each f rows key rows) key variable (f row)
      is_set f row = variable_set f rows key variable row

      is_same : (f : Variable → ℕ) (row : Variable) → f row ≡ f (rows key variable) → each f rows key (with_number_of rows key variable row) ≡ each f rows key rows
      is_same f row same = variable_same f rows key variable row same

      module _ (number : ℕ) where
        pub value_set : new ≡ with_number_of rows key variable (written (rows key variable) (write.Value number)) → kept processes new ≡ with_variable (kept processes rows) p variable number
        value_set set =
            row_set _ _ _ _ (is_set (λ r. r.value) _) (is_set (λ r. r.context) _) (is_same (λ r. r.ticket) _ refl) set
            ∙ ap (λ (k : ℕ). with_variable (kept processes rows) k variable number) is

        pub context_set : new ≡ with_number_of rows key variable (written (rows key variable) (write.Context number)) → kept processes new ≡ with_context (kept processes rows) p variable number
        context_set set =
            row_set _ _ _ _ (is_same (λ r. r.value) _ refl) (is_set (λ r. r.context) _) (is_same (λ r. r.ticket) _ refl) set
            ∙ ap (λ (k : ℕ). with_context (kept processes rows) k variable number) is

        pub ticket_set : new ≡ with_number_of rows key variable (written (rows key variable) (write.Ticket number)) → kept processes new ≡ with_ticket (kept processes rows) p variable number
        ticket_set set =
            row_set _ _ _ _ (is_same (λ r. r.value) _ refl) (is_same (λ r. r.context) _ refl) (is_set (λ r. r.ticket) _) set
            ∙ ap (λ (k : ℕ). with_ticket (kept processes rows) k variable number) is

    pub variables_set : (own : List ℕ → Variable) → ((w : List ℕ) → ((own w).context ≡ 0) × ((own w).ticket ≡ (rows p w).ticket)) → new ≡ with_own rows key own
        → kept processes new ≡ with_variables (kept processes rows) p (λ w. (own w).value)
    variables_set own begins set = ap (kept processes) set ∙ (whole ∙ ap (λ (k : ℕ). with_variables (kept processes rows) k (λ w. (own w).value)) is)
      where
        whole : kept processes (with_own rows key own) ≡ with_variables (kept processes rows) key (λ w. (own w).value)
        whole = λ i. record {
          processes = processes;
          values = own_set (λ (r : Variable). r.value) rows key own i;
          contexts = (own_set (λ (r : Variable). r.context) rows key own ∙ ap (λ (g : List ℕ → ℕ). with_own (λ q w. (rows q w).context) key g) (λ j w. (begins w).0 j)) i;
          tickets = own_same (λ (r : Variable). r.ticket) rows key own (λ w. (begins w).1 ∙ ap (λ (k : ℕ). (rows k w).ticket) (sym is)) i;
        }

-- a process variable was set
pub process_set : (processes : List ℕ → ℕ) (rows : ℕ → List ℕ → Variable) (new : List ℕ → ℕ) (variable : List ℕ) (number p : ℕ) → number ≡ p
    → new ≡ with_number processes variable number → kept new rows ≡ with_process (kept processes rows) variable p
process_set processes rows new variable number p is set =
    ap (λ (x : List ℕ → ℕ). kept x rows) set ∙ ap (with_process (kept processes rows) variable) is
