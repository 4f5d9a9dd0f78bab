-- What settling leaves as it is, and that what it leaves is settled.
use Rattle.std.proofs.Common.{◌≡◌, ℕ, ◌==◌, Bool, true, false, ◌&&◌, ◌||◌, not, List, [], get_or, filter, All, Option, option_map, is_some, refl, sym, ap, ◌∙◌, subst, eqb-true, eq-eqb}
use Rattle.std.specs.Option.{option_map_or}
use Rattle.std.proofs.lemmas.Bool.{and_from, or_right, not_from_true}
use Rattle.std.proofs.lemmas.List.Elements.{filter_passes}
use Rattle.std.proofs.lemmas.List.Folds.{list_any_at}
use Rattle.std.proofs.lemmas.Map.Views.{any-filter_same}
use Rattle.ob_model.specs.declared.state.Object.{Object}
use Rattle.ob_model.specs.declared.state.Row.{Row}
use Rattle.ob_model.specs.State.{State, root_id, object_of, is_directory, is_directory_body}
use Rattle.ob_model.specs.Procedures.{Procedures}
use Rattle.ob_model.specs.Settle.{is_permanent, has_handle, is_kept, has_name, is_pinned, is_mapped, holds_kept, is_alive_itself, has_shadow, is_shadowing, is_alive, deleted_all, settle}
use Rattle.ob_model.specs.Sound.{Stands}
use Rattle.ob_model.proofs.Finds.{find-filter, filter_all, filter_none, All-kept, list_any_weaker}

-- the tests of being alive, one after another
alive_second : (a b c d e f : Bool) → b ≡ true → (a || b || c || d || e || f) ≡ true
alive_second true b c d e f h = refl
alive_second false true c d e f h = refl
alive_second false false c d e f h = cc

alive_third : (a b c d e f : Bool) → c ≡ true → (a || b || c || d || e || f) ≡ true
alive_third true b c d e f h = refl
alive_third false true c d e f h = refl
alive_third false false true d e f h = refl
alive_third false false false d e f h = cc

alive_fourth : (a b c d e f : Bool) → d ≡ true → (a || b || c || d || e || f) ≡ true
alive_fourth true b c d e f h = refl
alive_fourth false true c d e f h = refl
alive_fourth false false true d e f h = refl
alive_fourth false false false true e f h = refl
alive_fourth false false false false e f h = cc

alive_fifth : (a b c d e f : Bool) → e ≡ true → (a || b || c || d || e || f) ≡ true
alive_fifth true b c d e f h = refl
alive_fifth false true c d e f h = refl
alive_fifth false false true d e f h = refl
alive_fifth false false false true e f h = refl
alive_fifth false false false false true f h = refl
alive_fifth false false false false false f h = cc

alive_sixth : (a b c d e f : Bool) → f ≡ true → (a || b || c || d || e || f) ≡ true
alive_sixth true b c d e f h = refl
alive_sixth false true c d e f h = refl
alive_sixth false false true d e f h = refl
alive_sixth false false false true e f h = refl
alive_sixth false false false false true f h = refl
alive_sixth false false false false false f h = h

-- two states agree on these tests, but for the last two, which pass where they passed before
alive_again : (a b c d e f e' f' : Bool) → (e ≡ true → e' ≡ true) → (f ≡ true → f' ≡ true) → (a || b || c || d || e || f) ≡ true → (a || b || c || d || e' || f') ≡ true
alive_again true b c d e f e' f' fifth sixth h = refl
alive_again false true c d e f e' f' fifth sixth h = refl
alive_again false false true d e f e' f' fifth sixth h = refl
alive_again false false false true e f e' f' fifth sixth h = refl
alive_again false false false false true f e' f' fifth sixth h = rw (fifth refl) refl
alive_again false false false false false f true f' fifth sixth h = refl
alive_again false false false false false f false f' fifth sixth h = sixth h

-- a kept row's object has a handle, or is permanent
kept_again : (a b a' : Bool) → (a ≡ true → a' ≡ true) → (a || b) ≡ true → (a' || b) ≡ true
kept_again true b a' first h = rw (first refl) refl
kept_again false b true first h = refl
kept_again false b false first h = h

both : (a b : Bool) → (a && b) ≡ true → (a ≡ true) × (b ≡ true)
both true b h = (refl, h)
both false b h = cc

-- one of two tests passes where one of two others did
either_again : (a b a' b' : Bool) → (a ≡ true → a' ≡ true) → (b ≡ true → b' ≡ true) → (a || b) ≡ true → (a' || b') ≡ true
either_again true b a' b' first second h = rw (first refl) refl
either_again false b true b' first second h = refl
either_again false b false b' first second h = second h

module _ {K T F I : Type 0} where
  -- what stays by itself is alive, and so is the shadow of a directory that does
  pub alive_from_itself : (s : State K T F I) (o : ℕ) → is_alive_itself s o ≡ true → is_alive s o ≡ true
  alive_from_itself s o h = ap (λ b. b || is_shadowing s o) h

  pub alive_from_shadow : (s : State K T F I) (o : ℕ) → is_shadowing s o ≡ true → is_alive s o ≡ true
  alive_from_shadow s o h = or_right (is_alive_itself s o) (is_shadowing s o) h

  -- the root stays by itself
  pub itself_from_root : (s : State K T F I) (o : ℕ) → (o == root_id) ≡ true → is_alive_itself s o ≡ true
  itself_from_root s o h = ap (λ b. b || has_handle s o || is_pinned s o || is_mapped s o || (is_permanent s o && has_name s o) || holds_kept s o) h

  pub alive_from_root : (s : State K T F I) (o : ℕ) → (o == root_id) ≡ true → is_alive s o ≡ true
  alive_from_root s o h = alive_from_itself s o (itself_from_root s o h)

  -- an object with a handle stays by itself
  pub itself_from_handle : (s : State K T F I) (o : ℕ) → has_handle s o ≡ true → is_alive_itself s o ≡ true
  itself_from_handle s o h = alive_second (o == root_id) (has_handle s o) (is_pinned s o) (is_mapped s o) (is_permanent s o && has_name s o) (holds_kept s o) h

  pub alive_from_handle : (s : State K T F I) (o : ℕ) → has_handle s o ≡ true → is_alive s o ≡ true
  alive_from_handle s o h = alive_from_itself s o (itself_from_handle s o h)

  -- an object that a pending open pins is alive
  pub alive_from_pin : (s : State K T F I) (o : ℕ) → is_pinned s o ≡ true → is_alive s o ≡ true
  alive_from_pin s o h = alive_from_itself s o (alive_third (o == root_id) (has_handle s o) (is_pinned s o) (is_mapped s o) (is_permanent s o && has_name s o) (holds_kept s o) h)

  -- a map directory of a live process, or `\GLOBAL??`, is alive
  pub alive_from_map : (s : State K T F I) (o : ℕ) → is_mapped s o ≡ true → is_alive s o ≡ true
  alive_from_map s o h = alive_from_itself s o (alive_fourth (o == root_id) (has_handle s o) (is_pinned s o) (is_mapped s o) (is_permanent s o && has_name s o) (holds_kept s o) h)

  -- a permanent object with a name stays by itself
  pub itself_from_name : (s : State K T F I) (o : ℕ) → is_permanent s o ≡ true → has_name s o ≡ true → is_alive_itself s o ≡ true
  itself_from_name s o permanent named =
      alive_fifth (o == root_id) (has_handle s o) (is_pinned s o) (is_mapped s o) (is_permanent s o && has_name s o) (holds_kept s o)
      (and_from (is_permanent s o) (has_name s o) permanent named)

  pub alive_from_name : (s : State K T F I) (o : ℕ) → is_permanent s o ≡ true → has_name s o ≡ true → is_alive s o ≡ true
  alive_from_name s o permanent named = alive_from_itself s o (itself_from_name s o permanent named)

  -- a directory in which a name stays is alive
  pub alive_from_held_name : (s : State K T F I) (o : ℕ) → holds_kept s o ≡ true → is_alive s o ≡ true
  alive_from_held_name s o h = alive_from_itself s o (alive_sixth (o == root_id) (has_handle s o) (is_pinned s o) (is_mapped s o) (is_permanent s o && has_name s o) (holds_kept s o) h)

  -- as is each row's that stays
  pub rows_are_held : (s : State K T F I) → All (λ r. is_kept s r ≡ true → holds_kept s r.directory ≡ true) s.rows
  rows_are_held s k d within = λ kept.
      let r = get_or s.rows k d in
      list_any_at (λ q. (q.directory == r.directory) && is_kept s q) s.rows k d within (and_from (r.directory == r.directory) (is_kept s r) (eq-eqb r.directory r.directory refl) kept)

  -- each row's object has a name
  pub rows_are_names : (s : State K T F I) → All (λ r. has_name s r.object ≡ true) s.rows
  rows_are_names s k d within = list_any_at (λ r. r.object == (get_or s.rows k d).object) s.rows k d within (eq-eqb (get_or s.rows k d).object (get_or s.rows k d).object refl)

  -- a row that stays names an object that is alive
  pub alive_from_row : (s : State K T F I) (r : Row) → is_kept s r ≡ true → has_name s r.object ≡ true → is_alive s r.object ≡ true
  alive_from_row s r kept named = go (is_permanent s r.object) (has_handle s r.object) refl refl kept
    where
      go : (a b : Bool) → is_permanent s r.object ≡ a → has_handle s r.object ≡ b → (a || b) ≡ true → is_alive s r.object ≡ true
      go true b permanent held h = alive_from_name s r.object permanent named
      go false true permanent held h = alive_from_handle s r.object held
      go false false permanent held h = cc

module _ {K T F I : Type 0} (g : Procedures K T F I) where
  -- an object that is alive stays
  pub object_of-settle : (s : State K T F I) (o : ℕ) → is_alive s o ≡ true → object_of (settle g s) o ≡ object_of s o
  object_of-settle s o alive =
      find-filter (λ x. x.id == o) (λ x. is_alive s x.id) (λ x e. subst (λ (n : ℕ). is_alive s n ≡ true) (sym (eqb-true x.id o e)) alive) s.objects

  -- and is a directory where it was one
  pub is_directory-settle : (s : State K T F I) (o : ℕ) → is_alive s o ≡ true → is_directory (settle g s) o ≡ is_directory s o
  is_directory-settle s o alive = ap (λ (x : Option (Object F I)). option_map_or is_directory_body (option_map (λ y. y.body) x) false) (object_of-settle s o alive)

  -- and still stands where it stood
  pub stands-settle : (s : State K T F I) (o : ℕ) → is_alive s o ≡ true → Stands s o → Stands (settle g s) o
  stands-settle s o alive stands = ap (λ (x : Option (Object F I)). is_some x) (object_of-settle s o alive) ∙ stands

  -- an object that is alive stays permanent
  is_permanent-settle : (s : State K T F I) (o : ℕ) → is_alive s o ≡ true → is_permanent (settle g s) o ≡ is_permanent s o
  is_permanent-settle s o alive = ap (λ (x : Option (Object F I)). option_map_or (λ y. y.permanent) x false) (object_of-settle s o alive)

  -- a row that stays would stay again
  pub kept_twice : (s : State K T F I) → All (λ r. is_kept (settle g s) r ≡ true) (settle g s).rows
  kept_twice s =
      All-kept (is_kept s) (λ r. has_name s r.object ≡ true) (λ r. is_kept (settle g s) r ≡ true)
      (λ r kept named.
      kept_again (is_permanent s r.object) (has_handle s r.object) (is_permanent (settle g s) r.object)
      (λ permanent. is_permanent-settle s r.object (alive_from_row s r kept named) ∙ permanent) kept)
      s.rows (rows_are_names s)

  -- a permanent object's names stay
  has_name-settle : (s : State K T F I) (o : ℕ) → is_permanent s o ≡ true → has_name (settle g s) o ≡ has_name s o
  has_name-settle s o permanent =
      any-filter_same (λ r. r.object == o) (is_kept s) true
      (λ r e. let same : is_permanent s r.object ≡ true = subst (λ (n : ℕ). is_permanent s n ≡ true) (sym (eqb-true r.object o e)) permanent in rw same refl)
      s.rows

  -- a directory in which a name stays still holds it
  holds_kept-settle : (s : State K T F I) (o : ℕ) → holds_kept s o ≡ true → holds_kept (settle g s) o ≡ true
  holds_kept-settle s o holds =
      list_any_weaker (λ r. (r.directory == o) && is_kept s r) (λ r. (r.directory == o) && is_kept (settle g s) r) (settle g s).rows
      (λ k d within e.
      and_from ((get_or (settle g s).rows k d).directory == o) (is_kept (settle g s) (get_or (settle g s).rows k d))
      (both ((get_or (settle g s).rows k d).directory == o) (is_kept s (get_or (settle g s).rows k d)) e).0 (kept_twice s k d within))
      (any-filter_same (λ r. (r.directory == o) && is_kept s r) (is_kept s) true (λ r e. (both (r.directory == o) (is_kept s r) e).1) s.rows ∙ holds)

  -- an object that stays by itself does so again
  itself_twice : (s : State K T F I) (o : ℕ) → is_alive_itself s o ≡ true → is_alive_itself (settle g s) o ≡ true
  itself_twice s o itself =
      alive_again (o == root_id) (has_handle s o) (is_pinned s o) (is_mapped s o) (is_permanent s o && has_name s o) (holds_kept s o)
      (is_permanent (settle g s) o && has_name (settle g s) o) (holds_kept (settle g s) o)
      (λ e.
      let parts = both (is_permanent s o) (has_name s o) e in
      and_from (is_permanent (settle g s) o) (has_name (settle g s) o) (is_permanent-settle s o (alive_from_itself s o itself) ∙ parts.0) (has_name-settle s o parts.0 ∙ parts.1))
      (holds_kept-settle s o) itself

  -- a directory that stays by itself still has its shadow
  shadowing_twice : (s : State K T F I) (o : ℕ) → is_shadowing s o ≡ true → is_shadowing (settle g s) o ≡ true
  shadowing_twice s o some =
      list_any_weaker (λ x. has_shadow o x.body && is_alive_itself s x.id) (λ x. has_shadow o x.body && is_alive_itself (settle g s) x.id) (settle g s).objects
      (λ k d within e.
      let x = get_or (settle g s).objects k d in
      let parts = both (has_shadow o x.body) (is_alive_itself s x.id) e in
      and_from (has_shadow o x.body) (is_alive_itself (settle g s) x.id) parts.0 (itself_twice s x.id parts.1))
      (any-filter_same (λ x. has_shadow o x.body && is_alive_itself s x.id) (λ x. is_alive s x.id) true
      (λ x e. alive_from_itself s x.id (both (has_shadow o x.body) (is_alive_itself s x.id) e).1) s.objects ∙ some)

  -- an object that is alive is alive again
  alive_twice : (s : State K T F I) (o : ℕ) → is_alive s o ≡ true → is_alive (settle g s) o ≡ true
  alive_twice s o alive =
      either_again (is_alive_itself s o) (is_shadowing s o) (is_alive_itself (settle g s) o) (is_shadowing (settle g s) o) (itself_twice s o) (shadowing_twice s o) alive

  pub objects_alive : (s : State K T F I) → All (λ x. is_alive (settle g s) x.id ≡ true) (settle g s).objects
  objects_alive s k d within =
      alive_twice s (get_or (settle g s).objects k d).id (filter_passes (λ x. is_alive s x.id) s.objects k d within)

  -- settling what is settled keeps all objects and rows, and deletes nothing
  objects_twice : (s : State K T F I) → (settle g (settle g s)).objects ≡ (settle g s).objects
  objects_twice s = filter_all (λ x. is_alive (settle g s) x.id) (settle g s).objects (objects_alive s)

  rows_twice : (s : State K T F I) → (settle g (settle g s)).rows ≡ (settle g s).rows
  rows_twice s = filter_all (is_kept (settle g s)) (settle g s).rows (kept_twice s)

  none_dead : (s : State K T F I) → filter (λ x. not (is_alive (settle g s) x.id)) (settle g s).objects ≡ []
  none_dead s =
      filter_none (λ x. not (is_alive (settle g s) x.id)) (settle g s).objects
      (λ k d within. not_from_true (is_alive (settle g s) (get_or (settle g s).objects k d).id) (objects_alive s k d within))

  set_twice : (s : State K T F I) → (settle g (settle g s)).set ≡ (settle g s).set
  set_twice s = ap (λ (xs : List (Object F I)). deleted_all g (settle g s).set xs) (none_dead s)

  -- settling a settled state changes nothing
  pub settle-settle : (s : State K T F I) → settle g (settle g s) ≡ settle g s
  settle-settle s = λ i. record (settle g s) { objects = objects_twice s i; rows = rows_twice s i; set = set_twice s i }
