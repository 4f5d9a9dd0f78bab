-- Paths that are walked component by component.
use Rattle.std.proofs.Common.{◌≡◌, ◌≢◌, ◌∙◌, ℕ, Bool, List, [], ◌∷◌, ◌++◌, Option, None, Some, length, refl, sym, ap, subst, arith}
use Rattle.std.specs.Option.{option_and_then}
use Rattle.std.proofs.lemmas.List.{append-nil}
use Rattle.std.proofs.lemmas.List.Elements.{All-head, All-tail}
use Rattle.ob_model.specs.declared.state.Row.{Row}
use Rattle.ob_model.specs.Names.{separator, joined, next_component, after_component, IsComponent, IsRest, IsSplit}
use Rattle.ob_model.specs.State.{root_id}
use Rattle.ob_model.proofs.Components.{next_component-joined, after_component-joined, IsSplit-cons, IsSplit-nil}
use Rattle.ob_view.specs.Viewed.{object_among, object_along, IsWalked, IsAbsolute, IsResolved}

-- the path of a split with a component: that, and the others after it
split_whole : (path c : List ℕ) (cs : List (List ℕ)) → IsSplit path (c ∷ cs) [] → path ≡ (separator ∷ c) ++ joined cs
split_whole path c cs split = split.whole ∙ append-nil ((separator ∷ c) ++ joined cs)

joined_bounds : (cs : List (List ℕ)) → IsRest (joined cs)
joined_bounds [] = tt
joined_bounds (c ∷ cs) = refl

-- the first component of a split is the next component of its path, and the others are a split of what follows
split_component : (path c : List ℕ) (cs : List (List ℕ)) → IsSplit path (c ∷ cs) [] → next_component path ≡ c
split_component path c cs split =
    ap next_component (split_whole path c cs split) ∙ next_component-joined c (joined cs) (All-head IsComponent c cs split.each) (joined_bounds cs)

split_after : (path c : List ℕ) (cs : List (List ℕ)) → IsSplit path (c ∷ cs) [] → after_component path ≡ joined cs
split_after path c cs split =
    ap after_component (split_whole path c cs split) ∙ after_component-joined c (joined cs) (All-head IsComponent c cs split.each) (joined_bounds cs)

split_rest : (path c : List ℕ) (cs : List (List ℕ)) → IsSplit path (c ∷ cs) [] → IsSplit (after_component path) cs []
split_rest path c cs split = record {
  each = All-tail IsComponent c cs split.each;
  whole = split_after path c cs split ∙ sym (append-nil (joined cs));
  bounded = tt;
}

-- nothing is split into no component alone
split_empty : (c : List ℕ) (cs : List (List ℕ)) → IsSplit [] (c ∷ cs) [] → ⊥
split_empty c cs split = let e = split.whole in cc

-- with no path left the directory is reached
pub walked_none : (rows : List Row) (directory : ℕ) (path : List ℕ) (fold : Bool) → length path ≡ 0 → IsWalked rows directory path fold (Some directory)
walked_none rows directory (b ∷ path) fold none = absurd (omega (arith, none))
walked_none rows directory [] fold none = record {
  along = λ components split. at components split;
  malformed = λ none. absurd (none [] (IsSplit-nil [] tt));
}
  where
    at : (components : List (List ℕ)) → IsSplit [] components [] → Some directory ≡ object_along rows directory components fold
    at [] split = refl
    at (c ∷ cs) split = absurd (split_empty c cs split)

-- a path that has no components leads nowhere
pub walked_unsplit : (rows : List Row) (directory : ℕ) (path : List ℕ) (fold : Bool) → ((cs : List (List ℕ)) → IsSplit path cs [] → ⊥) → IsWalked rows directory path fold None
walked_unsplit rows directory path fold none = record {
  along = λ components split. absurd (none components split);
  malformed = λ never. refl;
}

-- nor does one that begins with another byte
pub walked_unbegun : (rows : List Row) (directory : ℕ) (path : List ℕ) (byte : ℕ) (text : List ℕ) (fold : Bool) → path ≡ byte ∷ text → byte ≢ separator
    → IsWalked rows directory path fold None
walked_unbegun rows directory path byte text fold begins other = walked_unsplit rows directory path fold none
  where
    none : (cs : List (List ℕ)) → IsSplit path cs [] → ⊥
    none [] split = let e = sym begins ∙ split.whole in cc
    none (c ∷ cs) split = other (let e = sym begins ∙ split.whole in cc)

-- or whose first component is empty
pub walked_empty : (rows : List Row) (directory : ℕ) (path : List ℕ) (byte : ℕ) (text : List ℕ) (fold : Bool) → path ≡ byte ∷ text → byte ≡ separator
    → next_component (separator ∷ text) ≡ [] → IsWalked rows directory path fold None
walked_empty rows directory path byte text fold begins same empty = walked_unsplit rows directory path fold none
  where
    none : (cs : List (List ℕ)) → IsSplit path cs [] → ⊥
    none [] split = let e = sym begins ∙ split.whole in cc
    none (c ∷ cs) split =
        (All-head IsComponent c cs split.each).0
        (sym (split_component path c cs split) ∙ ap next_component (begins ∙ ap (λ b. b ∷ text) same) ∙ empty)

-- a path that begins with a component
pub in_parts : (path : List ℕ) (byte : ℕ) (text name rest : List ℕ) → path ≡ byte ∷ text → byte ≡ separator → text ≡ name ++ rest
    → path ≡ (separator ∷ name) ++ rest
in_parts path byte text name rest begins same parts = cc

-- the first component is the name that the path begins with
first_is : (path name rest c : List ℕ) (cs : List (List ℕ)) → path ≡ (separator ∷ name) ++ rest → IsComponent name → IsRest rest → IsSplit path (c ∷ cs) [] → c ≡ name
first_is path name rest c cs parts component bounded split =
    sym (split_component path c cs split) ∙ ap next_component parts ∙ next_component-joined name rest component bounded

-- a component that finds nothing leads nowhere
pub walked_missed : (rows : List Row) (directory : ℕ) (path name rest : List ℕ) (fold : Bool) → path ≡ (separator ∷ name) ++ rest → IsComponent name → IsRest rest
    → object_among rows directory name fold ≡ None → IsWalked rows directory path fold None
walked_missed rows directory path name rest fold parts component bounded missed = record {
  along = at;
  malformed = λ never. refl;
}
  where
    at : (cs : List (List ℕ)) → IsSplit path cs [] → None ≡ object_along rows directory cs fold
    at [] split = let e = sym parts ∙ split.whole in cc
    at (c ∷ cs) split =
        let same = first_is path name rest c cs parts component bounded split in
        ap (option_and_then (λ object. object_along rows object cs fold)) (sym (ap (λ n. object_among rows directory n fold) same ∙ missed))

-- one that finds an object leads on from there
pub walked_on : (rows : List Row) (directory next : ℕ) (path name rest : List ℕ) (fold : Bool) (object : Option ℕ) → path ≡ (separator ∷ name) ++ rest → IsComponent name → IsRest rest
    → object_among rows directory name fold ≡ Some next → IsWalked rows next rest fold object → IsWalked rows directory path fold object
walked_on rows directory next path name rest fold object parts component bounded named walked = record {
  along = at;
  malformed = λ none. walked.malformed (λ cs split. none (name ∷ cs) (subst (λ t. IsSplit t (name ∷ cs) []) (sym parts) (IsSplit-cons name [] cs rest component split)));
}
  where
    at : (cs : List (List ℕ)) → IsSplit path cs [] → object ≡ object_along rows directory cs fold
    at [] split = let e = sym parts ∙ split.whole in cc
    at (c ∷ cs) split =
        let same = first_is path name rest c cs parts component bounded split in
        let after : IsSplit rest cs [] = subst (λ t. IsSplit t cs []) (ap after_component parts ∙ after_component-joined name rest component bounded) (split_rest path c cs split) in
        walked.along cs after ∙ ap (option_and_then (λ o. object_along rows o cs fold)) (sym (ap (λ n. object_among rows directory n fold) same ∙ named))

-- an empty path isn't absolute
pub resolved_empty : (rows : List Row) (fold : Bool) → IsResolved rows [] fold None
resolved_empty rows fold = record { along = at; malformed = λ never. refl }
  where
    at : (cs : List (List ℕ)) → IsAbsolute [] cs → None ≡ object_along rows root_id cs fold
    at [] e = cc
    at (c ∷ cs) split = absurd (split_empty c cs split)

-- a separator alone is the root
pub resolved_root : (rows : List Row) (fold : Bool) → IsResolved rows (separator ∷ []) fold (Some root_id)
resolved_root rows fold = record { along = at; malformed = λ never. absurd (never [] refl) }
  where
    at : (cs : List (List ℕ)) → IsAbsolute (separator ∷ []) cs → Some root_id ≡ object_along rows root_id cs fold
    at [] e = refl
    at (c ∷ cs) split = absurd ((All-head IsComponent c cs split.each).0 (sym (split_component (separator ∷ []) c cs split)))

-- any other path is walked from the root
pub resolved_walked : (rows : List Row) (path : List ℕ) (fold : Bool) (object : Option ℕ) → path ≢ [] → path ≢ separator ∷ [] → IsWalked rows root_id path fold object
    → IsResolved rows path fold object
resolved_walked rows path fold object some other walked = record {
  along = at;
  malformed = λ never. walked.malformed (none never);
}
  where
    at : (cs : List (List ℕ)) → IsAbsolute path cs → object ≡ object_along rows root_id cs fold
    at [] e = absurd (other e)
    at (c ∷ cs) split = walked.along (c ∷ cs) split

    none : ((cs : List (List ℕ)) → IsAbsolute path cs → ⊥) → (cs : List (List ℕ)) → IsSplit path cs [] → ⊥
    none never [] split = some split.whole
    none never (c ∷ cs) split = never (c ∷ cs) split
