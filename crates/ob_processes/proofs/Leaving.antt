-- The handles that are left of a process: the first is taken out, and each object of them is listed.
use Rattle.std.proofs.Common.{◌≡◌, ◌≢◌, ◌∙◌, ℕ, suc, ◌==◌, Bool, true, false, not, cond, List, [], ◌∷◌, length, filter, find, get_or, Option, None, Some, All, refl, ap, sym, arith, eq-eqb}
use Rattle.std.proofs.lemmas.Bool.{false≢true, ne_eqb}
use Rattle.std.proofs.lemmas.List.Sums.{length-filter}
use Rattle.std.specs.BTreeMap.{is_at}
use Rattle.std.specs.List.{slice_get, AllPairs}
use Rattle.std.specs.Map.{lookup}
use Rattle.std.specs.Option.{is_some, unwrap_or}
use Rattle.std.specs.Ordering.{nat_cmp}
use Rattle.ob_model.specs.declared.state.Held.{Held}
use Rattle.ob_model.proofs.Finds.{filter_all}
use Rattle.ob_handles.specs.Counts.{Numbers, count_of, is_listed}
use Rattle.ob_handles.specs.Table.{without}
use Rattle.ob_processes.specs.Counts.{Counts}
use Rattle.ob_processes.proofs.Seen.{none_passes}

-- ---- the first

pub none_first : (handles : List Held) → slice_get handles 0 ≡ None → handles ≡ []
none_first [] none = refl
none_first (h ∷ hs) none = cc

pub first_found : (handles : List Held) (h : Held) → slice_get handles 0 ≡ Some h → find (λ k. k.value == h.value) handles ≡ Some h
first_found [] h first = cc
first_found (k ∷ hs) h first =
    let it : k ≡ h = cc in
    ap (λ t. cond t (Some k) (find (λ x. x.value == h.value) hs)) (ap (λ (x : Held). x.value == h.value) it ∙ eq-eqb h.value h.value refl) ∙ ap Some it

pub first_taken : (handles : List Held) (h : Held) → slice_get handles 0 ≡ Some h → AllPairs (λ a b. a.value ≢ b.value) handles → handles ≡ h ∷ without handles h.value
first_taken [] h first apart = cc
first_taken (k ∷ hs) h first apart =
    let it : k ≡ h = cc in
    ap (λ x. x ∷ hs) it
    ∙ ap (λ xs. h ∷ xs) (sym (filter_all (λ x. not (x.value == h.value)) hs
    (λ i d below. ap not (ne_eqb (get_or hs i d).value h.value (λ same. apart 0 (suc i) d (omega arith) (omega (arith, below)) (ap (λ (x : Held). x.value) it ∙ sym same))))))
    ∙ ap (λ t. h ∷ cond (not t) (k ∷ without hs h.value) (without hs h.value)) (sym (ap (λ (x : Held). x.value == h.value) it ∙ eq-eqb h.value h.value refl))

-- ---- what is listed

none_listed : (numbers : Numbers) (object : ℕ) → is_listed numbers object ≡ false → count_of numbers object ≡ 0
none_listed numbers object none = go (lookup (is_at (nat_cmp object)) numbers) none
  where
    go : (o : Option ℕ) → is_some o ≡ false → unwrap_or o 0 ≡ 0
    go None none = refl
    go (Some n) none = cc

empty : {X : Type 0} (xs : List X) → length xs ≡ 0 → xs ≡ []
empty [] none = refl
empty (x ∷ xs) none = absurd (omega (arith, none))

pub all_listed : (handles : List Held) (numbers : Numbers) → Counts numbers handles → All (λ h. is_listed numbers h.object ≡ true) handles
all_listed handles numbers are k d below = go (is_listed numbers h.object) refl
  where
    h : Held
    h = get_or handles k d

    go : (t : Bool) → is_listed numbers h.object ≡ t → is_listed numbers h.object ≡ true
    go true e = e
    go false e =
        let none : filter (λ x. x.object == h.object) handles ≡ [] =
        empty (filter (λ x. x.object == h.object) handles) (length-filter (λ x. x.object == h.object) handles ∙ sym (are h.object) ∙ none_listed numbers h.object e) in
        absurd (false≢true (sym (none_passes (λ x. x.object == h.object) handles none k d below) ∙ eq-eqb h.object h.object refl))
