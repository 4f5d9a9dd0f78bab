-- All tables are copied, and all their rows written.
use Rattle.std.proofs.Common.{◌≡◌, ℕ, Bool, true, false, cond, List, [], ◌∷◌, Some, ap, sym, refl, ◌∙◌}
use Rattle.std.specs.List.{AllZip}
use Rattle.std.specs.BTreeMap.{is_at}
use Rattle.std.specs.Map.{lookup}
use Rattle.std.specs.Map.Calls.{RetainsPairs}
use Rattle.std.specs.Option.{option_map_or}
use Rattle.std.specs.Ordering.{nat_cmp}
use Rattle.smallvec.specs.SmallVec.{SmallVec}
use Rattle.indexmap.specs.IndexMap.{IndexMap}
use Rattle.ob_requests.specs.Tables.{number_or, numbers_among}

abbrev Numbers : Type 0 → Type 0 → Type 0
Numbers S N = IndexMap (SmallVec ℕ) N S

module _ {S N : Type 0} (none : N) where
  -- for the variables of cloned tables the same is kept
  pub cloned_tables : (C : ℕ → ℕ → Type 0) (D : (Numbers S N) → (Numbers S N) → Type 0) → ((x y : ℕ) → C x y → x ≡ y) → ((x y : (Numbers S N)) → D x y → number_or none y ≡ number_or none x)
      → (es fs : List (ℕ × (Numbers S N))) → AllZip (λ p q. C p.0 q.0 × D p.1 q.1) es fs → (p : ℕ) (w : List ℕ) → numbers_among none fs p w ≡ numbers_among none es p w
  cloned_tables C D keys tables [] [] a p w = refl
  cloned_tables C D keys tables [] (f ∷ fs) a p w = absurd a
  cloned_tables C D keys tables (e ∷ es) [] a p w = absurd a
  cloned_tables C D keys tables (e ∷ es) (f ∷ fs) ((c, d), a) p w =
      rw (← keys e.0 f.0 c) (go (is_at (nat_cmp p) e.0) (cloned_tables C D keys tables es fs a p w))
    where
      go : (b : Bool) → numbers_among none fs p w ≡ numbers_among none es p w
          → option_map_or (λ (t : (Numbers S N)). number_or none t w) (cond b (Some f.1) (lookup (is_at (nat_cmp p)) fs)) none ≡ option_map_or (λ (t : (Numbers S N)). number_or none t w) (cond b (Some e.1) (lookup (is_at (nat_cmp p)) es)) none
      go true later = ap (λ n. n w) (tables e.1 f.1 d)
      go false later = later

  -- all stay and are written by a closure, which makes of each row what this says
  pub all_written : {F : Type 0} (T : F → ℕ → (Numbers S N) → Bool → (Numbers S N) → F → Type 0) (change : N → N) → change none ≡ none
      → ((f : F) (k : ℕ) (v : (Numbers S N)) (b : Bool) (u : (Numbers S N)) (f' : F) → T f k v b u f' → (b ≡ true) × ((w : List ℕ) → number_or none u w ≡ change (number_or none v w)))
      → (f : F) (es kept : List (ℕ × (Numbers S N))) → RetainsPairs T f es kept → (p : ℕ) (w : List ℕ) → numbers_among none kept p w ≡ change (numbers_among none es p w)
  all_written T change at_none says f [] kept is p w = ap (λ es. numbers_among none es p w) is ∙ sym at_none
  all_written T change at_none says f (e ∷ es) kept (b, u, f', rest, called, others, is) p w =
      let told = says f e.0 e.1 b u f' called in
      ap (λ es. numbers_among none es p w) (is ∙ ap (λ (b : Bool). cond b ((e.0, u) ∷ rest) rest) told.0)
      ∙ go (is_at (nat_cmp p) e.0) (told.1 w) (all_written T change at_none says f' es rest others p w)
    where
      go : (b : Bool) → number_or none u w ≡ change (number_or none e.1 w) → numbers_among none rest p w ≡ change (numbers_among none es p w)
          → option_map_or (λ (t : (Numbers S N)). number_or none t w) (cond b (Some u) (lookup (is_at (nat_cmp p)) rest)) none
          ≡ change (option_map_or (λ (t : (Numbers S N)). number_or none t w) (cond b (Some e.1) (lookup (is_at (nat_cmp p)) es)) none)
      go true here later = here
      go false here later = later
