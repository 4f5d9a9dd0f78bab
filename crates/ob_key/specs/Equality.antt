-- Entries and tables that are found the same are the same.
use Rattle.std.proofs.Common.{◌≡◌, ◌∙◌, ℕ, Bool, true, false, ◌&&◌, List, Option, None, Some, refl, sym, ap}
use Rattle.std.proofs.lemmas.Bool.{and_parts}
use Rattle.std.specs.Cmp.{IsEquivalence, decided}
use Rattle.std.specs.Cmp.Lexicographic.{bytes_decides, lists_equiv, pointwise_decides}
use Rattle.std.specs.Option.{option_eq}
use Rattle.ob_plain.specs.Arguments.{same_path}
use Rattle.ob_key.specs.declared.entry.KeyEntry.{KeyEntry}
use Rattle.ob_key.specs.Entries.{same_entry, same_tables}

same_targets : (a b : Option (List ℕ)) → option_eq same_path a b ≡ true → a ≡ b
same_targets None None e = refl
same_targets None (Some b) e = cc
same_targets (Some a) None e = cc
same_targets (Some a) (Some b) e = ap Some ((bytes_decides a b).0 e)

own_target : (a : Option (List ℕ)) → option_eq same_path a a ≡ true
own_target None = refl
own_target (Some a) = (bytes_decides a a).1 refl

same_entries : (a b : KeyEntry) → same_entry a b ≡ true → a ≡ b
same_entries a b e =
    let same = and_parts (same_path a.path b.path) (option_eq same_path a.target b.target) e in
    let paths : a.path ≡ b.path = (bytes_decides a.path b.path).0 same.0 in
    let targets : a.target ≡ b.target = same_targets a.target b.target same.1 in
    λ i. record { path = paths i; target = targets i }

own_entry : (a : KeyEntry) → same_entry a a ≡ true
own_entry a =
    let path = (bytes_decides a.path a.path).1 refl in
    let target = own_target a.target in
    λ i. path i && target i

entries_decide : (a b : KeyEntry) → (same_entry a b ≡ true → a ≡ b) × (a ≡ b → same_entry a b ≡ true)
entries_decide a b = (same_entries a b, λ e. ap (same_entry a) (sym e) ∙ own_entry a)

pub entries_equiv : IsEquivalence same_entry
entries_equiv = decided same_entry entries_decide

pub tables_equiv : IsEquivalence same_tables
tables_equiv = lists_equiv entries_equiv

-- a table that is found the same is the same, and each is found the same as itself
pub tables_are_one : (a b : List KeyEntry) → same_tables a b ≡ true → a ≡ b
tables_are_one a b e = (pointwise_decides entries_decide a b).0 e

pub table_is_same : (table : List KeyEntry) → same_tables table table ≡ true
table_is_same table = (pointwise_decides entries_decide table table).1 refl
