-- The laws of prefixes that are the same.
use Rattle.std.proofs.Common.{◌≡◌, Bool, true, false, nat_eq, refl, sym}
use Rattle.std.proofs.lemmas.Bool.{eqb-true}
use Rattle.std.specs.Bool.{beq}
use Rattle.std.specs.Cmp.{IsEquivalence, and_equiv, on_equiv, nat_eq_equiv, bool_eq_equiv, first_so, second_so}
use Rattle.std.specs.Cmp.Lexicographic.{nat_list_eq_equiv, same_text}
use Rattle.ob_prefixes.specs.declared.prefix.Prefix.{Prefix}
use Rattle.ob_prefixes.specs.Prefix.{same_prefix}

pub same_prefix-equiv : IsEquivalence same_prefix
same_prefix-equiv =
    and_equiv (on_equiv (λ (x : Prefix). x.place) nat_eq_equiv)
    (and_equiv (on_equiv (λ (x : Prefix). x.in_view) bool_eq_equiv) (and_equiv (on_equiv (λ (x : Prefix). x.fold) bool_eq_equiv) (on_equiv (λ (x : Prefix). x.bytes.items) nat_list_eq_equiv)))

-- what the same prefixes have
pub record AreSame (x y : Prefix) : Type 0 where
  pub place : x.place ≡ y.place
  pub in_view : x.in_view ≡ y.in_view
  pub fold : x.fold ≡ y.fold
  pub bytes : x.bytes.items ≡ y.bytes.items

pub same_prefix-parts : (x y : Prefix) → same_prefix x y ≡ true → AreSame x y
same_prefix-parts x y e =
    let later = second_so (nat_eq x.place y.place) _ e in
    let last = second_so (beq x.in_view y.in_view) _ later in
    record {
      place = eqb-true x.place y.place (first_so (nat_eq x.place y.place) _ e);
      in_view = same_bool x.in_view y.in_view (first_so (beq x.in_view y.in_view) _ later);
      fold = same_bool x.fold y.fold (first_so (beq x.fold y.fold) _ last);
      bytes = same_text x.bytes.items y.bytes.items (sym (second_so (beq x.fold y.fold) _ last));
    }
  where
    same_bool : (a b : Bool) → beq a b ≡ true → a ≡ b
    same_bool true true e = refl
    same_bool true false e = cc
    same_bool false true e = cc
    same_bool false false e = refl
