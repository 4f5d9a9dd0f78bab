-- Objects that are found the same are one.
use Rattle.std.proofs.Common.{◌≡◌, ◌∙◌, Bool, true, false, ◌&&◌, nat_eq, refl, sym, ap}
use Rattle.std.proofs.lemmas.Bool.{and_parts, eqb-true, eq-eqb}
use Rattle.std.specs.Cmp.{IsEquivalence, decided}
use Rattle.std.specs.Cmp.Lexicographic.{pointwise, bytes_decides}
use Rattle.ob_host.specs.Kinds.{same_kind}
use Rattle.ob_host.specs.KindLaws.{same_kind_is_one, own_kind_is_same}
use Rattle.ob_host.specs.Objects.{same_object}
use Rattle.ob_host.specs.declared.object.HostObject.{HostObject}

pub same_object_is_one : (a b : HostObject) → same_object a b ≡ true → a ≡ b
same_object_is_one a b e =
    let same_texts = pointwise nat_eq a.text b.text in
    let same = and_parts (same_kind a.kind b.kind) (nat_eq a.user_data b.user_data && same_texts) e in
    let others = and_parts (nat_eq a.user_data b.user_data) same_texts same.1 in
    let kinds : a.kind ≡ b.kind = same_kind_is_one a.kind b.kind same.0 in
    let user_data : a.user_data ≡ b.user_data = eqb-true a.user_data b.user_data others.0 in
    let texts : a.text ≡ b.text = (bytes_decides a.text b.text).0 others.1 in
    λ i. record { kind = kinds i; user_data = user_data i; text = texts i }

pub own_object_is_same : (a : HostObject) → same_object a a ≡ true
own_object_is_same a =
    let kinds = own_kind_is_same a.kind in
    let user_data = eq-eqb a.user_data a.user_data refl in
    let texts = (bytes_decides a.text a.text).1 refl in
    λ i. kinds i && (user_data i && texts i)

objects_decide : (a b : HostObject) → (same_object a b ≡ true → a ≡ b) × (a ≡ b → same_object a b ≡ true)
objects_decide a b = (same_object_is_one a b, λ e. ap (same_object a) (sym e) ∙ own_object_is_same a)

pub objects_equiv : IsEquivalence same_object
objects_equiv = decided same_object objects_decide
