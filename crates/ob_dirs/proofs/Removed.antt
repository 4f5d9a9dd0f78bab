-- A directory without the entry of a stamp.
use Rattle.std.proofs.Common.{◌≡◌, ℕ, Bool, true, not, List, ◌∷◌, filter, ap, arith, ◌==◌}
use Rattle.std.proofs.lemmas.Bool.{eqb-true, ne_eqb}
use Rattle.std.proofs.lemmas.List.Elements.{All-weaker}
use Rattle.ob_model.proofs.Finds.{filter_all}
use Rattle.ob_dirs.specs.declared.entry.DirEntry.{DirEntry}
use Rattle.ob_dirs.specs.Dir.{ComesBefore, IsDir}
use Rattle.ob_dirs.proofs.Earliest.{first_comes_before}

-- the entry has the stamp, and has another
abbrev pub has_stamp : ℕ → DirEntry → Bool
has_stamp stamp e = e.stamp == stamp

abbrev pub has_other : ℕ → DirEntry → Bool
has_other stamp e = not (e.stamp == stamp)

-- what comes behind the entry of a stamp has another
behind_other : (stamp : ℕ) (e x : DirEntry) → has_stamp stamp e ≡ true → ComesBefore e x → has_other stamp x ≡ true
behind_other stamp e x is before = ap not (ne_eqb x.stamp stamp (λ same. omega (arith, before.0, same, eqb-true e.stamp stamp is)))

-- so all of it stays when the stamp is taken away
pub others_stay : (stamp : ℕ) (e : DirEntry) (es : List DirEntry) → IsDir (e ∷ es) → has_stamp stamp e ≡ true → filter (has_other stamp) es ≡ es
others_stay stamp e es is here =
    filter_all (has_other stamp) es
    (All-weaker (ComesBefore e) (λ x. has_other stamp x ≡ true) (λ x before. behind_other stamp e x here before) es (first_comes_before e es is))
