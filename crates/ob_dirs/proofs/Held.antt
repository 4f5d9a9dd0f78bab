-- The entries of a directory, as they are looked up.
use Rattle.std.proofs.Common.{◌≡◌, ◌∙◌, ◌<◌, cond, List, [], ◌∷◌, find, All, Some, refl, ap, eq-eqb, arith}
use Rattle.std.proofs.lemmas.Bool.{ne_eqb}
use Rattle.std.proofs.lemmas.List.Elements.{All-cons}
use Rattle.ob_dirs.specs.declared.entry.DirEntry.{DirEntry}
use Rattle.ob_dirs.specs.Dir.{IsDir}
use Rattle.ob_dirs.proofs.Earliest.{first_comes_before, others_are_dir}
use Rattle.ob_dirs.proofs.Removed.{has_stamp}

-- each is found by its own stamp
pub each_is_found : (es : List DirEntry) → IsDir es → All (λ e. find (has_stamp e.stamp) es ≡ Some e) es
each_is_found [] is = λ k d below. absurd (omega (arith, below))
each_is_found (e ∷ es) is =
    All-cons (λ x. find (has_stamp x.stamp) (e ∷ es) ≡ Some x) e es
    (ap (λ b. cond b (Some e) (find (has_stamp e.stamp) es)) (eq-eqb e.stamp e.stamp refl))
    (λ k d below. behind _ (first_comes_before e es is k d below).0 (each_is_found es (others_are_dir e es is) k d below))
  where
    behind : (x : DirEntry) → e.stamp < x.stamp → find (has_stamp x.stamp) es ≡ Some x → find (has_stamp x.stamp) (e ∷ es) ≡ Some x
    behind x before there =
        ap (λ b. cond b (Some e) (find (has_stamp x.stamp) es)) (ne_eqb e.stamp x.stamp (λ same. omega (arith, before, same))) ∙ there
