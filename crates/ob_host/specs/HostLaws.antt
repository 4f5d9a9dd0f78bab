-- The laws of a caller's own objects.
use Rattle.std.proofs.Common.{◌≡◌, ◌≢◌, ℕ, zero, suc, ◌<◌, Bool, true, false, ◌==◌, if◌then◌else◌, List, [], ◌∷◌, Option, None, Some, length, refl, ap, arith}
use Rattle.ob_model.specs.Procedures.{Itself, Front, FrontIsUsed, ItselfIsAtEnd, ParsedIsIdle, OwnFaceIsSame, SameFacesAnswerAlike}
use Rattle.std.proofs.lemmas.Bool.{and_parts, eqb-true}
use Rattle.ob_types.specs.Unnoticed.{IsUnnoticed}
use Rattle.ob_host.specs.Deletions.{Deletions, Keeps, Passes, with_delete, after_next, behind_next}
use Rattle.ob_host.specs.declared.deletion.HostDeletion.{HostDeletion}
use Rattle.ob_host.specs.Kept.{Kept}
use Rattle.ob_host.specs.Kinds.{same_kind}
use Rattle.ob_host.specs.Objects.{object_below}
use Rattle.ob_host.specs.ObjectLaws.{same_object_is_one, own_object_is_same}
use Rattle.ob_host.specs.Host.{host_procedures, kind_below, is_itself, answer_below, answer_to, unopened, deletion_of, IsIdle}
use Rattle.ob_host.specs.declared.kind.Kind.{Kind}
use Rattle.ob_host.specs.declared.kind.Kind.TheVariants.{Key}
use Rattle.ob_host.specs.declared.object.HostObject.{HostObject}

pub host_own_face : OwnFaceIsSame host_procedures
host_own_face = own_object_is_same

pub host_same_answers : SameFacesAnswerAlike host_procedures
host_same_answers a b rest e = ap (λ object. answer_to object rest) (same_object_is_one a b e)

-- where a front is answered, it is the whole rest, and leads to an object that no handle is open to
whole_if : (itself : Bool) (n used : ℕ) (below next : HostObject) (inner : Kept) → (if itself then Itself else Front n below (unopened true below)) ≡ Front used next inner → (used ≡ n) × (inner ≡ unopened true below)
whole_if true n used below next inner e = cc
whole_if false n used below next inner e = (cc, cc)

record IsWhole (rest : List ℕ) (used : ℕ) (inner : Kept) : Type 0 where
  pub all_used : used ≡ length rest
  pub idle : inner.handles ≡ 0

whole : (object next : HostObject) (kind : Option Kind) (rest : List ℕ) (used : ℕ) (inner : Kept) → answer_below object kind rest ≡ Front used next inner → IsWhole rest used inner
whole object next None rest used inner e = cc
whole object next (Some kind) rest used inner e =
    let is = whole_if (is_itself kind rest) (length rest) used (object_below object kind rest) next inner e in
    record { all_used = is.0; idle = ap (λ i. i.handles) is.1 }

some_bytes : (rest : List ℕ) → rest ≢ [] → 0 < length rest
some_bytes [] n = absurd (n refl)
some_bytes (b ∷ bs) n = omega arith

pub host_front : FrontIsUsed host_procedures
host_front object next rest used inner e =
    let all = (whole object next (kind_below object.kind) rest used inner e).all_used in
    record {
      within = omega (arith, all);
      some_bytes = λ n. let some = some_bytes rest n in omega (arith, all, some);
      onward = λ l. absurd (omega (arith, all, l));
    }

pub host_parsed_idle : ParsedIsIdle host_procedures IsIdle
host_parsed_idle object next rest used inner e = (whole object next (kind_below object.kind) rest used inner e).idle

-- the rest that names an object itself is empty
itself_if : (itself : Bool) (used : ℕ) (next : HostObject) (inner : Kept) → (if itself then Itself else Front used next inner) ≡ Itself → itself ≡ true
itself_if true used next inner e = refl
itself_if false used next inner e = cc

no_bytes : (rest : List ℕ) → length rest ≡ 0 → rest ≡ []
no_bytes [] e = refl
no_bytes (b ∷ bs) e = absurd (omega (arith, e))

empty : (object : HostObject) (kind : Option Kind) (rest : List ℕ) → answer_below object kind rest ≡ Itself → rest ≡ []
empty object None rest e = cc
empty object (Some kind) rest e =
    let below = object_below object kind rest in
    let itself = itself_if (is_itself kind rest) (length rest) below (unopened true below) e in
    no_bytes rest (eqb-true (length rest) 0 (and_parts (same_kind kind Key) (length rest == 0) itself).1)

pub host_itself : ItselfIsAtEnd host_procedures
host_itself object rest e = empty object (kind_below object.kind) rest e

-- a deletion is taken, and then one is added; or the other way round
taken_apart : (deletions : Deletions) (deletion : HostDeletion) → with_delete (after_next deletions) deletion ≡ after_next (with_delete deletions deletion)
taken_apart (Keeps []) deletion = refl
taken_apart (Keeps (first ∷ left)) deletion = refl
taken_apart (Passes zero) deletion = refl
taken_apart (Passes (suc more)) deletion = refl

pub host_unnoticed : IsUnnoticed host_procedures behind_next
host_unnoticed = record {
  refusals = λ set inner reason. refl;
  opens = λ set inner reason. refl;
  closes = λ set inner process_left system_left. refl;
  deletes = λ set inner. λ i. record set { deletions = taken_apart set.deletions (deletion_of inner) i };
}
