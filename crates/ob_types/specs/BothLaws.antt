-- The laws of the sum of two sets, from those of its parts.
use Rattle.std.proofs.Common.{◌≡◌, ℕ, true, ap, subst, sym}
use Rattle.either.specs.declared.Either.{Either}
use Rattle.either.specs.declared.Either.TheVariants.{Left, Right}
use Rattle.either.specs.Either.{MatchEither}
use Rattle.ob_model.specs.Procedures.{Procedures, ParseAnswer, Itself, Front, Reparse, Refused}
use Rattle.ob_model.specs.Procedures.{RefusedOpenKeeps, MadeIsIdle, LastClosedIsIdle, SameKindIsOne, OwnKindIsSame, FrontIsUsed, ItselfIsAtEnd, ParsedIsIdle, OwnFaceIsSame, SameFacesAnswerAlike}
use Rattle.ob_types.specs.Both.{both_procedures, answer_of_first, answer_of_second, left_first, left_second, IsEitherIdle}

module _ {F I G J : Type 0} where
  -- a front and the object itself are answered by a part where they are answered by the sum
  front_of_first : (x : ParseAnswer F I) (used : ℕ) (next : Either F G) (inner : Either I J)
      → answer_of_first x ≡ Front used next inner → (face : F) × (part : I) × (x ≡ Front used face part) × (next ≡ Left face) × (inner ≡ Left part)
  front_of_first Itself used next inner e = cc
  front_of_first (Front n face part) used next inner e = (face, part, cc, cc, cc)
  front_of_first (Reparse text) used next inner e = cc
  front_of_first (Refused k) used next inner e = cc

  front_of_second : (x : ParseAnswer G J) (used : ℕ) (next : Either F G) (inner : Either I J)
      → answer_of_second x ≡ Front used next inner → (face : G) × (part : J) × (x ≡ Front used face part) × (next ≡ Right face) × (inner ≡ Right part)
  front_of_second Itself used next inner e = cc
  front_of_second (Front n face part) used next inner e = (face, part, cc, cc, cc)
  front_of_second (Reparse text) used next inner e = cc
  front_of_second (Refused k) used next inner e = cc

  itself_of_first : (x : ParseAnswer F I) → answer_of_first {G = G} {J = J} x ≡ Itself → x ≡ Itself
  itself_of_first Itself e = cc
  itself_of_first (Front n face part) e = cc
  itself_of_first (Reparse text) e = cc
  itself_of_first (Refused k) e = cc

  itself_of_second : (x : ParseAnswer G J) → answer_of_second {F = F} {I = I} x ≡ Itself → x ≡ Itself
  itself_of_second Itself e = cc
  itself_of_second (Front n face part) e = cc
  itself_of_second (Reparse text) e = cc
  itself_of_second (Refused k) e = cc

module _ {K T F I L U G J : Type 0} (a : Procedures K T F I) (b : Procedures L U G J) where
  pub both_refused_open : RefusedOpenKeeps a → RefusedOpenKeeps b → RefusedOpenKeeps (both_procedures a b)
  both_refused_open first second both (Left inner) reason k told = ap (λ left. left_first both left) (first both.first inner reason k told)
  both_refused_open first second both (Right inner) reason k told = ap (λ left. left_second both left) (second both.second inner reason k told)

  pub both_made_idle : (First : I → Type 0) (Second : J → Type 0) → MadeIsIdle a First → MadeIsIdle b Second → MadeIsIdle (both_procedures a b) (IsEitherIdle First Second)
  both_made_idle First Second first second (Left kind) args taken = first kind args taken
  both_made_idle First Second first second (Right kind) args taken = second kind args taken

  pub both_closed_idle : (First : I → Type 0) (Second : J → Type 0) → LastClosedIsIdle a First → LastClosedIsIdle b Second → LastClosedIsIdle (both_procedures a b) (IsEitherIdle First Second)
  both_closed_idle First Second first second both (Left inner) process_left = first both.first inner process_left
  both_closed_idle First Second first second both (Right inner) process_left = second both.second inner process_left

  pub both_front : FrontIsUsed a → FrontIsUsed b → FrontIsUsed (both_procedures a b)
  both_front first second (Left face) next rest used inner told =
      let part = front_of_first (a.parsed face rest) used next inner told in
      let uses = first face part.0 rest used part.1 part.2 in
      record {
        within = uses.within;
        some_bytes = uses.some_bytes;
        onward = λ less. subst (λ (n : Either F G). (both_procedures a b).parses ((both_procedures a b).kind_of n) ≡ true) (sym part.3) (uses.onward less);
      }
  both_front first second (Right face) next rest used inner told =
      let part = front_of_second (b.parsed face rest) used next inner told in
      let uses = second face part.0 rest used part.1 part.2 in
      record {
        within = uses.within;
        some_bytes = uses.some_bytes;
        onward = λ less. subst (λ (n : Either F G). (both_procedures a b).parses ((both_procedures a b).kind_of n) ≡ true) (sym part.3) (uses.onward less);
      }

  pub both_itself : ItselfIsAtEnd a → ItselfIsAtEnd b → ItselfIsAtEnd (both_procedures a b)
  both_itself first second (Left face) rest told = first face rest (itself_of_first (a.parsed face rest) told)
  both_itself first second (Right face) rest told = second face rest (itself_of_second (b.parsed face rest) told)

  pub both_parsed_idle : (First : I → Type 0) (Second : J → Type 0) → ParsedIsIdle a First → ParsedIsIdle b Second → ParsedIsIdle (both_procedures a b) (IsEitherIdle First Second)
  both_parsed_idle First Second first second (Left face) next rest used inner told =
      let part = front_of_first (a.parsed face rest) used next inner told in
      subst (λ (i : Either I J). MatchEither i First Second) (sym part.4) (first face part.0 rest used part.1 part.2)
  both_parsed_idle First Second first second (Right face) next rest used inner told =
      let part = front_of_second (b.parsed face rest) used next inner told in
      subst (λ (i : Either I J). MatchEither i First Second) (sym part.4) (second face part.0 rest used part.1 part.2)

  pub both_own_face : OwnFaceIsSame a → OwnFaceIsSame b → OwnFaceIsSame (both_procedures a b)
  both_own_face first second (Left face) = first face
  both_own_face first second (Right face) = second face

  pub both_same_answers : SameFacesAnswerAlike a → SameFacesAnswerAlike b → SameFacesAnswerAlike (both_procedures a b)
  both_same_answers first second (Left x) (Left y) rest told = ap (λ answer. answer_of_first answer) (first x y rest told)
  both_same_answers first second (Left x) (Right y) rest told = cc
  both_same_answers first second (Right x) (Left y) rest told = cc
  both_same_answers first second (Right x) (Right y) rest told = ap (λ answer. answer_of_second answer) (second x y rest told)

  pub both_one_kind : SameKindIsOne a → SameKindIsOne b → SameKindIsOne (both_procedures a b)
  both_one_kind first second (Left x) (Left y) told = ap (λ kind. Left kind) (first x y told)
  both_one_kind first second (Left x) (Right y) told = cc
  both_one_kind first second (Right x) (Left y) told = cc
  both_one_kind first second (Right x) (Right y) told = ap (λ kind. Right kind) (second x y told)

  pub both_own_kind : OwnKindIsSame a → OwnKindIsSame b → OwnKindIsSame (both_procedures a b)
  both_own_kind first second (Left kind) = first kind
  both_own_kind first second (Right kind) = second kind
