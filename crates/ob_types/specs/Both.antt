-- The sum of two sets: each procedure is that of the part which owns the kind, the face or the inner value.
use Rattle.std.specs.Prelude.{◌≡◌, Bool, false}
use Rattle.either.specs.declared.Either.{Either}
use Rattle.either.specs.declared.Either.TheVariants.{Left, Right}
use Rattle.either.specs.Either.{either, map_either, MatchEither}
use Rattle.ob_model.specs.Procedures.{Procedures, ParseAnswer, Itself, Front, Reparse, Refused}
use Rattle.ob_types.specs.declared.both.Both.{Both}

-- the parts
abbrev pub first_of : {T U : Type 0} → Both T U → T
first_of both = both.first

abbrev pub second_of : {T U : Type 0} → Both T U → U
second_of both = both.second

-- two values are found the same: both are of one part, which finds them the same
abbrev pub same_by : {X Y : Type 0} → (X → X → Bool) → (Y → Y → Bool) → Either X Y → Either X Y → Bool
same_by first second (Left a) (Left b) = first a b
same_by first second (Left a) (Right b) = false
same_by first second (Right a) (Left b) = false
same_by first second (Right a) (Right b) = second a b

module _ {F I G J : Type 0} where
  -- what a part makes, as what the sum makes
  abbrev pub made_first : F × I → Either F G × Either I J
  made_first made = (Left made.0, Left made.1)

  abbrev pub made_second : G × J → Either F G × Either I J
  made_second made = (Right made.0, Right made.1)

  -- what a part answers, as what the sum answers
  abbrev pub answer_of_first : ParseAnswer F I → ParseAnswer (Either F G) (Either I J)
  answer_of_first Itself = Itself
  answer_of_first (Front used next inner) = Front used (Left next) (Left inner)
  answer_of_first (Reparse text) = Reparse text
  answer_of_first (Refused k) = Refused k

  abbrev pub answer_of_second : ParseAnswer G J → ParseAnswer (Either F G) (Either I J)
  answer_of_second Itself = Itself
  answer_of_second (Front used next inner) = Front used (Right next) (Right inner)
  answer_of_second (Reparse text) = Reparse text
  answer_of_second (Refused k) = Refused k

module _ {T U I J : Type 0} where
  -- what is left after a call of a part, whose own value and inner value are left so; the other part
  -- is left as it was
  abbrev pub left_first : Both T U → T × I → Both T U × Either I J
  left_first both left = (record both { first = left.0 }, Left left.1)

  abbrev pub left_second : Both T U → U × J → Both T U × Either I J
  left_second both left = (record both { second = left.0 }, Right left.1)

  -- a call on a value of the first part left that part and the inner value so, and the second part as it was
  pub record LeavesFirst (both : Both T U) (below : T × I) (left : Both T U × Either I J) : Type 0 where
    pub first : first_of left.0 ≡ below.0
    pub second : second_of left.0 ≡ second_of both
    pub inner : left.1 ≡ Left below.1

  -- and one on a value of the second part
  pub record LeavesSecond (both : Both T U) (below : U × J) (left : Both T U × Either I J) : Type 0 where
    pub first : first_of left.0 ≡ first_of both
    pub second : second_of left.0 ≡ below.0
    pub inner : left.1 ≡ Right below.1

-- it counts no open handle where the part that owns it says so
abbrev pub IsEitherIdle : {I J : Type 0} → (I → Type 0) → (J → Type 0) → Either I J → Type 0
IsEitherIdle First Second inner = MatchEither inner First Second

-- what each procedure means
abbrev pub both_procedures : {K T F I L U G J : Type 0} → Procedures K T F I → Procedures L U G J → Procedures (Either K L) (Both T U) (Either F G) (Either I J)
both_procedures a b = record {
  type_name = λ kind. either a.type_name b.type_name kind;
  kind_of = λ face. map_either a.kind_of b.kind_of face;
  same_kind = λ x y. same_by a.same_kind b.same_kind x y;
  parses = λ kind. either a.parses b.parses kind;
  same_face = λ x y. same_by a.same_face b.same_face x y;
  refuses_to_make = λ kind args. either (λ k. a.refuses_to_make k args) (λ k. b.refuses_to_make k args) kind;
  made = λ kind args. either (λ k. made_first (a.made k args)) (λ k. made_second (b.made k args)) kind;
  parsed = λ face rest. either (λ f. answer_of_first (a.parsed f rest)) (λ f. answer_of_second (b.parsed f rest)) face;
  refuses_to_open = λ both inner reason. either (λ i. a.refuses_to_open both.first i reason) (λ i. b.refuses_to_open both.second i reason) inner;
  opened = λ both inner reason. either (λ i. left_first both (a.opened both.first i reason)) (λ i. left_second both (b.opened both.second i reason)) inner;
  closed = λ both inner process_left system_left. either (λ i. left_first both (a.closed both.first i process_left system_left)) (λ i. left_second both (b.closed both.second i process_left system_left)) inner;
  deleted = λ both inner. either (λ i. record both { first = a.deleted both.first i }) (λ i. record both { second = b.deleted both.second i }) inner;
}
