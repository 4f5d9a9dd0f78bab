-- Whether an object has a name.
use Rattle.std.proofs.Common.{◌≡◌, true, false, Option, None, Some, sym}
use Rattle.std.proofs.lemmas.Bool.{false≢true}
use Rattle.std.specs.Option.{is_some, option_map}

module _ {A B : Type 0} (f : A → B) where
  pub mapped_some : (o : Option A) (found : Option B) → is_some o ≡ true → option_map f o ≡ found → (y : B) × (found ≡ Some y)
  mapped_some None found there same = absurd (false≢true there)
  mapped_some (Some x) found there same = (f x, sym same)

  pub mapped_none : (o : Option A) (found : Option B) → is_some o ≡ false → option_map f o ≡ found → found ≡ None
  mapped_none None found none same = sym same
  mapped_none (Some x) found none same = absurd (false≢true (sym none))
