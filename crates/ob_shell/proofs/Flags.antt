-- Arguments that are flags: where the only flags are those that ask for help and for the version, each of them is a fault.
use Rattle.std.proofs.Common.{◌≡◌, ℕ, Bool, true, false, if◌then◌else◌, List, [], ◌∷◌, length, Option, Some, None, refl, subst, bytes_eq, slice_get, chars}
use Rattle.std.proofs.lemmas.Slice.Eq.{bytes_eq-Decides}
use Rattle.std.specs.Option.{option_map_or}
use Rattle.clap.specs.Walk.{Held, Step, after_flag, arg_by_index, arg_by_long, arg_by_short, bundle_met, bundle_step, idle, long_or_other, plain, settled, short_or_plain, short_word, trailing, value}
use Rattle.clap.specs.Faults.{bundle_fault, bundle_step_fault, flag_word_fault, flags_fault, long_fault, positional_fault, react_fault, settle_fault, short_fault, step_fault, stray_fault, use_fault}
use Rattle.clap.specs.Kinds.{Kinds, or_else}
use Rattle.clap.specs.Lexer.{long_of, short_of}
use Rattle.clap.specs.Simple.{Shape, filled, help_rule, version_rule, with_index}
use Rattle.clap.specs.Words.{Row, Rule, Text}

-- the argument `--`, which ends the flags
abbrev pub dashes : Text
dashes = 45 ∷ 45 ∷ []

-- the flags that ask for help and for the version
abbrev pub help : Rule
help = with_index 1 (filled help_rule)

abbrev pub version : Rule
version = with_index 1 (filled version_rule)

-- the flag that a name finds, if it is the name of one
abbrev pub flag_by : Bool → Bool → Option Rule
flag_by is_help is_version = if is_help then Some help else (if is_version then Some version else None)

-- the walk holds no row yet, and what waits for its values
abbrev pub held : Option (Text × List Text) → Held
held pending = record { rows = []; pending = pending; skip = 0 }

pub or_else_none : (x y : Kinds) → or_else x y ≡ [] → x ≡ []
or_else_none [] y none = refl
or_else_none (k ∷ ks) y none = cc

pub or_else_next : (x y : Kinds) → or_else x y ≡ [] → y ≡ []
or_else_next [] y none = none
or_else_next (k ∷ ks) y none = cc

-- a use of either flag is a fault
help_use_is_fault : (rows : List Row) → use_fault false help [] rows ≡ [] → ⊥
help_use_is_fault rows none = cc

version_use_is_fault : (rows : List Row) → use_fault false version [] rows ≡ [] → ⊥
version_use_is_fault rows none = cc

help_is_fault : (c : List Rule) (h : Held) → react_fault c false help [] h ≡ [] → ⊥
help_is_fault c h none = help_use_is_fault (settled c h).rows (or_else_next (settle_fault c false h) (use_fault false help [] (settled c h).rows) none)

version_is_fault : (c : List Rule) (h : Held) → react_fault c false version [] h ≡ [] → ⊥
version_is_fault c h none = version_use_is_fault (settled c h).rows (or_else_next (settle_fault c false h) (use_fault false version [] (settled c h).rows) none)

-- `--name` is a fault, known or not
long_is_fault : (c : List Rule) (is_help is_version : Bool) (text : Option Text) (h : Held) → long_fault c false (flag_by is_help is_version) text h ≡ [] → ⊥
long_is_fault c true is_version (Some v) h none = cc
long_is_fault c true is_version None h none = help_is_fault c h none
long_is_fault c false true (Some v) h none = cc
long_is_fault c false true None h none = version_is_fault c h none
long_is_fault c false false text h none = cc

-- `-c` is a fault, known or not
short_is_fault : (c : List Rule) (is_help is_version : Bool) (rest : Text) (h : Held) (next : Held → Kinds) → short_fault c false (flag_by is_help is_version) rest h next ≡ [] → ⊥
short_is_fault c true is_version rest h next none = help_is_fault c h (or_else_none (react_fault c false help [] h) _ none)
short_is_fault c false true rest h next none = version_is_fault c h (or_else_none (react_fault c false version [] h) _ none)
short_is_fault c false false rest h next none = cc

-- so it is where the argument is found by a name
short_found_is_fault : (c : List Rule) (found : Option Rule) (is_help is_version : Bool) → found ≡ flag_by is_help is_version
    → (rest : Text) (h : Held) (next : Held → Kinds) → short_fault c false found rest h next ≡ [] → ⊥
short_found_is_fault c found is_help is_version same rest h next none = short_is_fault c is_help is_version rest h next (subst (λ f. short_fault c false f rest h next ≡ []) same none)

-- a flag of the rules asks for help or for the version
pub record HasOnlyRequests (c : List Rule) : Type 0 where
  pub by_long : (name : Text) → (is_help : Bool) × ((is_version : Bool) × (arg_by_long c name ≡ flag_by is_help is_version))
  pub by_short : (letter : ℕ) → (is_help : Bool) × ((is_version : Bool) × (arg_by_short c letter ≡ flag_by is_help is_version))

module _ (c : List Rule) (only : HasOnlyRequests c) (pending : Option (Text × List Text)) (argument : Text) where
  -- a argument that is no fault is plain, from the first character behind a hyphen on
  first_is_plain : (first : Option ℕ) (byte : ℕ) (flags : Text) → bundle_step_fault c false first (byte ∷ flags) 0 (held pending) (flags_fault c false (length flags)) ≡ []
      → after_flag c idle argument (bundle_step c first (byte ∷ flags) 0 plain (held pending) (bundle_met c (length flags))).0 (bundle_step c first (byte ∷ flags) 0 plain (held pending) (bundle_met c (length flags))).1
      ≡ (held pending, value)
  first_is_plain None byte flags none = refl
  first_is_plain (Some letter) byte flags none =
      let known = only.by_short letter in
      absurd (short_found_is_fault c (arg_by_short c letter) known.0 known.1.0 known.1.1 _ (held pending) _ none)

  bundle_is_plain : (flags : Text) → bundle_fault c false flags (held pending) ≡ [] → short_word c idle argument flags (held pending) ≡ (held pending, value)
  unfolding flags_fault bundle_met
  bundle_is_plain [] none = refl
  bundle_is_plain (byte ∷ flags) none = first_is_plain (slice_get (chars (byte ∷ flags)) 0) byte flags none

  short_is_plain : (short : Option Text) → option_map_or (λ flags. bundle_fault c false flags (held pending)) short [] ≡ []
      → short_or_plain c idle argument short (held pending) ≡ (held pending, value)
  short_is_plain None none = refl
  short_is_plain (Some flags) none = bundle_is_plain flags none

  pub long_is_plain : (long : Option (Text × Option Text)) → flag_word_fault c false long argument (held pending) ≡ []
      → long_or_other c idle argument long (held pending) ≡ (held pending, value)
  long_is_plain None none = short_is_plain (short_of argument) none
  long_is_plain (Some p) none =
      let known = only.by_long p.0 in
      absurd (long_is_fault c known.0 known.1.0 p.1 (held pending) (subst (λ found. long_fault c false found p.1 (held pending) ≡ []) known.1.1 none))

-- an argument that no positional takes is a fault
stray_is_fault : (s : Shape) (is_leaf : Bool) → stray_fault (record s { is_leaf = is_leaf }) ≡ [] → ⊥
stray_is_fault s true none = cc
stray_is_fault s false none = cc

module _ (s : Shape) (only : HasOnlyRequests s.rules) (position : ℕ) (untaken : arg_by_index s.rules position ≡ None) (pending : Option (Text × List Text)) where
  plain_is_fault : (met : Held × Step) → met ≡ (held pending, value) → step_fault s position met.0 met.1 ≡ [] → ⊥
  plain_is_fault met same none =
      let plain : step_fault s position (held pending) value ≡ [] = subst (λ (m : Held × Step). step_fault s position m.0 m.1 ≡ []) same none in
      stray_is_fault s s.is_leaf (subst (λ (found : Option Rule). option_map_or (λ a. positional_fault s.rules s.args_override_self a (held pending)) found (stray_fault s) ≡ []) untaken plain)

  -- the faults of an argument that names no subcommand, by whether it is `--`
  abbrev faults_by : Bool → Text → Kinds
  faults_by is_dashes argument =
      let met : Held × Step = if is_dashes then (held pending, trailing position) else long_or_other s.rules idle argument (long_of argument) (held pending) in
      or_else (if is_dashes then [] else flag_word_fault s.rules false (long_of argument) argument (held pending)) (step_fault s position met.0 met.1)

  faultless_is_dashes : (is_dashes : Bool) (argument : Text) → faults_by is_dashes argument ≡ [] → is_dashes ≡ true
  faultless_is_dashes true argument none = refl
  faultless_is_dashes false argument none =
      absurd (plain_is_fault _ (long_is_plain s.rules only pending argument (long_of argument) (or_else_none _ _ none)) (or_else_next _ _ none))

  -- so where no positional takes it, an argument without a fault is `--`
  pub dashes_alone : (argument : Text) → faults_by (bytes_eq argument dashes) argument ≡ [] → argument ≡ dashes
  dashes_alone argument none = (bytes_eq-Decides argument dashes).0 (faultless_is_dashes (bytes_eq argument dashes) argument none)
