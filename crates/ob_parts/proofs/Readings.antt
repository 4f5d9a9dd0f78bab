-- Parts of a line, each with one reading.
use Rattle.std.proofs.Common.{◌≡◌, ◌≢◌, ℕ, Bool, List, [], ◌∷◌, ◌++◌, Option, None, Some, false, get_or, drop, refl, ap, sym, subst, ◌∙◌, codes, append_assoc, arith}
use Rattle.std.specs.Str.{bytes_eq}
use Rattle.std.proofs.lemmas.Bool.{both_ways}
use Rattle.std.proofs.lemmas.Slice.Eq.{bytes_eq-Decides}
use Rattle.ob_parts.specs.declared.handle.HandleForm.{HandleForm}
use Rattle.ob_parts.specs.declared.kind.KindForm.{KindForm}
use Rattle.ob_parts.specs.declared.kind.KindForm.TheVariants.{Event, Mutant, Section, Device, File, Key}
use Rattle.ob_parts.specs.declared.name.NameForm.{NameForm}
use Rattle.ob_parts.specs.declared.name.NameForm.TheVariants.{Absolute, Relative}
use Rattle.ob_parts.specs.declared.name.PlaceForm.{PlaceForm}
use Rattle.ob_parts.specs.declared.name.PlaceForm.TheVariants.{Named, Unnamed}
use Rattle.ob_parts.specs.Text.{Lacks}
use Rattle.ob_parts.specs.Flags.{IsFlags}
use Rattle.ob_parts.specs.Kinds.{name_of}
use Rattle.ob_parts.specs.Parts.{IsHandle, BeginsWithText, BeginsWithName, BeginsWithPlace, BeginsWithKind, BeginsWithWant, BeginsWithFlags, IsSetting, IsFlagsAndVariable, IsFlagsTextAndVariable, IsNameFlagsAndVariable, IsWantNameFlagsAndVariable, IsPlaceFlagsTextAndVariable}
use Rattle.ob_parts.proofs.Cuts.{cut_alike, cuts_apart, lacks_no_cut}
use Rattle.ob_parts.proofs.Spelled.{text_lacks}
use Rattle.ob_parts.proofs.Handles.{handle_lacks, handle_lacks_colon, handle_lacks_quote, handle_alike}
use Rattle.ob_parts.proofs.Flagged.{flags_lack, flags_alike, lacks_from_test}

-- lists with two first bytes are two, and so are lists that a test tells apart
pub apart : (a b : ℕ) {x y : List ℕ} → a ∷ x ≡ b ∷ y → a ≢ b → ⊥
apart a b {x} {y} e n = let h : a ≡ b = ap (λ (z : List ℕ). get_or z 0 0) e in n h

pub differ : (xs ys : List ℕ) → bytes_eq xs ys ≡ false → xs ≡ ys → ⊥
differ xs ys told e = both_ways _ told ((bytes_eq-Decides xs ys).1 e)

-- bytes that a test tells apart from a variable are another
pub told_apart : (line variable known : List ℕ) (told : Bool) → told ≡ false → told ≡ bytes_eq line variable → variable ≡ known → line ≡ known → ⊥
told_apart line variable known told f is w e = both_ways told f (is ∙ (bytes_eq-Decides line variable).1 (e ∙ sym w))

-- what holds of a rest holds of the same rest
pub moved : (P : List ℕ → Type 0) (a b : List ℕ) → a ≡ b → P b → P a
moved P a b e p = subst P (sym e) p

-- a variable and a space, cut behind the variable
pub spaced : (bytes variable rest : List ℕ) → bytes ≡ variable ++ codes " " ++ rest → bytes ≡ variable ++ (0x20 ∷ rest)
spaced bytes variable rest e = e ∙ simp append_assoc

-- a variable and a colon, cut behind the variable
pub coloned : (bytes variable rest : List ℕ) → bytes ≡ variable ++ codes ":" ++ rest → bytes ≡ variable ++ (0x3A ∷ rest)
coloned bytes variable rest e = e ∙ simp append_assoc

-- two cuts at the first space are one cut
pub spaced_alike : (bytes variable rest w r : List ℕ) → Lacks 0x20 variable → Lacks 0x20 w → bytes ≡ variable ++ (0x20 ∷ rest) → bytes ≡ w ++ codes " " ++ r
    → (variable ≡ w) × (rest ≡ r)
spaced_alike bytes variable rest w r l k e f = cut_alike 0x20 variable rest w r l k (sym e ∙ spaced bytes w r f)

-- a text between quotes, cut at its quotes
pub quoted : (bytes text rest : List ℕ) → bytes ≡ codes "\"" ++ text ++ codes "\" " ++ rest → bytes ≡ 0x22 ∷ (text ++ (0x22 ∷ (0x20 ∷ rest)))
quoted bytes text rest e = e ∙ simp append_assoc

-- a text that is cut at the quote behind it is the only one
pub text_parts : (bytes inner text rest t r : List ℕ) → bytes ≡ 0x22 ∷ inner → inner ≡ text ++ (0x22 ∷ rest) → Lacks 0x22 text → BeginsWithText bytes t r
    → (text ≡ t) × (rest ≡ 0x20 ∷ r)
text_parts bytes inner text rest t r b i l ((name, spelled), e) =
    let whole : bytes ≡ 0x22 ∷ (t ++ (0x22 ∷ (0x20 ∷ r))) = quoted bytes t r e in
    let tails : text ++ (0x22 ∷ rest) ≡ t ++ (0x22 ∷ (0x20 ∷ r)) = cc in
    cut_alike 0x22 text rest t (0x20 ∷ r) l (text_lacks t name spelled) tails

-- behind a quote without another one stands no text
pub text_unclosed : (bytes inner t r : List ℕ) → bytes ≡ 0x22 ∷ inner → Lacks 0x22 inner → ¬ BeginsWithText bytes t r
text_unclosed bytes inner t r b l (text, e) =
    let whole : bytes ≡ 0x22 ∷ (t ++ (0x22 ∷ (0x20 ∷ r))) = quoted bytes t r e in
    let tails : inner ≡ t ++ (0x22 ∷ (0x20 ∷ r)) = cc in
    lacks_no_cut 0x22 inner t _ l tails

-- bytes begin with one text at most
pub text_alike : (bytes t r t' r' : List ℕ) → BeginsWithText bytes t r → BeginsWithText bytes t' r' → (t ≡ t') × (r ≡ r')
text_alike bytes t r t' r' ((name, spelled), e) b =
    let whole : bytes ≡ 0x22 ∷ (t ++ (0x22 ∷ (0x20 ∷ r))) = quoted bytes t r e in
    let parts : (t ≡ t') × (0x20 ∷ r ≡ 0x20 ∷ r') = text_parts bytes (t ++ (0x22 ∷ (0x20 ∷ r))) t (0x20 ∷ r) t' r' whole refl (text_lacks t name spelled) b in
    let rests : 0x20 ∷ r ≡ 0x20 ∷ r' = parts.1 in
    (parts.0, (cc))

-- `none` and a space are no text
none_no_text : (bytes rest t r : List ℕ) → bytes ≡ codes "none " ++ rest → ¬ BeginsWithText bytes t r
none_no_text bytes rest t r e (text, f) = apart 0x6E 0x22 (sym e ∙ quoted bytes t r f) (omega arith)

-- a name that is relative is cut at its colon, and no other is
pub relative_parts : (bytes spelled quoted : List ℕ) (h : HandleForm (List ℕ)) (t r : List ℕ) → bytes ≡ spelled ++ (0x3A ∷ quoted) → Lacks 0x3A spelled
    → BeginsWithName bytes (Relative h t) r → IsHandle spelled h × BeginsWithText quoted t r
relative_parts bytes spelled quoted h t r e l (root, more, handle, f, text) =
    let cuts : spelled ++ (0x3A ∷ quoted) ≡ root ++ (0x3A ∷ more) = sym e ∙ coloned bytes root more f in
    let same : (spelled ≡ root) × (quoted ≡ more) = cut_alike 0x3A spelled quoted root more l (handle_lacks_colon root h handle) cuts in
    (moved (λ x. IsHandle x h) spelled root same.0 handle, moved (λ x. BeginsWithText x t r) quoted more same.1 text)

-- a text is no relative name
text_no_relative : (bytes t r : List ℕ) (h : HandleForm (List ℕ)) (t' r' : List ℕ) → BeginsWithText bytes t r → ¬ BeginsWithName bytes (Relative h t') r'
text_no_relative bytes t r h t' r' (text, e) (root, more, handle, f, b) =
    cuts_apart 0x22 0x3A [] (t ++ (0x22 ∷ (0x20 ∷ r))) root more (λ n. omega (arith, n)) tt (handle_lacks_quote root h handle)
    (sym (quoted bytes t r e) ∙ coloned bytes root more f)

-- bytes begin with one name at most
pub name_alike : (bytes : List ℕ) (n : NameForm (List ℕ)) (r : List ℕ) (n' : NameForm (List ℕ)) (r' : List ℕ)
    → BeginsWithName bytes n r → BeginsWithName bytes n' r' → (n ≡ n') × (r ≡ r')
name_alike bytes (Absolute t) r (Absolute t') r' a b = let same = text_alike bytes t r t' r' a b in (ap Absolute same.0, same.1)
name_alike bytes (Absolute t) r (Relative h t') r' a b = absurd (text_no_relative bytes t r h t' r' a b)
name_alike bytes (Relative h t) r (Absolute t') r' a b = absurd (text_no_relative bytes t' r' h t r b a)
name_alike bytes (Relative h t) r (Relative h' t') r' (root, more, handle, e, a) b =
    let parts = relative_parts bytes root more h' t' r' (coloned bytes root more e) (handle_lacks_colon root h handle) b in
    let same = text_alike more t r t' r' a parts.1 in
    (rw (handle_alike root h h' handle parts.0, same.0) refl, same.1)

-- bytes that begin with no text, and with no relative name, begin with no name
pub no_name : (bytes : List ℕ) → ((t r : List ℕ) → ¬ BeginsWithText bytes t r) → ((h : HandleForm (List ℕ)) (t r : List ℕ) → ¬ BeginsWithName bytes (Relative h t) r)
    → (n : NameForm (List ℕ)) (r : List ℕ) → ¬ BeginsWithName bytes n r
no_name bytes text relative (Absolute t) r b = text t r b
no_name bytes text relative (Relative h t) r b = relative h t r b

pub relative_uncut : (bytes : List ℕ) (h : HandleForm (List ℕ)) (t r : List ℕ) → Lacks 0x3A bytes → ¬ BeginsWithName bytes (Relative h t) r
relative_uncut bytes h t r l (root, more, handle, f, text) = lacks_no_cut 0x3A bytes root more l (coloned bytes root more f)

-- `none` and a space are no name
none_no_name : (bytes rest : List ℕ) (n : NameForm (List ℕ)) (r : List ℕ) → bytes ≡ codes "none " ++ rest → ¬ BeginsWithName bytes n r
none_no_name bytes rest (Absolute t) r e b = none_no_text bytes rest t r e b
none_no_name bytes rest (Relative h t) r e (root, more, handle, f, b) =
    cuts_apart 0x20 0x3A (codes "none") rest root more (λ n. omega (arith, n)) (lacks_from_test 0x3A (codes "none") refl) (handle_lacks root h handle)
    (sym e ∙ coloned bytes root more f)

-- bytes begin with one place at most
pub place_alike : (bytes : List ℕ) (p : PlaceForm (List ℕ)) (r : List ℕ) (p' : PlaceForm (List ℕ)) (r' : List ℕ)
    → BeginsWithPlace bytes p r → BeginsWithPlace bytes p' r' → (p ≡ p') × (r ≡ r')
place_alike bytes (Named n) r (Named n') r' a b = let same = name_alike bytes n r n' r' a b in (ap Named same.0, same.1)
place_alike bytes (Named n) r Unnamed r' a e = absurd (none_no_name bytes r' n r e a)
place_alike bytes Unnamed r (Named n) r' e b = absurd (none_no_name bytes r n r' e b)
place_alike bytes Unnamed r Unnamed r' e f =
    (refl, ap (drop 5) (sym e ∙ f))

-- bytes that begin with neither `none` nor a name begin with no place
pub no_place : (bytes : List ℕ) → ((rest : List ℕ) → bytes ≢ codes "none " ++ rest) → ((n : NameForm (List ℕ)) (r : List ℕ) → ¬ BeginsWithName bytes n r)
    → (p : PlaceForm (List ℕ)) (r : List ℕ) → ¬ BeginsWithPlace bytes p r
no_place bytes none name (Named n) r b = name n r b
no_place bytes none name Unnamed r e = none r e

-- the names of kinds have no space, and no two kinds share one
pub kind_lacks : (kind : KindForm) → Lacks 0x20 (name_of kind)
kind_lacks Event = lacks_from_test 0x20 (codes "Event") refl
kind_lacks Mutant = lacks_from_test 0x20 (codes "Mutant") refl
kind_lacks Section = lacks_from_test 0x20 (codes "Section") refl
kind_lacks Device = lacks_from_test 0x20 (codes "Device") refl
kind_lacks File = lacks_from_test 0x20 (codes "File") refl
kind_lacks Key = lacks_from_test 0x20 (codes "Key") refl

kind_same : (a b : KindForm) → name_of a ≡ name_of b → a ≡ b
kind_same Event Event e = refl
kind_same Mutant Mutant e = refl
kind_same Section Section e = refl
kind_same Device Device e = refl
kind_same File File e = refl
kind_same Key Key e = refl
kind_same a b e = absurd (differ (name_of a) (name_of b) refl e)

-- bytes begin with one kind at most
pub kind_alike : (bytes : List ℕ) (k : KindForm) (r : List ℕ) (k' : KindForm) (r' : List ℕ) → BeginsWithKind bytes k r → BeginsWithKind bytes k' r'
    → (k ≡ k') × (r ≡ r')
kind_alike bytes k r k' r' e f =
    let same = spaced_alike bytes (name_of k) r (name_of k') r' (kind_lacks k) (kind_lacks k') (spaced bytes (name_of k) r e) f in
    (kind_same k k' same.0, same.1)

-- `any` is no kind
any_no_kind : (bytes rest : List ℕ) (k : KindForm) (r : List ℕ) → bytes ≡ codes "any " ++ rest → ¬ BeginsWithKind bytes k r
any_no_kind bytes rest Event r e f = apart 0x61 0x45 (sym e ∙ f) (omega arith)
any_no_kind bytes rest Mutant r e f = apart 0x61 0x4D (sym e ∙ f) (omega arith)
any_no_kind bytes rest Section r e f = apart 0x61 0x53 (sym e ∙ f) (omega arith)
any_no_kind bytes rest Device r e f = apart 0x61 0x44 (sym e ∙ f) (omega arith)
any_no_kind bytes rest File r e f = apart 0x61 0x46 (sym e ∙ f) (omega arith)
any_no_kind bytes rest Key r e f = apart 0x61 0x4B (sym e ∙ f) (omega arith)

-- and with one thing that is wanted
pub want_alike : (bytes : List ℕ) (k : Option KindForm) (r : List ℕ) (k' : Option KindForm) (r' : List ℕ) → BeginsWithWant bytes k r → BeginsWithWant bytes k' r'
    → (k ≡ k') × (r ≡ r')
want_alike bytes None r None r' e f =
    (refl, ap (drop 4) (sym e ∙ f))
want_alike bytes None r (Some k) r' e f = absurd (any_no_kind bytes r k r' e f)
want_alike bytes (Some k) r None r' e f = absurd (any_no_kind bytes r' k r f e)
want_alike bytes (Some k) r (Some k') r' e f = let same = kind_alike bytes k r k' r' e f in (ap Some same.0, same.1)

-- bytes that begin with neither `any` nor a kind begin with nothing that is wanted
pub no_want : (bytes : List ℕ) → ((rest : List ℕ) → bytes ≢ codes "any " ++ rest) → ((k : KindForm) (r : List ℕ) → ¬ BeginsWithKind bytes k r)
    → (k : Option KindForm) (r : List ℕ) → ¬ BeginsWithWant bytes k r
no_want bytes any kind None r e = any r e
no_want bytes any kind (Some k) r b = kind k r b

-- bytes that are cut at their first space begin with no other kind, and with no other flags
pub kind_parts : (bytes variable rest : List ℕ) (k : KindForm) (r : List ℕ) → bytes ≡ variable ++ (0x20 ∷ rest) → Lacks 0x20 variable → BeginsWithKind bytes k r
    → (variable ≡ name_of k) × (rest ≡ r)
kind_parts bytes variable rest k r e l f = spaced_alike bytes variable rest (name_of k) r l (kind_lacks k) e f

pub kind_uncut : (bytes : List ℕ) (k : KindForm) (r : List ℕ) → Lacks 0x20 bytes → ¬ BeginsWithKind bytes k r
kind_uncut bytes k r l e = lacks_no_cut 0x20 bytes (name_of k) r l (spaced bytes (name_of k) r e)

pub flags_parts : (bytes flags rest : List ℕ) (a : ℕ) (r : List ℕ) → bytes ≡ flags ++ (0x20 ∷ rest) → Lacks 0x20 flags → BeginsWithFlags bytes a r
    → IsFlags flags a × (rest ≡ r)
flags_parts bytes flags rest a r e l (f, is, g) =
    let same : (flags ≡ f) × (rest ≡ r) = spaced_alike bytes flags rest f r l (flags_lack f a is) e g in
    (rw same.0 is, same.1)

pub flags_uncut : (bytes : List ℕ) (a : ℕ) (r : List ℕ) → Lacks 0x20 bytes → ¬ BeginsWithFlags bytes a r
flags_uncut bytes a r l (f, is, e) = lacks_no_cut 0x20 bytes f r l (spaced bytes f r e)

-- bytes begin with one set of flags at most
pub flags_first_alike : (bytes : List ℕ) (a : ℕ) (r : List ℕ) (a' : ℕ) (r' : List ℕ) → BeginsWithFlags bytes a r → BeginsWithFlags bytes a' r' → (a ≡ a') × (r ≡ r')
flags_first_alike bytes a r a' r' (f, is, e) b =
    let parts = flags_parts bytes f r a' r' (spaced bytes f r e) (flags_lack f a is) b in
    (flags_alike f a a' is parts.0, parts.1)

-- one variable is set
pub set_alike : (bytes w w' : List ℕ) → IsSetting bytes w → IsSetting bytes w' → w ≡ w'
set_alike bytes w w' (is, e) (is', f) =
    ap (drop 1) (sym e ∙ f)

-- a FLAGS =V has one reading, and a FLAGS TEXT =V
pub ends_alike : (bytes : List ℕ) (a : ℕ) (w : List ℕ) (a' : ℕ) (w' : List ℕ) → IsFlagsAndVariable bytes a w → IsFlagsAndVariable bytes a' w' → (a ≡ a') × (w ≡ w')
ends_alike bytes a w a' w' (r, f, s) (r', f', s') =
    let same = flags_first_alike bytes a r a' r' f f' in
    (same.0, set_alike r w w' s (moved (λ x. IsSetting x w') r r' same.1 s'))

pub text_ends_alike : (bytes : List ℕ) (a : ℕ) (t w : List ℕ) (a' : ℕ) (t' w' : List ℕ) → IsFlagsTextAndVariable bytes a t w → IsFlagsTextAndVariable bytes a' t' w'
    → (a ≡ a') × (t ≡ t') × (w ≡ w')
text_ends_alike bytes a t w a' t' w' (r, m, f, q, s) (r', m', f', q', s') =
    let same = flags_first_alike bytes a r a' r' f f' in
    let text = text_alike r t m t' m' q (moved (λ x. BeginsWithText x t' m') r r' same.1 q') in
    (same.0, text.0, set_alike m w w' s (moved (λ x. IsSetting x w') m m' text.1 s'))

-- and so have a NAME FLAGS =V and a PLACE FLAGS TEXT =V
pub name_ends_alike : (bytes : List ℕ) (n : NameForm (List ℕ)) (a : ℕ) (w : List ℕ) (n' : NameForm (List ℕ)) (a' : ℕ) (w' : List ℕ)
    → IsNameFlagsAndVariable bytes n a w → IsNameFlagsAndVariable bytes n' a' w' → (n ≡ n') × (a ≡ a') × (w ≡ w')
name_ends_alike bytes n a w n' a' w' (r, b, f) (r', b', f') =
    let name = name_alike bytes n r n' r' b b' in
    let same = ends_alike r a w a' w' f (moved (λ x. IsFlagsAndVariable x a' w') r r' name.1 f') in
    (name.0, same.0, same.1)

pub place_ends_alike : (bytes : List ℕ) (p : PlaceForm (List ℕ)) (a : ℕ) (t w : List ℕ) (p' : PlaceForm (List ℕ)) (a' : ℕ) (t' w' : List ℕ)
    → IsPlaceFlagsTextAndVariable bytes p a t w → IsPlaceFlagsTextAndVariable bytes p' a' t' w' → (p ≡ p') × (a ≡ a') × (t ≡ t') × (w ≡ w')
place_ends_alike bytes p a t w p' a' t' w' (r, b, f) (r', b', f') =
    let place = place_alike bytes p r p' r' b b' in
    let same = text_ends_alike r a t w a' t' w' f (moved (λ x. IsFlagsTextAndVariable x a' t' w') r r' place.1 f') in
    (place.0, same.0, same.1, same.2)

-- a WANT NAME FLAGS =V has one reading
pub want_ends_alike : (bytes : List ℕ) (k : Option KindForm) (n : NameForm (List ℕ)) (a : ℕ) (w : List ℕ) (k' : Option KindForm) (n' : NameForm (List ℕ)) (a' : ℕ) (w' : List ℕ)
    → IsWantNameFlagsAndVariable bytes k n a w → IsWantNameFlagsAndVariable bytes k' n' a' w' → (k ≡ k') × (n ≡ n') × (a ≡ a') × (w ≡ w')
want_ends_alike bytes k n a w k' n' a' w' (r, c, s) (r', c', s') =
    let want = want_alike bytes k r k' r' c c' in
    let same = name_ends_alike r n a w n' a' w' s (moved (λ x. IsNameFlagsAndVariable x n' a' w') r r' want.1 s') in
    (want.0, same.0, same.1, same.2)
