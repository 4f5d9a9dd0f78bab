-- Verbs: their words, and the requests of each.
use Rattle.std.proofs.Common.{◌≡◌, ℕ, Bool, true, false, not, cond, eqb, List, [], ◌∷◌, find, Option, None, Some, IfSome, refl, ap, sym, subst, ◌∙◌, codes}
use Rattle.std.proofs.lemmas.Bool.{and_parts}
use Rattle.std.specs.List.{list_all, list_any}
use Rattle.std.specs.Str.{bytes_eq}
use Rattle.ob_parts.specs.declared.handle.HandleForm.{HandleForm}
use Rattle.ob_parts.specs.declared.kind.KindForm.{KindForm}
use Rattle.ob_parts.specs.declared.page.PageMode.{PageMode}
use Rattle.ob_parts.specs.declared.name.NameForm.{NameForm}
use Rattle.ob_parts.specs.declared.name.PlaceForm.{PlaceForm}
use Rattle.ob_lines.specs.declared.request.Request.{Request}
use Rattle.ob_lines.specs.declared.request.Request.TheVariants.{CreateDirectory, CreateShadowed, CreateLink, CreateObject, OpenDirectory, OpenLink, OpenObject, Close, QueryLink, QueryName, QueryDirectory, Duplicate, MakeTemporary, MakePermanent, SetDeviceMap, NewProcess, ExitProcess}
use Rattle.ob_lines.specs.declared.verb.Verb.{Verb}
use Rattle.ob_lines.specs.declared.verb.Verb.TheVariants as verb
use Rattle.ob_parts.specs.Text.{Lacks}
use Rattle.ob_lines.specs.Grammar.{verb_of, IsOperands}
use Rattle.ob_lines.specs.Verbs.{all_verbs, verb_text}
use Rattle.ob_parts.proofs.Flagged.{lacks_from_test}

-- the verb that a word is read as, so that no two verbs share a word
abbrev pub read : List ℕ → Option Verb
read word = find (λ v. bytes_eq (verb_text v) word) all_verbs

reads_back : (v : Verb) → read (verb_text v) ≡ Some v
reads_back verb.Dir = refl
reads_back verb.Shadow = refl
reads_back verb.Link = refl
reads_back verb.Make = refl
reads_back verb.OpenDir = refl
reads_back verb.OpenLink = refl
reads_back verb.Open = refl
reads_back verb.Close = refl
reads_back verb.Target = refl
reads_back verb.Name = refl
reads_back verb.List = refl
reads_back verb.Dup = refl
reads_back verb.Temp = refl
reads_back verb.Perm = refl
reads_back verb.Map = refl
reads_back verb.New = refl
reads_back verb.Exit = refl

some_verb : (a b : Verb) → Some a ≡ Some b → a ≡ b
some_verb a b e = cc

pub verb_same : (a b : Verb) → verb_text a ≡ verb_text b → a ≡ b
verb_same a b e = some_verb a b (sym (reads_back a) ∙ (ap read e ∙ reads_back b))

-- a word that is read as no verb is the word of none
pub no_verb : (word : List ℕ) → read word ≡ None → (v : Verb) → ¬ (word ≡ verb_text v)
no_verb word none v e = let found : read word ≡ Some v = ap read e ∙ reads_back v in cc

pub begin_no_verb : (v : Verb) → ¬ (codes "begin" ≡ verb_text v)
begin_no_verb v = no_verb (codes "begin") refl v

pub end_no_verb : (v : Verb) → ¬ (codes "end" ≡ verb_text v)
end_no_verb v = no_verb (codes "end") refl v

pub drop_no_verb : (v : Verb) → ¬ (codes "drop" ≡ verb_text v)
drop_no_verb v = no_verb (codes "drop") refl v

-- a test that all verbs of the list pass is passed by each verb
pub each_verb : (q : Verb → Bool) → list_all q all_verbs ≡ true → (v : Verb) → q v ≡ true
each_verb q all v =
    let found : IfSome (read (verb_text v)) (λ x. q x ≡ true) = found_passes (λ x. bytes_eq (verb_text x) (verb_text v)) q all_verbs all in
    let own : IfSome (Some v) (λ x. q x ≡ true) = subst (λ o. IfSome o (λ x. q x ≡ true)) (reads_back v) found in
    own
  where
    found_passes : (p q : Verb → Bool) (xs : List Verb) → list_all q xs ≡ true → IfSome (find p xs) (λ x. q x ≡ true)
    found_passes p q [] all = tt
    found_passes p q (x ∷ xs) all =
        let parts : (q x ≡ true) × (list_all q xs ≡ true) = and_parts (q x) (list_all q xs) all in
        go (p x) parts.0 (found_passes p q xs parts.1)
      where
        go : (b : Bool) → q x ≡ true → IfSome (find p xs) (λ y. q y ≡ true) → IfSome (cond b (Some x) (find p xs)) (λ y. q y ≡ true)
        go true own more = own
        go false own more = more

-- the words of verbs have no space
pub verb_lacks : (v : Verb) → Lacks 0x20 (verb_text v)
verb_lacks v = lacks_from_test 0x20 (verb_text v) (no_true _ (each_verb (λ x. not (list_any (λ b. eqb b 0x20) (verb_text x))) refl v))
  where
    no_true : (b : Bool) → not b ≡ true → b ≡ false
    no_true true e = cc
    no_true false e = refl

-- each request of a verb is so
abbrev pub Each : Verb → (Request (List ℕ) → Type 0) → Type 0
Each verb.Dir P = (p : PlaceForm (List ℕ)) (a : ℕ) (w : List ℕ) → P (CreateDirectory p a w)
Each verb.Shadow P = (h : HandleForm (List ℕ)) (p : PlaceForm (List ℕ)) (a : ℕ) (w : List ℕ) → P (CreateShadowed h p a w)
Each verb.Link P = (p : PlaceForm (List ℕ)) (a : ℕ) (t w : List ℕ) → P (CreateLink p a t w)
Each verb.Make P = (k : KindForm) (p : PlaceForm (List ℕ)) (a : ℕ) (t w : List ℕ) → P (CreateObject k p a t w)
Each verb.OpenDir P = (n : NameForm (List ℕ)) (a : ℕ) (w : List ℕ) → P (OpenDirectory n a w)
Each verb.OpenLink P = (n : NameForm (List ℕ)) (a : ℕ) (w : List ℕ) → P (OpenLink n a w)
Each verb.Open P = (k : Option KindForm) (n : NameForm (List ℕ)) (a : ℕ) (w : List ℕ) → P (OpenObject k n a w)
Each verb.Close P = (h : HandleForm (List ℕ)) → P (Close h)
Each verb.Target P = (h : HandleForm (List ℕ)) → P (QueryLink h)
Each verb.Name P = (h : HandleForm (List ℕ)) → P (QueryName h)
Each verb.List P = (h : HandleForm (List ℕ)) (r : ℕ) (m : PageMode) → P (QueryDirectory h r m)
Each verb.Dup P = (h : HandleForm (List ℕ)) (q : List ℕ) (i : Bool) (w : List ℕ) → P (Duplicate h q i w)
Each verb.Temp P = (h : HandleForm (List ℕ)) → P (MakeTemporary h)
Each verb.Perm P = (h : HandleForm (List ℕ)) → P (MakePermanent h)
Each verb.Map P = (h : HandleForm (List ℕ)) → P (SetDeviceMap h)
Each verb.New P = (i : Bool) (q : List ℕ) → P (NewProcess i q)
Each verb.Exit P = P ExitProcess

-- a predicate of each request of a verb is one of a request of this verb
of_own : (P : Request (List ℕ) → Type 0) (r : Request (List ℕ)) → Each (verb_of r) P → P r
of_own P (CreateDirectory p a w) each = each p a w
of_own P (CreateShadowed h p a w) each = each h p a w
of_own P (CreateLink p a t w) each = each p a t w
of_own P (CreateObject k p a t w) each = each k p a t w
of_own P (OpenDirectory n a w) each = each n a w
of_own P (OpenLink n a w) each = each n a w
of_own P (OpenObject k n a w) each = each k n a w
of_own P (Close h) each = each h
of_own P (QueryLink h) each = each h
of_own P (QueryName h) each = each h
of_own P (QueryDirectory h r m) each = each h r m
of_own P (Duplicate h q i w) each = each h q i w
of_own P (MakeTemporary h) each = each h
of_own P (MakePermanent h) each = each h
of_own P (SetDeviceMap h) each = each h
of_own P (NewProcess i q) each = each i q
of_own P ExitProcess each = each

pub of_verb : (P : Request (List ℕ) → Type 0) (v : Verb) → Each v P → (r : Request (List ℕ)) → verb_of r ≡ v → P r
of_verb P v each r e = of_own P r (subst (λ x. Each x P) (sym e) each)

-- operands that are those of no request of a verb
pub no_request : (bytes : List ℕ) (v w : Verb) → v ≡ w → Each w (λ r. ¬ IsOperands bytes r)
    → (r : Request (List ℕ)) → verb_of r ≡ v → ¬ IsOperands bytes r
no_request bytes v w d none r e = of_verb (λ x. ¬ IsOperands bytes x) w none r (e ∙ d)
