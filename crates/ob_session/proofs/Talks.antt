-- How the lines of a session are answered one after another.
use Rattle.std.proofs.Common.{◌≡◌, ◌∙◌, inr, ℕ, ◌+◌, true, false, List, [], ◌∷◌, ◌++◌, length, Option, Some, None, refl, ap, sym, subst, append_assoc, append-nil, length-append, arith}
use Rattle.std.specs.Prelude.{IfSome}
use Rattle.std.specs.Io.KnownBytes.{Appends, Keeps}
use Rattle.std.proofs.KnownBytes.{Appends-nil, Appends-trans}
use Rattle.ob_model.specs.Opening.{opening}
use Rattle.ob_standard.specs.Standard.{Standard, IsFresh}
use Rattle.ob_output.proofs.Writers.{append-front}
use Rattle.ob_output.specs.declared.fault.ShellFault.{ShellFault}
use Rattle.ob_output.specs.declared.fault.ShellFault.TheVariants.{Read, Write, TooLong, Memory, Mismatch}
use Rattle.ob_requests.specs.Variables.{Variables, first_variables}
use Rattle.ob_effects.specs.Machine.{Space}
use Rattle.ob_lines.specs.Lines.{lines_of}
use Rattle.ob_session.specs.Session.{IsAnswered, AreAnswered, IsTurn, IsTurnCut, HasAnswered, BeginsBy, IsBegun, IsConversationCut, most_lines}
use Rattle.ob_session.specs.Taken.{TakesLine}

-- lines are answered, and then one more
pub one_more : (lines : List (List ℕ)) (number last : ℕ) (line : List ℕ) (variables w variables' : Variables) (s t s' : Space) (output text : List ℕ) → AreAnswered number lines variables s output w t
    → last ≡ number + length lines → IsAnswered last line w t text variables' s' → AreAnswered number (lines ++ line ∷ []) variables s (output ++ text) variables' s'
one_more [] number last line variables w variables' s t s' output text (none, same_w, same_t) is one =
    let here : IsAnswered number line variables s text variables' s' = subst (λ n. IsAnswered n line variables s text variables' s') (is ∙ omega arith)
    (subst (λ x. IsAnswered last line variables x text variables' s') same_t (subst (λ x. IsAnswered last line x t text variables' s') same_w one)) in
    (text, [], variables', s', here, ap (λ l. l ++ text) none ∙ sym (append-nil text), (refl, refl, refl))
one_more (first ∷ lines) number last line variables w variables' s t s' output text (shown, rest, u, v, here, out, more) is one =
    (shown, rest ++ text, u, v, here, ap (λ l. l ++ text) out ∙ append_assoc shown rest text, one_more lines (number + 1) last line u w variables' v t s' rest text more (omega (arith, is)) one)

-- How far a session is: these lines were read and answered, and the rest of its input has the others.
pub record HasCome (input left : Option (List ℕ)) (variables variables' : Variables) (s s' : Space) (old new : Option (List ℕ)) (count : ℕ) : Type 0 where
  pub lines : List (List ℕ)
  pub output : List ℕ
  pub answered : AreAnswered 1 lines variables s output variables' s'
  pub shown : Appends old new output
  pub counted : count ≡ length lines
  pub others : IfSome input (λ bytes. (rest : List ℕ) × (left ≡ Some rest) × (lines_of bytes ≡ lines ++ lines_of rest))

-- at first none was
pub none_yet : (input : Option (List ℕ)) (variables : Variables) (s : Space) (old : Option (List ℕ)) → HasCome input input variables variables s s old old 0
none_yet input variables s old = record {
  lines = [];
  output = [];
  answered = (refl, refl, refl);
  shown = Appends-nil old;
  counted = refl;
  others = known input;
}
  where
    known : (input : Option (List ℕ)) → IfSome input (λ bytes. (rest : List ℕ) × (input ≡ Some rest) × (lines_of bytes ≡ lines_of rest))
    known None = tt
    known (Some bytes) = (bytes, refl, refl)

-- bytes that stay as they were
kept_on : (a b c : Option (List ℕ)) (out : List ℕ) → Appends a b out → Keeps b c → Appends a c out
kept_on None b c out shown kept = tt
kept_on (Some x) None c out shown kept = absurd shown
kept_on (Some x) (Some y) None out shown kept = absurd kept
kept_on (Some x) (Some y) (Some z) out shown kept = kept ∙ shown

-- the input's lines, of which the next one is taken
next_known : (input left left' : Option (List ℕ)) (lines : List (List ℕ)) (line : List ℕ) → IfSome input (λ bytes. (rest : List ℕ) × (left ≡ Some rest) × (lines_of bytes ≡ lines ++ lines_of rest))
    → TakesLine true left left' line → IfSome input (λ bytes. (rest : List ℕ) × (left' ≡ Some rest) × (lines_of bytes ≡ (lines ++ line ∷ []) ++ lines_of rest))
next_known None left left' lines line others taken = tt
next_known (Some bytes) left left' lines line (rest, is, all) taken =
    let (after, is_after, first) = subst (λ l. TakesLine true l left' line) is taken in
    (after, is_after, all ∙ ap (λ ls. lines ++ ls) first ∙ sym (append_assoc lines (line ∷ []) (lines_of after)))

-- a turn
pub come_on : (input left left' : Option (List ℕ)) (variables w variables' : Variables) (s t s' : Space) (old mid new : Option (List ℕ)) (count number : ℕ) → HasCome input left variables w s t old mid count → number ≡ count + 1
    → IsTurn true number left left' w t mid new variables' s' → HasCome input left' variables variables' s s' old new number
come_on input left left' variables w variables' s t s' old mid new count number come is (line, text, taken, one, shown) = record {
  lines = come.lines ++ line ∷ [];
  output = come.output ++ text;
  answered = one_more come.lines 1 number line variables w variables' s t s' come.output text come.answered (omega (arith, is, come.counted)) one;
  shown = Appends-trans old mid new come.output text come.shown shown;
  counted = omega (arith, is, come.counted, length-append come.lines (line ∷ []));
  others = next_known input left left' come.lines line come.others taken;
}

-- the end of the input
pub come_end : (input left left' : Option (List ℕ)) (variables w variables' : Variables) (s t s' : Space) (old mid new : Option (List ℕ)) (count number : ℕ) → HasCome input left variables w s t old mid count
    → IsTurn false number left left' w t mid new variables' s' → HasAnswered variables s input old new variables' s'
come_end input left left' variables w variables' s t s' old mid new count number come (ended, kept, same_w, same_t) = (
  come.lines,
  come.output,
  subst (λ x. AreAnswered 1 come.lines variables s come.output variables' x) (sym same_t) (subst (λ x. AreAnswered 1 come.lines variables s come.output x t) (sym same_w) come.answered),
  kept_on old mid new come.output come.shown kept,
  known input come.others,
)
  where
    known : (input : Option (List ℕ)) → IfSome input (λ bytes. (rest : List ℕ) × (left ≡ Some rest) × (lines_of bytes ≡ come.lines ++ lines_of rest)) → IfSome input (λ bytes. lines_of bytes ≡ come.lines)
    known None others = tt
    known (Some bytes) (rest, is, all) =
        let none : rest ≡ [] = subst (λ l. TakesLine false l left' []) is ended in
        all ∙ ap (λ r. come.lines ++ lines_of r) none ∙ append-nil come.lines

module _ (input left : Option (List ℕ)) (variables w : Variables) (s t : Space) (old mid : Option (List ℕ)) (count : ℕ) (come : HasCome input left variables w s t old mid count)
    (are_first : variables ≡ first_variables) (first : Standard) (fresh : IsFresh first) (is_opening : s ≡ opening first) where
  -- the lines so far are the input's first ones, answered from the opening state on
  is_begun : IsBegun input come.lines come.output w t
  is_begun = (first, fresh, subst (λ x. AreAnswered 1 come.lines first_variables x come.output w t) is_opening (subst (λ x. AreAnswered 1 come.lines x s come.output w t) are_first come.answered), known input come.others)
    where
      known : (input : Option (List ℕ)) → IfSome input (λ bytes. (rest : List ℕ) × (left ≡ Some rest) × (lines_of bytes ≡ come.lines ++ lines_of rest))
          → IfSome input (λ bytes. (rest : List ℕ) × (lines_of bytes ≡ come.lines ++ lines_of rest))
      known None others = tt
      known (Some bytes) (rest, is, all) = (rest, all)

  begun : BeginsBy input come.output
  begun = (come.lines, w, t, is_begun)

  -- a session of the greatest number of lines
  pub come_long : count ≡ most_lines → IsConversationCut TooLong input old mid
  come_long most = (come.lines, come.output, w, t, is_begun, sym come.counted ∙ most, come.shown)

  -- a fault of a turn
  pub come_cut : (fault : ShellFault) (number : ℕ) (new : Option (List ℕ)) → number ≡ count + 1 → IsTurnCut fault number left w t mid new → IsConversationCut fault input old new
  come_cut (Read unread) number new is cut = (come.output, begun, kept_on old mid new come.output come.shown cut)
  come_cut Memory number new is cut = inr (come.output, begun, kept_on old mid new come.output come.shown cut)
  come_cut TooLong number new is cut = absurd cut
  come_cut Mismatch number new is cut = absurd cut
  come_cut (Write unwritten) number new is (line, text, variables', s', taken, one, front) = (
    come.output ++ text,
    (
      come.lines ++ line ∷ [],
      variables',
      s',
      (
        first,
        fresh,
        subst (λ x. AreAnswered 1 (come.lines ++ line ∷ []) first_variables x (come.output ++ text) variables' s') is_opening
            (subst (λ x. AreAnswered 1 (come.lines ++ line ∷ []) x s (come.output ++ text) variables' s') are_first
            (one_more come.lines 1 number line variables w variables' s t s' come.output text come.answered (omega (arith, is, come.counted)) one)),
        known input come.others,
      ),
    ),
    append-front old mid new come.output text come.shown front,
  )
    where
      known : (input : Option (List ℕ)) → IfSome input (λ bytes. (rest : List ℕ) × (left ≡ Some rest) × (lines_of bytes ≡ come.lines ++ lines_of rest))
          → IfSome input (λ bytes. (rest : List ℕ) × (lines_of bytes ≡ (come.lines ++ line ∷ []) ++ lines_of rest))
      known None others = tt
      known (Some bytes) (rest, same, all) =
          let (after, begins) = subst (λ l. IfSome l (λ bs. (r : List ℕ) × (lines_of bs ≡ line ∷ lines_of r))) same taken in
          (after, all ∙ ap (λ ls. come.lines ++ ls) begins ∙ sym (append_assoc come.lines (line ∷ []) (lines_of after)))
