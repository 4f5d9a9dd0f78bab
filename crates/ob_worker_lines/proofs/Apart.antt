-- The lines `thread` and `join` are no lines of a seat, and `seal` is none of a script without workers.
use Rattle.std.proofs.Common.{◌≡◌, ℕ, inl, inr, eqb, false, List, [], ◌∷◌, ◌++◌, length, get_or, refl, ap, sym, subst, arith, codes}
use Rattle.std.specs.Str.{bytes_eq}
use Rattle.ob_lines.specs.declared.request.Request.{Request}
use Rattle.ob_lines.specs.declared.pending.PendingForm.{PendingForm}
use Rattle.ob_lines.specs.declared.form.Form.TheVariants.{Nothing, Asks, Waits}
use Rattle.ob_lines.specs.Grammar.{IsLine}
use Rattle.ob_lines.proofs.LineForms.{no_form}
use Rattle.ob_parts.specs.Text.{Lacks}
use Rattle.ob_parts.proofs.Flagged.{lacks_from_test}
use Rattle.ob_parts.proofs.Readings.{differ}
use Rattle.ob_parts.proofs.Processed.{process_uncut}
use Rattle.ob_worker_lines.specs.Cuts.{Lines, thread_line, join_line, seal_line, IsScriptLine, IsSeatLine, IsStopped, worker_lines, IsEnd}
use Rattle.ob_worker_lines.specs.Forms.{SealIsNoScriptLine}

-- a line that has a first byte other than `#` isn't idle
not_idle : (line : List ℕ) → eqb (length line) 0 ≡ false → (get_or line 0 0 ≡ 0x23 → ⊥) → ¬ IsLine line Nothing
not_idle line long first (inl e, short) = let empty = rw e at long in cc
not_idle line long first (inr (comment, e), short) = first (ap (λ (z : List ℕ). get_or z 0 0) e)

-- a line with no space asks for nothing
asks_nothing : (line : List ℕ) → Lacks 0x20 line
    → ((p : List ℕ) (r : Request (List ℕ)) → ¬ IsLine line (Asks p r)) × ((p : List ℕ) (w : PendingForm (List ℕ)) → ¬ IsLine line (Waits p w))
asks_nothing line lacks = ((λ p r s. process_uncut line p s.0 lacks s.1), (λ p w s. process_uncut line p s.0 lacks s.1))

-- so where it isn't `stat` either, it is no line of a script without workers
no_script_line : (line : List ℕ) → eqb (length line) 0 ≡ false → (get_or line 0 0 ≡ 0x23 → ⊥) → bytes_eq line (codes "stat") ≡ false → Lacks 0x20 line
    → ¬ IsScriptLine line
no_script_line line long first stat lacks (form, is) =
    no_form line false refl (λ idle. absurd (not_idle line long first idle)) (differ line (codes "stat") stat) (asks_nothing line lacks) form is

pub seal_no_script_line : SealIsNoScriptLine
seal_no_script_line = no_script_line seal_line refl (λ e. omega (arith, e)) refl (lacks_from_test 0x20 seal_line refl)

pub thread_no_seat_line : ¬ IsSeatLine thread_line
thread_no_seat_line (inl is) = no_script_line thread_line refl (λ e. omega (arith, e)) refl (lacks_from_test 0x20 thread_line refl) is
thread_no_seat_line (inr is) = differ thread_line seal_line refl is

pub join_no_seat_line : ¬ IsSeatLine join_line
join_no_seat_line (inl is) = no_script_line join_line refl (λ e. omega (arith, e)) refl (lacks_from_test 0x20 join_line refl) is
join_no_seat_line (inr is) = differ join_line seal_line refl is

pub join_no_thread : ¬ (join_line ≡ thread_line)
join_no_thread e = differ join_line thread_line refl e

-- the first of these lines, where there is one, is no `thread`
abbrev pub IsPast : Lines → Type 0
IsPast [] = Unit {0}
IsPast (line ∷ lines) = ¬ (line ≡ thread_line)

-- what follows the lines of workers begins with neither
pub end_stopped : (workers : List Lines) (behind end : Lines) → IsEnd workers behind end → IsStopped end
end_stopped workers behind end (inl e) = subst IsStopped (sym e.0) tt
end_stopped workers behind end (inr e) = subst IsStopped (sym e.1) join_no_seat_line

pub end_past : (workers : List Lines) (behind end : Lines) → IsEnd workers behind end → IsPast end
end_past workers behind end (inl e) = subst IsPast (sym e.0) tt
end_past workers behind end (inr e) = subst IsPast (sym e.1) join_no_thread

-- nor do the lines of workers begin with a line of a seat
pub workers_stopped : (workers : List Lines) (end : Lines) → IsStopped end → IsStopped (worker_lines workers ++ end)
workers_stopped [] end s = s
workers_stopped (lines ∷ workers) end s = thread_no_seat_line
