-- Nothing is reported of scripts that can be cut, and of no others.
use Rattle.std.proofs.Common.{◌≡◌, ◌↔◌, ℕ, ◌+◌, inl, inr, List, [], ◌∷◌, ◌++◌, refl, sym, subst, ◌∙◌}
use Rattle.ob_lines.specs.Lines.{lines_of}
use Rattle.ob_worker_lines.specs.declared.phase.Phase.{Phase}
use Rattle.ob_worker_lines.specs.declared.phase.Phase.TheVariants.{Before, Worker, After}
use Rattle.ob_worker_lines.specs.Cuts.{CanBeCut, IsSeatLine, Lines}
use Rattle.ob_worker_lines.specs.Phases.{AreRight, BeginsWorker, EndsWorkers, IsRight}
use Rattle.ob_worker_lines.proofs.Apart.{join_no_seat_line, join_no_thread, thread_no_seat_line}
use Rattle.ob_worker_lines.proofs.Righted.{rights_cut}
use Rattle.ob_check.specs.declared.check.Checked.{Checked}
use Rattle.ob_check.specs.declared.check.Checked.TheVariants.{Clean, Faulty}
use Rattle.ob_check.specs.Report.{CleanScriptsAreCut, IsChecked, IsReported, ReportsScript}

-- a line that is right leads to one phase
begins_one : (p q r : Phase) → BeginsWorker p q → BeginsWorker p r → q ≡ r
begins_one Before q r e f = e ∙ sym f
begins_one (Worker n) q r (less, e) (less', f) = e ∙ sym f
begins_one After q r e f = absurd e

ends_one : (p q r : Phase) → EndsWorkers p q → EndsWorkers p r → q ≡ r
ends_one Before q r e f = absurd e
ends_one (Worker n) q r e f = e ∙ sym f
ends_one After q r e f = absurd e

right_once : (p : Phase) (line : List ℕ) (q r : Phase) → IsRight p line q → IsRight p line r → q ≡ r
right_once p line q r (inl (seat, e)) (inl (seat', f)) = e ∙ sym f
right_once p line q r (inl (seat, e)) (inr (inl (t, f))) = absurd (thread_no_seat_line (subst IsSeatLine t seat))
right_once p line q r (inl (seat, e)) (inr (inr (j, f))) = absurd (join_no_seat_line (subst IsSeatLine j seat))
right_once p line q r (inr (inl (t, e))) (inl (seat, f)) = absurd (thread_no_seat_line (subst IsSeatLine t seat))
right_once p line q r (inr (inr (j, e))) (inl (seat, f)) = absurd (join_no_seat_line (subst IsSeatLine j seat))
right_once p line q r (inr (inl (t, e))) (inr (inl (t', f))) = begins_one p q r e f
right_once p line q r (inr (inl (t, e))) (inr (inr (j, f))) = absurd (join_no_thread (sym j ∙ t))
right_once p line q r (inr (inr (j, e))) (inr (inl (t, f))) = absurd (join_no_thread (sym j ∙ t))
right_once p line q r (inr (inr (j, e))) (inr (inr (j', f))) = ends_one p q r e f

-- lines of which nothing is reported are right, and of lines that are right nothing is
clean_right : (number : ℕ) (phase : Phase) (lines : Lines) (next : Phase) → IsReported number phase lines [] next → AreRight phase lines
clean_right n p [] next r = tt
clean_right n p (l ∷ ls) next (inl (a, here, more)) = (a, here, clean_right (n + 1) a ls next more)
clean_right n p (l ∷ ls) next (inr (m, rest, wrong, e, more)) = cc

right_clean : (number : ℕ) (phase : Phase) (lines : Lines) (output : List ℕ) (next : Phase) → AreRight phase lines → IsReported number phase lines output next → output ≡ []
right_clean n p [] o next r (e, f) = e
right_clean n p (l ∷ ls) o next (q, is, r) (inl (a, here, more)) =
    right_clean (n + 1) a ls o next (subst (λ x. AreRight x ls) (right_once p l q a is here) r) more
right_clean n p (l ∷ ls) o next (q, is, r) (inr (m, rest, wrong, e, more)) = absurd (wrong.0 q is)

empty_clean : (checked : Checked) (output : List ℕ) → IsChecked checked output → output ≡ [] → checked ≡ Clean
empty_clean Clean output is e = refl
empty_clean Faulty output is e = absurd (is e)

pub clean_cut : CleanScriptsAreCut
clean_cut script checked output (next, reported, is) = (cut, clean)
  where
    cut : checked ≡ Clean → CanBeCut (lines_of script)
    cut e =
        let empty : output ≡ [] = subst (λ x. IsChecked x output) e is in
        (rights_cut (lines_of script)).0 (clean_right 1 Before (lines_of script) next (subst (λ x. IsReported 1 Before (lines_of script) x next) empty reported))

    clean : CanBeCut (lines_of script) → checked ≡ Clean
    clean c = empty_clean checked output is (right_clean 1 Before (lines_of script) output next ((rights_cut (lines_of script)).1 c) reported)
