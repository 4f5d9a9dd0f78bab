-- Lines that were reported one after another, and what was gathered of the report.
use Rattle.std.proofs.Common.{◌≡◌, ◌≢◌, ◌↔◌, ℕ, ◌+◌, inl, inr, List, [], ◌∷◌, ◌++◌, length, Option, refl, ap, sym, subst, ◌∙◌, append_assoc, append-nil, length-append, arith}
use Rattle.std.specs.Io.KnownBytes.{Appends}
use Rattle.ob_lines.specs.declared.misfit.Misfit.{Misfit}
use Rattle.ob_lines.specs.Lines.{lines_of}
use Rattle.ob_output.specs.Gathering.{Gathers}
use Rattle.ob_output.proofs.Gathered.{gathers_front, gathers_more, gathers_nothing, gathers_out, gathers_out_front}
use Rattle.ob_output.specs.Writing.{AppendsFront}
use Rattle.ob_worker_lines.specs.declared.phase.Phase.{Phase}
use Rattle.ob_worker_lines.specs.declared.phase.Phase.TheVariants.{Before}
use Rattle.ob_worker_lines.specs.Cuts.{Lines}
use Rattle.ob_worker_lines.specs.Phases.{AreRight, IsRight, IsWrong}
use Rattle.ob_check.specs.declared.check.Checked.{Checked}
use Rattle.ob_check.specs.declared.check.Checked.TheVariants.{Clean, Faulty}
use Rattle.ob_check.specs.Report.{IsChecked, IsReported, ReportsScript, WritesReport, WritesReportPart, fault_line}

-- one line more that is right, and one that is wrong
right_more : (number : ℕ) (phase : Phase) (lines : Lines) (output : List ℕ) (mid : Phase) (line : List ℕ) (next : Phase)
    → IsReported number phase lines output mid → IsRight mid line next → IsReported number phase (lines ++ line ∷ []) output next
right_more n p [] o q l r (e, f) is = inl (r, subst (λ x. IsRight x l r) f is, (e, refl))
right_more n p (x ∷ ls) o q l r (inl (a, here, more)) is = inl (a, here, right_more (n + 1) a ls o q l r more is)
right_more n p (x ∷ ls) o q l r (inr (m, rest, here, e, more)) is = inr (m, rest, here, e, right_more (n + 1) p ls rest q l r more is)

wrong_more : (number : ℕ) (phase : Phase) (lines : Lines) (output : List ℕ) (mid : Phase) (line : List ℕ) (misfit : Misfit) (last : ℕ) → last ≡ number + length lines
    → IsReported number phase lines output mid → IsWrong mid line misfit → IsReported number phase (lines ++ line ∷ []) (output ++ fault_line last mid misfit) mid
wrong_more n p [] o q l m k c (e, f) is =
    let same : k ≡ n = omega (arith, c) in
    let text : o ++ fault_line k q m ≡ fault_line n p m ++ [] = rw (e, f, same) (sym (append-nil (fault_line n p m))) in
    inr (m, [], subst (λ x. IsWrong x l m) f is, text, (refl, f))
wrong_more n p (x ∷ ls) o q l m k c (inl (a, here, more)) is = inl (a, here, wrong_more (n + 1) a ls o q l m k (omega (arith, c)) more is)
wrong_more n p (x ∷ ls) o q l m k c (inr (m', rest, here, e, more)) is =
    inr (
      m',
      rest ++ fault_line k q m,
      here,
      ap (λ z. z ++ fault_line k q m) e ∙ append_assoc (fault_line n p m') rest (fault_line k q m),
      wrong_more (n + 1) p ls rest q l m k (omega (arith, c)) more is,
    )

-- the script's first lines, of this number, are reported, and so much of the report was gathered
pub record ReportsSoFar (old new : Option (List ℕ)) (has script rest : List ℕ) (number : ℕ) (phase : Phase) (checked : Checked) : Type 0 where
  pub first : Lines
  pub output : List ℕ
  pub whole : lines_of script ≡ first ++ lines_of rest
  pub reported : IsReported 1 Before first output phase
  pub counted : number ≡ length first
  pub found : IsChecked checked output
  pub gathered : Gathers old new [] output has

pub so_far_first : (old : Option (List ℕ)) (has script : List ℕ) → has ≡ [] → ReportsSoFar old old has script script 0 Before Clean
so_far_first old has script e = record {
  first = [];
  output = [];
  whole = refl;
  reported = (refl, refl);
  counted = refl;
  found = refl;
  gathered = subst (λ x. Gathers old old [] [] x) (sym e) (gathers_nothing old []);
}

whole_more : (script rest behind : List ℕ) (first : Lines) (line : List ℕ) → lines_of script ≡ first ++ lines_of rest → lines_of rest ≡ line ∷ lines_of behind
    → lines_of script ≡ (first ++ line ∷ []) ++ lines_of behind
whole_more script rest behind first line e f = e ∙ (ap (λ (z : Lines). first ++ z) f ∙ sym (append_assoc first (line ∷ []) (lines_of behind)))

counted_more : (first : Lines) (line : List ℕ) (number : ℕ) → number ≡ length first → number + 1 ≡ length (first ++ line ∷ [])
counted_more first line number e = let len = length-append first (line ∷ []) in omega (arith, e, len)

pub so_far_right : (old new : Option (List ℕ)) (has script rest behind line : List ℕ) (number : ℕ) (phase next : Phase) (checked : Checked)
    → ReportsSoFar old new has script rest number phase checked → lines_of rest ≡ line ∷ lines_of behind → IsRight phase line next
    → ReportsSoFar old new has script behind (number + 1) next checked
so_far_right old new has script rest behind line number phase next checked s e is = record {
  first = s.first ++ line ∷ [];
  output = s.output;
  whole = whole_more script rest behind s.first line s.whole e;
  reported = right_more 1 Before s.first s.output phase line next s.reported is;
  counted = counted_more s.first line number s.counted;
  found = s.found;
  gathered = s.gathered;
}

-- a line of a report isn't empty
some_report : (output : List ℕ) (number : ℕ) (phase : Phase) (misfit : Misfit) → output ++ fault_line number phase misfit ≢ []
some_report [] number phase misfit e = cc
some_report (c ∷ cs) number phase misfit e = cc

pub so_far_wrong : (old mid new : Option (List ℕ)) (had has script rest behind line : List ℕ) (number : ℕ) (phase : Phase) (misfit : Misfit) (checked : Checked)
    → ReportsSoFar old mid had script rest number phase checked → lines_of rest ≡ line ∷ lines_of behind → IsWrong phase line misfit
    → Gathers mid new had (fault_line (number + 1) phase misfit) has → ReportsSoFar old new has script behind (number + 1) phase Faulty
so_far_wrong old mid new had has script rest behind line number phase misfit checked s e is g = record {
  first = s.first ++ line ∷ [];
  output = s.output ++ fault_line (number + 1) phase misfit;
  whole = whole_more script rest behind s.first line s.whole e;
  reported = wrong_more 1 Before s.first s.output phase line misfit (number + 1) (omega (arith, s.counted)) s.reported is;
  counted = counted_more s.first line number s.counted;
  found = some_report s.output (number + 1) phase misfit;
  gathered = gathers_more old mid new [] had has s.output (fault_line (number + 1) phase misfit) s.gathered g;
}

pub so_far_part : (old mid new : Option (List ℕ)) (had script rest behind line : List ℕ) (number : ℕ) (phase : Phase) (misfit : Misfit) (checked : Checked)
    → ReportsSoFar old mid had script rest number phase checked → lines_of rest ≡ line ∷ lines_of behind → IsWrong phase line misfit
    → AppendsFront mid new (had ++ fault_line (number + 1) phase misfit) → WritesReportPart old new script
so_far_part old mid new had script rest behind line number phase misfit checked s e is f = (
  s.first ++ line ∷ [],
  lines_of behind,
  s.output ++ fault_line (number + 1) phase misfit,
  phase,
  whole_more script rest behind s.first line s.whole e,
  wrong_more 1 Before s.first s.output phase line misfit (number + 1) (omega (arith, s.counted)) s.reported is,
  gathers_front old mid new [] had s.output (fault_line (number + 1) phase misfit) s.gathered f,
)

pub so_far_last : (old new : Option (List ℕ)) (has script rest : List ℕ) (number : ℕ) (phase : Phase) (checked : Checked)
    → ReportsSoFar old new has script rest number phase checked → rest ≡ [] → (output : List ℕ) × ReportsScript script checked output × Gathers old new [] output has
so_far_last old new has script rest number phase checked s e =
    let all : lines_of script ≡ s.first = s.whole ∙ (ap (λ z. s.first ++ lines_of z) e ∙ append-nil s.first) in
    (s.output, (phase, subst (λ x. IsReported 1 Before x s.output phase) (sym all) s.reported, s.found), s.gathered)

-- what was gathered is written
pub report_written : (old mid new : Option (List ℕ)) (script has : List ℕ) (checked : Checked) → (output : List ℕ) × ReportsScript script checked output × Gathers old mid [] output has
    → Appends mid new has → WritesReport old new script checked
report_written old mid new script has checked (output, reports, g) a = (output, reports, gathers_out old mid new output has g a)

pub report_part : (old mid new : Option (List ℕ)) (script has : List ℕ) (checked : Checked) → (output : List ℕ) × ReportsScript script checked output × Gathers old mid [] output has
    → AppendsFront mid new has → WritesReportPart old new script
report_part old mid new script has checked (output, (next, reported, is), g) f =
    (lines_of script, [], output, next, sym (append-nil (lines_of script)), reported, gathers_out_front old mid new output has g f)
