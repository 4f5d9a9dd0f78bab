-- Lines are cut in one way.
use Rattle.std.proofs.Common.{◌≡◌, inl, inr, List, [], ◌∷◌, ◌++◌, drop, refl, sym, ap, subst, ◌∙◌, append_assoc, append-nil}
use Rattle.std.specs.List.{AllByRecursion}
use Rattle.ob_worker_lines.specs.Cuts.{Lines, join_line, AreSeatLines, IsStopped, worker_lines, IsEnd, IsCut, ScriptsHaveOneCut}
use Rattle.ob_worker_lines.proofs.Apart.{IsPast, end_stopped, end_past, workers_stopped}

-- lines of a seat, and what stops them, are told apart
pub parts_alike : (a b s t : Lines) → AreSeatLines a → AreSeatLines b → IsStopped s → IsStopped t → a ++ s ≡ b ++ t → (a ≡ b) × (s ≡ t)
parts_alike [] [] s t la lb ss st e = (refl, e)
parts_alike [] (y ∷ b) s t la lb ss st e = absurd (subst IsStopped e ss lb.0)
parts_alike (x ∷ a) [] s t la lb ss st e = absurd (subst IsStopped (sym e) st la.0)
parts_alike (x ∷ a) (y ∷ b) s t la lb ss st e =
    let here : x ≡ y = cc in
    let there : a ++ s ≡ b ++ t = ap (drop 1) e in
    let more = parts_alike a b s t la.1 lb.1 ss st there in
    (rw (here, more.0) refl, more.1)

same_lists : (v u : Lines) (vs ws : List Lines) → v ≡ u → vs ≡ ws → v ∷ vs ≡ u ∷ ws
same_lists v u vs ws e f = cc

-- the lines of workers, up to what begins with no `thread`, are those of the same workers as far as these go
pub workers_alike : (us vs : List Lines) (s t : Lines) → AllByRecursion AreSeatLines us → AllByRecursion AreSeatLines vs → IsStopped s → IsStopped t → IsPast t
    → worker_lines us ++ s ≡ worker_lines vs ++ t → (more : List Lines) × (vs ≡ us ++ more) × (s ≡ worker_lines more ++ t)
workers_alike [] vs s t lu lv ss st past e = (vs, refl, e)
workers_alike (u ∷ us) [] s t lu lv ss st past e = absurd (subst IsPast (sym e) past refl)
workers_alike (u ∷ us) (v ∷ vs) s t lu lv ss st past e =
    let behind : (u ++ worker_lines us) ++ s ≡ (v ++ worker_lines vs) ++ t = ap (drop 1) e in
    let same : u ++ (worker_lines us ++ s) ≡ v ++ (worker_lines vs ++ t) = sym (append_assoc u (worker_lines us) s) ∙ (behind ∙ append_assoc v (worker_lines vs) t) in
    let parts = parts_alike u v (worker_lines us ++ s) (worker_lines vs ++ t) lu.0 lv.0 (workers_stopped us s ss) (workers_stopped vs t st) same in
    let more = workers_alike us vs s t lu.1 lv.1 ss st past parts.1 in
    (more.0, same_lists v u vs (us ++ more.0) (sym parts.0) more.1, more.2)

-- no more workers, where no `thread` stands
pub none_more : (more : List Lines) (s t : Lines) → IsPast s → s ≡ worker_lines more ++ t → (more ≡ []) × (s ≡ t)
none_more [] s t past e = (refl, e)
none_more (lines ∷ more) s t past e = absurd (subst IsPast e past refl)

-- a cut of lines that begin with those of seat 0 and of workers begins with them too
pub record GoesOn (before : Lines) (workers : List Lines) (s before' : Lines) (workers' : List Lines) (behind' : Lines) : Type 0 where
  pub same : before' ≡ before
  pub more : List Lines
  pub workers_are : workers' ≡ workers ++ more
  pub end : Lines
  pub joined : IsEnd workers' behind' end
  pub rest_is : s ≡ worker_lines more ++ end

pub cut_goes_on : (before : Lines) (workers : List Lines) (s lines before' : Lines) (workers' : List Lines) (behind' : Lines)
    → AreSeatLines before → AllByRecursion AreSeatLines workers → IsStopped s → lines ≡ before ++ worker_lines workers ++ s
    → IsCut lines before' workers' behind' → GoesOn before workers s before' workers' behind'
cut_goes_on before workers s lines before' workers' behind' lb lw ss e cut =
    let both : before ++ (worker_lines workers ++ s) ≡ before' ++ (worker_lines workers' ++ cut.end) =
    sym (append_assoc before (worker_lines workers) s) ∙ (sym e ∙ (cut.whole ∙ append_assoc before' (worker_lines workers') cut.end)) in
    let stops = end_stopped workers' behind' cut.end cut.joined in
    let parts = parts_alike before before' (worker_lines workers ++ s) (worker_lines workers' ++ cut.end) lb cut.before_lines
    (workers_stopped workers s ss) (workers_stopped workers' cut.end stops) both in
    let more = workers_alike workers workers' s cut.end lw cut.workers_lines ss stops (end_past workers' behind' cut.end cut.joined) parts.1 in
    record { same = sym parts.0; more = more.0; workers_are = more.1; end = cut.end; joined = cut.joined; rest_is = more.2 }

-- what follows the workers is one thing
pub ends_alike : (us vs : List Lines) (behind behind' end end' : Lines) → IsEnd us behind end → IsEnd vs behind' end' → end ≡ end' → behind ≡ behind'
ends_alike us vs behind behind' end end' (inl (e, b)) (inl (f, c)) s = b ∙ sym c
ends_alike us vs behind behind' end end' (inl (e, b)) (inr (some, f)) s = let none : [] ≡ join_line ∷ behind' = sym e ∙ (s ∙ f) in cc
ends_alike us vs behind behind' end end' (inr (some, e)) (inl (f, c)) s = let none : join_line ∷ behind ≡ [] = sym e ∙ (s ∙ f) in cc
ends_alike us vs behind behind' end end' (inr (some, e)) (inr (any, f)) s = ap (drop 1) (sym e ∙ (s ∙ f))

pub cuts_alike : ScriptsHaveOneCut
cuts_alike lines before before' behind behind' workers workers' cut other =
    let on = cut_goes_on before workers cut.end lines before' workers' behind' cut.before_lines cut.workers_lines
    (end_stopped workers behind cut.end cut.joined) cut.whole other in
    let none = none_more on.more cut.end on.end (end_past workers behind cut.end cut.joined) on.rest_is in (
      sym on.same,
      sym (on.workers_are ∙ (ap (λ m. workers ++ m) none.0 ∙ append-nil workers)),
      ends_alike workers workers' behind behind' cut.end on.end cut.joined on.joined none.1,
    )
