-- One worker more was gathered.
use Rattle.std.proofs.Common.{◌≡◌, ◌∙◌, ◌++◌, ◌∷◌, [], OnOk, Ok, All, ap, sym, subst}
use Rattle.std.proofs.lemmas.List.{map-append}
use Rattle.ob_threads.specs.Ended.{told_of}
use Rattle.ob_threads.proofs.Gathered.{told_more, told_push}
use Rattle.ob_threads.proofs.workers.gather.Goals as goal

pub loop-done-preserved : goal.loop-done-preserved
loop-done-preserved g c = (
  c.in_ok-push.ensures.items ∙ (ap (λ ps. ps ++ c.in-Some.done.pass ∷ []) c.loop-done.invariant.0 ∙ sym (map-append (λ done. done.pass) c.loop-done.yielded (c.in-Some.done ∷ []))),
  subst (λ r. OnOk r (All (λ done. done.ended ≡ Ok tt) (c.loop-done.yielded ++ c.in-Some.done ∷ []))) (sym c.told_of-ended.ensures)
      (told_more (λ done. done.ended) c.loop-done.yielded c.in-Some.done c.loop-done.ended c.loop-done.invariant.1),
  c.told_of-ended.ensures ∙ (ap (λ e. told_of e c.in-Some.done.ended) c.loop-done.invariant.2 ∙ sym (told_push (λ done. done.ended) c.loop-done.yielded c.in-Some.done)),
)
