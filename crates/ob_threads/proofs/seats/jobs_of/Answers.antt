-- One job more.
use Rattle.std.proofs.Common.{◌≡◌, [], All, sym, subst, arith}
use Rattle.std.proofs.lemmas.List.Elements.{All-push}
use Rattle.ob_requests.specs.Tables.{variables_in}
use Rattle.ob_seats.specs.Kept.{AreHeld, for_worker}
use Rattle.ob_threads.proofs.CutOff.{mapped_more, removed_first, same_there}
use Rattle.ob_threads.proofs.seats.jobs_of.Goals as goal

pub loop-part-preserved : goal.loop-part-preserved
loop-part-preserved g c = (
  mapped_more (λ job. job.part) c.loop-part.jobs.items c.push.new.self.items _ c.args.parts.now c.loop-part.part-index c.in_ok-push.ensures.items c.loop-part.invariant.0 c.loop-part-test.true (same_there c.args.parts.now c.loop-part.part-index _ _ c.loop-part-test.true),
  removed_first (λ job. job.pass) c.loop-part.jobs.items c.push.new.self.items c.loop-part.passes.items c.remove-pass.new.self.items c.args.passes.items _ c.in_ok-push.ensures.items c.remove-pass.ensures.value c.remove-pass.ensures.by_index.2 (omega (arith, c.loop-part.invariant.2, c.loop-part-test.true)) c.loop-part.invariant.1,
  omega (arith, c.loop-part.invariant.2, c.remove-pass.ensures.len),
  subst (All (λ job. variables_in job.variables ≡ for_worker (variables_in c.args.seat.now.variables))) (sym c.in_ok-push.ensures.items) (All-push (λ job. variables_in job.variables ≡ for_worker (variables_in c.args.seat.now.variables)) c.loop-part.jobs.items _ c.loop-part.invariant.3 c.in_ok-variables.ensures.variables),
  subst (All (λ job. AreHeld (variables_in job.variables).tickets [])) (sym c.in_ok-push.ensures.items) (All-push (λ job. AreHeld (variables_in job.variables).tickets []) c.loop-part.jobs.items _ c.loop-part.invariant.4 c.in_ok-variables.ensures.none),
)
