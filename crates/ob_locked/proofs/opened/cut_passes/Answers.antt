-- One more pass is that of the next seat.
use Rattle.std.proofs.Common.{◌∙◌, ◌∷◌, [], ◌++◌, map, ap, sym, arith}
use Rattle.std.specs.List.{range_with_len}
use Rattle.std.proofs.lemmas.List.FromFn.{map-range_with_len_more}
use Rattle.ob_locked.specs.Opened.{fresh_pass}
use Rattle.ob_locked.proofs.opened.cut_passes.Goals as goal

pub loop-seat-preserved : goal.loop-seat-preserved
loop-seat-preserved g c =
    let so_far = c.loop-seat.invariant in
    let cut = c.split_off-share.ensures in (
      c.in_ok-push-2.ensures.items ∙ ap (λ ps. ps ++ c.new-in-loop-seat.result ∷ []) so_far.0 ∙ ap (λ p. map fresh_pass (range_with_len 0 c.loop-seat.seat) ++ p ∷ []) c.new-in-loop-seat.ensures
          ∙ sym (map-range_with_len_more fresh_pass 0 c.loop-seat.seat c.loop-seat.seat (omega arith)),
      omega (arith, cut.amount_left, so_far.1),
      omega (arith, cut.parts_left, so_far.2),
    )
