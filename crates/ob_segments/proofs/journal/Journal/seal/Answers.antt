use Rattle.std.proofs.Common.{◌≡◌, ◌≤◌, ◌<◌, ◌+◌, [], length, map, ap, ◌∙◌, arith, vec_capacity}
use Rattle.std.specs.Arc.{arc_value}
use Rattle.std.proofs.lemmas.List.{length-map}
use Rattle.ob_entries.specs.Segments.{most_entries}
use Rattle.ob_segments.proofs.Lists.{length-joined, length-unsealed, map-pushed, sealed_one, kept-sealed, kept-apart}
use Rattle.ob_segments.proofs.journal.Journal.seal.Goals as goal

pub overflow_add-first : goal.overflow_add-first
overflow_add-first g c = omega (arith, length-joined 1 1 _ c.self.invariant.order)

pub overflow_add-self : goal.overflow_add-self
overflow_add-self g c =
    let s = c.self.inside in
    let ss = map arc_value s.sealed.items in
    let n = length-unsealed ss s.shown s.tail.items s.places ∙ ap (λ p. length p.journal.unsealed) c.self.view_is in
    omega (arith, n, length-joined 1 1 ss c.self.invariant.order)

pub invariant_of-self-in-Ok : goal.invariant_of-self-in-Ok
invariant_of-self-in-Ok g c =
    let s = c.self.inside in
    let ss = map arc_value s.sealed.items in
    let n = length-unsealed ss s.shown s.tail.items s.places ∙ ap (λ p. length p.journal.unsealed) c.self.view_is in
    let pushed = map-pushed arc_value s.sealed.items _ c.push_reserved.new.self.items c.fill.new.segment (sealed_one s.shown s.before s.tail.items) c.in_ok-reserve.ensures.items c.push_reserved.ensures.items c.if-not-fill.ensures.filled in
    let emptied : c.fill.new.entries.items ≡ [] = ap (λ v. v.items) c.if-not-fill.ensures.emptied ∙ c.in_ok-room.ensures.items in
    let room : vec_capacity c.fill.new.entries ≡ c.max-places.result = ap (λ v. vec_capacity v) c.if-not-fill.ensures.emptied ∙ c.in_ok-room.ensures.exact in
    let up : length ss ≤ s.shown = omega (arith, length-map s.sealed.items arc_value, s.sealed.ok.0) in
    let any : 0 < s.apart + length s.tail.items = omega (arith, n) in
    let most : length s.tail.items ≤ most_entries = omega (arith, n) in
    let count : c.len-count.result ≡ length s.tail.items = c.len-count.ensures ∙ s.tail.ok.0 in
    kept-sealed ss _ s.shown s.before s.apart c.len-count.result s.tail.items c.fill.new.entries.items s.places _ (vec_capacity s.tail) _ c.self.invariant up (omega arith) any most pushed count emptied (omega arith) (omega arith)

pub invariant_of-self-in-Err : goal.invariant_of-self-in-Err
invariant_of-self-in-Err g c =
    let s = c.self.inside in
    let ss = map arc_value s.sealed.items in
    let n = length-unsealed ss s.shown s.tail.items s.places ∙ ap (λ p. length p.journal.unsealed) c.self.view_is in
    let pushed = map-pushed arc_value s.sealed.items _ c.push_reserved.new.self.items c.fill.new.segment (sealed_one s.shown s.before s.tail.items) c.in_ok-reserve.ensures.items c.push_reserved.ensures.items c.if-not-fill.ensures.filled in
    let emptied : c.fill.new.entries.items ≡ [] = ap (λ v. v.items) c.if-not-fill.ensures.emptied ∙ c.in_ok-room.ensures.items in
    let room : vec_capacity c.fill.new.entries ≡ c.max-places.result = ap (λ v. vec_capacity v) c.if-not-fill.ensures.emptied ∙ c.in_ok-room.ensures.exact in
    let up : length ss ≤ s.shown = omega (arith, length-map s.sealed.items arc_value, s.sealed.ok.0) in
    let any : 0 < s.apart + length s.tail.items = omega (arith, n) in
    let most : length s.tail.items ≤ most_entries = omega (arith, n) in
    let count : c.len-count.result ≡ length s.tail.items = c.len-count.ensures ∙ s.tail.ok.0 in
    kept-apart ss _ s.shown s.before s.apart c.len-count.result s.tail.items c.fill.new.entries.items s.places (vec_capacity s.tail) _ c.self.invariant up (omega arith) any most pushed count emptied (omega arith)
