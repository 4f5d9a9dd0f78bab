-- The items of a list are as many as its entries.
use Rattle.std.proofs.Common.{◌≡◌, ◌==◌, false, length, arith, ap, sym, ◌∙◌}
use Rattle.std.specs.Option.{option_map_or}
use Rattle.serde_json.specs.Events.{items_len}
use Rattle.serde_json.proofs.Views.{items_len-items_view}
use Rattle.ob_reader.proofs.members.has_items.Goals as goal

pub returns-in-Some : goal.returns-in-Some
returns-in-Some c =
    let many : c.len.result ≡ length c.in-Some.items.now.items = omega (arith, c.len.ensures, c.in-Some.items.now.ok.0) in
    ap (λ n. n == c.args.count) (many ∙ sym (items_len-items_view c.in-Some.items.now.items))
    ∙ ap (λ o. option_map_or (λ items. items_len items == c.args.count) o false) c.in-Some.ensures
