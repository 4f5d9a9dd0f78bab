-- What is kept are the tickets that pass the test.
use Rattle.std.proofs.Common.{rules, ◌==◌, not}
use Rattle.std.proofs.lemmas.Fn.{filter_same}
use Rattle.ob_random_tests.proofs.game.forget.Goals as goal

pub returns : goal.returns
returns c = filter_same _ (λ k. not (k == c.args.ticket)) _ (λ x b f t. search rules) _ _ c.retain.ensures.filtered
