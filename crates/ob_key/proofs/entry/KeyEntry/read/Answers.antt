-- What stands behind the first `>` of a text of the profile is one.
use Rattle.std.proofs.Common.{◌≡◌, ◌+◌, ◌==◌, IsTrue, rules, subst, sym}
use Rattle.std.specs.List.{after_first, position_or_len}
use Rattle.ob_model.specs.Names.{is_profile_text}
use Rattle.ob_names.proofs.Parts.{is_profile_text-drop}
use Rattle.ob_key.proofs.entry.KeyEntry.read.Goals as goal

pub new-requires : goal.new-requires
new-requires c =
    let is : c.in-Some.target.now ≡ after_first (λ b. b == 62) c.args.piece.now = search rules in
    subst (λ text. IsTrue (is_profile_text text)) (sym is) (is_profile_text-drop (position_or_len (λ b. b == 62) c.args.piece.now + 1) c.args.piece.now c.requires)
