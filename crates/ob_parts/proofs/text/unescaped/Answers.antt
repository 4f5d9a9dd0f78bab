-- Each byte that is spelled stands behind those before it.
use Rattle.std.proofs.Common.{◌≡◌, ◌++◌, ◌∷◌, [], List, ℕ, append_assoc, arith}
use Rattle.std.proofs.lemmas.List.{append-nil}
use Rattle.ob_parts.specs.Text.{SpellsByte, Spells}
use Rattle.ob_parts.proofs.Spelled.{text_went_on, text_ends}
use Rattle.ob_parts.proofs.text.unescaped.Invariants.{IsDecoded}
use Rattle.ob_parts.proofs.text.unescaped.Goals as goal

goes_on : (text rest more bytes items : List ℕ) (b : ℕ) → IsDecoded text rest bytes → SpellsByte rest b more → items ≡ bytes ++ b ∷ [] → IsDecoded text more items
goes_on text rest more bytes items b d s e = record {
  whole = text_went_on rest more b s d.whole;
  onward = λ others t. rw (e, append_assoc) (d.onward (b ∷ others) (more, s, t));
}

ends : (text rest bytes : List ℕ) → IsDecoded text rest bytes → ((b : ℕ) (more : List ℕ) → ¬ SpellsByte rest b more) → Spells text bytes
ends text rest bytes d none =
    let empty : rest ≡ [] = (text_ends rest d.whole.0 none d.whole.1).0 in
    let whole : Spells text (bytes ++ []) = d.onward [] empty in
    rw append-nil at whole

pub loop-byte-preserved : goal.loop-byte-preserved
loop-byte-preserved c = (
  goes_on _ _ _ _ _ _ c.loop-byte.invariant.0 c.in-Some.ensures.found c.in-Ok.ensures.items,
  omega (arith, c.loop-byte.invariant.1, c.in-Some.ensures.shorter, c.in-Ok.ensures.len, c.in-Ok.ensures.capacity),
)

pub returns : goal.returns
returns c = rw c.new.ensures (ends _ _ _ c.loop-byte.invariant.0 c.in_default.ensures.none)
