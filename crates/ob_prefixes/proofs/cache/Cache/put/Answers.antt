-- What was put is found; and of what is kept then each was kept, or is as what was put.
use Rattle.std.proofs.Common.{◌∙◌, inl, inr, ap, sym, subst}
use Rattle.std.specs.Prelude.{Contains}
use Rattle.lru.proofs.CallerLemmas.{lookup-put_entries, Contains-put_entries}
use Rattle.ob_prefixes.specs.Prefix.{same_prefix, is_local}
use Rattle.ob_prefixes.specs.PrefixLaws.{same_prefix-equiv, same_prefix-parts}
use Rattle.ob_prefixes.proofs.Local.{left_false, right_false, local_same}
use Rattle.ob_prefixes.proofs.cache.Cache.put.Goals as goal

pub returns-clause-found : goal.returns-clause-found
returns-clause-found c = rw c.in_ok-put.ensures.entries (lookup-put_entries same_prefix c.self.inside.prefixes c.args.prefix c.args.directory same_prefix-equiv)

pub invariant_of-self-2 : goal.invariant_of-self-2
invariant_of-self-2 c = λ off e among.
    elim (Contains-put_entries same_prefix c.self.inside.prefixes c.args.prefix c.args.directory e (subst (λ l. Contains l.entries e) c.in_ok-put.ensures.entries among)) [
      | inl old ↦ c.self.invariant (left_false c.self.inside.local c.is_local-is_local.result off) e old
      | inr put ↦ elim put.1 [
        | inl same ↦ ap is_local same ∙ sym c.is_local-is_local.ensures ∙ right_false c.self.inside.local c.is_local-is_local.result off
        | inr was ↦ local_same c.args.prefix e.0 (same_prefix-parts c.args.prefix e.0 was.2) ∙ sym c.is_local-is_local.ensures
            ∙ right_false c.self.inside.local c.is_local-is_local.result off
      ]
    ]
