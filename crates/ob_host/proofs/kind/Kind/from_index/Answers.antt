use Rattle.std.proofs.Common.{◌≡◌, IfSome, refl, subst, sym}
use Rattle.ob_host.specs.Kinds.{index_of}
use Rattle.ob_host.proofs.Numbered.{IsNumbered, kind_at}
use Rattle.ob_host.specs.declared.kind.TheConstants.{KINDS}
use Rattle.ob_host.proofs.kind.Kind.from_index.Goals as goal

pub returns-clause-found : goal.returns-clause-found
returns-clause-found c =
    let numbered : IsNumbered KINDS = record { count = refl; indices = refl } in
    subst (λ r. IfSome r (λ kind. index_of kind ≡ c.args.index)) (sym c.copied.ensures) (kind_at KINDS c.args.index c.get.result numbered c.get.ensures.lookup)
