-- The exchange adds the publication where the history is as long as is known.
use Rattle.std.proofs.Common.{◌≡◌, ◌∙◌, ◌++◌, ◌∷◌, ◌==◌, [], List, ap, arith, length, subst, sym, eq-eqb}
use Rattle.ob_published.specs.declared.publication.Publication.{Publication}
use Rattle.ob_published.proofs.Adding.{adds_moves, known_added, where_found}
use Rattle.ob_published.proofs.published.Published.add.Goals as goal

pub compare_exchange-found-requires : goal.compare_exchange-found-requires
compare_exchange-found-requires g c =
    let h = c.args.book.now.head_is in
    let offer = c.plain-offer.ensures in
    let pen = c.no_pen-pen.ensures in
    let seen = c.again-seen.ensures in
    let of_book = ap (λ s. s.book) seen ∙ c.self.invariant.of_book ∙ sym (ap (λ w. w.book) h) in (
      ap (λ w. w.tracked) h,
      of_book,
      pen.0 ∙ of_book,
      offer.0,
      rw (ap (λ w. w.key) h, pen.1, offer.1, offer.3)
          (adds_moves c.again-seen.result.log c.args.publication.now c.self.inside.count (ap (λ s. length s.log) seen ∙ sym c.self.invariant.counted)),
    )

pub invariant_of-self : goal.invariant_of-self
invariant_of-self g c =
    let exchange = c.compare_exchange-found.ensures in
    known_added g.J.Naming.book g.J.Naming.leads c.self.inside.count c.self.inside.entries c.self.inside.seen.book c.self.inside.seen.log c.self.invariant
    c.args.publication.now c.in-Some.entries c.in-Some.ensures.1 c.compare_exchange-found.new.seen.book c.compare_exchange-found.new.seen.log
    (exchange.0 ∙ ap (λ s. s.book) c.again-seen.ensures)
    (where_found c.compare_exchange-found.result c.self.inside.count _ exchange.7 (eq-eqb c.compare_exchange-found.result c.self.inside.count c.if-found-count.false)
    ∙ ap (λ (l : List Publication). l ++ c.plain-offer.result.ask ∷ []) (ap (λ s. s.log) c.again-seen.ensures)
    ∙ ap (λ (p : Publication). c.self.inside.seen.log ++ p ∷ []) c.plain-offer.ensures.1)
    (subst (λ (l : List Publication). g.J.Naming.leads (l ++ c.args.publication.now ∷ [])) (sym c.self.view_is) c.requires.leads)
