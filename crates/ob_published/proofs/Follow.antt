-- The laws of publications.
use Rattle.std.proofs.Common.{◌≡◌, ◌∙◌, ℕ, ◌+◌, List, [], ◌∷◌, ◌++◌, refl, ap, sym, arith}
use Rattle.ob_rows.specs.Changes.{changed_by}
use Rattle.ob_published.specs.declared.publication.Publication.{Publication}
use Rattle.ob_published.specs.Publications.{EntriesFollow, PublicationsFollow, total_entries}

pub rows_follow : PublicationsFollow
rows_follow rows [] later = refl
rows_follow rows (p ∷ first) later = rows_follow (changed_by rows p.changes.items) first later

pub entries_follow : EntriesFollow
entries_follow [] later = omega arith
entries_follow (p ∷ first) later = let more : total_entries (first ++ later) ≡ total_entries first + total_entries later = entries_follow first later in omega (arith, more)
