-- What changes of a body leave of its entries: they stay a directory's.
use Rattle.std.proofs.Common.{◌≢◌, ℕ, ◌<◌, not, ◌==◌, All}
use Rattle.std.proofs.lemmas.List.Kept.{AllPairs-filter}
use Rattle.std.proofs.lemmas.List.Quantifiers.{all_pairs_push}
use Rattle.ob_dirs.specs.declared.entry.DirEntry.{DirEntry}
use Rattle.ob_dirs.specs.Dir.{IsDir, ComesBefore}
use Rattle.ob_objects.specs.declared.object.StoredBody.{StoredBody}
use Rattle.ob_objects.specs.declared.object.StoredBody.TheVariants.{Directory, Link, Other}
use Rattle.ob_objects.specs.Store.{entries_in}
use Rattle.ob_objects.specs.Changes.{body_with_name, body_without_name}

module _ {F I : Type 0} where
  -- an entry more, of a free spelling and with a stamp above all
  pub with_name_is_dir : (entry : DirEntry) (body : StoredBody F I) → IsDir (entries_in body)
      → All (λ e. e.name ≢ entry.name) (entries_in body) → All (λ e. e.stamp < entry.stamp) (entries_in body) → IsDir (entries_in (body_with_name entry body))
  with_name_is_dir entry (Directory entries shadow) is free newest = all_pairs_push ComesBefore entries entry is (λ k d within. (newest k d within, free k d within))
  with_name_is_dir entry (Link target) is free newest = is
  with_name_is_dir entry (Other face inner) is free newest = is

  -- without the entries of a stamp
  pub without_name_is_dir : (stamp : ℕ) (body : StoredBody F I) → IsDir (entries_in body) → IsDir (entries_in (body_without_name stamp body))
  without_name_is_dir stamp (Directory entries shadow) is = AllPairs-filter ComesBefore (λ e. not (e.stamp == stamp)) entries is
  without_name_is_dir stamp (Link target) is = is
  without_name_is_dir stamp (Other face inner) is = is
