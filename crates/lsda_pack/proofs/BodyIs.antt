-- The body of a packed table, part by part.
use Rattle.std.proofs.Common.{◌≡◌, ℕ, List, ◌∷◌, ◌++◌, length, map, ap, ◌∙◌}
use Rattle.std.specs.Prelude.{flat_map}
use Rattle.eh_bytes.specs.Listed.{ListedTable}
use Rattle.eh_bytes.specs.Spelling.{uleb_spelling}
use Rattle.eh_write.specs.Written.{site_bytes}
use Rattle.lsda_pack.specs.PackedBytes.{action_for, body_bytes, body_with}
use Rattle.lsda_pack.specs.Suffixes.{actions_for}

pub body_is : (list : ListedTable) (actions sites bytes body : List ℕ) → actions ≡ map (action_for (actions_for list.chains)) list.chains → sites ≡ flat_map (site_bytes actions) list.sites →
    bytes ≡ (actions_for list.chains).bytes → body ≡ 1 ∷ uleb_spelling (length sites) ++ sites ++ bytes → body ≡ body_bytes list
unfolding body_bytes
body_is list actions sites bytes body acts places records is =
    is ∙ ap (λ xs. 1 ∷ uleb_spelling (length sites) ++ sites ++ xs) records ∙
    ap (λ xs. body_with xs (actions_for list.chains)) (places ∙ ap (λ as'. flat_map (site_bytes as') list.sites) acts)
