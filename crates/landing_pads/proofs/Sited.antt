-- What holds of each cover of some code holds of what each of its sites says.
use Rattle.std.proofs.Common.{◌≡◌, ℕ, ◌+◌, ◌≤◌, Bool, true, false, List, [], ◌∷◌, ◌++◌, length, refl, arith}
use Rattle.std.specs.Prelude.{if◌then◌else◌}
use Rattle.linear_forms.specs.Linear.{CodeSite}
use Rattle.linear_forms.specs.Tables.{Cover, bare, unpadded, padded, cover_of}
use Rattle.linear_forms.specs.Emission.{chain_of}
use Rattle.linear_forms.specs.Sites.{Placed, site_at, single_sites, joins, joined_from, merged, sites_of}
use Rattle.linear_forms.specs.Laws.{AreInOrder}

module _ (P : Cover → Type 0) where
  -- it holds of the covers of operations, and of what sites say, whose filters are those of the cover
  abbrev pub AllCovers : List Placed → Type 0
  AllCovers [] = Unit {0}
  AllCovers (x ∷ xs) = P x.cover × AllCovers xs

  abbrev pub AllSites : List CodeSite → Type 0
  AllSites [] = Unit {0}
  AllSites (s ∷ sites) = P (cover_of s) × (s.filters ≡ chain_of (cover_of s)) × AllSites sites

  pub both_covers : (a b : List Placed) → AllCovers a → AllCovers b → AllCovers (a ++ b)
  both_covers [] b h g = g
  both_covers (x ∷ a) b h g = (h.0, both_covers a b h.1 g)

  one_site : (c : Cover) (p : ℕ) (sites : List CodeSite) → P c → AllSites sites → AllSites (site_at p c ++ sites)
  one_site bare p sites h g = g
  one_site unpadded p sites h g = (h, refl, g)
  one_site (padded q chain) p sites h g = (h, refl, g)

  singles : (code : List Placed) (p : ℕ) → AllCovers code → AllSites (single_sites p code)
  singles [] p h = tt
  singles (x ∷ xs) p h = one_site x.cover p (single_sites (p + 1) xs) h.0 (singles xs (p + 1) h.1)

  joined : (s : CodeSite) (sites : List CodeSite) → P (cover_of s) → s.filters ≡ chain_of (cover_of s) → AllSites sites → AllSites (joined_from s sites)
  joined s [] h e g = (h, e, tt)
  joined s (t ∷ sites) h e g = go (joins s t) (joined (record s { end = t.end }) sites h e g.2) (joined t sites g.0 g.1 g.2)
    where
      go : (b : Bool) → AllSites (joined_from (record s { end = t.end }) sites) → AllSites (joined_from t sites)
          → AllSites (if b then joined_from (record s { end = t.end }) sites else s ∷ joined_from t sites)
      go true more rest = more
      go false more rest = (h, e, rest)

  all_merged : (sites : List CodeSite) → AllSites sites → AllSites (merged sites)
  all_merged [] h = h
  all_merged (s ∷ sites) h = joined s sites h.0 h.1 h.2

  pub all_sited : (code : List Placed) → AllCovers code → AllSites (sites_of code)
  all_sited code h = all_merged (single_sites 0 code) (singles code 0 h)

-- sites in order are no more than the places that they stand in
pub sites_few : (sites : List CodeSite) (from to : ℕ) → AreInOrder from to sites → from + length sites ≤ to
sites_few [] from to h = omega (arith, h)
sites_few (s ∷ sites) from to h = omega (arith, h.0, h.1, sites_few sites s.end to h.2)
