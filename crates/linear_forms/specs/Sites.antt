-- Call sites: what covers each operation, and the sites that say so. Neighbouring sites with the same pad and chain are one.
use Rattle.std.specs.Prelude.{ℕ, ◌+◌, ℤ, Bool, true, false, ◌&&◌, ◌==◌, List, [], ◌∷◌, ◌++◌, Option, Some, None, slice_get, if◌then◌else◌}
use Rattle.meaning_forms.specs.Arithmetic.{int_equal}
use Rattle.linear_forms.specs.Linear.{LinearOp, CodeSite}
use Rattle.linear_forms.specs.Tables.{Cover, bare, unpadded, padded}

-- an operation with what covers it
pub record Placed : Type 0 where
  pub op : LinearOp
  pub cover : Cover

-- what covers the operation at a place; behind the last one nothing does
abbrev pub cover_in : List Placed → ℕ → Cover
cover_in code p = elim (slice_get code p) [ None ↦ bare | Some x ↦ x.cover ]

-- the site of one operation, if it has one
abbrev pub site_at : ℕ → Cover → List CodeSite
site_at p bare = []
site_at p unpadded = record { start = p; end = p + 1; pad = None; filters = [] } ∷ []
site_at p (padded q chain) = record { start = p; end = p + 1; pad = Some q; filters = chain } ∷ []

-- the sites of operations that stand from place p on, one for each that is covered
abbrev pub single_sites : ℕ → List Placed → List CodeSite
single_sites p [] = []
single_sites p (x ∷ xs) = site_at p x.cover ++ single_sites (p + 1) xs

-- the same pad, or none
abbrev pub same_pad : Option ℕ → Option ℕ → Bool
same_pad None None = true
same_pad (Some p) (Some q) = p == q
same_pad _ _ = false

-- the same filters in the same order
abbrev pub same_chain : List ℤ → List ℤ → Bool
same_chain [] [] = true
same_chain (n ∷ ns) (m ∷ ms) = int_equal n m && same_chain ns ms
same_chain _ _ = false

-- a site begins where another ends, and says the same
abbrev pub joins : CodeSite → CodeSite → Bool
joins s t = s.end == t.start && (same_pad s.pad t.pad && same_chain s.filters t.filters)

-- a site and those behind it, joined as far as they say the same
abbrev pub joined_from : CodeSite → List CodeSite → List CodeSite
joined_from s [] = s ∷ []
joined_from s (t ∷ sites) = if joins s t then joined_from (record s { end = t.end }) sites else s ∷ joined_from t sites

-- sites, each joined with its neighbours that say the same
abbrev pub merged : List CodeSite → List CodeSite
merged [] = []
merged (s ∷ sites) = joined_from s sites

-- the sites of a function's code
abbrev pub sites_of : List Placed → List CodeSite
sites_of code = merged (single_sites 0 code)
