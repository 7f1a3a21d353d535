-- What a table of which nothing is refused asks of the region of a function that names it.
use Rattle.std.specs.Prelude.{◌≡◌, ◌≤◌, ◌+◌, ◌==◌, ◌||◌, ℕ, Bool, true, not, List, [], ◌∷◌, length, ⊤, IsOkAnd}
use Rattle.std.specs.List.{AllByRecursion}
use Rattle.eh_bytes.specs.declared.frames.Region64.{Region64}
use Rattle.eh_bytes.specs.Memory.{Memory, is_code}
use Rattle.table_forms.specs.LsdaSites.{SiteRecord}
use Rattle.table_forms.specs.Lsda.{lsda}
use Rattle.lsda_read.specs.declared.demands.Demands.{Demands}

-- each is at most the ones behind it
abbrev pub IsRising : List ℕ → Type 0
IsRising [] = ⊤
IsRising (x ∷ xs) = AllByRecursion (λ y. x ≤ y) xs × IsRising xs

-- all are code, counted from this start
abbrev pub AreCode : Memory → ℕ → List ℕ → Type 0
AreCode memory start pads = AllByRecursion (λ pad. is_code memory (start + pad) ≡ true) pads

-- the region holds all sites, and the pads that count from its start are code
abbrev pub Suits : Memory → Demands → Region64 → Type 0
Suits memory d region = (d.reach ≤ region.length) × AreCode memory region.start d.pads.items

-- what a record asks: an end that is not further, and, where pads count from the region's start, a pad that passes
abbrev pub asks_pad : Bool → (ℕ → Bool) → ℕ → Bool
asks_pad moves passes pad = not moves || (pad == 0 || passes pad)

abbrev pub Asks : Bool → (ℕ → Bool) → ℕ → List SiteRecord → Type 0
Asks moves passes most rs = AllByRecursion (λ r. (r.start + r.length ≤ most) × (asks_pad moves passes r.pad ≡ true)) rs

-- these are all that records ask
abbrev pub Covers : Bool → ℕ → List ℕ → List SiteRecord → Type 0
Covers moves reach pads rs = (passes : ℕ → Bool) (most : ℕ) → reach ≤ most → AllByRecursion (λ pad. passes pad ≡ true) pads → Asks moves passes most rs

-- nothing is refused of the table at the address, which has so many sites, for a function whose region suits it
pub record AreDemands (memory : Memory) (address : ℕ) (n : ℕ) (d : Demands) : Type 0 where
  pub rising : IsRising d.pads.items
  pub serve : (region : Region64) → Suits memory d region → IsOkAnd (lsda memory address region) (λ t. length t.sites ≡ n)
