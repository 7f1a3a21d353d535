-- What is noted of the declarations of functions.
use Rattle.std.specs.Prelude.{ℕ, ◌≡◌, List, Vec, Option, Some, None, find, bytes_eq, slice_get}
use Rattle.std.specs.declared.alloc.Global.{Global}
use Rattle.std.specs.Map.{lookup}
use Rattle.cxx_ast.specs.Environment.{Signature}
use Rattle.cxx_ast.specs.Broken.{differs_from, defined_in}
use Rattle.cxx_rules.specs.declared.signatures.Noted.{Noted}

-- the first declaration of a name
abbrev pub first_named : List ℕ → List Signature → Option Signature
first_named text ss = find (λ s. bytes_eq s.name.text text) ss

-- where the first declaration of a name stands, whether one differs from it, and whether one is a definition
pub record IsNoted (text : List ℕ) (ss : List Signature) (n : Noted) : Type 0 where
  pub first : Signature
  pub there : slice_get ss n.first ≡ Some first
  pub named : first_named text ss ≡ Some first
  pub differs : n.differs ≡ differs_from ss first
  pub defined : n.is_defined ≡ defined_in ss text

-- a name is noted, or has no declaration
abbrev pub Says : List ℕ → List Signature → Option Noted → Type 0
Says text ss None = first_named text ss ≡ None
Says text ss (Some n) = IsNoted text ss n

-- each name is noted that has a declaration
abbrev pub AreNoted : List (Vec ℕ Global × Noted) → List Signature → Type 0
AreNoted entries ss = (text : List ℕ) → Says text ss (lookup (λ k. bytes_eq text k.items) entries)
