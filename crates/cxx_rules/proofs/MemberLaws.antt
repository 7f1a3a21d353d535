-- From a class to its base.
use Rattle.std.proofs.Common.{◌≡◌, ℕ, suc, ◌==◌, ◌||◌, false, Option, Some, None, slice_get, ap, ◌∙◌}
use Rattle.cxx_ast.specs.Environment.{ClassEntry, Environment}
use Rattle.cxx_ast.specs.Lookup.{derives_within}
use Rattle.cxx_rules.specs.MeaningOf.{base_of}

by_base : (n : ℕ) (env : Environment) (b : ℕ) (entry : Option ClassEntry) (j : ℕ) →
    elim entry [ None ↦ None | Some c ↦ c.base ] ≡ Some j →
    elim entry [ None ↦ false | Some c ↦ elim c.base [ None ↦ false | Some j ↦ derives_within n env j b ] ] ≡ derives_within n env j b
by_base n env b None j e = cc
by_base n env b (Some c) j e = ap (λ o. elim o [ None ↦ false | Some j ↦ derives_within n env j b ]) e

pub derives_next : (n : ℕ) (env : Environment) (k b j : ℕ) → (k == b) ≡ false → base_of env k ≡ Some j →
    derives_within (suc n) env k b ≡ derives_within n env j b
derives_next n env k b j other e =
    ap (λ t. t || elim (slice_get env.classes k) [ None ↦ false | Some c ↦ elim c.base [ None ↦ false | Some j ↦ derives_within n env j b ] ]) other
    ∙ by_base n env b (slice_get env.classes k) j e
