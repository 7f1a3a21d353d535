-- The tokens of regions are those of the source.
use Rattle.std.proofs.Common.{◌≡◌, ◌∙◌, ◌≤◌, length, refl, sym, ap, subst}
use Rattle.cxx_ast.specs.declared.standard.Std.{Std}
use Rattle.cxx_ast.specs.Plain.{Program}
use Rattle.cxx_ast.specs.Limits.{most_tokens}
use Rattle.cxx_ast.specs.Checked.{checked}
use Rattle.region_formed.specs.Tokens.{CheckedRegionsHaveTheTokens}

program_tokens : (std : Std) (p : Program) → (checked std p).program.tokens ≡ p.tokens
unfolding checked
program_tokens std p = refl

pub tokens_same : CheckedRegionsHaveTheTokens
tokens_same p l c =
    let same : p.program.tokens ≡ length c.tokens = ap (λ q. q.program.tokens) c.resolved ∙ (program_tokens c.std c.program ∙ c.tree.tokens_counted) in
    (same, subst (λ n. n ≤ most_tokens) (sym same) c.lexed.few)
