-- The runs of replies after one more was given.
use Rattle.std.proofs.Common.{◌≡◌, ◌∙◌, ap, refl, ℕ, zero, suc, ◌-◌, ◌++◌, List, drop, replicate}
use native.Mathlib.Numerals.{unary_clauses}
use Rattle.eh_outer.specs.declared.module.Reply.{Reply}
use Rattle.eh_outer.specs.Module.{ModuleView, replied}
use Rattle.eh_outer.specs.Replies.{TokensView}

-- the first of a reply that is repeated is used up
pub one_fewer : (left : ℕ) (reply : Reply) (more rest : List Reply) → (left ≡ 0 → ⊥) → replicate left reply ++ more ≡ rest → replicate (left - 1) reply ++ more ≡ drop 1 rest
one_fewer zero reply more rest some is = absurd (some refl)
one_fewer (suc left) reply more rest some is = simp unary_clauses (ap (drop 1) is)

-- the tokens stay, and one reply is used up
pub one_replied : (left : List Reply) (now before : TokensView) (seen : ModuleView) → left ≡ drop 1 seen.rest → now ≡ before → before.kept ≡ seen.cleaned → before.room ≡ seen.room →
    ◌≡◌ {A = ModuleView} (record { rest = left; cleaned = now.kept; room = now.room }) (replied seen)
one_replied left now before seen rest tokens kept room i =
    record { rest = rest i; cleaned = (ap (λ t. t.kept) tokens ∙ kept) i; room = (ap (λ t. t.room) tokens ∙ room) i }
