-- What a module tells of itself, and what its calls do to that.
use mathlib.Core.Path.{ap, path_j}
use Rattle.std.specs.Prelude.{◌≡◌, ℕ, List, [], ◌∷◌, ◌++◌, length, drop, pos, if◌then◌else◌, nat_lt}
use Rattle.std.specs.Coded.{Coded}
use Rattle.eh_outer.specs.declared.module.Reply.{Reply}
use Rattle.eh_outer.specs.declared.module.Reply.TheVariants.{Value}
use Rattle.eh_outer.specs.Domain.{RepliesAreInts, RepliesAreInts-prop}

-- a module: the replies still to come, the tokens cleaned in order, and how many of these it can keep
pub record ModuleView : Type 0 where
  pub rest : List Reply
  pub cleaned : List ℕ
  pub room : ℕ

-- the first of the replies still to come, or the value 0 where none is left
abbrev pub reply_of : List Reply → Reply
reply_of [] = Value (pos 0)
reply_of (first ∷ others) = first

-- the module with its first reply used up
abbrev pub replied : ModuleView → ModuleView
replied seen = record seen { rest = drop 1 seen.rest }

-- the module with the token kept, where there is room for it
abbrev pub cleaned : ModuleView → ℕ → ModuleView
cleaned seen token =
    record seen { cleaned = if nat_lt (length seen.cleaned) seen.room then seen.cleaned ++ token ∷ [] else seen.cleaned }

-- a module in memory, whose replies are ones that a call can give
pub record ScriptView : Type 0 where
  pub seen : ModuleView
  pub ints : RepliesAreInts seen.rest

-- two of them that tell the same are one
pub same_script : (a b : ScriptView) → a.seen ≡ b.seen → a ≡ b
same_script a b e = path_j (λ seen _. (ints : RepliesAreInts seen.rest) → a ≡ record { seen = seen; ints = ints }) (λ ints. ap (λ is. record { seen = a.seen; ints = is }) (RepliesAreInts-prop a.seen.rest a.ints ints)) e b.ints

-- it is told apart by what it tells of itself
abbrev pub script_code : Coded ModuleView → Coded ScriptView
script_code c = record { code = λ s. c.code s.seen; inj = λ a b e. same_script a b (c.inj a.seen b.seen e) }
