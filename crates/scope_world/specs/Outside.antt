-- What is outside a running program.
use Rattle.std.specs.Prelude.{ℕ, zero, suc, List, [], ◌∷◌, ◌++◌, drop, pos}
use Rattle.eh_outer.specs.declared.module.Reply.{Reply}
use Rattle.eh_outer.specs.declared.module.Reply.TheVariants.{Value}
use Rattle.eh_outer.specs.Module.{reply_of}
use Rattle.run_items.specs.declared.item.Item.{Item}

-- what was written, and the replies still to come of each module
pub record Told : Type 0 where
  pub written : List Item
  pub replies : List (List Reply)

-- the next reply of module k, or the value 0
abbrev pub reply_from : ℕ → List (List Reply) → Reply
reply_from k [] = Value (pos 0)
reply_from zero (rest ∷ rests) = reply_of rest
reply_from (suc k) (rest ∷ rests) = reply_from k rests

-- the replies still to come once module k has given one
abbrev pub rests_after : ℕ → List (List Reply) → List (List Reply)
rests_after k [] = []
rests_after zero (rest ∷ rests) = drop 1 rest ∷ rests
rests_after (suc k) (rest ∷ rests) = rest ∷ rests_after k rests

-- module k has given a reply
abbrev pub replied : ℕ → Told → Told
replied k told = record told { replies = rests_after k told.replies }

-- an item comes after those so far
abbrev pub emitted : Item → Told → Told
emitted item told = record told { written = told.written ++ item ∷ [] }
