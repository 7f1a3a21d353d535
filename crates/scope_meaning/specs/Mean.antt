-- What a program means.
use Rattle.std.specs.Prelude.{◌≡◌, ⊤, ℕ, List, map, Option, Some, None}
use Rattle.cxx_ast.specs.Plain.{Checked}
use Rattle.eh_outer.specs.Module.{ModuleView}
use Rattle.meaning_forms.specs.Meaning.{Meaning, program_meaning}
use Rattle.scope_meaning.specs.declared.program.Meaning.{Meaning as CodeMeaning}
use Rattle.scope_meaning.specs.Modules.{cleaned_by, kept_of, rests_of}
use Rattle.run_items.specs.declared.item.Item.{Item}
use Rattle.meaning_forms.specs.declared.ending.MeanEnd.{MeanEnd}

-- the meaning of a program with at most 128 open calls, where its modules tell this of themselves
abbrev pub meant : Checked → List ℕ → List ModuleView → ℕ → Meaning
meant p input views turns = program_meaning p input (rests_of views) turns 128

-- an answer tells a meaning
pub record Tells (answer : CodeMeaning) (m : Meaning) : Type 0 where
  pub items : answer.items.items ≡ m.items
  pub end : answer.end ≡ m.end
  pub deepest : answer.deepest ≡ m.deepest

-- a run that comes to an end tells a meaning; its modules have the meaning's replies left, and have made the cleanups of its items
pub record Ends (m : Meaning) (before after : List ModuleView) (end : MeanEnd) (items : List Item) (deepest : ℕ) : Type 0 where
  pub items_are : items ≡ m.items
  pub end_is : end ≡ m.end
  pub deepest_is : deepest ≡ m.deepest
  pub replies : rests_of after ≡ m.replies
  pub kept : map kept_of after ≡ map kept_of (cleaned_by items before)

-- a run tells a meaning, unless memory was wanting
abbrev pub IsRun : Meaning → (before after : List ModuleView) → Option MeanEnd → List Item → ℕ → Type 0
IsRun m before after None items deepest = ⊤
IsRun m before after (Some end) items deepest = Ends m before after end items deepest
