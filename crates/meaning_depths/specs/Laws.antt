-- What no meaning is, where it has few turns.
use Rattle.std.specs.Prelude.{ℕ, ◌<◌, ◌≡◌, List}
use Rattle.cxx_ast.specs.Plain.{Checked}
use Rattle.eh_outer.specs.declared.module.Reply.{Reply}
use Rattle.meaning_forms.specs.Meaning.{stopped_by, program_meaning}
use Rattle.meaning_forms.specs.Outcome.{deep}

-- Each call spends a turn, so with fewer turns than open calls are allowed none is too deep.
abbrev pub ShallowMeanings : Type 0
ShallowMeanings = (p : Checked) (input : List ℕ) (replies : List (List Reply)) (turns limit : ℕ) → turns < limit →
    (program_meaning p input replies turns limit).main ≡ stopped_by deep → ⊥
