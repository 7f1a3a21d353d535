-- How the linear code of a program runs, and what can be seen of that.
use Rattle.std.specs.Prelude.{ℕ, List, [], slice_get, unwrap_or}
use Rattle.eh_outer.specs.declared.module.Reply.{Reply}
use Rattle.run_items.specs.declared.item.Item.{Item}
use Rattle.meaning_forms.specs.declared.ending.MeanEnd.{MeanEnd}
use Rattle.meaning_forms.specs.declared.ending.MeanEnd.TheVariants.{Exit, Aborted, Undefined, OutOfTurns}
use Rattle.meaning_forms.specs.Outcome.{exit, aborted}
use Rattle.meaning_forms.specs.Meaning.{Meaning}
use Rattle.region_forms.specs.Form.{kinds_of}
use Rattle.region_forms.specs.World.{World}
use Rattle.region_forms.specs.Effect.{new_frame, new_world}
use Rattle.region_forms.specs.Meaning.{first_world}
use Rattle.linear_forms.specs.Linear.{FunctionCode, UnitCode}
use Rattle.linear_forms.specs.Tables.{look_up, sense_in, label_place}
use Rattle.linear_forms.specs.Stub.{compiled}
use Rattle.linear_forms.specs.Activation.{Code, State, by_program, not_defined, fault}
use Rattle.linear_forms.specs.Machine.{Run, over, budget, exec}

-- what stands for a function that is not there
abbrev pub no_code : FunctionCode
no_code = record { name = []; parameters = 0; slots = []; ops = []; sites = []; types = []; lists = []; frame = 0 }

-- the function with a number
abbrev pub code_at : UnitCode → ℕ → FunctionCode
code_at u f = unwrap_or (slice_get u.functions f) no_code

-- the code of a program as functions
abbrev pub code_of : UnitCode → Code
code_of u = record {
  rows = u.types;
  op_at = λ f p. slice_get (code_at u f).ops p;
  cover_at = λ f p. look_up (code_at u f).sites p;
  label_at = λ f l. label_place (code_at u f).ops l 0;
  sense_at = λ f n. sense_in (code_at u f).types (code_at u f).lists n;
  kinds_at = λ f. kinds_of (code_at u f).slots;
}

-- the state in which main begins; behind its frame the program ends
abbrev pub first_state : UnitCode → List ℕ → List (List Reply) → State
first_state u input replies =
    let w = first_world u.globals input replies in
    let k = kinds_of (code_at u u.main).slots in
    record { top = record { function = compiled u.main; place = 0; frame = new_frame k [] w }; frames = []; world = new_world k [] 1 w }

-- a run of at most n steps
abbrev pub unit_run : UnitCode → List ℕ → List (List Reply) → ℕ → Run
unit_run u input replies n = exec (code_of u) n (first_state u input replies)

-- what can be seen of a meaning and of a run: the items, the end, the greatest number of open calls, the replies left
pub data Seen : Type 0 where
  seen : List Item → MeanEnd → ℕ → List (List Reply) → Seen
  faulty : Seen

-- what can be seen of a meaning
abbrev pub seen_of : Meaning → Seen
seen_of m = seen m.items m.end m.deepest m.replies

-- what can be seen of a world at an end
abbrev pub seen_world : MeanEnd → World → Seen
seen_world e w = seen w.items e w.deepest w.replies

-- what can be seen of a run
abbrev pub seen_run : Run → Seen
seen_run (over (by_program (exit n)) w) = seen_world (Exit n) w
seen_run (over (by_program aborted) w) = seen_world Aborted w
seen_run (over not_defined w) = seen_world Undefined w
seen_run (over fault w) = faulty
seen_run (budget w) = seen_world OutOfTurns w
