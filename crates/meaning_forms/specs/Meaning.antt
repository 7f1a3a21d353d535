-- What a program means.
use Rattle.std.specs.Prelude.{ℕ, suc, ℤ, List, [], map, Some, None}
use Rattle.cxx_ast.specs.Plain.{Checked}
use Rattle.eh_outer.specs.declared.module.Reply.{Reply}
use Rattle.run_items.specs.declared.item.Item.{Item}
use Rattle.meaning_forms.specs.declared.ending.MeanEnd.{MeanEnd}
use Rattle.meaning_forms.specs.declared.ending.MeanEnd.TheVariants.{Exit, Aborted, Undefined, OutOfTurns, Deep}
use Rattle.meaning_forms.specs.Part.{Part, cell}
use Rattle.meaning_forms.specs.World.{World, nowhere}
use Rattle.meaning_forms.specs.Context.{no_context}
use Rattle.meaning_forms.specs.Outcome.{Result, done, stopped, Stop, thrown, cancelled, ended, undefined, out_of_turns, deep, exit, aborted}
use Rattle.meaning_forms.specs.Running.{function}
use Rattle.meaning_forms.specs.Call.{call_with}

-- how main came out: it returned a value, or was stopped
pub data MainOutcome : Type 0 where
  returned : ℤ → MainOutcome
  stopped_by : Stop → MainOutcome

-- a program's items, its end, the greatest number of open calls, main's outcome, and the replies left to the modules
pub record Meaning : Type 0 where
  pub items : List Item
  pub end : MeanEnd
  pub deepest : ℕ
  pub main : MainOutcome
  pub replies : List (List Reply)

-- the end of a program; no exception comes out of main, since it would be doomed
abbrev pub end_of : MainOutcome → MeanEnd
end_of (returned v) = Exit v
end_of (stopped_by (thrown e)) = Aborted
end_of (stopped_by (cancelled n)) = Exit n
end_of (stopped_by (ended (exit n))) = Exit n
end_of (stopped_by (ended aborted)) = Aborted
end_of (stopped_by undefined) = Undefined
end_of (stopped_by out_of_turns) = OutOfTurns
end_of (stopped_by deep) = Deep

-- the meaning that an outcome of main and its world give
abbrev pub meaning_of : MainOutcome → World → Meaning
meaning_of m w = record { items = w.items; end = end_of m; deepest = w.deepest; main = m; replies = w.replies }

-- the meaning that the call of main gives
abbrev pub after_main : Result ℤ → Meaning
after_main (done v w) = meaning_of (returned v) w
after_main (stopped s w) = meaning_of (stopped_by s) w

-- a global holds its first value
abbrev pub global_object : ℤ → Part
global_object v = cell (Some v)

-- the world before the call of main
abbrev pub first_world : Checked → List ℕ → List (List Reply) → ℕ → World
first_world p input replies turns = record {
  objects = map global_object p.globals;
  input = input;
  items = [];
  live = [];
  last_number = 0;
  replies = replies;
  installed = record { terminate_handler = None; unexpected_handler = None };
  turns = turns;
  open_calls = 0;
  deepest = 0;
}

-- the meaning of a program with an input, replies of the modules, turns, and a limit of open calls
abbrev pub program_meaning : Checked → List ℕ → List (List Reply) → ℕ → ℕ → Meaning
program_meaning p input replies turns limit =
    after_main (call_with p limit (suc turns) (function p.main) nowhere [] no_context (first_world p input replies turns))
