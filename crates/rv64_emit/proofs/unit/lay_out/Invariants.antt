use Rattle.std.proofs.Common.{◌≡◌, ◌+◌, ◌++◌, drop, map, take}
use Rattle.eh_bytes.specs.Listed.{listed_function}
use Rattle.landing_pads.specs.View.{code_of}
use Rattle.machine_forms.specs.Emitted.{function_routine}
use Rattle.machine_forms.specs.Routine.{all_words, listed_routines}
use Rattle.rv64_emit.specs.Body.{AllStandFor}
use Rattle.rv64_emit.proofs.unit.lay_out.Given as goal

-- the functions so far, and those of what is left
abbrev pub invariant-loop-function : goal.invariant-loop-function
invariant-loop-function l = record {
  functions :
      map listed_function l.listed.items ++ listed_routines l.end (map function_routine (map code_of (drop l.function-index l.functions)))
      ≡ listed_routines 2 (map function_routine (map code_of l.functions));
  bodies : AllStandFor l.bodies.items (map function_routine (map code_of (take l.function-index l.functions)));
  end :
      l.end + all_words (map function_routine (map code_of (drop l.function-index l.functions)))
      ≡ 2 + all_words (map function_routine (map code_of l.functions));
}
