-- What regions do.
use Rattle.std.specs.Prelude.{ℕ, zero, suc, ◌+◌, ℤ, false, ◌==◌, List, [], Option, None, slice_get, if◌then◌else◌}
use Rattle.meaning_forms.specs.Arithmetic.{is_zero}
use Rattle.meaning_forms.specs.Outcome.{thrown, cancelled, out_of_turns}
use Rattle.eh_outer.specs.declared.module.Reply.{Reply}
use Rattle.meaning_forms.specs.Meaning.{Meaning as ProgramMeaning, MainOutcome, returned, stopped_by, end_of}
use Rattle.region_forms.specs.Form.{Value, Op, destroy, leave, Cleanup, destroy_scope, destroy_part, free_object, leave_handler, Region, seq, op, branch, loop, protect, catch, limit, barrier, leave_region, RegionList, no_regions, region_then, Clauses, no_clauses, clause_then, RegionFunction, Regions, Kinds, kinds_of, function_at}
use Rattle.region_forms.specs.World.{Base, of_global, Word, nothing, address_word, Frame, World, object_address, with_slot, exception_in_slot, type_at}
use Rattle.region_forms.specs.Lives.{is_being_built}
use Rattle.region_forms.specs.Guard.{clauses, listed, matches, types_of}
use Rattle.region_forms.specs.Evaluation.{value_in}
use Rattle.region_forms.specs.Effect.{effect, freed, new_frame, new_world, result_in}
use Rattle.region_forms.specs.Outcome.{State, Context, Flow, normal, leaves, Result, done, stopped, Action, pure, stop, change, some, only_if, guarded_by, ◌>>=◌, ◌>>◌}
use Rattle.region_forms.specs.Ending.{Running, perform, behind_barrier, after_scope, after_part, spend_turn, open_call}
use Rattle.region_forms.specs.Unexpected.{after_limit}

-- the end of a region that holds others
abbrev pub outwards : Flow → Flow
outwards normal = normal
outwards (leaves zero) = normal
outwards (leaves (suc zero)) = normal
outwards (leaves (suc (suc n))) = leaves (suc n)

-- a region that others stand in is left
abbrev pub bounded : Action Flow → Action Flow
bounded act = act >>= (λ flow. pure (outwards flow))

-- what follows is done, unless the flow leaves
abbrev pub followed : Action Flow → Flow → Action Flow
followed next normal = next
followed next flow = pure flow

-- one operation
abbrev pub operation : Running → Op → Context → Action (Unit {0})
operation r o c s = perform r (effect r.kinds o s.frame s.world) c s

-- the value of what makes no call
abbrev pub value_of : Running → Value → Action ℤ
value_of r v s = some (value_in r.kinds s.frame s.world v) s

-- a loop with at most n tests; each spends a turn, so more tests than there are turns are never made
abbrev pub loop_of : ℕ → Action ℤ → Action Flow → Action Flow
loop_of zero test body = stop out_of_turns
loop_of (suc n) test body = do
  spend_turn
  v ← test
  if is_zero v then pure normal else (body >>= followed (loop_of n test body))

-- the object of an exception that is being built is freed
abbrev pub give_up : ℕ → Action (Unit {0})
give_up e s = only_if (is_being_built s.world e) (change (freed e)) s

-- so is the object of a slot at an exit by an exception or a forced unwind
abbrev pub after_building : {A : Type 0} → ℕ → Result A → Result A
after_building x (stopped (thrown f) s) = (give_up (exception_in_slot s.frame x) >> stop (thrown f)) s
after_building x (stopped (cancelled n) s) = (give_up (exception_in_slot s.frame x) >> stop (cancelled n)) s
after_building x result = result

-- a cleanup after what it protects
abbrev pub cleaned : Running → Cleanup → Context → Result Flow → Result Flow
cleaned r (destroy_scope p d) c result = after_scope r c (operation r (destroy p d)) result
cleaned r (destroy_part p d) c result = after_part r c (operation r (destroy p d)) result
cleaned r (free_object x) c result = after_building x result
cleaned r leave_handler c result = after_scope r c (operation r leave) result

-- an exception that comes out is caught
abbrev pub after_try : {A : Type 0} → (ℕ → Action A) → Result A → Result A
after_try caught (stopped (thrown e) s) = caught e s
after_try caught result = result

-- the slot of a clause gets the exception object's address
abbrev pub with_object : ℕ → ℕ → State → State
with_object x e s = record s { frame = with_slot x (address_word (object_address e)) s.frame }

abbrev mutual
  pub region : Running → Region → Context → Action Flow
  region r (seq rs) c = bounded (regions r rs c)
  region r (op o) c = operation r o c >> pure normal
  region r (branch v a b) c = bounded (value_of r v >>= (λ x. if is_zero x then region r b c else region r a c))
  region r (loop v body) c = bounded (λ s. loop_of (suc s.turns) (value_of r v) (region r body c) s)
  region r (protect body cleanup) c = bounded (λ s. cleaned r cleanup c (region r body c s))
  region r (catch body cs) c = bounded (λ s. after_try (caught r cs c) (region r body (guarded_by (clauses (types_of cs)) c) s))
  region r (limit body types) c = bounded (λ s. after_limit r types c (region r body (guarded_by (listed types) c) s))
  region r (barrier body) c = bounded (behind_barrier r c (region r body))
  region r (leave_region n) c = pure (leaves n)

  pub regions : Running → RegionList → Context → Action Flow
  regions r no_regions c = pure normal
  regions r (region_then a rs) c = region r a c >>= followed (regions r rs c)

  -- the first clause that matches
  pub caught : Running → Clauses → Context → ℕ → Action Flow
  caught r no_clauses c e = stop (thrown e)
  caught r (clause_then t x body cs) c e = λ s.
      (if matches r.types (type_at s.world e) t then (λ u. region r body c (with_object x e u)) else caught r cs c e) s

-- the frame of the caller is that of the call that runs again
abbrev pub after_call : Frame → Result ℤ → Result ℤ
after_call f (done v s) = done v (record s { frame = f })
after_call f (stopped x s) = stopped x (record s { frame = f })

-- the state in which a function begins
abbrev pub called_state : Kinds → List Word → ℕ → State → State
called_state kinds given depth s = record s { frame = new_frame kinds given s.world; world = new_world kinds given depth s.world }

-- what a function that is done gives
abbrev pub function_result : Kinds → Option ℕ → Action ℤ
function_result kinds result s = some (result_in result s.frame s.world kinds) s

-- a function's body, then its result
abbrev pub function_body : Running → RegionFunction → Context → Action ℤ
function_body r f c = region r f.body c >> function_result r.kinds f.result

-- a function is run; its depth stands in the context
abbrev pub run_function : Running → RegionFunction → List Word → Context → Action ℤ
run_function r f given c s =
    after_call s.frame (function_body (record r { kinds = kinds_of f.slots }) f c (called_state (kinds_of f.slots) given c.depth s))

-- a call with fuel, of which each call inside has one less
abbrev pub call_with : Regions → ℕ → ℕ → ℕ → List Word → Context → Action ℤ
call_with p most zero n given c = stop out_of_turns
call_with p most (suc fuel) n given c = do
  open_call most c
  run_function (record { types = p.types; kinds = kinds_of []; limit = most; call = call_with p most fuel }) (function_at p n) given
      (record c { depth = c.depth + 1 })

-- a global holds its first value
abbrev pub global_memory : List ℤ → Base → ℕ → Option ℤ
global_memory values (of_global g) n = if n == 0 then slice_get values g else None
global_memory values _ n = None

-- the world before the call of main
abbrev pub first_world : List ℤ → List ℕ → List (List Reply) → World
first_world values input replies = record {
  memory = λ a. global_memory values a.base a.offset;
  live = [];
  last_number = 0;
  caught = [];
  uncaught = 0;
  installed = record { terminate_handler = None; unexpected_handler = None };
  input = input;
  replies = replies;
  items = [];
  calls = 0;
  deepest = 0;
  ending = false;
}

-- before the call of main there is no call
abbrev pub no_frame : Frame
no_frame = record { call = 0; slots = λ s. nothing }

-- the meaning that an outcome of main and its world give
abbrev pub meaning_of : MainOutcome → World → ProgramMeaning
meaning_of m w = record { items = w.items; end = end_of m; deepest = w.deepest; main = m; replies = w.replies }

-- the meaning that the call of main gives
abbrev pub after_main : Result ℤ → ProgramMeaning
after_main (done v s) = meaning_of (returned v) s.world
after_main (stopped x s) = meaning_of (stopped_by x) s.world

-- the meaning of a program of regions, in the same words as that of a source
abbrev pub regions_meaning : Regions → List ℕ → List (List Reply) → ℕ → ℕ → ProgramMeaning
regions_meaning p input replies turns most =
    after_main (call_with p most (suc turns) p.main [] (record { guards = []; depth = 0 })
    (record { frame = no_frame; world = first_world p.globals input replies; turns = turns }))
