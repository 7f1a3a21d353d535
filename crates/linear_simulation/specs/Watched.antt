-- What regions do, watched. An exception keeps its type while it travels and does not come out of its own destructor, functions that are
-- called are there, and the handlers kept with an exception that a specification stopped stay. Where regions break this, nothing more is
-- said of them, as of a call that is too deep: tables are searched once for the frame that an exception is to come to, and each pad on the
-- way is chosen by the type that it has then. Regions of a source are meant to break none of this; that none does is not shown here.
use Rattle.std.specs.Prelude.{ℕ, zero, suc, ◌+◌, ℤ, Bool, true, false, not, ◌==◌, List, [], ◌∷◌, Option, Some, None, slice_get, if◌then◌else◌}
use Rattle.eh_outer.specs.declared.module.Reply.{Reply}
use Rattle.meaning_forms.specs.Arithmetic.{is_zero}
use Rattle.meaning_forms.specs.Class.{contains}
use Rattle.meaning_forms.specs.Outcome.{thrown, out_of_turns, deep}
use Rattle.meaning_forms.specs.Meaning.{Meaning}
use Rattle.region_forms.specs.Form.{Op, destroy, leave, Cleanup, destroy_scope, destroy_part, free_object, leave_handler, Region, seq, op, branch, loop, protect, catch, limit, barrier, leave_region, RegionList, no_regions, region_then, Clauses, no_clauses, clause_then, RegionFunction, Regions, kinds_of}
use Rattle.region_forms.specs.World.{Word, type_at, exception_at}
use Rattle.region_forms.specs.Guard.{clauses, listed, matches, allows, types_of}
use Rattle.region_forms.specs.Effect.{enters, newest_of}
use Rattle.region_forms.specs.Outcome.{Context, Flow, normal, leaves, Result, done, stopped, Action, pure, stop, guarded_by, ◌>>=◌, ◌>>◌}
use Rattle.region_forms.specs.Ending.{Running, terminate_with, after_scope, after_part, leave_newest, perform, behind_barrier, open_call, raise, bad_row}
use Rattle.region_forms.specs.Unexpected.{kept_with, throw_bad, enter_stopped}
use Rattle.region_forms.specs.Meaning.{bounded, followed, operation, value_of, loop_of, after_building, after_try, with_object, after_call, called_state, function_result, no_frame, first_world, after_main}

-- the same type, or none on both sides
abbrev pub same_type : Option ℕ → Option ℕ → Bool
same_type None None = true
same_type (Some t) (Some u) = t == u
same_type _ _ = false

-- an exception travels on, if it is as it was
abbrev pub still : {A : Type 0} → Bool → ℕ → Action A
still true e s = stopped (thrown e) s
still false e s = stopped deep s

-- an exception that travels on after a cleanup has the type that it had
abbrev pub kept_type : {A : Type 0} → Option ℕ → Result A → Result A
kept_type t (stopped (thrown e) s) = still (same_type t (type_at s.world e)) e s
kept_type t result = result

-- what comes out before a cleanup, and what comes out behind it
abbrev pub kept_on : {A B : Type 0} → Result A → Result B → Result B
kept_on (stopped (thrown e) s) result = kept_type (type_at s.world e) result
kept_on before result = result

-- an exception does not come out of its own destructor
abbrev pub not_its_own : {A : Type 0} → ℕ → Result A → Result A
not_its_own e (stopped (thrown f) s) = still (not (f == e)) f s
not_its_own e result = result

-- leaving a handler
abbrev pub watched_leave : Running → Context → Action (Unit {0})
watched_leave r c s = not_its_own (newest_of s.world.caught) (leave_newest r c s)

-- one operation
abbrev pub watched_operation : Running → Op → Context → Action (Unit {0})
watched_operation r leave c = watched_leave r c
watched_operation r o c = operation r o c

-- a cleanup after what it protects
abbrev pub watched_cleaned : Running → Cleanup → Context → Result Flow → Result Flow
watched_cleaned r (destroy_scope p d) c result = after_scope r c (operation r (destroy p d)) result
watched_cleaned r (destroy_part p d) c result = after_part r c (operation r (destroy p d)) result
watched_cleaned r (free_object x) c result = after_building x result
watched_cleaned r leave_handler c result = after_scope r c (watched_leave r) result

-- what is done in a handler, then the leaving
abbrev pub watched_handled : {A : Type 0} → Running → Context → Action A → Action A
watched_handled r c act s = kept_on (act s) (after_scope r c (watched_leave r) (act s))

-- terminate with the handler kept with exception e, which is still h
abbrev pub terminate_for : {A : Type 0} → Running → (e : ℕ) → Option ℕ → Context → Action A
terminate_for r e h c s = (if same_type h (kept_with (exception_at s.world e)).terminate_handler then terminate_with r h c else stop deep) s

-- an exception that came out of the unexpected handler, entered, is passed on in place of e
abbrev pub watched_pass : {A : Type 0} → Running → List ℕ → (e : ℕ) → Option ℕ → (f : ℕ) → Context → Action A
watched_pass r types e h f c s =
    (if allows r.types types (type_at s.world f) then raise r f c else
    if contains types bad_row then throw_bad r c else terminate_for r e h c) s

-- what comes out of an unexpected handler called for exception e, with which terminate handler h is kept
abbrev pub watched_after : {A : Type 0} → Running → List ℕ → (e : ℕ) → Option ℕ → Context → Result ℤ → Result A
watched_after r types e h c (done v s) = terminate_for r e h c s
watched_after r types e h c (stopped (thrown f) s) =
    ((λ t. perform r (enters f t.frame t.world) c t) >> watched_handled r c (watched_pass r types e h f c)) s
watched_after r types e h c (stopped x s) = stopped x s

-- the unexpected handler u runs, if there is one
abbrev pub watched_handler : {A : Type 0} → Running → List ℕ → (e : ℕ) → (h u : Option ℕ) → Context → Action A
watched_handler r types e h None c = terminate_for r e h c
watched_handler r types e h (Some u) c = λ s. watched_after r types e h c (r.call u [] (guarded_by (clauses (None ∷ [])) c) s)

-- an exception that a specification stops
abbrev pub watched_unexpected : {A : Type 0} → Running → List ℕ → ℕ → Context → Action A
watched_unexpected r types e c s =
    (enter_stopped e >> watched_handled r c (watched_handler r types e (kept_with (exception_at s.world e)).terminate_handler
    (kept_with (exception_at s.world e)).unexpected_handler c)) s

-- what a list does not allow is unexpected
abbrev pub watched_limit : {A : Type 0} → Running → List ℕ → Context → Result A → Result A
watched_limit r types c (stopped (thrown e) s) =
    (if allows r.types types (type_at s.world e) then stop (thrown e) else watched_unexpected r types e c) s
watched_limit r types c result = result

-- a cleanup behind what it protects, where an exception keeps its type
abbrev pub watched_protect : Running → Cleanup → Context → Result Flow → Result Flow
watched_protect r cleanup c result = kept_on result (watched_cleaned r cleanup c result)

abbrev mutual
  pub watched : Running → Region → Context → Action Flow
  watched r (seq rs) c = bounded (watched_all r rs c)
  watched r (op o) c = watched_operation r o c >> pure normal
  watched r (branch v a b) c = bounded (value_of r v >>= (λ x. if is_zero x then watched r b c else watched r a c))
  watched r (loop v body) c = bounded (λ s. loop_of (suc s.turns) (value_of r v) (watched r body c) s)
  watched r (protect body cleanup) c = bounded (λ s. watched_protect r cleanup c (watched r body c s))
  watched r (catch body cs) c = bounded (λ s. after_try (watched_caught r cs c) (watched r body (guarded_by (clauses (types_of cs)) c) s))
  watched r (limit body types) c = bounded (λ s. watched_limit r types c (watched r body (guarded_by (listed types) c) s))
  watched r (barrier body) c = bounded (behind_barrier r c (watched r body))
  watched r (leave_region n) c = pure (leaves n)

  pub watched_all : Running → RegionList → Context → Action Flow
  watched_all r no_regions c = pure normal
  watched_all r (region_then a rs) c = watched r a c >>= followed (watched_all r rs c)

  pub watched_caught : Running → Clauses → Context → ℕ → Action Flow
  watched_caught r no_clauses c e = stop (thrown e)
  watched_caught r (clause_then t x body cs) c e = λ s.
      (if matches r.types (type_at s.world e) t then (λ u. watched r body c (with_object x e u)) else watched_caught r cs c e) s

-- a function's body, then its result
abbrev pub watched_body : Running → RegionFunction → Context → Action ℤ
watched_body r f c = watched r f.body c >> function_result r.kinds f.result

-- a function is run
abbrev pub watched_function : Running → RegionFunction → List Word → Context → Action ℤ
watched_function r f given c s =
    after_call s.frame (watched_body (record r { kinds = kinds_of f.slots }) f c (called_state (kinds_of f.slots) given c.depth s))

-- a call of a function, if it is there
abbrev pub watched_call_of : Option RegionFunction → Running → List Word → Context → Action ℤ
watched_call_of None r given c = stop deep
watched_call_of (Some f) r given c = open_call r.limit c >> watched_function r f given (record c { depth = c.depth + 1 })

-- a call with fuel, of which each call inside has one less
abbrev pub watched_call : Regions → ℕ → ℕ → ℕ → List Word → Context → Action ℤ
watched_call p most zero n given c = stop out_of_turns
watched_call p most (suc fuel) n given c =
    watched_call_of (slice_get p.functions n) (record { types = p.types; kinds = kinds_of []; limit = most; call = watched_call p most fuel }) given c

-- the meaning of a program of regions, watched
abbrev pub watched_meaning : Regions → List ℕ → List (List Reply) → ℕ → ℕ → Meaning
watched_meaning p input replies turns most =
    after_main (watched_call p most (suc turns) p.main [] (record { guards = []; depth = 0 })
    (record { frame = no_frame; world = first_world p.globals input replies; turns = turns }))
