-- How the code of a region is put together from that of its parts. A landing pad stands before the code that it is for, so its place is
-- known where that is emitted. A cleanup stands at most twice: once in its pad, where nothing comes out of it, and once for all normal
-- exits.
use Rattle.std.specs.Prelude.{ℕ, ◌+◌, ℤ, pos, Bool, true, false, List, [], ◌∷◌, ◌++◌, map, Option, Some, None, if◌then◌else◌}
use Rattle.cxx_ast.specs.declared.expression.BinaryOp.TheVariants.{NotEqual}
use Rattle.cxx_ast.specs.declared.name.Builtin.{Builtin}
use Rattle.cxx_ast.specs.declared.name.Builtin.TheVariants.{Module, Cancel}
use Rattle.meaning_forms.specs.Arithmetic.{int_equal}
use Rattle.meaning_forms.specs.Class.{some_of}
use Rattle.region_forms.specs.Form.{in_slot, through, Place, Callee, defined, builtin, Value, number, load, binary, call_value, Op, evaluate, store, bind, call, construct, destroy, throw, rethrow, leave, Cleanup, destroy_scope, destroy_part, free_object, leave_handler}
use Rattle.linear_forms.specs.Linear.{LinearOp, plain, label, jump, jump_zero, pad, jump_filter, free, resume, unexpected}
use Rattle.linear_forms.specs.Tables.{Cover, bare, unpadded, padded, Sense, cleanup, clause}
use Rattle.linear_forms.specs.Sites.{Placed}
use Rattle.linear_forms.specs.Exits.{Exit, name_of, first_label, crosses}

-- what a function's code is made with: the filters of its tables, the slots for what a pad gets, and the slot for where an exit goes on
pub record Emitting : Type 0 where
  pub filter : Sense → ℤ
  pub object : ℕ
  pub selector : ℕ
  pub way : ℕ

-- a built-in function that may raise: a module's may, and a forced unwind is one
abbrev pub builtin_raises : Builtin → Bool
builtin_raises Module = true
builtin_raises Cancel = true
builtin_raises _ = false

-- a callee that may raise
abbrev pub callee_raises : Callee → Bool
callee_raises (defined n) = true
callee_raises (builtin b) = builtin_raises b

-- a value that may raise
abbrev pub value_raises : Value → Bool
value_raises (call_value c args) = callee_raises c
value_raises _ = false

-- an exception or a forced unwind may come out of an operation
abbrev pub may_raise : Op → Bool
may_raise (evaluate v) = value_raises v
may_raise (store p v) = value_raises v
may_raise (call c args) = callee_raises c
may_raise (construct p n args) = true
may_raise (destroy p n) = true
may_raise (throw s t d) = true
may_raise rethrow = true
may_raise leave = true
may_raise _ = false

-- an operation out of which nothing comes
abbrev pub quiet : LinearOp → Placed
quiet o = record { op = o; cover = bare }

-- an operation that goes on outwards stands in the surroundings' cover
abbrev pub outward : LinearOp → Cover → Placed
outward o c = record { op = o; cover = c }

-- an operation of regions in a cover
abbrev pub put : Op → Cover → Placed
put o c = record { op = plain o; cover = if may_raise o then c else bare }

-- the filters of a cover
abbrev pub chain_of : Cover → List ℤ
chain_of bare = []
chain_of unpadded = []
chain_of (padded p chain) = chain

-- in the extent of a pad with filters these come before those of the surroundings
abbrev pub guarded : ℕ → List ℤ → Cover → Cover
guarded p chain c = padded p (chain ++ chain_of c)

-- one filter of a cleanup in a chain says as much as several
abbrev pub with_cleanup : ℤ → List ℤ → List ℤ
with_cleanup n chain = if some_of (int_equal n) chain then chain else n ∷ chain

-- in the extent of a pad with a cleanup
abbrev pub cleaned : Emitting → ℕ → Cover → Cover
cleaned em p c = padded p (with_cleanup (em.filter cleanup) (chain_of c))

-- the slot for where an exit goes on
abbrev pub way_place : Emitting → Place
way_place em = record { root = in_slot em.way; offset = 0 }

-- the slot says a name
abbrev pub set_way : Emitting → ℕ → Placed
set_way em n = quiet (plain (store (way_place em) (number (pos n))))

-- an exit: it says where it goes, if a cleanup is on the way, and jumps
abbrev pub leave_code : Emitting → ℕ → List Exit → List Placed
leave_code em n xs =
    if crosses n xs then set_way em (name_of n xs) ∷ quiet (jump (first_label n xs)) ∷ [] else quiet (jump (first_label n xs)) ∷ []

-- behind a cleanup an exit goes on to where the slot says, if that is the n-th of the regions outside
abbrev pub way_test : Emitting → List Exit → ℕ → Placed
way_test em xs n = quiet (jump_zero (binary NotEqual (load (way_place em)) (number (pos (name_of n xs)))) (first_label n xs))

-- a test for each way out
abbrev pub way_tests : Emitting → List Exit → List ℕ → List Placed
way_tests em xs outs = map (way_test em xs) outs

-- the cleanup of a pad: nothing comes out of it, so it has no site
abbrev pub pad_cleanup : Cleanup → Placed
pad_cleanup (destroy_scope p d) = quiet (plain (destroy p d))
pad_cleanup (destroy_part p d) = quiet (plain (destroy p d))
pad_cleanup (free_object s) = quiet (free s)
pad_cleanup leave_handler = quiet (plain leave)

-- the cleanup of normal exits, if there is one
abbrev pub exit_cleanup : Cleanup → Option Op
exit_cleanup (destroy_scope p d) = Some (destroy p d)
exit_cleanup (destroy_part p d) = None
exit_cleanup (free_object s) = None
exit_cleanup leave_handler = Some leave

-- the region's own exit, with the label of its cleanup at normal exits
abbrev pub protect_exit : Cleanup → ℕ → Exit
protect_exit c l = record { cleanup = elim (exit_cleanup c) [ None ↦ None | Some o ↦ Some (l + 2) ]; end = l }

-- where some exit goes on behind the cleanup, a normal end says that it does not
abbrev pub no_way_out : Emitting → List ℕ → List Placed
no_way_out em [] = []
no_way_out em (n ∷ outs) = set_way em 0 ∷ []

-- the cleanup of normal exits, which are those to the region's end and those that go on
abbrev pub exit_code : Emitting → Option Op → Cover → List Exit → ℕ → List ℕ → List Placed
exit_code em None c xs l outs = []
exit_code em (Some o) c xs l outs = no_way_out em outs ++ quiet (label (l + 2)) ∷ put o c ∷ way_tests em xs outs

-- jump over the pad; the pad; what is protected; the cleanup of normal exits; the end
abbrev pub protect_code : Emitting → Cleanup → Cover → List Exit → ℕ → List ℕ → List Placed → List Placed
protect_code em cl c xs l outs body =
    quiet (jump (l + 1)) ∷ quiet (pad em.object em.selector) ∷ pad_cleanup cl ∷ outward (resume em.object) c ∷ quiet (label (l + 1)) ∷
    (body ++ (exit_code em (exit_cleanup cl) c xs l outs ++ quiet (label l) ∷ []))

-- two sides of a test
abbrev pub branch_code : Value → ℕ → List Placed → List Placed → List Placed
branch_code v l a b = quiet (jump_zero v (l + 1)) ∷ (a ++ quiet (jump l) ∷ quiet (label (l + 1)) ∷ (b ++ quiet (label l) ∷ []))

-- a loop with its test in front
abbrev pub loop_code : Value → ℕ → List Placed → List Placed
loop_code v l body = quiet (label (l + 1)) ∷ quiet (jump_zero v l) ∷ (body ++ quiet (jump (l + 1)) ∷ quiet (label l) ∷ [])

-- jump over the pad and the handlers; the pad with a test for each clause; the handlers; what is guarded; the end
abbrev pub catch_code : Emitting → Cover → ℕ → List Placed → List Placed → List Placed → List Placed
catch_code em c l tests handlers body =
    quiet (jump (l + 1)) ∷ quiet (pad em.object em.selector) ∷ (tests ++ outward (resume em.object) c ∷
    (handlers ++ quiet (label (l + 1)) ∷ (body ++ quiet (label l) ∷ [])))

-- a handler begins at its label and gets the object's address
abbrev pub handler_code : Emitting → (object end label : ℕ) → List Placed → List Placed → List Placed
handler_code em x end l body rest =
    quiet (label l) ∷ quiet (plain (bind x (record { root = through em.object; offset = 0 }))) ∷ (body ++ quiet (jump end) ∷ rest)

-- jump over the pad; the pad, which passes what the list does not allow to the runtime; what is guarded; the end
abbrev pub limit_code : Emitting → ℤ → Cover → ℕ → List Placed → List Placed
limit_code em n c l body =
    quiet (jump (l + 1)) ∷ quiet (pad em.object em.selector) ∷ quiet (jump_filter em.selector n (l + 2)) ∷ outward (resume em.object) c ∷
    quiet (label (l + 2)) ∷ outward (unexpected em.object em.selector) c ∷ quiet (label (l + 1)) ∷ (body ++ quiet (label l) ∷ [])

-- the filters of clauses
abbrev pub filters_of : Emitting → List (Option ℕ) → List ℤ
filters_of em ts = map (λ t. em.filter (clause t)) ts
