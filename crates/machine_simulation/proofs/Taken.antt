-- No operation of a function takes the address of a kept variable.
use Rattle.std.proofs.Common.{◌≡◌, ◌∙◌, refl, subst, ap, ℕ, zero, suc, List, [], ◌∷◌, Option, Some, None}
use Rattle.std.specs.Prelude.{◌||◌, Bool, true, false, slice_get}
use Rattle.region_forms.specs.Form.{Root, in_slot, through, in_global, Place, call_value, Argument, Arguments, argument_then, defined, no_arguments, evaluate, store, call, construct, destroy}
use Rattle.linear_forms.specs.Linear.{LinearOp, plain}
use Rattle.machine_forms.specs.Kept.{root_is, argument_takes, arguments_take, linear_takes, is_taken}
use Rattle.machine_forms.specs.KeptCode.{register_of, root_register}
use Rattle.machine_simulation.specs.Plan.{Plan, function, shape}
use Rattle.machine_simulation.specs.Calls.{CallOf, call_of}
use Rattle.machine_simulation.specs.KeptCalls.{kept_of}
use Rattle.machine_simulation.proofs.Bases.{number_itself, true_is_not}
use Rattle.machine_simulation.proofs.KeptSlots.{kept_slot}

pub or_left : (a b : Bool) → a ≡ true → (a || b) ≡ true
or_left true b e = refl
or_left false b e = absurd (cc e)

pub or_right : (a b : Bool) → b ≡ true → (a || b) ≡ true
or_right true b e = refl
or_right false b e = e

taken_at : (ops : List LinearOp) (place s : ℕ) (o : LinearOp) → slice_get ops place ≡ Some o → linear_takes s o ≡ true → is_taken s ops ≡ true
taken_at [] place s o there takes = absurd (cc there)
taken_at (y ∷ ops) zero s o there takes =
    let same : y ≡ o = cc there in or_left (linear_takes s y) (is_taken s ops) (ap (linear_takes s) same ∙ takes)
taken_at (y ∷ ops) (suc place) s o there takes = or_right (linear_takes s y) (is_taken s ops) (taken_at ops place s o there takes)

-- what takes a slot's address is given none of a kept variable
abbrev pub IsFree : Plan → ℕ → (ℕ → Bool) → Type 0
IsFree p n takes = (s : ℕ) → takes s ≡ true → register_of (kept_of p n) s ≡ None

pub free_at : (p : Plan) (n place : ℕ) (o : LinearOp) → slice_get (function p n).ops place ≡ Some o → IsFree p n (λ s. linear_takes s o)
free_at p n place o there s takes = by (register_of (kept_of p n) s) refl
  where
    by : (r : Option ℕ) → register_of (kept_of p n) s ≡ r → register_of (kept_of p n) s ≡ None
    by None e = e
    by (Some r) e = absurd (true_is_not (is_taken s (function p n).ops) (taken_at (function p n).ops place s o there takes) (kept_slot (function p n) s r e).kept.free)

pub root_free : (p : Plan) (n : ℕ) (root : Root) → IsFree p n (λ s. root_is s root) → root_register (shape p n) root ≡ None
root_free p n (in_slot s) h = h s (number_itself s)
root_free p n (through s) h = refl
root_free p n (in_global g) h = refl

pub first_free : (p : Plan) (n : ℕ) (a : Argument) (args : Arguments) → IsFree p n (λ s. arguments_take s (argument_then a args)) → IsFree p n (λ s. argument_takes s a)
first_free p n a args h s e = h s (or_left (argument_takes s a) (arguments_take s args) e)

pub rest_free : (p : Plan) (n : ℕ) (a : Argument) (args : Arguments) → IsFree p n (λ s. arguments_take s (argument_then a args)) → IsFree p n (λ s. arguments_take s args)
rest_free p n a args h s e = h s (or_right (argument_takes s a) (arguments_take s args) e)

-- what a call is given
abbrev pub object_takes : ℕ → Option Place → Bool
object_takes s None = false
object_takes s (Some q) = root_is s q.root

pub record CallIsFree (p : Plan) (n : ℕ) (c : CallOf) : Type 0 where
  pub object : IsFree p n (λ s. object_takes s c.object)
  pub arguments : IsFree p n (λ s. arguments_take s c.arguments)

call_for : (p : Plan) (n : ℕ) (c d : CallOf) → c ≡ d → CallIsFree p n c → CallIsFree p n d
call_for p n c d same h = subst (CallIsFree p n) same h

pub call_free : (p : Plan) (n : ℕ) (o : LinearOp) (c : CallOf) → call_of o ≡ Some c → IsFree p n (λ s. linear_takes s o) → CallIsFree p n c
call_free p n (plain (evaluate (call_value (defined m) args))) c is h =
    call_for p n (record { number = m; object = None; arguments = args }) c (cc is) (record { object = λ s e. absurd (cc e); arguments = h })
call_free p n (plain (store q (call_value (defined m) args))) c is h =
    call_for p n (record { number = m; object = None; arguments = args }) c (cc is) (record { object = λ s e. absurd (cc e); arguments = h })
call_free p n (plain (call (defined m) args)) c is h =
    call_for p n (record { number = m; object = None; arguments = args }) c (cc is) (record { object = λ s e. absurd (cc e); arguments = h })
call_free p n (plain (construct q m args)) c is h =
    call_for p n (record { number = m; object = Some q; arguments = args }) c (cc is)
    (record { object = λ s e. h s (or_left (root_is s q.root) (arguments_take s args) e); arguments = λ s e. h s (or_right (root_is s q.root) (arguments_take s args) e) })
call_free p n (plain (destroy q m)) c is h =
    call_for p n (record { number = m; object = Some q; arguments = no_arguments }) c (cc is) (record { object = h; arguments = λ s e. absurd (cc e) })
call_free p n o c is h = absurd (cc is)
