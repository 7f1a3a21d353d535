-- What is said of an operation gives its form.
use Rattle.std.proofs.Common.{◌≡◌, ◌∙◌, ◌⊎◌, inl, inr, ℕ, ◌<◌, length, Option, Some, None, refl, sym, subst}
use Rattle.std.specs.Prelude.{⊤}
use Rattle.cxx_ast.specs.declared.name.Builtin.{Builtin}
use Rattle.cxx_ast.specs.declared.name.Builtin.TheVariants.{WriteInt, ReadByte, Exit, Module, Cancel, Terminate, SetTerminate, SetUnexpected, Uncaught, BadException}
use Rattle.region_forms.specs.Form.{Place, builtin, Value, call_value, int_argument, address_argument, handler_argument, Arguments, no_arguments, argument_then, evaluate, store, call, Regions}
use Rattle.linear_forms.specs.Linear.{LinearOp, plain}
use Rattle.flight_homes.specs.Lives.{HandlersKnown, CalleeKnown, OpKnown, known_in}
use Rattle.machine_exceptions.specs.Answers.{CallsBuiltin, both_ints}
use Rattle.builtin_calls.specs.Fits.{Calls, BuiltinFits}
use Rattle.builtin_calls.proofs.Trees.{GivesValue}
use Rattle.builtin_calls.proofs.Lowered.{AreInts, IsHandler, IsGiven, OpFits}

-- what is given

no_ints : (args : Arguments) → AreInts 0 args → args ≡ no_arguments
no_ints no_arguments h = refl
no_ints (argument_then a args) h = absurd h

one_int : (args : Arguments) → AreInts 1 args → (v : Value) × (args ≡ argument_then (int_argument v) no_arguments)
one_int no_arguments h = absurd h
one_int (argument_then (int_argument v) no_arguments) h = (v, refl)
one_int (argument_then (int_argument v) (argument_then a args)) h = absurd h
one_int (argument_then (address_argument p) args) h = absurd h
one_int (argument_then (handler_argument m) args) h = absurd h

two_ints : (args : Arguments) → AreInts 2 args → (v : Value) × (u : Value) × (args ≡ both_ints v u)
two_ints no_arguments h = absurd h
two_ints (argument_then (int_argument v) no_arguments) h = absurd h
two_ints (argument_then (int_argument v) (argument_then (int_argument u) no_arguments)) h = (v, u, refl)
two_ints (argument_then (int_argument v) (argument_then (int_argument u) (argument_then a args))) h = absurd h
two_ints (argument_then (int_argument v) (argument_then (address_argument p) args)) h = absurd h
two_ints (argument_then (int_argument v) (argument_then (handler_argument m) args)) h = absurd h
two_ints (argument_then (address_argument p) args) h = absurd h
two_ints (argument_then (handler_argument m) args) h = absurd h

one_handler : (args : Arguments) → IsHandler args → (m : ℕ) × (args ≡ argument_then (handler_argument m) no_arguments)
one_handler no_arguments h = absurd h
one_handler (argument_then (handler_argument m) no_arguments) h = (m, refl)
one_handler (argument_then (handler_argument m) (argument_then a args)) h = absurd h
one_handler (argument_then (int_argument v) args) h = absurd h
one_handler (argument_then (address_argument p) args) h = absurd h

-- what wants a value

abbrev Wanted : Builtin → Option Place → Type 0
Wanted b None = Unit {0}
Wanted b (Some q) = GivesValue b

never : (b : Builtin) (wants : Option Place) → (GivesValue b → ⊥) → Wanted b wants → wants ≡ None
never b None f h = refl
never b (Some q) f h = absurd (f h)

without : (b : Builtin) (args : Arguments) (wants : Option Place) (o : LinearOp) → wants ≡ None → CallsBuiltin b args wants o →
    (o ≡ plain (call (builtin b) args)) ⊎ (o ≡ plain (evaluate (call_value (builtin b) args)))
without b args wants o none (inl (q, some, is)) = absurd (cc (sym some ∙ none))
without b args wants o none (inr (inl (n, is))) = inr is
without b args wants o none (inr (inr (n, is))) = inl is

-- the form

module _ (r : Regions) (o : LinearOp) (args : Arguments) (wants : Option Place) where
  sets : (b : Builtin) → CallsBuiltin b args wants o → IsHandler args → wants ≡ None → HandlersKnown (known_in r) args →
      (m : ℕ) × (m < length r.functions) × CallsBuiltin b (argument_then (handler_argument m) no_arguments) None o
  sets b c h none k =
      let x = one_handler args h in
      (x.0, (subst (HandlersKnown (known_in r)) x.1 k).0, subst (λ w. CallsBuiltin b (argument_then (handler_argument x.0) no_arguments) w o) none (subst (λ a. CallsBuiltin b a wants o) x.1 c))

  formed : (b : Builtin) → CallsBuiltin b args wants o → IsGiven b args → Wanted b wants → CalleeKnown (known_in r) (builtin b) args → Calls (length r.functions) b o
  formed WriteInt c h w k = let x = one_int args h in (x.0, without WriteInt _ wants o (never WriteInt wants (λ v. v) w) (subst (λ a. CallsBuiltin WriteInt a wants o) x.1 c))
  formed Exit c h w k = let x = one_int args h in (x.0, without Exit _ wants o (never Exit wants (λ v. v) w) (subst (λ a. CallsBuiltin Exit a wants o) x.1 c))
  formed Cancel c h w k = let x = one_int args h in (x.0, without Cancel _ wants o (never Cancel wants (λ v. v) w) (subst (λ a. CallsBuiltin Cancel a wants o) x.1 c))
  formed ReadByte c h w k = (wants, record { is = subst (λ a. CallsBuiltin ReadByte a wants o) (no_ints args h) c })
  formed Module c h w k = let x = two_ints args h in (wants, x.0, x.1, subst (λ a. CallsBuiltin Module a wants o) x.2 c)
  formed Uncaught c h w k = (wants, subst (λ a. CallsBuiltin Uncaught a wants o) (no_ints args h) c)
  formed Terminate c h w k = subst (λ q. CallsBuiltin Terminate no_arguments q o) (never Terminate wants (λ v. v) w) (subst (λ a. CallsBuiltin Terminate a wants o) (no_ints args h) c)
  formed SetTerminate c h w k = sets SetTerminate c h (never SetTerminate wants (λ v. v) w) k
  formed SetUnexpected c h w k = sets SetUnexpected c h (never SetUnexpected wants (λ v. v) w) k
  formed BadException c h w k = h

-- of an operation of code
abbrev pub LinearFits : LinearOp → Type 0
LinearFits (plain o) = OpFits o
LinearFits o = Unit {0}

-- what its handlers name is known
abbrev pub HandlersThere : Regions → LinearOp → Type 0
HandlersThere r (plain o) = OpKnown (known_in r) o
HandlersThere r o = ⊤

pub has_form : (r : Regions) (o : LinearOp) → LinearFits o → HandlersThere r o → BuiltinFits (length r.functions) o
has_form r (plain (call (builtin b) args)) h k = formed r (plain (call (builtin b) args)) args None b (inr (inr (refl, refl))) h tt k
has_form r (plain (evaluate (call_value (builtin b) args))) h k = formed r (plain (evaluate (call_value (builtin b) args))) args None b (inr (inl (refl, refl))) h tt k
has_form r (plain (store q (call_value (builtin b) args))) h k = formed r (plain (store q (call_value (builtin b) args))) args (Some q) b (inl (q, refl, refl)) h.0 h.1 k
has_form r o h k = tt
