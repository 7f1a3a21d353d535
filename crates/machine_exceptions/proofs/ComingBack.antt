-- What matches where end_catch has come back.
use Rattle.std.proofs.Common.{◌≡◌, ◌∙◌, refl, sym, ap, subst, arith, ℕ, ◌+◌, ◌-◌, List, length}
use Rattle.rv64_isa.specs.Step.{x}
use Rattle.caught_stack.specs.Exceptions.{Exceptions}
use Rattle.cxa_runtime.specs.World as abi
use Rattle.cxa_runtime.specs.Raising.{Image}
use Rattle.region_forms.specs.World.{World}
use Rattle.linear_forms.specs.Activation.{Activation, State as LinearState}
use Rattle.machine_forms.specs.Registers.{ra, sp}
use Rattle.machine_forms.specs.Routine.{op_word}
use Rattle.machine_pieces.specs.Standing.{address}
use Rattle.machine_pieces.specs.Keeping.{saved_of}
use Rattle.machine_stubs.specs.ComesBack.{SameRest, CameBack}
use Rattle.machine_simulation.specs.Plan.{Plan, routine, first_word, setting}
use Rattle.machine_simulation.specs.Exceptions.{addresses_of, exceptions_in, kept_by, destroyed, ExceptionsMatch, PlanHas}
use Rattle.machine_simulation.specs.Matches.{RuntimeMatches, MemoryMatches}
use Rattle.machine_simulation.proofs.Matching.{Stands, kept_at}
use Rattle.machine_simulation.proofs.Freeing.{beside_matches, IsFree, registers_beside}
use Rattle.machine_simulation.specs.KeptCalls.{RegistersMatch}
use Rattle.machine_exceptions.proofs.EndCatching.{CatchCalled}

-- what the runtime keeps but for the exceptions
pub kept_then : (w t : abi.World) (e : Exceptions) → SameRest w t → t.exceptions ≡ e → record { exceptions = e; terminate_handler = w.terminate_handler; unexpected_handler = w.unexpected_handler } ≡ kept_by t
kept_then w t e rest is =
    ap (λ y. record { exceptions = y; terminate_handler = w.terminate_handler; unexpected_handler = w.unexpected_handler }) (sym is)
    ∙ ap (λ h. record { exceptions = t.exceptions; terminate_handler = h; unexpected_handler = w.unexpected_handler }) (sym rest.terminate_handler)
    ∙ ap (λ h. record { exceptions = t.exceptions; terminate_handler = t.terminate_handler; unexpected_handler = h }) (sym rest.unexpected_handler)

-- worlds that differ in exceptions alone, for the rest of what is outside
pub runtime_then : (p q : Plan) (fs gs : List Activation) (v u : World) (w t : abi.World) (e : Exceptions) → RuntimeMatches p fs v w → SameRest w t → t.exceptions ≡ e → u.input ≡ v.input → u.replies ≡ v.replies → u.last_number ≡ v.last_number →
    u.ending ≡ v.ending → ExceptionsMatch (addresses_of q) (destroyed gs) (exceptions_in u) (record { exceptions = e; terminate_handler = w.terminate_handler; unexpected_handler = w.unexpected_handler }) → PlanHas q u.live →
    RuntimeMatches q gs u t
runtime_then p q fs gs v u w t e h rest is input replies number ending m plan = record {
  input = rest.input ∙ h.input ∙ sym input;
  replies = rest.replies ∙ h.replies ∙ sym replies;
  last_number = rest.last_number ∙ h.last_number ∙ sym number;
  terminating = rest.terminating ∙ h.terminating ∙ sym ending;
  exceptions = subst (ExceptionsMatch (addresses_of q) (destroyed gs) (exceptions_in u)) (kept_then w t e rest is) m;
  plan = plan;
}

-- the hart stands behind the operation, and memory matches
pub record Returned (p : Plan) (n : ℕ) (st : LinearState) (back : ℕ) (t : abi.World) : Type 0 where
  pub registers : length t.hart.regs ≡ 32
  pub pc : t.hart.pc ≡ address (setting p n).ground (first_word p n + op_word (routine p n) (st.top.place + 1))
  pub memory : MemoryMatches p n st.top.frame st.frames st.world t.hart.memory (x t.hart sp) back
  pub kept : RegistersMatch p n st.top.frame st.frames st.world t.hart.memory (x t.hart sp) (saved_of t.hart)

pub returned : (image : Image) (p : Plan) (n : ℕ) (st : LinearState) (w : abi.World) (back : ℕ) (c : CatchCalled image p n st w) (t : abi.World) (e : Exceptions) → Stands p n st w back →
    CameBack (x c.after.hart ra) (x c.after.hart sp) (x c.after.hart sp - 48) 48 e c.after t → Returned p n st back t
returned image p n st w back c t e h came =
    let low : ℕ = x c.after.hart sp - 48 in
    let stack : x t.hart sp ≡ x w.hart sp = came.pointer ∙ c.stack in
    let at : MemoryMatches p n st.top.frame st.frames st.world c.after.hart.memory (x w.hart sp) back
    = subst (λ ps. MemoryMatches p n st.top.frame st.frames st.world ps (x w.hart sp) back) (sym c.memory) h.memory in
    let free : IsFree (x w.hart sp) low 48 = record { low = omega (arith, c.high); high = omega (arith, c.high, c.stack) } in
    let behind = beside_matches p n st.top.frame st.frames st.world c.after.hart.memory t.hart.memory (x w.hart sp) back low 48 at free came.beside in
    let kept = registers_beside p n st.top.frame st.frames st.world c.after.hart.memory t.hart.memory (x w.hart sp) back low 48 (saved_of w.hart) at free came.beside
    (subst (λ ps. RegistersMatch p n st.top.frame st.frames st.world ps (x w.hart sp) (saved_of w.hart)) (sym c.memory) h.kept) in
    record {
      registers = came.registers;
      pc = came.pc ∙ c.back;
      memory = subst (λ a. MemoryMatches p n st.top.frame st.frames st.world t.hart.memory a back) (sym stack) behind;
      kept = kept_at p n st (x w.hart sp) t.hart.memory (saved_of w.hart) t.hart refl stack (came.variables ∙ c.saved) kept;
    }
