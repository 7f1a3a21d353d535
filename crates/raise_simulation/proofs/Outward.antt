-- The frame outward of that of an open call.
use Rattle.std.proofs.Common.{◌≡◌, ◌∙◌, refl, ap, arith, ℕ, zero, suc, ◌+◌, ◌^◌, ◌<◌, ◌≤◌, ◌==◌, ◌&&◌, nat_le, nat_lt, pos, true, false, List, ◌∷◌, Ok, if◌then◌else◌}
use Rattle.std.specs.Prelude.{◌||◌, ◌-ℤ◌, replicate, slice_index_or, Some}
use Rattle.std.proofs.lemmas.Bool.Decides.{nat_tests}
use Rattle.table_forms.specs.declared.found.Rule.TheVariants as rules
use Rattle.table_forms.specs.declared.found.Row.{Row}
use Rattle.table_forms.specs.Fde.{Fde, fde_for, row_at}
use Rattle.table_forms.specs.Verdict.{look_up_place}
use Rattle.rv64_isa.specs.State.{State}
use Rattle.rv64_isa.specs.declared.step.FaultKind.TheVariants as faults
use Rattle.rv64_machine.specs.Load.{word_loaded}
use Rattle.frame_walk.specs.declared.frame.Frame.{Frame}
use Rattle.frame_walk.specs.declared.frame.Walk.TheVariants as walks
use Rattle.frame_walk.specs.Registers.{offset_by, readable, registers_from, with_first}
use Rattle.frame_walk.specs.Outward.{cfa_of, is_outward, with_registers, is_lost, out_by, out_of, next_frame}
use Rattle.machine_forms.specs.Registers.{saved_registers}
use Rattle.raise_simulation.specs.OpenCalls.{call_rules, call_row, HasRow, IsOutermost, OpenCall, AreSaved, CallStands, with_values, registers_kept, outward}
use Rattle.raise_simulation.proofs.Offsets.{above, offset_back}
use Rattle.raise_simulation.proofs.Rules.{saved_rise, other_rule, other_value, saved_from}

-- a frame of a call whose frame on the stack begins at sp
pub record IsFrame (f : Frame) (sp : ℕ) : Type 0 where
  pub plain : f.signal ≡ false
  pub pointer : slice_index_or f.regs 2 0 ≡ sp
  pub inner : (a : ℕ) → sp < a → f.top || nat_lt f.cfa a ≡ true

kept : (s : State) (cfa : ℕ) (regs : List ℕ) (r k : ℕ) → 3 ≤ r → registers_from s cfa regs r (replicate k rules.Unspecified) ≡ Some (registers_kept r k regs)
kept s cfa regs r zero far = refl
kept s cfa regs r (suc k) far =
    let other : (r == 2) ≡ false = grind (arith, nat_tests, far) in
    ap (λ o. with_first o (registers_from s cfa regs (r + 1) (replicate k rules.Unspecified))) (ap (λ b. Some (if b then cfa else slice_index_or regs r 0)) other)
    ∙ ap (with_first (Some (slice_index_or regs r 0))) (kept s cfa regs (r + 1) k (omega (arith, far)))

call_registers : (s : State) (sp size back : ℕ) (places values regs : List ℕ) → 16 ≤ size → sp + size < 2 ^ 64 → word_loaded s (sp + 8) ≡ Ok back → AreSaved s sp size places values →
    registers_from s (sp + size) regs 0 (call_rules size places) ≡ Some (with_values saved_registers values (slice_index_or regs 0 0 ∷ back ∷ (sp + size) ∷ registers_kept 3 61 regs))
call_registers s sp size back places values regs some small back_there there =
    let cfa : ℕ = sp + size in
    let at = offset_back sp 8 size (omega (arith, some)) small in
    let plain : registers_from s cfa regs 0 (rules.Unspecified ∷ rules.Offset (pos 8 -ℤ pos size) ∷ replicate 62 rules.Unspecified) ≡ Some (slice_index_or regs 0 0 ∷ back ∷ cfa ∷ registers_kept 3 61 regs)
    = ap (λ o. with_first (Some (slice_index_or regs 0 0)) (with_first o (with_first (Some cfa) (registers_from s cfa regs 3 (replicate 61 rules.Unspecified))))) (ap readable (ap (word_loaded s) at ∙ back_there))
    ∙ ap (λ o. with_first (Some (slice_index_or regs 0 0)) (with_first (Some back) (with_first (Some cfa) o))) (kept s cfa regs 3 61 (omega arith)) in
    saved_from s sp size regs saved_registers places values (rules.Unspecified ∷ rules.Offset (pos 8 -ℤ pos size) ∷ replicate 62 rules.Unspecified) (slice_index_or regs 0 0 ∷ back ∷ cfa ∷ registers_kept 3 61 regs) small there plain

in_stack : (f : Frame) (sp size : ℕ) → IsFrame f sp → 0x7000_0000 ≤ sp → 16 ≤ size → sp + size ≤ 0x7100_0000 → is_outward f (sp + size) ≡ true
in_stack f sp size h low some high =
    let a : nat_le 0x7000_0000 (sp + size) ≡ true = grind (arith, nat_tests, low) in
    let b : nat_le (sp + size) 0x7100_0000 ≡ true = grind (arith, nat_tests, high) in
    let c = h.inner (sp + size) (omega (arith, some)) in
    ap (λ t. t && nat_le (sp + size) 0x7100_0000 && (f.top || nat_lt f.cfa (sp + size))) a ∙ ap (λ t. t && (f.top || nat_lt f.cfa (sp + size))) b ∙ c

-- the rule of the return address, and what is outward, in that register and in sp
return_rule : (size : ℕ) (places : List ℕ) → slice_index_or (call_rules size places) 1 rules.Unspecified ≡ rules.Offset (pos 8 -ℤ pos size)
return_rule size places = other_rule 32 2 1 size saved_registers places (rules.Unspecified ∷ rules.Offset (pos 8 -ℤ pos size) ∷ replicate 62 rules.Unspecified) (omega arith) saved_rise

back_in : (f : Frame) (sp : ℕ) (c : OpenCall) → slice_index_or (outward f sp c).regs 1 0 ≡ c.back
back_in f sp c = other_value 32 2 1 saved_registers c.saved (slice_index_or f.regs 0 0 ∷ c.back ∷ (sp + c.size) ∷ registers_kept 3 61 f.regs) (omega arith) saved_rise

pointer_in : (f : Frame) (sp : ℕ) (c : OpenCall) → slice_index_or (outward f sp c).regs 2 0 ≡ sp + c.size
pointer_in f sp c = other_value 32 2 2 saved_registers c.saved (slice_index_or f.regs 0 0 ∷ c.back ∷ (sp + c.size) ∷ registers_kept 3 61 f.regs) (omega arith) saved_rise

pub next_of : (s : State) (fdes : List Fde) (f : Frame) (sp : ℕ) (c : OpenCall) → IsFrame f sp → CallStands s fdes f.pc sp c → next_frame s fdes f ≡ walks.Next (outward f sp c)
unfolding next_frame
next_of s fdes f sp c h stands =
    ap (λ b. out_of s f (fde_for fdes (look_up_place f.pc b))) h.plain ∙ ap (out_of s f) row.found
    ∙ ap (λ b. out_by s f fde.cie.return_register fde.cie.signal (row_at fde (look_up_place f.pc b))) h.plain
    ∙ ap (out_by s f fde.cie.return_register fde.cie.signal) row.row
    ∙ ap (λ r. out_by s f r fde.cie.signal (call_row c.size c.places)) row.returns ∙ ap (λ b. out_by s f 1 b (call_row c.size c.places)) row.plain
    ∙ ap (λ rule. if is_lost rule then walks.EndOfStack else if is_outward f (cfa_of (call_row c.size c.places) f) then
    with_registers 1 false (cfa_of (call_row c.size c.places) f) (registers_from s (cfa_of (call_row c.size c.places) f) f.regs 0 (call_rules c.size c.places)) else walks.Fault faults.Walk) (return_rule c.size c.places)
    ∙ ap (λ a. if is_outward f a then with_registers 1 false a (registers_from s a f.regs 0 (call_rules c.size c.places)) else walks.Fault faults.Walk) cfa
    ∙ ap (λ b. if b then with_registers 1 false (sp + c.size) (registers_from s (sp + c.size) f.regs 0 (call_rules c.size c.places)) else walks.Fault faults.Walk) (in_stack f sp c.size h stands.low stands.some stands.high)
    ∙ ap (with_registers 1 false (sp + c.size)) (call_registers s sp c.size c.back c.places c.saved f.regs stands.some (let high = stands.high in omega (arith, high)) stands.saved stands.kept)
    ∙ ap (λ pc. walks.Next (record { pc = pc; cfa = sp + c.size; regs = (outward f sp c).regs; top = false; signal = false })) (back_in f sp c)
  where
    row : HasRow fdes (look_up_place f.pc false) c.size c.places
    row = stands.row

    fde : Fde
    fde = row.fde

    cfa : cfa_of (call_row c.size c.places) f ≡ sp + c.size
    cfa = let high = stands.high in ap (λ a. offset_by a (pos c.size)) h.pointer ∙ above sp c.size (omega (arith, high))

-- the frame outward is one of a call, too
pub outward_frame : (s : State) (fdes : List Fde) (ip : ℕ) (f : Frame) (sp : ℕ) (c : OpenCall) → CallStands s fdes ip sp c → IsFrame (outward f sp c) (sp + c.size)
outward_frame s fdes ip f sp c stands = record { plain = refl; pointer = pointer_in f sp c; inner = λ a more. grind (arith, nat_tests, more) }

-- nothing is outward of the outermost frame
pub end_of : (s : State) (fdes : List Fde) (f : Frame) → f.signal ≡ false → IsOutermost fdes (look_up_place f.pc false) → next_frame s fdes f ≡ walks.EndOfStack
unfolding next_frame
end_of s fdes f plain last =
    ap (λ b. out_of s f (fde_for fdes (look_up_place f.pc b))) plain ∙ ap (out_of s f) last.found
    ∙ ap (λ b. out_by s f fde.cie.return_register fde.cie.signal (row_at fde (look_up_place f.pc b))) plain
    ∙ ap (λ r. out_by s f r fde.cie.signal row) last.returns
    ∙ ap (λ rule. if is_lost rule then walks.EndOfStack else (if is_outward f (cfa_of row f) then with_registers 1 fde.cie.signal (cfa_of row f) (registers_from s (cfa_of row f) f.regs 0 row.rules) else walks.Fault faults.Walk)) last.undefined
  where
    fde : Fde
    fde = last.fde

    row : Row
    row = row_at fde (look_up_place f.pc false)
