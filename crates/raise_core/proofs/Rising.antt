-- The frames of a stack are fewer than are counted: canonical frame addresses rise inside it.
use Rattle.std.proofs.Common.{◌≡◌, ◌+◌, ◌<◌, ◌≤◌, ℕ, zero, suc, Bool, true, false, nat_lt, nat_le, ◌&&◌, List, refl, ap, sym, ◌∙◌, arith, if◌then◌else◌}
use Rattle.std.specs.Prelude.{⊤, Option, Some, None, ◌||◌, slice_index_or}
use Rattle.std.proofs.lemmas.Bool.Decides.{nat_tests}
use Rattle.table_forms.specs.declared.found.Row.{Row}
use Rattle.table_forms.specs.declared.found.Rule.TheVariants as rules
use Rattle.table_forms.specs.Fde.{Fde, fde_for, row_at}
use Rattle.table_forms.specs.Verdict.{look_up_place}
use Rattle.rv64_isa.specs.State.{State}
use Rattle.rv64_isa.specs.declared.step.FaultKind.TheVariants as faults
use Rattle.frame_walk.specs.declared.frame.Frame.{Frame}
use Rattle.frame_walk.specs.declared.frame.Walk.{Walk}
use Rattle.frame_walk.specs.declared.frame.Walk.TheVariants as walks
use Rattle.frame_walk.specs.Registers.{registers_from}
use Rattle.frame_walk.specs.Outward.{cfa_of, is_outward, with_registers, is_lost, out_of, next_frame}
use Rattle.raise_core.specs.Stack.{inside, walked, frames_within, most_frames, first_frame, frames}
use Rattle.raise_core.proofs.Walks.{stack_step}

-- a frame outward is no top frame, and lies in the stack, above the frame before
pub record Above (f g : Frame) : Type 0 where
  pub inner : g.top ≡ false
  pub low : 0x7000_0000 ≤ g.cfa
  pub high : g.cfa ≤ 0x7100_0000
  pub rises : f.top ≡ false → f.cfa < g.cfa

abbrev pub Rises : Frame → Walk → Type 0
Rises f (walks.Next g) = Above f g
Rises f walks.EndOfStack = ⊤
Rises f (walks.Fault kind) = ⊤

by_rises : (top : Bool) (before cfa : ℕ) → nat_le 0x7000_0000 cfa && nat_le cfa 0x7100_0000 && (top || nat_lt before cfa) ≡ true →
    (0x7000_0000 ≤ cfa) × (cfa ≤ 0x7100_0000) × (top ≡ false → before < cfa)
by_rises true before cfa is = (grind (arith, nat_tests, is), grind (arith, nat_tests, is), λ inner. absurd (let wrong : true ≡ false = inner in cc))
by_rises false before cfa is = (grind (arith, nat_tests, is), grind (arith, nat_tests, is), λ inner. grind (arith, nat_tests, is))

by_registers : (f : Frame) (return_register cfa : ℕ) (signal : Bool) (regs : Option (List ℕ)) → is_outward f cfa ≡ true → Rises f (with_registers return_register signal cfa regs)
by_registers f return_register cfa signal None is = tt
by_registers f return_register cfa signal (Some regs) is =
    let r = by_rises f.top f.cfa cfa is in record { inner = refl; low = r.0; high = r.1; rises = r.2 }

by_place : (s : State) (f : Frame) (return_register : ℕ) (signal : Bool) (row : Row) (b : Bool) → is_outward f (cfa_of row f) ≡ b →
    Rises f (if b then with_registers return_register signal (cfa_of row f) (registers_from s (cfa_of row f) f.regs 0 row.rules) else walks.Fault faults.Walk)
by_place s f return_register signal row true is = by_registers f return_register (cfa_of row f) signal (registers_from s (cfa_of row f) f.regs 0 row.rules) is
by_place s f return_register signal row false is = tt

by_row : (s : State) (f : Frame) (return_register : ℕ) (signal : Bool) (row : Row) (b : Bool) →
    Rises f (if b then walks.EndOfStack else (if is_outward f (cfa_of row f) then with_registers return_register signal (cfa_of row f) (registers_from s (cfa_of row f) f.regs 0 row.rules) else walks.Fault faults.Walk))
by_row s f return_register signal row true = tt
by_row s f return_register signal row false = by_place s f return_register signal row (is_outward f (cfa_of row f)) refl

by_fde : (s : State) (f : Frame) (o : Option Fde) → Rises f (out_of s f o)
by_fde s f None = tt
by_fde s f (Some fde) =
    let row = row_at fde (look_up_place f.pc f.signal) in
    by_row s f fde.cie.return_register fde.cie.signal row (is_lost (slice_index_or row.rules fde.cie.return_register rules.Unspecified))

rises : (s : State) (fdes : List Fde) (f : Frame) → Rises f (next_frame s fdes f)
unfolding next_frame
rises s fdes f = by_fde s f (fde_for fdes (look_up_place f.pc f.signal))

-- of a frame that is no top frame, so many frames are enough
same_walk : (n m : ℕ) (s : State) (fdes : List Fde) (f : Frame) → f.top ≡ false → f.cfa ≤ 0x7100_0000 → 0x7100_0000 < n + f.cfa → 0x7100_0000 < m + f.cfa →
    frames_within n s fdes f ≡ frames_within m s fdes f
same_walk zero m s fdes f inner low many others = absurd (omega (arith, low, many))
same_walk (suc n) zero s fdes f inner low many others = absurd (omega (arith, low, others))
same_walk (suc n) (suc m) s fdes f inner low many others =
    stack_step n s fdes f ∙ ap (inside f) (by (next_frame s fdes f) (rises s fdes f) (λ g. same_walk n m s fdes g)) ∙ sym (stack_step m s fdes f)
  where
    by : (w : Walk) → Rises f w → ((g : Frame) → g.top ≡ false → g.cfa ≤ 0x7100_0000 → 0x7100_0000 < n + g.cfa → 0x7100_0000 < m + g.cfa → frames_within n s fdes g ≡ frames_within m s fdes g) →
        walked (frames_within n s fdes) w ≡ walked (frames_within m s fdes) w
    by walks.EndOfStack r more = refl
    by (walks.Fault kind) r more = refl
    by (walks.Next g) r more =
        let above = r.rises inner in more g r.inner r.high (omega (arith, above, many)) (omega (arith, above, others))

-- all frames are among so many, and more make no difference
pub all_frames : (n : ℕ) (s : State) (fdes : List Fde) → most_frames ≤ n → frames_within n s fdes (first_frame s) ≡ frames s fdes
all_frames zero s fdes many = absurd (omega (arith, many))
all_frames (suc n) s fdes many =
    stack_step n s fdes (first_frame s) ∙ ap (inside (first_frame s)) (by (next_frame s fdes (first_frame s)) (rises s fdes (first_frame s))) ∙ sym (stack_step 0x1000003 s fdes (first_frame s))
  where
    by : (w : Walk) → Rises (first_frame s) w → walked (frames_within n s fdes) w ≡ walked (frames_within 0x1000003 s fdes) w
    by walks.EndOfStack r = refl
    by (walks.Fault kind) r = refl
    by (walks.Next g) r = let low = r.low in same_walk n 0x1000003 s fdes g r.inner r.high (omega (arith, low, many)) (omega (arith, low))
