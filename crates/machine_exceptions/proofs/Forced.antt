-- A value that is computed in the register of its place, a kept variable's too.
use Rattle.std.proofs.Common.{◌≡◌, arith, ◌+◌, ◌<◌, ℤ, length, Some, None}
use Rattle.region_forms.specs.Form.{Kinds, Value}
use Rattle.region_forms.specs.Evaluation.{value_in}
use Rattle.region_forms.specs.World.{Frame, World}
use Rattle.machine_forms.specs.Registers.{register}
use Rattle.machine_forms.specs.Shape.{Shape}
use Rattle.machine_forms.specs.ValueCode.{needs, Operand, value_code}
use Rattle.machine_pieces.specs.Frames.{Setting, ValueStands}
use Rattle.machine_pieces.proofs.Going.{kept_register, may_set}
use Rattle.machine_pieces.proofs.Values.{Serves, gives_of, needs_some, value_evaluates}

abbrev pub in_place : Shape → Value → Operand
in_place f v = record { held = None; code = λ k. value_code f (register k) k v }

pub in_place_serves : (t : Setting) (f : Shape) (kinds : Kinds) (frame : Frame) (w : World) (v : Value) (z : ℤ) → ValueStands t f kinds frame w v → value_in kinds frame w v ≡ Some z →
    Serves t f kinds frame w (in_place f v) (needs v) z
in_place_serves t f kinds frame w v z stands e = record {
  gives = λ k here s fits short code at ready.
      let small : k < 15 = omega (arith, fits, needs_some v) in
      gives_of t.ground here (length (value_code f (register k) k v)) k s z small ((value_evaluates t f kinds frame w v z stands e).run (register k) k here s (may_set k small) fits short code at ready);
  reads = λ k here s fits short code at ready.
      let small : k < 15 = omega (arith, fits, needs_some v) in
      let one = gives_of t.ground here (length (value_code f (register k) k v)) k s z small ((value_evaluates t f kinds frame w v z stands e).run (register k) k here s (may_set k small) fits short code at ready) in
      record { int = one.int; goes = one.computes.goes; is = one.computes.is };
  kept = λ k small. kept_register k (k + 1) (omega arith) small;
}
