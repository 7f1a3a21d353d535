use Rattle.std.proofs.Common.{◌≡◌, Option, Some, None}
use Rattle.eh_bytes.specs.Memory.{memory_of}
use Rattle.table_forms.specs.declared.found.Row.{Row}
use Rattle.table_forms.specs.Fde as forms
use Rattle.frame_read.proofs.FoundAgain.{frame_again, starts_at, is_frame}
use Rattle.frame_read.proofs.frame_list.Frames.row_at.Goals as goal

pub row_in-requires : goal.row_in-requires
row_in-requires c =
    let m = c.args.memory.now in
    let r = is_frame (memory_of m) c.args.self.now c.args.fde.now c.args.pc c.requires.read.0 c.requires.read.1 c.requires.listed c.requires.inside in
    (r.0, frame_again m c.args.self.now c.args.fde.now c.args.pc r.0 r.1)

pub unreachable-requires : goal.unreachable-requires
unreachable-requires c =
    let m = c.args.memory.now in
    let r = is_frame (memory_of m) c.args.self.now c.args.fde.now c.args.pc c.requires.read.0 c.requires.read.1 c.requires.listed c.requires.inside in
    let wrong : None ≡ Some (forms.row_at r.0 c.args.pc) = c.in-None.ensures r.0 (frame_again m c.args.self.now c.args.fde.now c.args.pc r.0 r.1) (starts_at (memory_of m) c.args.self.now c.args.fde.now c.args.pc r.0 r.1) in cc

pub returns : goal.returns
returns c = λ f g.
    let m = c.args.memory.now in
    some_row c.in-Some.row (forms.row_at f c.args.pc)
    (c.in-Some.ensures f (frame_again m c.args.self.now c.args.fde.now c.args.pc f g) (starts_at (memory_of m) c.args.self.now c.args.fde.now c.args.pc f g))
  where
    some_row : (x y : Row) → (λ (w : Option Row). w) (Some x) ≡ Some y → x ≡ y
    some_row x y e = cc
