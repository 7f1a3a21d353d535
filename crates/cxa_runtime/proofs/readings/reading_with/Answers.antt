use Rattle.std.proofs.Common.{◌∙◌, List, ap, sym, map}
use Rattle.std.specs.List.{list_all}
use Rattle.eh_bytes.specs.Memory.{Memory, memory_of}
use Rattle.frame_read.specs.Listed.{fde_listed}
use Rattle.frame_read.specs.ReadsFrames.{Listing}
use Rattle.frame_read.specs.declared.listed.Fde as shown
use Rattle.frame_walk.specs.Outward.{tables_of}
use Rattle.frame_walk.proofs.Tables.{tables_same}
use Rattle.raise_core.specs.Reads.{is_readable}
use Rattle.cxa_runtime.specs.Unexpected.{first_reading}
use Rattle.cxa_runtime.proofs.FirstReading.{first_is, first_named}
use Rattle.cxa_runtime.proofs.readings.reading_with.Goals as goal

pub first_reading-requires : goal.first_reading-requires
first_reading-requires c =
    let same = tables_same c.args.machine.now c.tables.result.now c.tables.ensures in
    ap (λ (fs : List shown.Fde). list_all (is_readable (memory_of c.tables.result.now)) fs) c.fdes.ensures
    ∙ ap (λ (m : Memory). list_all (is_readable m) c.args.frames.now.fdes) (sym same) ∙ c.requires.tables

pub returns-clause-reading : goal.returns-clause-reading
returns-clause-reading c = λ t.
    let same = tables_same c.args.machine.now c.tables.result.now c.tables.ensures in
    c.first_reading.ensures
    ∙ ap (λ (fs : List shown.Fde). first_reading (memory_of c.tables.result.now) c.args.address c.args.list fs) (c.fdes.ensures ∙ ap (λ (l : Listing). l.fdes) t.lists)
    ∙ ap (λ (m : Memory). first_reading m c.args.address c.args.list (map fde_listed t.read.fdes)) (sym same)
    ∙ first_is (tables_of c.args.machine.now) c.args.address c.args.list t.read.fdes

pub returns-clause-named : goal.returns-clause-named
returns-clause-named c =
    first_named (memory_of c.tables.result.now) c.args.address c.args.list c.fdes.result.now c.first_reading.result c.first_reading.ensures
