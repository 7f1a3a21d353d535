use Rattle.std.proofs.Common.{◌-◌, option_and_then, ap, sym, ◌∙◌}
use Rattle.std.proofs.lemmas.Result.{IfOk-weaker}
use Rattle.eh_bytes.specs.Memory.{memory_of, part_of}
use Rattle.frame_read.specs.Entry.{fde_here, fde_in}
use Rattle.frame_read.proofs.Kept.{has_cies}
use Rattle.frame_read.proofs.fde_rows.rows_in.Goals as goal

pub rows_here-requires-clause-folds : goal.rows_here-requires-clause-folds
rows_here-requires-clause-folds c =
    let m = c.args.memory.now in (memory_of m, c.requires.folds, has_cies m c.args.address (part_of c.in-Some.segment.now) (sym c.in-Some.ensures.with))

pub returns-clause-folds : goal.returns-clause-folds
returns-clause-folds c =
    let m = c.args.memory.now in c.rows_here.ensures.folds (memory_of m) c.requires.folds (has_cies m c.args.address (part_of c.in-Some.segment.now) (sym c.in-Some.ensures.with))

pub returns-clause-rows : goal.returns-clause-rows
unfolding fde_in
returns-clause-rows c =
    IfOk-weaker c.rows_here.result _ _ (λ r are f is. are f (ap (option_and_then (λ part. fde_here part (c.args.address - part.address))) c.in-Some.ensures.with ∙ is)) c.rows_here.ensures.rows
