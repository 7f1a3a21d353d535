use Rattle.std.proofs.Common.{◌+◌, arith}
use Rattle.std.proofs.lemmas.Result.{IfOk-weaker}
use Rattle.eh_bytes.specs.Memory.{part_of}
use Rattle.frame_read.proofs.Kept.{its_cie, keeps_true, known_reads}
use Rattle.frame_read.proofs.fde_rows.rows_here.Goals as goal

pub keeps-requires-clause-whole : goal.keeps-requires-clause-whole
keeps-requires-clause-whole c =
    let f = c.requires.known.0 in (f.cie, known_reads (part_of c.args.segment.now) c.in-Some.here f (c.in-Some.ensures.fde f c.requires.known.1))

pub returns-in_err-keeps-in-Some-clause-folds : goal.returns-in_err-keeps-in-Some-clause-folds
returns-in_err-keeps-in-Some-clause-folds c = λ memory are has.
    let part = part_of c.args.segment.now in let h = c.in-Some.here in let f = c.requires.known.0 in let is = c.requires.known.1 in
    let start = c.in-Some.ensures.start in
    let stop = c.in-Some.ensures.places.stop in
    c.keeps.ensures.folds memory are (its_cie memory part h f (c.in-Some.ensures.fde f is) has (omega (arith, start, stop)) (c.in-Some.ensures.cie f is))

pub rows_of-requires-clause-kept : goal.rows_of-requires-clause-kept
rows_of-requires-clause-kept c =
    let part = part_of c.args.segment.now in let h = c.in-Some.here in let f = c.requires.known.0 in let is = c.requires.known.1 in
    let memory = c.requires.folds.0 in let has = c.requires.folds.2 in
    let start = c.in-Some.ensures.start in
    let stop = c.in-Some.ensures.places.stop in
    let known = c.in-Some.ensures.fde f is in
    let here = c.in-Some.ensures.cie f is in
    let are = c.keeps.ensures.folds memory c.requires.folds.1 (its_cie memory part h f known has (omega (arith, start, stop)) here) in
    (f, known, keeps_true memory c.keeps.new.self (part.address + h.cie.at) f.cie c.kept.result are (has h.cie.at f.cie (omega (arith, start, stop)) here) c.kept.ensures)

pub returns-clause-folds : goal.returns-clause-folds
returns-clause-folds c = λ memory are has.
    let part = part_of c.args.segment.now in let h = c.in-Some.here in let f = c.requires.known.0 in let is = c.requires.known.1 in
    let start = c.in-Some.ensures.start in
    let stop = c.in-Some.ensures.places.stop in
    c.keeps.ensures.folds memory are (its_cie memory part h f (c.in-Some.ensures.fde f is) has (omega (arith, start, stop)) (c.in-Some.ensures.cie f is))

pub returns-clause-rows : goal.returns-clause-rows
returns-clause-rows c =
    let part = part_of c.args.segment.now in let h = c.in-Some.here in
    let memory = c.requires.folds.0 in let has = c.requires.folds.2 in
    let start = c.in-Some.ensures.start in
    let stop = c.in-Some.ensures.places.stop in
    IfOk-weaker c.rows_of.result _ _ (λ r rows f is.
    let known = c.in-Some.ensures.fde f is in
    let here = c.in-Some.ensures.cie f is in
    let are = c.keeps.ensures.folds memory c.requires.folds.1 (its_cie memory part h f known has (omega (arith, start, stop)) here) in
    rows f known (keeps_true memory c.keeps.new.self (part.address + h.cie.at) f.cie c.kept.result are (has h.cie.at f.cie (omega (arith, start, stop)) here) c.kept.ensures)) c.rows_of.ensures
