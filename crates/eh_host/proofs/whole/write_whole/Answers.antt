use Rattle.std.proofs.Common.{◌++◌, ◌∙◌, ap, subst, sym, take}
use Rattle.std.specs.Io.KnownBytes.{WriteAppends}
use Rattle.std.proofs.KnownBytes.{Appends-trans, Appends-kept}
use Rattle.eh_host.proofs.Writing.{moved, moved_slice, prefix_taken}
use Rattle.eh_host.proofs.whole.write_whole.Goals.{in-Ok, in-Err}
use Rattle.eh_host.proofs.whole.write_whole.Goals as goal

pub returns-in-Ok-eq0 : goal.returns-in-Ok-eq0
returns-in-Ok-eq0 g c =
    let (done, split, appended) = c.writes.invariant in
    let before = g.W.Write.contents c.writes.writer in
    let behind = g.W.Write.contents c.write.new.self in
    let rest = c.writes.rest.now in
    let taken = subst (λ r. WriteAppends before behind r rest) c.in-Ok-eq0.is c.write.ensures.bytes in
    prefix_taken _ _ _ _ _ (moved _ done rest c.in-Ok-eq0.field-0 split) (Appends-trans _ _ _ _ _ appended taken)

pub returns-in-Err-2 : goal.returns-in-Err-2
returns-in-Err-2 g c =
    let (done, split, appended) = c.writes.invariant in
    prefix_taken _ _ _ done _ split (Appends-kept _ _ _ done appended c.in-Err-2.ensures.bytes)

pub writes-preserved : goal.writes-preserved
writes-preserved g c =
    let (done, split, appended) = c.writes.invariant in
    elim c.match-write.branch [
      | in-Ok w ↦ (done ++ take w.in-Ok.count c.writes.rest.now, moved_slice _ done _ w.in-Ok.count split ∙ ap (λ rest. (done ++ take w.in-Ok.count c.writes.rest.now) ++ rest.now) (sym w.rest-is), Appends-trans _ _ _ _ _ appended w.in-Ok.ensures.bytes)
      | in-Err w ↦ (done, split ∙ ap (λ rest. done ++ rest.now) (sym w.rest-is), Appends-kept _ _ _ done appended w.in-Err.ensures.bytes)
    ]

pub returns : goal.returns
returns g c =
    let (done, split, appended) = c.writes.invariant in
    prefix_taken _ _ _ done _ split appended
