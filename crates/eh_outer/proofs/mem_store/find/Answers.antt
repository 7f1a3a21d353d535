use Rattle.std.proofs.Common.{◌≡◌, ◌∙◌, ap, sym, Some, true, false, cond, string_bytes, drop, ◌+◌, rules}
use Rattle.std.specs.Str.{bytes_eq}
use Rattle.std.specs.FinMap.{get}
use Rattle.eh_outer.specs.MemStore.{entries_of, files_in}
use Rattle.eh_outer.proofs.Files.{found_from}
use Rattle.eh_outer.proofs.mem_store.find.Goals as goal

pub returns-then-eq : goal.returns-then-eq
returns-then-eq c =
    let same : bytes_eq c.args.name.now (string_bytes c.loop-held-item.result.0) ≡ true = search rules in
    let here = found_from c.args.files.now c.loop-held.held-index c.loop-held-item.result c.args.name.now c.loop-held-test.true c.loop-held-item.is in
    ap Some c.as_slice.ensures.value ∙ sym (c.loop-held.invariant ∙ here ∙ ap (λ b. cond b (Some c.loop-held-item.result.1.items) (get (files_in (entries_of (drop (c.loop-held.held-index + 1) c.args.files.now))) c.args.name.now)) same)

pub loop-held-preserved : goal.loop-held-preserved
loop-held-preserved c =
    let other : bytes_eq c.args.name.now (string_bytes c.loop-held-item.result.0) ≡ false = search rules in
    let here = found_from c.args.files.now c.loop-held.held-index c.loop-held-item.result c.args.name.now c.loop-held-test.true c.loop-held-item.is in
    c.loop-held.invariant ∙ here ∙ ap (λ b. cond b (Some c.loop-held-item.result.1.items) (get (files_in (entries_of (drop (c.loop-held.held-index + 1) c.args.files.now))) c.args.name.now)) other
