use Rattle.std.proofs.Common.{◌≡◌, drop}
use Rattle.std.specs.FinMap.{get}
use Rattle.eh_outer.specs.MemStore.{entries_of, files_in}
use Rattle.eh_outer.proofs.mem_store.find.Given as goal

abbrev pub invariant-loop-held : goal.invariant-loop-held
invariant-loop-held l = get (files_in (entries_of l.files)) l.name ≡ get (files_in (entries_of (drop l.held-index l.files))) l.name
