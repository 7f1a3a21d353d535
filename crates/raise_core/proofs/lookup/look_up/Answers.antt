use Rattle.std.proofs.Common.{◌≡◌, true, List, ap, sym, subst, refl, Contains}
use Rattle.frame_read.specs.declared.listed.Fde as shown
use Rattle.frame_walk.specs.Outward.{tables_of}
use Rattle.personality.specs.Seen.{thrown_of}
use Rattle.raise_core.specs.Reads.{is_readable}
use Rattle.raise_core.proofs.Given.{passes_all}
use Rattle.raise_core.proofs.Lookups.{is_lookup, listed_there}
use Rattle.raise_core.proofs.lookup.look_up.Goals as goal

pub verdict_by-verdict-requires : goal.verdict_by-verdict-requires
verdict_by-verdict-requires c =
    let t = c.requires in let test = is_readable (tables_of c.args.machine.now) in
    listed_there t.read.fdes c.args.frame.now (λ g. test g ≡ true) (λ g stands. passes_all test c.args.frames.now.fdes g t.tables
    (subst (λ (gs : List shown.Fde). Contains gs g) (sym (ap (λ l. l.fdes) t.lists)) stands)) c.locate-entry.result (c.locate-entry.ensures t.header t.read t.reads t.lists)

pub returns-clause-says : goal.returns-clause-says
returns-clause-says c = λ t.
    is_lookup c.args.machine.now t.read.fdes (thrown_of c.args.thrown.now) _ c.args.frame.now refl refl (c.locate-entry.ensures t.header t.read t.reads t.lists)
    (c.verdict_by-verdict.ensures t.read.fdes (c.locate-entry.ensures t.header t.read t.reads t.lists))
