use Rattle.std.proofs.Common.{◌≡◌, ℕ, Some, Result, Ok, refl, ap, sym, subst, ◌∙◌, arith}
use Rattle.std.specs.Prelude.{IsOk}
use Rattle.eh_bytes.specs.Memory.{part_of}
use Rattle.table_forms.specs.declared.found.Row.{Row}
use Rattle.table_forms.specs.Fault.{Fault}
use Rattle.table_forms.specs.Instructions.{Instructions, instructions_at}
use Rattle.table_forms.specs.Fde.{Fde, row_at}
use Rattle.frame_read.specs.Seen.{coding_seen}
use Rattle.frame_read.specs.States.{states_of}
use Rattle.frame_read.proofs.lookup.row_here.Goals as goal

pub returns-then-here-pc : goal.returns-then-here-pc
returns-then-here-pc c = λ f is starts.
    let known = c.in-Some.ensures.fde f is in let same = ap (λ (x : Fde). x.region.start) known.same in let above = c.if-here-pc.true in absurd (omega (arith, same, above, starts))

pub row_of-requires-clause-whole : goal.row_of-requires-clause-whole
row_of-requires-clause-whole c =
    let known = c.in-Some.ensures.fde c.requires.known.0 c.requires.known.1 in subst (λ (r : Result Instructions Fault). IsOk r) (sym known.common_read) refl

pub row_of-requires-clause-own : goal.row_of-requires-clause-own
row_of-requires-clause-own c = λ n counts.
    let known = c.in-Some.ensures.fde c.requires.known.0 c.requires.known.1 in
    let here = c.in-Some.here in
    let both : (λ (w : Result ℕ Fault). w) (Ok known.common.states) ≡ Ok n = sym (ap states_of known.common_read) ∙ counts in
    let same : known.common.states ≡ n = cc in
    subst (λ m. IsOk (instructions_at (coding_seen here.cie.coding) (part_of c.args.segment.now) here.fde.stop here.fde.first m)) same
    (subst (λ (r : Result Instructions Fault). IsOk r) (sym known.own_read) refl)

pub returns-else-here-pc : goal.returns-else-here-pc
returns-else-here-pc c = λ f is starts.
    let known = c.in-Some.ensures.fde f is in
    ap (λ (r : Row). Some r) (c.row_of.ensures known.common known.own known.common_read known.own_read ∙ sym (ap (λ (x : Fde). row_at x c.args.pc) known.same))
