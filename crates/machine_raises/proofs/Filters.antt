-- The filters of each chain are ints, of a compiled function and of the runtime's own.
use Rattle.std.proofs.Common.{◌≡◌, refl, subst, ℕ, zero, suc, ℤ, List, [], ◌∷◌, Some, None}
use Rattle.std.specs.Prelude.{⊤, slice_get}
use Rattle.std.specs.List.{AllByRecursion}
use Rattle.linear_forms.specs.Tables.{Cover, bare, unpadded, padded}
use Rattle.linear_forms.specs.Stub.{Function, compiled, end_catch, terminating, call_unexpected, StubRow, stub_rows, stub_cover}
use Rattle.linear_forms.specs.Activation.{look}
use Rattle.linear_forms.specs.UnitRun.{code_of}
use Rattle.machine_pieces.specs.Numbers.{IsInt}
use Rattle.machine_simulation.specs.Plan.{Plan}
use Rattle.machine_raises.specs.Pads.{FiltersAreInts}

abbrev HasInts : Cover → Type 0
HasInts bare = ⊤
HasInts unpadded = ⊤
HasInts (padded q chain) = AllByRecursion IsInt chain

rows_have_ints : (rows : List StubRow) (place : ℕ) → AllByRecursion (λ r. HasInts r.cover) rows → HasInts (elim (slice_get rows place) [ None ↦ bare | Some r ↦ r.cover ])
rows_have_ints [] place all = tt
rows_have_ints (r ∷ rows) zero all = all.0
rows_have_ints (r ∷ rows) (suc place) all = rows_have_ints rows place all.1

chain_of : (c : Cover) (q : ℕ) (chain : List ℤ) → HasInts c → c ≡ padded q chain → AllByRecursion IsInt chain
chain_of bare q chain ints is = absurd (cc is)
chain_of unpadded q chain ints is = absurd (cc is)
chain_of (padded p filters) q chain ints is = let same : filters ≡ chain = cc is in subst (AllByRecursion IsInt) same ints

pub filters_are_ints : (p : Plan) (f : Function) (place q : ℕ) (chain : List ℤ) → FiltersAreInts p → look (code_of p.unit) f place ≡ padded q chain → AllByRecursion IsInt chain
filters_are_ints p (compiled m) place q chain ints is = ints m place q chain is
filters_are_ints p end_catch place q chain ints is =
    chain_of (stub_cover end_catch place) q chain (rows_have_ints (stub_rows end_catch) place (tt, ((refl, tt), (tt, (tt, (tt, (tt, (tt, tt)))))))) is
filters_are_ints p terminating place q chain ints is = chain_of (stub_cover terminating place) q chain (rows_have_ints (stub_rows terminating) place (tt, (tt, tt))) is
filters_are_ints p call_unexpected place q chain ints is =
    chain_of (stub_cover call_unexpected place) q chain
    (rows_have_ints (stub_rows call_unexpected) place (tt, ((refl, (refl, tt)), (tt, (tt, (tt, (tt, (tt, (tt, (tt, (tt, ((refl, tt), (tt, (tt, ((refl, tt), (tt, (tt, (tt, (tt, tt))))))))))))))))))) is
