-- Throws and try blocks do the same, by what calls of the source keep.
use Rattle.std.proofs.Common.{ℤ, subst, arith}
use Rattle.cxx_ast.specs.Plain.{Checked}
use Rattle.meaning_forms.specs.Call.{run_callee}
use Rattle.region_simulation.specs.Expressions.{source_running}
use Rattle.meaning_forms.specs.Context.{Context, try_block, guarded_by}
use Rattle.meaning_forms.specs.Expression.{value_of}
use Rattle.meaning_forms.specs.Handler.{clauses_of}
use Rattle.meaning_forms.specs.Outcome.{Action}
use Rattle.meaning_forms.specs.Statement.{statements}
use Rattle.region_forms.specs.Laws.{CaughtListFollows}
use Rattle.region_exceptions.specs.Fares.{Fares, FaresIn, AllCallsFare}
use Rattle.region_exceptions.specs.Operands.{LeavesUnbuilt}
use Rattle.region_exceptions.specs.Tries.{CanBeCaught}
use Rattle.region_exceptions.specs.Exceptions.{AllThrowsDoAlike, AllTriesDoAlike}
use Rattle.region_exceptions.proofs.Faring.{orderly_sound}
use Rattle.region_exceptions.proofs.FaringTrees.{value_of_fares, statements_fares}
use Rattle.region_exceptions.proofs.FaringCalls.{open_fares, run_callee_fares, calls_fare}
use Rattle.region_exceptions.proofs.Operands.{throwing_case}
use Rattle.region_exceptions.proofs.Clauses.{try_blocks_do_alike}

pub all_calls_fare : AllCallsFare
all_calls_fare = record {
  inside = λ r fare limit callee this given c. (open_fares limit (run_callee r callee this given c) (run_callee_fares r callee this given c fare)).at;
  fueled = calls_fare;
}

leaves : (p : Checked) (c : Context) (act : Action ℤ) → FaresIn p c act → LeavesUnbuilt c act
leaves p c act fares w w2 n sound is e made unbuilt =
    let h = subst (Fares p 0 c w) is (fares 0 w (omega arith) (orderly_sound c w sound)) in
    (h.later, h.unbuilt e made unbuilt)

-- what comes out of an action that keeps what is known of exceptions can be entered
pub enterable : {A : Type 0} (p : Checked) (c : Context) (act : Action A) → FaresIn p c act → CanBeCaught c act
enterable p c act fares w w2 e sound is =
    let h = subst (Fares p w.last_number c w) is (fares w.last_number w (omega arith) (orderly_sound c w sound)) in
    (record { rests = h.1.raised.rests; front = h.1.raised.front }, h.1.known)

pub all_throws_do_alike : CaughtListFollows → AllThrowsDoAlike
all_throws_do_alike laws l own gives call b v c same fit fare n i d e can =
    let r = source_running l call in
    throwing_case laws l own gives call b v c same fit fare (λ x. leaves l.program c (value_of r v x c) (value_of_fares r v x c fare).at) n i d e can

pub all_tries_do_alike : CaughtListFollows → AllTriesDoAlike
all_tries_do_alike laws l own gives call b v c same fit fare empty n i d ss hs lt block blocks typed handlers =
    let r = source_running l call in
    let inside = guarded_by (try_block (clauses_of hs)) c in
    try_blocks_do_alike laws l own gives call b v c same fit fare empty n i d ss hs lt block blocks typed handlers
    (enterable l.program inside (statements r ss v inside) (statements_fares r ss v inside fare).at)
