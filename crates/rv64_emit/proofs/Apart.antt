-- Functions one behind the other.
use Rattle.std.proofs.Common.{◌≡◌, ℕ, ◌+◌, List, [], ◌∷◌, refl, subst, sym, arith}
use Rattle.machine_forms.specs.Emitted.{emitted_of, unit_routines}
use Rattle.machine_forms.specs.Routine.{Routine, all_words, listed_routines, routine_words}
use Rattle.machine_forms.proofs.Words.{words_stand}
use Rattle.rv64_emit.specs.Laws.{StandFrom, FunctionsAreApart}

stand_from : (first : ℕ) (rs : List Routine) → StandFrom first (first + all_words rs) (listed_routines first rs)
stand_from first [] = omega arith
stand_from first (r ∷ rs) =
    let e : first + routine_words r + all_words rs ≡ first + all_words (r ∷ rs) = omega arith in
    (refl, subst (λ n. StandFrom (first + routine_words r) n (listed_routines (first + routine_words r) rs)) e (stand_from (first + routine_words r) rs))

pub functions_are_apart : FunctionsAreApart
functions_are_apart u = subst (λ n. StandFrom 2 n (emitted_of u).functions) (sym (words_stand.unit u)) (stand_from 2 (unit_routines u))
