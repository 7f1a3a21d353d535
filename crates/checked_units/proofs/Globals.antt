-- The first values of globals are ints.
use Rattle.std.proofs.Common.{◌≡◌, sym, subst, arith, zero, suc, ℤ, pos, negsuc, true, false, List, [], ◌∷◌, map}
use Rattle.std.specs.List.{AllByRecursion}
use Rattle.std.specs.Prelude.{neg_ℤ}
use Rattle.std.proofs.lemmas.Bool.Decides.{nat_tests}
use Rattle.cxx_ast.specs.declared.mark.Mark.TheVariants as sign
use Rattle.cxx_ast.specs.Plain.{Program}
use Rattle.cxx_ast.specs.Environment.{Environment}
use Rattle.cxx_ast.specs.Declare.{at_the_start, declare_behind}
use Rattle.cxx_ast.specs.Piece.{mark}
use Rattle.cxx_ast.specs.Written.{Written, written_class, written_global, written_function, no_start, start, declared, spell_members, spell_declarations}
use Rattle.cxx_ast.specs.declared.standard.Std.{Std}
use Rattle.cxx_ast.specs.Checked.{resolve_declarations, globals_of, checked}
use Rattle.machine_pieces.specs.Numbers.{IsInt}
use Rattle.checked_units.specs.Images.{GlobalsAreInts}
use Rattle.checked_units.proofs.Behind.{after_function, after_members, after_base}
use Rattle.checked_units.proofs.SourceLiterals.{IsLiteral, AreInts, source_has_ints}

abbrev AreAllInts : List ℤ → Type 0
AreAllInts zs = AllByRecursion IsInt zs

pub literal_int : (z : ℤ) → IsLiteral z → IsInt z
literal_int (pos n) small = grind (arith, nat_tests, small)
literal_int (negsuc n) small = absurd small

negated_int : (z : ℤ) → IsLiteral z → IsInt (neg_ℤ z)
negated_int (pos zero) small = grind (arith, nat_tests)
negated_int (pos (suc n)) small = grind (arith, nat_tests, small)
negated_int (negsuc n) small = absurd small

written_ints : (env : Environment) (ws : List Written) → AreInts (spell_declarations ws []) → AreAllInts (globals_of (resolve_declarations env (map declared ws)))
written_ints env [] h = tt
written_ints env (written_class n is_public base ms ∷ ws) h =
    let end = mark sign.CloseBrace ∷ mark sign.Semicolon ∷ spell_declarations ws [] in
    let inner = mark sign.OpenBrace ∷ spell_members ms end in
    written_ints (declare_behind env (declared (written_class n is_public base ms))) ws (after_members ms end (after_base is_public base inner h.1.1).1).1.1
written_ints env (written_global n no_start ∷ ws) h = (literal_int (pos 0) (omega arith), written_ints (declare_behind env (declared (written_global n no_start))) ws h.1.1.1)
written_ints env (written_global n (start true v) ∷ ws) h = (negated_int v h.1.1.1.1.0, written_ints (declare_behind env (declared (written_global n (start true v)))) ws h.1.1.1.1.1.1)
written_ints env (written_global n (start false v) ∷ ws) h = (literal_int v h.1.1.1.0, written_ints (declare_behind env (declared (written_global n (start false v)))) ws h.1.1.1.1.1)
written_ints env (written_function f ∷ ws) h = written_ints (declare_behind env (declared (written_function f))) ws (after_function f (spell_declarations ws []) h)

program_ints : (std : Std) (p : Program) (ws : List Written) → map declared ws ≡ p.declarations → AreInts (spell_declarations ws []) → AreAllInts (checked std p).globals
unfolding checked
program_ints std p ws e h =
    let env = at_the_start p.declarations in
    subst (λ ds. AreAllInts (globals_of (resolve_declarations env ds))) e (written_ints env ws h)

pub globals_are_ints : GlobalsAreInts
globals_are_ints p h =
    let pieces = spell_declarations h.tree.written [] in
    subst (λ c. AreAllInts c.globals) (sym h.resolved) (program_ints h.std h.program h.tree.written h.tree.declarations (source_has_ints h.source h.tokens pieces h.lexed h.tree.spelled))
