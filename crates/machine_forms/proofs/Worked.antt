-- Words of small functions. They were made of assembly that was written by hand, by an assembler.
use Rattle.std.specs.Prelude.{◌≡◌, refl, pos, [], ◌∷◌, take, Some, None}
use Rattle.cxx_ast.specs.declared.name.Bound.TheVariants.{Builtin}
use Rattle.cxx_ast.specs.declared.name.Builtin.TheVariants.{WriteInt}
use Rattle.cxx_ast.specs.declared.types.Ty.TheVariants.{Int}
use Rattle.cxx_ast.specs.declared.declaration.FuncKind.TheVariants.{Plain}
use Rattle.cxx_ast.specs.Plain.{Checked, number, call, no_expressions, expression_then, return, evaluate, no_statements, statement_then}
use Rattle.meaning_forms.proofs.Trees.{nm, fn, cl, ck}
use Rattle.region_forms.specs.Layout.{layout_of}
use Rattle.region_forms.specs.LowerProgram.{regions_of}
use Rattle.linear_forms.specs.Unit.{unit_of}
use Rattle.machine_forms.specs.Kept.{kept_slots}
use Rattle.machine_forms.specs.Leaf.{is_leaf}
use Rattle.machine_forms.specs.Emitted.{emitted_of, emitted_stubs}

-- start has 4 words, terminate 8, end_catch 28, call_unexpected 60
stubs : emitted_stubs.code ≡
    0x00000097 ∷ 0x190080e7 ∷ 0x00000893 ∷ 0x00000073 ∷
    0xfe010113 ∷ 0x00113423 ∷ 0x00a13c23 ∷ 0x01813503 ∷ 0x00050463 ∷ 0x000500e7 ∷ 0x01000893 ∷ 0x00000073 ∷
    0xfd010113 ∷ 0x00113423 ∷ 0x00700893 ∷ 0x00000073 ∷ 0x02a13423 ∷ 0x02b13023 ∷ 0x00051463 ∷ 0x0240006f ∷ 0x02013583 ∷
    0x00058863 ∷ 0x02813503 ∷ 0xfea13c23 ∷ 0x000580e7 ∷ 0x02813503 ∷ 0x00400893 ∷ 0x00000073 ∷ 0x00000513 ∷ 0x00813083 ∷
    0x03010113 ∷ 0x00008067 ∷ 0x00a13c23 ∷ 0x00b13823 ∷ 0x02813503 ∷ 0x00400893 ∷ 0x00000073 ∷ 0x01813503 ∷ 0x00900893 ∷
    0x00000073 ∷
    0xfb010113 ∷ 0x00113423 ∷ 0x04813503 ∷ 0x01200893 ∷ 0x00000073 ∷ 0x02a13823 ∷ 0x02b13c23 ∷ 0x03013503 ∷ 0x00050463 ∷
    0x000500e7 ∷ 0x04813503 ∷ 0x01400893 ∷ 0x00000073 ∷ 0x02a13423 ∷ 0x02b13023 ∷ 0x02012503 ∷ 0x00000593 ∷ 0x00b51463 ∷
    0x0940006f ∷ 0x02813503 ∷ 0x00600893 ∷ 0x00000073 ∷ 0x03813503 ∷ 0x04012583 ∷ 0x02813603 ∷ 0x01300893 ∷ 0x00000073 ∷
    0x00a13c23 ∷ 0x01812503 ∷ 0x00051463 ∷ 0x0240006f ∷ 0x01812503 ∷ 0x00100593 ∷ 0x40b5053b ∷ 0x00051463 ∷ 0x0180006f ∷
    0x04813503 ∷ 0x01400893 ∷ 0x00000073 ∷ 0x00800893 ∷ 0x00000073 ∷ 0x00300893 ∷ 0x00000073 ∷ 0x00a13823 ∷ 0x00000013 ∷
    0x01013503 ∷ 0x00000597 ∷ 0xe7858593 ∷ 0x00000613 ∷ 0x00500893 ∷ 0x00000073 ∷ 0x02a13423 ∷ 0x02b13023 ∷ 0x00000097 ∷
    0xebc080e7 ∷ 0x00000097 ∷ 0xeb4080e7 ∷ 0x02813503 ∷ 0x00900893 ∷ 0x00000073 ∷ []
stubs = refl

-- int main() { write_int(5); return 3; }
first : Checked
first = ck (cl None [] [] ∷ []) [] (fn Plain Int [] None []
    (statement_then (evaluate (call (nm (Builtin WriteInt) ∷ []) (expression_then (number (pos 5) 0) no_expressions)))
    (statement_then (return 0 (Some (number (pos 3) 0))) no_statements)) ∷ []) 0

-- the jump to main, and main
words : take 20 (emitted_of (unit_of (regions_of first (layout_of first)))).code ≡
    0x00000297 ∷ 0x00828067 ∷ 0xfe010113 ∷ 0x00113423 ∷ 0x700012b7 ∷ 0x00517663 ∷ 0x01100893 ∷ 0x00000073 ∷ 0x00500513 ∷
    0x00100893 ∷ 0x00000073 ∷ 0x00300513 ∷ 0x00a12c23 ∷ 0x00c0006f ∷ 0x00000513 ∷ 0x00a12c23 ∷ 0x01812503 ∷ 0x00813083 ∷
    0x02010113 ∷ 0x00008067 ∷ []
unfolding first kept_slots is_leaf
words = refl
