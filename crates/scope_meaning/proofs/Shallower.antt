-- What stands in a statement or behind it is less deep.
use Rattle.std.proofs.Common.{◌≡◌, ◌∙◌, refl, sym, ap, ℕ, ◌+◌, ◌<◌, ◌≤◌, Bool, true, false, cond, List, [], ◌∷◌, Some, find, max, arith}
use Rattle.std.specs.Prelude.{nat_le}
use Rattle.std.proofs.lemmas.Bool.Decides.{nat_tests}
use Rattle.cxx_ast.specs.Plain.{Expression, number, path, paren, unary, binary, call, std_call, Statement, if_else, Else, no_else, Statements, statement_then}
use Rattle.cxx_ast.specs.View.{statements_of, handlers_of}
use Rattle.cxx_ast.specs.declared.statement.Handler.{Handler}
use Rattle.cxx_ast.specs.Sizes.{levels}
use Rattle.scope_meaning.specs.Levels.{declared_levels, statement_levels, statements_levels, handlers_levels}
use Rattle.scope_meaning.specs.Steps.{declares}

-- the rest of a block
pub rest_shallower : (s : Statement) (ss : Statements) → statements_levels ss ≤ statements_levels (statement_then s ss)
rest_shallower s ss = by (declares s)
  where
    by : (b : Bool) → statements_levels ss ≤ cond b (max (declared_levels s) (statements_levels ss) + 1) (max (statement_levels s) (statements_levels ss))
    by true = omega arith
    by false = omega arith

-- the handler that is found among others
pub found_shallower : (test : Handler → Bool) (hs : List Handler) (h : Handler) → find test hs ≡ Some h → statements_levels (statements_of h.body.items) ≤ handlers_levels (handlers_of hs)
found_shallower test [] h e = absurd (cc e)
found_shallower test (x ∷ hs) h e = by (test x) refl (found_shallower test hs h)
  where
    by : (b : Bool) → test x ≡ b → (find test hs ≡ Some h → statements_levels (statements_of h.body.items) ≤ handlers_levels (handlers_of hs)) → statements_levels (statements_of h.body.items) ≤ handlers_levels (handlers_of (x ∷ hs))
    by true is others =
        let same : Some x ≡ Some h = sym (ap (λ c. cond c (Some x) (find test hs)) is) ∙ e in
        let one : x ≡ h = cc same in
        omega (arith, ap (λ (y : Handler). statements_levels (statements_of y.body.items)) one)
    by false is others = omega (arith, others (sym (ap (λ c. cond c (Some x) (find test hs)) is) ∙ e))

-- what stands behind the `else` of an `if`
abbrev pub else_part : Statement → Else
else_part (if_else e s other) = other
else_part s = no_else

-- where there is no room nothing fits
pub no_room : (e : Expression) (room : ℕ) → room < 1 → nat_le (levels e) room ≡ false
no_room (number n place) room h = grind (arith, nat_tests, h)
no_room (path names) room h = grind (arith, nat_tests, h)
no_room (paren e place) room h = grind (arith, nat_tests, h)
no_room (unary op e place) room h = grind (arith, nat_tests, h)
no_room (binary op a b) room h = grind (arith, nat_tests, h)
no_room (call names es) room h = grind (arith, nat_tests, h)
no_room (std_call n es place) room h = grind (arith, nat_tests, h)
