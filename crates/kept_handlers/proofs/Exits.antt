-- The cleanup of normal exits, the tests of a pad and what begins behind their labels.
use Rattle.std.proofs.Common.{◌≡◌, ℕ, zero, suc, ◌+◌, ◌≤◌, Bool, true, false, List, ◌∷◌, length, Some, refl, sym, ap, ◌∙◌, subst, arith}
use Rattle.std.specs.Prelude.{slice_get, if◌then◌else◌}
use Rattle.region_forms.specs.Form.{Op, destroy, leave, Cleanup, destroy_scope, destroy_part, free_object, leave_handler, Clauses, no_clauses, clause_then}
use Rattle.linear_forms.specs.Linear.{FunctionCode, LinearOp, plain, label}
use Rattle.linear_forms.specs.Tables.{Cover, bare}
use Rattle.linear_forms.specs.Sites.{Placed}
use Rattle.linear_forms.specs.Exits.{Exit, first_label}
use Rattle.linear_forms.specs.Emission.{Emitting, may_raise, quiet, put, way_tests, no_way_out, exit_cleanup, exit_code, protect_exit}
use Rattle.linear_forms.specs.Code.{clause_tests}
use Rattle.cost_paths.specs.Control.{place_of}
use Rattle.cost_paths.proofs.Ranks.{has_front, has_back}
use Rattle.kept_handlers.specs.Depths.{leaves}
use Rattle.kept_handlers.proofs.Scanning.{Scan, elsewhere, after, no_way_after}
use Rattle.kept_handlers.proofs.Opening.{held, Has, depth, moved, comes_to, CoverOpens, LeaveOpens, AllOpen, both_open, Around, covered, has_many, label_has, ways_open, no_way_opens}

module _ (g : FunctionCode) (at : ℕ → Scan) (moves : (p : ℕ) (o : LinearOp) → slice_get g.ops p ≡ Some o → at (p + 1) ≡ after (at p) o) (em : Emitting) where
  -- the cleanup's label and what is there
  module _ (o : Op) (m n j l : ℕ) (c : Cover) (xs : List Exit) (outs : List ℕ) (has : Has g at moves j (exit_code em (Some o) c xs l outs)) (here : at j ≡ elsewhere m) where
    abbrev front : List Placed
    front = no_way_out em outs

    abbrev rest : List Placed
    rest = quiet (label (l + 2)) ∷ put o c ∷ way_tests em xs outs

    abbrev r : ℕ
    r = j + length front

    has_rest : Has g at moves r rest
    has_rest = has_back g j r front rest refl has

    at_rest : at r ≡ elsewhere m
    at_rest = comes_to g at moves j r (elsewhere m) (elsewhere m) front refl (has_front g j front rest has) here (no_way_after em m outs)

    pub cleanup_has : depth g at moves (place_of g (l + 2)) ≤ m
    cleanup_has = label_has g at moves (l + 2) r m has_rest.2 at_rest

    pub cleanup_open : after (elsewhere m) (plain o) ≡ elsewhere n → LeaveOpens g at moves m (plain o) → n + leaves (plain o) ≤ m → Around g at moves n c xs → AllOpen g at moves j (exit_code em (Some o) c xs l outs)
    cleanup_open goes left le around =
        let second = moved g at moves r (elsewhere m) (label (l + 2)) at_rest has_rest.0 in
        let third = moved g at moves (r + 1) (elsewhere m) (plain o) second has_rest.3.0 ∙ goes in
        let many = has_many g at moves (r + 1) (elsewhere m) second in
        both_open g at moves j r front rest refl (no_way_opens g at moves em j outs)
        ((tt, tt, tt), ((subst (λ k. LeaveOpens g at moves k (plain o)) (sym many) left, tt, cover (may_raise o) many), ways_open g at moves em (r + 1 + 1) n c xs outs has_rest.3.3 third around))
      where
        cover : (b : Bool) → depth g at moves (r + 1) ≡ m → CoverOpens g at moves (depth g at moves (r + 1)) (leaves (plain o)) (if b then c else bare)
        cover true many = covered g at moves (depth g at moves (r + 1)) n (leaves (plain o)) c (omega (arith, le, many)) around.cover
        cover false many = tt

  module _ (n j l : ℕ) (c : Cover) (xs : List Exit) (outs : List ℕ) where
    pub exits_open : (cl : Cleanup) → Has g at moves j (exit_code em (exit_cleanup cl) c xs l outs) → at j ≡ elsewhere (held cl n) → Around g at moves n c xs → AllOpen g at moves j (exit_code em (exit_cleanup cl) c xs l outs)
    exits_open (destroy_scope q d) has here around = cleanup_open (destroy q d) n n j l c xs outs has here refl tt (omega arith) around
    exits_open (destroy_part q d) has here around = tt
    exits_open (free_object s) has here around = tt
    exits_open leave_handler has here around = cleanup_open leave (suc n) n j l c xs outs has here refl (omega arith) (omega arith) around

    -- exits of what has a cleanup go to that, or farther out
    pub exits_guarded : (cl : Cleanup) → Has g at moves j (exit_code em (exit_cleanup cl) c xs l outs) → at j ≡ elsewhere (held cl n) → depth g at moves (place_of g l) ≤ n → Around g at moves n c xs →
        (m : ℕ) → depth g at moves (place_of g (first_label m (protect_exit cl l ∷ xs))) ≤ held cl n
    exits_guarded (destroy_scope q d) has here own around zero = cleanup_has (destroy q d) n n j l c xs outs has here
    exits_guarded (destroy_scope q d) has here own around (suc m) = cleanup_has (destroy q d) n n j l c xs outs has here
    exits_guarded (destroy_part q d) has here own around zero = own
    exits_guarded (destroy_part q d) has here own around (suc m) = around.exits m
    exits_guarded (free_object s) has here own around zero = own
    exits_guarded (free_object s) has here own around (suc m) = around.exits m
    exits_guarded leave_handler has here own around zero = cleanup_has leave (suc n) n j l c xs outs has here
    exits_guarded leave_handler has here own around (suc m) = cleanup_has leave (suc n) n j l c xs outs has here

  -- the labels of handlers have no more
  abbrev pub LabelsOpen : ℕ → ℕ → Clauses → Type 0
  LabelsOpen n l no_clauses = Unit {0}
  LabelsOpen n l (clause_then t x a cs) = (depth g at moves (place_of g l) ≤ n) × LabelsOpen n (l + 1) cs

  pub tests_open : (cs : Clauses) (n l p : ℕ) → Has g at moves p (clause_tests em l cs) → depth g at moves p ≡ n → LabelsOpen n l cs → AllOpen g at moves p (clause_tests em l cs)
  tests_open no_clauses n l p has e h = tt
  tests_open (clause_then t x a cs) n l p has e h =
      let le = h.0 in
      ((tt, omega (arith, le, e), tt), tests_open cs n (l + 1) (p + 1) has.3 (has_many g at moves (p + 1) _ (moves p _ has.0) ∙ e) h.1)

  pub tests_have : (cs : Clauses) (n l p q : ℕ) → q ≡ p + length (clause_tests em l cs) → Has g at moves p (clause_tests em l cs) → depth g at moves p ≡ n → depth g at moves q ≡ n
  tests_have no_clauses n l p q e has many = let same : q ≡ p = omega (arith, e) in ap (depth g at moves) same ∙ many
  tests_have (clause_then t x a cs) n l p q e has many = tests_have cs n (l + 1) (p + 1) q (omega (arith, e)) has.3 (has_many g at moves (p + 1) _ (moves p _ has.0) ∙ many)
