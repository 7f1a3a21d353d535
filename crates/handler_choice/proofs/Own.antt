-- The tables of the runtime's own functions say what guards stand around their operations.
use Rattle.std.proofs.Common.{ℕ, zero, suc, List, [], ◌∷◌, Some, None, refl, slice_get}
use Rattle.std.specs.Prelude.{⊤, unwrap_or}
use Rattle.region_forms.specs.Guard.{Guard}
use Rattle.linear_forms.specs.Tables.{bare}
use Rattle.linear_forms.specs.Stub.{Function, compiled, end_catch, terminating, call_unexpected, StubRow, stub_rows, stub_sense}
use Rattle.handler_choice.specs.Says.{Says}
use Rattle.handler_choice.specs.Own.{shut, own_guards}
use Rattle.handler_choice.specs.Laws.{OwnGuardsAreSaid}

-- row by row
abbrev RowsSay : List (List Guard) → List StubRow → Type 0
RowsSay [] [] = ⊤
RowsSay (gs ∷ rest) (x ∷ rows) = Says stub_sense gs x.cover × RowsSay rest rows
RowsSay gs rows = ⊥

rows_say : (f : Function) → RowsSay (own_guards f) (stub_rows f)
rows_say (compiled n) = tt
rows_say terminating = (([], refl), (([], refl), tt))
rows_say end_catch =
    (([], refl), ((tt, refl), (([], refl), (([], refl), (([], refl), (([], refl), (refl, tt)))))))
rows_say call_unexpected = (
  ([], refl),
  (
    ((refl, tt), refl),
    (
      ([], refl),
      (
        ([], refl),
        (
          ([], refl),
          (
            ([], refl),
            (
              ([], refl),
              (
                ([], refl),
                (
                  ([], refl),
                  (
                    ([], refl),
                    (
                      (tt, refl),
                      (
                        ([], refl),
                        (
                          ([], refl),
                          ((tt, refl), (([], refl), (([], refl), (([], refl), (refl, tt))))),
                        ),
                      ),
                    ),
                  ),
                ),
              ),
            ),
          ),
        ),
      ),
    ),
  ),
)

at_place : (gss : List (List Guard)) (rows : List StubRow) (p : ℕ) → RowsSay gss rows → Says stub_sense (unwrap_or (slice_get gss p) shut) (elim (slice_get rows p) [ None ↦ bare | Some x ↦ x.cover ])
at_place [] [] p h = ([], refl)
at_place [] (x ∷ rows) p h = absurd h
at_place (gs ∷ gss) [] p h = absurd h
at_place (gs ∷ gss) (x ∷ rows) zero h = h.0
at_place (gs ∷ gss) (x ∷ rows) (suc p) h = at_place gss rows p h.1

pub own_guards_are_said : OwnGuardsAreSaid
own_guards_are_said f p = at_place (own_guards f) (stub_rows f) p (rows_say f)
