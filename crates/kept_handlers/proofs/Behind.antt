-- What is open behind the code of an even region, and at the labels of handlers.
use Rattle.std.proofs.Common.{◌≡◌, ℕ, ◌+◌, true, List, ◌∷◌, length, Some, refl, sym, ap, ◌∙◌}
use Rattle.std.specs.Prelude.{slice_get, ◌&&◌}
use Rattle.std.proofs.lemmas.Bool.{and_parts}
use Rattle.region_forms.specs.Form.{Region, Clauses, no_clauses, clause_then}
use Rattle.linear_forms.specs.Linear.{FunctionCode, LinearOp, label, jump}
use Rattle.linear_forms.specs.Tables.{Cover}
use Rattle.linear_forms.specs.Exits.{Exit}
use Rattle.linear_forms.specs.Emission.{Emitting, quiet}
use Rattle.linear_forms.specs.Code.{labels, region_code, clauses_code}
use Rattle.cost_paths.proofs.Ranks.{has_front, has_back}
use Rattle.kept_handlers.specs.Left.{leaves_one, is_even, region_in_step, clauses_in_step}
use Rattle.kept_handlers.proofs.Scanning.{Scan, elsewhere, after, with_open, Even, even_parts, evenly, region_after}
use Rattle.kept_handlers.proofs.Opening.{Has, moved, comes_to, label_has}
use Rattle.kept_handlers.proofs.Exits.{LabelsOpen}

module _ (g : FunctionCode) (at : ℕ → Scan) (moves : (p : ℕ) (o : LinearOp) → slice_get g.ops p ≡ Some o → at (p + 1) ≡ after (at p) o) (em : Emitting) where
  -- code of an even region, and what is behind it
  pub even_after : (a : Region) (c : Cover) (xs : List Exit) (l p n q r : ℕ) → Even a → r ≡ q + length (region_code em c xs l p a) → Has g at moves q (region_code em c xs l p a) → at q ≡ elsewhere n → at r ≡ elsewhere n
  even_after a c xs l p n q r even e has here =
      let code = region_code em c xs l p a in
      comes_to g at moves q r (elsewhere n) (elsewhere n) code e has here (evenly em a n code even (region_after em a c xs l p n even.steps))

  pub as_open : (a : Region) (n q : ℕ) → Even a → at q ≡ elsewhere n → at q ≡ with_open (leaves_one a) n
  as_open a n q even here = here ∙ sym (ap (λ b. with_open b n) even.leaves)

  -- the labels at which handlers begin
  pub clause_labels : (cs : Clauses) (c : Cover) (xs : List Exit) (end first l p q n : ℕ) → clauses_in_step cs ≡ true → Has g at moves q (clauses_code em c xs end first l p cs) → at q ≡ elsewhere n → LabelsOpen g at moves em n first cs
  clause_labels no_clauses c xs end first l p q n e has here = tt
  clause_labels (clause_then t x a cs) c xs end first l p q n e has here =
      let parts = and_parts (is_even a && region_in_step a) (clauses_in_step cs) e in
      let one = even_parts a parts.0 in
      let body = region_code em c xs l (p + 2) a in
      let rest = clauses_code em c xs end (first + 1) (l + labels a) (p + 3 + length body) cs in
      let later = quiet (jump end) ∷ rest in
      let j = q + 1 + 1 + length body in
      let in_body = has_front g (q + 1 + 1) body later has.3.3 in
      let has_j = has_back g (q + 1 + 1) j body later refl has.3.3 in
      let second = moved g at moves (q + 1) (elsewhere n) _ (moved g at moves q (elsewhere n) (label first) here has.0) has.3.0 in
      let at_j = even_after a c xs l (p + 2) n (q + 1 + 1) j one refl in_body second in
      (label_has g at moves first q n has.2 here, clause_labels cs c xs end (first + 1) (l + labels a) (p + 3 + length body) (j + 1) n parts.1 has_j.3 (moved g at moves j (elsewhere n) (jump end) at_j has_j.0))
