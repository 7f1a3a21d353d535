-- The marked places of a function are those at which a call carries what a pad caught.
use Rattle.std.proofs.Common.{◌≡◌, ◌⊎◌, ℕ, zero, suc, ◌+◌, ◌<◌, Bool, true, false, List, [], ◌∷◌, ◌++◌, length, length-append, Some, inl, inr, refl, sym, ap, ◌∙◌, subst, arith}
use Rattle.std.specs.Prelude.{slice_get}
use Rattle.region_forms.specs.Form.{RegionFunction}
use Rattle.linear_forms.specs.Linear.{FunctionCode, LinearOp, plain, label, jump, jump_zero, pad, jump_filter, free, resume, unexpected, return}
use Rattle.linear_forms.specs.Tables.{unpadded}
use Rattle.linear_forms.specs.Sites.{Placed}
use Rattle.linear_forms.specs.CodeRuns.{HasAt}
use Rattle.linear_forms.specs.Emission.{Emitting, quiet}
use Rattle.linear_forms.specs.Code.{region_code}
use Rattle.linear_forms.specs.Unit.{emitting, placed_code, function_code}
use Rattle.linear_forms.proofs.Merging.{sites_are_right}
use Rattle.linear_forms.proofs.Pads.{pads_stand}
use Rattle.cost_paths.specs.Control.{goes_on, label_of, place_of}
use Rattle.cost_paths.proofs.Ranks.{alone, has_front, Ranked, ranked_front, ranked_back}
use Rattle.cost_paths.proofs.Listed.{rank_in, all_listed, behind_all}
use Rattle.cost_paths.proofs.Missing.{missing, both_without, no_labels, op_inside, function_has}
use Rattle.cost_paths.proofs.Regions.{has_end}
use Rattle.exceptions_in_flight.specs.Carrying.{CarriesOn, Steps}
use Rattle.exceptions_in_flight.specs.Flights.{AreFlights, FlightsAreCarried}
use Rattle.exceptions_in_flight.proofs.Marks.{unmarked, Ends, NextMarked, JumpMarked, AllMarked, both_marked}
use Rattle.exceptions_in_flight.proofs.Parts.{RegionMarked}
use Rattle.exceptions_in_flight.proofs.Regions.{region_marked}

some_same : (a b : LinearOp) → Some a ≡ Some b → a ≡ b
some_same a b e = cc e

some_number : (a b : ℕ) → Some a ≡ Some b → a ≡ b
some_number a b e = cc e

module _ (g : FunctionCode) (em : Emitting) (carries : ℕ → Bool) where
  -- what is said of the operation at a place
  record Said (p : ℕ) (o : LinearOp) : Type 0 where
    form : carries p ≡ true → CarriesOn em o
    ends : Ends g em carries p o
    next : NextMarked g em carries p o
    jump : JumpMarked g em carries p o

  said : (is : List Placed) (q k p : ℕ) (o : LinearOp) → p ≡ q + k → k < length is → HasAt (alone g) 0 q is → AllMarked g em carries q is → slice_get g.ops p ≡ Some o → Said p o
  said [] q k p o e lt has all there = absurd (omega (arith, lt))
  said (x ∷ is) q zero p o e lt has all there =
      let same : q ≡ p = omega (arith, e) in
      subst (λ n. slice_get g.ops n ≡ Some o → Said n o) same
      (λ at. subst (Said q) (some_same x.op o (sym has.0 ∙ at)) (record { form = all.0.form; ends = all.0.ends; next = all.0.next; jump = all.0.jump })) there
  said (x ∷ is) q (suc k) p o e lt has all there = said is (q + 1) k p o (omega (arith, e)) (omega (arith, lt)) has.3 all.1 there

  abbrev Comes : (p q : ℕ) → LinearOp → Type 0
  Comes p q o = (carries p ≡ true) ⊎ ((o ≡ pad em.object em.selector) × (q ≡ p + 1))

  comes_from : (p q : ℕ) (o : LinearOp) → Said p o → Steps g p o q → carries q ≡ true → Comes p q o
  comes_from p q o s (inl go) there = by o s.next s.ends go.0
    where
      at_next : carries (p + 1) ≡ true
      at_next = ap carries (sym go.1) ∙ there

      by : (o : LinearOp) → NextMarked g em carries p o → Ends g em carries p o → goes_on o ≡ true → Comes p q o
      by (plain o) h ends e = inl (h at_next)
      by (label l) h ends e = inl (h at_next)
      by (jump l) h ends e = absurd (cc e)
      by (jump_zero v l) h ends e = inl (h at_next)
      by (pad a b) h ends e = inr (ap (λ x. pad x b) ends.0 ∙ ap (λ y. pad em.object y) ends.1, go.1)
      by (jump_filter a n l) h ends e = inl (h at_next)
      by (free a) h ends e = inl (h at_next)
      by (resume a) h ends e = absurd (cc e)
      by (unexpected a b) h ends e = absurd (cc e)
      by (return a) h ends e = absurd (cc e)
  comes_from p q o s (inr go) there = inl (by o s.jump go.1)
    where
      at_label : (l : ℕ) → Some l ≡ Some go.0 → carries (place_of g l) ≡ true
      at_label l e = ap (λ k. carries (place_of g k)) (some_number l go.0 e) ∙ (ap carries (sym go.2) ∙ there)

      by : (o : LinearOp) → JumpMarked g em carries p o → label_of o ≡ Some go.0 → carries p ≡ true
      by (plain o) h e = absurd (cc e)
      by (label l) h e = absurd (cc e)
      by (jump l) h e = h (at_label l e)
      by (jump_zero v l) h e = h (at_label l e)
      by (pad a b) h e = absurd (cc e)
      by (jump_filter a n l) h e = h (at_label l e)
      by (free a) h e = absurd (cc e)
      by (resume a) h e = absurd (cc e)
      by (unexpected a b) h e = absurd (cc e)
      by (return a) h e = absurd (cc e)

module _ (f : RegionFunction) where
  abbrev code : FunctionCode
  code = function_code f

  abbrev em : Emitting
  em = emitting f

  abbrev body : List Placed
  body = region_code em unpadded [] 0 0 f.body

  abbrev last : List Placed
  last = quiet (return f.result) ∷ []

  parts : RegionMarked code em 0 [] 0 (has_end f.body) body
  parts = region_marked code em f.body unpadded [] 0 0 0

  abbrev marks : List Bool
  marks = parts.all.marks ++ false ∷ []

  abbrev carries : ℕ → Bool
  carries p = rank_in marks false p

  as_many : length marks ≡ length (placed_code f)
  as_many = omega (arith, length-append parts.all.marks (false ∷ []), length-append body last, parts.all.same)

  body_marks : Ranked carries 0 parts.all.marks
  body_marks = ranked_front carries 0 parts.all.marks (false ∷ []) (all_listed false marks)

  return_free : carries (0 + length body) ≡ false
  return_free = (ranked_back carries 0 (0 + length body) parts.all.marks (false ∷ []) (omega (arith, parts.all.same)) (all_listed false marks)).0

  in_body : HasAt (alone code) 0 0 body
  in_body = has_front code 0 body last (function_has f)

  outermost : carries (place_of code 0) ≡ false
  outermost = go (has_end f.body) refl
    where
      go : (b : Bool) → has_end f.body ≡ b → carries (place_of code 0) ≡ false
      go true e = parts.label e carries in_body body_marks
      go false e =
          let without = both_without body last (no_labels em f.body unpadded [] 0 0 e) (tt, tt) in
          ap carries (missing (placed_code f) 0 0 without) ∙ behind_all false marks (0 + length (placed_code f)) (omega (arith, as_many))

  all_right : AllMarked code em carries 0 (placed_code f)
  all_right =
      both_marked code em carries 0 (0 + length body) body last refl (parts.all.right carries (0 + length body) in_body body_marks refl return_free (λ k. outermost))
      (record { form = λ yes. unmarked (carries (0 + length body)) return_free yes; ends = tt; next = tt; jump = tt }, tt)

  said_at : (p : ℕ) (o : LinearOp) → slice_get code.ops p ≡ Some o → Said code em carries p o
  said_at p o e = said code em carries (placed_code f) 0 p p o (omega arith) (op_inside (placed_code f) p o e) (function_has f) all_right e

  are_flights : AreFlights f carries
  are_flights = record {
    first = parts.all.start carries (0 + length body) body_marks refl return_free;
    form = λ p o e. (said_at p o e).form;
    resumes = λ p s e. (said_at p (resume s) e).ends;
    passes = λ p o s e. (said_at p (unexpected o s) e).ends;
    comes = λ p q o e go there. comes_from code em carries p q o (said_at p o e) go there;
    pads = λ p o s e. (said_at p (pad o s) e).ends;
    entered = λ p q chain e. pads_stand f p q chain (sym (sites_are_right.said (placed_code f) p) ∙ e);
  }

pub flights_are_carried : FlightsAreCarried
flights_are_carried f = (carries f, are_flights f)
