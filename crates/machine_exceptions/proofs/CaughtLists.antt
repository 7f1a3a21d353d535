-- The caught exceptions of both machines, of which the newest gets or loses a handler.
use Rattle.std.proofs.Common.{◌≡◌, ◌∙◌, refl, sym, ap, subst, arith, ℕ, suc, ◌+◌, ◌^◌, ◌<◌, ◌==◌, ◌||◌, ◌&&◌, not, nat_eq, Bool, true, false, ℤ, pos, negsuc, List, [], ◌∷◌, Some, is_some}
use Rattle.std.specs.Prelude.{if◌then◌else◌}
use Rattle.std.specs.List.{list_all, IsDistinct}
use Rattle.std.proofs.lemmas.Bool.Decides.{nat_tests}
use Rattle.caught_stack.specs.declared.header.Header.{Header}
use Rattle.caught_stack.specs.Slots.{is_in}
use Rattle.caught_stack.specs.Live.{Live as Headers, header_of, is_live}
use Rattle.caught_stack.specs.Caught.{Caught, slots_of, handler_count, is_small, is_counted, is_in_front as is_front_slot}
use Rattle.caught_stack.specs.Begin.{one_more, begun_on}
use Rattle.caught_stack.proofs.Stacks.{once_more}
use Rattle.cxa_runtime.specs.Objects.{is_thrown}
use Rattle.cxa_runtime.specs.MayBegin.{holds_other as holds_other_slot}
use Rattle.region_forms.specs.Caught.{Entry, counted, entered_on, holds_other}
use Rattle.machine_simulation.specs.Exceptions.{HasHeader, AreCaught, count_of}
use Rattle.machine_exceptions.specs.Enters.{handlers_of}
use Rattle.machine_exceptions.proofs.Travels.{is_handled, is_in_front}

-- an exception's number and its slot in the headers, where no other slot has this number
module _ (headers : Headers) (e slot : ℕ) (has : HasHeader headers e slot) (unique : (s : ℕ) → HasHeader headers e s → slot ≡ s) where
  same_number : (s d : ℕ) → HasHeader headers d s → slot ≡ s → e ≡ d
  same_number s d h same =
      let both : Some has.header ≡ Some h.header = sym has.there ∙ ap (header_of headers) same ∙ h.there in
      let one : has.header ≡ h.header = cc both in
      sym has.number ∙ ap (λ (y : Header). y.number) one ∙ h.number

  pub same_test : (d s : ℕ) → HasHeader headers d s → (d == e) ≡ (s == slot)
  same_test d s h = by (d == e) refl (s == slot) refl
    where
      by : (a : Bool) → (d == e) ≡ a → (b : Bool) → (s == slot) ≡ b → (d == e) ≡ (s == slot)
      by true x true y = x ∙ sym y
      by false x false y = x ∙ sym y
      by true x false y =
          let eq : d ≡ e = grind (arith, nat_tests, x) in
          let at : slot ≡ s = unique s (record { header = h.header; there = h.there; number = h.number ∙ eq }) in
          absurd (let itself : (s == slot) ≡ true = grind (arith, nat_tests, at) in let both : true ≡ false = sym itself ∙ y in cc both)
      by false x true y =
          let at : slot ≡ s = grind (arith, nat_tests, y) in
          let eq : e ≡ d = same_number s d h at in
          absurd (let itself : (d == e) ≡ true = grind (arith, nat_tests, eq) in let both : true ≡ false = sym itself ∙ x in cc both)

  -- ---- tests of the caught list

  pub others_alike : (xs : List Entry) (ys : Caught) → AreCaught headers xs ys → holds_other e xs ≡ holds_other_slot ys slot
  others_alike [] [] h = refl
  others_alike (x ∷ xs) ((s, n) ∷ ys) h = ap (λ b. not b || holds_other e xs) (same_test x.number s h.0.0) ∙ ap (λ b. not (s == slot) || b) (others_alike xs ys h.2)
  others_alike [] (y ∷ ys) h = absurd h
  others_alike (x ∷ xs) [] h = absurd h

  handled_alike : (xs : List Entry) (ys : Caught) → AreCaught headers xs ys → is_handled xs e ≡ is_in (slots_of ys) slot
  handled_alike [] [] h = refl
  handled_alike (x ∷ xs) ((s, n) ∷ ys) h =
      let flip : (s == slot) ≡ nat_eq slot s = grind (arith, nat_tests) in
      or_else (x.number == e) (is_handled xs e) ∙ ap (λ b. b || is_handled xs e) (same_test x.number s h.0.0 ∙ flip) ∙ ap (λ b. nat_eq slot s || b) (handled_alike xs ys h.2)
    where
      or_else : (a b : Bool) → (if a then true else b) ≡ (a || b)
      or_else true b = refl
      or_else false b = refl
  handled_alike [] (y ∷ ys) h = absurd h
  handled_alike (x ∷ xs) [] h = absurd h

  pub front_alike : (xs : List Entry) (ys : Caught) → AreCaught headers xs ys → is_in_front xs e ≡ true → is_front_slot ys slot ≡ true
  front_alike [] [] h front = refl
  front_alike (x ∷ xs) ((s, n) ∷ ys) h front = by (s == slot) refl (sym (ap (λ b. if b then true else not (is_handled xs e)) (same_test x.number s h.0.0)) ∙ front)
    where
      by : (b : Bool) → (s == slot) ≡ b → (if b then true else not (is_handled xs e)) ≡ true → ((s == slot) || not (nat_eq slot s || is_in (slots_of ys) slot)) ≡ true
      by true is f = ap (λ b. b || not (nat_eq slot s || is_in (slots_of ys) slot)) is
      by false is f =
          let other : nat_eq slot s ≡ false = grind (arith, nat_tests, is) in
          ap (λ b. b || not (nat_eq slot s || is_in (slots_of ys) slot)) is ∙ ap (λ b. not (b || is_in (slots_of ys) slot)) other ∙ ap not (sym (handled_alike xs ys h.2)) ∙ f
  front_alike [] (y ∷ ys) h front = absurd h
  front_alike (x ∷ xs) [] h front = absurd h

  small_count : (x : Entry) → suc x.more < 2 ^ 62 → is_small (count_of x) ≡ true
  small_count x few = by x.again
    where
      by : (b : Bool) → is_small (if b then negsuc x.more else pos (suc x.more)) ≡ true
      by true = grind (arith, nat_tests, few)
      by false = grind (arith, nat_tests, few)

  pub counts_small : (xs : List Entry) (ys : Caught) → AreCaught headers xs ys → handlers_of xs e < 2 ^ 62 → is_small (handler_count ys slot) ≡ true
  counts_small [] [] h few = refl
  counts_small (x ∷ xs) ((s, n) ∷ ys) h few =
      by (s == slot) (counts_small xs ys h.2) (subst (λ b. (if b then suc x.more else handlers_of xs e) < 2 ^ 62) (same_test x.number s h.0.0) few)
    where
      by : (b : Bool) → (handlers_of xs e < 2 ^ 62 → is_small (handler_count ys slot) ≡ true) → (if b then suc x.more else handlers_of xs e) < 2 ^ 62 → is_small (if b then n else handler_count ys slot) ≡ true
      by true rest f = ap is_small h.1 ∙ small_count x f
      by false rest f = rest f
  counts_small [] (y ∷ ys) h few = absurd h
  counts_small (x ∷ xs) [] h few = absurd h

  -- ---- the exception is entered

  more_count : (x : Entry) (n : ℤ) → n ≡ count_of x → one_more n ≡ pos (suc (suc x.more))
  more_count x n is = ap one_more is ∙ by x.again
    where
      by : (b : Bool) → one_more (if b then negsuc x.more else pos (suc x.more)) ≡ pos (suc (suc x.more))
      by true = ap pos (omega arith)
      by false = ap pos (omega arith)

  pub entered_alike : is_thrown has.header.kind ≡ true → (xs : List Entry) (ys : Caught) → AreCaught headers xs ys → AreCaught headers (entered_on e xs) (begun_on slot ys)
  entered_alike thrown [] [] h = ((has, thrown), refl, tt)
  entered_alike thrown (x ∷ xs) ((s, n) ∷ ys) h = by (x.number == e) (s == slot) (same_test x.number s h.0.0) refl
    where
      by : (a b : Bool) → a ≡ b → (x.number == e) ≡ a →
          AreCaught headers (counted a e false x xs) (if b then (s, one_more n) ∷ ys else (slot, pos 1) ∷ (s, n) ∷ ys)
      by true true same is =
          let number : x.number ≡ e = grind (arith, nat_tests, is) in
          ((record { header = h.0.0.header; there = h.0.0.there; number = h.0.0.number ∙ number }, h.0.1), more_count x n h.1, h.2)
      by false false same is = ((has, thrown), refl, h)
      by true false same is = absurd (cc same)
      by false true same is = absurd (cc same)
  entered_alike thrown [] (y ∷ ys) h = absurd h
  entered_alike thrown (x ∷ xs) [] h = absurd h

  -- ---- the caught stack is still as it is to be

  counted_more : (n : ℤ) → is_counted (one_more n) ≡ true
  counted_more (pos n) = let count : n + 1 ≡ suc n = omega arith in ap (λ k. is_counted (pos k)) count
  counted_more (negsuc n) = let count : suc n + 1 ≡ suc (suc n) = omega arith in ap (λ k. is_counted (pos k)) count

  pub begun_live : (ys : Caught) → list_all (is_live headers) (slots_of ys) ≡ true → list_all (is_live headers) (slots_of (begun_on slot ys)) ≡ true
  begun_live [] all = ap (λ b. b && true) (ap is_some has.there)
  begun_live ((s, n) ∷ ys) all = by (s == slot)
    where
      by : (b : Bool) → list_all (is_live headers) (slots_of (if b then (s, one_more n) ∷ ys else (slot, pos 1) ∷ (s, n) ∷ ys)) ≡ true
      by true = all
      by false = ap (λ b. b && (is_live headers s && list_all (is_live headers) (slots_of ys))) (ap is_some has.there) ∙ all

  pub begun_once : (ys : Caught) → is_front_slot ys slot ≡ true → IsDistinct nat_eq (slots_of ys) → IsDistinct nat_eq (slots_of (begun_on slot ys))
  begun_once [] front once = once_more slot [] refl once
  begun_once ((s, n) ∷ ys) front once = by (s == slot) refl
    where
      out : (a b : Bool) → a ≡ false → (a || not b) ≡ true → b ≡ false
      out false false is f = refl
      out false true is f = absurd (cc f)
      out true b is f = absurd (cc is)

      by : (b : Bool) → (s == slot) ≡ b → IsDistinct nat_eq (slots_of (if b then (s, one_more n) ∷ ys else (slot, pos 1) ∷ (s, n) ∷ ys))
      by true is = once
      by false is = once_more slot (s ∷ slots_of ys) (out (s == slot) (is_in (s ∷ slots_of ys) slot) is front) once

  pub begun_counted : (ys : Caught) → list_all (λ entry. is_counted entry.1) ys ≡ true → list_all (λ entry. is_counted entry.1) (begun_on slot ys) ≡ true
  begun_counted [] all = refl
  begun_counted ((s, n) ∷ ys) all = by (s == slot) (is_counted n) refl all
    where
      by : (b c : Bool) → is_counted n ≡ c → (c && list_all (λ entry. is_counted entry.1) ys) ≡ true → list_all (λ entry. is_counted entry.1) (if b then (s, one_more n) ∷ ys else (slot, pos 1) ∷ (s, n) ∷ ys) ≡ true
      by true true is all = ap (λ c. c && list_all (λ entry. is_counted entry.1) ys) (counted_more n) ∙ all
      by true false is all = absurd (cc all)
      by false c is all = ap (λ c. c && list_all (λ entry. is_counted entry.1) ys) is ∙ all
