-- A schedule is read from its text.
use Rattle.std.proofs.Common.{◌≡◌, ◌∙◌, refl, sym, ap, rules, ℕ, zero, suc, ◌+◌, ◌<◌, ◌≤◌, ◌^◌, ◌==◌, ◌&&◌, ◌||◌, not, nat_le, nat_lt, Bool, true, false, cond, List, [], ◌∷◌, ◌++◌, length, map, get_or, Some, None, Ok, bytes_eq, append_assoc, arith}
use Rattle.std.specs.Prelude.{codes, option_and_then, option_map}
use Rattle.std.proofs.lemmas.Bool.Decides.{nat_tests}
use Rattle.std.specs.Char.{is_ascii_digit}
use Rattle.std.specs.Fmt.{decimal}
use Rattle.std.specs.List.{list_all, AllByRecursion}
use Rattle.std.specs.Str.Parse.{digits_value}
use Rattle.std.proofs.lemmas.List.Sums.{sum_by-cons}
use Rattle.std.proofs.lemmas.Fmt.{digits_decimal, digits_value-decimal, first_decimal, decimal_digit}
use Rattle.std.proofs.lemmas.Str.Parse.{IsNumeralModel, numerals_by_value}
use Rattle.plain_text.specs.Decimal.{has_no_leading_zero, is_decimal}
use Rattle.plain_text.specs.Lines.{in_front, lines_of}
use Rattle.hart_sched.specs.Decimal.{number_in, as_turns, turns_in}
use Rattle.hart_sched.specs.Schedule.{Slice, line_of, text_of, parted, Line, line_read, Entry, slice_of, and_entries, entries_from, fault_from, most_turns, unless_fault, tested, schedule, IsSlice, turns_among}
use Rattle.hart_sched.specs.Laws.{ReadsText}

own : IsNumeralModel (λ ds. list_all is_ascii_digit ds ≡ true) (digits_value 10)
own = numerals_by_value _ (search rules)

all_digits : (n : ℕ) → n < 2 ^ 64 → list_all is_ascii_digit (decimal n) ≡ true
all_digits n small = digits_decimal own n small

no_zero : (ds : List ℕ) → 48 < get_or ds 0 0 → has_no_leading_zero ds ≡ true
no_zero [] h = absurd (omega arith)
no_zero (d ∷ ds) h = grind (arith, nat_tests, h)

or_true : (a : Bool) → (a || true) ≡ true
or_true true = refl
or_true false = refl

decimals : (n : ℕ) → n < 2 ^ 64 → is_decimal (decimal n) ≡ true
decimals zero small = rw (decimal_digit 0 (omega arith)) refl
decimals (suc n) small =
    ap (λ b. bytes_eq (decimal (suc n)) (codes "0") || (b && has_no_leading_zero (decimal (suc n)))) (all_digits (suc n) small) ∙
    ap (λ b. bytes_eq (decimal (suc n)) (codes "0") || b) (no_zero (decimal (suc n)) (first_decimal (suc n) (omega arith) small)) ∙ or_true (bytes_eq (decimal (suc n)) (codes "0"))

number_read : (n : ℕ) → n < 2 ^ 64 → number_in (decimal n) ≡ Some n
unfolding number_in
number_read n small = ap (λ b. cond b (Some (digits_value 10 (decimal n))) None) (decimals n small) ∙ ap Some (digits_value-decimal own n small)

turns_read : (n : ℕ) → 1 ≤ n → n ≤ 4294967295 → turns_in (decimal n) ≡ Some n
turns_read n some few =
    let a : nat_le 1 n ≡ true = grind (arith, nat_tests, some) in
    let b : nat_le n 4294967295 ≡ true = grind (arith, nat_tests, few) in
    ap (option_and_then as_turns) (number_read n (omega (arith, few))) ∙ ap (λ t. cond (t && nat_le n 4294967295) (Some n) None) a ∙ ap (λ t. cond t (Some n) None) b

-- ---- a line
itself : (b : ℕ) → (b == b) ≡ true
itself b = grind (arith, nat_tests)

-- no digit is a blank or a line feed
other_than : (byte d : ℕ) (ds : List ℕ) → byte < 48 → list_all is_ascii_digit (d ∷ ds) ≡ true → ((d == byte) ≡ false) × (list_all is_ascii_digit ds ≡ true)
other_than byte d ds low all = by (is_ascii_digit d) refl all
  where
    by : (b : Bool) → is_ascii_digit d ≡ b → (b && list_all is_ascii_digit ds) ≡ true → ((d == byte) ≡ false) × (list_all is_ascii_digit ds ≡ true)
    by true digit more = (grind (arith, nat_tests, low, digit), more)
    by false digit more = absurd cc

digits_parted : (byte : ℕ) (ds rest : List ℕ) → byte < 48 → list_all is_ascii_digit ds ≡ true → parted byte (ds ++ (byte ∷ rest)) ≡ Some (ds, rest)
unfolding parted
digits_parted byte [] rest low all = ap (λ b. cond b (Some ([], rest)) (option_map (λ (p : List ℕ × List ℕ). (byte ∷ p.0, p.1)) (parted byte rest))) (itself byte)
digits_parted byte (d ∷ ds) rest low all =
    let parts = other_than byte d ds low all in
    ap (λ b. cond b (Some ([], ds ++ (byte ∷ rest))) (option_map (λ (p : List ℕ × List ℕ). (d ∷ p.0, p.1)) (parted byte (ds ++ (byte ∷ rest))))) parts.0 ∙
    ap (option_map (λ (p : List ℕ × List ℕ). (d ∷ p.0, p.1))) (digits_parted byte ds rest low parts.1)

abbrev is_inside : List ℕ → Bool
is_inside ds = list_all (λ b. not (b == 10)) ds

digits_inside : (ds : List ℕ) → list_all is_ascii_digit ds ≡ true → is_inside ds ≡ true
digits_inside [] all = refl
digits_inside (d ∷ ds) all = let parts = other_than 10 d ds (omega arith) all in ap (λ b. not b && is_inside ds) parts.0 ∙ digits_inside ds parts.1

both_inside : (xs ys : List ℕ) → is_inside xs ≡ true → is_inside ys ≡ true → is_inside (xs ++ ys) ≡ true
both_inside [] ys a b = b
both_inside (x ∷ xs) ys a b = by (x == 10) a (λ more. both_inside xs ys more b)
  where
    by : (t : Bool) → (not t && is_inside xs) ≡ true → (is_inside xs ≡ true → is_inside (xs ++ ys) ≡ true) → (not t && is_inside (xs ++ ys)) ≡ true
    by false a later = later a
    by true a later = absurd cc

first_line : (ds rest : List ℕ) → is_inside ds ≡ true → lines_of (ds ++ (10 ∷ rest)) ≡ (ds ++ (10 ∷ [])) ∷ lines_of rest
unfolding lines_of
first_line [] rest inside = refl
first_line (d ∷ ds) rest inside = by (d == 10) inside (first_line ds rest)
  where
    by : (b : Bool) → (not b && is_inside ds) ≡ true → (is_inside ds ≡ true → lines_of (ds ++ (10 ∷ rest)) ≡ (ds ++ (10 ∷ [])) ∷ lines_of rest) →
        cond b ((d ∷ []) ∷ lines_of (ds ++ (10 ∷ rest))) (in_front d (lines_of (ds ++ (10 ∷ rest)))) ≡ (d ∷ (ds ++ (10 ∷ []))) ∷ lines_of rest
    by false more later = ap (in_front d) (later more)
    by true more later = absurd cc

-- the numbers before the line feed
abbrev numbers_of : Slice → List ℕ
numbers_of (hart, turns) = decimal hart ++ (32 ∷ decimal turns)

line_is : (s : Slice) (rest : List ℕ) → line_of s ++ rest ≡ numbers_of s ++ (10 ∷ rest)
line_is (hart, turns) rest =
    append_assoc (decimal hart) (32 ∷ (decimal turns ++ (10 ∷ []))) rest ∙ ap (λ (t : List ℕ). decimal hart ++ (32 ∷ t)) (append_assoc (decimal turns) (10 ∷ []) rest) ∙
    sym (append_assoc (decimal hart) (32 ∷ decimal turns) (10 ∷ rest))

line_alone : (s : Slice) → numbers_of s ++ (10 ∷ []) ≡ line_of s
line_alone (hart, turns) = append_assoc (decimal hart) (32 ∷ decimal turns) (10 ∷ [])

abbrev line_known : Slice → Line
line_known (hart, turns) = record { hart = hart; turns = turns; width = length (decimal hart) }

line_reads : (hart turns : ℕ) → hart < 2 ^ 64 → 1 ≤ turns → turns ≤ 4294967295 → line_read (line_of (hart, turns)) ≡ Some (line_known (hart, turns))
unfolding line_read
line_reads hart turns small some few =
    let behind = decimal turns ++ (10 ∷ []) in
    rw (
      digits_parted 32 (decimal hart) behind (omega arith) (all_digits hart small),
      digits_parted 10 (decimal turns) [] (omega arith) (all_digits turns (omega (arith, few))),
      number_read hart small,
      turns_read turns some few,
    ) refl

-- ---- all lines
abbrev entries_of : ℕ → List Slice → List Entry
entries_of place [] = []
entries_of place (s ∷ slices) = record { line = line_known s; place = place } ∷ entries_of (place + length (line_of s)) slices

entries_read : (harts place : ℕ) (slices : List Slice) → harts ≤ 2 ^ 32 → AllByRecursion (IsSlice harts) slices → entries_from place (lines_of (text_of slices)) ≡ Ok (entries_of place slices)
unfolding entries_from lines_of
entries_read harts place [] few all = refl
entries_read harts place ((hart, turns) ∷ slices) few all =
    let s : Slice = (hart, turns) in
    let low = all.0.hart in
    let more = all.0.few in
    let small : hart < 2 ^ 64 = omega (arith, low, few) in
    let inside = both_inside (decimal hart) (32 ∷ decimal turns) (digits_inside (decimal hart) (all_digits hart small)) (digits_inside (decimal turns) (all_digits turns (omega (arith, more)))) in
    let lines : lines_of (text_of (s ∷ slices)) ≡ line_of s ∷ lines_of (text_of slices) =
    ap lines_of (line_is s (text_of slices)) ∙ first_line (numbers_of s) (text_of slices) inside ∙ ap (λ (l : List ℕ). l ∷ lines_of (text_of slices)) (line_alone s) in
    ap (entries_from place) lines ∙ ap (λ o. and_entries place o (entries_from (place + length (line_of s)) (lines_of (text_of slices)))) (line_reads hart turns small all.0.some all.0.few) ∙
    ap (and_entries place (Some (line_known s))) (entries_read harts (place + length (line_of s)) slices few all.1)

no_fault : (harts turns place : ℕ) (slices : List Slice) → AllByRecursion (IsSlice harts) slices → turns + turns_among slices ≤ most_turns → fault_from harts turns (entries_of place slices) ≡ None
unfolding fault_from
no_fault harts turns place [] all few = refl
no_fault harts turns place ((hart, n) ∷ slices) all few =
    let low = all.0.hart in
    let sum : turns_among ((hart, n) ∷ slices) ≡ n + turns_among slices = sum_by-cons (λ (s : Slice). s.1) (hart, n) slices in
    let a : nat_le harts hart ≡ false = grind (arith, nat_tests, low) in
    let fits : turns + n ≤ 2 ^ 40 = omega (arith, few, sum) in
    let b : nat_lt (2 ^ 40) (turns + n) ≡ false = grind (arith, nat_tests, fits) in
    rw (a, b) (no_fault harts (turns + n) (place + length (line_of (hart, n))) slices all.1 (omega (arith, few, sum)))

slices_known : (place : ℕ) (slices : List Slice) → map slice_of (entries_of place slices) ≡ slices
slices_known place [] = refl
slices_known place (s ∷ slices) = ap (λ (more : List Slice). s ∷ more) (slices_known (place + length (line_of s)) slices)

pub reads_text : ReadsText
unfolding schedule
reads_text harts slices few h =
    let sum = h.few in
    ap (tested harts) (entries_read harts 0 slices few h.each) ∙ ap (unless_fault (entries_of 0 slices)) (no_fault harts 0 0 slices h.each (omega (arith, sum))) ∙ ap Ok (slices_known 0 slices)
