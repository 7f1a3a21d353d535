-- What is read as a schedule is its text.
use Rattle.std.proofs.Common.{◌≡◌, ◌∙◌, refl, sym, ap, subst, rules, ℕ, ◌+◌, ◌<◌, ◌≤◌, ◌^◌, ◌==◌, ◌&&◌, ◌||◌, nat_le, nat_lt, Bool, true, false, cond, List, [], ◌∷◌, ◌++◌, length, map, get_or, Option, Some, None, Result, Ok, Err, bytes_eq, arith}
use Rattle.std.specs.Prelude.{codes, flat_map, option_and_then, option_map}
use Rattle.std.proofs.lemmas.Bool.Decides.{nat_tests}
use Rattle.std.proofs.lemmas.List.Sums.{sum_by-cons}
use Rattle.std.specs.Char.{is_ascii_digit}
use Rattle.std.specs.Fmt.{decimal}
use Rattle.std.specs.List.{list_all, AllByRecursion}
use Rattle.std.specs.Str.Parse.{digits_value}
use Rattle.std.proofs.lemmas.Fmt.{decimal-digits_value, decimal_digit}
use Rattle.std.proofs.lemmas.Str.Parse.{IsNumeralModel, numerals_by_value}
use Rattle.plain_text.specs.Decimal.{has_no_leading_zero}
use Rattle.plain_text.specs.Lines.{in_front, lines_of}
use Rattle.hart_sched.specs.Decimal.{number_in, as_turns, turns_in}
use Rattle.hart_sched.specs.Schedule.{Slice, line_of, text_of, parted, Line, alone, line_read, Entry, slice_of, Refusal, and_entries, entries_from, fault_from, most_turns, unless_fault, tested, schedule, IsSlice, IsSchedule, turns_among}
use Rattle.hart_sched.specs.Laws.{ReadsNothingElse}

own : IsNumeralModel (λ ds. list_all is_ascii_digit ds ≡ true) (digits_value 10)
own = numerals_by_value _ (search rules)

some_same : {A : Type 0} (x y : A) → Some x ≡ Some y → x ≡ y
some_same x y e = cc

ok_same : {A B : Type 0} (x y : A) → (◌≡◌ {A = Result A B} (Ok x) (Ok y)) → x ≡ y
ok_same x y e = cc

-- ---- lines
joined_front : (byte : ℕ) (lines : List (List ℕ)) → flat_map (λ (l : List ℕ). l) (in_front byte lines) ≡ byte ∷ flat_map (λ (l : List ℕ). l) lines
joined_front byte [] = refl
joined_front byte (line ∷ lines) = refl

joined : (bytes : List ℕ) → flat_map (λ (l : List ℕ). l) (lines_of bytes) ≡ bytes
unfolding lines_of
joined [] = refl
joined (b ∷ bytes) = by (b == 10) (joined bytes)
  where
    by : (t : Bool) → flat_map (λ (l : List ℕ). l) (lines_of bytes) ≡ bytes → flat_map (λ (l : List ℕ). l) (cond t ((b ∷ []) ∷ lines_of bytes) (in_front b (lines_of bytes))) ≡ b ∷ bytes
    by true more = ap (λ (xs : List ℕ). b ∷ xs) more
    by false more = joined_front b (lines_of bytes) ∙ ap (λ (xs : List ℕ). b ∷ xs) more

parted_is : (byte : ℕ) (text : List ℕ) (p : List ℕ × List ℕ) → parted byte text ≡ Some p → text ≡ p.0 ++ (byte ∷ p.1)
unfolding parted
parted_is byte [] p h = absurd cc
parted_is byte (b ∷ bs) p h = by (b == byte) refl h (parted byte bs) refl (λ q is. parted_is byte bs q is)
  where
    front : (q : List ℕ × List ℕ) → bs ≡ q.0 ++ (byte ∷ q.1) → (b ∷ q.0, q.1) ≡ p → b ∷ bs ≡ p.0 ++ (byte ∷ p.1)
    front q more same = ap (λ (xs : List ℕ). b ∷ xs) more ∙ ap (λ (r : List ℕ × List ℕ). r.0 ++ (byte ∷ r.1)) same

    by : (t : Bool) → (b == byte) ≡ t → cond t (Some ([], bs)) (option_map (λ (q : List ℕ × List ℕ). (b ∷ q.0, q.1)) (parted byte bs)) ≡ Some p → (o : Option (List ℕ × List ℕ)) → parted byte bs ≡ o →
        ((q : List ℕ × List ℕ) → parted byte bs ≡ Some q → bs ≡ q.0 ++ (byte ∷ q.1)) → b ∷ bs ≡ p.0 ++ (byte ∷ p.1)
    by true is h o found later =
        let same : b ≡ byte = grind (arith, nat_tests, is) in ap (λ (x : ℕ). x ∷ bs) same ∙ ap (λ (r : List ℕ × List ℕ). r.0 ++ (byte ∷ r.1)) (some_same ([], bs) p h)
    by false is h None found later = absurd (none (ap (option_map (λ (q : List ℕ × List ℕ). (b ∷ q.0, q.1))) (sym found) ∙ h))
      where
        none : None ≡ Some p → ⊥
        none e = cc
    by false is h (Some q) found later = front q (later q found) (some_same (b ∷ q.0, q.1) p (ap (option_map (λ (q : List ℕ × List ℕ). (b ∷ q.0, q.1))) (sym found) ∙ h))

-- ---- numbers
lead : (ds : List ℕ) → bytes_eq ds (codes "0") ≡ false → has_no_leading_zero ds ≡ true → get_or ds 0 0 ≡ 48 → length ds ≡ 1
lead [] other some is = absurd cc
lead (d ∷ ds) other some is = absurd (grind (arith, nat_tests, some, is))

nonempty : (ds : List ℕ) → has_no_leading_zero ds ≡ true → 0 < length ds
nonempty [] h = absurd cc
nonempty (d ∷ ds) h = omega arith

zero_text : (ds : List ℕ) → bytes_eq ds (codes "0") ≡ true → ds ≡ codes "0"
zero_text [] h = absurd cc
zero_text (d ∷ []) h = by (d == 48) refl h
  where
    by : (b : Bool) → (d == 48) ≡ b → (b && true) ≡ true → d ∷ [] ≡ codes "0"
    by true is h = let same : d ≡ 48 = grind (arith, nat_tests, is) in ap (λ (x : ℕ). x ∷ []) same
    by false is h = absurd cc
zero_text (d ∷ e ∷ ds) h = by (d == 48) h
  where
    by : (b : Bool) → (b && false) ≡ true → d ∷ e ∷ ds ≡ codes "0"
    by true h = absurd cc
    by false h = absurd cc

number_is : (text : List ℕ) (n : ℕ) → number_in text ≡ Some n → n < 2 ^ 64 → text ≡ decimal n
unfolding number_in
number_is text n h small = by (bytes_eq text (codes "0")) refl (list_all is_ascii_digit text) refl (has_no_leading_zero text) refl h
  where
    value : digits_value 10 text ≡ n → list_all is_ascii_digit text ≡ true → has_no_leading_zero text ≡ true → bytes_eq text (codes "0") ≡ false → text ≡ decimal n
    value is all some other =
        sym (decimal-digits_value own text all (nonempty text some) (lead text other some) (omega (arith, small, is))) ∙ ap decimal is

    nothing : text ≡ codes "0" → digits_value 10 text ≡ n → text ≡ decimal n
    nothing nought is =
        let none : digits_value 10 (codes "0") ≡ 0 = refl in
        let same : n ≡ 0 = sym is ∙ ap (digits_value 10) nought ∙ none in nought ∙ sym (decimal_digit 0 (omega arith)) ∙ ap decimal (sym same)

    by : (z : Bool) → bytes_eq text (codes "0") ≡ z → (a : Bool) → list_all is_ascii_digit text ≡ a → (s : Bool) → has_no_leading_zero text ≡ s →
        cond (z || (a && s)) (Some (digits_value 10 text)) None ≡ Some n → text ≡ decimal n
    by true z a p s q h = nothing (zero_text text z) (some_same (digits_value 10 text) n h)
    by false z true p true q h = value (some_same (digits_value 10 text) n h) p q z
    by false z true p false q h = absurd cc
    by false z false p s q h = absurd cc

record IsTurns (text : List ℕ) (n : ℕ) : Type 0 where
  text_is : text ≡ decimal n
  some : 1 ≤ n
  few : n ≤ 4294967295

turns_is : (text : List ℕ) (n : ℕ) → turns_in text ≡ Some n → IsTurns text n
turns_is text n h = by (number_in text) refl h
  where
    ranged : (m : ℕ) → number_in text ≡ Some m → (a : Bool) → nat_le 1 m ≡ a → (b : Bool) → nat_le m 4294967295 ≡ b → cond (a && b) (Some m) None ≡ Some n → IsTurns text n
    ranged m is true p true q h =
        let same = some_same m n h in
        let low : 1 ≤ m = grind (arith, nat_tests, p) in
        let high : m ≤ 4294967295 = grind (arith, nat_tests, q) in
        record { text_is = number_is text m is (omega (arith, high)) ∙ ap decimal same; some = omega (arith, low, same); few = omega (arith, high, same) }
    ranged m is true p false q h = absurd cc
    ranged m is false p b q h = absurd cc

    by : (o : Option ℕ) → number_in text ≡ o → option_and_then as_turns o ≡ Some n → IsTurns text n
    by None is h = absurd cc
    by (Some m) is h = ranged m is (nat_le 1 m) refl (nat_le m 4294967295) refl h

-- ---- a line
record IsLine (line : List ℕ) (l : Line) : Type 0 where
  text_is : l.hart < 2 ^ 64 → line ≡ line_of (l.hart, l.turns)
  some : 1 ≤ l.turns
  few : l.turns ≤ 4294967295

line_is : (line : List ℕ) (l : Line) → line_read line ≡ Some l → IsLine line l
unfolding line_read
line_is line l h = by (parted 32 line) refl h
  where
    numbers : (a b : List ℕ × List ℕ) → line ≡ a.0 ++ (32 ∷ a.1) → a.1 ≡ b.0 ++ (10 ∷ b.1) → b.1 ≡ [] → (n t : ℕ) → number_in a.0 ≡ Some n → turns_in b.0 ≡ Some t →
        record { hart = n; turns = t; width = length a.0 } ≡ l → IsLine line l
    numbers a b x y z n t number turns same =
        let is = turns_is b.0 t turns in
        let behind : a.1 ≡ decimal t ++ (10 ∷ []) = y ∙ ap (λ (r : List ℕ). b.0 ++ (10 ∷ r)) z ∙ ap (λ (r : List ℕ). r ++ (10 ∷ [])) is.text_is in
        subst (λ (q : Line). IsLine line q) same (record {
          text_is = λ small. x ∙ ap (λ (r : List ℕ). a.0 ++ (32 ∷ r)) behind ∙ ap (λ (r : List ℕ). r ++ (32 ∷ (decimal t ++ (10 ∷ [])))) (number_is a.0 n number small);
          some = is.some;
          few = is.few;
        })

    last : (a b : List ℕ × List ℕ) → line ≡ a.0 ++ (32 ∷ a.1) → a.1 ≡ b.0 ++ (10 ∷ b.1) → b.1 ≡ [] → (n : Option ℕ) → number_in a.0 ≡ n → (t : Option ℕ) → turns_in b.0 ≡ t →
        option_and_then (λ hart. option_and_then (λ turns. Some (record { hart = hart; turns = turns; width = length a.0 })) t) n ≡ Some l → IsLine line l
    last a b x y z None number t turns h = absurd cc
    last a b x y z (Some n) number None turns h = absurd cc
    last a b x y z (Some n) number (Some t) turns h = numbers a b x y z n t number turns (some_same (record { hart = n; turns = t; width = length a.0 }) l h)

    ends : (a b : List ℕ × List ℕ) → line ≡ a.0 ++ (32 ∷ a.1) → a.1 ≡ b.0 ++ (10 ∷ b.1) → (r : List ℕ) → b.1 ≡ r →
        option_and_then (λ (digits : List ℕ). option_and_then (λ hart. option_and_then (λ turns. Some (record { hart = hart; turns = turns; width = length a.0 })) (turns_in digits)) (number_in a.0)) (alone (b.0, r)) ≡ Some l →
        IsLine line l
    ends a b x y [] z h = last a b x y z (number_in a.0) refl (turns_in b.0) refl h
    ends a b x y (c ∷ r) z h = absurd cc

    second : (a : List ℕ × List ℕ) → line ≡ a.0 ++ (32 ∷ a.1) → (o : Option (List ℕ × List ℕ)) → parted 10 a.1 ≡ o →
        option_and_then (λ (b : List ℕ × List ℕ). option_and_then (λ (digits : List ℕ). option_and_then (λ hart. option_and_then (λ turns. Some (record { hart = hart; turns = turns; width = length a.0 })) (turns_in digits)) (number_in a.0)) (alone b)) o ≡ Some l →
        IsLine line l
    second a x None found h = absurd cc
    second a x (Some b) found h = ends a b x (parted_is 10 a.1 b found) b.1 refl h

    by : (o : Option (List ℕ × List ℕ)) → parted 32 line ≡ o →
        option_and_then (λ (a : List ℕ × List ℕ). option_and_then (λ (b : List ℕ × List ℕ). option_and_then (λ (digits : List ℕ). option_and_then (λ hart. option_and_then (λ turns. Some (record { hart = hart; turns = turns; width = length a.0 })) (turns_in digits)) (number_in a.0)) (alone b)) (parted 10 a.1)) o ≡ Some l →
        IsLine line l
    by None found h = absurd cc
    by (Some a) found h = second a (parted_is 32 line a found) (parted 10 a.1) refl h

-- ---- all lines
record IsBack (harts turns : ℕ) (lines : List (List ℕ)) (es : List Entry) : Type 0 where
  lines_are : lines ≡ map line_of (map slice_of es)
  each : AllByRecursion (IsSlice harts) (map slice_of es)
  few : turns + turns_among (map slice_of es) ≤ most_turns

one_back : (harts turns place : ℕ) (line : List ℕ) (lines : List (List ℕ)) (l : Line) (es : List Entry) → harts ≤ 2 ^ 32 → line_read line ≡ Some l →
    (turns + l.turns ≤ most_turns → fault_from harts (turns + l.turns) es ≡ None → IsBack harts (turns + l.turns) lines es) →
    fault_from harts turns (record { line = l; place = place } ∷ es) ≡ None → IsBack harts turns (line ∷ lines) (record { line = l; place = place } ∷ es)
unfolding fault_from
one_back harts turns place line lines l es small read later none = by (nat_le harts l.hart) refl (nat_lt most_turns (turns + l.turns)) refl none
  where
    by : (a : Bool) → nat_le harts l.hart ≡ a → (b : Bool) → nat_lt most_turns (turns + l.turns) ≡ b →
        cond a (Some (record { number = 81; place = place })) (cond b (Some (record { number = 82; place = place + (l.width + 1) })) (fault_from harts (turns + l.turns) es)) ≡ None →
        IsBack harts turns (line ∷ lines) (record { line = l; place = place } ∷ es)
    by true p b q h = absurd cc
    by false p true q h = absurd cc
    by false p false q h =
        let low : l.hart < harts = grind (arith, nat_tests, p) in
        let fits : turns + l.turns ≤ most_turns = grind (arith, nat_tests, q) in
        let is = line_is line l read in
        let more = later fits h in
        let sum = sum_by-cons (λ (s : Slice). s.1) (l.hart, l.turns) (map slice_of es) in
        let bound = more.few in record {
          lines_are = ap (λ (x : List ℕ). x ∷ lines) (is.text_is (omega (arith, low, small))) ∙ ap (λ (xs : List (List ℕ)). line_of (l.hart, l.turns) ∷ xs) more.lines_are;
          each = (record { hart = low; some = is.some; few = is.few }, more.each);
          few = omega (arith, bound, sum);
        }

all_back : (harts turns place : ℕ) (lines : List (List ℕ)) (es : List Entry) → harts ≤ 2 ^ 32 → turns ≤ most_turns → entries_from place lines ≡ Ok es → fault_from harts turns es ≡ None → IsBack harts turns lines es
unfolding entries_from fault_from
all_back harts turns place [] es small fits read none =
    subst (λ (xs : List Entry). IsBack harts turns [] xs) (ok_same {B = Refusal} [] es read) (record { lines_are = refl; each = tt; few = omega (arith, fits) })
all_back harts turns place (line ∷ lines) es small fits read none =
    by (line_read line) refl (entries_from (place + length line) lines) refl read (λ es' turns' fits' read' none'. all_back harts turns' (place + length line) lines es' small fits' read' none')
  where
    by : (o : Option Line) → line_read line ≡ o → (r : Result (List Entry) Refusal) → entries_from (place + length line) lines ≡ r → and_entries place o r ≡ Ok es →
        ((es' : List Entry) (turns' : ℕ) → turns' ≤ most_turns → entries_from (place + length line) lines ≡ Ok es' → fault_from harts turns' es' ≡ None → IsBack harts turns' lines es') →
        IsBack harts turns (line ∷ lines) es
    by None is r more read later = absurd cc
    by (Some l) is (Err refusal) more read later = absurd cc
    by (Some l) is (Ok es') more read later =
        let same = ok_same {B = Refusal} (record { line = l; place = place } ∷ es') es read in
        subst (λ (xs : List Entry). IsBack harts turns (line ∷ lines) xs) same
        (one_back harts turns place line lines l es' small is (λ fits' none'. later es' (turns + l.turns) fits' more none') (subst (λ (xs : List Entry). fault_from harts turns xs ≡ None) (sym same) none))

flat : (ss : List Slice) → flat_map (λ (l : List ℕ). l) (map line_of ss) ≡ text_of ss
flat [] = refl
flat (s ∷ ss) = ap (λ (xs : List ℕ). line_of s ++ xs) (flat ss)

pub reads_nothing_else : ReadsNothingElse
unfolding schedule
reads_nothing_else harts bytes slices small h = by (entries_from 0 (lines_of bytes)) refl h
  where
    tested_is : (es : List Entry) → entries_from 0 (lines_of bytes) ≡ Ok es → (o : Option Refusal) → fault_from harts 0 es ≡ o → unless_fault es o ≡ Ok slices → (bytes ≡ text_of slices) × IsSchedule harts slices
    tested_is es read (Some refusal) fault h = absurd cc
    tested_is es read None fault h =
        let b = all_back harts 0 0 (lines_of bytes) es small (omega arith) read fault in
        let sum = b.few in
        let same = ok_same {B = Refusal} (map slice_of es) slices h in
        subst (λ (ss : List Slice). (bytes ≡ text_of ss) × IsSchedule harts ss) same
        (sym (joined bytes) ∙ ap (flat_map (λ (l : List ℕ). l)) b.lines_are ∙ flat (map slice_of es), record { each = b.each; few = omega (arith, sum) })

    by : (r : Result (List Entry) Refusal) → entries_from 0 (lines_of bytes) ≡ r → tested harts r ≡ Ok slices → (bytes ≡ text_of slices) × IsSchedule harts slices
    by (Err refusal) read h = absurd cc
    by (Ok es) read h = tested_is es read (fault_from harts 0 es) refl h
