-- The reading of a schedule, line by line.
use Rattle.std.proofs.Common.{◌≡◌, ◌∙◌, refl, sym, ap, subst, ℕ, ◌+◌, ◌-◌, ◌<◌, ◌≤◌, ◌^◌, nat_le, nat_lt, true, false, List, [], ◌∷◌, ◌++◌, length, take, drop, map, length-drop, length-take, append_assoc, append-nil, Option, Some, None, Result, Ok, Err, arith}
use Rattle.std.specs.Prelude.{IfOk}
use Rattle.std.specs.Global.{Vec}
use Rattle.std.proofs.lemmas.Bool.Decides.{nat_tests}
use Rattle.std.proofs.lemmas.List.{map-append}
use Rattle.plain_text.specs.Lines.{lines_of, IsFirstLine}
use Rattle.hart_sched.specs.Reads.{FormSoFar, Forms, Reads, ReadsLine, capped}
use Rattle.hart_sched.specs.declared.line.Numbers.{Numbers}
use Rattle.hart_sched.specs.declared.schedule.ScheduleError.{ScheduleError}
use Rattle.hart_sched.proofs.Back.{reads_nothing_else}
use Rattle.hart_sched.specs.Schedule.{IsSchedule, Slice, Line, line_read, Entry, slice_of, Refusal, and_entries, entries_from, fault_from, most_turns, unless_fault, tested, schedule}

some_same : {A : Type 0} (x y : A) → Some x ≡ Some y → x ≡ y
some_same x y e = cc

ok_same : {A B : Type 0} (x y : A) → (◌≡◌ {A = Result A B} (Ok x) (Ok y)) → x ≡ y
ok_same x y e = cc

taken : (rest : List ℕ) (n : ℕ) → n ≤ length rest → length (take n rest) ≡ n
taken rest n inside = let is = length-take n rest in omega (arith, is, inside)

-- the entries from the first line on
entries_are : (place n : ℕ) (rest : List ℕ) → IsFirstLine rest n → entries_from place (lines_of rest) ≡ and_entries place (line_read (take n rest)) (entries_from (place + n) (lines_of (drop n rest)))
unfolding entries_from
entries_are place n rest parts =
    ap (entries_from place) parts.lines ∙ ap (λ m. and_entries place (line_read (take n rest)) (entries_from (place + m) (lines_of (drop n rest)))) (taken rest n parts.inside)

-- ---- whether all lines are of the form
pub form_first : (text : List ℕ) → FormSoFar text text
form_first text = record { place = 0; at = omega arith; fails = λ refusal is. is; reads = λ entries is. (entries, is) }

left : (place n whole : ℕ) (rest : List ℕ) → place + length rest ≡ whole → n ≤ length rest → place + n + length (drop n rest) ≡ whole
left place n whole rest at inside = let is = length-drop n rest in omega (arith, at, inside, is)

pub form_next : (text rest : List ℕ) (n : ℕ) (line : Line) → FormSoFar text rest → IsFirstLine rest n → line_read (take n rest) ≡ Some line → FormSoFar text (drop n rest)
form_next text rest n line h parts read =
    let is : entries_from h.place (lines_of rest) ≡ and_entries h.place (Some line) (entries_from (h.place + n) (lines_of (drop n rest))) =
    entries_are h.place n rest parts ∙ ap (λ o. and_entries h.place o (entries_from (h.place + n) (lines_of (drop n rest)))) read in record {
      place = h.place + n;
      at = left h.place n (length text) rest h.at parts.inside;
      fails = λ refusal failed. h.fails refusal (is ∙ ap (and_entries h.place (Some line)) failed);
      reads = λ entries ok. h.reads (record { line = line; place = h.place } ∷ entries) (is ∙ ap (and_entries h.place (Some line)) ok);
    }

pub form_fails : (text rest : List ℕ) (n : ℕ) → FormSoFar text rest → IsFirstLine rest n → line_read (take n rest) ≡ None → Forms text (Some (length text - length rest))
form_fails text rest n h parts none =
    let at = h.at in
    let place : h.place ≡ length text - length rest = omega (arith, at) in
    let is : entries_from h.place (lines_of rest) ≡ Err (record { number = 80; place = h.place }) =
    entries_are h.place n rest parts ∙ ap (λ o. and_entries h.place o (entries_from (h.place + n) (lines_of (drop n rest)))) none in
    subst (λ p. Forms text (Some p)) place (h.fails (record { number = 80; place = h.place }) is)

pub form_all : (text rest : List ℕ) → FormSoFar text rest → rest ≡ [] → Forms text None
unfolding entries_from lines_of
form_all text rest h none = h.reads [] (ap (λ r. entries_from h.place (lines_of r)) none)

-- ---- the slices
-- up to the rest there is no fault, and these are the slices
pub record SlicesSoFar (harts : ℕ) (text rest : List ℕ) (slices : List Slice) (turns : ℕ) : Type 0 where
  pub done : List Entry
  pub more : List Entry
  pub at : length rest ≤ length text
  pub reads : entries_from (length text - length rest) (lines_of rest) ≡ Ok more
  pub whole : entries_from 0 (lines_of text) ≡ Ok (done ++ more)
  pub faults : fault_from harts 0 (done ++ more) ≡ fault_from harts turns more
  pub slices_are : slices ≡ map slice_of done
  pub few : turns ≤ most_turns

pub slices_first : (harts : ℕ) (text : List ℕ) → Forms text None → SlicesSoFar harts text text [] 0
slices_first harts text (entries, is) =
    let place : 0 ≡ length text - length text = omega arith in record {
      done = [];
      more = entries;
      at = omega arith;
      reads = subst (λ p. entries_from p (lines_of text) ≡ Ok entries) place is;
      whole = is;
      faults = refl;
      slices_are = refl;
      few = omega arith;
    }

-- the first of the entries that are left is that of the first line
record IsNext (place n : ℕ) (rest : List ℕ) (more : List Entry) : Type 0 where
  line : Line
  others : List Entry
  read : line_read (take n rest) ≡ Some line
  more_are : more ≡ record { line = line; place = place } ∷ others
  reads : entries_from (place + n) (lines_of (drop n rest)) ≡ Ok others

next_is : (place n : ℕ) (rest : List ℕ) (more : List Entry) → IsFirstLine rest n → entries_from place (lines_of rest) ≡ Ok more → IsNext place n rest more
next_is place n rest more parts is = by (line_read (take n rest)) refl (entries_from (place + n) (lines_of (drop n rest))) refl (sym (entries_are place n rest parts) ∙ is)
  where
    by : (o : Option Line) → line_read (take n rest) ≡ o → (r : Result (List Entry) Refusal) → entries_from (place + n) (lines_of (drop n rest)) ≡ r → and_entries place o r ≡ Ok more → IsNext place n rest more
    by None p r q h = absurd cc
    by (Some line) p (Err refusal) q h = absurd cc
    by (Some line) p (Ok others) q h = record { line = line; others = others; read = p; more_are = sym (ok_same {B = Refusal} (record { line = line; place = place } ∷ others) more h); reads = q }

pub is_line : (harts : ℕ) (text rest : List ℕ) (slices : List Slice) (turns n : ℕ) → SlicesSoFar harts text rest slices turns → IsFirstLine rest n → line_read (take n rest) ≡ None → ⊥
is_line harts text rest slices turns n h parts none = let next = next_is (length text - length rest) n rest h.more parts h.reads in no next.line (sym none ∙ next.read)
  where
    no : (line : Line) → None ≡ Some line → ⊥
    no line e = cc

-- what the numbers of the first line are
pub record IsEntry (harts : ℕ) (text rest : List ℕ) (slices : List Slice) (turns n : ℕ) (line : Line) : Type 0 where
  pub done : List Entry
  pub others : List Entry
  pub at : length rest ≤ length text
  pub inside : n ≤ length rest
  pub reads : entries_from (length text - length rest + n) (lines_of (drop n rest)) ≡ Ok others
  pub whole : entries_from 0 (lines_of text) ≡ Ok (done ++ record { line = line; place = length text - length rest } ∷ others)
  pub faults : fault_from harts 0 (done ++ record { line = line; place = length text - length rest } ∷ others) ≡ fault_from harts turns (record { line = line; place = length text - length rest } ∷ others)
  pub slices_are : slices ≡ map slice_of done

pub entry_is : (harts : ℕ) (text rest : List ℕ) (slices : List Slice) (turns n : ℕ) (line : Line) → SlicesSoFar harts text rest slices turns → IsFirstLine rest n → line_read (take n rest) ≡ Some line →
    IsEntry harts text rest slices turns n line
entry_is harts text rest slices turns n line h parts read =
    let place = length text - length rest in
    let next = next_is place n rest h.more parts h.reads in
    let same : next.line ≡ line = some_same next.line line (sym next.read ∙ read) in
    let more : h.more ≡ record { line = line; place = place } ∷ next.others = next.more_are ∙ ap (λ l. record { line = l; place = place } ∷ next.others) same in record {
      done = h.done;
      others = next.others;
      at = h.at;
      inside = parts.inside;
      reads = next.reads;
      whole = h.whole ∙ ap (λ (es : List Entry). Ok (h.done ++ es)) more;
      faults = subst (λ (es : List Entry). fault_from harts 0 (h.done ++ es) ≡ fault_from harts turns es) more h.faults;
      slices_are = h.slices_are;
    }

refused_as : (harts : ℕ) (text : List ℕ) (entries : List Entry) (refusal : Refusal) → entries_from 0 (lines_of text) ≡ Ok entries → fault_from harts 0 entries ≡ Some refusal → schedule harts text ≡ Err refusal
unfolding schedule
refused_as harts text entries refusal whole fault = ap (tested harts) whole ∙ ap (unless_fault entries) fault

-- 81
pub out_of_range : (harts : ℕ) (text rest : List ℕ) (slices : List Slice) (turns n : ℕ) (line : Line) → IsEntry harts text rest slices turns n line → harts ≤ line.hart →
    schedule harts text ≡ Err (record { number = 81; place = length text - length rest })
unfolding fault_from
out_of_range harts text rest slices turns n line e high =
    let place = length text - length rest in
    let entry : Entry = record { line = line; place = place } in
    let past : nat_le harts line.hart ≡ true = grind (arith, nat_tests, high) in
    refused_as harts text (e.done ++ entry ∷ e.others) (record { number = 81; place = place }) e.whole (e.faults ∙ rw past refl)

-- 82
pub too_many : (harts : ℕ) (text rest : List ℕ) (slices : List Slice) (turns n : ℕ) (line : Line) → IsEntry harts text rest slices turns n line → line.hart < harts → 2 ^ 40 < turns + line.turns →
    schedule harts text ≡ Err (record { number = 82; place = length text - length rest + (line.width + 1) })
unfolding fault_from
too_many harts text rest slices turns n line e low many =
    let place = length text - length rest in
    let entry : Entry = record { line = line; place = place } in
    let fits : nat_le harts line.hart ≡ false = grind (arith, nat_tests, low) in
    let past : nat_lt (2 ^ 40) (turns + line.turns) ≡ true = grind (arith, nat_tests, many) in
    refused_as harts text (e.done ++ entry ∷ e.others) (record { number = 82; place = place + (line.width + 1) }) e.whole (e.faults ∙ rw (fits, past) refl)

-- the line is read
pub slices_next : (harts : ℕ) (text rest : List ℕ) (slices : List Slice) (turns n : ℕ) (line : Line) → IsEntry harts text rest slices turns n line → line.hart < harts → turns + line.turns ≤ 2 ^ 40 →
    SlicesSoFar harts text (drop n rest) (slices ++ (line.hart, line.turns) ∷ []) (turns + line.turns)
unfolding fault_from
slices_next harts text rest slices turns n line e low few =
    let place = length text - length rest in
    let entry : Entry = record { line = line; place = place } in
    let fits : nat_le harts line.hart ≡ false = grind (arith, nat_tests, low) in
    let past : nat_lt (2 ^ 40) (turns + line.turns) ≡ false = grind (arith, nat_tests, few) in
    let at = e.at in
    let inside = e.inside in
    let size = length-drop n rest in
    let next : place + n ≡ length text - length (drop n rest) = omega (arith, at, inside, size) in
    let grouped : e.done ++ entry ∷ e.others ≡ (e.done ++ entry ∷ []) ++ e.others = sym (append_assoc e.done (entry ∷ []) e.others) in record {
      done = e.done ++ entry ∷ [];
      more = e.others;
      at = omega (arith, at, inside, size);
      reads = subst (λ p. entries_from p (lines_of (drop n rest)) ≡ Ok e.others) next e.reads;
      whole = e.whole ∙ ap Ok grouped;
      faults = sym (ap (fault_from harts 0) grouped) ∙ e.faults ∙ rw (fits, past) refl;
      slices_are = ap (λ (ss : List Slice). ss ++ (line.hart, line.turns) ∷ []) e.slices_are ∙ sym (map-append slice_of e.done (entry ∷ []));
      few = few;
    }

pub slices_all : (harts : ℕ) (text rest : List ℕ) (slices : List Slice) (turns : ℕ) → SlicesSoFar harts text rest slices turns → rest ≡ [] → schedule harts text ≡ Ok slices
unfolding schedule entries_from lines_of fault_from
slices_all harts text rest slices turns h none =
    let more : h.more ≡ [] = ok_same {B = Refusal} h.more [] (sym h.reads ∙ ap (λ r. entries_from (length text - length rest) (lines_of r)) none) in
    let all : h.done ++ h.more ≡ h.done = ap (λ (es : List Entry). h.done ++ es) more ∙ append-nil h.done in
    let whole : entries_from 0 (lines_of text) ≡ Ok h.done = h.whole ∙ ap Ok all in
    let fault : fault_from harts 0 h.done ≡ None = ap (fault_from harts 0) (sym all) ∙ h.faults ∙ ap (fault_from harts turns) more in
    ap (tested harts) whole ∙ ap (unless_fault h.done) fault ∙ ap Ok (sym h.slices_are)

-- ---- where the rest is not read yet
-- where the lines of the rest are of the form, there is no fault up to it, and these are the slices
pub record SlicesIf (harts : ℕ) (text rest : List ℕ) (slices : List Slice) (turns : ℕ) : Type 0 where
  pub form : FormSoFar text rest
  pub then : (more : List Entry) → entries_from (length text - length rest) (lines_of rest) ≡ Ok more → SlicesSoFar harts text rest slices turns
  pub few : turns ≤ most_turns

pub if_first : (harts : ℕ) (text : List ℕ) → SlicesIf harts text text [] 0
if_first harts text =
    let place : length text - length text ≡ 0 = omega arith in record {
      form = form_first text;
      then = λ more is. slices_first harts text (more, subst (λ p. entries_from p (lines_of text) ≡ Ok more) place is);
      few = omega arith;
    }

-- the place of the rest is what is gone
place_is : (text rest : List ℕ) (h : FormSoFar text rest) → h.place ≡ length text - length rest
place_is text rest h = let at = h.at in omega (arith, at)

-- if all the text is of the form, so is the rest
pub rest_reads : (text rest : List ℕ) → FormSoFar text rest → Forms text None → (more : List Entry) × (entries_from (length text - length rest) (lines_of rest) ≡ Ok more)
rest_reads text rest h (all, whole) = by (entries_from h.place (lines_of rest)) refl
  where
    by : (r : Result (List Entry) Refusal) → entries_from h.place (lines_of rest) ≡ r → (more : List Entry) × (entries_from (length text - length rest) (lines_of rest) ≡ Ok more)
    by (Ok more) is = (more, subst (λ p. entries_from p (lines_of rest) ≡ Ok more) (place_is text rest h) is)
    by (Err refusal) is = let failed = h.fails refusal is in absurd (cc)

-- ---- by the numbers as they are kept
abbrev line_of_kept : ℕ → Numbers → Line
line_of_kept hart l = record { hart = hart; turns = l.turns; width = l.width }

pub refuses_hart : (harts : ℕ) (text rest : List ℕ) (slices : List Slice) (turns n : ℕ) (l : Numbers) → SlicesSoFar harts text rest slices turns → IsFirstLine rest n → ReadsLine (take n rest) (Some l) →
    harts ≤ l.hart → schedule harts text ≡ Err (record { number = 81; place = length text - length rest })
refuses_hart harts text rest slices turns n l h parts (hart, read, kept) high =
    out_of_range harts text rest slices turns n (line_of_kept hart l) (entry_is harts text rest slices turns n (line_of_kept hart l) h parts read) (omega (arith, kept, high))

below : (harts hart kept : ℕ) → harts < 2 ^ 32 → kept ≡ capped hart → kept < harts → hart ≡ kept
below harts hart kept few is low = omega (arith, few, is, low)

pub refuses_turns : (harts : ℕ) (text rest : List ℕ) (slices : List Slice) (turns n : ℕ) (l : Numbers) → harts < 2 ^ 32 → SlicesSoFar harts text rest slices turns → IsFirstLine rest n →
    ReadsLine (take n rest) (Some l) → l.hart < harts → 2 ^ 40 < turns + l.turns → schedule harts text ≡ Err (record { number = 82; place = length text - length rest + l.width + 1 })
refuses_turns harts text rest slices turns n l few h parts (hart, read, kept) low many =
    let same = below harts hart l.hart few kept low in
    let place : length text - length rest + (l.width + 1) ≡ length text - length rest + l.width + 1 = omega arith in
    too_many harts text rest slices turns n (line_of_kept hart l) (entry_is harts text rest slices turns n (line_of_kept hart l) h parts read) (omega (arith, same, low)) many ∙
    ap (λ p. Err (record { number = 82; place = p })) place

pub reads_slice : (harts : ℕ) (text rest : List ℕ) (slices : List Slice) (turns n : ℕ) (l : Numbers) → harts < 2 ^ 32 → SlicesSoFar harts text rest slices turns → IsFirstLine rest n →
    ReadsLine (take n rest) (Some l) → l.hart < harts → turns + l.turns ≤ 2 ^ 40 → SlicesSoFar harts text (drop n rest) (slices ++ (l.hart, l.turns) ∷ []) (turns + l.turns)
reads_slice harts text rest slices turns n l few h parts (hart, read, kept) low fits =
    let same = below harts hart l.hart few kept low in
    subst (λ k. SlicesSoFar harts text (drop n rest) (slices ++ (k, l.turns) ∷ []) (turns + l.turns)) same
    (slices_next harts text rest slices turns n (line_of_kept hart l) (entry_is harts text rest slices turns n (line_of_kept hart l) h parts read) (omega (arith, same, low)) fits)

-- 80
pub form_refused : (harts : ℕ) (text : List ℕ) (place : ℕ) → Forms text (Some place) → schedule harts text ≡ Err (record { number = 80; place = place })
unfolding schedule
form_refused harts text place forms = ap (tested harts) forms

-- what is read is a schedule
pub keeps : (harts : ℕ) (text : List ℕ) (result : Result (Vec (ℕ × ℕ)) ScheduleError) → harts ≤ 2 ^ 32 → Reads harts text result → IfOk result (λ slices. IsSchedule harts slices.items)
keeps harts text (Ok slices) few is = (reads_nothing_else harts text slices.items few is).1
keeps harts text (Err e) few is = tt

-- ---- in one pass
pub if_so : (harts : ℕ) (text rest : List ℕ) (slices : List Slice) (turns : ℕ) → SlicesIf harts text rest slices turns → Forms text None → SlicesSoFar harts text rest slices turns
if_so harts text rest slices turns h forms = let more = rest_reads text rest h.form forms in h.then more.0 more.1

-- the first line is one
pub form_next_kept : (text rest : List ℕ) (n : ℕ) (l : Numbers) → FormSoFar text rest → IsFirstLine rest n → ReadsLine (take n rest) (Some l) → FormSoFar text (drop n rest)
form_next_kept text rest n l h parts (hart, read, kept) = form_next text rest n (line_of_kept hart l) h parts read

-- the line is read
pub if_next : (harts : ℕ) (text rest : List ℕ) (slices : List Slice) (turns n : ℕ) (l : Numbers) → harts < 2 ^ 32 → SlicesIf harts text rest slices turns → IsFirstLine rest n →
    ReadsLine (take n rest) (Some l) → l.hart < harts → turns + l.turns ≤ 2 ^ 40 → SlicesIf harts text (drop n rest) (slices ++ (l.hart, l.turns) ∷ []) (turns + l.turns)
if_next harts text rest slices turns n l few h parts reads low fits =
    let form = form_next_kept text rest n l h.form parts reads in record {
      form = form;
      then = λ more is.
          let all = form.reads more (subst (λ p. entries_from p (lines_of (drop n rest)) ≡ Ok more) (sym (place_is text (drop n rest) form)) is) in
          reads_slice harts text rest slices turns n l few (if_so harts text rest slices turns h all) parts reads low fits;
      few = fits;
    }

pub if_all : (harts : ℕ) (text rest : List ℕ) (slices : List Slice) (turns : ℕ) → SlicesIf harts text rest slices turns → rest ≡ [] → schedule harts text ≡ Ok slices
if_all harts text rest slices turns h none = slices_all harts text rest slices turns (if_so harts text rest slices turns h (form_all text rest h.form none)) none
