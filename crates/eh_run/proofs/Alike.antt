-- Memories that are alike but for what may be written.
use Rattle.std.proofs.Common.{◌≡◌, ◌∙◌, refl, sym, ap, ℕ, ◌-◌, ◌&&◌, ◌||◌, Bool, true, false, cond, nat_le, nat_lt, [], ◌∷◌, length, take, drop, length-drop, Option, Some, None}
use Rattle.std.specs.Prelude.{is_some, not}
use Rattle.std.specs.Bool.{⊤}
use Rattle.std.specs.Int.{w64, from_le_bytes}
use Rattle.eh_bytes.specs.Memory.{Part, Memory, covers, part_with, is_code, word_in, word_at}
use Rattle.table_forms.specs.Fault.{least}
use Rattle.table_forms.specs.declared.reason.Reason.TheVariants.{TableWritable}
use Rattle.table_forms.proofs.Least.{holds}
use Rattle.elf_image.specs.Runnable.{written_in, written_at}

-- a segment at the same place with the same rights; where it may not be written, the same
pub record Alike (p q : Part) : Type 0 where
  pub address : p.address ≡ q.address
  pub size : length p.bytes ≡ length q.bytes
  pub exec : p.exec ≡ q.exec
  pub fixed : q.write ≡ false → p ≡ q

abbrev pub AreAlike : Memory → Memory → Type 0
AreAlike [] [] = ⊤
AreAlike (p ∷ ps) (q ∷ qs) = Alike p q × AreAlike ps qs
AreAlike _ _ = ⊥

covers_alike : (p q : Part) (a : ℕ) → Alike p q → covers p a ≡ covers q a
covers_alike p q a h =
    ap (λ x. nat_le x a && nat_lt (a - x) (length p.bytes)) h.address ∙ ap (λ n. nat_le q.address a && nat_lt (a - q.address) n) h.size

abbrev BothAlike : Option Part → Option Part → Type 0
BothAlike None None = ⊤
BothAlike (Some p) (Some q) = Alike p q
BothAlike _ _ = ⊥

found_alike : (ms ns : Memory) (a : ℕ) → AreAlike ms ns → BothAlike (part_with ms a) (part_with ns a)
found_alike [] [] a h = tt
found_alike [] (q ∷ qs) a h = absurd h
found_alike (p ∷ ps) [] a h = absurd h
found_alike (p ∷ ps) (q ∷ qs) a h = by (found_alike ps qs a h.1) (covers p a) (covers q a) (covers_alike p q a h.0)
  where
    by : BothAlike (part_with ps a) (part_with qs a) → (x y : Bool) → x ≡ y → BothAlike (cond x (Some p) (part_with ps a)) (cond y (Some q) (part_with qs a))
    by more true true e = h.0
    by more false false e = more
    by more true false e = absurd cc
    by more false true e = absurd cc

-- a segment, if any, that may not be written
abbrev pub IsFixed : Option Part → Type 0
IsFixed None = ⊤
IsFixed (Some p) = p.write ≡ false

pub same_found : (ms ns : Memory) (a : ℕ) → AreAlike ms ns → IsFixed (part_with ns a) → part_with ms a ≡ part_with ns a
same_found ms ns a h fixed = by (part_with ms a) (part_with ns a) (found_alike ms ns a h) fixed
  where
    by : (x y : Option Part) → BothAlike x y → IsFixed y → x ≡ y
    by None None h fixed = refl
    by (Some p) (Some q) h fixed = ap Some (h.fixed fixed)
    by None (Some q) h fixed = absurd h
    by (Some p) None h fixed = absurd h

pub code_alike : (ms ns : Memory) (a : ℕ) → AreAlike ms ns → is_code ms a ≡ is_code ns a
code_alike [] [] a h = refl
code_alike [] (q ∷ qs) a h = absurd h
code_alike (p ∷ ps) [] a h = absurd h
code_alike (p ∷ ps) (q ∷ qs) a h =
    ap (λ b. (b && covers p a) || is_code ps a) h.0.exec ∙ ap (λ b. (q.exec && b) || is_code ps a) (covers_alike p q a h.0) ∙
    ap (λ b. (q.exec && covers q a) || b) (code_alike ps qs a h.1)

-- whether a word stands at an address, whatever it is
pub word_alike : (ms ns : Memory) (a : ℕ) → AreAlike ms ns → is_some (word_at ms a) ≡ is_some (word_at ns a)
word_alike ms ns a h = by (part_with ms a) (part_with ns a) (found_alike ms ns a h)
  where
    stored : (b : Bool) (n : ℕ) → is_some (cond b None (Some n)) ≡ not b
    stored true n = refl
    stored false n = refl

    left : (p q : Part) → Alike p q → length (drop (a - p.address) p.bytes) ≡ length (drop (a - q.address) q.bytes)
    left p q h =
        length-drop (a - p.address) p.bytes ∙ ap (λ n. n - (a - p.address)) h.size ∙ ap (λ x. length q.bytes - (a - x)) h.address ∙
        sym (length-drop (a - q.address) q.bytes)

    one : (p q : Part) → Alike p q → is_some (word_in p (a - p.address)) ≡ is_some (word_in q (a - q.address))
    one p q h =
        stored (nat_lt (length (drop (a - p.address) p.bytes)) 8) (from_le_bytes w64 (take 8 (drop (a - p.address) p.bytes))) ∙
        ap (λ n. not (nat_lt n 8)) (left p q h) ∙
        sym (stored (nat_lt (length (drop (a - q.address) q.bytes)) 8) (from_le_bytes w64 (take 8 (drop (a - q.address) q.bytes))))

    of_part : Option Part → Option ℕ
    of_part None = None
    of_part (Some p) = word_in p (a - p.address)

    by : (x y : Option Part) → BothAlike x y → is_some (of_part x) ≡ is_some (of_part y)
    by None None h = refl
    by (Some p) (Some q) h = one p q h
    by None (Some q) h = absurd h
    by (Some p) None h = absurd h

-- nothing is refused of where the address lies
pub unwritten : (memory : Memory) (a : ℕ) → least (written_at memory a) ≡ None → IsFixed (part_with memory a)
unwritten memory a e = by (part_with memory a) e
  where
    open_not : (b : Bool) → not b ≡ true → b ≡ false
    open_not true e = absurd cc
    open_not false e = refl

    by : (o : Option Part) → least (written_in o a) ≡ None → IsFixed o
    by None e = tt
    by (Some part) e = open_not part.write (holds (not part.write) TableWritable _ e)
