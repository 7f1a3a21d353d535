-- An access to bytes that may lie in several parts, from accesses to fewer.
use Rattle.std.proofs.Common.{ℕ, ◌≡◌, ◌+◌, ◌^◌, Bool, true, false, ◌&&◌, List, [], ◌∷◌, Option, Some, None, option_map, refl, ap, sym, arith, ◌∙◌, ◌-◌}
use Rattle.std.specs.Prelude.{option_and_then, slice_index, if◌then◌else◌}
use Rattle.rv64_isa.specs.State.{Part, Byte, part_with, byte_of, byte_at, bytes_at, value_of}
use Rattle.rv64_isa.specs.Step.{code_of}
use Rattle.rv64_machine.specs.declared.memory.Access.{Access}
use Rattle.rv64_machine.specs.Bytes.{number_at}
use Rattle.rv64_machine.specs.Parts.{access_of, access_in, accessed, byte_accessed, join}

pub same_access : (v w : ℕ) (p q r s : Bool) → v ≡ w → p ≡ q → r ≡ s → (let x : Access = record { value = v; write = p; exec = r } in x) ≡ record { value = w; write = q; exec = s }
same_access v w p q r s e f g = cc

and_one : (b : Bool) → (b && true) ≡ b
and_one true = refl
and_one false = refl

pub accessed_1 : (memory : List Part) (a : ℕ) → accessed memory a 1 ≡ byte_accessed memory a
unfolding bytes_at value_of number_at
accessed_1 memory a = step (part_with memory a)
  where
    step : (o : Option Part) →
        option_map access_of (option_and_then (λ b. option_map (λ bytes. b ∷ bytes) (Some [])) (option_map (λ part. byte_of part a) o)) ≡ option_map (λ part. access_in part a 1) o
    step None = refl
    step (Some part) = ap Some (same_access _ _ _ _ _ _ refl (and_one part.write) (and_one part.exec))

-- a byte in front
abbrev in_front : Option Byte → Option (List Byte) → Option (List Byte)
in_front o p = option_and_then (λ b. option_map (λ bytes. b ∷ bytes) p) o

and_one_of : (x y : Bool) → (x && y) ≡ ((x && true) && y)
and_one_of true y = refl
and_one_of false y = refl

and_two_of : (w x y : Bool) → (w && (x && y)) ≡ ((w && (x && true)) && y)
and_two_of true x y = and_one_of x y
and_two_of false x y = refl

and_four_of : (u v w x y : Bool) → (u && (v && (w && (x && y)))) ≡ ((u && (v && (w && (x && true)))) && y)
and_four_of true true w x y = and_two_of w x y
and_four_of true false w x y = refl
and_four_of false v w x y = refl

one_of : (o : Option Byte) (p : Option (List Byte)) → option_map access_of (in_front o p) ≡ join (2 ^ 8) (option_map access_of (in_front o (Some []))) (option_map access_of p)
unfolding value_of
one_of None p = refl
one_of (Some b) None = refl
one_of (Some b) (Some ys) = ap Some (same_access _ _ _ _ _ _ (omega arith) (and_one_of b.write _) (and_one_of b.exec _))

two_of : (o o' : Option Byte) (p : Option (List Byte)) →
    option_map access_of (in_front o (in_front o' p)) ≡ join (2 ^ 16) (option_map access_of (in_front o (in_front o' (Some [])))) (option_map access_of p)
unfolding value_of
two_of None o' p = refl
two_of (Some b) None p = refl
two_of (Some b) (Some b') None = refl
two_of (Some b) (Some b') (Some ys) = ap Some (same_access _ _ _ _ _ _ (omega arith) (and_two_of b.write b'.write _) (and_two_of b.exec b'.exec _))

four_of : (o p q r : Option Byte) (rest : Option (List Byte)) →
    option_map access_of (in_front o (in_front p (in_front q (in_front r rest)))) ≡
    join (2 ^ 32) (option_map access_of (in_front o (in_front p (in_front q (in_front r (Some [])))))) (option_map access_of rest)
unfolding value_of
four_of None p q r rest = refl
four_of (Some b) None q r rest = refl
four_of (Some b) (Some c) None r rest = refl
four_of (Some b) (Some c) (Some d) None rest = refl
four_of (Some b) (Some c) (Some d) (Some e) None = refl
four_of (Some b) (Some c) (Some d) (Some e) (Some ys) =
    ap Some (same_access _ _ _ _ _ _ (omega arith) (and_four_of b.write c.write d.write e.write _) (and_four_of b.exec c.exec d.exec e.exec _))

pub accessed_2 : (memory : List Part) (a : ℕ) → accessed memory a 2 ≡ join (2 ^ 8) (byte_accessed memory a) (byte_accessed memory (a + 1))
unfolding bytes_at
accessed_2 memory a =
    one_of (byte_at memory a) (bytes_at memory (a + 1) 1) ∙
    ap (λ o. join (2 ^ 8) o (accessed memory (a + 1) 1)) (accessed_1 memory a) ∙ ap (λ o. join (2 ^ 8) (byte_accessed memory a) o) (accessed_1 memory (a + 1))

pub accessed_4 : (memory : List Part) (a : ℕ) → accessed memory a 4 ≡ join (2 ^ 16) (accessed memory a 2) (accessed memory (a + 2) 2)
unfolding bytes_at
accessed_4 memory a =
    let place : a + 1 + 1 ≡ a + 2 = omega arith in
    two_of (byte_at memory a) (byte_at memory (a + 1)) (bytes_at memory (a + 1 + 1) 2) ∙ ap (λ b. join (2 ^ 16) (accessed memory a 2) (accessed memory b 2)) place

pub accessed_8 : (memory : List Part) (a : ℕ) → accessed memory a 8 ≡ join (2 ^ 32) (accessed memory a 4) (accessed memory (a + 4) 4)
unfolding bytes_at
accessed_8 memory a =
    let place : a + 1 + 1 + 1 + 1 ≡ a + 4 = omega arith in
    four_of (byte_at memory a) (byte_at memory (a + 1)) (byte_at memory (a + 1 + 1)) (byte_at memory (a + 1 + 1 + 1)) (bytes_at memory (a + 1 + 1 + 1 + 1) 4) ∙
    ap (λ b. join (2 ^ 32) (accessed memory a 4) (accessed memory b 4)) place

-- the word of an access, where it can be executed
pub code_accessed : (o : Option (List Byte)) → code_of o ≡ option_and_then (λ access. if access.exec then Some access.value else None) (option_map access_of o)
code_accessed None = refl
code_accessed (Some bytes) = refl

-- ---- for the code

same_join : (place : ℕ) (r l h l' h' : Option Access) → r ≡ join place l h → l ≡ l' → h ≡ h' → r ≡ join place l' h'
same_join place r l h l' h' e f g = e ∙ ap (λ o. join place o h) f ∙ ap (λ o. join place l' o) g

pub joined_2 : (memory : List Part) (a : ℕ) (r l h : Option Access) → r ≡ join (2 ^ 8) l h → l ≡ byte_accessed memory a → h ≡ byte_accessed memory (a + 1) → r ≡ accessed memory a 2
joined_2 memory a r l h e f g = same_join (2 ^ 8) r l h _ _ e f g ∙ sym (accessed_2 memory a)

pub joined_4 : (memory : List Part) (a : ℕ) (r l h : Option Access) → r ≡ join (2 ^ 16) l h → l ≡ accessed memory a 2 → h ≡ accessed memory (a + 2) 2 → r ≡ accessed memory a 4
joined_4 memory a r l h e f g = same_join (2 ^ 16) r l h _ _ e f g ∙ sym (accessed_4 memory a)

pub joined_8 : (memory : List Part) (a : ℕ) (r l h : Option Access) → r ≡ join (2 ^ 32) l h → l ≡ accessed memory a 4 → h ≡ accessed memory (a + 4) 4 → r ≡ accessed memory a 8
joined_8 memory a r l h e f g = same_join (2 ^ 32) r l h _ _ e f g ∙ sym (accessed_8 memory a)

pub byte_is : (memory : List Part) (a : ℕ) (part : Part) (v : ℕ) → Some part ≡ part_with memory a → v ≡ slice_index part.bytes (a - part.address) →
    Some (record { value = v; write = part.write; exec = part.exec }) ≡ byte_accessed memory a
unfolding number_at
byte_is memory a part v e f =
    let whole : v ≡ number_at part.bytes (a - part.address) 1 = omega arith in
    ap Some (same_access _ _ _ _ _ _ whole refl refl) ∙ ap (option_map (λ p. access_in p a 1)) e

pub gathered_1 : (memory : List Part) (a : ℕ) (r : Option Access) (n : ℕ) → r ≡ byte_accessed memory a → n ≡ 1 → r ≡ accessed memory a n
gathered_1 memory a r n e f = e ∙ sym (accessed_1 memory a) ∙ ap (accessed memory a) (sym f)
