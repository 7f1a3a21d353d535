-- What the frame and the world of a new call have of what is passed.
use Rattle.std.proofs.Common.{◌≡◌, ◌∙◌, refl, sym, ap, arith, ℕ, suc, ◌+◌, ℤ, List, [], ◌∷◌, Some, inl, inr}
use Rattle.std.specs.Prelude.{◌⊎◌, ◌==◌, Bool, true, false, slice_get, if◌then◌else◌}
use Rattle.std.proofs.lemmas.Bool.Decides.{nat_tests}
use Rattle.region_forms.specs.Form.{SlotKind, int_slot, address_slot, object_slot, help_slot, Kinds}
use Rattle.region_forms.specs.World.{of_variable, Address, Word, nothing, number_word, address_word, flying, unwinding, Frame, World, same_address}
use Rattle.region_forms.specs.Effect.{passed_to, int_passed_to, frame_passed, world_passed}
use Rattle.machine_simulation.specs.Exceptions.{LinearExceptions, exceptions_in}
use Rattle.machine_simulation.proofs.Bases.{address_is}

call_kept : (k : SlotKind) (s : ℕ) (x : Word) (f : Frame) → (passed_to k s x f).call ≡ f.call
call_kept int_slot s x f = refl
call_kept address_slot s x f = refl
call_kept object_slot s x f = refl
call_kept help_slot s x f = refl

pub frame_call : (kinds : Kinds) (i : ℕ) (given : List Word) (f : Frame) → (frame_passed kinds i given f).call ≡ f.call
frame_call kinds i [] f = refl
frame_call kinds i (x ∷ given) f = frame_call kinds (i + 1) given (passed_to (kinds i) i x f) ∙ call_kept (kinds i) i x f

-- a slot holds a word that is passed for it, unless it is an int variable, or what it held
pub slot_given : (kinds : Kinds) (i : ℕ) (given : List Word) (f : Frame) (s : ℕ) (P : Word → Type 0) →
    ((j : ℕ) (word : Word) → slice_get given j ≡ Some word → s ≡ i + j → (kinds s ≡ int_slot → ⊥) → P word) → P (f.slots s) → P ((frame_passed kinds i given f).slots s)
slot_given kinds i [] f s P new old = old
slot_given kinds i (x ∷ given) f s P new old =
    slot_given kinds (i + 1) given (passed_to (kinds i) i x f) s P (λ j word e at other. new (suc j) word e (omega (arith, at)) other) (one (kinds i) refl)
  where
    set : (kinds i ≡ int_slot → ⊥) → (b : Bool) → (i == s) ≡ b → P (if b then x else f.slots s)
    set other true e =
        let same : i ≡ s = grind (arith, nat_tests, e) in
        new 0 x refl (omega (arith, same)) (λ int. other (ap kinds same ∙ int))
    set other false e = old

    one : (k : SlotKind) → kinds i ≡ k → P ((passed_to k i x f).slots s)
    one int_slot e = old
    one address_slot e = set (λ int. let both : address_slot ≡ int_slot = sym e ∙ int in cc both) (i == s) refl
    one object_slot e = set (λ int. let both : object_slot ≡ int_slot = sym e ∙ int in cc both) (i == s) refl
    one help_slot e = set (λ int. let both : help_slot ≡ int_slot = sym e ∙ int in cc both) (i == s) refl

-- an int in memory was there, or is one that is passed
abbrev pub IntGiven : Kinds → (c i : ℕ) → List Word → World → Address → ℤ → Type 0
IntGiven kinds c i given v a z = (v.memory a ≡ Some z) ⊎
    ((j : ℕ) × (slice_get given j ≡ Some (number_word z)) × (a ≡ record { base = of_variable c (i + j); offset = 0 }) × (kinds (i + j) ≡ int_slot))

pub int_given : (kinds : Kinds) (c i : ℕ) (given : List Word) (v : World) (a : Address) (z : ℤ) → (world_passed kinds c i given v).memory a ≡ Some z → IntGiven kinds c i given v a z
int_given kinds c i [] v a z e = inl e
int_given kinds c i (x ∷ given) v a z e = later (int_given kinds c (i + 1) given (int_passed_to (kinds i) c i x v) a z e)
  where
    here : (y : ℤ) → kinds i ≡ int_slot → (b : Bool) → same_address (record { base = of_variable c i; offset = 0 }) a ≡ b → (if b then Some y else v.memory a) ≡ Some z →
        number_word y ≡ x → IntGiven kinds c i (x ∷ given) v a z
    here y int true same got word =
        let value : y ≡ z = cc got in
        let count : i ≡ i + 0 = omega arith in
        inr (0, ap Some (sym word ∙ ap number_word value), sym (address_is (record { base = of_variable c i; offset = 0 }) a same) ∙ ap (λ k. record { base = of_variable c k; offset = 0 }) count, ap kinds (sym count) ∙ int)
    here y int false same got word = inl got

    one : (k : SlotKind) (y : Word) → kinds i ≡ k → y ≡ x → (int_passed_to k c i y v).memory a ≡ Some z → IntGiven kinds c i (x ∷ given) v a z
    one int_slot (number_word y) e word got = here y e (same_address (record { base = of_variable c i; offset = 0 }) a) refl got word
    one int_slot nothing e word got = inl got
    one int_slot (address_word b) e word got = inl got
    one int_slot (flying d t) e word got = inl got
    one int_slot (unwinding n) e word got = inl got
    one address_slot y e word got = inl got
    one object_slot y e word got = inl got
    one help_slot y e word got = inl got

    later : IntGiven kinds c (i + 1) given (int_passed_to (kinds i) c i x v) a z → IntGiven kinds c i (x ∷ given) v a z
    later (inl got) = one (kinds i) x refl refl got
    later (inr there) =
        let count : i + 1 + there.0 ≡ i + suc there.0 = omega arith in
        inr (suc there.0, there.1, there.2 ∙ ap (λ k. record { base = of_variable c k; offset = 0 }) count, ap kinds (sym count) ∙ there.3)

-- what passing leaves of a world
pub record SameBeside (v u : World) : Type 0 where
  pub calls : u.calls ≡ v.calls
  pub input : u.input ≡ v.input
  pub replies : u.replies ≡ v.replies
  pub kept : exceptions_in u ≡ exceptions_in v
  pub ending : u.ending ≡ v.ending
  pub items : u.items ≡ v.items

same_one : (k : SlotKind) (c s : ℕ) (x : Word) (v : World) → SameBeside v (int_passed_to k c s x v)
same_one int_slot c s (number_word y) v = record { calls = refl; input = refl; replies = refl; kept = refl; ending = refl; items = refl }
same_one int_slot c s nothing v = record { calls = refl; input = refl; replies = refl; kept = refl; ending = refl; items = refl }
same_one int_slot c s (address_word b) v = record { calls = refl; input = refl; replies = refl; kept = refl; ending = refl; items = refl }
same_one int_slot c s (flying d t) v = record { calls = refl; input = refl; replies = refl; kept = refl; ending = refl; items = refl }
same_one int_slot c s (unwinding n) v = record { calls = refl; input = refl; replies = refl; kept = refl; ending = refl; items = refl }
same_one address_slot c s x v = record { calls = refl; input = refl; replies = refl; kept = refl; ending = refl; items = refl }
same_one object_slot c s x v = record { calls = refl; input = refl; replies = refl; kept = refl; ending = refl; items = refl }
same_one help_slot c s x v = record { calls = refl; input = refl; replies = refl; kept = refl; ending = refl; items = refl }

pub same_beside : (kinds : Kinds) (c i : ℕ) (given : List Word) (v : World) → SameBeside v (world_passed kinds c i given v)
same_beside kinds c i [] v = record { calls = refl; input = refl; replies = refl; kept = refl; ending = refl; items = refl }
same_beside kinds c i (x ∷ given) v =
    let one = same_one (kinds i) c i x v in
    let rest = same_beside kinds c (i + 1) given (int_passed_to (kinds i) c i x v) in
    record {
      calls = rest.calls ∙ one.calls;
      input = rest.input ∙ one.input;
      replies = rest.replies ∙ one.replies;
      kept = rest.kept ∙ one.kept;
      ending = rest.ending ∙ one.ending;
      items = rest.items ∙ one.items;
    }

pub number_beside : (kinds : Kinds) (c i : ℕ) (given : List Word) (v : World) → (world_passed kinds c i given v).last_number ≡ v.last_number
number_beside kinds c i given v = ap (λ (e : LinearExceptions). e.last_number) (same_beside kinds c i given v).kept

-- an int that is no variable of the new call stays
pub memory_beside : (kinds : Kinds) (c i : ℕ) (given : List Word) (v : World) (b : Address) → ((s : ℕ) → b.base ≡ of_variable c s → ⊥) → (world_passed kinds c i given v).memory b ≡ v.memory b
memory_beside kinds c i [] v b other = refl
memory_beside kinds c i (x ∷ given) v b other = memory_beside kinds c (i + 1) given (int_passed_to (kinds i) c i x v) b other ∙ one (kinds i) x
  where
    here : (y : ℤ) (t : Bool) → same_address (record { base = of_variable c i; offset = 0 }) b ≡ t → (if t then Some y else v.memory b) ≡ v.memory b
    here y false e = refl
    here y true e = absurd (other i (sym (ap (λ (a : Address). a.base) (address_is (record { base = of_variable c i; offset = 0 }) b e))))

    one : (k : SlotKind) (y : Word) → (int_passed_to k c i y v).memory b ≡ v.memory b
    one int_slot (number_word y) = here y (same_address (record { base = of_variable c i; offset = 0 }) b) refl
    one int_slot nothing = refl
    one int_slot (address_word a) = refl
    one int_slot (flying d t) = refl
    one int_slot (unwinding n) = refl
    one address_slot y = refl
    one object_slot y = refl
    one help_slot y = refl
