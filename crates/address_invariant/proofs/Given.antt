-- What lies behind the addresses that are passed.
use Rattle.std.proofs.Common.{◌≡◌, refl, sym, ap, subst, arith, ℕ, zero, suc, ◌+◌, List, [], ◌∷◌, Option, Some, None, inl}
use Rattle.std.specs.Prelude.{ℤ, pos, slice_get}
use Rattle.region_forms.specs.Form.{Place, Kinds, Argument, int_argument, address_argument, handler_argument, Arguments, no_arguments, argument_then}
use Rattle.region_forms.specs.World.{Address, Word, nothing, number_word, address_word, Frame, World}
use Rattle.region_forms.specs.Evaluation.{Location, in_memory, in_frame, with_some, location_address, locate, address_of, value_in, word_in, words_in}
use Rattle.region_forms.specs.Effect.{new_frame}
use Rattle.linear_forms.specs.Linear.{UnitCode}
use Rattle.linear_forms.specs.Stub.{Function, compiled}
use Rattle.linear_forms.specs.Activation.{kinds}
use Rattle.linear_forms.specs.UnitRun.{code_of}
use Rattle.machine_simulation.proofs.Given.{slot_given}
use Rattle.address_bounds.specs.Rooms.{Reach, HasRoom}
use Rattle.address_bounds.specs.Reaches.{Needs, ArgumentReaches, ArgumentsReach}
use Rattle.address_invariant.specs.Extents.{Extents, LiesInside}
use Rattle.address_invariant.specs.Reaching.{reach_in, CallReaches, ObjectsReach}
use Rattle.address_invariant.proofs.Places.{none_there, slots_in, place_lies}
use Rattle.address_invariant.proofs.Following.{WordComes, FrameComes}

-- a location that has an address is in memory
pub located : (l : Option Location) (a : Address) → with_some l location_address ≡ Some a → l ≡ Some (in_memory a)
located (Some (in_memory b)) a e = ap (λ c. Some (in_memory c)) (cc e)
located (Some (in_frame s)) a e = cc e
located None a e = cc e

-- words that are passed for the slots from the i-th on
abbrev pub GivenComes : Extents → (v w : World) → Reach → ℕ → List Word → Type 0
GivenComes x v w wants i given = (j : ℕ) (word : Word) → slice_get given j ≡ Some word → WordComes x v w word (wants (i + j))

module _ (x : Extents) (u : UnitCode) (needs : Needs) (v : World) (f : Function) (frame : Frame) (objects : ObjectsReach x v) (call : CallReaches x u needs v f frame) where
  pub address_comes : (w : World) (q : Place) (n : ℕ) (a : Address) → HasRoom (reach_in needs f) (slots_in u f) q n → address_of (kinds (code_of u) f) frame q ≡ Some a → WordComes x v w (address_word a) n
  address_comes w q n a room e b is =
      let one : a ≡ b = cc is in
      inl (subst (λ c. LiesInside x v c n) one (place_lies x u needs v f frame objects call q n a room (located (locate (kinds (code_of u) f) frame q) a e)))

  argument_comes : (w : World) (a : Argument) (n : ℕ) (word : Word) → ArgumentReaches needs (reach_in needs f) (slots_in u f) n a → word_in (kinds (code_of u) f) frame v a ≡ Some word → WordComes x v w word n
  argument_comes w (int_argument z) n word h e = by (value_in (kinds (code_of u) f) frame v z) e
    where
      by : (t : Option ℤ) → with_some t (λ k. Some (number_word k)) ≡ Some word → WordComes x v w word n
      by None same = cc same
      by (Some k) same =
          let one : number_word k ≡ word = cc same in
          subst (λ d. WordComes x v w d n) one (λ b is. cc is)
  argument_comes w (handler_argument m) n word h e =
      let same : number_word (pos m) ≡ word = cc e in
      subst (λ d. WordComes x v w d n) same (λ b is. cc is)
  argument_comes w (address_argument q) n word h e = by (address_of (kinds (code_of u) f) frame q) refl e
    where
      by : (t : Option Address) → address_of (kinds (code_of u) f) frame q ≡ t → with_some t (λ a. Some (address_word a)) ≡ Some word → WordComes x v w word n
      by None is same = cc same
      by (Some a) is same =
          let one : address_word a ≡ word = cc same in
          subst (λ d. WordComes x v w d n) one (address_comes w q n a h is)

  pub words_come : (w : World) (args : Arguments) (wants : Reach) (i : ℕ) (given : List Word) → ArgumentsReach needs (reach_in needs f) (slots_in u f) wants i args →
      words_in (kinds (code_of u) f) frame v args ≡ Some given → GivenComes x v w wants i given
  words_come w no_arguments wants i given h e = λ j word there.
      let same : [] ≡ given = cc e in
      none_there j word (subst (λ g. slice_get g j ≡ Some word) (sym same) there)
  words_come w (argument_then a args) wants i given h e =
      by (words_come w args wants (i + 1)) (word_in (kinds (code_of u) f) frame v a) refl (words_in (kinds (code_of u) f) frame v args) refl e
    where
      by : ((ys : List Word) → ArgumentsReach needs (reach_in needs f) (slots_in u f) wants (i + 1) args → words_in (kinds (code_of u) f) frame v args ≡ Some ys → GivenComes x v w wants (i + 1) ys) →
          (t : Option Word) → word_in (kinds (code_of u) f) frame v a ≡ t → (ts : Option (List Word)) → words_in (kinds (code_of u) f) frame v args ≡ ts →
          with_some t (λ y. with_some ts (λ ys. Some (y ∷ ys))) ≡ Some given → GivenComes x v w wants i given
      by later None one ts all same = cc same
      by later (Some y) one None all same = cc same
      by later (Some y) one (Some ys) all same = let whole : y ∷ ys ≡ given = cc same in subst (λ g. GivenComes x v w wants i g) whole both
        where
          both : GivenComes x v w wants i (y ∷ ys)
          both zero word there =
              let first : y ≡ word = cc there in
              let count : i ≡ i + 0 = omega arith in
              subst (λ k. WordComes x v w word (wants k)) count (subst (λ d. WordComes x v w d (wants i)) first (argument_comes w a (wants i) y h.0 one))
          both (suc j) word there =
              let count : i + 1 + j ≡ i + suc j = omega arith in
              subst (λ k. WordComes x v w word (wants k)) count (later ys h.1 all j word there)

-- the frame of a call that begins
pub new_frame_comes : (x : Extents) (needs : Needs) (v w : World) (n : ℕ) (kinds : Kinds) (given : List Word) (u : World) → GivenComes x v w (needs n) 0 given → FrameComes x needs v w (compiled n) (new_frame kinds given u)
new_frame_comes x needs v w n kinds given u comes s =
    slot_given kinds 0 given (record { call = u.calls; slots = λ s. nothing }) s (λ word. WordComes x v w word (needs n s))
    (λ j word there same other. subst (λ k. WordComes x v w word (needs n k)) (sym same) (comes j word there)) (λ b e. cc e)
