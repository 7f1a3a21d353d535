-- What a module answers that is called with two ints.
use Rattle.std.proofs.Common.{◌≡◌, ◌∙◌, refl, sym, ap, subst, ℕ, zero, suc, ◌+◌, ◌⊎◌, inl, inr, ℤ, pos, negsuc, Bool, true, false, List, [], ◌∷◌, slice_set, Option, Some, None, if◌then◌else◌}
use Rattle.std.specs.Prelude.{slice_get}
use Rattle.std.specs.List.{AllByRecursion}
use Rattle.eh_outer.specs.Domain.{RepliesAreInts}
use Rattle.eh_outer.specs.declared.module.Reply.{Reply}
use Rattle.eh_outer.specs.declared.module.Reply.TheVariants.{Value as ValueReply, Raise}
use Rattle.run_items.specs.declared.item.Item.TheVariants.{Foreign}
use Rattle.region_forms.specs.Form.{Kinds, Place, Value, int_argument, no_arguments, argument_then}
use Rattle.region_forms.specs.World.{Word, number_word, Frame, World, foreign, with_item}
use Rattle.region_forms.specs.Evaluation.{value_in, with_some, words_in}
use Rattle.region_forms.specs.Effect.{raises, terminates, is_full, with_new, finished, replied, module_called}
use Rattle.machine_pieces.specs.Numbers.{IsInt}
use Rattle.machine_exceptions.specs.Answers.{both_ints, answer_in, answer_of}
use Rattle.compiled_runs.proofs.Starting.{given_int}
use Rattle.step_law.proofs.Settling.{SameBeside, unchanged}

-- the replies of one module can be given
fit_at : (xs : List (List Reply)) (i : ℕ) (y : List Reply) → AllByRecursion RepliesAreInts xs → slice_get xs i ≡ Some y → RepliesAreInts y
fit_at [] i y h e = absurd (cc e)
fit_at (x ∷ xs) zero y h e = let same : x ≡ y = cc e in subst RepliesAreInts same h.0
fit_at (x ∷ xs) (suc i) y h e = fit_at xs i y h.1 e

-- two ints that are passed have values
pub record TwoValues (ks : Kinds) (f : Frame) (w : World) (v u : Value) (given : List Word) : Type 0 where
  pub first : ℤ
  pub second : ℤ
  pub first_is : value_in ks f w v ≡ Some first
  pub second_is : value_in ks f w u ≡ Some second
  pub are : given ≡ number_word first ∷ number_word second ∷ []

pub two_values : (ks : Kinds) (f : Frame) (w : World) (v u : Value) (given : List Word) → words_in ks f w (both_ints v u) ≡ Some given → TwoValues ks f w v u given
two_values ks f w v u given e = by (value_in ks f w v) refl e
  where
    second_by : (z : ℤ) (o : Option ℤ) → value_in ks f w v ≡ Some z → value_in ks f w u ≡ o →
        with_some (with_some (with_some o (λ y. Some (number_word y))) (λ word. Some (word ∷ []))) (λ words. Some (number_word z ∷ words)) ≡ Some given → TwoValues ks f w v u given
    second_by z None is also got = absurd (cc got)
    second_by z (Some y) is also got = let same : number_word z ∷ number_word y ∷ [] ≡ given = cc got in record { first = z; second = y; first_is = is; second_is = also; are = sym same }

    by : (o : Option ℤ) → value_in ks f w v ≡ o → with_some (with_some o (λ y. Some (number_word y))) (λ word. with_some (words_in ks f w (argument_then (int_argument u) no_arguments)) (λ words. Some (word ∷ words))) ≡ Some given → TwoValues ks f w v u given
    by None is got = absurd (cc got)
    by (Some z) is got = second_by z (value_in ks f w u) is refl got

module _ (ks : Kinds) (wants : Option Place) (frame : Frame) (world : World) where
  -- a module has so many replies left
  abbrev pub left_to : (k : ℕ) (left : List Reply) → World
  left_to k left = record world { replies = slice_set world.replies k left }

  -- it answers with a value
  pub record AnswersWith (z : ℤ) : Type 0 where
    pub value : ℤ
    pub behind : World
    pub replies : List (List Reply)
    pub does : module_called ks wants z frame world ≡ finished ks wants value frame behind
    pub beside : SameBeside world behind
    pub live : behind.live ≡ world.live
    pub items : behind.items ≡ world.items
    pub answer : answer_of z world.replies ≡ Some (value, replies)
    pub int : IsInt value

  abbrev pub raised_in : (k token : ℕ) (left : List Reply) → World
  raised_in k token left = with_item (Foreign (world.last_number + 1) k token) (with_new (foreign k token) (left_to k left))

  -- it raises, and there is room for an exception
  pub record RaisesFor (z : ℤ) : Type 0 where
    pub k : ℕ
    pub token : ℕ
    pub left : List Reply
    pub number : z ≡ pos k
    pub reply : slice_get world.replies k ≡ Some (Raise token ∷ left)
    pub room : is_full world ≡ false
    pub does : module_called ks wants z frame world ≡ raises (world.last_number + 1) (raised_in k token left)

  -- or there is none
  pub record IsRefused (z : ℤ) : Type 0 where
    pub k : ℕ
    pub token : ℕ
    pub left : List Reply
    pub number : z ≡ pos k
    pub reply : slice_get world.replies k ≡ Some (Raise token ∷ left)
    pub full : is_full world ≡ true
    pub does : module_called ks wants z frame world ≡ terminates world.installed.terminate_handler (left_to k left)

  abbrev pub Answer : ℤ → Type 0
  Answer z = AnswersWith z ⊎ RaisesFor z ⊎ IsRefused z

  -- no reply is left
  answers_zero : (z : ℤ) → module_called ks wants z frame world ≡ finished ks wants (pos 0) frame world → answer_of z world.replies ≡ Some (pos 0, world.replies) → AnswersWith z
  answers_zero z does answer =
      record { value = pos 0; behind = world; replies = world.replies; does = does; beside = unchanged world; live = refl; items = refl; answer = answer; int = refl }

  raised_answer : (k token : ℕ) (left : List Reply) → slice_get world.replies k ≡ Some (Raise token ∷ left) → (b : Bool) → is_full world ≡ b → Answer (pos k)
  raised_answer k token left is b full = by b full
    where
      raises_or : Bool → Type 0
      raises_or c =
          module_called ks wants (pos k) frame world ≡ (if c then terminates world.installed.terminate_handler (left_to k left) else raises (world.last_number + 1) (raised_in k token left))

      does : (c : Bool) → is_full world ≡ c → raises_or c
      does c full =
          ap (λ y. replied ks wants k y frame world) is
          ∙ ap (λ c. if c then terminates world.installed.terminate_handler (left_to k left) else raises (world.last_number + 1) (raised_in k token left)) full

      by : (c : Bool) → is_full world ≡ c → Answer (pos k)
      by true full = inr (inr (record { k = k; token = token; left = left; number = refl; reply = is; full = full; does = does true full }))
      by false room = inr (inl (record { k = k; token = token; left = left; number = refl; reply = is; room = room; does = does false room }))

  module _ (fit : AllByRecursion RepliesAreInts world.replies) where
    reply_answer : (k : ℕ) (ys : Option (List Reply)) → slice_get world.replies k ≡ ys → Answer (pos k)
    reply_answer k None is = inl (answers_zero (pos k) (ap (λ y. replied ks wants k y frame world) is) (ap (λ y. answer_in k world.replies y) is))
    reply_answer k (Some []) is = inl (answers_zero (pos k) (ap (λ y. replied ks wants k y frame world) is) (ap (λ y. answer_in k world.replies y) is))
    reply_answer k (Some (ValueReply y ∷ left)) is = inl (record {
      value = y;
      behind = left_to k left;
      replies = slice_set world.replies k left;
      does = ap (λ y. replied ks wants k y frame world) is;
      beside = record { calls = refl; deepest = refl; ending = refl; last = refl; caught = refl };
      live = refl;
      items = refl;
      answer = ap (λ y. answer_in k world.replies y) is;
      int = given_int y (fit_at world.replies k (ValueReply y ∷ left) fit is).0;
    })
    reply_answer k (Some (Raise token ∷ left)) is = raised_answer k token left is (is_full world) refl

    pub answer_for : (z : ℤ) → Answer z
    answer_for (negsuc k) = inl (answers_zero (negsuc k) refl refl)
    answer_for (pos k) = reply_answer k (slice_get world.replies k) refl
