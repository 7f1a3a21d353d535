-- The lines of a text that are put, one after the other.
use Rattle.std.proofs.Common.{◌≡◌, ℕ, List, [], ◌∷◌, take, drop, ◌++◌, refl, ap, sym, subst, ◌∙◌, append_assoc, append-nil}
use Rattle.eh_outer.specs.Sink.{SinkView, Takes, Fails}
use Rattle.run_items.specs.Output.{TakesAll, FailsAmong}
use Rattle.run_items.proofs.Puts.{takes_none, takes_one, takes_more, fails_first, fails_more}
use Rattle.plain_text.specs.Lines.{lines_of, IsFirstLine}
use Rattle.plain_text.proofs.FirstLine.{lines_none}

-- the lines of a text up to a place went out
pub record LinesSoFar (text rest : List ℕ) (old new : SinkView) : Type 0 where
  pub lines : List (List ℕ)
  pub split : lines_of text ≡ lines ++ lines_of rest
  pub puts : TakesAll lines old new

pub no_lines : (text : List ℕ) (s : SinkView) → LinesSoFar text text s s
no_lines text s = record { lines = []; split = refl; puts = takes_none s }

-- with the next line
pub one_more : (text rest : List ℕ) (n : ℕ) (old mid new : SinkView) → LinesSoFar text rest old mid → IsFirstLine rest n → Takes (take n rest) mid new → LinesSoFar text (drop n rest) old new
one_more text rest n old mid new so_far parts took = record {
  lines = so_far.lines ++ take n rest ∷ [];
  split = so_far.split ∙ ap (λ ls. so_far.lines ++ ls) parts.lines ∙ sym (append_assoc so_far.lines (take n rest ∷ []) (lines_of (drop n rest)));
  puts = takes_more so_far.lines (take n rest ∷ []) old mid new so_far.puts (takes_one (take n rest) mid new took);
}

-- all of them
pub all_lines : (text rest : List ℕ) (old new : SinkView) → LinesSoFar text rest old new → rest ≡ [] → TakesAll (lines_of text) old new
all_lines text rest old new so_far none =
    let same : lines_of text ≡ so_far.lines = so_far.split ∙ ap (λ r. so_far.lines ++ lines_of r) none ∙ ap (λ ls. so_far.lines ++ ls) lines_none ∙ append-nil so_far.lines in
    subst (λ ls. TakesAll ls old new) (sym same) so_far.puts

-- the next line failed
pub next_fails : (text rest : List ℕ) (n : ℕ) (old mid new : SinkView) → LinesSoFar text rest old mid → IsFirstLine rest n → Fails (take n rest) mid new → FailsAmong (lines_of text) old new
next_fails text rest n old mid new so_far parts failed =
    let among = fails_first (take n rest) (lines_of (drop n rest)) mid new failed in
    let same = so_far.split ∙ ap (λ ls. so_far.lines ++ ls) parts.lines in
    subst (λ ls. FailsAmong ls old new) (sym same) (fails_more so_far.lines (take n rest ∷ lines_of (drop n rest)) old mid new so_far.puts among)
